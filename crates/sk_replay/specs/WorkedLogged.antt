-- The numbers of the calls of logs, worked out by hand: read(2) is 0 on x86-64, write(2) 1, getpid(2) 39 and exit_group(2) 231.
use Rattle.std.specs.Prelude.{◌≡◌, true, false, [], ◌∷◌, codes}
use Rattle.sk_text.specs.Lines.{lines_of}
use Rattle.sk_names.specs.declared.architecture.Architecture.TheVariants as architecture
use Rattle.sk_replay.specs.Logged.{calls_in, is_made, numbers_in}

pub record WorkedLogged : Type 0 where
  pub rising : numbers_in architecture.X86_64 (codes "9 exit_group(0) = 0x1\n9 write(0x1, 0, 0) = 0\n9 getpid() = 0x9\n" ∷ []) ≡ 1 ∷ 39 ∷ 231 ∷ []
  pub once : numbers_in architecture.X86_64 (codes "9 getpid() = 0x9\n9 write(0x1, 0, 0) = 0\n9 getpid() = 0x9\n" ∷ []) ≡ 1 ∷ 39 ∷ []
  pub of_all : numbers_in architecture.X86_64 (codes "9 getpid() = 0x9\n" ∷ codes "9 read(0, 0, 0) = 0\n9 getpid() = 0x9\n" ∷ []) ≡ 0 ∷ 39 ∷ []
  pub without_a_name : numbers_in architecture.X86_64 (codes "9 syscall_0x400(0) = 0\n" ∷ []) ≡ 1024 ∷ []
  pub no_calls : numbers_in architecture.X86_64 (codes "9 +++ exited with 0 +++\n9 getbit(0) = 0\n" ∷ []) ≡ []
  pub counted : calls_in architecture.X86_64 (lines_of (codes "9 getpid() = 0x9\n9 getpid() = 0x9\n9 +++ exited with 0 +++\n")) ≡ 2
  pub made : is_made architecture.X86_64 39 (codes "9 read(0, 0, 0) = 0\n" ∷ codes "9 getpid() = 0x9\n" ∷ []) ≡ true
  pub not_made : is_made architecture.X86_64 40 (codes "9 read(0, 0, 0) = 0\n" ∷ codes "9 getpid() = 0x9\n" ∷ []) ≡ false
  pub mixed :
      numbers_in architecture.X86_64 (codes "9 getpid() = 0x9\naudit: type=1326 audit(1.2:3): arch=c000003e syscall=1 code=0x0\n" ∷ [])
      ≡ 1 ∷ 39 ∷ []
