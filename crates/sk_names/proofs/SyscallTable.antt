-- No number and no name stands in the table twice: each call is found by its own, and no other.
use Rattle.std.proofs.lemmas.Slice.Eq.{bytes_eq-Decides}
use Rattle.std.specs.Str.{bytes_eq}
use Rattle.std.proofs.Common.{◌≡◌, ◌∙◌, ℕ, ◌==◌, ap, sym, refl, Bool, true, List, [], ◌∷◌, Some}
use Rattle.std.specs.Prelude.{find}
use Rattle.std.specs.Option.{is_some, option_map_or}
use Rattle.std.proofs.lemmas.Bool.{false≢true, eqb-true, cond_both}
use Rattle.sk_names.specs.declared.syscall.Syscall.{Syscall}
use Rattle.sk_names.specs.declared.syscall.Syscall.TheVariants as syscall
use Rattle.sk_names.specs.Syscalls.{syscalls, number_of, name_of, syscall_of, syscall_named}

pub syscall_of-number_of : (call : Syscall) → syscall_of (number_of call) ≡ Some call
syscall_of-number_of syscall.RtSigaction = refl
syscall_of-number_of syscall.RtSigprocmask = refl
syscall_of-number_of syscall.RtSigreturn = refl
syscall_of-number_of syscall.SchedYield = refl
syscall_of-number_of syscall.Pause = refl
syscall_of-number_of syscall.Getpid = refl
syscall_of-number_of syscall.Fork = refl
syscall_of-number_of syscall.Execve = refl
syscall_of-number_of syscall.Exit = refl
syscall_of-number_of syscall.Wait4 = refl
syscall_of-number_of syscall.Kill = refl
syscall_of-number_of syscall.Getuid = refl
syscall_of-number_of syscall.Setuid = refl
syscall_of-number_of syscall.Geteuid = refl
syscall_of-number_of syscall.Setpgid = refl
syscall_of-number_of syscall.Getppid = refl
syscall_of-number_of syscall.Getpgrp = refl
syscall_of-number_of syscall.Setsid = refl
syscall_of-number_of syscall.Setresuid = refl
syscall_of-number_of syscall.Getresuid = refl
syscall_of-number_of syscall.Getpgid = refl
syscall_of-number_of syscall.Getsid = refl
syscall_of-number_of syscall.RtSigpending = refl
syscall_of-number_of syscall.Prctl = refl
syscall_of-number_of syscall.ExitGroup = refl
syscall_of-number_of syscall.Seccomp = refl

pub syscall_named-name_of : (call : Syscall) → syscall_named (name_of call) ≡ Some call
syscall_named-name_of syscall.RtSigaction = refl
syscall_named-name_of syscall.RtSigprocmask = refl
syscall_named-name_of syscall.RtSigreturn = refl
syscall_named-name_of syscall.SchedYield = refl
syscall_named-name_of syscall.Pause = refl
syscall_named-name_of syscall.Getpid = refl
syscall_named-name_of syscall.Fork = refl
syscall_named-name_of syscall.Execve = refl
syscall_named-name_of syscall.Exit = refl
syscall_named-name_of syscall.Wait4 = refl
syscall_named-name_of syscall.Kill = refl
syscall_named-name_of syscall.Getuid = refl
syscall_named-name_of syscall.Setuid = refl
syscall_named-name_of syscall.Geteuid = refl
syscall_named-name_of syscall.Setpgid = refl
syscall_named-name_of syscall.Getppid = refl
syscall_named-name_of syscall.Getpgrp = refl
syscall_named-name_of syscall.Setsid = refl
syscall_named-name_of syscall.Setresuid = refl
syscall_named-name_of syscall.Getresuid = refl
syscall_named-name_of syscall.Getpgid = refl
syscall_named-name_of syscall.Getsid = refl
syscall_named-name_of syscall.RtSigpending = refl
syscall_named-name_of syscall.Prctl = refl
syscall_named-name_of syscall.ExitGroup = refl
syscall_named-name_of syscall.Seccomp = refl

-- what is found passes the test
found_passes : {X : Type 0} (p : X → Bool) (xs : List X) (x : X) → find p xs ≡ Some x → p x ≡ true
found_passes p [] x found = absurd (false≢true (ap is_some found))
found_passes p (y ∷ xs) x found =
    cond_both (p y) (Some y) (find p xs) (λ o. o ≡ Some x → p x ≡ true)
    (λ passes e. ap p (sym (ap (λ o. option_map_or (λ z. z) o y) e)) ∙ passes)
    (λ _. found_passes p xs x)
    found

-- a number for which a call is found is the call's own
pub number_of-syscall_of : (nr : ℕ) (call : Syscall) → syscall_of nr ≡ Some call → nr ≡ number_of call
number_of-syscall_of nr call found = eqb-true nr (number_of call) (found_passes (λ c. nr == number_of c) syscalls call found)

-- a name for which a call is found is the call's own
pub name_of-syscall_named : (name : List ℕ) (call : Syscall) → syscall_named name ≡ Some call → name_of call ≡ name
name_of-syscall_named name call found = (bytes_eq-Decides (name_of call) name).0 (found_passes (λ c. bytes_eq (name_of c) name) syscalls call found)
