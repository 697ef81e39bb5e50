-- Worked examples of constants: masks that have them, that lack them, in the lower half, and in part; numbers with a field, and 0;
-- an argument that another one decides; and what stays a number.
use Rattle.std.specs.Prelude.{ℕ, ◌≡◌, List, ◌∷◌, [], true, Some, None, codes}
use Rattle.sk_terms.specs.declared.lines.Line.{Line}
use Rattle.sk_terms.specs.declared.term.Register.TheVariants.{Argument}
use Rattle.sk_terms.specs.declared.term.Term.{Term}
use Rattle.sk_terms.specs.Known.{nothing_known}
use Rattle.sk_terms.specs.Text.{argument_text, condition_text, term_text, terms_text}
use Rattle.sk_terms.specs.WorkedLines.{terms_of}
use Rattle.sk_terms.specs.WorkedTerms.{asking, linux, no_namespaces}

-- some bits of an argument are a number
abbrev pub is : ℕ → ℕ → ℕ → Term
is i mask n = record { register = Argument i; mask = mask; first = n; last = n; inside = true }

abbrev pub all : ℕ
all = 0xffffffffffffffff

-- clone, socket, ioctl, openat, personality, memfd_create and getpid
abbrev pub by : ℕ → Term → List ℕ
by nr term = term_text (Some nr) term

-- two choices of one term
abbrev pub both : Term → Term → List (List Term)
both one other = (one ∷ []) ∷ (other ∷ []) ∷ []

abbrev pub socket : List ℕ
socket = 16 ∷ 0x80003 ∷ 9 ∷ 0x100000003 ∷ 0 ∷ 0 ∷ []

pub record ConstantsWork : Type 0 where
  pub clone : by 56 no_namespaces ≡ codes "(args[0] & (CLONE_NEWNS|CLONE_NEWCGROUP|CLONE_NEWUTS|CLONE_NEWIPC|CLONE_NEWUSER|CLONE_NEWPID|CLONE_NEWNET)) == 0"
  pub clone_of_no_call : term_text None no_namespaces ≡ codes "(args[0] & 0x7e020000) == 0"
  pub clone_of_another : by 39 no_namespaces ≡ codes "(args[0] & 0x7e020000) == 0"
  pub one_bit : by 56 (is 0 0x10000000 0x10000000) ≡ codes "(args[0] & CLONE_NEWUSER) == CLONE_NEWUSER"
  pub in_part : by 56 (is 0 0x30000100000000 0x100000000) ≡ codes "(args[0] & 0x30000100000000) == 0x100000000"
  pub mostly : by 56 (is 0 0x60020001 0x20000) ≡ codes "(args[0] & (CLONE_NEWNS|CLONE_NEWPID|CLONE_NEWNET|0x1)) == CLONE_NEWNS"
  pub signal : by 56 (is 0 0x7e0200ff 0x20011) ≡ codes "(args[0] & 0x7e0200ff) == (SIGCHLD|CLONE_NEWNS)"
  pub bit_31 : by 56 (is 0 0xffffffff7fffffff 0x100) ≡ codes "(args[0] & 0xffffffff7fffffff) == CLONE_VM"
  pub socket_type : (line : Line) → terms_of line ≡ both (is 0 all 2) (is 1 0xfffffffffff7f7ff 2)
      → condition_text (Some 41) line ≡ codes "args[0] == AF_INET && (args[1] & ~(SOCK_NONBLOCK|SOCK_CLOEXEC)) == SOCK_DGRAM"
  pub in_half : by 41 (is 1 0xfff7f7ff 1) ≡ codes "(args[1] & 0xffffffff & ~(SOCK_NONBLOCK|SOCK_CLOEXEC)) == SOCK_STREAM"
  pub unsigned : by 319 (is 1 0xfffffffffffffffc 0) ≡ codes "(args[1] & 0xfffffffffffffffc) == 0"
  pub unsigned_in_half : by 319 (is 1 0xfffffffc 0) ≡ codes "(args[1] & 0xffffffff & ~(MFD_CLOEXEC|MFD_ALLOW_SEALING)) == 0"
  pub unspecified : by 41 (is 0 0xffffffff 0) ≡ codes "(args[0] & 0xffffffff) == AF_UNSPEC"
  pub half : by 41 (is 0 0xffffffff00000000 0) ≡ codes "(args[0] & 0xffffffff00000000) == 0"
  pub few_bits : by 41 (is 0 0x3f 2) ≡ codes "(args[0] & 0x3f) == 0x2"
  pub bound : by 41 (record (is 0 all 0) { last = 2 }) ≡ codes "args[0] <= 0x2"
  pub netlink : (line : Line) → terms_of line ≡ both (is 0 0xffffffff 16) (is 2 all 9)
      → condition_text (Some 41) line ≡ codes "(args[0] & 0xffffffff) == AF_NETLINK && args[2] == NETLINK_AUDIT"
  pub internet : (line : Line) → terms_of line ≡ both (is 0 all 2) (is 2 all 17)
      → condition_text (Some 41) line ≡ codes "args[0] == AF_INET && args[2] == IPPROTO_UDP"
  pub unknown : by 41 (is 2 all 17) ≡ codes "args[2] == 0x11"
  pub terminal : by 16 (is 1 all 0x5412) ≡ codes "args[1] == TIOCSTI"
  pub personality : terms_text (nothing_known (Some 135)) (linux ∷ is 0 all 0x20008 ∷ asking ∷ [])
      ≡ codes "args[0] == 0 || args[0] == (PER_LINUX32|UNAME26) || args[0] == 0xffffffff"
  pub reading : by 257 (is 2 3 0) ≡ codes "(args[2] & O_ACCMODE) == O_RDONLY"
  pub field_cut : by 257 (is 2 1 1) ≡ codes "(args[2] & 0x1) == 0x1"
  pub not_creating : by 257 (is 2 0x40 0) ≡ codes "(args[2] & O_CREAT) == 0"
  pub synchronous : by 257 (is 2 all 0x101041) ≡ codes "args[2] == (O_WRONLY|O_SYNC|O_CREAT)"
  pub not_synchronous : by 257 (is 2 0x100040 0x100040) ≡ codes "(args[2] & (O_CREAT|0x100000)) == (O_CREAT|0x100000)"
  pub family : argument_text (Some 41) socket 0 ≡ codes ", AF_NETLINK"
  pub kind : argument_text (Some 41) socket 1 ≡ codes ", SOCK_RAW|SOCK_CLOEXEC"
  pub protocol : argument_text (Some 41) socket 2 ≡ codes ", NETLINK_AUDIT"
  pub no_argument : argument_text (Some 41) socket 3 ≡ codes ", 0x100000003"
  pub nothing : argument_text (Some 41) socket 4 ≡ codes ", 0x0"
  pub family_alone : argument_text None socket 0 ≡ codes ", 0x10"
