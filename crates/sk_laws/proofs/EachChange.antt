-- What holds of each change that performed calls make to what their caller may do, so that a law goes through four cases
-- and not through each call.
use Rattle.std.proofs.Common.{◌≡◌, ℕ, ◌+◌, ◌==◌, ◌&&◌, refl, not, true, false, nat_lt, length, IfOk, List, [], ◌∷◌, Option, None, Some, Result, Ok, Err}
use Rattle.sk_laws.specs.Common.{is_some, result_unwrap_or, Insn, Record, first_fault, cost_of, Errno, Eperm, Enomem, Eacces, Einval, Creds, Mark, PrctlOption, SeccompOperation, Syscall, Images, filter_image, mark_of, syscall_of, register, unsigned, prctl_option_of, seccomp_operation_of, Authority, filter_of, filtered, after_attach, with_creds, after_execve, after_no_new_privs, after_set_seccomp, after_prctl, after_seccomp, authority_after, authority_after_call, authority_after_calls}
use Rattle.sk_world.proofs.Common.{cond_both}
use Rattle.sk_world.specs.declared.creds.TheConstants.{NO_ID}
use Rattle.sk_world.specs.Creds.{is_privileged, is_real_or_saved, may_take, after_setuid, after_setresuid}
use Rattle.sk_machine.specs.declared.operation.PrctlOption.TheVariants as option
use Rattle.sk_machine.specs.declared.operation.SeccompOperation.TheVariants as operation

-- ids change, and no_new_privs does not
abbrev KeepsMark : Creds → Creds → Type 0
KeepsMark old new = new.no_new_privs ≡ old.no_new_privs

setuid_keeps : (id : ℕ) (c : Creds) → IfOk (after_setuid id c) (KeepsMark c)
setuid_keeps id c =
    cond_both (id == NO_ID) (Err Einval) _ (λ r. IfOk r (KeepsMark c)) (λ _. tt)
    (λ _. cond_both (is_privileged c) (Ok (record c { real = id; effective = id; saved = id })) _ (λ r. IfOk r (KeepsMark c)) (λ _. refl)
    (λ _. cond_both (is_real_or_saved id c) (Ok (record c { effective = id })) (Err Eperm) (λ r. IfOk r (KeepsMark c)) (λ _. refl) (λ _. tt)))

setresuid_keeps : (real effective saved : ℕ) (c : Creds) → IfOk (after_setresuid real effective saved c) (KeepsMark c)
setresuid_keeps real effective saved c =
    cond_both (may_take real c && may_take effective c && may_take saved c) _ (Err Eperm) (λ r. IfOk r (KeepsMark c)) (λ _. refl) (λ _. tt)

-- so it stands between what was and what is
pub record Changes (P : Authority → Authority → Type 0) : Type 0 where
  pub stays : (a : Authority) → P a a
  pub ids : (a : Authority) (creds : Creds) → KeepsMark a.creds creds → P a (record a { creds = creds })
  pub marks : (a : Authority) → P a (record a { creds = record a.creds { no_new_privs = true } })
  pub attaches : (a : Authority) (insns : List Insn) → is_some (first_fault insns) ≡ false → nat_lt 32768 (length insns + cost_of a.filters) ≡ false
      → P a (record a { filters = insns ∷ a.filters })
  pub follows : (a b c : Authority) → P a b → P b c → P a c

module _ (P : Authority → Authority → Type 0) (each : Changes P) (declared : Images) where
  each_creds : (a : Authority) (r : Result Creds Errno) → IfOk r (KeepsMark a.creds) → IfOk (with_creds a r) (P a)
  each_creds a (Ok c) kept = each.ids a c kept
  each_creds a (Err e) kept = tt

  each_filtered : (a : Authority) (r : Result (List Insn) Errno) → IfOk (filtered a r) (P a)
  each_filtered a (Ok insns) =
      cond_both (not (is_privileged a.creds) && not a.creds.no_new_privs) (Err Eacces) _ (λ r. IfOk r (P a)) (λ _. tt)
      (λ _. cond_both (is_some (first_fault insns)) (Err Einval) _ (λ r. IfOk r (P a)) (λ _. tt)
      (λ sound. cond_both (nat_lt 32768 (length insns + cost_of a.filters)) (Err Enomem) (Ok (record a { filters = insns ∷ a.filters })) (λ r. IfOk r (P a)) (λ _. tt)
      (λ fits. each.attaches a insns sound fits)))
  each_filtered a (Err e) = tt

  each_attach : (flags image : ℕ) (a : Authority) → IfOk (after_attach declared flags image a) (P a)
  each_attach flags image a =
      cond_both (not (flags == 0)) (Err Einval) _ (λ r. IfOk r (P a)) (λ _. tt) (λ _. each_filtered a (filter_of (filter_image declared image)))

  each_execve : (a : Authority) (o : Option Mark) → IfOk (after_execve a o) (P a)
  each_execve a None = tt
  each_execve a (Some mark) = each.ids a _ refl

  each_no_new_privs : (call : Record) (a : Authority) → IfOk (after_no_new_privs call a) (P a)
  each_no_new_privs call a =
      cond_both ((register call 1 == 1) && (register call 2 == 0) && (register call 3 == 0) && (register call 4 == 0)) (Ok (record a { creds = record a.creds { no_new_privs = true } })) (Err Einval) (λ r. IfOk r (P a))
      (λ _. each.marks a) (λ _. tt)

  each_set_seccomp : (call : Record) (a : Authority) → IfOk (after_set_seccomp declared call a) (P a)
  each_set_seccomp call a =
      cond_both (register call 1 == 2) (after_attach declared 0 (register call 2) a) (Err Einval) (λ r. IfOk r (P a)) (λ _. each_attach 0 (register call 2) a) (λ _. tt)

  each_prctl : (which : Option PrctlOption) (call : Record) (a : Authority) → IfOk (after_prctl declared which call a) (P a)
  each_prctl (Some option.SetNoNewPrivs) call a = each_no_new_privs call a
  each_prctl (Some option.SetSeccomp) call a = each_set_seccomp call a
  each_prctl other call a = each.stays a

  each_seccomp : (which : Option SeccompOperation) (call : Record) (a : Authority) → IfOk (after_seccomp declared which call a) (P a)
  each_seccomp (Some operation.SetModeFilter) call a = each_attach (unsigned call 1) (register call 2) a
  each_seccomp other call a = each.stays a

  each_row : (which : Option Syscall) (call : Record) (a : Authority) → IfOk (authority_after declared which call a) (P a)
  each_row (Some Syscall.Setuid) call a = each_creds a (after_setuid (unsigned call 0) a.creds) (setuid_keeps (unsigned call 0) a.creds)
  each_row (Some Syscall.Setresuid) call a =
      each_creds a (after_setresuid (unsigned call 0) (unsigned call 1) (unsigned call 2) a.creds) (setresuid_keeps (unsigned call 0) (unsigned call 1) (unsigned call 2) a.creds)
  each_row (Some Syscall.Execve) call a = each_execve a (mark_of declared (register call 0))
  each_row (Some Syscall.Prctl) call a = each_prctl (prctl_option_of (unsigned call 0)) call a
  each_row (Some Syscall.Seccomp) call a = each_seccomp (seccomp_operation_of (unsigned call 0)) call a
  each_row other call a = each.stays a

  or_stays : (a : Authority) (r : Result Authority Errno) → IfOk r (P a) → P a (result_unwrap_or r a)
  or_stays a (Ok b) changes = changes
  or_stays a (Err e) changes = each.stays a

  pub after_calls : (calls : List Record) (a : Authority) → P a (authority_after_calls declared calls a)
  after_calls [] a = each.stays a
  after_calls (call ∷ calls) a =
      let next : Authority = result_unwrap_or (authority_after_call declared call a) a in
      each.follows a next (authority_after_calls declared calls next)
      (or_stays a (authority_after_call declared call a) (each_row (syscall_of call.nr) call a)) (after_calls calls next)
