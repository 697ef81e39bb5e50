-- Ids and errors that are worked out by hand.
use Rattle.std.specs.Prelude.{◌≡◌, ℕ, true, false, [], ◌∷◌, map, Ok, Err}
use Rattle.sk_world.specs.declared.errno.Errno.TheVariants.{Eperm, Enoent, Esrch, Eintr, Echild, Eagain, Enomem, Eacces, Efault, Einval, Enosys, Eopnotsupp}
use Rattle.sk_world.specs.declared.creds.Creds.{Creds}
use Rattle.sk_world.specs.declared.creds.TheConstants.{NO_ID}
use Rattle.sk_world.specs.Creds.{after_setuid, after_setresuid, after_exec, may_signal}
use Rattle.sk_world.specs.Errno.{number_of}

-- a process with these ids, which execve(2) may give new ones
abbrev pub ids : ℕ → ℕ → ℕ → Creds
ids real effective saved = record { real = real; effective = effective; saved = saved; no_new_privs = false }

-- the same under no_new_privs
abbrev pub bound : ℕ → ℕ → ℕ → Creds
bound real effective saved = record { real = real; effective = effective; saved = saved; no_new_privs = true }

-- setuid(2)
pub record WorkedSetuid : Type 0 where
  pub privileged : after_setuid 5 (ids 0 0 0) ≡ Ok (ids 5 5 5)
  -- the effective id alone makes a process privileged
  pub privileged_by_effective : after_setuid 5 (ids 1000 0 1000) ≡ Ok (ids 5 5 5)
  pub not_by_real : after_setuid 5 (ids 0 1000 1000) ≡ Err Eperm
  pub to_real : after_setuid 1000 (ids 1000 1001 1002) ≡ Ok (ids 1000 1000 1002)
  pub to_saved : after_setuid 1002 (ids 1000 1001 1002) ≡ Ok (ids 1000 1002 1002)
  -- its effective id is not among those that it may take
  pub not_to_effective : after_setuid 1001 (ids 1000 1001 1002) ≡ Err Eperm
  pub no_id : after_setuid NO_ID (ids 0 0 0) ≡ Err Einval
  pub no_id_first : after_setuid NO_ID (ids 1000 1000 1000) ≡ Err Einval
  pub stays_bound : after_setuid 5 (bound 0 0 0) ≡ Ok (bound 5 5 5)

-- setresuid(2)
pub record WorkedSetresuid : Type 0 where
  pub each : after_setresuid 1 2 3 (ids 0 0 0) ≡ Ok (ids 1 2 3)
  pub one_alone : after_setresuid NO_ID 5 NO_ID (ids 0 0 0) ≡ Ok (ids 0 5 0)
  pub none : after_setresuid NO_ID NO_ID NO_ID (ids 1000 1001 1002) ≡ Ok (ids 1000 1001 1002)
  -- each of the three ids may be taken for each
  pub changes_places : after_setresuid 1001 1002 1000 (ids 1000 1001 1002) ≡ Ok (ids 1001 1002 1000)
  pub real_refused : after_setresuid 5 1001 1002 (ids 1000 1001 1002) ≡ Err Eperm
  pub effective_refused : after_setresuid NO_ID 0 NO_ID (ids 1000 1001 1002) ≡ Err Eperm
  pub saved_refused : after_setresuid 1000 1001 5 (ids 1000 1001 1002) ≡ Err Eperm

-- execve(2), by the program's owner and its set-user-ID bit
pub record WorkedExec : Type 0 where
  pub plain : after_exec 9 false (ids 1000 1001 1002) ≡ ids 1000 1001 1001
  pub set_user_id : after_exec 9 true (ids 1000 1001 1002) ≡ ids 1000 9 9
  pub under_no_new_privs : after_exec 9 true (bound 1000 1001 1002) ≡ bound 1000 1001 1001
  -- a privileged process that runs a user's program is that user's in effect
  pub owner_is_user : after_exec 1000 true (ids 0 0 0) ≡ ids 0 1000 1000

-- kill(2), by the sender's ids and the target's
pub record WorkedPermission : Type 0 where
  pub privileged : may_signal (ids 5 0 5) (ids 1000 1000 1000) ≡ true
  pub not_by_real_zero : may_signal (ids 0 5 5) (ids 1000 1000 1000) ≡ false
  pub real_to_real : may_signal (ids 1000 5 5) (ids 1000 7 7) ≡ true
  pub real_to_saved : may_signal (ids 1000 5 5) (ids 7 7 1000) ≡ true
  pub effective_to_real : may_signal (ids 5 1000 5) (ids 1000 7 7) ≡ true
  pub effective_to_saved : may_signal (ids 5 1000 5) (ids 7 7 1000) ≡ true
  -- the target's effective id and the sender's saved one do not count
  pub not_to_effective : may_signal (ids 1000 1000 1000) (ids 7 1000 7) ≡ false
  pub not_by_saved : may_signal (ids 5 5 1000) (ids 1000 1000 1000) ≡ false

-- errno-base.h and errno.h
abbrev pub WorkedErrors : Type 0
WorkedErrors =
    map number_of (Eperm ∷ Enoent ∷ Esrch ∷ Eintr ∷ Echild ∷ Eagain ∷ Enomem ∷ Eacces ∷ Efault ∷ Einval ∷ Enosys ∷ Eopnotsupp ∷ [])
    ≡ 1 ∷ 2 ∷ 3 ∷ 4 ∷ 10 ∷ 11 ∷ 12 ∷ 13 ∷ 14 ∷ 22 ∷ 38 ∷ 95 ∷ []
