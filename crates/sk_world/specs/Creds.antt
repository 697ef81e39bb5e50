-- The user ids of a process: credentials(7), setuid(2), setresuid(2), execve(2) and kill(2).
use Rattle.std.specs.Prelude.{ℕ, ◌≡◌, IsTrue, ◌==◌, Bool, not, ◌&&◌, ◌||◌, if◌then◌else◌, Result, Ok, Err}
use Rattle.sk_world.specs.declared.errno.Errno.{Errno}
use Rattle.sk_world.specs.declared.errno.Errno.TheVariants.{Eperm, Einval}
use Rattle.sk_world.specs.declared.creds.Creds.{Creds}
use Rattle.sk_world.specs.declared.creds.TheConstants.{NO_ID}

-- a privileged process is one whose effective user id is 0: credentials(7), capabilities(7)
abbrev pub is_privileged : Creds → Bool
is_privileged c = c.effective == 0

-- the id is the real or the saved one
abbrev pub is_real_or_saved : ℕ → Creds → Bool
is_real_or_saved id c = (id == c.real) || (id == c.saved)

-- setuid(2): the ids afterwards, or the error. A privileged process sets all three ids; any other
-- one may set its effective id alone, and only to its real or its saved id
abbrev pub after_setuid : ℕ → Creds → Result Creds Errno
after_setuid id c =
    if id == NO_ID then Err Einval
    else if is_privileged c then Ok (record c { real = id; effective = id; saved = id })
    else if is_real_or_saved id c then Ok (record c { effective = id })
    else Err Eperm

-- the id is one of the three
abbrev pub is_own : ℕ → Creds → Bool
is_own id c = is_real_or_saved id c || (id == c.effective)

-- setresuid(2): what an id is set to, where -1 leaves it as it is
abbrev pub chosen : ℕ → ℕ → ℕ
chosen id old = if id == NO_ID then old else id

-- setresuid(2): an unprivileged process may set an id to one of its three ids, a privileged one to any
abbrev pub may_take : ℕ → Creds → Bool
may_take id c = (id == NO_ID) || is_privileged c || is_own id c

-- setresuid(2): the ids afterwards, or the error
abbrev pub after_setresuid : ℕ → ℕ → ℕ → Creds → Result Creds Errno
after_setresuid real effective saved c =
    if may_take real c && may_take effective c && may_take saved c
    then Ok (record c { real = chosen real c.real; effective = chosen effective c.effective; saved = chosen saved c.saved })
    else Err Eperm

-- execve(2): a set-user-ID program makes its owner's id the effective one, unless no_new_privs is set
abbrev pub effective_after_exec : ℕ → Bool → Creds → ℕ
effective_after_exec owner setuid c = if setuid && not c.no_new_privs then owner else c.effective

-- execve(2): the ids afterwards. At its end every execve copies the effective id to the saved one
abbrev pub after_exec : ℕ → Bool → Creds → Creds
after_exec owner setuid c =
    record c { effective = effective_after_exec owner setuid c; saved = effective_after_exec owner setuid c }

-- kill(2): the sender is privileged, or its real or effective id is the target's real or saved one
abbrev pub may_signal : Creds → Creds → Bool
may_signal sender target =
    is_privileged sender || is_real_or_saved sender.real target || is_real_or_saved sender.effective target

-- each id was an id of the process before, and no_new_privs is as it was
abbrev pub GainsNoId : Creds → Creds → Type 0
GainsNoId old new = record {
  real : IsTrue (is_own new.real old);
  effective : IsTrue (is_own new.effective old);
  saved : IsTrue (is_own new.saved old);
  no_new_privs : new.no_new_privs ≡ old.no_new_privs;
}
