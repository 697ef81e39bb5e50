-- The processes that kill(2) means, once it is known whom its argument means, and what it comes to. Only code and proofs
-- look at this.
use Rattle.std.specs.Prelude.{ℕ, ◌==◌, Bool, not, ◌&&◌, if◌then◌else◌, List, filter, length, Result, Ok, Err}
use Rattle.sk_laws.specs.Common.{is_some, pids, World, at, sent, killed}
use Rattle.sk_world.specs.declared.errno.Errno.{Errno}
use Rattle.sk_world.specs.declared.errno.Errno.TheVariants.{Eperm, Esrch}
use Rattle.sk_world.specs.declared.creds.Creds.{Creds}
use Rattle.sk_world.specs.declared.request.Who.{Who}
use Rattle.sk_machine.specs.Killing.{is_meant, may_kill}

-- a process is there, and meant
abbrev pub is_target : World → ℕ → Who → ℕ → Bool
is_target w caller who pid = is_some (at w pid) && is_meant w caller who pid

-- the processes that are meant
abbrev pub meant : World → ℕ → Who → List ℕ
meant w caller who = filter (is_meant w caller who) (pids w.procs)

-- those of them that the caller, which has these ids, may send signal n to
abbrev pub reached : World → ℕ → Creds → Who → ℕ → List ℕ
reached w caller creds who n = filter (may_kill w caller creds n) (meant w caller who)

-- a process is one of these
abbrev pub is_reached : World → ℕ → Creds → Who → ℕ → ℕ → Bool
is_reached w caller creds who n pid = is_target w caller who pid && may_kill w caller creds n pid

-- kill(2) where these are meant: the world afterwards, or the error
abbrev pub after_kill_of : World → ℕ → Creds → Who → ℕ → Result World Errno
after_kill_of w caller creds who n =
    if length (meant w caller who) == 0 then Err Esrch
    else if length (reached w caller creds who n) == 0 then Err Eperm
    else Ok (killed w (reached w caller creds who n) n)

-- the same where the process of this pid is meant
abbrev pub after_kill_of_one : World → ℕ → Creds → ℕ → ℕ → Result World Errno
after_kill_of_one w caller creds pid n =
    if not (is_some (at w pid)) then Err Esrch
    else if not (may_kill w caller creds n pid) then Err Eperm
    else Ok (if n == 0 then w else sent w pid n)
