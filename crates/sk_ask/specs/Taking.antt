-- What a shelf gives of a file at once.
use Rattle.std.specs.Prelude.{ℕ, ◌≡◌, ◌≤◌, List, length, take, Result, Ok, Err, ⊤}
use Rattle.sk_text.specs.Failures.{one_more}
use Rattle.sk_ask.specs.declared.shelf.Unread.{Unread}
use Rattle.sk_ask.specs.declared.shelf.Unread.TheVariants.{Unopened, Reading, Memory}
use Rattle.sk_ask.specs.Shelves.{Held, holds, unknown, MayLack, MayFail}

-- its first bytes, so many at most
abbrev pub IsTaken : ℕ → Held → List ℕ → Type 0
IsTaken most (holds whole) bytes = bytes ≡ take most whole
IsTaken most unknown bytes = length bytes ≤ most
IsTaken most held bytes = ⊥

-- why there are none; memory may be refused for each file
abbrev pub IsUntaken : Held → Unread → Type 0
IsUntaken held (Unopened why) = MayLack held why
IsUntaken held Reading = MayFail held
IsUntaken held Memory = ⊤

-- a failed read was counted, and is told of no other end
abbrev pub CountsWhy : Unread → ℕ → ℕ → Type 0
CountsWhy Reading old new = new ≡ one_more old
CountsWhy why old new = new ≡ old

abbrev pub CountsUnread : {T : Type 0} → Result T Unread → ℕ → ℕ → Type 0
CountsUnread (Ok value) old new = new ≡ old
CountsUnread (Err why) old new = CountsWhy why old new
