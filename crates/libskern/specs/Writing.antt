-- What is written for a caller of the library, who gives some room for it.
use Rattle.std.specs.Prelude.{ℕ, ◌≡◌, ◌++◌, nat_le, if◌then◌else◌, List, length, drop}
use Rattle.libskern.specs.declared.fault.Fault.{Fault}
use Rattle.libskern.specs.Faults.{fine, no_room, plain}

-- bytes at the beginning of the room, where there is room for all of them, and else nothing
abbrev pub written : List ℕ → List ℕ → List ℕ
written bytes room = if nat_le (length bytes) (length room) then bytes ++ drop (length bytes) room else room

-- of a filter that is made: its image, or that there is no room for it
pub record IsGiven (image room : List ℕ) (fault : Fault) (size : ℕ) (out : List ℕ) : Type 0 where
  pub answer : fault ≡ plain (if nat_le (length image) (length room) then fine else no_room)
  pub taken : size ≡ length image
  pub bytes : out ≡ written image room

-- what is told, and a text beside it
pub record IsSaid (told : Fault) (text room : List ℕ) (fault : Fault) (size : ℕ) (out : List ℕ) : Type 0 where
  pub answer : fault ≡ told
  pub taken : size ≡ length text
  pub bytes : out ≡ written text room
