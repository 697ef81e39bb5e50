-- The call that a name or a number is on an architecture.
use Rattle.std.specs.Prelude.{ℕ, ◌≡◌, ◌⊎◌, ◌≢◌, ◌==◌, ◌&&◌, not, Bool, false, if◌then◌else◌, List, ◌∷◌, Option, Some, None}
use Rattle.std.specs.Option.{option_or}
use Rattle.sk_text.specs.Numbers.{number_of, up_to}
use Rattle.sk_names.specs.declared.architecture.Architecture.{Architecture}
use Rattle.sk_names.specs.Names.{name_on, number_on}

-- a 0 (48) before other digits, which elsewhere makes a number octal; `0x` (120) does not
abbrev pub begins_with_zero : List ℕ → Bool
begins_with_zero (first ∷ second ∷ rest) = first == 48 && not (second == 120)
begins_with_zero word = false

-- a number that is at most so large, in decimal or behind `0x` in hexadecimal
unfoldable pub plain_number : ℕ → List ℕ → Option ℕ
plain_number most word = if begins_with_zero word then None else up_to most (number_of word)

-- that of a call has 32 bits; it is the same on every architecture, with bit 30 for a call of x32 or without
abbrev pub call_number : List ℕ → Option ℕ
call_number word = plain_number 4294967295 word

-- no call has this name
abbrev pub IsNoName : Architecture → List ℕ → Type 0
IsNoName by word = (nr : ℕ) → name_on by nr ≢ Some word

-- the call with this name, or this number
abbrev pub IsCall : Architecture → List ℕ → ℕ → Type 0
IsCall by word nr = (name_on by nr ≡ Some word) ⊎ (IsNoName by word × (call_number word ≡ Some nr))

abbrev pub NoCall : Architecture → List ℕ → Type 0
NoCall by word = IsNoName by word × (call_number word ≡ None)

-- the number of the call that a word is: of the first that has it for a name, or the number that it writes
abbrev pub nr_of : Architecture → List ℕ → Option ℕ
nr_of by word = option_or (number_on by word) (call_number word)
