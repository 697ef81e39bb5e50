-- How terms are said in C, over unsigned numbers of 64 bits.
use Rattle.std.specs.Prelude.{ℕ, ◌≡◌, ◌≤◌, ◌==◌, ◌&&◌, ◌||◌, not, nat_le, nat_lt, Bool, if◌then◌else◌}
use Rattle.sk_terms.specs.declared.term.Register.{Register}
use Rattle.sk_terms.specs.declared.term.Register.TheVariants.{Number, Pointer, Argument}
use Rattle.sk_terms.specs.declared.term.Term.{Term}
use Rattle.sk_terms.specs.declared.wording.Wording.{Wording}
use Rattle.sk_terms.specs.declared.wording.Wording.TheVariants.{Is, IsNot, AtMost, AtLeast, Within, Outside}
use Rattle.sk_terms.specs.Terms.{takes}

-- what an expression says of a number
abbrev pub expresses : Wording → ℕ → Bool
expresses (Is k) n = n == k
expresses (IsNot k) n = not (n == k)
expresses (AtMost k) n = nat_le n k
expresses (AtLeast k) n = nat_le k n
expresses (Within first last) n = nat_le first n && nat_le n last
expresses (Outside first last) n = nat_lt n first || nat_lt last n

-- how a term is said: a bound that every number of its bits meets is left out
abbrev pub wording_of : Term → Wording
wording_of term =
    if not term.inside then (if term.first == term.last then IsNot term.first else Outside term.first term.last)
    else if term.first == term.last then Is term.first
    else if term.first == 0 then AtMost term.last
    else if nat_le term.mask term.last then AtLeast term.first
    else Within term.first term.last

-- all bits of a register: a call's number has 32
abbrev pub all_bits : Register → ℕ
all_bits Number = 0xffffffff
all_bits Pointer = 0xffffffffffffffff
all_bits (Argument i) = 0xffffffffffffffff

-- what is said of a term is what it takes, of every number with no other bits
abbrev pub WordingsAreExact : Type 0
WordingsAreExact = (term : Term) (n : ℕ) → n ≤ term.mask → expresses (wording_of term) n ≡ takes term n
