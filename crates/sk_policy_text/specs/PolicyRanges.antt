-- The ranges of a text's rows in the order of their numbers.
use Rattle.std.specs.Prelude.{ℕ, ◌≡◌, ◌<◌, ◌≤◌, min, max, true, false, List, [], ◌∷◌, All, IsPermutation}
use Rattle.sk_names.specs.declared.architecture.Architecture.{Architecture}
use Rattle.sk_policy_text.specs.declared.draft.Span.{Span}
use Rattle.sk_policy_text.specs.declared.policy_fault.Twice.{Twice}
use Rattle.sk_policy_text.specs.PolicyRows.{Part, has_number, times, is_of_x32}

abbrev pub part_of : Span → Part
part_of span = record {
  first = span.first;
  last = span.last;
  line = span.line;
  verdict = span.verdict;
  behind = span.behind.now;
}

-- none begins before one that stands before it
abbrev pub Rise : List Part → Type 0
Rise [] = Unit {0}
Rise (part ∷ parts) = (part.first ≤ part.last) × All (λ (other : Part). part.first ≤ other.first) parts × Rise parts

-- each begins behind those before it
abbrev pub PartsApart : List Part → Type 0
PartsApart [] = Unit {0}
PartsApart (part ∷ parts) = (part.first ≤ part.last) × All (λ (other : Part). part.last < other.first) parts × PartsApart parts

-- a number stands in two ranges of rows, and none below it does
pub record IsTwice (parts : List Part) (it : Twice) : Type 0 where
  pub one : Part
  pub other : Part
  pub rest : List Part
  pub two : IsPermutation parts (one ∷ other ∷ rest)
  pub in_one : has_number it.number one ≡ true
  pub in_other : has_number it.number other ≡ true
  pub later : it.line ≡ max one.line other.line
  pub earlier : it.earlier ≡ min one.line other.line
  pub least : (nr : ℕ) → nr < it.number → times parts nr ≤ 1

-- no row has a number, which is not of x32, and each below it is one that a row has, or of x32
pub record IsUnnamed (architecture : Architecture) (parts : List Part) (nr : ℕ) : Type 0 where
  pub none : times parts nr ≡ 0
  pub native : is_of_x32 architecture nr ≡ false
  pub least : (n : ℕ) → n < nr → times parts n ≡ 0 → is_of_x32 architecture n ≡ true
