-- Ranges in their order, by the numbers that stand in them.
use Rattle.std.proofs.Common.{◌≡◌, ℕ, zero, suc, ◌+◌, ◌<◌, ◌≤◌, true, false, List, [], ◌∷◌, ◌++◌, map, refl, sym, ap, ◌∙◌, subst, inl, inr, arith, append_assoc}
use Rattle.std.specs.Prelude.{All, IsPermutation, max, min}
use Rattle.std.specs.List.Sorted.{IsNonDecreasingBy}
use Rattle.std.proofs.lemmas.Bool.{cases_lt}
use Rattle.std.proofs.lemmas.Bool.Decides.{nat_tests}
use Rattle.std.proofs.lemmas.List.Elements.{All-head, All-tail, All-weaker, All-cons, All-map}
use Rattle.std.proofs.lemmas.List.Sorted.{IsPermutation-append_comm}
use Rattle.std.proofs.lemmas.List.Sums.{sum_by-cons, sum_by-append}
use Rattle.sk_names.specs.declared.architecture.Architecture.{Architecture}
use Rattle.sk_policy_text.specs.declared.draft.Span.{Span}
use Rattle.sk_policy_text.specs.declared.policy_fault.Twice.{Twice}
use Rattle.sk_policy_text.specs.PolicyRows.{Part, has_number, once, times, is_of_x32}
use Rattle.sk_policy_text.specs.PolicyRanges.{part_of, Rise, PartsApart, IsTwice, IsUnnamed}

-- ---- how often a number stands in ranges

pub has_inside : (nr : ℕ) (part : Part) → part.first ≤ nr → nr ≤ part.last → has_number nr part ≡ true
has_inside nr part from to = grind (arith, nat_tests)

pub once_inside : (nr : ℕ) (part : Part) → part.first ≤ nr → nr ≤ part.last → once nr part ≡ 1
once_inside nr part from to = grind (arith, nat_tests)

pub once_below : (nr : ℕ) (part : Part) → nr < part.first → once nr part ≡ 0
once_below nr part below = grind (arith, nat_tests)

pub once_above : (nr : ℕ) (part : Part) → part.last < nr → once nr part ≡ 0
once_above nr part above = grind (arith, nat_tests)

pub once_most : (nr : ℕ) (part : Part) → once nr part ≤ 1
once_most nr part = grind (arith, nat_tests)

pub times_cons : (part : Part) (parts : List Part) (nr : ℕ) → times (part ∷ parts) nr ≡ once nr part + times parts nr
times_cons part parts nr = sum_by-cons (once nr) part parts

pub times_append : (front back : List Part) (nr : ℕ) → times (front ++ back) nr ≡ times front nr + times back nr
times_append front back nr = sum_by-append (once nr) front back

pub none_before : (nr : ℕ) (parts : List Part) → All (λ (part : Part). nr < part.first) parts → times parts nr ≡ 0
none_before nr [] below = refl
none_before nr (part ∷ parts) below =
    let one = once_below nr part (All-head (λ (part : Part). nr < part.first) part parts below) in
    let more = none_before nr parts (All-tail (λ (part : Part). nr < part.first) part parts below) in
    omega (arith, times_cons part parts nr, one, more)

pub once_apart : (parts : List Part) → PartsApart parts → (nr : ℕ) → times parts nr ≤ 1
once_apart [] apart nr = omega arith
once_apart (part ∷ parts) apart nr = elim (cases_lt part.last nr) [
  | inl above ↦ omega (arith, times_cons part parts nr, once_above nr part above, once_apart parts apart.2 nr)
  | inr inside ↦
      let none = none_before nr parts (All-weaker (λ (other : Part). part.last < other.first) (λ (other : Part). nr < other.first)
      (λ other less. omega (arith, less, inside)) parts apart.1) in
      omega (arith, times_cons part parts nr, once_most nr part, none)
]

-- ---- numbers that stand in two

-- the ranges before one have no number twice, and none from its first on
pub record Passed (parts : List Part) (last : Part) (left : List Part) : Type 0 where
  pub front : List Part
  pub is : parts ≡ front ++ (last ∷ left)
  pub once : (nr : ℕ) → times front nr ≤ 1
  pub past : (nr : ℕ) → last.first ≤ nr → times front nr ≡ 0

pub none_passed : (last : Part) (left : List Part) → Passed (last ∷ left) last left
none_passed last left = record {
  front = [];
  is = refl;
  once = λ nr. omega arith;
  past = λ nr from. refl;
}

-- numbers before the next range
least_here : (parts : List Part) (last next : Part) (rest : List Part) → Passed parts last (next ∷ rest) → Rise (last ∷ next ∷ rest) → (nr : ℕ) → nr < next.first → times parts nr ≤ 1
least_here parts last next rest passed rise nr less =
    let later = All-weaker (λ (other : Part). next.first ≤ other.first) (λ (other : Part). nr < other.first) (λ other behind. omega (arith, behind, less)) rest rise.2.1 in
    let none = none_before nr (next ∷ rest) (All-cons (λ (other : Part). nr < other.first) next rest less later) in
    let all : times parts nr ≡ times passed.front nr + times (last ∷ next ∷ rest) nr = ap (λ parts. times parts nr) passed.is ∙ times_append passed.front (last ∷ next ∷ rest) nr in
    let more = times_cons last (next ∷ rest) nr in
    elim (cases_lt nr last.first) [
      | inl below ↦ omega (arith, all, more, none, once_below nr last below, passed.once nr)
      | inr from ↦ omega (arith, all, more, none, once_most nr last, passed.past nr from)
    ]

pub twice_here : (parts : List Part) (last next : Part) (rest : List Part) (it : Twice) → Passed parts last (next ∷ rest) → Rise (last ∷ next ∷ rest) → next.first ≤ last.last
    → it.number ≡ next.first → it.line ≡ max last.line next.line → it.earlier ≡ min last.line next.line → IsTwice parts it
twice_here parts last next rest it passed rise meets number line earlier = record {
  one = last;
  other = next;
  rest = rest ++ passed.front;
  two = subst (λ parts. IsPermutation parts (last ∷ next ∷ (rest ++ passed.front))) (sym passed.is) (IsPermutation-append_comm passed.front (last ∷ next ∷ rest));
  in_one = has_inside it.number last (omega (arith, number, All-head (λ (other : Part). last.first ≤ other.first) next rest rise.1)) (omega (arith, number, meets));
  in_other = has_inside it.number next (omega (arith, number)) (omega (arith, number, rise.2.0));
  later = line;
  earlier = earlier;
  least = λ nr less. least_here parts last next rest passed rise nr (omega (arith, less, number));
}

pub passed_more : (parts : List Part) (last next : Part) (rest : List Part) → Passed parts last (next ∷ rest) → Rise (last ∷ next ∷ rest) → last.last < next.first → Passed parts next rest
passed_more parts last next rest passed rise apart =
    let one : (nr : ℕ) → times (passed.front ++ last ∷ []) nr ≡ times passed.front nr + once nr last =
    λ nr. omega (arith, times_append passed.front (last ∷ []) nr, times_cons last [] nr) in record {
      front = passed.front ++ last ∷ [];
      is = passed.is ∙ sym (append_assoc passed.front (last ∷ []) (next ∷ rest));
      once = λ nr. elim (cases_lt nr last.first) [
        | inl below ↦ omega (arith, one nr, once_below nr last below, passed.once nr)
        | inr from ↦ omega (arith, one nr, once_most nr last, passed.past nr from)
      ];
      past = λ nr from. omega (arith, one nr, once_above nr last (omega (arith, apart, from)), passed.past nr (omega (arith, apart, from, rise.0)));
    }

pub apart_more : (last next : Part) (rest : List Part) → Rise (last ∷ next ∷ rest) → last.last < next.first → PartsApart (next ∷ rest) → PartsApart (last ∷ next ∷ rest)
apart_more last next rest rise apart more = (
  rise.0,
  All-cons (λ (other : Part). last.last < other.first) next rest apart
      (All-weaker (λ (other : Part). next.first ≤ other.first) (λ (other : Part). last.last < other.first) (λ other behind. omega (arith, behind, apart)) rest rise.2.1),
  more,
)

-- ---- numbers that stand in none

-- each number below one stands in a range, or is of x32; from there on only what is left has numbers
pub record Named (architecture : Architecture) (parts : List Part) (next : ℕ) (left : List Part) : Type 0 where
  pub named : (nr : ℕ) → nr < next → times parts nr ≡ 0 → is_of_x32 architecture nr ≡ true
  pub past : (nr : ℕ) → next ≤ nr → times parts nr ≡ times left nr
  pub apart : PartsApart left
  pub behind : All (λ (part : Part). next ≤ part.first) left

later_ones : (part : Part) (rest : List Part) → PartsApart (part ∷ rest) → (nr : ℕ) → nr < part.first → All (λ (other : Part). nr < other.first) (part ∷ rest)
later_ones part rest apart nr less = All-cons (λ (other : Part). nr < other.first) part rest less
    (All-weaker (λ (other : Part). part.last < other.first) (λ (other : Part). nr < other.first) (λ other behind. omega (arith, behind, less, apart.0)) rest apart.1)

pub unnamed_here : (architecture : Architecture) (parts : List Part) (next number : ℕ) (part : Part) (rest : List Part) → Named architecture parts next (part ∷ rest)
    → next ≤ number → number < part.first → is_of_x32 architecture number ≡ false → ((nr : ℕ) → next ≤ nr → nr < number → is_of_x32 architecture nr ≡ true)
    → IsUnnamed architecture parts number
unnamed_here architecture parts next number part rest named from below native between = record {
  none = named.past number from ∙ none_before number (part ∷ rest) (later_ones part rest named.apart number below);
  native = native;
  least = λ nr less none. elim (cases_lt nr next) [
    | inl earlier ↦ named.named nr earlier none
    | inr later ↦ between nr later less
  ];
}

pub named_more : (architecture : Architecture) (parts : List Part) (next number : ℕ) (part : Part) (rest : List Part) → Named architecture parts next (part ∷ rest)
    → next ≤ number → part.first ≤ number → ((nr : ℕ) → next ≤ nr → nr < number → is_of_x32 architecture nr ≡ true) → Named architecture parts (part.last + 1) rest
named_more architecture parts next number part rest named from there between =
    let first = All-head (λ (part : Part). next ≤ part.first) part rest named.behind in record {
      named = λ nr less none. elim (cases_lt nr next) [
        | inl earlier ↦ named.named nr earlier none
        | inr later ↦ elim (cases_lt nr part.first) [
          | inl below ↦ between nr later (omega (arith, below, there))
          | inr inside ↦ absurd (omega (arith, none, named.past nr later, times_cons part rest nr, once_inside nr part inside (omega (arith, less))))
        ]
      ];
      past = λ nr above. named.past nr (omega (arith, first, above, named.apart.0)) ∙ omega (arith, times_cons part rest nr, once_above nr part (omega (arith, above)));
      apart = named.apart.2;
      behind = All-weaker (λ (other : Part). part.last < other.first) (λ (other : Part). part.last + 1 ≤ other.first) (λ other behind. omega (arith, behind)) rest named.apart.1;
    }

-- ---- sorted ranges

pub rise_of : (spans : List Span) → IsNonDecreasingBy (λ (span : Span). span.first) spans → All (λ (part : Part). part.first ≤ part.last) (map part_of spans) → Rise (map part_of spans)
rise_of [] sorted some = tt
rise_of (span ∷ spans) sorted some = (
  All-head (λ (part : Part). part.first ≤ part.last) (part_of span) (map part_of spans) some,
  All-map (λ (other : Part). span.first ≤ other.first) part_of spans (λ k d less. sorted zero (suc k) d (omega arith) (omega (arith, less))),
  rise_of spans (λ i j d order inside. sorted (suc i) (suc j) d (omega (arith, order)) (omega (arith, inside)))
      (All-tail (λ (part : Part). part.first ≤ part.last) (part_of span) (map part_of spans) some),
)
