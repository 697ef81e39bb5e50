-- The nearest mark above a number, and that between marks the same is said.
use Rattle.std.proofs.Common.{◌≡◌, ◌==◌, ◌&&◌, ◌||◌, not, ℕ, ◌+◌, ◌*◌, ◌/◌, ◌%◌, ◌-◌, ◌<◌, ◌≤◌, ◌^◌, nat_le, nat_lt, inl, inr, Bool, true, false, if◌then◌else◌, List, [], ◌∷◌, ◌++◌, map, flat_map, refl, sym, ap, ◌∙◌, subst, arith}
use Rattle.std.specs.Prelude.{All, Option, Some, None, ⊤}
use Rattle.std.proofs.lemmas.Bool.{cases_lt, ne_eqb, le-leb, lt-leb, lt-ltb, le-ltb, ltb-true, ltb-false}
use Rattle.std.proofs.lemmas.List.Elements.{All-nil, All-cons, All-head, All-tail}
use Rattle.sk_profile.specs.Sayings.{always}
use Rattle.sk_profile.specs.Profiles.{Rule, Part, has_none, is_for, plain_rule, rules_for, arm_of_rule, settled, is_x32, is_narrow, saying_of_rules, no_call, has_x32_bit, is_above, is_unknown, saying_in_part}
use Rattle.sk_profile.specs.Rows.{marks_of_rule, marks_of, nearer, next_of, next_mark}

-- ---- the nearest mark

next_after : (from : ℕ) (best : Option ℕ) (front back : List ℕ) → next_of from best (front ++ back) ≡ next_of from (next_of from best front) back
next_after from best [] back = refl
next_after from best (mark ∷ front) back = next_after from (nearer from best mark) front back

pub behind_rules : (part : Part) (from : ℕ) (best : Option ℕ) → best ≡ next_of from None (flat_map marks_of_rule part.rules)
    → next_mark part from ≡ next_of from (next_of from best ((part.top + 1) ∷ (part.x32_top + 1) ∷ [])) (2 ^ 30 ∷ 2 ^ 31 ∷ (3 * 2 ^ 30) ∷ (2 ^ 32 - 1) ∷ [])
behind_rules part from best is =
    let others = (part.top + 1) ∷ (part.x32_top + 1) ∷ 2 ^ 30 ∷ 2 ^ 31 ∷ (3 * 2 ^ 30) ∷ (2 ^ 32 - 1) ∷ [] in
    next_after from None (flat_map marks_of_rule part.rules) others ∙ ap (λ best. next_of from best others) (sym is)

-- one rule less that is left
pub rule_less : (from : ℕ) (best found : Option ℕ) (left rest : List Rule) (rule : Rule) (whole : Option ℕ) → left ≡ rule ∷ rest → found ≡ next_of from best (marks_of_rule rule)
    → next_of from best (flat_map marks_of_rule left) ≡ whole → next_of from found (flat_map marks_of_rule rest) ≡ whole
rule_less from best found left rest rule whole steps is so_far =
    ap (λ best. next_of from best (flat_map marks_of_rule rest)) is
    ∙ ap (λ rules. next_of from best (flat_map marks_of_rule rules)) (sym steps)
    ∙ so_far

-- what was found is above the number, and below 2 ^ 32
abbrev IsFound : ℕ → Option ℕ → Type 0
IsFound from None = ⊤
IsFound from (Some n) = (from < n) × (n < 2 ^ 32)

-- no mark is nearer
abbrev IsNoNearer : ℕ → Option ℕ → ℕ → Type 0
IsNoNearer from None mark = from < mark → 2 ^ 32 ≤ mark
IsNoNearer from (Some n) mark = from < mark → n ≤ mark

record Nears (from : ℕ) (best : Option ℕ) (mark : ℕ) (found : Option ℕ) : Type 0 where
  there : IsFound from best → IsFound from found
  here : IsNoNearer from found mark
  others : (other : ℕ) → IsNoNearer from best other → IsNoNearer from found other

near : (from : ℕ) (best : Option ℕ) (mark : ℕ) → (IsFound from best) → Nears from best mark (nearer from best mark)
near from None mark good = by (nat_lt from mark) refl (nat_lt mark (2 ^ 32)) refl where
  by : (above : Bool) → nat_lt from mark ≡ above → (small : Bool) → nat_lt mark (2 ^ 32) ≡ small → Nears from None mark (if above && small then Some mark else None)
  by true e true f = record {
    there = λ good. (ltb-true from mark e, ltb-true mark (2 ^ 32) f);
    here = λ less. omega arith;
    others = λ other beyond less. let far = beyond less in let small = ltb-true mark (2 ^ 32) f in omega (arith, far, small);
  }
  by true e false f = record { there = λ good. good; here = λ less. ltb-false mark (2 ^ 32) f; others = λ other beyond. beyond }
  by false e small f = record { there = λ good. good; here = λ less. let no_less = ltb-false from mark e in absurd (omega (arith, no_less, less)); others = λ other beyond. beyond }
near from (Some best) mark good = by (nat_lt from mark) refl (nat_lt mark best) refl where
  by : (above : Bool) → nat_lt from mark ≡ above → (nearer_one : Bool) → nat_lt mark best ≡ nearer_one
      → Nears from (Some best) mark (if above && nearer_one then Some mark else Some best)
  by true e true f = record {
    there = λ good. let less = ltb-true mark best f in (ltb-true from mark e, omega (arith, less, good.1));
    here = λ less. omega arith;
    others = λ other beyond less. let far = beyond less in let less = ltb-true mark best f in omega (arith, far, less);
  }
  by true e false f = record { there = λ good. good; here = λ less. ltb-false mark best f; others = λ other beyond. beyond }
  by false e nearer_one f = record { there = λ good. good; here = λ less. let no_less = ltb-false from mark e in absurd (omega (arith, no_less, less)); others = λ other beyond. beyond }

record NextIs (from : ℕ) (best : Option ℕ) (marks : List ℕ) (found : Option ℕ) : Type 0 where
  there : IsFound from found
  each : All (IsNoNearer from found) marks
  others : (other : ℕ) → IsNoNearer from best other → IsNoNearer from found other

next_is : (from : ℕ) (best : Option ℕ) (marks : List ℕ) → IsFound from best → NextIs from best marks (next_of from best marks)
next_is from best [] good = record { there = good; each = All-nil (IsNoNearer from best); others = λ other beyond. beyond }
next_is from best (mark ∷ marks) good =
    let first = near from best mark good in
    let found = nearer from best mark in
    let rest = next_is from found marks (first.there good) in record {
      there = rest.there;
      each = All-cons (IsNoNearer from (next_of from found marks)) mark marks (rest.others mark first.here) rest.each;
      others = λ other beyond. rest.others other (first.others other beyond);
    }

pub next_found : (part : Part) (from start : ℕ) → next_mark part from ≡ Some start → (from < start) × (start < 2 ^ 32)
next_found part from start is = subst (IsFound from) is (next_is from None (marks_of part) tt).there

pub none_nearer : (part : Part) (from start : ℕ) → next_mark part from ≡ Some start → All (λ mark. from < mark → start ≤ mark) (marks_of part)
none_nearer part from start is = subst (λ found. All (IsNoNearer from found) (marks_of part)) is (next_is from None (marks_of part) tt).each

pub none_above : (part : Part) (from : ℕ) → next_mark part from ≡ None → All (λ mark. from < mark → 2 ^ 32 ≤ mark) (marks_of part)
none_above part from is = subst (λ found. All (IsNoNearer from found) (marks_of part)) is (next_is from None (marks_of part) tt).each

-- ---- between marks

-- no mark is above the one number, up to the other
abbrev pub NoMark : Part → ℕ → ℕ → Type 0
NoMark part from nr = All (λ mark. from < mark → nr < mark) (marks_of part)

number_same : (n from nr : ℕ) → from ≤ nr → (from < n → nr < n) → (from < n + 1 → nr < n + 1) → (n == nr) ≡ (n == from)
number_same n from nr up one next =
    elim (cases_lt from nr) [
      | inl less ↦
          ne_eqb n nr (λ e. let past = one (omega (arith, less, e)) in absurd (omega (arith, past, e)))
          ∙ sym (ne_eqb n from (λ e. let past = next (omega (arith, e)) in absurd (omega (arith, past, less, e))))
      | inr no_less ↦ let same : nr ≡ from = omega (arith, no_less, up) in ap (λ k. n == k) same
    ]

for_same : (default from nr : ℕ) (rule : Rule) → from ≤ nr → (from < rule.number → nr < rule.number) → (from < rule.number + 1 → nr < rule.number + 1)
    → is_for default nr rule ≡ is_for default from rule
for_same default from nr rule up one next = ap (λ b. b && not (rule.value == default)) (number_same rule.number from nr up one next)

first_two : (P : ℕ → Type 0) (one two : ℕ) (rest : List ℕ) → All P (one ∷ two ∷ rest) → P one × (P two × All P rest)
first_two P one two rest all =
    let behind = All-tail P one (two ∷ rest) all in (All-head P one (two ∷ rest) all, (All-head P two rest behind, All-tail P two rest behind))

module _ (default from nr : ℕ) (up : from ≤ nr) where
  abbrev Passes : ℕ → Type 0
  Passes mark = from < mark → nr < mark

  rules_same : (rules : List Rule) (others : List ℕ) → All Passes (flat_map marks_of_rule rules ++ others)
      → (rules_for default rules nr ≡ rules_for default rules from) × ((plain_rule default rules nr ≡ plain_rule default rules from) × All Passes others)
  rules_same [] others all = (refl, (refl, all))
  rules_same (rule ∷ rules) others all =
      let parts = first_two Passes rule.number (rule.number + 1) (flat_map marks_of_rule rules ++ others) all in
      let same = for_same default from nr rule up parts.0 parts.1.0 in
      let rest = rules_same rules others parts.1.1 in (
        ap (λ b. if b then rule ∷ rules_for default rules nr else rules_for default rules nr) same
            ∙ ap (λ more. if is_for default from rule then rule ∷ more else more) rest.0,
        (
          ap (λ b. if b && has_none rule.conditions then Some rule else plain_rule default rules nr) same
              ∙ ap (λ more. if is_for default from rule && has_none rule.conditions then Some rule else more) rest.1.0,
          rest.1.1,
        ),
      )

above_same : (top from nr : ℕ) → from ≤ nr → (from < top + 1 → nr < top + 1) → is_above top nr ≡ is_above top from
above_same top from nr up next = ap (λ b. nat_lt 0 top && b)
    (elim (cases_lt top from) [
      | inl past ↦ lt-ltb top nr (omega (arith, past, up)) ∙ sym (lt-ltb top from past)
      | inr low ↦ let also = next (omega (arith, low)) in le-ltb top nr (omega (arith, also)) ∙ sym (le-ltb top from low)
    ])

at_least_same : (mark from nr : ℕ) → from ≤ nr → (from < mark → nr < mark) → nat_le mark nr ≡ nat_le mark from
at_least_same mark from nr up one =
    elim (cases_lt from mark) [
      | inl low ↦ lt-leb mark nr (one low) ∙ sym (lt-leb mark from low)
      | inr past ↦ le-leb mark nr (omega (arith, past, up)) ∙ sym (le-leb mark from past)
    ]

below_same : (mark from nr : ℕ) → from ≤ nr → (from < mark → nr < mark) → nat_lt nr mark ≡ nat_lt from mark
below_same mark from nr up one =
    elim (cases_lt from mark) [
      | inl low ↦ lt-ltb nr mark (one low) ∙ sym (lt-ltb from mark low)
      | inr past ↦ le-ltb nr mark (omega (arith, past, up)) ∙ sym (le-ltb from mark past)
    ]

-- by the quotient
quotient : (nr k : ℕ) → k * 2 ^ 30 ≤ nr → nr < (k + 1) * 2 ^ 30 → nr / 2 ^ 30 ≡ k
quotient nr k low high = omega (arith, low, high)

same_quotient : (from nr : ℕ) → from ≤ nr → nr < 2 ^ 32 → (from < 2 ^ 30 → nr < 2 ^ 30) → (from < 2 ^ 31 → nr < 2 ^ 31) → (from < 3 * 2 ^ 30 → nr < 3 * 2 ^ 30) → nr / 2 ^ 30 ≡ from / 2 ^ 30
same_quotient from nr up small first second third =
    elim (cases_lt from (2 ^ 30)) [
      | inl below ↦ let also = first below in quotient nr 0 (omega arith) (omega (arith, also)) ∙ sym (quotient from 0 (omega arith) (omega (arith, below)))
      | inr past ↦
          elim (cases_lt from (2 ^ 31)) [
            | inl below ↦ let also = second below in quotient nr 1 (omega (arith, past, up)) (omega (arith, also)) ∙ sym (quotient from 1 (omega (arith, past)) (omega (arith, below)))
            | inr past ↦
                elim (cases_lt from (3 * 2 ^ 30)) [
                  | inl below ↦ let also = third below in quotient nr 2 (omega (arith, past, up)) (omega (arith, also)) ∙ sym (quotient from 2 (omega (arith, past)) (omega (arith, below)))
                  | inr past ↦ quotient nr 3 (omega (arith, past, up)) (omega (arith, small)) ∙ sym (quotient from 3 (omega (arith, past)) (omega (arith, small, up)))
                ]
          ]
    ]

-- the same is said of numbers between which no mark stands
pub same_between : (default bad : ℕ) (part : Part) (from nr : ℕ) → from ≤ nr → nr < 2 ^ 32 → NoMark part from nr → saying_in_part default bad part nr ≡ saying_in_part default bad part from
same_between default bad part from nr up small all =
    let rules = rules_same default from nr up part.rules ((part.top + 1) ∷ (part.x32_top + 1) ∷ 2 ^ 30 ∷ 2 ^ 31 ∷ (3 * 2 ^ 30) ∷ (2 ^ 32 - 1) ∷ []) all in
    let tops = first_two (λ mark. from < mark → nr < mark) (part.top + 1) (part.x32_top + 1) (2 ^ 30 ∷ 2 ^ 31 ∷ (3 * 2 ^ 30) ∷ (2 ^ 32 - 1) ∷ []) rules.1.1 in
    let bits = first_two (λ mark. from < mark → nr < mark) (2 ^ 30) (2 ^ 31) ((3 * 2 ^ 30) ∷ (2 ^ 32 - 1) ∷ []) tops.1.1 in
    let ends = first_two (λ mark. from < mark → nr < mark) (3 * 2 ^ 30) (2 ^ 32 - 1) [] bits.1.1 in
    let bit : has_x32_bit nr ≡ has_x32_bit from = ap (λ q. q % 2 == 1) (same_quotient from nr up small bits.0 bits.1.0 ends.0) in
    let unknown : is_unknown part nr ≡ is_unknown part from =
    ap (λ b. is_above (if b then part.x32_top else part.top) nr) bit ∙ either (has_x32_bit from) (above_same part.top from nr up tops.0) (above_same part.x32_top from nr up tops.1.0) in
    let reached = at_least_same (2 ^ 30) from nr up bits.0 in
    let x32 : is_x32 nr ≡ is_x32 from = ap (λ b. b && nat_lt nr 0xffffffff) reached ∙ ap (λ b. nat_le 0x40000000 from && b) (below_same (2 ^ 32 - 1) from nr up ends.1.0) in
    let by_rules : saying_of_rules part default nr ≡ saying_of_rules part default from =
    ap (λ b. settled (part.narrow || b) (plain_rule default part.rules nr) (map arm_of_rule (rules_for default part.rules nr)) default) reached
    ∙ ap (λ plain. settled (is_narrow part from) plain (map arm_of_rule (rules_for default part.rules nr)) default) rules.1.0
    ∙ ap (λ rules. settled (is_narrow part from) (plain_rule default part.rules from) (map arm_of_rule rules) default) rules.0 in
    ap (λ b. if b then always no_call else if part.without_x32 && is_x32 nr then always bad else saying_of_rules part default nr) unknown
    ∙ ap (λ b. if is_unknown part from then always no_call else if part.without_x32 && b then always bad else saying_of_rules part default nr) x32
    ∙ ap (λ said. if is_unknown part from then always no_call else if part.without_x32 && is_x32 from then always bad else said) by_rules where
      either : (b : Bool) → is_above part.top nr ≡ is_above part.top from → is_above part.x32_top nr ≡ is_above part.x32_top from
          → is_above (if b then part.x32_top else part.top) nr ≡ is_above (if b then part.x32_top else part.top) from
      either true low high = high
      either false low high = low
