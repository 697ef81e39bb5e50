-- One call more in a tally.
use Rattle.std.proofs.Common.{◌≡◌, ◌≤◌, ◌+◌, ◌∙◌, ap, arith, refl, sym, ℕ, List, [], ◌∷◌, ◌++◌, map, filter, length, ◌==◌, ◌&&◌, ◌||◌, not, true, false, cond, append-nil, inl, inr, true≢false, nat_eq, Bool, Option, Some, None}
use Rattle.std.proofs.lemmas.Bool.{cases_Bool, and_parts, and_from, eqb-true, eq-eqb}
use Rattle.std.proofs.lemmas.List.Elements.{filter-append}
use Rattle.std.proofs.lemmas.List.Sums.{sum_by-append, count_by-le-length}
use Rattle.std.specs.Cmp.Lexicographic.{pointwise}
use Rattle.std.specs.List.{count_by, list_any}
use Rattle.std.specs.Option.{option_eq}
use Rattle.sk_replay.specs.declared.call.Call.{Call}
use Rattle.sk_replay.specs.declared.value.Value.{Value}
use Rattle.sk_replay.specs.declared.value.Value.TheVariants.{Told, Unknown}
use Rattle.sk_replay.specs.Replaying.{is_same, same_value, each_once, tallied, times_of, with_call}

-- ---- calls that are the same

value_is : (a b : Value) → same_value a b ≡ true → a ≡ b
value_is (Told a) (Told b) h = ap Told (eqb-true a b h)
value_is Unknown Unknown h = refl
value_is (Told a) Unknown h = absurd (true≢false (sym h))
value_is Unknown (Told b) h = absurd (true≢false (sym h))

value_self : (a : Value) → same_value a a ≡ true
value_self (Told a) = eq-eqb a a refl
value_self Unknown = refl

values_are : (a b : List Value) → pointwise same_value a b ≡ true → a ≡ b
values_are [] [] h = refl
values_are [] (y ∷ b) h = absurd (true≢false (sym h))
values_are (x ∷ a) [] h = absurd (true≢false (sym h))
values_are (x ∷ a) (y ∷ b) h =
    let both = and_parts (same_value x y) (pointwise same_value a b) h in
    let one = value_is x y both.0 in
    let rest = values_are a b both.1 in
    λ i. one i ∷ rest i

values_self : (a : List Value) → pointwise same_value a a ≡ true
values_self [] = refl
values_self (x ∷ a) = and_from (same_value x x) (pointwise same_value a a) (value_self x) (values_self a)

action_is : (a b : Option ℕ) → option_eq nat_eq a b ≡ true → a ≡ b
action_is None None h = refl
action_is (Some x) (Some y) h = ap Some (eqb-true x y h)
action_is None (Some y) h = absurd (true≢false (sym h))
action_is (Some x) None h = absurd (true≢false (sym h))

action_self : (a : Option ℕ) → option_eq nat_eq a a ≡ true
action_self None = refl
action_self (Some x) = eq-eqb x x refl

abbrev same_parts : Call → Call → Bool
same_parts a b = pointwise same_value a.args b.args && option_eq nat_eq a.logged b.logged

same_is : (a b : Call) → is_same a b ≡ true → a ≡ b
same_is a b h =
    let outer = and_parts (a.nr == b.nr) ((a.shown == b.shown) && same_parts a b) h in
    let inner = and_parts (a.shown == b.shown) (same_parts a b) outer.1 in
    let last = and_parts (pointwise same_value a.args b.args) (option_eq nat_eq a.logged b.logged) inner.1 in
    let n = eqb-true a.nr b.nr outer.0 in
    let s = eqb-true a.shown b.shown inner.0 in
    let r = values_are a.args b.args last.0 in
    let l = action_is a.logged b.logged last.1 in
    λ i. record { nr = n i; shown = s i; args = r i; logged = l i }

same_self : (a : Call) → is_same a a ≡ true
same_self a =
    and_from (a.nr == a.nr) ((a.shown == a.shown) && same_parts a a) (eq-eqb a.nr a.nr refl)
    (and_from (a.shown == a.shown) (same_parts a a) (eq-eqb a.shown a.shown refl)
    (and_from (pointwise same_value a.args a.args) (option_eq nat_eq a.logged a.logged) (values_self a.args) (action_self a.logged)))

same_back : (a b : Call) → is_same a b ≡ true → is_same b a ≡ true
same_back a b h = ap (is_same b) (same_is a b h) ∙ same_self b

other_back : (a b : Call) → is_same a b ≡ false → is_same b a ≡ false
other_back a b h = elim (cases_Bool (is_same b a)) [
  | inl t ↦ absurd (true≢false (sym (same_back b a t) ∙ h))
  | inr f ↦ f
]

apart_along : (c x y : Call) → is_same c x ≡ false → is_same x y ≡ true → is_same c y ≡ false
apart_along c x y h same = sym (ap (is_same c) (same_is x y same)) ∙ h

-- ---- each call once

abbrev others : Call → List Call → List Call
others x calls = filter (λ other. not (is_same x other)) calls

abbrev snoc : List Call → Call → List Call
snoc calls c = cond (list_any (is_same c) calls) calls (calls ++ c ∷ [])

any_others : (c x : Call) → is_same c x ≡ false → (ys : List Call) → list_any (is_same c) (others x ys) ≡ list_any (is_same c) ys
any_others c x h [] = refl
any_others c x h (y ∷ ys) = elim (cases_Bool (is_same x y)) [
  | inl t ↦ let off = apart_along c x y h t in rw (t, off) (any_others c x h ys)
  | inr f ↦ rw f (ap (λ b. is_same c y || b) (any_others c x h ys))
]

none_same : (x : Call) (ys : List Call) → list_any (is_same x) (others x ys) ≡ false
none_same x [] = refl
none_same x (y ∷ ys) = elim (cases_Bool (is_same x y)) [
  | inl t ↦ rw t (none_same x ys)
  | inr f ↦ rw (f, f) (none_same x ys)
]

others_more : (x c : Call) (ks : List Call) → others x (ks ++ c ∷ []) ≡ others x ks ++ others x (c ∷ [])
others_more x c ks = filter-append (λ other. not (is_same x other)) ks (c ∷ [])

others_same : (x c : Call) (ks : List Call) → is_same x c ≡ true → others x (snoc ks c) ≡ others x ks
others_same x c ks t = elim (cases_Bool (list_any (is_same c) ks)) [
  | inl some ↦ rw some refl
  | inr none ↦ rw none (others_more x c ks ∙ rw t (append-nil (others x ks)))
]

once_step : (x c : Call) (ks : List Call) → x ∷ others x (snoc ks c) ≡ snoc (x ∷ others x ks) c
once_step x c ks = elim (cases_Bool (is_same c x)) [
  | inl t ↦ rw t (ap (λ l. x ∷ l) (others_same x c ks (same_back c x t)))
  | inr f ↦
      let off = other_back c x f in
      let any = any_others c x f ks in
      elim (cases_Bool (list_any (is_same c) ks)) [
        | inl some ↦ rw (f, any, some) refl
        | inr none ↦ rw (f, any, none) (ap (λ l. x ∷ l) (others_more x c ks ∙ rw off refl))
      ]
]

once_more : (calls : List Call) (c : Call) → each_once (calls ++ c ∷ []) ≡ snoc (each_once calls) c
once_more [] c = refl
once_more (x ∷ calls) c = ap (λ ks. x ∷ others x ks) (once_more calls c) ∙ once_step x c (each_once calls)

-- no call is the same as one behind it
abbrev AreApart : List Call → Type 0
AreApart [] = Unit {0}
AreApart (k ∷ ks) = (list_any (is_same k) ks ≡ false) × AreApart ks

apart_others : (x : Call) (ks : List Call) → AreApart ks → AreApart (others x ks)
apart_others x [] h = tt
apart_others x (k ∷ ks) h = elim (cases_Bool (is_same x k)) [
  | inl t ↦ rw t (apart_others x ks h.1)
  | inr f ↦ rw f (any_others k x (other_back x k f) ks ∙ h.0, apart_others x ks h.1)
]

once_apart : (calls : List Call) → AreApart (each_once calls)
once_apart [] = tt
once_apart (x ∷ calls) = (none_same x (each_once calls), apart_others x (each_once calls) (once_apart calls))

-- ---- with how often each was made

abbrev pairs : (Call → ℕ) → List Call → List (Call × ℕ)
pairs times calls = map (λ call. (call, times call)) calls

snoc_else : (c k : Call) (ks : List Call) → is_same c k ≡ false → snoc (k ∷ ks) c ≡ k ∷ snoc ks c
snoc_else c k ks f = elim (cases_Bool (list_any (is_same c) ks)) [
  | inl some ↦ rw (f, some) refl
  | inr none ↦ rw (f, none) refl
]

module _ (f g : Call → ℕ) (c : Call) (more : (k : Call) → is_same c k ≡ true → g k ≡ f k + 1) (kept : (k : Call) → is_same c k ≡ false → g k ≡ f k) where
  unchanged : (ks : List Call) → list_any (is_same c) ks ≡ false → pairs f ks ≡ pairs g ks
  unchanged [] h = refl
  unchanged (k ∷ ks) h = elim (cases_Bool (is_same c k)) [
    | inl t ↦ let no_one = rw t at h in absurd (true≢false no_one)
    | inr other ↦ let rest = rw other at h in let same = sym (kept k other) in let next = unchanged ks rest in λ i. (k, same i) ∷ next i
  ]

  pub inserted : (ks : List Call) → AreApart ks → (list_any (is_same c) ks ≡ false → g c ≡ 1) → with_call c (pairs f ks) ≡ pairs g (snoc ks c)
  inserted [] apart new = let one = new refl in rw one refl
  inserted (k ∷ ks) apart new = elim (cases_Bool (is_same c k)) [
    | inl t ↦
        let rest = unchanged ks (ap (λ x. list_any (is_same x) ks) (same_is c k t) ∙ apart.0) in
        let one = sym (more k t) in
        rw t (λ i. (k, one i) ∷ rest i)
    | inr other ↦
        let rest = inserted ks apart.1 (λ h. new (rw other h)) in
        let same = ap (pairs g) (snoc_else c k ks other) in
        let one = sym (kept k other) in
        rw (same, other) (λ i. (k, one i) ∷ rest i)
  ]

count_more : (k c : Call) (calls : List Call) → count_by (is_same k) (calls ++ c ∷ []) ≡ count_by (is_same k) calls + cond (is_same k c) 1 0
count_more k c calls =
    let e : count_by (is_same k) (calls ++ c ∷ []) ≡ count_by (is_same k) calls + (0 + cond (is_same k c) 1 0) =
    sum_by-append (λ call. cond (is_same k call) 1 0) calls (c ∷ []) in
    omega (arith, e)

never : (c : Call) (calls : List Call) → list_any (is_same c) (each_once calls) ≡ false → count_by (is_same c) calls ≡ 0
never c [] h = refl
never c (x ∷ calls) h = elim (cases_Bool (is_same c x)) [
  | inl t ↦ let no_one = rw t at h in absurd (true≢false no_one)
  | inr f ↦
      let rest = rw f at h in
      let none = never c calls (sym (any_others c x f (each_once calls)) ∙ rest) in
      let parts = sum_by-append (λ call. cond (is_same c call) 1 0) (x ∷ []) calls in
      parts ∙ rw (f, none) refl
]

pub tallied_more : (calls : List Call) (c : Call) → with_call c (tallied calls) ≡ tallied (calls ++ c ∷ [])
tallied_more calls c =
    inserted (λ k. count_by (is_same k) calls) (λ k. count_by (is_same k) (calls ++ c ∷ [])) c
    (λ k t. let b = same_back c k t in count_more k c calls ∙ rw b refl)
    (λ k f. let b = other_back c k f in count_more k c calls ∙ rw b (omega arith))
    (each_once calls) (once_apart calls)
    (λ none. let s = same_self c in let z = never c calls none in count_more c c calls ∙ rw (s, z) refl)
    ∙ ap (pairs (λ k. count_by (is_same k) (calls ++ c ∷ []))) (sym (once_more calls c))

-- ---- no call was made more often than there are calls

times_few : (f : Call → ℕ) (most : ℕ) (c : Call) → ((k : Call) → f k ≤ most) → (ks : List Call) → times_of (pairs f ks) c ≤ most
times_few f most c few [] = omega arith
times_few f most c few (k ∷ ks) = elim (cases_Bool (is_same c k)) [
  | inl t ↦ rw t (few k)
  | inr other ↦ rw other (times_few f most c few ks)
]

pub times_within : (calls : List Call) (c : Call) → times_of (tallied calls) c ≤ length calls
times_within calls c = times_few (λ k. count_by (is_same k) calls) (length calls) c (λ k. count_by-le-length (is_same k) calls) (each_once calls)
