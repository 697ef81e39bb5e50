-- The conditions of an entry are on the six arguments, each on another one.
use Rattle.std.proofs.Common.{◌≡◌, ℕ, ◌<◌, ◌≤◌, ◌&&◌, ◌||◌, eqb, not, Bool, true, false, cond, List, [], ◌∷◌, length, map, Option, Some, None, Result, Ok, Err, refl, sym, rules, arith}
use Rattle.std.specs.Option.{unwrap_or}
use Rattle.std.specs.Result.{result_ok}
use Rattle.std.specs.List.{All, list_any, cons_option, AllByRecursion, IsDistinct}
use Rattle.std.proofs.lemmas.List.{length-map}
use Rattle.std.proofs.lemmas.List.Elements.{All-cons, All-nil, All-tail}
use Rattle.std.proofs.lemmas.Bool.{eqb-true, eq-eqb}
use Rattle.std.proofs.lemmas.Map.Steps.{length-le_from_distinct_below}
use Rattle.json.specs.Json.{Json}
use Rattle.sk_profile.specs.declared.condition.Condition.{Condition}
use Rattle.sk_profile.specs.declared.condition.Test.{Test}
use Rattle.sk_profile.specs.declared.condition.Test.TheVariants.{Is, IsNot, Below, AtMost, Above, AtLeast, Masked}
use Rattle.sk_profile.specs.Sayings.{are_apart, is_on}
use Rattle.sk_profile_json.specs.declared.fault.Field.TheVariants as field
use Rattle.sk_profile_json.specs.declared.fault.Wrong.{Wrong}
use Rattle.sk_profile_json.specs.Arguments.{condition_of, condition_if, comparison_in, condition_with, operator_in, greatest_index, greatest_value, argument_fields}
use Rattle.sk_profile_json.specs.Conditions.{conditions_of}
use Rattle.sk_profile_json.specs.Fields.{result_then, wrong_keys, number_in, required}
use Rattle.sk_profile_json.proofs.Bounded.{number_in-most}

-- ---- one condition

if-ok : (b : Bool) (c other : Condition) (wrong : Wrong) → cond b (Ok c) (Err wrong) ≡ Ok other → c ≡ other
if-ok true c other wrong h = search (rules, h)
if-ok false c other wrong h = absurd (search (rules, h))

condition_with-index : (index value two : ℕ) (test : Test) (c : Condition) → condition_with index value two test ≡ Ok c → c.index ≡ index
condition_with-index index value two (Masked mask) c h = let e = if-ok _ _ _ _ h in search (rules, e)
condition_with-index index value two Is c h = let e = if-ok _ _ _ _ h in search (rules, e)
condition_with-index index value two IsNot c h = let e = if-ok _ _ _ _ h in search (rules, e)
condition_with-index index value two Below c h = let e = if-ok _ _ _ _ h in search (rules, e)
condition_with-index index value two AtMost c h = let e = if-ok _ _ _ _ h in search (rules, e)
condition_with-index index value two Above c h = let e = if-ok _ _ _ _ h in search (rules, e)
condition_with-index index value two AtLeast c h = let e = if-ok _ _ _ _ h in search (rules, e)

with_test : (index value two : ℕ) (r : Result Test Wrong) (c : Condition)
    → result_then (condition_with index value two) r ≡ Ok c → c.index ≡ index
with_test index value two (Ok test) c h = condition_with-index index value two test c h
with_test index value two (Err wrong) c h = absurd (search (rules, h))

with_two : (index value : ℕ) (j : Json) (r : Result (Option ℕ) Wrong) (c : Condition)
    → result_then (λ two. result_then (condition_with index value (unwrap_or two 0)) (operator_in value j)) r ≡ Ok c → c.index ≡ index
with_two index value j (Ok two) c h = with_test index value (unwrap_or two 0) (operator_in value j) c h
with_two index value j (Err wrong) c h = absurd (search (rules, h))

with_value : (index : ℕ) (j : Json) (r : Result ℕ Wrong) (c : Condition)
    → result_then (λ value. result_then (λ two. result_then (condition_with index value (unwrap_or two 0))
    (operator_in value j)) (number_in greatest_value field.ValueTwo j)) r ≡ Ok c → c.index ≡ index
with_value index j (Ok value) c h = with_two index value j (number_in greatest_value field.ValueTwo j) c h
with_value index j (Err wrong) c h = absurd (search (rules, h))

comparison_in-index : (index : ℕ) (j : Json) (c : Condition) → comparison_in index j ≡ Ok c → c.index ≡ index
comparison_in-index index j c h =
    with_value index j (result_then (required field.Value) (number_in greatest_value field.Value j)) c h

with_index : (j : Json) (r : Result (Option ℕ) Wrong) (c : Condition) → ((n : ℕ) → r ≡ Ok (Some n) → n ≤ 5)
    → result_then (λ index. comparison_in index j) (result_then (required field.Index) r) ≡ Ok c → c.index < 6
with_index j (Ok (Some n)) c most h = let e = comparison_in-index n j c h in let m = most n refl in omega arith
with_index j (Ok None) c most h = absurd (search (rules, h))
with_index j (Err wrong) c most h = absurd (search (rules, h))

condition_if-index : (o : Option Wrong) (j : Json) (c : Condition) → condition_if o j ≡ Ok c → c.index < 6
condition_if-index (Some wrong) j c h = absurd (search (rules, h))
condition_if-index None j c h =
    with_index j (number_in greatest_index field.Index j) c (λ n e. number_in-most greatest_index field.Index j n e) h

condition_of-index : (j : Json) (c : Condition) → condition_of j ≡ Ok c → c.index < 6
condition_of-index j c h = condition_if-index (wrong_keys argument_fields j) j c h

-- ---- all of them

abbrev pub IsAsked : Condition → Type 0
IsAsked c = c.index < 6

told-asked : (r : Result Condition Wrong) (rest : List Condition) → ((c : Condition) → r ≡ Ok c → IsAsked c) → All IsAsked rest
    → All IsAsked (cons_option (result_ok r) rest)
told-asked (Ok c) rest each h = All-cons IsAsked c rest (each c refl) h
told-asked (Err wrong) rest each h = h

pub conditions_of-asked : (js : List Json) → All IsAsked (conditions_of js)
conditions_of-asked [] = All-nil IsAsked
conditions_of-asked (j ∷ js) = told-asked (condition_of j) (conditions_of js) (λ c e. condition_of-index j c e) (conditions_of-asked js)

-- ---- at most six

abbrev indices : List Condition → List ℕ
indices conditions = map (λ (c : Condition). c.index) conditions

both-fail : (a b : Bool) → (a || b) ≡ false → (a ≡ false) × (b ≡ false)
both-fail true b h = absurd (search (rules, h))
both-fail false b h = (refl, h)

both-pass : (a b : Bool) → (not a && b) ≡ true → (a ≡ false) × (b ≡ true)
both-pass true b h = absurd (search (rules, h))
both-pass false b h = (refl, h)

alike : (a b : ℕ) (t : Bool) → eqb a b ≡ t → eqb b a ≡ false → t ≡ false
alike a b true h e = let same = eqb-true a b h in absurd (let other = eq-eqb b a (sym same) in search (rules, other, e))
alike a b false h e = refl

unlike : (a b : ℕ) → eqb b a ≡ false → eqb a b ≡ false
unlike a b e = alike a b (eqb a b) refl e

apart-any : (index : ℕ) (conditions : List Condition) → list_any (is_on index) conditions ≡ false
    → AllByRecursion (λ other. eqb index other ≡ false) (indices conditions)
apart-any index [] h = tt
apart-any index (c ∷ conditions) h =
    let fail = both-fail (is_on index c) (list_any (is_on index) conditions) h in
    (unlike index c.index fail.0, apart-any index conditions fail.1)

distinct-apart : (conditions : List Condition) → are_apart conditions ≡ true → IsDistinct eqb (indices conditions)
unfolding IsDistinct
distinct-apart [] h = tt
distinct-apart (c ∷ conditions) h =
    let pass = both-pass (list_any (is_on c.index) conditions) (are_apart conditions) h in
    (apart-any c.index conditions pass.0, distinct-apart conditions pass.1)

below-any : (index other : ℕ) (same rest : Bool) → eqb index other ≡ same → other < 6 → (rest ≡ true → index < 6) → (same || rest) ≡ true
    → index < 6
below-any index other true rest s h more e = let same = eqb-true index other s in omega arith
below-any index other false rest s h more e = more e

below-six : (conditions : List Condition) → All IsAsked conditions → (index : ℕ) → list_any (eqb index) (indices conditions) ≡ true → index < 6
below-six [] asked index h = absurd (search (rules, h))
below-six (c ∷ conditions) asked index h =
    below-any index c.index (eqb index c.index) (list_any (eqb index) (indices conditions)) refl (asked 0 c (omega arith))
    (below-six conditions (All-tail IsAsked c conditions asked) index) h

pub apart-few : (conditions : List Condition) → are_apart conditions ≡ true → All IsAsked conditions → length conditions ≤ 6
apart-few conditions h asked =
    let few = length-le_from_distinct_below (indices conditions) 6 (distinct-apart conditions h) (below-six conditions asked) in
    rw (length-map conditions (λ (c : Condition). c.index)) at few
