-- A lineage that is read from the last event back.
use Rattle.std.proofs.Common.{◌≡◌, ◌∙◌, ◌<◌, ◌+◌, ℕ, suc, arith, length, ap, sym, refl, reverse, append_assoc, List, [], ◌∷◌, ◌++◌, Option, None, Some, take, option_to_list, zip}
use Rattle.std.proofs.lemmas.List.{length-take-le}
use Rattle.sk_kernel.proofs.Common.{take_more, reverse-append, Record, Event, Answer, Lineage, Happening, lineage_before, calls_added, with_calls, lineage_of, history_of}
use lib.ListN.{get_or}

zip_more : (es : List Event) (told : List Answer) (event : Event) (answer : Answer) → length es ≡ length told
    → zip (es ++ event ∷ []) (told ++ answer ∷ []) ≡ zip es told ++ (event, answer) ∷ []
zip_more [] [] event answer same = refl
zip_more [] (a ∷ told) event answer same = absurd (zero_is_more (length told) same)
  where
    zero_is_more : (n : ℕ) → 0 ≡ suc n → ⊥
    zero_is_more n same = omega (arith, same)
zip_more (e ∷ es) [] event answer same = absurd (more_is_zero (length es) same)
  where
    more_is_zero : (n : ℕ) → suc n ≡ 0 → ⊥
    more_is_zero n same = omega (arith, same)
zip_more (e ∷ es) (a ∷ told) event answer same = ap (λ rest. (e, a) ∷ rest) (zip_more es told event answer (less (length es) (length told) same))
  where
    less : (m n : ℕ) → suc m ≡ suc n → m ≡ n
    less m n same = omega (arith, same)

-- the last of the first events is the newest of their history
history_more : (es : List Event) (told : List Answer) (left : ℕ) (event : Event) (answer : Answer) → left < length es → left < length told
    → history_of (take (left + 1) es) (take (left + 1) told) ≡ (get_or es left event, get_or told left answer) ∷ history_of (take left es) (take left told)
history_more es told left event answer in_events in_answers =
    (λ i. history_of (take_more es left event in_events i) (take_more told left answer in_answers i))
    ∙ ap reverse (zip_more (take left es) (take left told) (get_or es left event) (get_or told left answer)
    (length-take-le left es (omega (arith, in_events)) ∙ sym (length-take-le left told (omega (arith, in_answers)))))
    ∙ reverse-append (zip (take left es) (take left told)) ((get_or es left event, get_or told left answer) ∷ [])

one_reversed : (calls : List Record) (o : Option Record) → reverse (calls ++ option_to_list o) ≡ option_to_list o ++ reverse calls
one_reversed calls None = reverse-append calls []
one_reversed calls (Some call) = reverse-append calls (call ∷ [])

-- a lineage that is known from an event on is known from the one before on
pub lineage_back : (es : List Event) (told : List Answer) (left : ℕ) (event : Event) (answer : Answer) (root : ℕ) (calls : List Record) (o : Option Record) (lineage : Lineage)
    → left < length es → left < length told
    → option_to_list o ≡ calls_added root (get_or es left event, get_or told left answer)
    → with_calls (reverse calls) (lineage_of (history_of (take (left + 1) es) (take (left + 1) told)) root) ≡ lineage
    → with_calls (reverse (calls ++ option_to_list o)) (lineage_of (history_of (take left es) (take left told)) (lineage_before root (get_or es left event, get_or told left answer))) ≡ lineage
lineage_back es told left event answer root calls o lineage in_events in_answers added known =
    let newest : Happening = (get_or es left event, get_or told left answer) in
    let before : Lineage = lineage_of (history_of (take left es) (take left told)) (lineage_before root newest) in
    ap (λ cs. with_calls cs before) (one_reversed calls o ∙ ap (λ cs. cs ++ reverse calls) added)
    ∙ ap (λ cs. record before { calls = cs }) (sym (append_assoc before.calls (calls_added root newest) (reverse calls)))
    ∙ ap (λ h. with_calls (reverse calls) (lineage_of h root)) (sym (history_more es told left event answer in_events in_answers))
    ∙ known
