-- One call more among those of which the numbers are seen.
use Rattle.std.proofs.Common.{◌≡◌, ◌==◌, ◌<◌, ◌≤◌, ◌+◌, ◌∙◌, ap, arith, refl, sym, ℕ, zero, suc, List, [], ◌∷◌, ◌++◌, length, map, filter, take, drop, append-nil, Bool, true, false, ◌||◌, Some, None, bit_and, slice_index_or, subst}
use Rattle.std.proofs.lemmas.Bool.{eq-eqb, ne_eqb}
use Rattle.std.proofs.lemmas.List.{take_more, take-append-drop}
use Rattle.std.proofs.lemmas.List.Elements.{filter-append}
use Rattle.std.proofs.lemmas.List.Folds.{list_any-append}
use Rattle.std.specs.BTreeSet.{insert_key}
use Rattle.std.specs.List.{count_by, list_any}
use Rattle.std.specs.Ordering.{nat_cmp}
use Rattle.sk_replay.specs.declared.call.Call.{Call}
use Rattle.sk_replay.specs.declared.value.Value.TheVariants.{Told, Unknown}
use Rattle.sk_replay.specs.Calls.{is_unknown, number_or_0}
use Rattle.sk_replay.specs.Replaying.{each_once, is_same, tallied}
use Rattle.sk_replay.specs.Seen.{bits_shown, calls_with, hides, rising, seen_numbers, shown_value}
use Rattle.sk_replay.proofs.SeenOrder.{rising_more}

-- none of the calls with the number hides the argument, and these are its numbers
pub record AreShown (calls : List Call) (nr i mask : ℕ) (keys : List ℕ) : Type 0 where
  pub shown : list_any (hides i) (calls_with nr calls) ≡ false
  pub numbers : keys ≡ rising (map (bits_shown i mask) (calls_with nr calls))

pub no_calls : (nr i mask : ℕ) (keys : List ℕ) → keys ≡ [] → AreShown [] nr i mask keys
no_calls nr i mask keys none = record { shown = refl; numbers = none }

pub all_seen : (calls : List Call) (nr i mask : ℕ) (keys : List ℕ) → AreShown calls nr i mask keys → seen_numbers calls nr i mask ≡ Some keys
unfolding seen_numbers
all_seen calls nr i mask keys are = let shown = are.shown in rw shown (ap Some (sym are.numbers))

map_more : (f : Call → ℕ) (done : List Call) (call : Call) → map f (done ++ call ∷ []) ≡ map f done ++ f call ∷ []
map_more f [] call = refl
map_more f (first ∷ done) call = ap (λ l. f first ∷ l) (map_more f done call)

or_false : (b : Bool) → (b || false) ≡ b
or_false true = refl
or_false false = refl

or_true : (b : Bool) → (b || true) ≡ true
or_true true = refl
or_true false = refl

-- one call behind those that are done
module _ (done : List Call) (nr i mask : ℕ) (keys : List ℕ) (call : Call) where
  other_call : (call.nr == nr) ≡ false → calls_with nr (done ++ call ∷ []) ≡ calls_with nr done
  other_call other = filter-append (λ (it : Call). it.nr == nr) done (call ∷ []) ∙ rw other (append-nil (calls_with nr done))

  such_call : (call.nr == nr) ≡ true → calls_with nr (done ++ call ∷ []) ≡ calls_with nr done ++ call ∷ []
  such_call same = filter-append (λ (it : Call). it.nr == nr) done (call ∷ []) ∙ rw same refl

  any_more : list_any (hides i) (calls_with nr done ++ call ∷ []) ≡ (list_any (hides i) (calls_with nr done) || hides i call)
  any_more = list_any-append (hides i) (calls_with nr done) (call ∷ []) ∙ ap (λ b. list_any (hides i) (calls_with nr done) || b) (or_false (hides i call))

  passed : (call.nr == nr) ≡ false → AreShown done nr i mask keys → AreShown (done ++ call ∷ []) nr i mask keys
  passed other are = record {
    shown = ap (list_any (hides i)) (other_call other) ∙ are.shown;
    numbers = are.numbers ∙ sym (ap (λ l. rising (map (bits_shown i mask) l)) (other_call other));
  }

  shows : (n : ℕ) (after : List ℕ) → (call.nr == nr) ≡ true → shown_value call i ≡ Told n → after ≡ insert_key nat_cmp keys (bit_and n mask) → AreShown done nr i mask keys → AreShown (done ++ call ∷ []) nr i mask after
  shows n after same value is are = record {
    shown = ap (list_any (hides i)) (such_call same) ∙ any_more ∙ ap (λ b. b || hides i call) are.shown ∙ ap is_unknown value;
    numbers =
        is ∙ ap (λ l. insert_key nat_cmp l (bit_and n mask)) are.numbers
        ∙ ap (λ v. insert_key nat_cmp (rising (map (bits_shown i mask) (calls_with nr done))) (bit_and (number_or_0 v) mask)) (sym value)
        ∙ sym (rising_more (map (bits_shown i mask) (calls_with nr done)) (bits_shown i mask call))
        ∙ sym (ap rising (map_more (bits_shown i mask) (calls_with nr done) call))
        ∙ sym (ap (λ l. rising (map (bits_shown i mask) l)) (such_call same));
  }

  hidden_here : (call.nr == nr) ≡ true → shown_value call i ≡ Unknown → list_any (hides i) (calls_with nr (done ++ call ∷ [])) ≡ true
  hidden_here same value =
      ap (list_any (hides i)) (such_call same) ∙ any_more ∙ ap (λ v. list_any (hides i) (calls_with nr done) || is_unknown v) value ∙ or_true (list_any (hides i) (calls_with nr done))

  hidden_of_all : (rest : List Call) → (call.nr == nr) ≡ true → shown_value call i ≡ Unknown → seen_numbers ((done ++ call ∷ []) ++ rest) nr i mask ≡ None
  unfolding seen_numbers
  hidden_of_all rest same value =
      let some : list_any (hides i) (calls_with nr ((done ++ call ∷ []) ++ rest)) ≡ true =
      ap (list_any (hides i)) (filter-append (λ (it : Call). it.nr == nr) (done ++ call ∷ []) rest)
      ∙ list_any-append (hides i) (calls_with nr (done ++ call ∷ [])) (calls_with nr rest)
      ∙ ap (λ b. b || list_any (hides i) (calls_with nr rest)) (hidden_here same value) in
      rw some refl

-- the call at a place, behind those before it
module _ (calls : List Call) (index nr i mask : ℕ) (keys : List ℕ) (d : Call) (inside : index < length calls) where
  abbrev call : Call
  call = slice_index_or calls index d

  pub passed_over : (call.nr ≡ nr → ⊥) → AreShown (take index calls) nr i mask keys → AreShown (take (index + 1) calls) nr i mask keys
  passed_over other are =
      subst (λ (l : List Call). AreShown l nr i mask keys) (sym (take_more calls index d inside)) (passed (take index calls) nr i mask keys call (ne_eqb call.nr nr other) are)

  pub shown_there : (n : ℕ) (after : List ℕ) → call.nr ≡ nr → shown_value call i ≡ Told n → after ≡ insert_key nat_cmp keys (bit_and n mask) → AreShown (take index calls) nr i mask keys
      → AreShown (take (index + 1) calls) nr i mask after
  shown_there n after same value is are =
      subst (λ (l : List Call). AreShown l nr i mask after) (sym (take_more calls index d inside))
      (shows (take index calls) nr i mask keys call n after (eq-eqb call.nr nr same) value is are)

  pub hidden_there : call.nr ≡ nr → shown_value call i ≡ Unknown → seen_numbers calls nr i mask ≡ None
  hidden_there same value =
      subst (λ (l : List Call). seen_numbers l nr i mask ≡ None)
      (ap (λ l. l ++ drop (index + 1) calls) (sym (take_more calls index d inside)) ∙ take-append-drop (index + 1) calls)
      (hidden_of_all (take index calls) nr i mask keys call (drop (index + 1) calls) (eq-eqb call.nr nr same) value)

-- ---- the calls of a tally

first_of : (times : Call → ℕ) (calls : List Call) → map (λ (entry : Call × ℕ). entry.0) (map (λ (call : Call). (call, times call)) calls) ≡ calls
first_of times [] = refl
first_of times (call ∷ calls) = ap (λ l. call ∷ l) (first_of times calls)

pub tallied_once : (calls : List Call) → map (λ (entry : Call × ℕ). entry.0) (tallied calls) ≡ each_once calls
tallied_once calls = first_of (λ call. count_by (is_same call) calls) (each_once calls)

-- ---- all calls

take_past : (calls : List Call) (n : ℕ) → length calls ≤ n → take n calls ≡ calls
take_past [] zero le = refl
take_past [] (suc n) le = refl
take_past (call ∷ calls) zero le = absurd (omega (arith, le))
take_past (call ∷ calls) (suc n) le = ap (λ l. call ∷ l) (take_past calls n (omega (arith, le)))

pub all_listed : (calls : List Call) (index nr i mask : ℕ) (keys listed : List ℕ) → length calls ≤ index → listed ≡ keys → AreShown (take index calls) nr i mask keys
    → Some listed ≡ seen_numbers calls nr i mask
all_listed calls index nr i mask keys listed past are shown =
    ap Some are ∙ sym (all_seen calls nr i mask keys (subst (λ (l : List Call). AreShown l nr i mask keys) (take_past calls index past) shown))
