-- Conditions on arguments hold where the calls of logs show it.
use Rattle.std.proofs.Common.{◌≡◌, ◌≤◌, ◌<◌, ◌+◌, ◌^◌, ◌==◌, ◌&&◌, ◌||◌, ◌∙◌, ap, arith, sym, refl, subst, inl, inr, ℕ, zero, suc, List, [], ◌∷◌, ◌++◌, length, map, flat_map, if◌then◌else◌, nat_le, bit_and, slice_index_or, Bool, true, false, Option, Some, None}
use Rattle.std.specs.Prelude.{Contains}
use Rattle.std.specs.List.{All, list_all, list_any, range_with_len}
use Rattle.std.specs.BTreeSet.{insert_key}
use Rattle.std.specs.Ordering.{nat_cmp}
use Rattle.std.proofs.lemmas.Bool.{cases_Bool, and_parts, eqb-true, eqb-false, eq-eqb, leb-true, leb-false, le-leb, true≢false}
use Rattle.std.proofs.lemmas.Nat.{and_le_r}
use Rattle.std.proofs.lemmas.List.Elements.{All-nil, All-cons, All-head, All-tail, All-append, All-contains}
use Rattle.std.proofs.lemmas.List.Folds.{list_all-append}
use Rattle.std.proofs.lemmas.Map.Views.{All-insert_key}
use Rattle.sk_insn.specs.declared.record.Record.{Record}
use Rattle.sk_insn.specs.Actions.{allow}
use Rattle.sk_names.specs.declared.architecture.Architecture.{Architecture}
use Rattle.sk_arguments.specs.declared.kinds.Kind.{Kind}
use Rattle.sk_arguments.specs.declared.kinds.Kind.TheVariants as kind
use Rattle.sk_arguments.specs.Reading.{argument_name, kind_of}
use Rattle.sk_replay.specs.declared.call.Call.{Call}
use Rattle.sk_replay.specs.declared.value.Value.{Value}
use Rattle.sk_replay.specs.declared.value.Value.TheVariants.{Told, Unknown}
use Rattle.sk_replay.specs.Calls.{is_unknown, number_or_0}
use Rattle.sk_replay.specs.Logged.{is_among, is_made}
use Rattle.sk_replay.specs.Seen.{bits_shown, calls_with, hides, rising, seen_numbers, shown_value}
use Rattle.sk_replay.proofs.SeenOrder.{rising_are_all}
use Rattle.sk_terms.specs.declared.lines.Line.{Line}
use Rattle.sk_terms.specs.Lines.{meets_line}
use Rattle.sk_terms.specs.Terms.{holds_term}
use Rattle.sk_terms.proofs.WorkedLines.{line_met, met_terms}
use Rattle.sk_policy_text.specs.PolicyRows.{is_of_x32}
use Rattle.sk_policy_when.specs.Narrowing.{Condition, condition_at, condition_of, condition_under, conditions_for, conditions_on, holds, holds_each, is_address, number_bits, read_bits, refused, term_of, terms_in, terms_of}
use Rattle.sk_policy_when.specs.Allowing.{IsAsLogged, IsSeen, LoggedAreAllowed, NarrowedAreSeen, NoOthersAreAllowed, allowed_verdict, logged_calls, row_verdict, written_for}

-- ---- terms say what conditions say

-- the range from a number to itself is the number
range_of_one : (k n : ℕ) → (nat_le k n && nat_le n k) ≡ (k == n)
range_of_one k n = by_tests (k == n) (nat_le k n) (nat_le n k) refl refl refl
  where
    by_tests : (b x y : Bool) → (k == n) ≡ b → nat_le k n ≡ x → nat_le n k ≡ y → (x && y) ≡ b
    by_tests true true true e g h = refl
    by_tests true true false e g h = let same = eqb-true k n e in let more = leb-false n k h in absurd (omega (arith, same, more))
    by_tests true false y e g h = let same = eqb-true k n e in let less = leb-false k n g in absurd (omega (arith, same, less))
    by_tests false true true e g h =
        let least = leb-true k n g in
        let most = leb-true n k h in
        absurd (eqb-false k n e (omega (arith, least, most)))
    by_tests false true false e g h = refl
    by_tests false false y e g h = refl

one_holds : (i mask : ℕ) (numbers : List ℕ) (call : Record) → list_any (λ term. holds_term term call) (map (term_of i mask) numbers) ≡ is_among (bit_and (slice_index_or call.args i 0) mask) numbers
one_holds i mask [] call = refl
one_holds i mask (n ∷ numbers) call =
    ap (λ b. b || list_any (λ term. holds_term term call) (map (term_of i mask) numbers)) (range_of_one n (bit_and (slice_index_or call.args i 0) mask))
    ∙ ap (λ b. (n == bit_and (slice_index_or call.args i 0) mask) || b) (one_holds i mask numbers call)

each_holds : (conditions : List Condition) (call : Record) → met_terms (map terms_of conditions) call ≡ holds_each call conditions
each_holds [] call = refl
each_holds (it ∷ conditions) call =
    ap (λ b. b && met_terms (map terms_of conditions) call) (one_holds it.argument it.mask it.numbers call) ∙ ap (λ b. holds call it && b) (each_holds conditions call)

-- a line with these terms is met where the conditions hold
pub line_holds : (line : Line) (conditions : List Condition) (call : Record) → terms_in line.choices.items ≡ map terms_of conditions → meets_line line call ≡ holds_each call conditions
line_holds line conditions call are = line_met line call (map terms_of conditions) are ∙ each_holds conditions call

-- ---- what is seen of calls

or_true : (b : Bool) → (b || true) ≡ true
or_true true = refl
or_true false = refl

any_there : (p : Call → Bool) (calls : List Call) (logged : Call) → p logged ≡ true → (k : ℕ) → k < length calls → slice_index_or calls k logged ≡ logged → list_any p calls ≡ true
any_there p [] logged passing k inside is = absurd (omega (arith, inside))
any_there p (call ∷ calls) logged passing zero inside is = let here : p call ≡ true = ap p is ∙ passing in ap (λ b. b || list_any p calls) here
any_there p (call ∷ calls) logged passing (suc k) inside is = ap (λ b. p call || b) (any_there p calls logged passing k (omega (arith, inside)) is) ∙ or_true (p call)

-- a call that passes the test
record Passes (p : Call → Bool) (calls : List Call) : Type 0 where
  call : Call
  there : Contains calls call
  passes : p call ≡ true

one_passes : (p : Call → Bool) (calls : List Call) → list_any p calls ≡ true → Passes p calls
one_passes p [] some = absurd (true≢false (sym some))
one_passes p (call ∷ calls) some = elim (cases_Bool (p call)) [
  | inl t ↦ record { call = call; there = (zero, omega arith, refl); passes = t }
  | inr f ↦
      let rest = one_passes p calls (sym (ap (λ b. b || list_any p calls) f) ∙ some) in
      record { call = rest.call; there = (suc rest.there.0, omega (arith, rest.there.1), rest.there.2); passes = rest.passes }
]

any_with : (p : Call → Bool) (nr : ℕ) (calls : List Call) → list_any p (calls_with nr calls) ≡ list_any (λ call. (call.nr == nr) && p call) calls
any_with p nr [] = refl
any_with p nr (call ∷ calls) = elim (cases_Bool (call.nr == nr)) [
  | inl t ↦ rw t (ap (λ b. p call || b) (any_with p nr calls))
  | inr f ↦ rw f (any_with p nr calls)
]

any_number : (f : Call → ℕ) (n : ℕ) (calls : List Call) → is_among n (map f calls) ≡ list_any (λ call. f call == n) calls
any_number f n [] = refl
any_number f n (call ∷ calls) = ap (λ b. (f call == n) || b) (any_number f n calls)

module _ (calls : List Call) (nr i mask : ℕ) (numbers : List ℕ) (seen : seen_numbers calls nr i mask ≡ Some numbers) where
  some_shown : (b : Bool) (shown : List ℕ) → (if b then None else Some shown) ≡ Some numbers → (b ≡ false) × (numbers ≡ shown)
  some_shown true shown is = cc
  some_shown false shown is = let same : shown ≡ numbers = cc in (refl, sym same)

  are_shown : (list_any (hides i) (calls_with nr calls) ≡ false) × (numbers ≡ rising (map (bits_shown i mask) (calls_with nr calls)))
  unfolding seen_numbers
  are_shown = some_shown (list_any (hides i) (calls_with nr calls)) (rising (map (bits_shown i mask) (calls_with nr calls))) seen

  -- a number is seen where a call has it
  seen_where : (n : ℕ) → is_among n numbers ≡ list_any (λ call. (call.nr == nr) && (bits_shown i mask call == n)) calls
  seen_where n =
      ap (is_among n) are_shown.1 ∙ rising_are_all (map (bits_shown i mask) (calls_with nr calls)) n
      ∙ any_number (bits_shown i mask) n (calls_with nr calls)
      ∙ any_with (λ call. bits_shown i mask call == n) nr calls

  -- each of these calls shows the argument
  told_there : (logged : Call) → Contains calls logged → logged.nr ≡ nr → (n : ℕ) × (shown_value logged i ≡ Told n)
  told_there logged there same = by_value (shown_value logged i) refl
    where
      by_value : (value : Value) → shown_value logged i ≡ value → (n : ℕ) × (value ≡ Told n)
      by_value (Told n) is = (n, refl)
      by_value Unknown is =
          let number = eq-eqb logged.nr nr same in
          let hidden : ((logged.nr == nr) && hides i logged) ≡ true = rw number (ap is_unknown is) in
          let some = any_there (λ call. (call.nr == nr) && hides i call) calls logged hidden there.0 there.1 there.2 in
          absurd (true≢false (sym some ∙ sym (any_with (hides i) nr calls) ∙ are_shown.0))

  -- so its number is seen
  pub number_seen : (logged : Call) → Contains calls logged → logged.nr ≡ nr → is_among (bits_shown i mask logged) numbers ≡ true
  number_seen logged there same =
      let number = eq-eqb logged.nr nr same in
      let its = eq-eqb (bits_shown i mask logged) (bits_shown i mask logged) refl in
      let both : ((logged.nr == nr) && (bits_shown i mask logged == bits_shown i mask logged)) ≡ true = rw number its in
      seen_where (bits_shown i mask logged) ∙ any_there (λ call. (call.nr == nr) && (bits_shown i mask call == bits_shown i mask logged)) calls logged both there.0 there.1 there.2

  -- and a number that is seen is that of a call
  pub seen_of_call : (call : Record) → call.nr ≡ nr → is_among (bit_and (slice_index_or call.args i 0) mask) numbers ≡ true
      → IsSeen calls call (record { argument = i; mask = mask; numbers = numbers })
  seen_of_call call is among =
      let bits = bit_and (slice_index_or call.args i 0) mask in
      let found = one_passes (λ other. (other.nr == nr) && (bits_shown i mask other == bits)) calls (sym (seen_where bits) ∙ among) in
      let parts = and_parts (found.call.nr == nr) (bits_shown i mask found.call == bits) found.passes in
      let number = eqb-true found.call.nr nr parts.0 in
      let same = eqb-true (bits_shown i mask found.call) bits parts.1 in
      let told = told_there found.call found.there number in
      record {
        logged = found.call;
        there = found.there;
        number = number ∙ sym is;
        value = told.0;
        shown = told.1;
        same = sym same ∙ ap (λ v. bit_and (number_or_0 v) mask) {y = Told told.0} told.1;
      }

-- ---- conditions of all arguments

-- what is true of each condition on an argument is true of all conditions
module _ (P : Condition → Type 0) (calls : List Call) (nr : ℕ) where
  pub of_all : (places : List ℕ) → All (λ i. All P (condition_at calls nr i)) places → All P (flat_map (condition_at calls nr) places)
  of_all [] each = All-nil P
  of_all (i ∷ places) each =
      All-append P (condition_at calls nr i) (flat_map (condition_at calls nr) places) (All-contains (λ i. All P (condition_at calls nr i)) (i ∷ places) i each (zero, omega arith, refl))
      (of_all places (rest each))
    where
      rest : All (λ i. All P (condition_at calls nr i)) (i ∷ places) → All (λ i. All P (condition_at calls nr i)) places
      rest all = All-tail (λ i. All P (condition_at calls nr i)) i places all

  -- it is true where numbers are seen
  pub one_of : (i : ℕ)
      → ((mask first : ℕ) (numbers : List ℕ) → number_bits nr i ≡ Some mask → seen_numbers calls nr i mask ≡ Some (first ∷ numbers) → P (record { argument = i; mask = mask; numbers = first ∷ numbers }))
      → All P (condition_at calls nr i)
  one_of i give = by_bits (number_bits nr i) refl
    where
      by_seen : (mask : ℕ) (seen : Option (List ℕ)) → number_bits nr i ≡ Some mask → seen_numbers calls nr i mask ≡ seen → All P (condition_of i mask seen)
      by_seen mask None bits is = All-nil P
      by_seen mask (Some []) bits is = All-nil P
      by_seen mask (Some (first ∷ numbers)) bits is = All-cons P (record { argument = i; mask = mask; numbers = first ∷ numbers }) [] (give mask first numbers bits is) (All-nil P)

      by_bits : (bits : Option ℕ) → number_bits nr i ≡ bits → All P (condition_under calls nr i bits)
      by_bits None is = All-nil P
      by_bits (Some mask) is = by_seen mask (seen_numbers calls nr i mask) is refl

  pub each_of : ((i mask first : ℕ) (numbers : List ℕ) → i < 6 → number_bits nr i ≡ Some mask → seen_numbers calls nr i mask ≡ Some (first ∷ numbers)
      → P (record { argument = i; mask = mask; numbers = first ∷ numbers })) → All P (conditions_on calls nr)
  each_of give = of_all (range_with_len 0 6) six
    where
      Q : ℕ → Type 0
      Q i = All P (condition_at calls nr i)

      at : (i : ℕ) → i < 6 → Q i
      at i small = one_of i (λ mask first numbers bits seen. give i mask first numbers small bits seen)

      six : All Q (range_with_len 0 6)
      six =
          All-cons Q 0 (range_with_len 1 5) (at 0 (omega arith))
          (All-cons Q 1 (range_with_len 2 4) (at 1 (omega arith))
          (All-cons Q 2 (range_with_len 3 3) (at 2 (omega arith))
          (All-cons Q 3 (range_with_len 4 2) (at 3 (omega arith))
          (All-cons Q 4 (range_with_len 5 1) (at 4 (omega arith))
          (All-cons Q 5 [] (at 5 (omega arith)) (All-nil Q))))))

  -- and so of those of a call that may be narrowed
  pub each_for : (narrowed : List ℕ) → All P (conditions_on calls nr) → All P (conditions_for narrowed calls nr)
  each_for narrowed all = elim (cases_Bool (is_among nr narrowed)) [
    | inl t ↦ rw t all
    | inr f ↦ rw f (All-nil P)
  ]

-- ---- each call of a log is allowed

holds_all : (call : Record) (conditions : List Condition) → All (λ it. holds call it ≡ true) conditions → holds_each call conditions ≡ true
holds_all call [] all = refl
holds_all call (it ∷ conditions) all =
    let here = All-head (λ it. holds call it ≡ true) it conditions all in
    let rest = holds_all call conditions (All-tail (λ it. holds call it ≡ true) it conditions all) in
    rw (here, rest) refl

logged_hold : (calls : List Call) (narrowed : List ℕ) (logged : Call) (call : Record) → Contains calls logged → IsAsLogged logged call → holds_each call (conditions_for narrowed calls logged.nr) ≡ true
logged_hold calls narrowed logged call there shows = holds_all call (conditions_for narrowed calls logged.nr) (each_for (λ it. holds call it ≡ true) calls logged.nr narrowed (each_of (λ it. holds call it ≡ true) calls logged.nr give))
  where
    give : (i mask first : ℕ) (numbers : List ℕ) → i < 6 → number_bits logged.nr i ≡ Some mask → seen_numbers calls logged.nr i mask ≡ Some (first ∷ numbers)
        → is_among (bit_and (slice_index_or call.args i 0) mask) (first ∷ numbers) ≡ true
    give i mask first numbers small bits seen =
        let told = told_there calls logged.nr i mask (first ∷ numbers) seen logged there refl in
        let same : bit_and (slice_index_or call.args i 0) mask ≡ bits_shown i mask logged = shows.arguments i mask told.0 bits told.1 ∙ sym (ap (λ v. bit_and (number_or_0 v) mask) told.1) in
        ap (λ n. is_among n (first ∷ numbers)) same ∙ number_seen calls logged.nr i mask (first ∷ numbers) seen logged there refl

pub logged_are_allowed : LoggedAreAllowed
logged_are_allowed by numbers narrowed calls logged call there among shows =
    let here : is_among call.nr numbers ≡ true = ap (λ nr. is_among nr numbers) shows.number ∙ among in
    let all : holds_each call (conditions_for narrowed calls call.nr) ≡ true = ap (λ nr. holds_each call (conditions_for narrowed calls nr)) shows.number ∙ logged_hold calls narrowed logged call there shows in
    rw (here, all) refl

-- ---- and no others are

no_allow : (b : Bool) → (if b then 0x80000000 else refused) ≡ allow → ⊥
no_allow true is = omega (arith, is)
no_allow false is = omega (arith, is)

-- a verdict is allow where there is a row that says so
row_allows : (among x32 each : Bool) → (if among then (if each then allow else refused) else if x32 then 0x80000000 else refused) ≡ allow → (among ≡ true) × (each ≡ true)
row_allows true x32 true is = (refl, refl)
row_allows true x32 false is = absurd (omega (arith, is))
row_allows false x32 each is = absurd (no_allow x32 is)

pub no_others_are_allowed : NoOthersAreAllowed
no_others_are_allowed by logs narrowed call is =
    (row_allows (is_made by call.nr logs) (is_of_x32 (written_for by) call.nr) (holds_each call (conditions_for narrowed (logged_calls by logs) call.nr)) is).0

-- where all hold each of them does
all_hold : (call : Record) (conditions : List Condition) → holds_each call conditions ≡ true → All (λ it. holds call it ≡ true) conditions
all_hold call [] each = All-nil (λ it. holds call it ≡ true)
all_hold call (it ∷ conditions) each =
    let parts = and_parts (holds call it) (holds_each call conditions) each in All-cons (λ it. holds call it ≡ true) it conditions parts.0 (all_hold call conditions parts.1)

-- a condition that holds is seen
abbrev IsSeenIf : List Call → Record → Condition → Type 0
IsSeenIf calls call it = holds call it ≡ true → IsSeen calls call it

pub narrowed_are_seen : NarrowedAreSeen
narrowed_are_seen by numbers narrowed calls call it is there =
    let each = (row_allows (is_among call.nr numbers) (is_of_x32 by call.nr) (holds_each call (conditions_for narrowed calls call.nr)) is).1 in
    let held = All-contains (λ it. holds call it ≡ true) (conditions_for narrowed calls call.nr) it (all_hold call (conditions_for narrowed calls call.nr) each) there in
    All-contains (IsSeenIf calls call) (conditions_for narrowed calls call.nr) it
    (each_for (IsSeenIf calls call) calls call.nr narrowed (each_of (IsSeenIf calls call) calls call.nr (λ i mask first more small bits seen among. seen_of_call calls call.nr i mask (first ∷ more) seen call refl among))) there held

-- ---- numbers of conditions have 64 bits

-- a condition on an argument that calls have, on numbers of 64 bits, of which there is one
pub record IsFit (it : Condition) : Type 0 where
  pub argument : it.argument < 6
  pub mask : it.mask < 2 ^ 64
  pub some : 0 < length it.numbers
  pub numbers : All (λ n. n < 2 ^ 64) it.numbers

bits_small : (kind : Kind) (mask : ℕ) → read_bits kind ≡ Some mask → mask < 2 ^ 64
bits_small kind.Absent mask is = cc
bits_small kind.Pointer mask is = cc
bits_small kind.Mode mask is = let same : 0xffff ≡ mask = cc in omega (arith, same)
bits_small kind.Int mask is = let same : 0xffffffff ≡ mask = cc in omega (arith, same)
bits_small kind.Unsigned mask is = let same : 0xffffffff ≡ mask = cc in omega (arith, same)
bits_small kind.Long mask is = let same : 0xffffffffffffffff ≡ mask = cc in omega (arith, same)

number_small : (nr i mask : ℕ) → number_bits nr i ≡ Some mask → mask < 2 ^ 64
unfolding number_bits
number_small nr i mask is = by_test (is_address (argument_name nr i)) is
  where
    by_test : (b : Bool) → (if b then None else read_bits (kind_of nr i)) ≡ Some mask → mask < 2 ^ 64
    by_test true is = cc
    by_test false is = bits_small (kind_of nr i) mask is

rising_small : (i mask : ℕ) (calls : List Call) → mask < 2 ^ 64 → All (λ n. n < 2 ^ 64) (rising (map (bits_shown i mask) calls))
rising_small i mask [] small = All-nil (λ n. n < 2 ^ 64)
rising_small i mask (call ∷ calls) small =
    let most = and_le_r (number_or_0 (shown_value call i)) mask in
    All-insert_key nat_cmp (bits_shown i mask call) (λ n. n < 2 ^ 64) (rising (map (bits_shown i mask) calls)) (rising_small i mask calls small) (omega (arith, most, small))

pub all_fit : (narrowed : List ℕ) (calls : List Call) (nr : ℕ) → All IsFit (conditions_for narrowed calls nr)
all_fit narrowed calls nr = each_for IsFit calls nr narrowed (each_of IsFit calls nr give)
  where
    give : (i mask first : ℕ) (numbers : List ℕ) → i < 6 → number_bits nr i ≡ Some mask → seen_numbers calls nr i mask ≡ Some (first ∷ numbers)
        → IsFit (record { argument = i; mask = mask; numbers = first ∷ numbers })
    give i mask first numbers small bits seen =
        let mask_small = number_small nr i mask bits in
        record {
          argument = small;
          mask = mask_small;
          some = omega arith;
          numbers = subst (All (λ n. n < 2 ^ 64)) (sym (are_shown calls nr i mask (first ∷ numbers) seen).1) (rising_small i mask (calls_with nr calls) mask_small);
        }
