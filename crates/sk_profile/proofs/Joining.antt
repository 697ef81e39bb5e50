-- The code of pieces answers what the first arm says whose conditions hold.
use Rattle.std.proofs.Common.{◌≡◌, ℕ, suc, ◌+◌, ◌<◌, Bool, true, false, if◌then◌else◌, List, [], ◌∷◌, ◌++◌, length, map, flat_map, refl, ap, sym, ◌∙◌, subst, arith, append_assoc, length-append}
use Rattle.std.specs.Prelude.{All}
use Rattle.std.proofs.lemmas.Bool.{eqb-true, eqb-false, eq-eqb, ne_eqb}
use Rattle.std.proofs.lemmas.List.Elements.{All-head, All-tail, All-cons}
use Rattle.sk_insn.specs.declared.insn.Insn.{Insn}
use Rattle.sk_insn.specs.declared.record.Record.{Record}
use Rattle.sk_insn.specs.declared.operation.Comparison.TheVariants.{Equal}
use Rattle.sk_filter.specs.Meaning.{State}
use Rattle.sk_profile.specs.declared.condition.Condition.{Condition}
use Rattle.sk_profile.specs.Sayings.{low, seen, Arm, all_hold, first_held, asks, Choice, Piece, Single, Joined, arms_of}
use Rattle.sk_profile.specs.Code.{load, answer, high, high_place, low_place, half_code, conditions_code, single_code, passed_over, lows_code, choice_code, piece_code, saying_code}
use Rattle.sk_profile.specs.Means.{IsCall, IsPiece}
use Rattle.sk_profile.proofs.Steps.{Comes, load_on, branch_two, answers, past}
use Rattle.sk_profile.proofs.Halves.{register, argument, lower_seen, upper_seen, high_word, low_word}
use Rattle.sk_profile.proofs.Conditions.{conditions_on}

-- an answer, or what stands behind it
either : (b : Bool) (v w : ℕ) (rest : List Insn) (call : Record) (s : State) → Comes rest 0 call s w
    → Comes (answer v ∷ rest) (if b then 0 else 1) call s (if b then v else w)
either true v w rest call s g = answers v rest call s
either false v w rest call s g = past (answer v ∷ []) rest 0 call s w g

single_on : (narrow : Bool) (arm : Arm) (more : List Arm) (o : ℕ) (rest : List Insn) (call : Record) (s : State) → IsCall call → All (λ (c : Condition). c.index < 6) arm.conditions
    → ((t : State) → Comes rest 0 call t (first_held more o (seen narrow call))) → Comes (single_code narrow arm ++ rest) 0 call s (first_held (arm ∷ more) o (seen narrow call))
single_on narrow arm more o rest call s ok fits behind =
    let it = seen narrow call in
    subst (λ insns. Comes insns 0 call s (first_held (arm ∷ more) o it)) (sym (append_assoc (conditions_code narrow arm.conditions 1) (answer arm.value ∷ []) rest))
    (conditions_on narrow arm.conditions 1 (answer arm.value ∷ rest) call s _ ok fits
    (λ t. either (all_hold arm.conditions it) arm.value (first_held more o it) rest call t (behind t)))

-- ---- arms that ask one argument for numbers with one upper half

halves_same : (a b : ℕ) → high a ≡ high b → low a ≡ low b → a ≡ b
halves_same a b h l = omega (arith, h, l)

pub as_many : (numbers : List ℕ) → length (lows_code numbers) ≡ length numbers
as_many [] = refl
as_many (number ∷ numbers) = ap suc (as_many numbers)

beyond : (choice : Choice) → length (load (low_place choice.index) ∷ (lows_code (choice.first ∷ choice.others) ++ (answer choice.value ∷ []))) + 0 ≡ 3 + length choice.others
beyond choice = omega (arith, as_many choice.others, length-append (lows_code choice.others) (answer choice.value ∷ []))

module _ (index value : ℕ) (more : List Arm) (o : ℕ) (it : Record) where
  -- an arm that is asked for the argument's number, and one that is not
  it_holds : (number : ℕ) (numbers : List ℕ) → register it index ≡ number → first_held (map (asks index value) (number ∷ numbers) ++ more) o it ≡ value
  it_holds number numbers same = rw (eq-eqb (register it index) number same) refl

  it_fails : (number : ℕ) (numbers : List ℕ) → (register it index ≡ number → ⊥)
      → first_held (map (asks index value) (number ∷ numbers) ++ more) o it ≡ first_held (map (asks index value) numbers ++ more) o it
  it_fails number numbers other = rw (ne_eqb (register it index) number other) refl

  -- numbers with another upper half
  none_holds : (upper : ℕ) (numbers : List ℕ) → (high (register it index) ≡ upper → ⊥) → All (λ number. high number ≡ upper) numbers
      → first_held (map (asks index value) numbers ++ more) o it ≡ first_held more o it
  none_holds upper [] other all = refl
  none_holds upper (number ∷ numbers) other all =
      it_fails number numbers (λ same. other (ap high same ∙ All-head (λ number. high number ≡ upper) number numbers all))
      ∙ none_holds upper numbers other (All-tail (λ number. high number ≡ upper) number numbers all)

  module _ (rest : List Insn) (call : Record) (behind : (t : State) → Comes rest 0 call t (first_held more o it)) where
    -- where A is the lower half of a number, the others are passed over
    found_on : (numbers : List ℕ) (t : State) → Comes (lows_code numbers ++ (answer value ∷ rest)) (length numbers) call t value
    found_on numbers t =
        let e : length (lows_code numbers) + 0 ≡ length numbers = omega (arith, as_many numbers) in
        subst (λ n. Comes (lows_code numbers ++ (answer value ∷ rest)) n call t value) e
        (past (lows_code numbers) (answer value ∷ rest) 0 call t value (answers value rest call t))

    lows_on : (upper : ℕ) (numbers : List ℕ) (t : State) → t.a ≡ low (register it index) → high (register it index) ≡ upper → All (λ number. high number ≡ upper) numbers
        → Comes (lows_code numbers ++ (answer value ∷ rest)) (passed_over numbers) call t (first_held (map (asks index value) numbers ++ more) o it)
    lows_on upper [] t at up all = past (answer value ∷ []) rest 0 call t (first_held more o it) (behind t)
    lows_on upper (number ∷ numbers) t at up all =
        let here = All-head (λ number. high number ≡ upper) number numbers all in
        branch_two Equal (low number) (length numbers) (passed_over numbers) (lows_code numbers ++ (answer value ∷ rest)) call t _
        (λ l. subst (λ v. Comes (lows_code numbers ++ (answer value ∷ rest)) (length numbers) call t v)
        (sym (it_holds number numbers (halves_same _ number (up ∙ sym here) (sym at ∙ eqb-true t.a (low number) l)))) (found_on numbers t))
        (λ l. subst (λ v. Comes (lows_code numbers ++ (answer value ∷ rest)) (passed_over numbers) call t v)
        (sym (it_fails number numbers (λ e. eqb-false t.a (low number) l (at ∙ ap low e))))
        (lows_on upper numbers t at up (All-tail (λ number. high number ≡ upper) number numbers all)))

choice_on : (narrow : Bool) (choice : Choice) (more : List Arm) (o : ℕ) (rest : List Insn) (call : Record) (s : State) → IsCall call → IsPiece narrow (Joined choice)
    → ((t : State) → Comes rest 0 call t (first_held more o (seen narrow call)))
    → Comes (choice_code narrow choice ++ rest) 0 call s (first_held (arms_of (Joined choice) ++ more) o (seen narrow call))
choice_on narrow choice more o rest call s ok fits behind = by narrow refl where
  i : ℕ
  i = choice.index

  it : Record
  it = seen narrow call

  numbers : List ℕ
  numbers = choice.first ∷ choice.others

  whole : ℕ
  whole = first_held (map (asks i choice.value) numbers ++ more) o it

  lows : List Insn
  lows = lows_code numbers ++ (answer choice.value ∷ [])

  all : All (λ number. high number ≡ high choice.first) numbers
  all = All-cons (λ number. high number ≡ high choice.first) choice.first choice.others refl fits.halves

  lower_part : (s : State) → high (argument narrow call i) ≡ high choice.first → Comes (load (low_place i) ∷ (lows ++ rest)) 0 call s whole
  lower_part s up =
      let u : State = record s { a = low (register call i) } in
      load_on (low_place i) _ call s (low (register call i)) whole (low_word call i ok fits.inside)
      (subst (λ insns. Comes insns 0 call u whole) (sym (append_assoc (lows_code numbers) (answer choice.value ∷ []) rest))
      (lows_on i choice.value more o it rest call behind (high choice.first) numbers u (lower_seen narrow call i) up all))

  by : (b : Bool) → narrow ≡ b → Comes ((half_code b i choice.first (length choice.others) ++ (load (low_place i) ∷ lows)) ++ rest) 0 call s whole
  by true e = lower_part s (ap (λ b. high (argument b call i)) e ∙ upper_seen call i ∙ sym (fits.within e))
  by false e =
      let t : State = record s { a = high (register call i) } in
      let same : high (register call i) ≡ high (argument narrow call i) = ap (λ b. high (argument b call i)) (sym e) in
      load_on (high_place i) _ call s (high (register call i)) whole (high_word call i ok fits.inside)
      (branch_two Equal (high choice.first) 0 (3 + length choice.others) _ call t whole
      (λ h. lower_part t (sym same ∙ eqb-true t.a (high choice.first) h))
      (λ h. subst (λ v. Comes (load (low_place i) ∷ (lows ++ rest)) (3 + length choice.others) call t v)
      (sym (none_holds i choice.value more o it (high choice.first) numbers (λ up. eqb-false t.a (high choice.first) h (same ∙ up)) all))
      (subst (λ n. Comes (load (low_place i) ∷ (lows ++ rest)) n call t (first_held more o it))
      (beyond choice)
      (past (load (low_place i) ∷ lows) rest 0 call t (first_held more o it) (behind t)))))

piece_on : (narrow : Bool) (piece : Piece) (more : List Arm) (o : ℕ) (rest : List Insn) (call : Record) (s : State) → IsCall call → IsPiece narrow piece
    → ((t : State) → Comes rest 0 call t (first_held more o (seen narrow call)))
    → Comes (piece_code narrow piece ++ rest) 0 call s (first_held (arms_of piece ++ more) o (seen narrow call))
piece_on narrow (Single arm) more o rest call s ok fits behind = single_on narrow arm more o rest call s ok fits behind
piece_on narrow (Joined choice) more o rest call s ok fits behind = choice_on narrow choice more o rest call s ok fits behind

pub pieces_on : (narrow : Bool) (pieces : List Piece) (o : ℕ) (rest : List Insn) (call : Record) (s : State) → IsCall call → All (IsPiece narrow) pieces
    → Comes (saying_code narrow pieces o ++ rest) 0 call s (first_held (flat_map arms_of pieces) o (seen narrow call))
pieces_on narrow [] o rest call s ok fits = answers o rest call s
pieces_on narrow (piece ∷ pieces) o rest call s ok fits =
    let behind = flat_map (piece_code narrow) pieces in
    let whole = first_held (flat_map arms_of (piece ∷ pieces)) o (seen narrow call) in
    subst (λ insns. Comes insns 0 call s whole)
    (sym (ap (λ insns. insns ++ rest) (append_assoc (piece_code narrow piece) behind (answer o ∷ [])) ∙ append_assoc (piece_code narrow piece) (behind ++ (answer o ∷ [])) rest))
    (piece_on narrow piece (flat_map arms_of pieces) o ((behind ++ (answer o ∷ [])) ++ rest) call s ok (All-head (IsPiece narrow) piece pieces fits)
    (λ t. pieces_on narrow pieces o rest call t ok (All-tail (IsPiece narrow) piece pieces fits)))
