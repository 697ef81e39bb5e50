-- What Linux takes a call for has 0 in each word that it does not read, and a chain without these words answers by it.
use Rattle.std.proofs.Common.{◌≡◌, ℕ, zero, suc, ◌+◌, ◌*◌, ◌/◌, ◌-◌, ◌%◌, ◌^◌, ◌==◌, ◌<◌, ◌≤◌, ◌||◌, not, Bool, true, false, if◌then◌else◌, List, [], ◌∷◌, ◌++◌, map, slice_index_or, Option, Some, None, inl, inr, refl, sym, ap, subst, ◌∙◌, arith}
use Rattle.std.specs.Prelude.{flat_map}
use Rattle.std.specs.List.{list_any, range_with_len}
use Rattle.std.specs.Option.{unwrap_or}
use Rattle.std.proofs.lemmas.Bool.{cases_Bool, cases_lt, eq-eqb, eqb-true, eqb-false, ne_eqb, or_from, or_left, or_right}
use Rattle.std.proofs.lemmas.List.Folds.{list_any-append}
use Rattle.sk_arguments.specs.Reading.{kind_of, reads_lower, reads_upper, unread_at, unread_places}
use Rattle.sk_insn.specs.declared.insn.Insn.{Insn}
use Rattle.sk_insn.specs.declared.record.Record.{Record}
use Rattle.sk_insn.specs.declared.operation.Register.TheVariants.{Accumulator}
use Rattle.sk_insn.specs.declared.operation.Operation.{Operation}
use Rattle.sk_insn.specs.declared.operation.Operation.TheVariants.{LoadConstant, LoadRecord}
use Rattle.sk_insn.specs.Operations.{code_of, operation_of}
use Rattle.sk_insn.specs.Record.{word_of}
use Rattle.sk_insn.proofs.RecordWords.{word_of_architecture, word_of_argument, word_of_number, word_of_pointer}
use Rattle.sk_filter.specs.Verdict.{verdict_of}
use Rattle.sk_survey.specs.ByArchitecture.{arguments_of, chain_loads, loads_word, program_loads}
use Rattle.sk_survey.specs.Without.{IsWithout, chain_without, is_among, loads_among, without}
use Rattle.sk_survey.specs.Taken.{ChainsTakeCalls, ChainsWithoutUnread, TakenIsTakenSo, loaded_places, taken_as, word_taken}
use Rattle.sk_survey.proofs.ByArchitecture.{argument_of, higher, is_there, lower, word_fits}
use Rattle.sk_survey.proofs.Without.{chains_without}

-- ---- the number, the architecture and the pointer are read

-- the words of another argument are not this one
other_argument : (nr i place : ℕ) → (16 + 8 * i ≡ place → ⊥) → (20 + 8 * i ≡ place → ⊥) → is_among (unread_at nr i) place ≡ false
unfolding unread_at
other_argument nr i place not_lower not_upper = by_test (reads_lower (kind_of nr i)) (reads_upper (kind_of nr i)) where
  lower_apart : ((16 + 8 * i) == place) ≡ false
  lower_apart = ne_eqb (16 + 8 * i) place not_lower

  upper_apart : ((20 + 8 * i) == place) ≡ false
  upper_apart = ne_eqb (20 + 8 * i) place not_upper

  by_test : (b c : Bool) → is_among ((if b then [] else (16 + 8 * i) ∷ []) ++ (if c then [] else (20 + 8 * i) ∷ [])) place ≡ false
  by_test true true = refl
  by_test true false = or_from _ _ upper_apart refl
  by_test false true = or_from _ _ lower_apart refl
  by_test false false = or_from _ _ lower_apart (or_from _ _ upper_apart refl)

before_argument : (nr place i : ℕ) → place < 16 → is_among (unread_at nr i) place ≡ false
before_argument nr place i before = other_argument nr i place (λ e. omega (arith, e, before)) (λ e. omega (arith, e, before))

before_each : (nr place : ℕ) → place < 16 → (places : List ℕ) → is_among (flat_map (unread_at nr) places) place ≡ false
before_each nr place before [] = refl
before_each nr place before (i ∷ places) =
    list_any-append (λ one. one == place) (unread_at nr i) (flat_map (unread_at nr) places)
    ∙ or_from _ _ (before_argument nr place i before) (before_each nr place before places)

before_arguments : (nr place : ℕ) → place < 16 → is_among (unread_places nr) place ≡ false
unfolding unread_places
before_arguments nr place before = before_each nr place before (range_with_len 0 6)

-- ---- which halves of an argument are among them

lower_half : (nr i : ℕ) → is_among (unread_at nr i) (16 + 8 * i) ≡ not (reads_lower (kind_of nr i))
unfolding unread_at
lower_half nr i = by_test (reads_lower (kind_of nr i)) (reads_upper (kind_of nr i)) where
  same : ((16 + 8 * i) == (16 + 8 * i)) ≡ true
  same = eq-eqb (16 + 8 * i) (16 + 8 * i) refl

  apart : ((20 + 8 * i) == (16 + 8 * i)) ≡ false
  apart = ne_eqb (20 + 8 * i) (16 + 8 * i) (λ e. omega (arith, e))

  by_test : (b c : Bool) → is_among ((if b then [] else (16 + 8 * i) ∷ []) ++ (if c then [] else (20 + 8 * i) ∷ [])) (16 + 8 * i) ≡ not b
  by_test true true = refl
  by_test true false = or_from _ _ apart refl
  by_test false c = or_left _ _ same

upper_half : (nr i : ℕ) → is_among (unread_at nr i) (20 + 8 * i) ≡ not (reads_upper (kind_of nr i))
unfolding unread_at
upper_half nr i = by_test (reads_lower (kind_of nr i)) (reads_upper (kind_of nr i)) where
  same : ((20 + 8 * i) == (20 + 8 * i)) ≡ true
  same = eq-eqb (20 + 8 * i) (20 + 8 * i) refl

  apart : ((16 + 8 * i) == (20 + 8 * i)) ≡ false
  apart = ne_eqb (16 + 8 * i) (20 + 8 * i) (λ e. omega (arith, e))

  by_test : (b c : Bool) → is_among ((if b then [] else (16 + 8 * i) ∷ []) ++ (if c then [] else (20 + 8 * i) ∷ [])) (20 + 8 * i) ≡ not c
  by_test true true = refl
  by_test false true = or_from _ _ apart refl
  by_test true false = or_left _ _ same
  by_test false false = or_right _ _ (or_left _ _ same)

or_none : (b : Bool) → (b || false) ≡ b
or_none true = refl
or_none false = refl

-- a test that fails at all arguments but one passes where it does there
at_one : (test : ℕ → Bool) (i : ℕ) → i < 6 → ((other : ℕ) → (other ≡ i → ⊥) → test other ≡ false) → list_any test (range_with_len 0 6) ≡ test i
at_one test zero inside fails =
    rw (fails 1 (λ e. cc), fails 2 (λ e. cc), fails 3 (λ e. cc), fails 4 (λ e. cc), fails 5 (λ e. cc)) (or_none (test 0))
at_one test (suc zero) inside fails =
    rw (fails 0 (λ e. cc), fails 2 (λ e. cc), fails 3 (λ e. cc), fails 4 (λ e. cc), fails 5 (λ e. cc)) (or_none (test 1))
at_one test (suc (suc zero)) inside fails =
    rw (fails 0 (λ e. cc), fails 1 (λ e. cc), fails 3 (λ e. cc), fails 4 (λ e. cc), fails 5 (λ e. cc)) (or_none (test 2))
at_one test (suc (suc (suc zero))) inside fails =
    rw (fails 0 (λ e. cc), fails 1 (λ e. cc), fails 2 (λ e. cc), fails 4 (λ e. cc), fails 5 (λ e. cc)) (or_none (test 3))
at_one test (suc (suc (suc (suc zero)))) inside fails =
    rw (fails 0 (λ e. cc), fails 1 (λ e. cc), fails 2 (λ e. cc), fails 3 (λ e. cc), fails 5 (λ e. cc)) (or_none (test 4))
at_one test (suc (suc (suc (suc (suc zero))))) inside fails =
    rw (fails 0 (λ e. cc), fails 1 (λ e. cc), fails 2 (λ e. cc), fails 3 (λ e. cc), fails 4 (λ e. cc)) (or_none (test 5))
at_one test (suc (suc (suc (suc (suc (suc i)))))) inside fails = absurd (omega (arith, inside))

among_each : (nr place : ℕ) (places : List ℕ) → is_among (flat_map (unread_at nr) places) place ≡ list_any (λ i. is_among (unread_at nr i) place) places
among_each nr place [] = refl
among_each nr place (i ∷ places) =
    list_any-append (λ one. one == place) (unread_at nr i) (flat_map (unread_at nr) places)
    ∙ ap (λ b. is_among (unread_at nr i) place || b) (among_each nr place places)

pub lower_there : (nr i : ℕ) → i < 6 → is_among (unread_places nr) (16 + 8 * i) ≡ not (reads_lower (kind_of nr i))
unfolding unread_places
lower_there nr i inside =
    among_each nr (16 + 8 * i) (range_with_len 0 6)
    ∙ at_one (λ j. is_among (unread_at nr j) (16 + 8 * i)) i inside
    (λ j apart. other_argument nr j (16 + 8 * i) (λ e. apart (omega (arith, e))) (λ e. omega (arith, e)))
    ∙ lower_half nr i

pub upper_there : (nr i : ℕ) → i < 6 → is_among (unread_places nr) (20 + 8 * i) ≡ not (reads_upper (kind_of nr i))
unfolding unread_places
upper_there nr i inside =
    among_each nr (20 + 8 * i) (range_with_len 0 6)
    ∙ at_one (λ j. is_among (unread_at nr j) (20 + 8 * i)) i inside
    (λ j apart. other_argument nr j (20 + 8 * i) (λ e. omega (arith, e)) (λ e. apart (omega (arith, e))))
    ∙ upper_half nr i

-- ---- the words of what a call is taken for

taken_fits : (call : Record) (place : ℕ) → word_taken call place < 2 ^ 32
taken_fits call place = by_test (is_among (unread_places call.nr) place) where
  by_test : (b : Bool) → (if b then 0 else unwrap_or (word_of call place) 0) < 2 ^ 32
  by_test true = omega arith
  by_test false = word_fits call place

behind : (call : Record) (place : ℕ) → place % 4 ≡ 0 → 16 ≤ place → place < 64 → word_of (taken_as call) place ≡ Some (word_taken call place)
behind call place aligned above below =
    let i = (place - 16) / 8 in
    let inside : i < 6 = omega (arith, above, below) in
    let x = slice_index_or (taken_as call).args i 0 in
    let value : x ≡ word_taken call (16 + 8 * i) + 2 ^ 32 * word_taken call (16 + 8 * i + 4) = argument_of (word_taken call) i inside in
    let whole = word_of_argument (taken_as call) place aligned above below refl in
    let low = taken_fits call (16 + 8 * i) in
    let high = taken_fits call (16 + 8 * i + 4) in elim (cases_Bool (place % 8 == 0)) [
      | inl even ↦
          let r = eqb-true (place % 8) 0 even in
          let e : 16 + 8 * i ≡ place = omega (arith, aligned, above, r) in
          whole ∙ ap (λ b. Some (if b then x % 2 ^ 32 else x / 2 ^ 32 % 2 ^ 32)) even
          ∙ ap Some (lower x (word_taken call (16 + 8 * i)) (word_taken call (16 + 8 * i + 4)) value low ∙ ap (word_taken call) e)
      | inr odd ↦
          let r = eqb-false (place % 8) 0 odd in
          let e : 16 + 8 * i + 4 ≡ place = omega (arith, aligned, above, r) in
          whole ∙ ap (λ b. Some (if b then x % 2 ^ 32 else x / 2 ^ 32 % 2 ^ 32)) odd
          ∙ ap Some (higher x (word_taken call (16 + 8 * i)) (word_taken call (16 + 8 * i + 4)) value low high ∙ ap (word_taken call) e)
    ]

same_before : (call : Record) (place : ℕ) → place % 4 ≡ 0 → place < 16 → word_of (taken_as call) place ≡ word_of call place
same_before call place aligned before = elim (cases_lt place 8) [
  | inr above ↦ word_of_pointer (taken_as call) place aligned above before ∙ sym (word_of_pointer call place aligned above before)
  | inl below ↦ elim (cases_lt place 4) [
    | inl first ↦
        let e : place ≡ 0 = omega (arith, aligned, first) in
        subst (λ place. word_of (taken_as call) place ≡ word_of call place) (sym e) (word_of_number (taken_as call) ∙ sym (word_of_number call))
    | inr second ↦
        let e : place ≡ 4 = omega (arith, aligned, second, below) in
        subst (λ place. word_of (taken_as call) place ≡ word_of call place) (sym e) (word_of_architecture (taken_as call) ∙ sym (word_of_architecture call))
  ]
]

pub taken_is_without : (call : Record) → IsWithout (unread_places call.nr) call (taken_as call)
taken_is_without call place aligned below = elim (cases_lt place 16) [
  | inl before ↦
      same_before call place aligned before
      ∙ ap (λ b. if b then Some 0 else word_of call place) (sym (before_arguments call.nr place before))
  | inr above ↦ behind call place aligned above below ∙ by_test (is_among (unread_places call.nr) place)
] where
  by_test : (b : Bool) → Some (if b then 0 else unwrap_or (word_of call place) 0) ≡ (if b then Some 0 else word_of call place)
  by_test true = refl
  by_test false = is_there call place aligned below

pub chains_without_unread : ChainsWithoutUnread
chains_without_unread programs valid call = chains_without programs valid (unread_places call.nr) call (taken_as call) (taken_is_without call)

-- ---- taken twice

again_at : (call : Record) (place : ℕ) → place % 4 ≡ 0 → 16 ≤ place → place < 64 → word_taken (taken_as call) place ≡ word_taken call place
again_at call place aligned above below = by_test (is_among (unread_places call.nr) place) refl where
  by_test : (b : Bool) → is_among (unread_places call.nr) place ≡ b
      → (if b then 0 else unwrap_or (word_of (taken_as call) place) 0) ≡ word_taken call place
  by_test true e = ap (λ b. if b then 0 else unwrap_or (word_of call place) 0) (sym e)
  by_test false e = ap (λ o. unwrap_or o 0) (behind call place aligned above below)

argument_again : (call : Record) (place : ℕ) → place % 8 ≡ 0 → 16 ≤ place → place < 57
    → word_taken (taken_as call) place + 2 ^ 32 * word_taken (taken_as call) (place + 4) ≡ word_taken call place + 2 ^ 32 * word_taken call (place + 4)
argument_again call place aligned above below =
    ap (λ n. n + 2 ^ 32 * word_taken (taken_as call) (place + 4)) (again_at call place (omega (arith, aligned)) above (omega (arith, below)))
    ∙ ap (λ n. word_taken call place + 2 ^ 32 * n) (again_at call (place + 4) (omega (arith, aligned)) (omega (arith, above)) (omega (arith, below)))

same_arguments : (word other : ℕ → ℕ) → ((place : ℕ) → place % 8 ≡ 0 → 16 ≤ place → place < 57 → word place + 2 ^ 32 * word (place + 4) ≡ other place + 2 ^ 32 * other (place + 4))
    → arguments_of word ≡ arguments_of other
same_arguments word other same =
    let a = same 16 refl (omega arith) (omega arith) in
    let b = same 24 refl (omega arith) (omega arith) in
    let c = same 32 refl (omega arith) (omega arith) in
    let d = same 40 refl (omega arith) (omega arith) in
    let e = same 48 refl (omega arith) (omega arith) in
    let f = same 56 refl (omega arith) (omega arith) in
    rw (a, b, c, d, e, f) refl

pub taken_is_taken_so : TakenIsTakenSo
taken_is_taken_so call =
    ap (λ (args : List ℕ). record call { args = args }) (same_arguments (word_taken (taken_as call)) (word_taken call) (argument_again call))

-- ---- words that no filter loads

among_next : (programs : List (List Insn)) (places : List ℕ) (place one : ℕ) → chain_loads place programs ≡ true
    → is_among (loaded_places programs places) place ≡ is_among places place
    → is_among (loaded_places programs (one ∷ places)) place ≡ is_among (one ∷ places) place
among_next programs places place one loads rest = by_test (chain_loads one programs) (one == place) refl refl where
  by_test : (b c : Bool) → chain_loads one programs ≡ b → (one == place) ≡ c
      → is_among (if b then one ∷ loaded_places programs places else loaded_places programs places) place ≡ (c || is_among places place)
  by_test true c e same = ap (λ b. b || is_among (loaded_places programs places) place) same ∙ ap (λ b. c || b) rest
  by_test false true e same =
      let is = eqb-true one place same in
      let wrong : true ≡ false = sym loads ∙ ap (λ at. chain_loads at programs) (sym is) ∙ e in
      cc
  by_test false false e same = rest

among_loaded : (programs : List (List Insn)) (places : List ℕ) (place : ℕ) → chain_loads place programs ≡ true
    → is_among (loaded_places programs places) place ≡ is_among places place
among_loaded programs [] place loads = refl
among_loaded programs (one ∷ places) place loads = among_next programs places place one loads (among_loaded programs places place loads)

-- an instruction that loads a word loads it
loads_own : (insn : Insn) → operation_of insn.code ≡ Some LoadRecord → loads_word insn.k (operation_of insn.code) insn ≡ true
loads_own insn is = ap (λ o. loads_word insn.k o insn) is ∙ eq-eqb insn.k insn.k refl

-- a change of places that are loaded alike
same_loads : (whole : List (List Insn)) (places : List ℕ) (o : Option Operation) (insn : Insn)
    → (o ≡ Some LoadRecord → chain_loads insn.k whole ≡ true)
    → loads_among (loaded_places whole places) o insn ≡ loads_among places o insn
same_loads whole places None insn there = refl
same_loads whole places (Some LoadRecord) insn there = among_loaded whole places insn.k (there refl)
same_loads whole places (Some other) insn there = refl

same_insn : (whole : List (List Insn)) (places : List ℕ) (insn : Insn)
    → (operation_of insn.code ≡ Some LoadRecord → chain_loads insn.k whole ≡ true)
    → without (loaded_places whole places) insn ≡ without places insn
same_insn whole places insn there =
    ap (λ b. if b then record insn { code = code_of (LoadConstant Accumulator); k = 0 } else insn)
    (same_loads whole places (operation_of insn.code) insn there)

same_program : (whole : List (List Insn)) (places : List ℕ) (insns : List Insn)
    → ((place : ℕ) → program_loads place insns ≡ true → chain_loads place whole ≡ true)
    → map (without (loaded_places whole places)) insns ≡ map (without places) insns
same_program whole places [] there = refl
same_program whole places (insn ∷ insns) there =
    let one = same_insn whole places insn (λ is. there insn.k (or_left (loads_word insn.k (operation_of insn.code) insn) (program_loads insn.k insns) (loads_own insn is))) in
    let rest = same_program whole places insns (λ place loads. there place (or_right (loads_word place (operation_of insn.code) insn) (program_loads place insns) loads)) in
    ap (λ (it : Insn). it ∷ map (without (loaded_places whole places)) insns) one ∙ ap (λ (its : List Insn). without places insn ∷ its) rest

same_chain : (whole : List (List Insn)) (places : List ℕ) (programs : List (List Insn))
    → ((place : ℕ) → chain_loads place programs ≡ true → chain_loads place whole ≡ true)
    → chain_without (loaded_places whole places) programs ≡ chain_without places programs
same_chain whole places [] there = refl
same_chain whole places (insns ∷ programs) there =
    let one = same_program whole places insns (λ place loads. there place (or_left (program_loads place insns) (chain_loads place programs) loads)) in
    let rest = same_chain whole places programs (λ place loads. there place (or_right (program_loads place insns) (chain_loads place programs) loads)) in
    ap (λ (it : List Insn). it ∷ chain_without (loaded_places whole places) programs) one
    ∙ ap (λ (its : List (List Insn)). map (without places) insns ∷ its) rest

pub chain_without_loaded : (programs : List (List Insn)) (places : List ℕ) → chain_without (loaded_places programs places) programs ≡ chain_without places programs
chain_without_loaded programs places = same_chain programs places programs (λ place loads. loads)

pub chains_take_calls : ChainsTakeCalls
chains_take_calls programs valid call =
    ap (λ (its : List (List Insn)). verdict_of its call) (chain_without_loaded programs (unread_places call.nr))
    ∙ chains_without_unread programs valid call
