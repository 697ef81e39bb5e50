-- What is said of all pieces holds of every call.
use Rattle.std.proofs.lemmas.Int.{ints}
use Rattle.std.proofs.Common.{ℕ, ◌≡◌, ◌+◌, ◌≤◌, ◌<◌, true, false, Bool, ◌||◌, ◌⊎◌, if◌then◌else◌, inl, inr, List, [], ◌∷◌, refl, sym, ap, subst, ◌∙◌, arith}
use Rattle.std.specs.Prelude.{ℤ, int_le}
use Rattle.std.specs.List.{All, list_any}
use Rattle.std.proofs.lemmas.Bool.{cases_lt, eq-eqb, true≢false}
use Rattle.std.proofs.lemmas.List.Elements.{All-nil, All-head, All-tail}
use Rattle.sk_insn.specs.declared.insn.Insn.{Insn}
use Rattle.sk_insn.specs.declared.record.Record.{Record}
use Rattle.sk_insn.specs.Record.{IsNative}
use Rattle.sk_survey.specs.Answers.{IsCallOf}
use Rattle.sk_conditions.specs.declared.numbers.Numbers.{Numbers}
use Rattle.sk_conditions.specs.declared.standing.Relation.{Relation}
use Rattle.sk_conditions.specs.declared.standing.Relation.TheVariants.{Same, AsStrict, Expected}
use Rattle.sk_filter.specs.Verdict.{precedence_of, verdict_of}
use Rattle.sk_when.specs.declared.diff_engine.Finding.TheVariants as finding
use Rattle.sk_when.specs.declared.piece.Calls.{Calls}
use Rattle.sk_when.specs.declared.piece.Outcome.{Outcome}
use Rattle.sk_when.specs.declared.piece.Outcome.TheVariants.{Undecided, Apart}
use Rattle.sk_when.specs.declared.piece.Part.{Part}
use Rattle.sk_when.specs.declared.piece.Piece.{Piece}
use Rattle.sk_when.specs.Diffs.{HoldsOnEveryCall, FailsOnACall, FollowedIsDecided}
use Rattle.sk_conditions.specs.Comparing.{as_it_ends, is_reflexive, relates}
use Rattle.sk_when.specs.Pieces.{AreCompared, AreDecided, Cover, Holds, HoldsOf, IsShown, IsSo, finding_of, is_apart, is_decided, may_fail, shows_call, stands_on, has_parts}

neither : (a b : Bool) → (a || b) ≡ false → (a ≡ false) × (b ≡ false)
neither true b e = cc
neither false b e = (refl, e)

pub one : (a b : Bool) → (a || b) ≡ true → (a ≡ true) ⊎ (b ≡ true)
one true b e = inl refl
one false b e = inr e

-- the relation holds on the calls of a piece without parts
stands_here : (relation : Relation) (old new : List (List Insn)) (numbers : Numbers) (parts : List Part) → has_parts parts ≡ false
    → Cover relation old new numbers parts → (call : Record) → IsCallOf numbers.first numbers.last call → stands_on relation old new call ≡ true
stands_here relation old new numbers (part ∷ parts) none cover call within = absurd (true≢false none)
stands_here relation old new numbers [] none cover call within = by_test (stands_on relation old new call) refl where
  by_test : (b : Bool) → stands_on relation old new call ≡ b → stands_on relation old new call ≡ true
  by_test true is = is
  by_test false is = absurd (true≢false (sym (cover call within is)))

covers : (relation : Relation) (old new : List (List Insn)) (pieces : List Piece) (from end : ℕ) → AreCompared relation old new from end pieces
    → list_any may_fail pieces ≡ false → (call : Record) → IsNative call → from ≤ call.nr → call.nr < end → stands_on relation old new call ≡ true
covers relation old new [] from end compared none call native above below = absurd (omega arith)
covers relation old new (piece ∷ pieces) from end compared none call native above below =
    let n = neither (may_fail piece) (list_any may_fail pieces) none in
    elim (cases_lt piece.numbers.last call.nr) [
      | inl behind ↦ covers relation old new pieces (piece.numbers.last + 1) end compared.3 n.1 call native (omega arith) below
      | inr within ↦
          stands_here relation old new piece.numbers piece.parts.items n.0 compared.2.1 call (native, (let b = compared.0 in omega arith, within))
    ]

-- a call that a part shows
shown_here : (relation : Relation) (old new : List (List Insn)) (numbers : Numbers) (calls : Calls) (outcome : Outcome) → is_decided outcome ≡ true
    → IsSo relation old new numbers calls outcome → (call : Record) × IsNative call × (call.nr ≤ numbers.last) × (stands_on relation old new call ≡ false)
shown_here relation old new numbers calls Undecided some is = absurd (true≢false (sym some))
shown_here relation old new numbers calls (Apart it call) some is =
    let verdicts = is.0 call is.2.0 is.2.1 in (
      call,
      is.2.0.0,
      is.2.0.1.1,
      ap (λ n. relates relation n (verdict_of new call)) verdicts.0 ∙ ap (relates relation it.old) verdicts.1 ∙ is.1,
    )

found_among : (relation : Relation) (old new : List (List Insn)) (numbers : Numbers) (parts : List Part) → list_any shows_call parts ≡ true
    → All (HoldsOf relation old new numbers) parts → (call : Record) × IsNative call × (call.nr ≤ numbers.last) × (stands_on relation old new call ≡ false)
found_among relation old new numbers [] apart hold = absurd (true≢false (sym apart))
found_among relation old new numbers (part ∷ parts) apart hold = elim (one (shows_call part) (list_any shows_call parts) apart) [
  | inl here ↦ shown_here relation old new numbers part.calls part.outcome here (All-head (HoldsOf relation old new numbers) part parts hold).0
  | inr behind ↦ found_among relation old new numbers parts behind (All-tail (HoldsOf relation old new numbers) part parts hold)
]

rises : (relation : Relation) (old new : List (List Insn)) (pieces : List Piece) (from end : ℕ) → AreCompared relation old new from end pieces → from ≤ end
rises relation old new [] from end compared = omega arith
rises relation old new (piece ∷ pieces) from end compared =
    let up = compared.1 in let more = rises relation old new pieces (piece.numbers.last + 1) end compared.3 in omega arith

finds : (relation : Relation) (old new : List (List Insn)) (pieces : List Piece) (from end : ℕ) → AreCompared relation old new from end pieces
    → list_any is_apart pieces ≡ true → (call : Record) × IsNative call × (call.nr < end) × (stands_on relation old new call ≡ false)
finds relation old new [] from end compared apart = cc
finds relation old new (piece ∷ pieces) from end compared apart = elim (one (is_apart piece) (list_any is_apart pieces) apart) [
  | inl here ↦
      let call = found_among relation old new piece.numbers piece.parts.items here compared.2.0 in
      let more = rises relation old new pieces (piece.numbers.last + 1) end compared.3 in
      let last = call.2 in
      (call.0, call.1, omega arith, call.3)
  | inr behind ↦ finds relation old new pieces (piece.numbers.last + 1) end compared.3 behind
]

both_false : (a b : Bool) → finding.Holds ≡ (if a then finding.Fails else if b then finding.Undecided else finding.Holds) → (a ≡ false) × (b ≡ false)
both_false true b e = cc
both_false false true e = cc
both_false false false e = (refl, refl)

first_true : (a b : Bool) → finding.Fails ≡ (if a then finding.Fails else if b then finding.Undecided else finding.Holds) → a ≡ true
first_true true b e = refl
first_true false true e = cc
first_true false false e = cc

pub holds_on_every_call : HoldsOnEveryCall
holds_on_every_call architecture relation old new is_spent pieces it call native below =
    let none = both_false (list_any is_apart pieces) (list_any may_fail pieces) it.stands in
    covers relation old new pieces 0 4294967296 it.compared none.1 call native (omega arith) below

pub fails_on_a_call : FailsOnACall
fails_on_a_call architecture relation old new is_spent pieces it =
    finds relation old new pieces 0 4294967296 it.compared (first_true (list_any is_apart pieces) (list_any may_fail pieces) it.stands)

-- pieces of which each part shows a call
one_of : (a b : Bool) → b ≡ true → (a || b) ≡ true
one_of true b e = refl
one_of false b e = e

shows_one : (parts : List Part) → All IsShown parts → has_parts parts ≡ true → list_any shows_call parts ≡ true
shows_one [] all some = absurd (true≢false (sym some))
shows_one (part ∷ parts) all some = ap (λ b. b || list_any shows_call parts) (All-head IsShown part parts all)

some_shown : (pieces : List Piece) → All AreDecided pieces → list_any may_fail pieces ≡ true → list_any is_apart pieces ≡ true
some_shown [] all some = some
some_shown (piece ∷ pieces) all some = elim (one (may_fail piece) (list_any may_fail pieces) some) [
  | inl here ↦ ap (λ b. b || list_any is_apart pieces) (shows_one piece.parts.items (All-head AreDecided piece pieces all) here)
  | inr behind ↦
      one_of (is_apart piece) (list_any is_apart pieces) (some_shown pieces (All-tail AreDecided piece pieces all) behind)
]

false_true : (a b : Bool) → finding.Undecided ≡ (if a then finding.Fails else if b then finding.Undecided else finding.Holds) → (a ≡ false) × (b ≡ true)
false_true true b e = cc
false_true false true e = (refl, refl)
false_true false false e = cc

pub followed_is_decided : FollowedIsDecided
followed_is_decided architecture relation old new finding pieces follows follows' it =
    let all = it.decided follows follows' refl in (
      λ undecided.
          let split = false_true (list_any is_apart pieces) (list_any may_fail pieces) (sym undecided ∙ it.stands) in
          true≢false (sym (some_shown pieces all split.1) ∙ split.0),
      all,
    )

-- a verdict beside itself
at_most_itself : (a : ℤ) → int_le a a ≡ true
at_most_itself a = grind (arith, ints)

pub relates_itself : (relation : Relation) (value : ℕ) → is_reflexive relation ≡ true → relates relation value value ≡ true
relates_itself Same value reflexive = eq-eqb value value refl
relates_itself AsStrict value reflexive = at_most_itself (precedence_of (as_it_ends value))
relates_itself Expected value reflexive = absurd (true≢false (sym reflexive))

stands_beside_itself : (relation : Relation) → is_reflexive relation ≡ true → (programs : List (List Insn)) (call : Record)
    → stands_on relation programs programs call ≡ true
stands_beside_itself relation reflexive programs call = relates_itself relation (verdict_of programs call) reflexive

pub nothing_apart : (relation : Relation) → is_reflexive relation ≡ true → (programs : List (List Insn)) (piece : Piece) → piece.parts.items ≡ []
    → Holds relation programs programs piece
nothing_apart relation reflexive programs piece none =
    subst (λ (parts : List Part). All (HoldsOf relation programs programs piece.numbers) parts × Cover relation programs programs piece.numbers parts) (sym none) (
      All-nil (HoldsOf relation programs programs piece.numbers),
      λ call within differs. absurd (true≢false (sym (stands_beside_itself relation reflexive programs call) ∙ differs)),
    )

-- of the same filters no call is shown, and so there is nothing open
finding_of_none : (a b : Bool) → a ≡ false → b ≡ false → (if a then finding.Fails else if b then finding.Undecided else finding.Holds) ≡ finding.Holds
finding_of_none true b none still = absurd (true≢false none)
finding_of_none false true none still = absurd (true≢false still)
finding_of_none false false none still = refl

pub same_holds : (relation : Relation) → is_reflexive relation ≡ true → (programs : List (List Insn)) (pieces : List Piece)
    → AreCompared relation programs programs 0 4294967296 pieces → All AreDecided pieces → finding_of pieces ≡ finding.Holds
same_holds relation reflexive programs pieces compared shows = finding_of_none (list_any is_apart pieces) (list_any may_fail pieces) (none (list_any is_apart pieces) refl) (never (list_any may_fail pieces) refl) where
  none : (b : Bool) → list_any is_apart pieces ≡ b → list_any is_apart pieces ≡ false
  none false is = is
  none true is = let call = finds relation programs programs pieces 0 4294967296 compared is in
      absurd (true≢false (sym (stands_beside_itself relation reflexive programs call.0) ∙ call.3))

  never : (b : Bool) → list_any may_fail pieces ≡ b → list_any may_fail pieces ≡ false
  never false is = is
  never true is = absurd (true≢false (sym (some_shown pieces shows is) ∙ none (list_any is_apart pieces) refl))
