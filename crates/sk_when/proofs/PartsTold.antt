-- The parts of a piece, of what a tree and its lines tell.
use Rattle.std.proofs.Common.{◌≡◌, ℕ, zero, suc, ◌+◌, ◌||◌, Bool, true, false, if◌then◌else◌, List, [], ◌∷◌, get_or, Option, Some, None, sym, ap, ◌∙◌, subst, refl, arith}
use Rattle.std.specs.Prelude.{IsSome}
use Rattle.std.specs.List.{All, list_any}
use Rattle.std.proofs.lemmas.Bool.{true≢false, ne_eqb}
use Rattle.std.proofs.lemmas.List.Elements.{All-contains, All-weaker}
use Rattle.sk_insn.specs.declared.record.Record.{Record}
use Rattle.sk_filter.specs.Verdict.{verdict_of}
use Rattle.sk_survey.specs.Answers.{IsCallOf}
use Rattle.sk_conditions.specs.declared.differences.Differences.{Differences}
use Rattle.sk_conditions.specs.declared.differences.Verdicts.{Verdicts}
use Rattle.sk_conditions.specs.declared.standing.Comparing.{Comparing}
use Rattle.sk_conditions.specs.declared.standing.Relation.{Relation}
use Rattle.sk_conditions.specs.Comparing.{relates}
use Rattle.sk_conditions.specs.Conditions.{Agrees, told}
use Rattle.sk_conditions.specs.Differing.{SaysOf, TellsDifferences}
use Rattle.sk_terms.specs.declared.decision.Decision.{Decision}
use Rattle.sk_terms.specs.declared.lines.LeftOut.TheVariants.{End}
use Rattle.sk_terms.specs.declared.lines.Line.{Line}
use Rattle.sk_terms.specs.Decisions.{DecidesAll, DecidesAs, decided}
use Rattle.sk_terms.specs.Lines.{IsMetBy, meets_line, shown, told_by}
use Rattle.sk_when.specs.declared.parts.Said.TheVariants.{Unknown}
use Rattle.sk_when.specs.declared.piece.Calls.{Calls}
use Rattle.sk_when.specs.declared.piece.Outcome.{Outcome}
use Rattle.sk_when.specs.declared.piece.Outcome.TheVariants.{Undecided, Apart}
use Rattle.sk_when.specs.declared.piece.Part.{Part}
use Rattle.sk_when.specs.Pieces.{Fails, HasVerdicts, HoldsPart, IsPairOf, Says, SaysOfLine, ShowsOf, TellNoWhole, meets_calls}
use Rattle.sk_when.proofs.Elses.{some_value}
use Rattle.sk_when.proofs.RowsMet.{Tells, each_tells, found, one_line}

-- what a tree says of two verdicts its decision says too
same_number : (t : Option ℕ) (n : ℕ) → ((value : ℕ) → Agrees t value → n ≡ value) → t ≡ Some n
same_number None n agrees = let one = agrees (n + 1) tt in absurd (omega (arith, one))
same_number (Some m) n agrees = ap Some (sym (agrees m refl))

says_of : (relation : Relation) (pairs : List Verdicts) (old new : ℕ) (t d : Option ℕ) → ((value : ℕ) → Agrees t value → Agrees d value)
    → SaysOf relation pairs old new t → SaysOf relation pairs old new d
says_of relation pairs old new t None agrees says = tt
says_of relation pairs old new t (Some n) agrees says = subst (SaysOf relation pairs old new) (same_number t n agrees) says

pub decided_says : (chains : Comparing) (it : Differences) (decision : Decision) → TellsDifferences chains it → DecidesAs decision it.tree
    → (call : Record) → IsCallOf chains.numbers.first chains.numbers.last call
    → SaysOf chains.relation it.pairs.items (verdict_of chains.old.now call) (verdict_of chains.new.now call) (decided decision call)
decided_says chains it decision tells decides call within =
    says_of chains.relation it.pairs.items (verdict_of chains.old.now call) (verdict_of chains.new.now call) (told it.tree call) (decided decision call)
    (decides call within.0) (tells call within)

-- the ends that get a line
shown_none : shown (End (Some 0)) None ≡ None ∷ []
shown_none = refl

shown_some : (i : ℕ) → shown (End (Some 0)) (Some (suc i)) ≡ Some (suc i) ∷ []
shown_some i = ap (λ b. if b then [] else Some (suc i) ∷ []) (ne_eqb (suc i) 0 (λ e. absurd (omega (arith, e))))

-- so the lines of a tree that tells the differences say of their calls how the verdicts stand
pub lines_say : (chains : Comparing) (it : Differences) (decision : Decision) (lines : List Line) → TellsDifferences chains it → DecidesAs decision it.tree
    → ((call : Record) → told_by lines call ≡ shown (End (Some 0)) (decided decision call)) → All (SaysOfLine chains it.pairs.items) lines
lines_say chains it decision lines tells decides told =
    All-weaker (Tells (decided decision)) (SaysOfLine chains it.pairs.items)
    (λ line same call within met.
    subst (SaysOf chains.relation it.pairs.items (verdict_of chains.old.now call) (verdict_of chains.new.now call)) (same call met)
    (decided_says chains it decision tells decides call within))
    lines (each_tells lines (End (Some 0)) (decided decision) told)

-- a call of which a line tells something meets it
some_head : (line : Line) (lines : List Line) (call : Record) (value : Option ℕ) (b : Bool) → meets_line line call ≡ b
    → (if b then line.value ∷ told_by lines call else told_by lines call) ≡ value ∷ []
    → (told_by lines call ≡ value ∷ [] → list_any (λ it. meets_line it call) lines ≡ true)
    → (meets_line line call || list_any (λ it. meets_line it call) lines) ≡ true
some_head line lines call value true is so_told more = ap (λ b. b || list_any (λ it. meets_line it call) lines) is
some_head line lines call value false is so_told more = ap (λ b. b || list_any (λ it. meets_line it call) lines) is ∙ more so_told

some_line : (lines : List Line) (call : Record) (value : Option ℕ) → told_by lines call ≡ value ∷ [] → list_any (λ line. meets_line line call) lines ≡ true
some_line [] call value e = cc
some_line (line ∷ lines) call value e =
    some_head line lines call value (meets_line line call) refl (sym (one_line line lines call) ∙ e) (some_line lines call value)

some_end : (relation : Relation) (pairs : List Verdicts) (old new : ℕ) (d : Option ℕ) → SaysOf relation pairs old new d → relates relation old new ≡ false
    → (value : Option ℕ) × (shown (End (Some 0)) d ≡ value ∷ [])
some_end relation pairs old new None says differs = (None, shown_none)
some_end relation pairs old new (Some zero) says differs = absurd (true≢false (sym says ∙ differs))
some_end relation pairs old new (Some (suc i)) says differs = (Some (suc i), shown_some i)

-- a call on which the relation fails meets a line
pub lines_cover : (chains : Comparing) (it : Differences) (decision : Decision) (lines : List Line) → TellsDifferences chains it → DecidesAs decision it.tree
    → ((call : Record) → told_by lines call ≡ shown (End (Some 0)) (decided decision call)) → (call : Record) → Fails chains call
    → list_any (λ line. meets_line line call) lines ≡ true
lines_cover chains it decision lines tells decides told call fails =
    let value = some_end chains.relation it.pairs.items (verdict_of chains.old.now call) (verdict_of chains.new.now call) (decided decision call)
    (decided_says chains it decision tells decides call fails.0) fails.1 in
    some_line lines call value.0 (told call ∙ value.1)

-- a line that a call meets has a value, where one is told of each call
pub values_are_told : (decision : Decision) (calls : List Record) (lines : List Line) → DecidesAll decision
    → ((call : Record) → told_by lines call ≡ shown (End (Some 0)) (decided decision call)) → All (IsMetBy calls) lines → All (λ line. IsSome line.value) lines
values_are_told decision calls lines all told met k other less =
    let line = get_or lines k other in
    let it = found (λ call. Unit {0}) (λ call. meets_line line call) calls (λ i call inside. tt) (met k other less) in
    let is = some_value decision it.0 all in
    subst IsSome (sym is.1 ∙ each_tells lines (End (Some 0)) (decided decision) told k other less it.0 it.2) refl

-- the part of a line whose verdicts are known, and the relation fails
pub apart_holds : (chains : Comparing) (pairs : List Verdicts) (line : Line) (pair : Verdicts) (among : List Record) (calls : Calls) (outcome : Outcome)
    → SaysOfLine chains pairs line → IsPairOf chains.relation pairs line.value pair → All (IsCallOf chains.numbers.first chains.numbers.last) among
    → ((call : Record) → meets_calls calls call ≡ meets_line line call) → ShowsOf line among pair outcome
    → TellNoWhole chains.numbers calls → HoldsPart chains (record { calls = calls; outcome = outcome })
apart_holds chains pairs line pair among calls Undecided says is within meets shows tells = (tt, tells)
apart_holds chains pairs line pair among calls (Apart it call) says is within meets shows tells = (
  (
    λ other inside met.
        subst (λ p. HasVerdicts chains.old.now chains.new.now p other) (sym shows.0)
        (is.0 (verdict_of chains.old.now other) (verdict_of chains.new.now other) (says other inside (sym (meets other) ∙ met))),
    subst (λ (p : Verdicts). relates chains.relation p.old p.new ≡ false) (sym shows.0) is.1,
    (All-contains (IsCallOf chains.numbers.first chains.numbers.last) among call within shows.1, meets call ∙ shows.2),
  ),
  tells,
)

-- a line with a value that a call meets is never one of which nothing is known
pub never_unknown : (chains : Comparing) (pairs : List Verdicts) (line : Line) (calls : List Record) → SaysOfLine chains pairs line
    → All (IsCallOf chains.numbers.first chains.numbers.last) calls → Says chains.relation pairs line.value Unknown → IsMetBy calls line → IsSome line.value → ⊥
never_unknown chains pairs line calls says within unknown met some =
    let it = found (IsCallOf chains.numbers.first chains.numbers.last) (λ call. meets_line line call) calls within met in
    true≢false (sym (subst IsSome (unknown (verdict_of chains.old.now it.0) (verdict_of chains.new.now it.0) (says it.0 it.1 it.2)) some))

or_true : (a : Bool) → (a || true) ≡ true
or_true true = refl
or_true false = refl

of_three : (a b c d : Bool) → ((a || b) ≡ true → d ≡ true) → (a || (b || c)) ≡ true → (d || c) ≡ true
of_three true b c d added any = ap (λ x. x || c) (added refl)
of_three false true c d added any = ap (λ x. x || c) (added refl)
of_three false false true d added any = or_true d
of_three false false false d added any = cc

-- the loop over the lines: a call that meets the next line, or one behind it
pub next_covers : (parts next : List Part) (line : Line) (left rest : List Line) (call : Record) → left ≡ line ∷ rest
    → ((list_any (λ it. meets_calls it.calls call) parts || meets_line line call) ≡ true → list_any (λ it. meets_calls it.calls call) next ≡ true)
    → (list_any (λ it. meets_calls it.calls call) parts || list_any (λ it. meets_line it call) left) ≡ true
    → (list_any (λ it. meets_calls it.calls call) next || list_any (λ it. meets_line it call) rest) ≡ true
next_covers parts next line left rest call steps added before =
    of_three (list_any (λ it. meets_calls it.calls call) parts) (meets_line line call) (list_any (λ it. meets_line it call) rest)
    (list_any (λ it. meets_calls it.calls call) next) added
    (sym (ap (λ lines. list_any (λ it. meets_calls it.calls call) parts || list_any (λ it. meets_line it call) lines) steps) ∙ before)
