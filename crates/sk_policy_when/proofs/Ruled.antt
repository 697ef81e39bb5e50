-- Rows that become rules, one after the other, and rows of which each line has a verdict.
use Rattle.std.proofs.Common.{◌≡◌, ℕ, zero, suc, ◌+◌, ◌<◌, Bool, true, false, if◌then◌else◌, List, [], ◌∷◌, ◌++◌, length, get_or, Option, Some, None, inl, inr, refl, sym, ap, subst, ◌∙◌, append_assoc, arith}
use Rattle.std.specs.Prelude.{IsSome}
use Rattle.std.specs.List.{All}
use Rattle.std.proofs.lemmas.Bool.{cases_Bool}
use Rattle.std.proofs.lemmas.List.{append-nil}
use Rattle.sk_insn.specs.declared.insn.Insn.{Insn}
use Rattle.sk_insn.specs.declared.record.Record.{Record}
use Rattle.sk_filter.specs.Verdict.{verdict_of}
use Rattle.sk_terms.specs.declared.lines.Line.{Line}
use Rattle.sk_terms.specs.Lines.{meets_line, told_by}
use Rattle.sk_when.specs.declared.row.ConditionalRow.{ConditionalRow}
use Rattle.sk_when.specs.Lines.{IsExact, IsMet, or_else}
use Rattle.sk_policy.specs.declared.cases.Case.{Case}
use Rattle.sk_policy.specs.declared.policy.Rule.{Rule}
use Rattle.sk_policy_when.specs.Again.{AreCasesOf, AreRulesOf, IsRuleOf}
use Rattle.sk_policy_when.specs.Smaller.{CanBeCase, CanBeRule, RowThere}

-- ---- one after the other

-- the first ones of a list, up to those that are left, are made
pub record AreMade {A B : Type 0} (Are : List A → List B → Type 0) (all left : List A) (made : List B) : Type 0 where
  pub front : List A
  pub whole : all ≡ front ++ left
  pub are : Are front made

pub none_made : {A B : Type 0} (Are : List A → List B → Type 0) (all : List A) (made : List B) → Are [] [] → made ≡ [] → AreMade Are all all made
none_made Are all made nothing is = record { front = []; whole = refl; are = subst (Are []) (sym is) nothing }

pub one_more_made : {A B : Type 0} (Are : List A → List B → Type 0) (all left rest : List A) (made next : List B) (a : A) (b : B)
    → ((front : List A) → Are front made → Are (front ++ a ∷ []) (made ++ b ∷ [])) → left ≡ a ∷ rest → next ≡ made ++ b ∷ [] → AreMade Are all left made → AreMade Are all rest next
one_more_made Are all left rest made next a b more steps is so_far = record {
  front = so_far.front ++ a ∷ [];
  whole = so_far.whole ∙ ap (λ left. so_far.front ++ left) steps ∙ sym (append_assoc so_far.front (a ∷ []) rest);
  are = subst (Are (so_far.front ++ a ∷ [])) (sym is) (more so_far.front so_far.are);
}

pub all_made : {A B : Type 0} (Are : List A → List B → Type 0) (all left : List A) (made : List B) → left ≡ [] → AreMade Are all left made → Are all made
all_made Are all left made end so_far =
    subst (λ them. Are them made) (sym (so_far.whole ∙ ap (λ left. so_far.front ++ left) end ∙ append-nil so_far.front)) so_far.are

holds_behind : {A : Type 0} (P : A → Type 0) (front rest : List A) (a : A) → All P (front ++ a ∷ rest) → P a
holds_behind P [] rest a all = all zero a (omega arith)
holds_behind P (first ∷ front) rest a all = holds_behind P front rest a (λ k d less. all (suc k) d (omega (arith, less)))

-- what holds of all holds of the first that is left
pub first_left : {A B : Type 0} (Are : List A → List B → Type 0) (P : A → Type 0) (all left rest : List A) (made : List B) (a : A) → left ≡ a ∷ rest → AreMade Are all left made → All P all → P a
first_left Are P all left rest made a steps so_far holds =
    holds_behind P so_far.front rest a (subst (All P) (so_far.whole ∙ ap (λ left. so_far.front ++ left) steps) holds)

pub case_more : (lines : List Line) (cases : List Case) (line : Line) (it : Case) → line.value ≡ Some it.value → line.choices.items ≡ it.choices.items → AreCasesOf lines cases
    → AreCasesOf (lines ++ line ∷ []) (cases ++ it ∷ [])
case_more [] [] line it value choices are = (value, choices, tt)
case_more [] (other ∷ cases) line it value choices are = absurd are
case_more (first ∷ lines) [] line it value choices are = absurd are
case_more (first ∷ lines) (other ∷ cases) line it value choices are = (are.0, are.1, case_more lines cases line it value choices are.2)

pub rule_more : (rows : List ConditionalRow) (rules : List Rule) (told : ConditionalRow) (rule : Rule) → IsRuleOf told rule → AreRulesOf rows rules → AreRulesOf (rows ++ told ∷ []) (rules ++ rule ∷ [])
rule_more [] [] told rule is are = (is, tt)
rule_more [] (other ∷ rules) told rule is are = absurd are
rule_more (first ∷ rows) [] told rule is are = absurd are
rule_more (first ∷ rows) (other ∷ rules) told rule is are = (are.0, rule_more rows rules told rule is are.1)

-- ---- verdicts

-- a line that a call meets is told
is_told : (lines : List Line) (call : Record) (k : ℕ) (d : Line) → k < length lines → meets_line (get_or lines k d) call ≡ true → told_by lines call ≡ [] → ⊥
is_told [] call k d less met none = absurd (omega (arith, less))
is_told (line ∷ lines) call zero d less met none = let some : line.value ∷ told_by lines call ≡ [] = rw met at none in cc
is_told (line ∷ lines) call (suc k) d less met none = elim (cases_Bool (meets_line line call)) [
  | inl here ↦ let some : line.value ∷ told_by lines call ≡ [] = rw here at none in cc
  | inr away ↦ let rest : told_by lines call ≡ [] = rw away at none in is_told lines call k d (omega (arith, less)) met rest
]

-- so its value is the one that is told
met_value : (lines : List Line) (otherwise : Option ℕ) (call : Record) (value : Option ℕ) (k : ℕ) (d : Line) → k < length lines → meets_line (get_or lines k d) call ≡ true
    → or_else (told_by lines call) otherwise ≡ value ∷ [] → (get_or lines k d).value ≡ value
met_value [] otherwise call value k d less met told = absurd (omega (arith, less))
met_value (line ∷ lines) otherwise call value zero d less met told = let first : line.value ∷ told_by lines call ≡ value ∷ [] = rw met at told in cc
met_value (line ∷ lines) otherwise call value (suc k) d less met told = elim (cases_Bool (meets_line line call)) [
  | inl here ↦
      let first : line.value ∷ told_by lines call ≡ value ∷ [] = rw here at told in
      let none : told_by lines call ≡ [] = cc in
      absurd (is_told lines call k d (omega (arith, less)) met none)
  | inr away ↦
      let rest : or_else (told_by lines call) otherwise ≡ value ∷ [] = rw away at told in
      met_value lines otherwise call value k d (omega (arith, less)) met rest
]

has_value : (told : Option ℕ) (value : ℕ) → told ≡ Some value → IsSome told
has_value told value is = subst IsSome (sym is) refl

otherwise_value : (told : ConditionalRow) (call : Record) (value : Option ℕ) → told_by told.lines.items call ≡ [] → or_else (told_by told.lines.items call) told.otherwise ≡ value ∷ [] → told.otherwise ≡ value
otherwise_value told call value none is =
    let one : told.otherwise ∷ [] ≡ value ∷ [] = rw none at is in
    cc

-- a row that tells of each call its verdict has one in each line
row_can : (programs : List (List Insn)) (told : ConditionalRow) → IsExact programs told → IsMet programs told → RowThere told → CanBeRule told
row_can programs told exact met there = (
  λ k d less.
      let it = met.lines k d less in (
        has_value (get_or told.lines.items k d).value (verdict_of programs it.0)
            (met_value told.lines.items told.otherwise it.0 (Some (verdict_of programs it.0)) k d less it.2 (exact it.0 it.1)),
        there k d less,
      ),
  let it = met.otherwise in
      has_value told.otherwise (verdict_of programs it.0) (otherwise_value told it.0 (Some (verdict_of programs it.0)) it.2 (exact it.0 it.1)),
)

pub rows_can : (programs : List (List Insn)) (rows : List ConditionalRow) → All (IsExact programs) rows → All (IsMet programs) rows → All RowThere rows → All CanBeRule rows
rows_can programs rows exact met there = λ k d less. row_can programs (get_or rows k d) (exact k d less) (met k d less) (there k d less)
