-- Lines that one call meets: there is one at most.
use Rattle.std.proofs.Common.{◌≡◌, ◌≤◌, ◌∷◌, ◌++◌, ◌||◌, Bool, true, false, if◌then◌else◌, List, [], Option, ℕ, ap, refl, ◌∙◌, arith, length}
use Rattle.std.specs.List.{All}
use Rattle.std.proofs.lemmas.List.Elements.{All-head, All-tail}
use Rattle.sk_insn.specs.declared.record.Record.{Record}
use Rattle.sk_terms.specs.declared.lines.LeftOut.{LeftOut}
use Rattle.sk_terms.specs.declared.lines.LeftOut.TheVariants.{Nothing, End}
use Rattle.sk_terms.specs.declared.lines.Line.{Line}
use Rattle.sk_terms.specs.Lines.{IsMetBy, meets_line, same_end, shown, told_by}
use Rattle.sk_terms.proofs.Telling.{told_cons}

one_or_none : (b : Bool) (value : Option ℕ) → length (if b then [] else value ∷ []) ≤ 1
one_or_none true value = omega arith
one_or_none false value = omega arith

few_shown : (left_out : LeftOut) (value : Option ℕ) → length (shown left_out value) ≤ 1
few_shown Nothing value = omega arith
few_shown (End otherwise) value = one_or_none (same_end value otherwise) value

meets_it : (b : Bool) → (b || false) ≡ true → b ≡ true
meets_it true is = refl
meets_it false is = is

all_told : (lines : List Line) (call : Record) → All (IsMetBy (call ∷ [])) lines → length lines ≡ length (told_by lines call)
all_told [] call all = refl
all_told (line ∷ lines) call all =
    let here = meets_it (meets_line line call) (All-head (IsMetBy (call ∷ [])) line lines all) in
    let rest = all_told lines call (All-tail (IsMetBy (call ∷ [])) line lines all) in
    let told : told_by (line ∷ lines) call ≡ line.value ∷ told_by lines call =
    told_cons line lines call ∙ ap (λ b. (if b then line.value ∷ [] else []) ++ told_by lines call) here in
    omega (arith, rest, ap length told)

pub few_lines : (lines : List Line) (calls : List Record) (left_out : LeftOut) (value : Record → Option ℕ) → length calls ≡ 1 → All (IsMetBy calls) lines
    → ((call : Record) → told_by lines call ≡ shown left_out (value call)) → length lines ≤ 1
few_lines lines [] left_out value one met told = absurd (omega (arith, one))
few_lines lines (call ∷ []) left_out value one met told = omega (arith, all_told lines call met, ap length (told call), few_shown left_out (value call))
few_lines lines (call ∷ other ∷ calls) left_out value one met told = absurd (omega (arith, one))
