use Rattle.std.proofs.Common.{◌≡◌, ◌++◌, true, false, ◌&&◌, not, if◌then◌else◌, [], filter, ap, sym, subst, ◌∙◌}
use Rattle.std.proofs.lemmas.Result.{on_ok_weaker}
use Rattle.sk_insn.specs.declared.record.Record.{Record}
use Rattle.sk_terms.specs.Decisions.{decided, EachEndIsMetBy, GoTogether}
use Rattle.sk_terms.specs.Lines.{meets_choices, meets_clause, told_by, shown}
use Rattle.sk_terms.specs.Terms.{holds_term}
use Rattle.sk_terms.proofs.Ends.{both_hold, passes_both}
use Rattle.sk_terms.proofs.Meeting.{parted_lines}
use Rattle.sk_terms.proofs.Numbers.{side_alike, one_side, other_side}
use Rattle.sk_terms.proofs.lines.+add_lines.Goals as goal

pub returns-in_ok-no-in-Ask-clause-told : goal.returns-in_ok-no-in-Ask-clause-told
returns-in_ok-no-in-Ask-clause-told t c =
    on_ok_weaker c.add_lines-in-Ask.result (λ h call.
    parted_lines (shown c.args.left_out) (told_by c.args.lines.now.items call) (told_by c.add_lines.new.lines.items call) (told_by c.add_lines-in-Ask.new.lines.items call)
    (meets_choices c.in-All.choices.items call) (meets_clause c.in_ok-yes-in-Ask.yes call) (meets_clause c.in_ok-no-in-Ask.no call) (holds_term c.in-Ask.term call)
    (decided c.in-Ask.held.value call) (decided c.in-Ask.failed.value call)
    (c.in_ok-add_lines-in-Ask.ensures.told call
    ∙ ap (λ tree. told_by c.args.lines.now.items call ++ (if meets_clause c.in_ok-yes-in-Ask.yes call then shown c.args.left_out (decided tree call) else [])) c.deref-in-Ask.ensures)
    (h call
    ∙ ap (λ tree. told_by c.add_lines.new.lines.items call ++ (if meets_clause c.in_ok-no-in-Ask.no call then shown c.args.left_out (decided tree call) else [])) c.deref-otherwise.ensures)
    (c.in_ok-yes-in-Ask.ensures.meets call ∙ ap (λ choices. meets_choices choices call && holds_term c.in-Ask.term call) c.deref.ensures.value)
    (c.in_ok-no-in-Ask.ensures.meets call ∙ ap (λ b. meets_choices c.in-All.choices.items call && b) (c.negated.ensures.negated call))
    ∙ ap (λ tree. told_by c.args.lines.now.items call ++ (if meets_choices c.in-All.choices.items call then shown c.args.left_out (decided tree call) else [])) (sym c.in-Ask.is)
    ∙ ap (λ clause. told_by c.args.lines.now.items call ++ (if meets_clause clause call then shown c.args.left_out (decided c.args.decision.now call) else [])) (sym c.in-All.is)) c.add_lines-in-Ask.ensures.told

pub returns-in_ok-no-in-Ask-clause-met : goal.returns-in_ok-no-in-Ask-clause-met
returns-in_ok-no-in-Ask-clause-met t c =
    let choices = c.in-All.choices.items in
    let term = c.in-Ask.term in
    on_ok_weaker c.add_lines-in-Ask.result (λ h calls met all.
    let both = subst (EachEndIsMetBy (filter (λ call. meets_clause c.args.clause call) calls)) c.in-Ask.is met in
    h calls
    (subst (EachEndIsMetBy (filter (λ call. meets_clause c.in_ok-no-in-Ask.no call) calls)) (sym c.deref-otherwise.ensures)
    (passes_both c.in-Ask.failed.value calls (λ call. meets_clause c.args.clause call) (λ call. not (holds_term term call)) (λ call. meets_clause c.in_ok-no-in-Ask.no call)
    (λ call on fails. both_hold (meets_choices choices call) (not (holds_term term call)) (meets_clause c.in_ok-no-in-Ask.no call)
    (c.in_ok-no-in-Ask.ensures.meets call ∙ ap (λ b. meets_choices choices call && b) (c.negated.ensures.negated call))
    (ap (λ clause. meets_clause clause call) (sym c.in-All.is) ∙ on) fails) both.1))
    (c.in_ok-add_lines-in-Ask.ensures.met calls
    (subst (EachEndIsMetBy (filter (λ call. meets_clause c.in_ok-yes-in-Ask.yes call) calls)) (sym c.deref-in-Ask.ensures)
    (passes_both c.in-Ask.held.value calls (λ call. meets_clause c.args.clause call) (λ call. holds_term term call) (λ call. meets_clause c.in_ok-yes-in-Ask.yes call)
    (λ call on holds. both_hold (meets_choices choices call) (holds_term term call) (meets_clause c.in_ok-yes-in-Ask.yes call)
    (c.in_ok-yes-in-Ask.ensures.meets call ∙ ap (λ all. meets_choices all call && holds_term term call) c.deref.ensures.value)
    (ap (λ clause. meets_clause clause call) (sym c.in-All.is) ∙ on) holds) both.0))
    all)) c.add_lines-in-Ask.ensures.met

pub returns-in_ok-no-in-Ask-clause-alike : goal.returns-in_ok-no-in-Ask-clause-alike
returns-in_ok-no-in-Ask-clause-alike t c =
    let choices = c.in-All.choices.items in
    let term = c.in-Ask.term in
    on_ok_weaker c.add_lines-in-Ask.result (λ h one other same together all.
    let alike : meets_choices choices one ≡ meets_choices choices other =
    subst (λ clause. meets_clause clause one ≡ meets_clause clause other) c.in-All.is same in
    let both : meets_choices choices one ≡ true → (holds_term term one ≡ holds_term term other)
    × (holds_term term one ≡ true → GoTogether c.in-Ask.held.value one other) × (holds_term term one ≡ false → GoTogether c.in-Ask.failed.value one other) =
    λ met. subst (λ tree. GoTogether tree one other) c.in-Ask.is (together (ap (λ clause. meets_clause clause one) c.in-All.is ∙ met)) in
    let yes : (call : Record) → meets_clause c.in_ok-yes-in-Ask.yes call ≡ (meets_choices choices call && holds_term term call) =
    λ call. c.in_ok-yes-in-Ask.ensures.meets call ∙ ap (λ all. meets_choices all call && holds_term term call) c.deref.ensures.value in
    let no : (call : Record) → meets_clause c.in_ok-no-in-Ask.no call ≡ (meets_choices choices call && not (holds_term term call)) =
    λ call. c.in_ok-no-in-Ask.ensures.meets call ∙ ap (λ b. meets_choices choices call && b) (c.negated.ensures.negated call) in
    h one other
    (side_alike (λ met. ap not (both met).0) alike (no one) (no other))
    (λ on. subst (λ tree. GoTogether tree one other) (sym c.deref-otherwise.ensures) (other_side (no one) on (λ met. (both met).2)))
    (c.in_ok-add_lines-in-Ask.ensures.alike one other
    (side_alike (λ met. (both met).0) alike (yes one) (yes other))
    (λ on. subst (λ tree. GoTogether tree one other) (sym c.deref-in-Ask.ensures) (one_side (yes one) on (λ met. (both met).1)))
    all)) c.add_lines-in-Ask.ensures.alike
