use Rattle.std.proofs.Common.{◌≡◌, ◌∙◌, ◌&&◌, ◌||◌, ap, refl, sym, codes, nat_cmp}
use Rattle.std.specs.BTreeSet.{contains}
use Rattle.sk_text.specs.Lines.{lines_of}
use Rattle.sk_names.specs.Names.{number_on}
use Rattle.sk_replay.specs.Since.{is_other, scope_by, scope_of}
use Rattle.sk_replay.proofs.Attached.{all_attached, all_lines, none_seen, one_more, told}
use Rattle.sk_replay.proofs.since.since_attached.Goals as goal
use Rattle.sk_replay.proofs.since.since_attached.Goals.{then-is_attached, else-is_attached}

pub loop-line-init : goal.loop-line-init
loop-line-init c = none_seen _ _ _ _ _ c.new-outside.ensures.empty c.new-text.ensures.items refl

pub loop-line-preserved : goal.loop-line-preserved
loop-line-preserved c =
    let under : c.if-is_attached.is_under ≡ (c.loop-line.is_attached && is_other (contains nat_cmp c.loop-line.outside) c.process_of-process.result) =
    elim c.if-is_attached.branch [
      | then-is_attached w ↦ w.is_under-is ∙ w.is_other-is_under.ensures.other ∙ sym (ap (λ b. b && is_other (contains nat_cmp c.loop-line.outside) c.process_of-process.result) w.if-is_attached.true)
      | else-is_attached w ↦ w.is_under-is ∙ w.if-is_attached.false ∙ sym (ap (λ b. b && is_other (contains nat_cmp c.loop-line.outside) c.process_of-process.result) w.if-is_attached.false)
    ] in
    let behind = lines_of c.next.new.self.0.now in
    let scope : c.scope_by-scope.result ≡ scope_of c.args.architecture c.in-Some.line.now behind =
    c.scope_by-scope.ensures.scope
    ∙ ap (λ nr. scope_by nr c.number-prctl.result c.args.architecture c.in-Some.line.now behind) c.number-seccomp.ensures.first
    ∙ ap (λ nr. scope_by (number_on c.args.architecture (codes "seccomp")) nr c.args.architecture c.in-Some.line.now behind) c.number-prctl.ensures.first in
    one_more _ _ _ _ c.args.log.now c.loop-line.lines.0.now _ _ c.in-Some.ensures.steps c.loop-line.invariant _ _ _ _ _ _
    c.process_of-process.ensures.process under c.in_ok-push_line.ensures.pushed scope
    (ap (λ b. c.loop-line.is_attached || b) c.is_some-is_attached.ensures) c.in_ok-note.ensures.noted

pub returns : goal.returns
returns c =
    let none = c.in_default.ensures.steps.0 in
    let some = all_attached _ _ _ _ _ _ none c.loop-line.invariant in
    let lines = all_lines _ _ _ _ _ _ none c.loop-line.invariant in
    record { lines = told _ _ c.loop-line.text _ _ c.then_some.ensures some lines }
