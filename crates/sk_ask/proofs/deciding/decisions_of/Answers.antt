use Rattle.std.proofs.Common.{◌≡◌, ◌⊎◌, ◌++◌, ◌∙◌, ap, subst, map, string_bytes, length, inl, inr}
use Rattle.sk_document.specs.Deciding.{pair_of}
use Rattle.sk_ask.specs.Deciding.{Decides, in_file}
use Rattle.sk_ask.specs.Forms.{unmarked}
use Rattle.sk_ask.proofs.Decided.{all_are_decided, goes_on}
use Rattle.sk_ask.proofs.deciding.decisions_of.Goals.{in-Some+in_default-split_first, in_default}
use Rattle.sk_ask.proofs.deciding.decisions_of.Goals as goal

pub loop-name-preserved : goal.loop-name-preserved
loop-name-preserved c =
    let found = c.in_ok-found.found in
    let pushed = subst (λ name. map pair_of c.push_decision.new.decisions.items ≡ map pair_of c.loop-name.decisions.items ++ in_file name found)
    c.as_str.ensures.value c.in_ok-push_decision.ensures.pushed in
    let decides = subst (λ text. Decides c.args.context.now c.args.call.now text found)
    (c.unmarked.ensures.text ∙ ap unmarked c.deref.ensures.value) c.in_ok-found.ensures.decides in
    goes_on _ _ pair_of c.args.context.now c.args.call.now c.loop-name.rest.now c.in-Some.other_names.now c.in-Some.name.now c.loop-name.left.now
    c.in-Some-split_first.other_files.now c.in-Some-split_first.file.now c.loop-name.decisions.items c.push_decision.new.decisions.items found _
    c.in-Some.ensures.cases.0 c.in-Some-split_first.ensures.cases.0 pushed decides c.loop-name.invariant

pub returns : goal.returns
returns c =
    let ends : (length c.loop-name.rest.now ≡ 0) ⊎ (length c.loop-name.left.now ≡ 0) = elim c.match-split_first.branch [
      | in-Some+in_default-split_first w ↦ inr w.in_default-split_first.ensures.cases
      | in_default w ↦ inl w.in_default.ensures.cases
    ] in
    record { decided = all_are_decided _ _ pair_of c.args.context.now c.args.call.now c.loop-name.rest.now c.loop-name.left.now c.loop-name.decisions.items _ ends c.loop-name.invariant }
