use Rattle.std.proofs.Common.{[], sym, ap, ◌∙◌}
use Rattle.std.specs.List.{cons_option, fold}
use Rattle.sk_profile_json.specs.EntryViews.{named_view}
use Rattle.sk_profile_json.specs.Runc.{greater, known_number}
use Rattle.sk_profile_json.proofs.Finding.{more_greater, greater_end}
use Rattle.sk_profile_json.proofs.runc.top_on.Goals as goal

pub loop-it-preserved : goal.loop-it-preserved
loop-it-preserved c =
    let new = c.greater-top.ensures.greater ∙ ap (λ o. fold greater c.loop-it.top (cons_option o [])) c.known_number.ensures.number in
    more_greater named_view (known_number c.args.architecture) _ _ c.it-item.result _ _ c.loop-it-test.true c.it-item.is new
    ∙ c.loop-it.invariant

pub returns : goal.returns
returns c = record { top = sym (greater_end named_view (known_number c.args.architecture) _ _ _ c.loop-it-test.false) ∙ c.loop-it.invariant }
