use Rattle.std.proofs.Common.{sym, ◌∙◌}
use Rattle.sk_profile.specs.Views.{part_of}
use Rattle.sk_profile_json.specs.Partings.{is_of}
use Rattle.sk_profile_json.proofs.Finding.{find_here, find_later}
use Rattle.sk_profile_json.proofs.parting.part_for.Goals as goal

pub returns-then-is_of : goal.returns-then-is_of
returns-then-is_of c =
    let found = find_here part_of (is_of c.args.arch) _ _ c.part-item.result c.loop-part-test.true c.part-item.is (sym c.if-is_of.ensures.is) in
    record { first = sym found ∙ c.loop-part.invariant }

pub loop-part-preserved : goal.loop-part-preserved
loop-part-preserved c =
    find_later part_of (is_of c.args.arch) _ _ c.part-item.result c.loop-part-test.true c.part-item.is (sym c.if-is_of.ensures.is) ∙ c.loop-part.invariant
