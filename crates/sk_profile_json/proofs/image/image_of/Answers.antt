use Rattle.std.proofs.Common.{arith}
use Rattle.std.proofs.lemmas.Grind.{common_steps}
use Rattle.std.proofs.lemmas.List.Elements.{All-more}
use Rattle.sk_profile_json.specs.Ranges.{IsInRange}
use Rattle.sk_profile_json.proofs.Images.{image_is_read}
use Rattle.sk_profile_json.proofs.image.image_of.Goals as goal

pub loop-insn-preserved : goal.loop-insn-preserved
loop-insn-preserved c = record {
  bytes = grind (arith, common_steps);
  ranges = All-more IsInRange c.args.insns.now c.loop-insn.insn-index _ (omega arith) c.loop-insn.invariant.ranges c.push_insn.ensures.range;
}

pub returns : goal.returns
returns c = record {
  read = image_is_read _ _ _ c.loop-insn-test.false c.loop-insn.invariant.bytes c.loop-insn.invariant.ranges c.requires.valid;
}
