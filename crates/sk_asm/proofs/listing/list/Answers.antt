use Rattle.std.proofs.Common.{arith}
use Rattle.std.proofs.lemmas.Grind.{common_steps}
use Rattle.std.proofs.lemmas.List.Elements.{All-more}
use Rattle.sk_asm.specs.RoundTrip.{IsInRange}
use Rattle.sk_asm.proofs.Listings.{text-assembles}
use Rattle.sk_asm.proofs.listing.list.Goals as goal

pub loop-insn-preserved : goal.loop-insn-preserved
loop-insn-preserved c = record {
  text = grind (arith, common_steps);
  ranges = All-more IsInRange c.args.insns.now c.loop-insn.insn-index _ (omega arith) c.loop-insn.invariant.ranges c.push_line.ensures.range;
}

pub returns-clause-assembles : goal.returns-clause-assembles
returns-clause-assembles c =
    text-assembles _ _ _ c.loop-insn-test.false c.loop-insn.invariant.text c.loop-insn.invariant.ranges
