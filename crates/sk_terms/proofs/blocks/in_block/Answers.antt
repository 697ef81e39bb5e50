use Rattle.std.proofs.Common.{◌≡◌, ◌+◌, ◌-◌, ◌%◌, not, true, false, Bool, refl, sym}
use Rattle.sk_terms.proofs.Borders.{lifted_holds, instead}
use Rattle.sk_terms.proofs.blocks.in_block.Goals as goal

is_inside : (b : Bool) → not b ≡ false → b ≡ true
is_inside true e = refl
is_inside false e = sym e

pub returns : goal.returns
returns c = record {
  both = instead c.args.block (record c.args.low {
    mask = c.args.block.mask;
    first = (c.args.block.first - c.args.block.first % 4294967296) + c.args.low.first;
    last = (c.args.block.first - c.args.block.first % 4294967296) + c.args.low.last;
  }) c.args.low c.on_same_bits.result (λ call.
      lifted_holds c.args.block c.args.low (c.args.block.first - c.args.block.first % 4294967296) call c.requires.register c.requires.mask
      (is_inside c.args.block.inside c.if-not-block.false) c.if-block.false refl) c.on_same_bits.ensures.both;
}
