use Rattle.std.proofs.Common.{sym, ◌∙◌, ap}
use Rattle.sk_insn.specs.Instructions.{image_instructions}
use Rattle.sk_engines.specs.Filters.{image_attached}
use Rattle.sk_engines.proofs.Chaining.{bytes_of, chained_at}
use Rattle.sk_engines.proofs.filters.attach_images.Goals as goal

pub returns-in-Err : goal.returns-in-Err
returns-in-Err c =
    let image = c.as_slice.ensures.value ∙ ap bytes_of c.index-images-number.is in
    let attached = sym c.in-Err.is ∙ c.in_ok-filters.ensures.chain ∙ ap (λ bytes. image_attached c.loop-number.filters (image_instructions bytes)) image in
    record {
      chain = chained_at c.args.images.now c.loop-number.number c.index-images-number.result c.loop-number.filters _ _ c.loop-number-test.true attached c.loop-number.invariant;
    }

pub loop-number-preserved : goal.loop-number-preserved
loop-number-preserved c =
    let image = c.as_slice.ensures.value ∙ ap bytes_of c.index-images-number.is in
    let attached = sym c.in-Ok.is ∙ c.in_ok-filters.ensures.chain ∙ ap (λ bytes. image_attached c.loop-number.filters (image_instructions bytes)) image in
    chained_at c.args.images.now c.loop-number.number c.index-images-number.result c.loop-number.filters _ _ c.loop-number-test.true attached c.loop-number.invariant
