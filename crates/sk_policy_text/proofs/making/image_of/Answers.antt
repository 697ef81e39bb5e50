use Rattle.std.proofs.Common.{ap, ◌∙◌}
use Rattle.sk_insn.specs.Instructions.{image_of}
use Rattle.sk_policy_text.proofs.making.image_of.Goals as goal

pub returns-in_ok-image-in-Ok-clause-image : goal.returns-in_ok-image-in-Ok-clause-image
returns-in_ok-image-in-Ok-clause-image c = record {
  insns = c.in-Ok.insns.items;
  written = c.in_ok-image-in-Ok.ensures.image ∙ ap image_of c.deref.ensures.value;
  valid = c.in-Ok.ensures.valid;
  means = c.in-Ok.ensures.means;
  others = c.in-Ok.ensures.others;
}
