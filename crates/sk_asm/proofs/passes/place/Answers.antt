use Rattle.std.proofs.Common.{◌∙◌, sym}
use Rattle.sk_asm.proofs.Entries.{named_in_entries}
use Rattle.sk_asm.proofs.passes.place.Goals as goal

pub returns : goal.returns
returns c = record {
  place = c.copied.ensures ∙ c.get.ensures.value ∙ sym (named_in_entries c.args.name.now c.args.labels.now.entries);
}
