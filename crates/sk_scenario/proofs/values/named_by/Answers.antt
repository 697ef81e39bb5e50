use Rattle.std.proofs.Common.{◌∙◌, sym}
use Rattle.sk_scenario.proofs.Common.{named_in_entries}
use Rattle.sk_scenario.proofs.values.named_by.Goals as goal

pub returns : goal.returns
returns c = record { exact = c.copied.ensures ∙ c.get.ensures.value ∙ sym (named_in_entries c.args.name.now c.args.names.now.entries) }
