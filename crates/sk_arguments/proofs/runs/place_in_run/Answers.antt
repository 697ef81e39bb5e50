use Rattle.std.proofs.Common.{sym, ◌∙◌}
use Rattle.sk_arguments.specs.Reading.{names_in}
use Rattle.sk_arguments.proofs.Following.{nothing_alike}
use Rattle.sk_arguments.proofs.runs.place_in_run.Goals as goal

pub returns-else-begins_alike : goal.returns-else-begins_alike
returns-else-begins_alike c = record {
  first = sym (nothing_alike c.args.names.now c.args.wanted.now (names_in c.args.names.now) c.requires.alike (sym c.begins_alike.ensures.alike ∙ c.if-begins_alike.false));
}
