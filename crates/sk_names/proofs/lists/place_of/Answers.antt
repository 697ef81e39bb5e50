use Rattle.std.proofs.Common.{sym, ◌∙◌}
use Rattle.std.specs.Str.{bytes_eq}
use Rattle.sk_names.proofs.Places.{position_texts}
use Rattle.sk_names.proofs.lists.place_of.Goals as goal

pub returns-clause-first : goal.returns-clause-first
returns-clause-first c =
    c.place_in.ensures.first ∙ sym (position_texts (λ name. bytes_eq name c.args.wanted.now) c.args.names.now)
