use Rattle.sk_profile_json.proofs.Behind.{text_behind}
use Rattle.sk_profile_json.proofs.inspected.behind.Goals as goal

pub returns : goal.returns
returns c = record { behind = text_behind c.args.start.now c.args.word.now c.strip_prefix.result c.strip_prefix.ensures.cases }
