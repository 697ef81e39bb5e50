use Rattle.std.proofs.Common.{sym}
use Rattle.sk_profile_json.proofs.Places.{entry_numbers}
use Rattle.sk_profile_json.proofs.line.line_within.Goals as goal

pub line_in-requires : goal.line_in-requires
line_in-requires c = record { numbers = entry_numbers c.args.text.now c.args.number _ _ c.requires.document (sym c.in-Some.ensures.entry) }
