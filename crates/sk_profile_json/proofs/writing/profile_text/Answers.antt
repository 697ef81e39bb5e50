use Rattle.std.proofs.Common.{sym, subst}
use Rattle.sk_profile_json.specs.Writing.{SaysOf}
use Rattle.sk_profile_json.proofs.Reread.{says_of}
use Rattle.sk_profile_json.proofs.writing.profile_text.Goals as goal

pub returns-in_ok-text_of-in-None-clause-says : goal.returns-in_ok-text_of-in-None-clause-says
returns-in_ok-text_of-in-None-clause-says c =
    subst (SaysOf c.args.numbers.now) (sym c.in_ok-text_of-in-None.ensures.text) (says_of c.args.numbers.now (sym c.in-None.ensures.first))
