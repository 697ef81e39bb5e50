use Rattle.std.proofs.Common.{rules}
use Rattle.sk_policy_text.proofs.Saying.{filter_of, refused_of}
use Rattle.sk_policy_text.proofs.making.built.Goals as goal

pub returns-in_ok-image-in-Ok-clause-image : goal.returns-in_ok-image-in-Ok-clause-image
returns-in_ok-image-in-Ok-clause-image c = filter_of _ c.in-Ok.policy _ c.in-Ok.ensures.policy c.in_ok-image-in-Ok.ensures.image

pub returns-in_err-image-in-Ok-clause-fault : goal.returns-in_err-image-in-Ok-clause-fault
returns-in_err-image-in-Ok-clause-fault c =
    let it = refused_of c.args.text.now c.in-Ok.policy c.in_err-image-in-Ok.field-0.0 c.in-Ok.ensures.policy c.in_err-image-in-Ok.ensures.long in
    search rules

pub returns-in-Err-clause-fault : goal.returns-in-Err-clause-fault
returns-in-Err-clause-fault c = c.refusal_of.ensures.refused c.args.text.now c.in-Err.ensures.fault
