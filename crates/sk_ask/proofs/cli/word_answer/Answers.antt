use Rattle.sk_ask.proofs.Refusing.{wrong_in}
use Rattle.sk_ask.proofs.cli.word_answer.Goals as goal

pub returns-in_err-asked-clause-told : goal.returns-in_err-asked-clause-told
returns-in_err-asked-clause-told g c = wrong_in _ (g.A.Analysis.may_spend c.args.analysis.now) _ _ _ c.from_residual.ensures.1 c.in_err-asked.ensures.exact
