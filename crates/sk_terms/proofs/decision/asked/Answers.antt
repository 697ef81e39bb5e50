use Rattle.sk_terms.specs.Terms.{holds_term}
use Rattle.sk_terms.proofs.Ends.{passes_all}
use Rattle.sk_terms.proofs.decision.asked.Goals as goal

pub returns-then-same-clause-met : goal.returns-then-same-clause-met
returns-then-same-clause-met c = λ calls first second. passes_all c.args.held calls (λ call. holds_term c.args.term call) first
