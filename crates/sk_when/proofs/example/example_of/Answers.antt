use Rattle.std.proofs.Common.{◌≡◌, Result, Ok, Err, Option, Some, None, IfOk}
use Rattle.std.specs.Prelude.{IsTrue, is_some}
use Rattle.sk_show.specs.declared.example.Example.{Example}
use Rattle.sk_when.proofs.example.example_of.Goals as goal

of_each : {T E : Type 0} (r : Result T E) (P : T → Type 0) → ((it : T) → P it) → IfOk r P
of_each (Ok it) P h = h it
of_each (Err why) P h = tt

never : (found : Option Example) → found ≡ None → IsTrue (is_some found) → (it : Option Example) → IsTrue (is_some it)
never None is wrong it = cc
never (Some example) is wrong it = cc

pub returns-in-None-clause-each : goal.returns-in-None-clause-each
returns-in-None-clause-each c = of_each c.find.result _ (λ found some have. never c.find_among.result c.in-None.is (c.find_among.ensures.each some have) found)
