use Rattle.std.proofs.Common.{rules, string_bytes, sym, ◌∙◌}
use Rattle.std.proofs.lemmas.List.{length-map}
use Rattle.sk_ask.specs.Asked.{question_of}
use Rattle.sk_ask.proofs.Two.{not_two}
use Rattle.sk_ask.proofs.complete.two_named.Goals as goal

pub returns-clause-exact : goal.returns-clause-exact
returns-clause-exact c =
    let names = length-map c.args.asked.names.items string_bytes in
    rw c.in_ok-two_wanted.ensures.line (not_two (question_of c.args.asked) (λ two. let is = sym names ∙ two in c.if-len-eq2.false (search rules)))
