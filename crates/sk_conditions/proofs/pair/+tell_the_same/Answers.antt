use Rattle.std.proofs.Common.{◌≡◌, if◌then◌else◌, rules, sym, ap, subst, ◌∙◌, refl}
use Rattle.sk_conditions.specs.declared.test.Test.{Test}
use Rattle.sk_conditions.specs.Conditions.{holds_on, told}
use Rattle.sk_conditions.specs.Pairs.{TellTheSame}
use Rattle.sk_conditions.proofs.Parting.{same_of_parts}
use Rattle.sk_conditions.proofs.pair.+tell_the_same.Goals as goal

pub returns-else-not-tell_the_same : goal.returns-else-not-tell_the_same
returns-else-not-tell_the_same t c = record {
  same = λ all call.
      let ask = c.in-Ask-Ask in
      let test_too : ask.test ≡ ask.too = search (rules, c.eq.ensures, c.if-eq.true) in
      same_of_parts call ask.test c.args.one.now c.args.other.now ask.held.value ask.held_too.value ask.failed.value ask.failed_too.value
      (ap (λ t. told t call) ask.is-0)
      (ap (λ t. told t call) ask.is-1 ∙ ap (λ (t : Test). if holds_on t call then told ask.held_too.value call else told ask.failed_too.value call) (sym test_too))
      (subst (λ a. TellTheSame a ask.held_too.value call) c.deref.ensures
      (subst (λ b. TellTheSame c.deref.result.now b call) c.deref-in-Ask-Ask.ensures (c.if-not-tell_the_same.ensures.same refl call)))
      (subst (λ a. TellTheSame a ask.failed_too.value call) c.deref-in-Ask-Ask-2.ensures
      (subst (λ b. TellTheSame c.deref-in-Ask-Ask-2.result.now b call) c.deref-in-Ask-Ask-3.ensures (c.tell_the_same-in-Ask-Ask.ensures.same all call)));
}
