use Rattle.std.proofs.Common.{◌≡◌, ◌&&◌, length, take, ap, ◌∙◌, arith}
use Rattle.std.proofs.Math.Seq.{take-length}
use Rattle.sk_terms.specs.Lines.{meets_choices}
use Rattle.sk_terms.proofs.Kept.{holds_none, none_holds}
use Rattle.sk_terms.proofs.forms.add_others.Goals as goal

pub returns : goal.returns
returns c = record {
  meets = λ call.
      let all = c.args.terms.now in
      let end : c.loop-term.term-index ≡ length all = omega (arith, c.loop-term-test.false, c.loop-term.auto.term-index-end) in
      c.loop-term.invariant call
      ∙ ap (λ b. meets_choices c.args.choices.now.items call && b)
      (ap (λ n. holds_none (take n all) call) end ∙ ap (λ terms. holds_none terms call) (take-length all) ∙ none_holds all call);
}
