use Rattle.std.proofs.Common.{◌≡◌, ◌+◌, ◌-◌, ℕ, List, length, take, drop, ap, sym, ◌∙◌, refl, arith, length-drop}
use Rattle.std.proofs.Math.Seq.{take-length}
use Rattle.sk_terms.specs.Lines.{meets_choices}
use Rattle.sk_terms.proofs.Kept.{others_same}
use Rattle.sk_terms.proofs.merging.differ_in.Goals as goal

whole_tail : {X : Type 0} → (xs : List X) (n : ℕ) → take (length xs - n) (drop n xs) ≡ drop n xs
whole_tail xs n = ap (λ k. take k (drop n xs)) (sym (length-drop n xs)) ∙ take-length (drop n xs)

pub returns : goal.returns
returns c = record {
  differ = λ formed. record {
    value = c.if-not-same_value.ensures.same refl;
    first = omega (arith, c.if-at-min.false, c.min.ensures);
    second = omega (arith, c.if-at-min.false, c.min.ensures);
    others = λ call.
        let at = c.args.at in
        others_same c.args.one.now.choices.items c.args.other.now.choices.items at call
        (ap (λ xs. meets_choices (take at xs) call) (sym c.as_slice-choices.ensures.value)
        ∙ c.if-not-same_choices.ensures.same refl call
        ∙ ap (λ xs. meets_choices (take at xs) call) c.as_slice-others.ensures.value)
        (ap (λ xs. meets_choices (drop (at + 1) xs) call) (sym c.as_slice-choices.ensures.value)
        ∙ ap (λ xs. meets_choices xs call) (sym (whole_tail c.as_slice-choices.result.now (at + 1)))
        ∙ c.if-not-same_choices-2.ensures.same refl call
        ∙ ap (λ xs. meets_choices xs call) (whole_tail c.as_slice-others.result.now (at + 1))
        ∙ ap (λ xs. meets_choices (drop (at + 1) xs) call) c.as_slice-others.ensures.value);
  };
}
