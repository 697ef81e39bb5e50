use Rattle.std.proofs.Common.{◌≡◌, ◌-◌, ◌*◌, ◌%◌, ◌^◌, inl, inr, [], ◌∷◌, ◌++◌, sym, ap, subst, ◌∙◌, arith}
use Rattle.std.specs.Int.{w32, trailing_zeros}
use Rattle.std.specs.List.{Contains}
use Rattle.std.proofs.lemmas.Bool.{cases_lt}
use Rattle.std.proofs.lemmas.List.Elements.{Contains-append_left, Contains-push}
use Rattle.std.proofs.lemmas.Nat.{one_shl, shl_whole}
use Rattle.sk_survey.proofs.Turns.{few_parts}
use Rattle.sk_survey.proofs.cuts.cut_parts.Goals as goal

pub loop-part-preserved : goal.loop-part-preserved
loop-part-preserved c =
    let before = c.loop-part.invariant in
    let low = trailing_zeros w32 c.args.k in
    record {
      within = before.within;
      kept = λ nr has. subst (λ xs. Contains xs nr) (sym c.in_ok-push.ensures.items) (Contains-append_left _ _ nr (before.kept nr has));
      parts = λ part below small. elim (cases_lt part c.loop-part.part) [
        | inl earlier ↦
            subst (λ xs. Contains xs (part * 2 ^ low)) (sym c.in_ok-push.ensures.items) (Contains-append_left _ _ _ (before.parts part earlier small))
        | inr late ↦
            let high = before.within in
            let same : c.loop-part.part ≡ part = omega arith in
            let is = ap (λ n. n * 2 ^ low % 2 ^ 32) same ∙ shl_whole part (32 - low) low 32 (few_parts part low high small) (omega arith) in
            subst (λ xs. Contains xs (part * 2 ^ low)) (sym c.in_ok-push.ensures.items)
            (subst (λ n. Contains (c.loop-part.cuts.items ++ n ∷ []) (part * 2 ^ low)) (sym is) (Contains-push c.loop-part.cuts.items (part * 2 ^ low)))
      ];
    }

pub returns-after-loop-part-clause-parts : goal.returns-after-loop-part-clause-parts
returns-after-loop-part-clause-parts c =
    λ part low high small.
    let bits = 32 - trailing_zeros w32 c.args.k in
    let end : 1 * 2 ^ bits % 2 ^ 32 ≡ 2 ^ bits = one_shl bits 32 (omega arith) in
    let few = few_parts part (trailing_zeros w32 c.args.k) high small in
    let past = c.loop-part-test.false in
    c.loop-part.invariant.parts part (omega arith) small
