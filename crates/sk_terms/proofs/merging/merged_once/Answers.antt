use Rattle.std.proofs.Common.{◌≤◌, ◌∙◌, length, sym, subst}
use Rattle.sk_terms.proofs.merging.merged_once.Goals as goal

pub loop-register-preserved : goal.loop-register-preserved
loop-register-preserved c = record {
  told = λ call once.
      let before = c.loop-register.invariant.told call once in
      c.in_ok-merged.ensures.told call (subst (λ told. length told ≤ 1) (sym before) once) ∙ before;
  met = λ calls all. c.in_ok-merged.ensures.met calls (c.loop-register.invariant.met calls all);
  alike = λ one other all. c.in_ok-merged.ensures.alike one other (c.loop-register.invariant.alike one other all);
}
