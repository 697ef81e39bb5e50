use Rattle.std.proofs.Common.{arith, ap, refl, ◌∙◌, ◌++◌, ◌∷◌, []}
use Rattle.sk_show.specs.Coming.{comes_to}
use Rattle.sk_show.specs.Holding.{Jumps, joined_ways, jump_to}
use Rattle.sk_show.proofs.Reaching.{comes_end, comes_turn}
use Rattle.sk_show.proofs.coming.comes_to.Goals as goal

pub loop-insn-init : goal.loop-insn-init
unfolding comes_to
loop-insn-init c = record {
  comes = rw (c.new-comes.ensures.items, c.in_ok-jumps.ensures.none) refl;
  left = omega arith;
  places = c.in_ok-jumps.ensures.len;
}

pub loop-insn-preserved : goal.loop-insn-preserved
loop-insn-preserved c = record {
  comes =
      comes_turn _ _ _ _ _ _ _ _ _ _ _ _ _ c.in-Some.ensures.cases.0
      (c.joined_ways-held.ensures.held ∙ ap (λ way. joined_ways way c.loop-insn.next) (c.jump_to.ensures.jump ∙ ap (λ (jumps : Jumps). jump_to jumps c.loop-insn.at) c.deref.ensures.value))
      (c.in_ok-push.ensures.items ∙ ap (λ b. c.loop-insn.comes.items ++ b ∷ []) c.is_some.ensures) c.go_on_taken-next.ensures.jumps c.go_on_taken-next.ensures.next c.loop-insn.invariant.comes;
  left = omega (arith, c.in-Some.ensures.cases.1);
  places = c.go_on_taken-next.ensures.len ∙ c.loop-insn.invariant.places;
}

pub returns : goal.returns
returns c = record { comes = comes_end _ _ _ _ _ _ _ c.in_default.ensures.cases c.loop-insn.invariant.comes }
