use Rattle.std.proofs.Common.{List, arith, ap, refl, ◌∙◌}
use Rattle.std.specs.Prelude.{filter}
use Rattle.sk_show.specs.declared.coming.Reach.{Reach}
use Rattle.sk_show.specs.Coming.{architectures_of, comes, names_of}
use Rattle.sk_show.specs.Holding.{Jumps, jump_to, ways_to}
use Rattle.sk_show.proofs.Reaching.{named_there}
use Rattle.sk_show.proofs.Turns.{ranges_end, ranges_turn, shown_end, shown_turn}
use Rattle.sk_show.proofs.Whole.{text-assembles}
use Rattle.sk_show.proofs.listing.shown.Goals as goal

pub loop-insn-init : goal.loop-insn-init
unfolding ways_to
loop-insn-init c = record {
  text = rw (c.new-text.ensures.bytes, c.in_ok-jumps.ensures.none) refl;
  left = omega arith;
  places = c.in_ok-jumps.ensures.len;
  ranges = λ ranges. ranges;
  reaches = c.in_ok-reaches.ensures.found;
}

pub loop-insn-preserved : goal.loop-insn-preserved
loop-insn-preserved c = record {
  text =
      shown_turn _ _ _ _ _ _ _ _ _ _ _ _ _ _ _ _ _ c.in-Some.ensures.cases.0
      (named_there c.args.architecture c.args.insns.now c.loop-insn.at c.in_ok-reaches.reaches.items _ c.loop-insn.invariant.reaches
      (c.named_at-named.ensures.named ∙ ap (λ (found : List Reach). names_of c.args.architecture (architectures_of (filter (comes c.loop-insn.at) found))) c.deref-in-Some.ensures.value))
      (c.jump_to-jump.ensures.jump ∙ ap (λ (jumps : Jumps). jump_to jumps c.loop-insn.at) c.deref.ensures.value) c.held_before-held.ensures.held
      c.in_ok-push_lines.ensures.lines c.held_behind.ensures.held c.go_on-next.ensures.jumps c.go_on-next.ensures.next c.loop-insn.invariant.text;
  left = omega (arith, c.in-Some.ensures.cases.1);
  places = c.go_on-next.ensures.len ∙ c.loop-insn.invariant.places;
  ranges = ranges_turn _ _ _ _ c.in-Some.ensures.cases.0 c.in_ok-push_lines.ensures.range c.loop-insn.invariant.ranges;
  reaches = c.loop-insn.invariant.reaches;
}

pub returns-clause-text : goal.returns-clause-text
returns-clause-text c = shown_end _ _ _ _ _ _ _ _ c.in_default.ensures.cases c.loop-insn.invariant.text

pub returns-clause-assembles : goal.returns-clause-assembles
returns-clause-assembles c =
    text-assembles _ _ _
    (shown_end _ _ _ _ _ _ _ _ c.in_default.ensures.cases c.loop-insn.invariant.text)
    (ranges_end _ _ c.in_default.ensures.cases c.loop-insn.invariant.ranges) c.requires.few
