use Rattle.std.proofs.Common.{◌≡◌, ◌+◌, ◌-◌, ◌∙◌, arith, suc, sym, length}
use Rattle.sk_forms.specs.ByteArrays.{bytes_at}
use Rattle.sk_forms.proofs.Spelling.{none_left, last_turn, one_turn}
use Rattle.sk_forms.proofs.byte_array.bytes_at.Goals as goal

pub returns-in_default : goal.returns-in_default
unfolding bytes_at
returns-in_default c = record {
  exact = sym (none_left _ c.loop-turn.bytes.items c.loop-turn.rest.now (sym c.in_default.ensures.number)) ∙ c.loop-turn.invariant;
}

pub returns-in_default-behind : goal.returns-in_default-behind
unfolding bytes_at
returns-in_default-behind c =
    let left : length c.args.tokens.now - c.loop-turn._turn ≡ suc (length c.args.tokens.now - (c.loop-turn._turn + 1)) = omega arith in
    record {
      exact =
          last_turn _ _ c.in-Some.byte c.loop-turn.bytes.items c.push.new.self.items c.loop-turn.rest.now c.in-Some.after.now _ left (sym c.in-Some.ensures.number) (sym c.in_default-behind.ensures.behind)
          c.in_ok-push.ensures.items c.loop-turn.invariant;
    }

pub loop-turn-preserved : goal.loop-turn-preserved
loop-turn-preserved c =
    let left : length c.args.tokens.now - c.loop-turn._turn ≡ suc (length c.args.tokens.now - (c.loop-turn._turn + 1)) = omega arith in
    one_turn _ _ c.in-Some.byte c.loop-turn.bytes.items c.push.new.self.items c.loop-turn.rest.now c.in-Some.after.now c.in-Some-behind.next.now _ left (sym c.in-Some.ensures.number)
    (sym c.in-Some-behind.ensures.behind) c.in_ok-push.ensures.items c.loop-turn.invariant
