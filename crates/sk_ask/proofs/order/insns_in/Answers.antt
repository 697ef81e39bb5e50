use Rattle.std.proofs.Common.{◌≡◌, ◌+◌, ◌-◌, ◌++◌, [], ◌∷◌, drop, arith, append_assoc}
use Rattle.sk_ask.specs.Orders.{big_insn_of}
use Rattle.sk_ask.proofs.Orders.{instructions-next}
use Rattle.sk_ask.proofs.order.insns_in.Goals as goal

pub loop-place-preserved : goal.loop-place-preserved
loop-place-preserved c =
    let at = c.loop-place._place in
    let rest = c.loop-place.rest.now in
    let i = c.loop-place.invariant in
    let pushed : c.push.new.self.items ≡ c.loop-place.insns.items ++ big_insn_of rest ∷ [] =
    rw c.insn_at.ensures.insn at c.in_ok-push.ensures.items in
    let after : c.split_at.result.1.now ≡ drop 8 rest = c.split_at.ensures.back in
    let next = instructions-next (c.args.count - at) (c.args.count - (at + 1)) rest (omega arith) in
    record {
      room = let long = c.split_at.ensures.back_len in omega arith;
      count = let more = c.in_ok-push.ensures.len in omega arith;
      so_far = rw (pushed, after, append_assoc) (rw next at i.so_far);
    }
