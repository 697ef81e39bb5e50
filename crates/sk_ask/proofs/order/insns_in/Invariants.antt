use Rattle.std.proofs.Common.{◌≡◌, ◌*◌, ◌-◌, ◌++◌, length, vec_len}
use Rattle.sk_ask.specs.Orders.{big_instructions_in}
use Rattle.sk_ask.proofs.order.insns_in.Given as goal

abbrev pub invariant-loop-place : goal.invariant-loop-place
invariant-loop-place l = record {
  room : 8 * (l.count - l._place) ≡ length l.rest;
  count : vec_len l.insns ≡ l._place;
  so_far : l.insns.items ++ big_instructions_in (l.count - l._place) l.rest ≡ big_instructions_in l.count l.bytes;
}
