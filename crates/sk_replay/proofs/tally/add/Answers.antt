use Rattle.std.proofs.Common.{◌≡◌, ◌∙◌, ◌<◌, ◌+◌, ◌-◌, ◌^◌, ap, arith, sym, refl}
use Rattle.std.specs.HashMap.{get_by}
use Rattle.std.specs.Option.{unwrap_or}
use Rattle.indexmap.specs.IndexMap.{insert_entry}
use Rattle.sk_replay.specs.Replaying.{is_same, times_of}
use Rattle.sk_replay.proofs.Alike.{same_calls}
use Rattle.sk_replay.proofs.tally.add.Goals as goal

pub overflow_add-times : goal.overflow_add-times
overflow_add-times c =
    let times : c.unwrap_or-times.result ≡ times_of c.args.calls.now.entries c.args.call =
    c.unwrap_or-times.ensures ∙ ap (λ o. unwrap_or o 0) (c.copied.ensures ∙ c.get.ensures.value ∙ (λ i. get_by (same_calls i c.args.call) c.args.calls.now)) in
    let room = c.requires.room in
    omega (arith, times, room)

pub returns : goal.returns
returns c =
    let times : c.unwrap_or-times.result ≡ times_of c.args.calls.now.entries c.args.call =
    c.unwrap_or-times.ensures ∙ ap (λ o. unwrap_or o 0) (c.copied.ensures ∙ c.get.ensures.value ∙ (λ i. get_by (same_calls i c.args.call) c.args.calls.now)) in
    record {
      counted =
          c.in_ok-insert.ensures.entries ∙ (λ i. insert_entry (same_calls i) c.args.calls.now.entries c.args.call (c.unwrap_or-times.result + 1))
          ∙ ap (λ n. insert_entry is_same c.args.calls.now.entries c.args.call (n + 1)) times;
    }
