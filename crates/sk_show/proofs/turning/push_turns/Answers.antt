use Rattle.sk_filter.specs.Valid.{IsValid}
use Rattle.sk_show.proofs.Runs.{takes_constant}
use Rattle.sk_show.proofs.turning.push_turns.Goals as goal

pub execute-next-requires : goal.execute-next-requires
execute-next-requires c =
    let valid : IsValid c.insns-insns.result.now = rw c.insns-insns.ensures.insns c.insns-insns.ensures.valid in
    record { constant = takes_constant c.insns-insns.result.now valid c.loop-place.place c.loop-place-test.true }
