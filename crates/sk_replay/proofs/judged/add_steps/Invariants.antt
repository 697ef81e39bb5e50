use Rattle.std.proofs.Common.{◌≡◌, ◌++◌, take}
use Rattle.sk_replay.specs.Judging.{words_on}
use Rattle.sk_replay.proofs.judged.add_steps.Given as goal

abbrev pub invariant-loop-step : goal.invariant-loop-step
invariant-loop-step l = l.words.items ≡ l.initial.words.items ++ words_on (take l.step-index l.steps)
