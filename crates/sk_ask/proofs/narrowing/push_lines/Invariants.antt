use Rattle.std.proofs.Common.{◌≡◌, ◌++◌, flat_map, take}
use Rattle.sk_ask.specs.Allows.{unshown_line}
use Rattle.sk_ask.proofs.narrowing.push_lines.Given as goal

abbrev pub invariant-loop-argument : goal.invariant-loop-argument
invariant-loop-argument l = l.notes.items ≡ l.initial.notes.items ++ flat_map (unshown_line l.nr) (take l.argument-index l.arguments)
