use Rattle.std.proofs.Common.{◌≡◌, ◌++◌, flat_map, string_bytes, take}
use Rattle.sk_ask.specs.Lints.{entry_line}
use Rattle.sk_ask.proofs.remark.push_lines.Given as goal

abbrev pub invariant-loop-it : goal.invariant-loop-it
invariant-loop-it l = string_bytes l.text ≡ string_bytes l.initial.text ++ flat_map (entry_line l.shown) (take l.it-index l.all)
