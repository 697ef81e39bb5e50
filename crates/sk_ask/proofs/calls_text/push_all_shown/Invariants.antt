use Rattle.std.proofs.Common.{◌≡◌, ◌++◌, take, flat_map, string_bytes}
use Rattle.sk_ask.specs.CallsText.{shown_text}
use Rattle.sk_ask.proofs.calls_text.push_all_shown.Given as goal

abbrev pub invariant-loop-shown : goal.invariant-loop-shown
invariant-loop-shown l = string_bytes l.text ≡ string_bytes l.initial.text ++ flat_map (shown_text l.architecture) (take l.shown-index l.all)
