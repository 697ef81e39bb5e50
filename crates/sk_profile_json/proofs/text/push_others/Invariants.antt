use Rattle.std.proofs.Common.{◌≡◌, ◌++◌, take, codes, flat_map, string_bytes}
use Rattle.sk_profile_json.specs.Texts.{argument_text}
use Rattle.sk_profile_json.proofs.text.push_others.Given as goal

abbrev pub invariant-loop-argument : goal.invariant-loop-argument
invariant-loop-argument l = string_bytes l.text ≡ string_bytes l.initial.text ++ flat_map (λ other. codes ", " ++ argument_text other) (take l.argument-index l.args)
