use Rattle.std.proofs.Common.{◌≡◌, ◌++◌, flat_map, string_bytes, take}
use Rattle.sk_survey.specs.Text.{answered_text}
use Rattle.sk_survey.proofs.text.push_all.Given as goal

-- the lines before this one are there
abbrev pub invariant-loop-it : goal.invariant-loop-it
invariant-loop-it l = string_bytes l.text ≡ string_bytes l.initial.text ++ flat_map answered_text (take l.it-index l.all)
