use Rattle.std.proofs.Common.{◌≡◌, ◌++◌, length, string_bytes}
use denote.Text.{Utf8}
use denote.Shadow.{shadow}
use Rattle.sk_when.specs.Filling.{filled}
use Rattle.sk_when.proofs.filling.push_other_parts.Given as goal

abbrev pub invariant-loop-rest : goal.invariant-loop-rest
invariant-loop-rest l =
    shadow (Utf8 l.rest) × (string_bytes l.text ++ filled l.room 0 l.rest ≡ string_bytes l.initial.text ++ filled l.initial.room 0 l.initial.condition)

abbrev pub decreases-loop-rest : goal.decreases-loop-rest
decreases-loop-rest l = length l.rest
