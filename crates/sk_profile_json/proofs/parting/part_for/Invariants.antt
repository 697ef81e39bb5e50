use Rattle.std.proofs.Common.{◌≡◌, drop, map, find}
use Rattle.sk_profile.specs.Views.{part_of}
use Rattle.sk_profile_json.specs.Partings.{is_of}
use Rattle.sk_profile_json.proofs.parting.part_for.Given as goal

abbrev pub invariant-loop-part : goal.invariant-loop-part
invariant-loop-part l = find (is_of l.arch) (drop l.part-index (map part_of l.parts)) ≡ find (is_of l.arch) (map part_of l.parts)
