use Rattle.std.proofs.Common.{◌≡◌, ◌++◌, take, map, flat_map}
use Rattle.json.specs.Value.{value_view}
use Rattle.sk_profile.specs.Views.{part_of}
use Rattle.sk_profile_json.specs.PartViews.{basis_view}
use Rattle.sk_profile_json.specs.Parts.{relative_part}
use Rattle.sk_profile_json.proofs.parts.push_relatives.Given as goal

abbrev pub invariant-loop-architecture : goal.invariant-loop-architecture
invariant-loop-architecture l =
    map part_of l.parts.items
    ≡ map part_of l.fn.parts.items ++ flat_map (relative_part l.context (value_view l.profile) (basis_view l.basis)) (take l.architecture-index l.relatives)
