use denote.Shadow.{shadow}
use denote.Text.{Utf8}
use Rattle.std.proofs.Common.{[], ◌≡◌, fold, map, take}
use Rattle.json.specs.Value.{value_view}
use Rattle.sk_profile_json.specs.Inspected.{said_after}
use Rattle.sk_profile_json.proofs.inspected.said_last.Given as goal

abbrev pub invariant-loop-option : goal.invariant-loop-option
invariant-loop-option l = record {
  text : shadow (Utf8 l.said);
  said : l.said ≡ fold said_after [] (map value_view (take l.option-index l.options));
}
