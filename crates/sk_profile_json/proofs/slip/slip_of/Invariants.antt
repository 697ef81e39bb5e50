use Rattle.std.proofs.Common.{[], ◌≡◌, drop, take}
use Rattle.sk_profile_json.specs.Slips.{reading_behind, slip_from}
use Rattle.sk_profile_json.proofs.slip.slip_of.Given as goal

abbrev pub invariant-loop-place : goal.invariant-loop-place
invariant-loop-place l = record {
  reading : l.reading ≡ reading_behind (take l.place l.text);
  first : slip_from (take l.place l.text) (drop l.place l.text) ≡ slip_from [] l.text;
}
