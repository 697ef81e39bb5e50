use Rattle.std.proofs.Common.{ℕ, ◌<◌, ◌*◌, ◌^◌}
use Rattle.std.specs.List.{Contains}
use Rattle.sk_survey.specs.Cutting.{AreKept}
use Rattle.sk_survey.proofs.cuts.cut_parts.Given as goal

abbrev pub invariant-loop-part : goal.invariant-loop-part
invariant-loop-part l = record {
  within : l.low < 32;
  kept : AreKept l.initial.cuts.items l.cuts.items;
  parts : (part : ℕ) → part < l.part → part * 2 ^ l.low < 2 ^ 32 → Contains l.cuts.items (part * 2 ^ l.low);
}
