use Rattle.std.proofs.Common.{◌≡◌, length, take, drop}
use Rattle.libskern.specs.Shapes.{verdicts_of}
use Rattle.libskern.proofs.verdict.answer.Given as goal

-- the verdicts on the calls before this one are written, and nothing behind the last
abbrev pub invariant-loop-place : goal.invariant-loop-place
invariant-loop-place l = record {
  size : length l.verdicts ≡ length l.initial.verdicts;
  written : take l.place l.verdicts ≡ verdicts_of l.chain (take l.place l.calls);
  kept : drop (length l.calls) l.verdicts ≡ drop (length l.calls) l.initial.verdicts;
}
