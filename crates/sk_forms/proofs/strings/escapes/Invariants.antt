use Rattle.std.proofs.Common.{◌≡◌, ◌*◌, ◌-◌, ◌≤◌, length}
use Rattle.sk_forms.specs.Strings.{escapes}
use Rattle.sk_forms.proofs.Escaping.{put_bytes}
use Rattle.sk_forms.proofs.strings.escapes.Given as goal

-- the bytes so far, and those of the characters that are left, are all
abbrev pub invariant-loop-place : goal.invariant-loop-place
invariant-loop-place l = record {
  long : 4 * (l.count - l._place) ≤ length l.rest;
  all : put_bytes l.bytes.items (escapes (l.count - l._place) l.rest) ≡ escapes l.count l.text;
}
