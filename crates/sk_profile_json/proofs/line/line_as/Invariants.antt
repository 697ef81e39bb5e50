use Rattle.std.proofs.Common.{◌≡◌, length}
use Rattle.sk_profile_json.specs.Lines.{place_of}
use Rattle.sk_profile_json.proofs.Places.{is_opening, looked, reads_so}
use Rattle.sk_profile_json.proofs.line.line_as.Given as goal

-- what is found from here on, among as many as are left, is the place
abbrev pub invariant-loop-place : goal.invariant-loop-place
invariant-loop-place l = looked (is_opening l.text) (reads_so l.wanted l.text) l.left l.place (length l.text) ≡ place_of l.wanted l.text
