use Rattle.std.proofs.Common.{◌≡◌, ◌-◌}
use Rattle.sk_forms.specs.Rows.{rows}
use Rattle.sk_forms.proofs.Putting.{put}
use Rattle.sk_forms.proofs.rows.rows.Given as goal

-- the rows so far, and those that are left, are all
abbrev pub invariant-loop-place : goal.invariant-loop-place
invariant-loop-place l = put l.insns.items (rows l.form l.place (l.count - l.place) l.rest) ≡ rows l.form 0 l.count l.tokens
