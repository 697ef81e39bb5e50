use Rattle.std.proofs.Common.{◌≡◌, ℕ, List, subst, sym, ap, ◌∙◌}
use Rattle.std.specs.Str.{IsCharBoundary}
use Rattle.sk_when.specs.Filling.{part_length}
use Rattle.sk_when.proofs.Filled.{part_boundary}
use Rattle.sk_when.proofs.filling.first_part.Goals as goal

boundary_at : (room n : ℕ) (text bytes : List ℕ) → bytes ≡ text → n ≡ part_length room bytes → IsCharBoundary text n
boundary_at room n text bytes same is = subst (IsCharBoundary text) (sym (is ∙ ap (part_length room) same)) (part_boundary room text)

pub split_at-requires : goal.split_at-requires
split_at-requires c = boundary_at c.args.room c.part_length.result c.args.text.now c.as_bytes.result.now c.as_bytes.ensures.value c.part_length.ensures.length
