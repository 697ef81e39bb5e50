-- Lines of one value that differ in one choice.
use Rattle.std.specs.Prelude.{ℕ, ◌≡◌, ◌<◌, length}
use Rattle.std.specs.List.{remove}
use Rattle.sk_insn.specs.declared.record.Record.{Record}
use Rattle.sk_terms.specs.declared.lines.Line.{Line}
use Rattle.sk_terms.specs.Lines.{meets_choices}

-- all choices but the one at a place say the same
pub record DifferIn (one other : Line) (at : ℕ) : Type 0 where
  pub value : one.value ≡ other.value
  pub first : at < length one.choices.items
  pub second : at < length other.choices.items
  pub others : (call : Record) → meets_choices (remove one.choices.items at) call ≡ meets_choices (remove other.choices.items at) call
