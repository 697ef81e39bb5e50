use Rattle.std.proofs.Common.{refl, inl, inr}
use Rattle.sk_ask.specs.declared.trouble.Trouble.TheVariants.{Memory}
use Rattle.sk_ask.specs.Reading.{read_of}
use Rattle.sk_ask.proofs.files_of_filters.Reader.answer.Goals as goal

pub returns-clause-told : goal.returns-clause-told
returns-clause-told g c =
    elim c.told.ensures.told [
      | inl is ↦ inl (read_of c.in_ok-filters.filters, c.in_ok-filters.ensures.read, is)
      | inr memory ↦ inr (Memory, inr (inr refl), memory)
    ]
