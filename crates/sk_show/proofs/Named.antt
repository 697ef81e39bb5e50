-- Numbers with a name, and the rows that tell them.
use Rattle.std.proofs.Common.{ℕ, is_some, IsTrue, List}
use Rattle.std.specs.List.{All, Contains}
use Rattle.std.proofs.lemmas.List.Elements.{All-contains}
use Rattle.sk_names.specs.declared.architecture.Architecture.{Architecture}
use Rattle.sk_names.specs.Names.{name_on}
use Rattle.sk_survey.specs.declared.rows.Row.{Row}
use Rattle.sk_survey.specs.Surveys.{TellsAlone, StandAlone}
use Rattle.sk_show.specs.Lines.{TellsNamedAlone}

pub named_alone : (a : Architecture) (named : List ℕ) (rows : List Row) → ((nr : ℕ) → IsTrue (is_some (name_on a nr)) → Contains named nr)
    → StandAlone named rows → All (TellsNamedAlone a) rows
named_alone a named rows each stand k d less nr is_named =
    All-contains (λ nr. All (TellsAlone nr) rows) named nr stand (each nr is_named) k d less
