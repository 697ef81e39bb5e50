-- The changes of loads as the code has them. No promise speaks of these.
use Rattle.std.specs.Prelude.{◌≡◌, ◌%◌, ◌<◌, List, map}
use Rattle.sk_insn.specs.declared.insn.Insn.{Insn}
use Rattle.sk_filter.specs.Architectures.{with_architecture}
use Rattle.sk_survey.specs.declared.change.Change.{Change}
use Rattle.sk_survey.specs.declared.change.Change.TheVariants.{Constant, NumberAt, Without}
use Rattle.sk_survey.specs.ByArchitecture.{with_number_at}
use Rattle.sk_survey.specs.Without.{without}

abbrev pub changed : Change → Insn → Insn
changed (Constant architecture) insn = with_architecture architecture insn
changed (NumberAt place) insn = with_number_at place insn
changed (Without places) insn = without places.now insn

-- a word of the record is at the place
abbrev pub IsMade : Change → Type 0
IsMade (Constant architecture) = Unit {0}
IsMade (NumberAt place) = (place % 4 ≡ 0) × (place < 64)
IsMade (Without places) = Unit {0}

abbrev pub all_changed : Change → List (List Insn) → List (List Insn)
all_changed change programs = map (map (changed change)) programs
