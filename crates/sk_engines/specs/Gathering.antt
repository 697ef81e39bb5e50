-- What the code's answers say of what was gathered.
use Rattle.std.specs.Prelude.{ℕ, ◌≡◌, List, map, Option, Some, None, Result, Ok, Err}
use Rattle.sk_insn.specs.declared.record.Record.{Record}
use Rattle.sk_engines.specs.declared.eval_input.Given.{Given}
use Rattle.sk_engines.specs.declared.eval_input.Asked.{Asked}
use Rattle.sk_engines.specs.EvalInput.{Gathered}

abbrev pub gathered_of : Given → Gathered
gathered_of given = record { call = given.call; images = map (λ image. image.items) given.images.items }

abbrev pub asked_of : Asked → Record × List (List ℕ)
asked_of asked = (asked.call, map (λ image. image.items) asked.images.items)

-- the line is taken as it says, if it is understood
abbrev pub Takes : Option Given → Option Gathered → Type 0
Takes None said = said ≡ None
Takes (Some given) said = said ≡ Some (gathered_of given)

-- so are all lines
abbrev pub Gathers : Result Asked ℕ → Result (Record × List (List ℕ)) ℕ → Type 0
Gathers (Ok asked) given = given ≡ Ok (asked_of asked)
Gathers (Err number) given = given ≡ Err number
