-- What the code's answers say of what was found, and of the chain that it makes.
use Rattle.std.specs.Prelude.{ℕ, ◌≡◌, List, Vec, Option, Result, Ok, Err}
use Rattle.std.specs.Global.{Global}
use Rattle.std.specs.Option.{option_map}
use Rattle.sk_insn.specs.declared.insn.Insn.{Insn}
use Rattle.sk_ask.specs.declared.fault.LineFault.{LineFault}
use Rattle.sk_ask.specs.declared.fault.Refused.{Refused}
use Rattle.sk_ask.specs.declared.files_of_filters.Filters.{Filters as Given}
use Rattle.sk_ask.specs.declared.found.Found.{Found}
use Rattle.sk_ask.specs.Filters.{Filters}
use Rattle.sk_ask.specs.Finding.{filters_of}
use Rattle.sk_ask.specs.Reading.{pair_of}

abbrev pub found_in : Result Found Refused → Result Filters Refused
found_in (Ok found) = Ok (filters_of found)
found_in (Err refused) = Err refused

-- the filters are found, or it is this file that is refused
abbrev pub Finds : Result Found Refused → Result Filters Refused → Type 0
Finds (Ok found) filters = filters ≡ Ok (filters_of found)
Finds (Err refused) filters = filters ≡ Err refused

abbrev pub Says : Result (Option (Vec ℕ Global)) LineFault → Result (Option (List ℕ)) LineFault → Type 0
Says (Ok image) said = said ≡ Ok (option_map (λ image. image.items) image)
Says (Err fault) said = said ≡ Err fault

abbrev pub Judges : Result Given Refused → Result (Filters × List (List Insn)) Refused → Type 0
Judges (Ok given) said = said ≡ Ok (pair_of given)
Judges (Err refused) said = said ≡ Err refused
