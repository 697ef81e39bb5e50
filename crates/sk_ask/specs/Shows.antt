-- What `ask show` tells.
use Rattle.std.specs.Prelude.{ℕ, false, List, [], ◌∷◌, codes}
use Rattle.sk_insn.specs.declared.insn.Insn.{Insn}
use Rattle.sk_names.specs.declared.architecture.Architecture.{Architecture}
use Rattle.sk_show.specs.Showing.{show_text}
use Rattle.sk_ask.specs.Complaints.{of_word}
use Rattle.sk_ask.specs.Endings.{Ending, answered, refused, ComesTo}

-- the listing of the only filter, with the names that calls have on an architecture
abbrev pub Shows : Architecture → List (List Insn) → List ℕ → Ending → Type 0
Shows by (program ∷ []) notes ending = ComesTo (answered notes (show_text by program) false) ending
Shows by chain notes ending = ComesTo (refused (of_word (codes "show: the FILEs hold several filters: expected one") [])) ending
