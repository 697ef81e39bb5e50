-- Chains that are kept while numbers are looked at. No promise speaks of these.
use Rattle.std.specs.Prelude.{◌≡◌, List}
use Rattle.sk_insn.specs.declared.insn.Insn.{Insn}
use Rattle.sk_survey.specs.Without.{chain_without}
use Rattle.sk_when.specs.declared.lint_pieces.Kept.{Kept}

-- it is the chain without the words at its places
abbrev pub IsKept : List (List Insn) → Kept → Type 0
IsKept programs it = it.chain ≡ chain_without it.places.items programs
