-- The chain that filters make, and what is said of one that is refused.
use Rattle.std.specs.Prelude.{ℕ, ◌+◌, ◌++◌, nat_lt, if◌then◌else◌, List, [], ◌∷◌, length, codes, Option, Some, None, Result, Ok, Err}
use Rattle.std.specs.Fmt.{decimal}
use Rattle.sk_insn.specs.declared.insn.Insn.{Insn}
use Rattle.sk_insn.specs.declared.image.NoImage.{NoImage}
use Rattle.sk_insn.specs.Instructions.{image_instructions}
use Rattle.sk_filter.specs.declared.fault.CheckFault.{CheckFault}
use Rattle.sk_filter.specs.FirstFault.{first_fault}
use Rattle.sk_filter.specs.PathLimit.{path_limit, cost_of}
use Rattle.sk_engines.specs.declared.filters.Refusal.{Refusal}
use Rattle.sk_engines.specs.declared.filters.Refusal.TheVariants.{Image, Program, PathLimit}
use Rattle.sk_engines.specs.Output.{Output, refused, line}
use Rattle.sk_engines.specs.Judging.{no_image_text, check_fault_text}

-- a program on top of a chain, if it has no fault and the chain has room for it: seccomp(2), ENOMEM
abbrev pub program_attached : List (List Insn) → List Insn → Option CheckFault → Result (List (List Insn)) Refusal
program_attached chain program (Some fault) = Err (Program fault)
program_attached chain program None =
    if nat_lt path_limit (length program + cost_of chain) then Err PathLimit else Ok (program ∷ chain)

-- an image on top of a chain
abbrev pub image_attached : List (List Insn) → Result (List Insn) NoImage → Result (List (List Insn)) Refusal
image_attached chain (Err why) = Err (Image why)
image_attached chain (Ok program) = program_attached chain program (first_fault program)

-- images on top of a chain, the first of which has this number; or the number of the first refused one, and why
abbrev pub chained : ℕ → List (List Insn) → List (List ℕ) → Result (List (List Insn)) (ℕ × Refusal)
chained number chain [] = Ok chain
chained number chain (image ∷ images) = elim (image_attached chain (image_instructions image)) [
  | Err refusal ↦ Err (number, refusal)
  | Ok next ↦ chained (number + 1) next images
]

abbrev pub refusal_text : Refusal → List ℕ
refusal_text (Image why) = no_image_text why
refusal_text (Program fault) = check_fault_text fault
refusal_text PathLimit = codes "refused path limit"

abbrev pub refusal_answer : ℕ × Refusal → Output
refusal_answer (number, refusal) =
    refused (codes "filter " ++ (decimal number ++ (codes " " ++ line (refusal_text refusal))))
