-- The lines of a block or a text are no more than its bytes.
use Rattle.std.proofs.Common.{◌≤◌, ◌+◌, arith, ℕ, List, [], ◌∷◌, Bool, true, false, length, inl, inr}
use Rattle.std.proofs.lemmas.Bool.{cases_Bool}
use Rattle.sk_text.specs.Lines.{lines_of}
use Rattle.sk_text.proofs.Cuts.{length_lines_of}
use Rattle.sk_asm.specs.Block.{is_end, until_end, lines_in}

length-until_end : (lines : List (List ℕ)) → length (until_end lines) ≤ length lines
length-until_end [] = omega arith
length-until_end (line ∷ lines) =
    let next = length-until_end lines in
    elim (cases_Bool (is_end line)) [ inl t ↦ rw t (omega arith) | inr f ↦ rw f (omega (arith, next)) ]

pub length-lines_in : (is_block : Bool) (text : List ℕ) → length (lines_in is_block text) ≤ length text
length-lines_in true text = omega (arith, length-until_end (lines_of text), length_lines_of text)
length-lines_in false text = length_lines_of text
