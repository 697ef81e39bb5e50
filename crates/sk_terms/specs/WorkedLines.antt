-- Worked examples of lines: a number of a word that is asked for again, two numbers that no call has at once, and ranges of the
-- numbers of a row.
use Rattle.std.specs.Prelude.{ℕ, ◌≡◌, true, false, List, [], ◌∷◌, map}
use Rattle.sk_insn.specs.declared.record.Record.{Record}
use Rattle.sk_terms.specs.declared.clause.Clause.TheVariants.{Never}
use Rattle.sk_terms.specs.declared.lines.Line.{Line}
use Rattle.sk_terms.specs.declared.term.Register.TheVariants.{Number, Argument}
use Rattle.sk_terms.specs.declared.term.Term.{Term}
use Rattle.sk_terms.specs.Lines.{meets_all, meets_clause, meets_line, told_by}
use Rattle.sk_terms.specs.Numbers.{TellsNoWhole}
use Rattle.sk_terms.specs.Terms.{holds_term}
use Rattle.sk_terms.specs.WorkedTerms.{sized}

-- the lower half of the second argument is a number, or another one
abbrev pub is_word : ℕ → Term
is_word k = record { register = Argument 1; mask = 0xffffffff; first = k; last = k; inside = true }

abbrev pub is_another : ℕ → Term
is_another k = record (is_word k) { inside = false }

-- the terms of a line's choices
abbrev pub terms_of : Line → List (List Term)
terms_of line = map (λ choice. choice.terms.items) line.choices.items

abbrev pub seven_twice : List (List Term)
seven_twice = (is_word 7 ∷ []) ∷ (is_word 7 ∷ []) ∷ []

abbrev pub seven_and_eight : List (List Term)
seven_and_eight = (is_word 7 ∷ []) ∷ (is_word 8 ∷ []) ∷ []

-- the call's number lies in a range, and the lower half of the second argument is 7
abbrev pub numbered_from : ℕ → ℕ → Term
numbered_from first last = record { register = Number; mask = 0xffffffff; first = first; last = last; inside = true }

abbrev pub seven_from : ℕ → ℕ → List (List Term)
seven_from first last = (numbered_from first last ∷ []) ∷ (is_word 7 ∷ []) ∷ []

-- what is asked again says no more; what no call meets is never met, and a line of it tells nothing beside others; of two terms
-- in one choice one is enough; a range that is all numbers of a row is not told, and neither is one beyond them, but a part of them is
pub record LinesWork : Type 0 where
  pub again : (call : Record) → meets_all (is_word 7 ∷ is_word 7 ∷ []) call ≡ holds_term (is_word 7) call
  pub no_other : (call : Record) → meets_all (is_word 7 ∷ is_another 8 ∷ []) call ≡ holds_term (is_word 7) call
  pub never : (call : Record) → meets_all (is_word 7 ∷ is_word 8 ∷ []) call ≡ meets_clause Never call
  pub twice : (line : Line) (call : Record) → terms_of line ≡ seven_twice → meets_line line call ≡ holds_term (is_word 7) call
  pub no_line : (line : Line) (others : List Line) (call : Record) → terms_of line ≡ seven_and_eight → told_by (line ∷ others) call ≡ told_by others call
  pub either : (line : Line) → terms_of line ≡ (is_word 7 ∷ is_word 8 ∷ []) ∷ [] → told_by (line ∷ []) (sized 0x100000008) ≡ line.value ∷ []
  pub neither : (line : Line) → terms_of line ≡ (is_word 7 ∷ is_word 8 ∷ []) ∷ [] → told_by (line ∷ []) (sized 9) ≡ []
  pub whole_row : (line : Line) → terms_of line ≡ seven_from 500 599 → TellsNoWhole 500 599 line → ⊥
  pub beyond_row : (line : Line) → terms_of line ≡ seven_from 400 699 → TellsNoWhole 500 599 line → ⊥
  pub part_of_row : (line : Line) → terms_of line ≡ seven_from 550 599 → TellsNoWhole 500 599 line
