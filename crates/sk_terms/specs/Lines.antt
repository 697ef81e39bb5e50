-- Lines of terms, and what they tell of a call.
use Rattle.std.specs.Prelude.{ℕ, ◌≡◌, ◌==◌, Bool, true, false, if◌then◌else◌, List, [], ◌∷◌, map, filter, Option, Some, None}
use Rattle.std.specs.List.{Any, list_all, list_any}
use Rattle.sk_insn.specs.declared.record.Record.{Record}
use Rattle.sk_terms.specs.declared.choices.Choice.{Choice}
use Rattle.sk_terms.specs.declared.clause.Clause.{Clause}
use Rattle.sk_terms.specs.declared.clause.Clause.TheVariants.{Never, All}
use Rattle.sk_terms.specs.declared.lines.LeftOut.{LeftOut}
use Rattle.sk_terms.specs.declared.lines.LeftOut.TheVariants.{Nothing, End}
use Rattle.sk_terms.specs.declared.lines.Line.{Line}
use Rattle.sk_terms.specs.declared.term.Term.{Term}
use Rattle.sk_terms.specs.Terms.{holds_term}

-- all terms hold on a call
abbrev pub meets_all : List Term → Record → Bool
meets_all terms call = list_all (λ term. holds_term term call) terms

-- one of the terms holds
abbrev pub holds_one : List Term → Record → Bool
holds_one terms call = list_any (λ term. holds_term term call) terms

abbrev pub holds_choice : Choice → Record → Bool
holds_choice choice call = holds_one choice.terms.items call

abbrev pub meets_choices : List Choice → Record → Bool
meets_choices choices call = list_all (λ choice. holds_choice choice call) choices

abbrev pub meets_clause : Clause → Record → Bool
meets_clause Never call = false
meets_clause (All choices) call = meets_choices choices.items call

-- a call meets the condition of a line: of each choice one of the terms holds
abbrev pub meets_line : Line → Record → Bool
meets_line line call = meets_choices line.choices.items call

-- the values of the lines that a call meets
abbrev pub told_by : List Line → Record → List (Option ℕ)
told_by lines call = map (λ line. line.value) (filter (λ line. meets_line line call) lines)

-- the same value, or none twice
abbrev pub same_end : Option ℕ → Option ℕ → Bool
same_end None None = true
same_end (Some value) (Some other) = value == other
same_end value other = false

-- an end of a tree, as far as it is shown
abbrev pub shown : LeftOut → Option ℕ → List (Option ℕ)
shown Nothing value = value ∷ []
shown (End otherwise) value = if same_end value otherwise then [] else value ∷ []

-- the value of a line that a call meets
abbrev pub told_alone : Line → Record → List (Option ℕ)
told_alone line call = if meets_line line call then line.value ∷ [] else []

-- one of the calls meets the line
abbrev pub IsMetBy : List Record → Line → Type 0
IsMetBy calls line = list_any (λ call. meets_line line call) calls ≡ true

-- both calls meet the line, or neither does
abbrev pub MeetAlike : Record → Record → Line → Type 0
MeetAlike one other line = meets_line line one ≡ meets_line line other

-- the value is that of one of the lines
abbrev pub IsValueOf : List Line → Option ℕ → Type 0
IsValueOf lines value = Any (λ line. line.value ≡ value) lines
