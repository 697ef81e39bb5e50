-- What `skern eval` answers.
use Rattle.std.specs.Prelude.{ℕ, ◌==◌, ◌++◌, if◌then◌else◌, List, [], length, codes, flat_map, Result, Ok, Err}
use Rattle.std.specs.Fmt.{decimal}
use Rattle.sk_insn.specs.declared.insn.Insn.{Insn}
use Rattle.sk_insn.specs.declared.record.Record.{Record}
use Rattle.sk_insn.specs.Actions.{action_of, action_name, data_part}
use Rattle.sk_filter.specs.Meaning.{Meaning, Returned, Stuck, meaning_of}
use Rattle.sk_filter.specs.Verdict.{verdict_of}
use Rattle.sk_text.specs.Hexadecimal.{hex_word}
use Rattle.sk_text.specs.Lines.{lines_of}
use Rattle.sk_engines.specs.declared.filters.Refusal.{Refusal}
use Rattle.sk_engines.specs.Output.{Output, done, line, at_line, within_limit}
use Rattle.sk_engines.specs.EvalInput.{nothing_yet, gathered}
use Rattle.sk_engines.specs.Filters.{chained, refusal_answer}

-- ---- the texts

-- a value, the action that it asks for, and its data
unfoldable pub value_text : ℕ → List ℕ
value_text value =
    hex_word value ++ (codes " " ++ (action_name (action_of value) ++ (codes " data " ++ decimal (data_part value))))

-- what one filter answers, and in how many steps
abbrev pub meaning_line : Meaning → List ℕ
meaning_line (Returned value steps) =
    codes "return 0x" ++ (value_text value ++ (codes " steps " ++ line (decimal steps)))
meaning_line Stuck = []

-- what they answer together, which one alone has said already
abbrev pub verdict_line : ℕ → ℕ → List ℕ
verdict_line count value = if count == 1 then [] else codes "verdict 0x" ++ line (value_text value)

abbrev pub chain_text : Record → List (List Insn) → List ℕ
chain_text call chain =
    flat_map (λ program. meaning_line (meaning_of program call)) chain
    ++ verdict_line (length chain) (verdict_of chain call)

-- ---- the answer

abbrev pub chained_answer : Record → Result (List (List Insn)) (ℕ × Refusal) → Output
chained_answer call (Ok chain) = done (chain_text call chain)
chained_answer call (Err refusal) = refusal_answer refusal

abbrev pub asked_answer : Result (Record × List (List ℕ)) ℕ → Output
asked_answer (Ok asked) = chained_answer asked.0 (chained 0 [] asked.1)
asked_answer (Err number) = at_line number (codes "not understood")

abbrev pub eval_answer : List ℕ → Output
eval_answer input = within_limit (λ text. asked_answer (gathered 1 nothing_yet (lines_of text))) input
