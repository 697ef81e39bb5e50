-- What the words that say what to do stand for.
use Rattle.std.specs.Prelude.{ℕ, List, [], ◌∷◌, codes, Option, Some, None, if◌then◌else◌}
use Rattle.std.specs.Option.{option_and_then}
use Rattle.std.specs.Str.{bytes_eq}
use Rattle.sk_engines.specs.Output.{Output, misused, line}
use Rattle.sk_engines.specs.CheckCommand.{check_answer}
use Rattle.sk_engines.specs.EvalCommand.{eval_answer}
use Rattle.sk_engines.specs.AsmCommand.{asm_answer}
use Rattle.sk_engines.specs.ListCommand.{list_answer}
use Rattle.sk_engines.specs.declared.word.Word.{Word}
use Rattle.sk_engines.specs.declared.word.Word.TheVariants.{Run, Filters}
use Rattle.sk_engines.specs.declared.word.FilterWord.{FilterWord}
use Rattle.sk_engines.specs.declared.word.FilterWord.TheVariants as word

-- the word that a text is
unfoldable pub word_named : List ℕ → Option Word
word_named text =
    if bytes_eq text (codes "run") then Some Run
    else if bytes_eq text (codes "check") then Some (Filters word.Check)
    else if bytes_eq text (codes "eval") then Some (Filters word.Eval)
    else if bytes_eq text (codes "asm") then Some (Filters word.Asm)
    else if bytes_eq text (codes "list") then Some (Filters word.List)
    else None

-- what is said behind the program's name: one word alone, or nothing
abbrev pub word_of : List (List ℕ) → Option Word
word_of [] = None
word_of (text ∷ []) = word_named text
word_of (text ∷ more ∷ rest) = None

-- what a word's command answers on an input
abbrev pub answer_by : FilterWord → List ℕ → Output
answer_by word.Check input = check_answer input
answer_by word.Eval input = eval_answer input
answer_by word.Asm input = asm_answer input
answer_by word.List input = list_answer input

-- how `filters` is used
abbrev pub usage : Output
usage = misused (line (codes "usage: skern check|eval|asm|list"))

-- the word of filters that a word is
abbrev pub filter_word : Word → Option FilterWord
filter_word Run = None
filter_word (Filters filters) = Some filters

-- the one word of filters that was given, or nothing
abbrev pub filter_word_of : List (List ℕ) → Option FilterWord
filter_word_of words = option_and_then filter_word (word_of words)

-- what `filters` answers to a word on an input
abbrev pub answer_to : Option FilterWord → List ℕ → Output
answer_to (Some word) input = answer_by word input
answer_to None input = usage
