-- What clap makes of one word, by its definitions of a parse.
use Rattle.std.proofs.Common.{arith, length, ◌≡◌, ◌∙◌, ◌⊎◌, Bool, true, false, true≢false, List, [], ◌∷◌, codes, Option, Some, None, ap, inl, inr, refl, subst, sym}
use Rattle.std.proofs.lemmas.Bool.{cases_Bool}
use Rattle.std.proofs.lemmas.Slice.Eq.{bytes_eq-Decides}
use Rattle.std.specs.List.{find}
use Rattle.std.specs.Option.{option_and_then, option_map}
use Rattle.std.specs.Prelude.{Box, if◌then◌else◌}
use Rattle.std.specs.Box.{box_value}
use Rattle.std.specs.Str.{bytes_eq}
use Rattle.clap.specs.Walk.{Held, Outcome, Text, after_flag, after_step, answers_to, done, idle, nothing_held, plain, refused, stop_after, subcommand_or_other, short_or_plain, long_or_other, bundle, waits, walk_from, walked, Step, trailing}
use Rattle.clap.specs.Simple.{built, entered, is_simple, names_of, subcommand_of, subcommand_rows, subcommand_rows_of}
use Rattle.clap.specs.Matches.{subcommand_name_of}
use Rattle.clap.specs.declared.parser.matches.ArgMatches.{ArgMatches}
use Rattle.clap.specs.declared.parser.matches.ArgMatches.TheViews.{out-ArgMatches, out-SubCommand}
use Rattle.clap.specs.declared.parser.matches.SubCommand.{SubCommand}
use Rattle.clap.specs.Takes.{takes}
use Rattle.clap.specs.Lexer.{long_of, short_of}
use Rattle.clap.proofs.OnLiterals.{clap_on_literals}
use Rattle.sk_engines.specs.Parser.{program}
use Rattle.sk_engines.specs.Words.{word_named}

pub program_is_simple : is_simple program ≡ true
unfolding clap_on_literals
program_is_simple = refl

-- the text is none of the five words
record IsOther (text : Text) : Type 0 where
  run : bytes_eq (codes "run") text ≡ false
  check : bytes_eq (codes "check") text ≡ false
  eval : bytes_eq (codes "eval") text ≡ false
  asm : bytes_eq (codes "asm") text ≡ false
  list : bytes_eq (codes "list") text ≡ false

-- what holds of a word, and of each text that is another, holds of each text
or_word : (Holds : Text → Type 0) (word text : Text) → Holds word → (bytes_eq word text ≡ false → Holds text) → Holds text
or_word Holds word text known other = elim (cases_Bool (bytes_eq word text)) [
  | inl is ↦ subst Holds ((bytes_eq-Decides word text).0 is) known
  | inr differs ↦ other differs
]

-- what holds of the five words, and of a text that is none of them, holds of each text
by_word : (Holds : Text → Type 0) → Holds (codes "run") → Holds (codes "check") → Holds (codes "eval") → Holds (codes "asm") → Holds (codes "list") → ((text : Text) → IsOther text → Holds text) → (text : Text) → Holds text
by_word Holds run check eval asm list other text =
    or_word Holds (codes "run") text run (λ no_run.
    or_word Holds (codes "check") text check (λ no_check.
    or_word Holds (codes "eval") text eval (λ no_eval.
    or_word Holds (codes "asm") text asm (λ no_asm.
    or_word Holds (codes "list") text list (λ no_list.
    other text (record { run = no_run; check = no_check; eval = no_eval; asm = no_asm; list = no_list }))))))

-- ---- a text that is none of the words

flipped : (a b : Text) → bytes_eq a b ≡ false → bytes_eq b a ≡ false
flipped a b other = elim (cases_Bool (bytes_eq b a)) [
  | inl same ↦ absurd (true≢false (sym ((bytes_eq-Decides a b).1 (sym ((bytes_eq-Decides b a).0 same))) ∙ other))
  | inr differs ↦ differs
]

-- where the walk over one word stops, by the subcommand that it names
abbrev stop : Option Text → Text → Option (Text × List Text)
stop named text =
    let met = subcommand_or_other [] named idle 1 text nothing_held in
    (after_step [] text (walk_from nothing_held) met.0 met.1).stopped

stop_is : (text : Text) → stop_after (built program).top.rules (names_of (built program)) (text ∷ []) ≡ stop (option_map (λ s. s.0) (find (answers_to text) (names_of (built program)))) text
unfolding walked
stop_is text = refl

-- a flag stops no walk, whatever it comes to
flag_passes : (text : Text) (held : Held) (outcome : Outcome) → (after_step [] text (walk_from nothing_held) (after_flag [] idle text held outcome).0 (after_flag [] idle text held outcome).1).stopped ≡ None
flag_passes text held done = refl
flag_passes text held (waits id) = refl
flag_passes text held plain = refl
flag_passes text held refused = refl

short_passes : (text : Text) (short : Option Text) → (after_step [] text (walk_from nothing_held) (short_or_plain [] idle text short nothing_held).0 (short_or_plain [] idle text short nothing_held).1).stopped ≡ None
short_passes text None = refl
short_passes text (Some flags) = flag_passes text (bundle [] flags nothing_held).0 (bundle [] flags nothing_held).1

long_passes : (text : Text) (long : Option (Text × Option Text)) → (after_step [] text (walk_from nothing_held) (long_or_other [] idle text long nothing_held).0 (long_or_other [] idle text long nothing_held).1).stopped ≡ None
long_passes text None = short_passes text (short_of text)
long_passes text (Some p) = refl

abbrev other_met : Bool → Text → Held × Step
other_met dashes text = if dashes then (nothing_held, trailing 1) else long_or_other [] idle text (long_of text) nothing_held

other_passes : (text : Text) (dashes : Bool) → (after_step [] text (walk_from nothing_held) (other_met dashes text).0 (other_met dashes text).1).stopped ≡ None
other_passes text true = refl
other_passes text false = long_passes text (long_of text)

unnamed_passes : (text : Text) → stop None text ≡ None
unnamed_passes text = other_passes text (bytes_eq text (45 ∷ 45 ∷ []))

-- ---- what the parse comes to

-- the name of the subcommand that a parse of this word meets
abbrev pub met_by : Text → Option Text
met_by text = option_map (λ p. p.0) (subcommand_of program (text ∷ []))

-- the subcommand that is met is the word that the text is, and a text that the parse does not take is no word
abbrev Reads : Text → Type 0
Reads text = (option_and_then word_named (met_by text) ≡ word_named text) × ((takes program (text ∷ []) ≡ true) ⊎ (word_named text ≡ None))

nothing_named : (text : Text) → IsOther text → word_named text ≡ None
unfolding word_named
nothing_named text other =
    rw (flipped (codes "run") text other.run, flipped (codes "check") text other.check, flipped (codes "eval") text other.eval, flipped (codes "asm") text other.asm, flipped (codes "list") text other.list) refl

nothing_found : (text : Text) → IsOther text → find (answers_to text) (names_of (built program)) ≡ None
nothing_found text other = rw (other.run, other.check, other.eval, other.asm, other.list) refl

other_reads : (text : Text) → IsOther text → Reads text
other_reads text other =
    let none = stop_is text ∙ ap (λ found. stop (option_map (λ (s : Text × List Text). s.0) found) text) (nothing_found text other) ∙ unnamed_passes text in (
      ap (λ stopped. option_and_then word_named (option_map (λ p. p.0) (entered (built program) stopped))) none ∙ sym (nothing_named text other),
      inr (nothing_named text other),
    )

run_reads : Reads (codes "run")
unfolding clap_on_literals
run_reads = (refl, inl refl)

check_reads : Reads (codes "check")
unfolding clap_on_literals
check_reads = (refl, inl refl)

eval_reads : Reads (codes "eval")
unfolding clap_on_literals
eval_reads = (refl, inl refl)

asm_reads : Reads (codes "asm")
unfolding clap_on_literals
asm_reads = (refl, inl refl)

list_reads : Reads (codes "list")
unfolding clap_on_literals
list_reads = (refl, inl refl)

pub reads_word : (text : Text) → Reads text
reads_word = by_word Reads run_reads check_reads eval_reads asm_reads list_reads other_reads

-- ---- the name of a subcommand that was met

name_in_rows : {Z : Type 0} (met : Option (Box SubCommand Z)) → option_map (λ b. (out-SubCommand (box_value b)).name.now) met ≡ option_map (λ p. p.0) (subcommand_rows met)
name_in_rows None = refl
name_in_rows (Some met) = refl

pub name_is_of_rows : (matches : ArgMatches) → subcommand_name_of matches ≡ option_map (λ p. p.0) (subcommand_rows_of matches)
name_is_of_rows matches = name_in_rows (out-ArgMatches matches).subcommand

-- ---- one word

pub only_one : {X : Type 0} (words : List X) → length words ≡ 1 → (word : X) × (words ≡ word ∷ [])
only_one [] e = absurd (omega arith)
only_one (word ∷ []) e = (word, refl)
only_one (word ∷ more ∷ rest) e = absurd (omega arith)
