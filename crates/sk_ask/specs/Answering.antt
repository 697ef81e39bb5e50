-- What the program answers to its words, and what each of them tells of filters.
use Rattle.std.specs.Prelude.{ℕ, ◌++◌, take, drop, Bool, true, false, List, [], ◌∷◌, codes, map, Option, Some, None, Result, Ok, Err}
use Rattle.std.specs.Bool.{MatchBool}
use Rattle.sk_names.specs.declared.architecture.Architecture.{Architecture}
use Rattle.sk_arguments.specs.declared.naming.Naming.{Naming}
use Rattle.sk_profile_json.specs.declared.context.Context.{Context}
use Rattle.sk_ask.specs.declared.word.TheConstants.{NAMES}
use Rattle.sk_ask.specs.Nearest.{of_unknown, see_help}
use Rattle.sk_ask.specs.Shelves.{Held}
use Rattle.sk_ask.specs.declared.printing.Printing.{Printing}
use Rattle.sk_ask.specs.declared.word.Word.{Word}
use Rattle.sk_ask.specs.declared.word.Word.TheVariants.{Calls, Filter, When, Diff, Expect, Lint, Replay, Allow, Why, Show, Arches, Check, Page}
use Rattle.sk_ask.specs.Asking.{Question, asked_of, asks_help, asks_version, manner_of, naming_asked, nothing_asked, printing_asked, word_named}
use Rattle.sk_ask.specs.Allows.{IsAllowed, OfLogs}
use Rattle.sk_ask.specs.Arches.{TellsArches}
use Rattle.sk_ask.specs.Architectures.{architecture_of}
use Rattle.sk_ask.specs.Calls.{OfCalls}
use Rattle.sk_ask.specs.CallsText.{TellsSurvey}
use Rattle.sk_ask.specs.Checks.{Checks}
use Rattle.sk_ask.specs.Contexts.{IsContextOf}
use Rattle.sk_ask.specs.Endings.{Ending, answered, refused, ComesTo, MayEnd}
use Rattle.sk_ask.specs.Diffs.{IsDiff}
use Rattle.sk_ask.specs.Expects.{OfDemands, IsExpectOf}
use Rattle.sk_ask.specs.Helping.{help_text, version_text, word_help_text}
use Rattle.sk_ask.specs.Lints.{TellsLint}
use Rattle.sk_ask.specs.Pages.{TellsPage}
use Rattle.sk_ask.specs.Replays.{OfLog, replayed}
use Rattle.sk_ask.specs.Since.{OfAllJudged, OfJudged}
use Rattle.sk_ask.specs.Shows.{Shows}
use Rattle.sk_ask.specs.Smaller.{TellsFilter}
use Rattle.sk_ask.specs.Troubles.{OfFiles, OfFirst, Over}
use Rattle.sk_ask.specs.Whens.{TellsWhenOf}
use Rattle.sk_ask.specs.Whys.{OfMeant, TellsWhyOf}

-- ---- each word

-- what each word answers of the filters in its files, where the profiles among them are to hold: of the architecture, and of the calls, if
-- some are asked for, with numbers written so and all printed so. All that is asked stands before it, since a policy can say of which architecture it is
abbrev pub AnswersQuestion : (List ℕ → Held) → (ℕ → Bool) → Question → Context → Over → Architecture → List ℕ → Naming → Printing → Word
    → List (List ℕ) → Ending → Type 0
AnswersQuestion held may_spend asked context over by calls naming printing (Calls examples) names ending =
    over names ending (λ read.
    TellsSurvey may_spend printing by examples calls asked.only read.chain read.notes ending)
AnswersQuestion held may_spend asked context over by calls naming printing (Filter target smaller) names ending =
    over names ending (λ read. TellsFilter may_spend target smaller read.chain read.found.images read.notes ending)
AnswersQuestion held may_spend asked context over by calls naming printing (When dot) names ending =
    over names ending (λ read. TellsWhenOf may_spend naming printing by dot calls asked.only read.chain read.notes ending)
AnswersQuestion held may_spend asked context over by calls naming printing (Diff stricter) names ending =
    over (take 1 names) ending (λ old.
    over (drop 1 names) ending (λ new. IsDiff may_spend naming printing by stricter old.chain new.chain (old.notes ++ new.notes) ending))
AnswersQuestion held may_spend asked context over by calls naming printing Expect names ending =
    OfFirst names ending (λ name others. OfDemands held name ending (λ it. IsExpectOf held may_spend asked name it others ending))
AnswersQuestion held may_spend asked context over by calls naming printing (Lint all) names ending =
    over names ending (λ read. TellsLint may_spend naming printing all context names read ending)
AnswersQuestion held may_spend asked context over by calls naming printing (Replay since) names ending =
    OfFirst names ending (λ name others. OfLog held name ending (λ log. OfJudged since by name log ending (λ text.
    over others ending (λ read. ComesTo (replayed printing by name text read.chain read.notes) ending))))
AnswersQuestion held may_spend asked context over by calls naming printing (Allow asks) names ending =
    OfLogs held names ending (λ logs. OfAllJudged asks.since by names logs ending (λ texts. MayEnd (IsAllowed naming by asks calls names texts) ending))
AnswersQuestion held may_spend asked context over by calls naming printing Why names ending =
    OfFirst names ending (λ word others. OfMeant by word others ending (λ meant.
    over others ending (λ read. TellsWhyOf printing by meant context others read ending)))
AnswersQuestion held may_spend asked context over by calls naming printing Show names ending = over names ending (λ read. Shows by read.chain read.notes ending)
AnswersQuestion held may_spend asked context over by calls naming printing Arches names ending = over names ending (λ read. TellsArches printing read.chain read.notes ending)
AnswersQuestion held may_spend asked context over by calls naming printing Check names ending = Checks (manner_of asked) held context names ending
AnswersQuestion held may_spend asked context over by calls naming printing (Page false) names ending =
    over names ending (λ read. TellsPage may_spend naming context [] None [] names read ending)
AnswersQuestion held may_spend asked context over by calls naming printing (Page true) names ending =
    over (take 1 names) ending (λ old.
    over (drop 1 names) ending (λ new. TellsPage may_spend naming context (take 1 names) (Some old.chain) old.notes (drop 1 names) new ending))

-- ---- all words

-- where the profiles among the files are to hold, the words say, and of which architecture and of which calls is asked
abbrev pub AnswersThere : (List ℕ → Held) → (ℕ → Bool) → Question → Ending → Type 0
AnswersThere held may_spend asked ending =
    (context : Context) × IsContextOf asked context
    × OfCalls (architecture_of asked.arch) asked.calls ending (λ calls.
    AnswersQuestion held may_spend asked context (OfFiles (manner_of asked) held context) (architecture_of asked.arch) calls
    (naming_asked asked.numbers) (printing_asked asked.json) asked.word asked.names ending)

-- with `--help` among them the words ask how they are used
abbrev pub AnswersAsked : (List ℕ → Held) → (ℕ → Bool) → Result Question (List ℕ) → Ending → Type 0
AnswersAsked held may_spend (Err line) ending = ComesTo (refused line) ending
AnswersAsked held may_spend (Ok asked) ending =
    MatchBool asked.help (ComesTo (answered [] (word_help_text asked.word) false) ending) (AnswersThere held may_spend asked ending)

abbrev pub AnswersWord : (List ℕ → Held) → (ℕ → Bool) → List ℕ → Option Word → List (List ℕ) → Ending → Type 0
AnswersWord held may_spend first None words ending =
    ComesTo (refused (of_unknown (codes "no word is named ") first first (map (λ name. name.now) NAMES) see_help)) ending
AnswersWord held may_spend first (Some word) words ending = AnswersAsked held may_spend (asked_of (nothing_asked word) words) ending

abbrev pub AnswersWords : (List ℕ → Held) → (ℕ → Bool) → List (List ℕ) → Ending → Type 0
AnswersWords held may_spend [] ending = ComesTo (refused (codes "ask: no word is given; see ask --help\n")) ending
AnswersWords held may_spend (first ∷ words) ending =
    MatchBool (asks_help first) (ComesTo (answered [] help_text false) ending)
    (MatchBool (asks_version first) (ComesTo (answered [] version_text false) ending)
    (AnswersWord held may_spend first (word_named first) words ending))
