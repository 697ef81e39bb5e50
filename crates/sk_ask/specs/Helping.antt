-- What `ask --help`, `ask --version` and `ask WORD --help` say.
use Rattle.std.specs.Prelude.{ℕ, List}
use Rattle.sk_ask.specs.declared.word.Word.{Word}
use Rattle.sk_ask.specs.declared.word.Word.TheVariants.{Calls, Filter, When, Diff, Expect, Lint, Replay, Allow, Why, Show, Arches, Check, Page}
use Rattle.sk_ask.specs.declared.help.TheConstants.{HELP, VERSION, CALLS_HELP, FILTER_HELP, WHEN_HELP, DIFF_HELP, EXPECT_HELP, LINT_HELP, REPLAY_HELP, ALLOW_HELP, WHY_HELP, SHOW_HELP, ARCHES_HELP, CHECK_HELP, PAGE_HELP}

abbrev pub help_text : List ℕ
help_text = HELP.now

abbrev pub version_text : List ℕ
version_text = VERSION.now

abbrev pub word_help_text : Word → List ℕ
word_help_text (Calls examples) = CALLS_HELP.now
word_help_text (Filter target smaller) = FILTER_HELP.now
word_help_text (When dot) = WHEN_HELP.now
word_help_text (Diff stricter) = DIFF_HELP.now
word_help_text Expect = EXPECT_HELP.now
word_help_text (Lint all) = LINT_HELP.now
word_help_text (Replay since) = REPLAY_HELP.now
word_help_text (Allow asks) = ALLOW_HELP.now
word_help_text Why = WHY_HELP.now
word_help_text Show = SHOW_HELP.now
word_help_text Arches = ARCHES_HELP.now
word_help_text Check = CHECK_HELP.now
word_help_text (Page is) = PAGE_HELP.now
