-- The program as clap's parser knows it: its name, and a subcommand for each of its words.
use Rattle.std.specs.Prelude.{ℕ, List, [], codes, true}
use Rattle.clap.specs.Simple.{App, new_shape, with_subcommand}

-- a program without a word, whose own name is not among the words, and that adds no help of its own
abbrev pub wordless : App
wordless = record {
  top = record (new_shape (codes "skern")) { no_binary_name = true; disable_help_flag = true; disable_help_subcommand = true };
  subs = [];
}

abbrev pub with_word : App → List ℕ → App
with_word app name = with_subcommand app (new_shape name)

-- the program and its five words
abbrev pub program : App
program = with_word (with_word (with_word (with_word (with_word wordless (codes "run")) (codes "check")) (codes "eval")) (codes "asm")) (codes "list")
