-- What the code's answers to words say.
use Rattle.std.specs.Prelude.{ℕ, ◌≡◌, ◌≤◌, false, List, length, map, string_bytes, Result, Ok, Err, ⊤}
use Rattle.sk_ask.specs.declared.trouble.Trouble.{Trouble}
use Rattle.sk_ask.specs.declared.trouble.Trouble.TheVariants.{Refused, Reading, Memory}
use Rattle.sk_ask.specs.declared.words.Asked.{Asked}
use Rattle.sk_ask.specs.Asking.{Question, wanted}

abbrev pub question_of : Asked → Question
question_of asked = record {
  word = asked.word;
  calls = map string_bytes asked.calls.items;
  only = asked.only.items;
  caps = map (λ name. name.now) asked.caps.items;
  kernel = asked.kernel;
  machine = asked.machine;
  arch = asked.arch;
  awaits = asked.awaits;
  numbers = asked.numbers;
  json = asked.json;
  native = asked.native;
  runc = asked.runc;
  strict = asked.strict;
  help = asked.help;
  names = map string_bytes asked.names.items;
}

abbrev pub Asks : Result Asked Trouble → Result Question (List ℕ) → Type 0
Asks (Ok asked) said = said ≡ Ok (question_of asked)
Asks (Err (Refused line)) said = said ≡ Err line.items
Asks (Err (Reading line)) said = ⊥
Asks (Err Memory) said = ⊤

-- but for `--help` there are as many names as the word wants
abbrev pub HasNames : Asked → Type 0
HasNames asked = asked.help ≡ false → length (wanted asked.word) ≤ length asked.names.items
