-- What is answered with what was found of all calls.
use Rattle.std.specs.Prelude.{ℕ, ◌≡◌, ◌++◌, true, false, List, codes}
use Rattle.sk_when.specs.declared.diff_engine.Finding.{Finding}
use Rattle.sk_when.specs.declared.diff_engine.Finding.TheVariants.{Holds, Fails, Undecided}
use Rattle.sk_ask.specs.declared.printing.Printing.{Printing}
use Rattle.sk_ask.specs.declared.printing.Printing.TheVariants.{Text}
use Rattle.sk_ask.specs.Endings.{Ending, answered, refused, ComesTo}

-- what is said where some calls are undecided, with the lines of these
abbrev pub undecided_text : List ℕ → List ℕ → List ℕ
undecided_text what lines = codes "ask: " ++ (what ++ (codes " on all calls:\n" ++ lines))

-- where some calls are undecided the lines of a text say so, though a document be asked for: a failure is no document
abbrev pub printing_for : Finding → Printing → Printing
printing_for Undecided printing = Text
printing_for finding printing = printing

-- yes where it holds on every call, no where there is a call on which it fails; and else there is no answer
abbrev pub EndsAs : List ℕ → Finding → List ℕ → List ℕ → Ending → Type 0
EndsAs what Holds notes text ending = ending ≡ answered notes text false
EndsAs what Fails notes text ending = ending ≡ answered notes text true
EndsAs what Undecided notes text ending = ComesTo (refused (undecided_text what text)) ending
