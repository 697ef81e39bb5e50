-- What a command puts out: a text and an exit status.
use Rattle.std.specs.Prelude.{ℕ, ◌++◌, nat_lt, if◌then◌else◌, List, [], ◌∷◌, length, codes}
use Rattle.std.specs.Fmt.{decimal}

pub record Output : Type 0 where
  pub text : List ℕ
  pub status : ℕ

-- a text with status 0: the command did its work
abbrev pub done : List ℕ → Output
done text = record { text = text; status = 0 }

-- a text with status 1: the input is refused
abbrev pub refused : List ℕ → Output
refused text = record { text = text; status = 1 }

-- a text with status 2: the words of the program say nothing, and this says how it is used
abbrev pub misused : List ℕ → Output
misused text = record { text = text; status = 2 }

-- each line of a text is ended by a line feed
abbrev pub line : List ℕ → List ℕ
line text = text ++ (10 ∷ [])

-- what is wrong with a line; 0 stands for the whole input
abbrev pub at_line : ℕ → List ℕ → Output
at_line number what = refused (codes "skern: line " ++ (decimal number ++ (codes ": " ++ line what)))

-- a command takes inputs of at most 1,048,576 bytes, and answers as it says on these
unfoldable pub within_limit : (List ℕ → Output) → List ℕ → Output
within_limit answer input =
    if nat_lt 1048576 (length input) then at_line 0 (codes "over the limit") else answer input
