-- What is true of a writer after a text was written to it, whole or in part.
use Rattle.std.specs.Prelude.{◌≡◌, ◌++◌, ℕ, Option, Result, Ok, Err, List}
use Rattle.std.specs.Io.KnownBytes.{Appends}
use Rattle.sk_text.specs.Failures.{one_more}
use Rattle.sk_text.specs.declared.sink.WriteFault.{WriteFault}

-- a beginning of this text went out: the known bytes grew by it, and some of the text may be left
pub record AppendsBeginning (old new : Option (List ℕ)) (text : List ℕ) : Type 0 where
  pub begun : List ℕ
  pub left : List ℕ
  pub parts : text ≡ begun ++ left
  pub appended : Appends old new begun

-- a fault is answered where a write failed, which the writer counted, and Ok where none did
abbrev pub WhyNotWritten : {T : Type 0} → Result T WriteFault → ℕ → ℕ → Type 0
WhyNotWritten (Ok value) old new = new ≡ old
WhyNotWritten (Err fault) old new = new ≡ one_more old
