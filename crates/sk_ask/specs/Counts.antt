-- How many reads failed.
use Rattle.std.specs.Prelude.{ℕ, ◌≡◌, Result, Ok, Err}
use Rattle.sk_text.specs.Failures.{one_more}
use Rattle.sk_ask.specs.declared.trouble.Trouble.{Trouble}
use Rattle.sk_ask.specs.declared.trouble.Trouble.TheVariants.{Reading}

-- the count of failed reads is one more where a read is told to have failed, and else it stays
abbrev pub CountsTrouble : Trouble → ℕ → ℕ → Type 0
CountsTrouble (Reading line) old new = new ≡ one_more old
CountsTrouble why old new = new ≡ old

abbrev pub CountsReads : {T : Type 0} → Result T Trouble → ℕ → ℕ → Type 0
CountsReads (Ok value) old new = new ≡ old
CountsReads (Err why) old new = CountsTrouble why old new
