-- What the program does, in one statement.
use Rattle.std.specs.Prelude.{ℕ, Bool, List}
use Rattle.sk_ask.specs.Shelves.{Held}
use Rattle.sk_ask.specs.Answering.{AnswersWords}
use Rattle.sk_ask.specs.Endings.{Ending, Written, CountsFailedReads, Leaves}

-- the words come to an ending, over files and an analysis of which this is known; a read failed where that is the ending, and nowhere else;
-- and the ending is what was put out, with its status
pub record Told (held : List ℕ → Held) (may_spend : ℕ → Bool) (words : List (List ℕ)) (reads reads_new status : ℕ) (out out_new err err_new : Written) : Type 0 where
  pub ending : Ending
  pub answers : AnswersWords held may_spend words ending
  pub counted : CountsFailedReads ending reads reads_new
  pub left : Leaves ending status out out_new err err_new
