use Rattle.sk_conditions.proofs.WorkedWords.{ranges_meet, words_meet}
use Rattle.sk_conditions.proofs.laws.worked_words.Goals as goal

pub returns : goal.returns
returns c = record { words = words_meet; ranges = ranges_meet }
