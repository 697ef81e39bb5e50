-- Texts of expectations that are completed by hand, and what they expect of calls.
use Rattle.std.specs.Prelude.{ℕ, ◌≡◌, List, [], ◌∷◌, Vec, Some, None}
use Rattle.std.specs.Borrow.{Bor}
use Rattle.std.specs.Global.{Global}
use Rattle.sk_insn.specs.declared.record.Record.{Record}
use Rattle.sk_policy_text.specs.declared.sentence.Range.{Range}
use Rattle.sk_policy_text.specs.declared.sentence.Sentence.TheVariants as sentence
use Rattle.sk_policy_text.specs.declared.stated.Stated.{Stated}
use Rattle.sk_policy_text.specs.declared.word.Word.{Word}
use Rattle.sk_policy_text.specs.Conditions.{Always, Never, condition_words}
use Rattle.sk_policy_text.specs.ConditionsTokens.{tokens_of}
use Rattle.sk_policy_text.specs.Expecting.{Expects, completed}
use Rattle.sk_policy_text.specs.WorkedPolicies.{only, stated}

-- a row without a verdict, and `performed where` a condition
abbrev pub row_at : ℕ → Vec Range Global → Stated
row_at line ranges = stated line (sentence.Row ranges None)

abbrev pub case : ℕ → Bor (List Word) → Stated
case line words = stated line (sentence.Case 0x00010002 words)

abbrev pub anything_else : ℕ → Stated
anything_else line = stated line (sentence.Else 0x00010003)

abbrev pub any_default : Stated
any_default = stated 0 (sentence.Default 0x00010003)

abbrev pub any_others : Stated
any_others = stated 0 (sentence.Others 0x00010003)

-- `default refused` and `others refused`
abbrev pub default : ℕ → Stated
default line = stated line (sentence.Default 0x00010001)

abbrev pub others : ℕ → Stated
others line = stated line (sentence.Others 0x00010001)

pub record WorkedCompletions (ranges : Vec Range Global) (words : Bor (List Word)) : Type 0 where
  pub nothing : completed [] ≡ any_default ∷ any_others ∷ []
  pub has_default : completed (default 1 ∷ []) ≡ default 1 ∷ any_others ∷ []
  pub has_others : completed (others 1 ∷ []) ≡ others 1 ∷ any_default ∷ []
  pub has_both : completed (others 1 ∷ default 2 ∷ []) ≡ others 1 ∷ default 2 ∷ []
  pub no_else :
      completed (row_at 1 ranges ∷ case 2 words ∷ row_at 4 ranges ∷ case 5 words ∷ case 6 words ∷ [])
      ≡ row_at 1 ranges ∷ case 2 words ∷ anything_else 1 ∷ row_at 4 ranges ∷ case 5 words ∷ case 6 words ∷ anything_else 4 ∷ any_default ∷ any_others ∷ []
  pub no_case : completed (row_at 3 ranges ∷ default 4 ∷ []) ≡ row_at 3 ranges ∷ anything_else 3 ∷ default 4 ∷ any_others ∷ []
  pub has_else :
      completed (row_at 1 ranges ∷ case 2 words ∷ stated 3 (sentence.Else 0x00010001) ∷ others 4 ∷ default 5 ∷ [])
      ≡ row_at 1 ranges ∷ case 2 words ∷ stated 3 (sentence.Else 0x00010001) ∷ others 4 ∷ default 5 ∷ []
  pub has_verdict :
      completed (stated 1 (sentence.Row ranges (Some 0x7fff0000)) ∷ others 2 ∷ default 3 ∷ [])
      ≡ stated 1 (sentence.Row ranges (Some 0x7fff0000)) ∷ others 2 ∷ default 3 ∷ []

-- `56 clone`, and `performed where` a condition
pub record WorkedExpectations (ranges : Vec Range Global) (words : Bor (List Word)) (call : Record) : Type 0 where
  pub met : tokens_of words.now ≡ condition_words Always → call.nr ≡ 56 → Expects (row_at 1 ranges ∷ case 2 words ∷ []) call 0x00010002
  pub not_met : tokens_of words.now ≡ condition_words Never → call.nr ≡ 56 → Expects (row_at 1 ranges ∷ case 2 words ∷ []) call 0x00010003
  pub no_row : call.nr ≡ 57 → Expects (row_at 1 ranges ∷ case 2 words ∷ []) call 0x00010003
  pub by_default : call.nr ≡ 57 → Expects (default 1 ∷ row_at 2 ranges ∷ case 3 words ∷ []) call 0x00010001
  pub of_x32 : call.nr ≡ 0x40000000 → Expects (default 1 ∷ row_at 2 ranges ∷ case 3 words ∷ []) call 0x00010003

abbrev pub WorkedExpecting : Type 0
WorkedExpecting =
    (ranges : Vec Range Global) (words : Bor (List Word)) → ranges.items ≡ only 56 56
    → WorkedCompletions ranges words × ((call : Record) → WorkedExpectations ranges words call)
