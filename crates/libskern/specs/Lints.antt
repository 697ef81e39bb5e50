-- What is told through C of calls that are the same one to Linux, and get other verdicts.
use Rattle.std.specs.Prelude.{ℕ, ◌≡◌, Bool, false, if◌then◌else◌, List, [], Result, Ok, Err}
use Rattle.sk_arguments.specs.declared.naming.Naming.TheVariants.{Constants}
use Rattle.sk_insn.specs.declared.insn.Insn.{Insn}
use Rattle.sk_when.specs.declared.diff_engine.Finding.{Finding}
use Rattle.sk_when.specs.declared.diff_engine.Finding.TheVariants.{Holds, Fails, Undecided}
use Rattle.sk_when.specs.declared.piece.Piece.{Piece}
use Rattle.sk_when.specs.Lints.{IsLint}
use Rattle.sk_when.specs.LintText.{lint_text}
use Rattle.libskern.specs.declared.fault.Fault.{Fault}
use Rattle.libskern.specs.Faults.{fine, plain, spent, unfollowed}
use Rattle.libskern.specs.Writing.{IsSaid}

-- some call gets a less strict verdict than the call that Linux takes it for, or the sign of an int is asked for
abbrev pub wide : ℕ
wide = 24

-- the number that tells what was found, where the steps were used up, or not
abbrev pub number_of : Bool → Finding → ℕ
number_of is_spent Holds = fine
number_of is_spent Fails = wide
number_of is_spent Undecided = if is_spent then spent else unfollowed

-- what a caller gets of a chain: a number, and the lines of `ask lint`, with constants, of which nothing more is said
pub record IsLinted (programs : List (List Insn)) (room : List ℕ) (fault : Fault) (size : ℕ) (out : List ℕ) : Type 0 where
  pub is_spent : Bool
  pub finding : Finding
  pub pieces : List Piece
  pub notes : List ℕ
  pub is : IsLint programs is_spent finding pieces notes
  pub said : IsSaid (plain (number_of is_spent finding)) (lint_text false Constants (λ call. []) finding pieces) room fault size out

-- or of filters that are refused the fault, with nothing written
abbrev pub AnswersLint : Result (List (List Insn)) Fault → List ℕ → ℕ → Fault → ℕ → List ℕ → Type 0
AnswersLint (Ok programs) room before fault size out = IsLinted programs room fault size out
AnswersLint (Err why) room before fault size out = (fault ≡ why) × (size ≡ before) × (out ≡ room)
