-- What is told of the architectures of a chain, and of what it warns.
use Rattle.std.specs.Prelude.{ℕ, ◌&&◌, ◌||◌, ◌⊎◌, not, is_some, Bool, true, false, List, [], ◌∷◌}
use Rattle.sk_insn.specs.declared.insn.Insn.{Insn}
use Rattle.sk_survey.specs.Answers.{answers_of}
use Rattle.sk_names.specs.X86_64.{named_from, names_end}
use Rattle.sk_names.specs.declared.architecture.Architecture.{Architecture}
use Rattle.sk_names.specs.declared.architecture.Architecture.TheVariants as architecture
use Rattle.sk_names.specs.Architectures.{audit_of}
use Rattle.sk_names.specs.Numbers.{numbers_on}
use Rattle.sk_survey.specs.ChainsFor.{chain_for}
use Rattle.sk_survey.specs.declared.answered.Answered.{Answered}
use Rattle.sk_survey.specs.declared.told.Told.{Told}
use Rattle.sk_survey.specs.Alike.{AreAlike, AreAsNamesakes}
use Rattle.sk_survey.specs.AnswersByArchitecture.{only_value, AreAnswered}
use Rattle.sk_survey.specs.Other.{IsOther}

-- the calls of another architecture are answered as those of x86-64 that have a name, with these bits in their numbers; or not
abbrev pub AreJudgedByNumber : List (List Insn) → Architecture → ℕ → Bool → Type 0
AreJudgedByNumber programs by bits is = AreAlike programs (chain_for (audit_of by) programs) bits (named_from names_end 0) is

-- its calls are answered as those of x86-64 with their names; or not
abbrev pub AreJudgedByName : List (List Insn) → Architecture → Bool → Type 0
AreJudgedByName programs by is = AreAsNamesakes programs (chain_for (audit_of by) programs) by (numbers_on by) is

-- they are judged by the numbers of x86-64, and one of them gets what is meant for another call
abbrev pub AreMisjudged : List (List Insn) → Architecture → ℕ → Bool → Type 0
AreMisjudged programs by bits true = AreJudgedByNumber programs by bits true × AreJudgedByName programs by false
AreMisjudged programs by bits false = AreJudgedByNumber programs by bits false ⊎ AreJudgedByName programs by true

pub record IsTold (programs : List (List Insn)) (it : Told) : Type 0 where
  pub answered : AreAnswered programs it.all.items
  pub other : IsOther programs it.other
  pub i386 : AreMisjudged programs architecture.I386 0 it.i386
  pub x32 : AreMisjudged programs architecture.X32 0x40000000 it.x32

-- the calls of the first architecture, which is x86-64, have no one verdict
abbrev pub judges_calls : List Answered → Bool
judges_calls [] = false
judges_calls (it ∷ others) = not (is_some (only_value (answers_of it.row.answers)))

-- they are judged call by call, and those of another architecture by the same numbers, though they are other calls
abbrev pub warns : Told → Bool
warns it = judges_calls it.all.items && (it.i386 || it.x32)
