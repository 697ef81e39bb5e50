-- A worked example of rows: one word of a call is compared three times, and no call takes one of the paths.
use Rattle.std.specs.Prelude.{ℕ, ◌≡◌, true, false, List, [], ◌∷◌, map, codes, Option, Some}
use Rattle.sk_insn.specs.declared.record.Record.{Record}
use Rattle.sk_names.specs.declared.architecture.Architecture.TheVariants as architecture
use Rattle.sk_conditions.specs.WorkedPaths.{compares_again}
use Rattle.sk_survey.specs.Answers.{IsCallOf}
use Rattle.sk_terms.specs.declared.lines.Line.{Line}
use Rattle.sk_terms.specs.declared.term.Register.TheVariants.{Argument}
use Rattle.sk_terms.specs.declared.term.Term.{Term}
use Rattle.sk_terms.specs.WorkedLines.{terms_of}
use Rattle.sk_when.specs.declared.row.ConditionalRow.{ConditionalRow}
use Rattle.sk_when.specs.Lines.{IsMet, IsTold, told_of}
use Rattle.sk_arguments.specs.declared.naming.Naming.TheVariants.{Numbers}
use Rattle.sk_when.specs.Naming.{names_of}
use Rattle.sk_when.specs.WhenText.{row_text}

-- a line as it is read: its value, and the terms of its choices
pub record Read : Type 0 where
  pub value : Option ℕ
  pub terms : List (List Term)

abbrev pub read : Line → Read
read line = record { value = line.value; terms = terms_of line }

-- the row of number 39, which is getpid(2) on x86-64 and mkdir(2) on i386, with these lines; error 1 is what `else` tells
pub record IsRow (reads : List Read) (told : ConditionalRow) : Type 0 where
  pub first : told.row.first ≡ 39
  pub last : told.row.last ≡ 39
  pub lines : map read told.lines.items ≡ reads
  pub otherwise : told.otherwise ≡ Some 0x00050001

-- the lower half of the first argument is 7
abbrev pub is_seven : Term
is_seven = record { register = Argument 0; mask = 0xffffffff; first = 7; last = 7; inside = true }

abbrev pub where_seven : ℕ → Read
where_seven value = record { value = Some value; terms = (is_seven ∷ []) ∷ [] }

-- it is another number
abbrev pub is_another : Term
is_another = record is_seven { inside = false }

abbrev pub where_another : ℕ → Read
where_another value = record { value = Some value; terms = (is_another ∷ []) ∷ [] }

-- it is both, on no call
abbrev pub where_both : ℕ → Read
where_both value = record { value = Some value; terms = (is_seven ∷ []) ∷ (is_another ∷ []) ∷ [] }

-- a word that is compared again leaves one line; one that stands twice is wrong, and so is one of another verdict; no row of the
-- filter tells of any call that it is killed; a line that no call meets is wrong, though it tells nothing of any call, and so is an
-- `else` for no call
pub record RowsWork : Type 0 where
  pub one_line : (told : ConditionalRow) → IsRow (where_seven 0x7fff0000 ∷ []) told → IsTold (compares_again ∷ []) told
  pub text : (told : ConditionalRow) → IsRow (where_seven 0x7fff0000 ∷ []) told
      → row_text (names_of Numbers architecture.X86_64) told ≡ codes "39 getpid\n  allow where (args[0] & 0xffffffff) == 0x7\n  errno/1 EPERM else\n"
  pub elsewhere : (told : ConditionalRow) → IsRow (where_seven 0x7fff0000 ∷ []) told
      → row_text (names_of Numbers architecture.I386) told ≡ codes "39 mkdir\n  allow where (args[0] & 0xffffffff) == 0x7\n  errno/1 EPERM else\n"
  pub twice : (told : ConditionalRow) → IsRow (where_seven 0x7fff0000 ∷ where_seven 0x7fff0000 ∷ []) told → IsTold (compares_again ∷ []) told → ⊥
  pub no_line : (told : ConditionalRow) → IsRow [] told → IsTold (compares_again ∷ []) told → ⊥
  pub killed : (told : ConditionalRow) → IsRow (where_seven 0x00000000 ∷ []) told → IsTold (compares_again ∷ []) told → ⊥
  pub met : (told : ConditionalRow) → IsRow (where_seven 0x7fff0000 ∷ []) told → IsMet (compares_again ∷ []) told
  pub never_met : (told : ConditionalRow) → IsRow (where_seven 0x7fff0000 ∷ where_both 0x00000000 ∷ []) told → IsMet (compares_again ∷ []) told → ⊥
  pub never_else : (told : ConditionalRow) → IsRow (where_seven 0x7fff0000 ∷ where_another 0x00050001 ∷ []) told → IsMet (compares_again ∷ []) told → ⊥
  pub none_killed : (told : ConditionalRow) → IsTold (compares_again ∷ []) told
      → (call : Record) → IsCallOf told.row.first told.row.last call → told_of told call ≡ Some 0x00000000 ∷ [] → ⊥
