-- Worked examples of what is drawn and written: a colour for each action of seccomp(2), differences in their order, and what is
-- found of several pieces.
use Rattle.std.specs.Prelude.{ℕ, ◌≡◌, ◌++◌, List, [], ◌∷◌, codes, map}
use Rattle.sk_insn.specs.declared.action.Action.TheVariants.{KillProcess, KillThread, Trap, Errno, UserNotif, Trace, Log, Allow, Unknown}
use Rattle.sk_names.specs.declared.architecture.Architecture.TheVariants as architecture
use Rattle.sk_conditions.specs.declared.standing.Relation.TheVariants.{Same, AsStrict, Expected}
use Rattle.sk_when.specs.declared.diff_engine.Finding.TheVariants as finding
use Rattle.sk_when.specs.declared.piece.Calls.TheVariants.{Every}
use Rattle.sk_when.specs.declared.piece.Outcome.TheVariants.{Undecided}
use Rattle.sk_when.specs.declared.piece.Part.{Part}
use Rattle.sk_when.specs.declared.piece.Piece.{Piece}
use Rattle.sk_arguments.specs.declared.naming.Naming.TheVariants.{Numbers}
use Rattle.sk_when.specs.Naming.{names_of}
use Rattle.sk_when.specs.declared.names.Names.{Names}
use Rattle.sk_when.specs.DiffText.{differences_text, record_text}
use Rattle.sk_when.specs.Picture.{colour_of}
use Rattle.sk_when.specs.Pieces.{finding_of}
use Rattle.sk_when.specs.WorkedDiffs.{clone, refused, allowed, expects, shows}

-- whether the process goes on with its call done: it does after `log` too; a kill of any kind, and what Linux takes for one; and
-- what else may become of a call
pub record ColoursWork : Type 0 where
  pub runs : map colour_of (Allow ∷ Log ∷ []) ≡ codes "palegreen" ∷ codes "palegreen" ∷ []
  pub kills : map colour_of (KillProcess ∷ KillThread ∷ Unknown ∷ []) ≡ codes "salmon" ∷ codes "salmon" ∷ codes "salmon" ∷ []
  pub others : map colour_of (Trap ∷ Errno ∷ UserNotif ∷ Trace ∷ []) ≡ codes "khaki" ∷ codes "khaki" ∷ codes "khaki" ∷ codes "khaki" ∷ []

abbrev pub undecided : Part
undecided = record { calls = Every; outcome = Undecided }

abbrev pub stricter : Part
stricter = record { calls = Every; outcome = shows refused }

abbrev pub looser : Part
looser = record { calls = Every; outcome = shows allowed }

-- one error for another
abbrev pub otherwise : Part
otherwise = record { calls = Every; outcome = shows (record refused { old = 0x00050026 }) }

-- the call is let through, and is expected to be refused
abbrev pub unexpected : Part
unexpected = record { calls = Every; outcome = expects 0x00010001 0x7fff0000 }

-- the piece of clone(2) with these parts
pub record HasParts (parts : List Part) (piece : Piece) : Type 0 where
  pub first : piece.numbers.first ≡ 56
  pub last : piece.numbers.last ≡ 56
  pub items : piece.parts.items ≡ parts

abbrev pub names : Names
names = names_of Numbers architecture.X86_64

-- the line of verdicts on clone(2), maybe with a heading above it, and the call below it
abbrev pub told : List ℕ → List ℕ
told line = line ++ record_text names clone

-- calls that are let through now stand before all others, then those that are refused now, then those with another error, and what
-- is undecided stands last; the heading of each kind stands once, whatever pieces its differences are of, and where there are some;
-- there is none above what is not as expected
pub record OrderWorks : Type 0 where
  pub all : (one other : Piece) → HasParts (undecided ∷ otherwise ∷ stricter ∷ []) one → HasParts (stricter ∷ looser ∷ []) other
      → differences_text Same names (one ∷ other ∷ [])
      ≡ told (codes "looser:\n56 clone: errno/1 EPERM -> allow\n")
      ++ (told (codes "stricter:\n56 clone: allow -> errno/1 EPERM\n") ++ (told (codes "56 clone: allow -> errno/1 EPERM\n")
      ++ (told (codes "other:\n56 clone: errno/38 ENOSYS -> errno/1 EPERM\n") ++ codes "undecided:\n56 clone: undecided\n")))
  pub as_strict : (piece : Piece) → HasParts (looser ∷ []) piece
      → differences_text AsStrict names (piece ∷ []) ≡ told (codes "looser:\n56 clone: errno/1 EPERM -> allow\n")
  pub expected : (piece : Piece) → HasParts (undecided ∷ unexpected ∷ []) piece
      → differences_text Expected names (piece ∷ [])
      ≡ told (codes "56 clone: expected refused -> allow\n") ++ codes "56 clone: undecided\n"

-- one call that is shown is enough for a difference, whatever is undecided before or behind it
pub record FindingsWork : Type 0 where
  pub behind : (one other : Piece) → HasParts (undecided ∷ []) one → HasParts (looser ∷ []) other → finding_of (one ∷ other ∷ []) ≡ finding.Fails
  pub before : (one other : Piece) → HasParts (looser ∷ []) one → HasParts (undecided ∷ []) other → finding_of (one ∷ other ∷ []) ≡ finding.Fails
  pub beside : (piece : Piece) → HasParts (undecided ∷ looser ∷ []) piece → finding_of (piece ∷ []) ≡ finding.Fails
  pub unseen : (piece : Piece) → HasParts (undecided ∷ []) piece → finding_of (piece ∷ []) ≡ finding.Undecided
  pub left_open : (one other : Piece) → HasParts [] one → HasParts (undecided ∷ []) other → finding_of (one ∷ other ∷ []) ≡ finding.Undecided
  pub none : (one other : Piece) → HasParts [] one → HasParts [] other → finding_of (one ∷ other ∷ []) ≡ finding.Holds
