-- Worked examples of comparisons: calls as C writes them, and differences with verdicts by seccomp(2).
use Rattle.std.specs.Prelude.{ℕ, ◌≡◌, ◌++◌, List, [], ◌∷◌, codes, true, false}
use Rattle.sk_insn.specs.declared.insn.Insn.{Insn}
use Rattle.sk_insn.specs.declared.record.Record.{Record}
use Rattle.sk_insn.specs.Record.{native}
use Rattle.sk_names.specs.declared.architecture.Architecture.TheVariants as architecture
use Rattle.sk_arguments.specs.declared.naming.Naming.TheVariants.{Numbers, Constants}
use Rattle.sk_conditions.specs.declared.differences.Verdicts.{Verdicts}
use Rattle.sk_conditions.specs.declared.numbers.Numbers as range
use Rattle.sk_conditions.specs.declared.standing.Relation.{Relation}
use Rattle.sk_conditions.specs.declared.standing.Relation.TheVariants.{Same, AsStrict, Expected}
use Rattle.sk_when.specs.declared.piece.Calls.TheVariants.{Every}
use Rattle.sk_when.specs.declared.piece.Outcome.{Outcome}
use Rattle.sk_when.specs.declared.piece.Outcome.TheVariants.{Undecided, Apart}
use Rattle.sk_when.specs.declared.piece.Part.{Part}
use Rattle.sk_when.specs.declared.diff_text.Kind.TheVariants.{Looser, Stricter, Other}
use Rattle.sk_when.specs.declared.diff_text.Kind.TheVariants as kind
use Rattle.sk_when.specs.Naming.{names_of}
use Rattle.sk_when.specs.DiffText.{call_text, record_text, old_text, outcome_text, head_text, kind_of, is_kind, everywhere_text}
use Rattle.sk_when.specs.Pieces.{HoldsOf, shows_call, has_parts, meets_calls}

abbrev pub clone : Record
clone = native 56 0 (0x10000011 ∷ 0 ∷ 0 ∷ 0xffffffffffffffff ∷ 0 ∷ 1 ∷ [])

abbrev pub unnamed : Record
unnamed = native 4000 0x401000 (0 ∷ 0 ∷ 0 ∷ 0 ∷ 0 ∷ 0 ∷ [])

-- a call with a name, its first argument by constants, and a call without a name, which stands at an address; 56 is openat(2) on aarch64, and its record says aarch64
pub record CallsWork : Type 0 where
  pub named : call_text (names_of Numbers architecture.X86_64) clone ≡ codes "syscall(SYS_clone, 0x10000011, 0x0, 0x0, 0xffffffffffffffff, 0x0, 0x1)"
  pub with_constants : call_text (names_of Constants architecture.X86_64) clone ≡ codes "syscall(SYS_clone, SIGCHLD|CLONE_NEWUSER, 0x0, 0x0, 0xffffffffffffffff, 0x0, 0x1)"
  pub numbered : call_text (names_of Numbers architecture.X86_64) unnamed ≡ codes "syscall(4000, 0x0, 0x0, 0x0, 0x0, 0x0, 0x0) at 0x401000"
  pub elsewhere : record_text (names_of Numbers architecture.Aarch64) clone ≡
      codes "  record 38000000b70000c00000000000000000110000100000000000000000000000000000000000000000ffffffffffffffff00000000000000000100000000000000\n"
      ++ codes "  syscall(SYS_openat, 0x10000011, 0x0, 0x0, 0xffffffffffffffff, 0x0, 0x1)\n"

abbrev pub refused : Verdicts
refused = record { old = 0x7fff0000; new = 0x00050001 }

abbrev pub allowed : Verdicts
allowed = record { old = 0x00050001; new = 0x7fff0000 }

abbrev pub shows : Verdicts → Outcome
shows it = Apart it clone

-- what the old chain answers stands first; an error for a call that was allowed is stricter, and the other way round it is looser;
-- one error for another is neither, nor is the end of the process by an action that Linux does not know for its end by a kill
pub record DifferencesWork : Type 0 where
  pub verdicts : outcome_text Same (shows refused) ≡ codes "allow -> errno/1 EPERM"
  pub as_strict : outcome_text AsStrict (shows allowed) ≡ codes "errno/1 EPERM -> allow"
  pub unknown : outcome_text Same Undecided ≡ codes "undecided"
  pub stricter : kind_of Same (shows refused) ≡ Stricter
  pub logged : kind_of Same (shows (record refused { new = 0x7ffc0000 })) ≡ Stricter
  pub looser : kind_of Same (shows allowed) ≡ Looser
  pub looser_too : kind_of AsStrict (shows allowed) ≡ Looser
  pub neither : kind_of Same (shows (record refused { old = 0x00050026 })) ≡ Other
  pub ended : kind_of Same (shows (record { old = 0x80000000; new = 0x00010002 })) ≡ Other
  pub left_open : kind_of Same Undecided ≡ kind.Undecided
  pub told_apart : is_kind Looser Stricter ≡ false
  pub told_apart_too : is_kind Stricter Other ≡ false
  pub single : head_text architecture.X86_64 (record { first = 56; last = 56 }) ≡ codes "56 clone"
  pub several : head_text architecture.X86_64 (record { first = 462; last = 4294967295 }) ≡ codes "462-4294967295 -"

-- what is expected, and what comes of the call in its place
abbrev pub expects : ℕ → ℕ → Outcome
expects value verdict = shows (record { old = value; new = verdict })

-- by their words, and a verdict as it is written elsewhere; whatever was expected, a difference is of the one kind
pub record ExpectationsWork : Type 0 where
  pub refused : outcome_text Expected (expects 0x00010001 0x7fff0000) ≡ codes "expected refused -> allow"
  pub performed : outcome_text Expected (expects 0x00010002 0x00050001) ≡ codes "expected performed -> errno/1 EPERM"
  pub anything : old_text Expected 0x00010003 ≡ codes "expected anything"
  pub verdict : outcome_text Expected (expects 0x00050026 0x00050001) ≡ codes "expected errno/38 ENOSYS -> errno/1 EPERM"
  pub unknown : outcome_text Expected Undecided ≡ codes "undecided"
  pub looser : kind_of Expected (expects 0x00010001 0x7fff0000) ≡ Other
  pub stricter : kind_of Expected (expects 0x00010002 0x00050001) ≡ Other
  pub other_verdict : kind_of Expected (shows allowed) ≡ Other
  pub left_open : kind_of Expected Undecided ≡ kind.Undecided
  pub everywhere : everywhere_text Expected ≡ codes "as expected on every call\n"

abbrev pub untold : Part
untold = record { calls = Every; outcome = Undecided }

abbrev pub apart : Part
apart = record { calls = Every; outcome = shows refused }

-- the numbers of clone(2)
abbrev pub numbers : range.Numbers
numbers = record { first = 56; last = 56 }

-- a part that is decided has its call, which is no difference where the relation holds, and neither where it has another number
pub record PartsWork : Type 0 where
  pub unseen : shows_call untold ≡ false
  pub seen : shows_call apart ≡ true
  pub undecided : has_parts (untold ∷ []) ≡ true
  pub alike : has_parts [] ≡ false
  pub every : meets_calls Every clone ≡ true
  pub as_strict : (old new : List (List Insn)) → HoldsOf AsStrict old new numbers apart → ⊥
  pub elsewhere : (relation : Relation) (old new : List (List Insn)) → HoldsOf relation old new (record { first = 57; last = 58 }) apart → ⊥
