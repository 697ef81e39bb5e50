-- What `ask lint` notes of a chain's tests: those of registers that are no argument, of arguments that another one decides, and of
-- addresses, whose memory a filter cannot look at. These are no faults.
use Rattle.std.specs.Prelude.{ℕ, ◌≡◌, ◌+◌, ◌*◌, ◌==◌, ◌&&◌, ◌||◌, ◌++◌, not, Bool, true, false, if◌then◌else◌, List, [], ◌∷◌, codes, flat_map, Option, Some, None}
use Rattle.std.specs.List.{All, range_with_len}
use Rattle.std.specs.Option.{option_map, option_map_or}
use Rattle.std.specs.Fmt.{decimal}
use Rattle.sk_arguments.specs.declared.kinds.Kind.{Kind}
use Rattle.sk_arguments.specs.declared.kinds.Kind.TheVariants as kind
use Rattle.sk_arguments.specs.Reading.{decided_by, kind_of}
use Rattle.sk_insn.specs.declared.insn.Insn.{Insn}
use Rattle.sk_conditions.specs.declared.test.Test.{Test}
use Rattle.sk_conditions.specs.declared.tree.Tree.{Tree}
use Rattle.sk_conditions.specs.declared.tree.Tree.TheVariants.{Is, Untold, Ask'}
use Rattle.sk_conditions.specs.Conditions.{TellsVerdict}
use Rattle.sk_conditions.specs.Followed.{AreFollowed, TellsAll}
use Rattle.sk_when.specs.declared.lint_notes.Note.{Note}
use Rattle.sk_when.specs.declared.lint_notes.Note.TheVariants.{Absent, Decided, Pointer}
use Rattle.sk_when.specs.DiffText.{head_text}
use Rattle.sk_when.specs.Lint.{named_by}

-- ---- which tests are noted

abbrev pub address_or : Option ℕ → Note
address_or (Some decider) = Decided decider
address_or None = Pointer

-- what is to be noted of an argument that is tested, if it is to be
abbrev pub note_by : Kind → Option ℕ → Option Note
note_by kind.Absent decider = Some Absent
note_by kind.Pointer decider = Some (address_or decider)
note_by kind decider = option_map Decided decider

abbrev pub note_of : ℕ → ℕ → Option Note
note_of nr i = note_by (kind_of nr i) (decided_by nr i)

-- a test looks at a word of an argument
abbrev pub looks_at : ℕ → Test → Bool
looks_at i test = (test.place == 16 + 8 * i) || (test.place == 20 + 8 * i)

-- it compares all bits of the word with 0, as a test for NULL does
abbrev pub is_of_zero : Test → Bool
is_of_zero test = (test.mask == 0xffffffff) && (test.k == 0)

abbrev pub is_pointer : Note → Bool
is_pointer Pointer = true
is_pointer other = false

-- a test is to be noted so; that an address is 0 may be tested
abbrev pub calls_for : Note → ℕ → Test → Bool
calls_for note i test = looks_at i test && not (is_pointer note && is_of_zero test)

-- some test of a tree is
abbrev pub tree_calls_for : Note → ℕ → Tree → Bool
tree_calls_for note i (Is value) = false
tree_calls_for note i Untold = false
tree_calls_for note i (Ask' test p held q failed) = calls_for note i test || (tree_calls_for note i held || tree_calls_for note i failed)

-- ---- how they are written

unfoldable pub argument_name_text : ℕ → List ℕ
argument_name_text i = codes "args[" ++ (decimal i ++ codes "]")

abbrev pub decided_text : ℕ → List ℕ
decided_text decider = codes " is read for some values of " ++ (argument_name_text decider ++ codes " alone\n")

abbrev pub said_text : Note → List ℕ
said_text Absent = codes " is no argument\n"
said_text Pointer = codes " is a pointer: what it points to is not looked at\n"
said_text (Decided decider) = decided_text decider

unfoldable pub note_text : ℕ → ℕ → Note → List ℕ
note_text nr i note =
    head_text (named_by nr) (record { first = nr; last = nr }) ++ (codes ": " ++ (argument_name_text i ++ said_text note))

abbrev pub noted_text : ℕ → Tree → ℕ → Note → List ℕ
noted_text nr tree i note = if tree_calls_for note i tree then note_text nr i note else []

unfoldable pub argument_notes : ℕ → Tree → ℕ → List ℕ
argument_notes nr tree i = option_map_or (noted_text nr tree i) (note_of nr i) []

-- those of one number
unfoldable pub notes_of : ℕ → Tree → List ℕ
notes_of nr tree = flat_map (argument_notes nr tree) (range_with_len 0 6)

-- they are those of a tree that tells the chain's verdicts on the calls with the number, and all of them where the filters are followed
-- and the steps of no number were spent
pub record IsNotedTree (programs : List (List Insn)) (is_spent : Bool) (nr : ℕ) (tree : Tree) : Type 0 where
  pub tells : TellsVerdict programs nr nr tree
  pub all : All AreFollowed programs → is_spent ≡ false → TellsAll tree

abbrev pub AreNotesOf : List (List Insn) → Bool → ℕ → List ℕ → Type 0
AreNotesOf programs is_spent nr text = (tree : Tree) × IsNotedTree programs is_spent nr tree × (text ≡ notes_of nr tree)

-- so are those of some numbers, one behind another
abbrev pub AreNotes : List (List Insn) → Bool → List ℕ → List ℕ → Type 0
AreNotes programs is_spent [] text = text ≡ []
AreNotes programs is_spent (nr ∷ numbers) text =
    (first rest : List ℕ) × AreNotesOf programs is_spent nr first × AreNotes programs is_spent numbers rest × (text ≡ first ++ rest)
