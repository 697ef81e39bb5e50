-- What `ask lint` tells, as a document.
use Rattle.std.specs.Prelude.{ℕ, ◌++◌, List, [], codes, flat_map}
use Rattle.json.specs.Token.{Token}
use Rattle.sk_insn.specs.declared.record.Record.{Record}
use Rattle.sk_arguments.specs.declared.naming.Naming.{Naming}
use Rattle.sk_conditions.specs.declared.numbers.Numbers.{Numbers}
use Rattle.sk_conditions.specs.declared.standing.Relation.TheVariants.{Same}
use Rattle.sk_survey.specs.Taken.{taken_as}
use Rattle.sk_when.specs.declared.concern.Concern.{Concern}
use Rattle.sk_when.specs.declared.concern.Concern.TheVariants as concern
use Rattle.sk_when.specs.declared.diff_engine.Finding.{Finding}
use Rattle.sk_when.specs.declared.names.Names.{Names}
use Rattle.sk_when.specs.declared.piece.Outcome.{Outcome}
use Rattle.sk_when.specs.declared.piece.Outcome.TheVariants.{Undecided, Apart}
use Rattle.sk_when.specs.declared.piece.Part.{Part}
use Rattle.sk_when.specs.declared.piece.Piece.{Piece}
use Rattle.sk_when.specs.Lint.{concern_of, lint_names}
use Rattle.sk_document.specs.Documents.{array, at, document, none, object, string_at, word_at}
use Rattle.sk_document.specs.Numbers.{architecture_at, numbers}
use Rattle.sk_document.specs.Calls.{call}
use Rattle.sk_document.specs.Differences.{difference, differences_name, holds_at}

-- what a part is to `ask lint`
abbrev pub concern_word : Concern → List ℕ
concern_word concern.Looser = codes "looser"
concern_word concern.Signed = codes "signed"
concern_word concern.Undecided = codes "undecided"
concern_word concern.Stricter = codes "stricter"

-- the same as a member
unfoldable pub concern_at : Concern → List Token
concern_at it = string_at (codes "concern") (concern_word it)

-- what Linux takes the call for that is shown
abbrev pub taken : Naming → Outcome → List Token
taken naming Undecided = none
taken naming (Apart it shown) = call (lint_names naming shown.nr) (taken_as shown)

-- that call as a member
unfoldable pub taken_at : Naming → Outcome → List Token
taken_at naming outcome = at (codes "taken") ++ taken naming outcome

-- what else is said of the call
abbrev pub remarked : (Record → List ℕ) → Outcome → List ℕ
remarked remark Undecided = []
remarked remark (Apart it shown) = remark shown

-- what is said of it, as a member
unfoldable pub remark_at : List ℕ → List Token
remark_at text = string_at (codes "remark") text

-- the numbers, and by whose names they are told
unfoldable pub lint_numbers : Names → Numbers → List Token
lint_numbers names its = numbers names.architecture its.first its.last ++ architecture_at names.architecture

-- one part: numbers, what it is to `ask lint`, and what is told of it
unfoldable pub named_part : Names → (Record → List ℕ) → Numbers → Part → List Token
named_part names remark its part =
    object (lint_numbers names its
    ++ (concern_at (concern_of part)
    ++ (difference Same names its part ++ (taken_at names.naming part.outcome ++ remark_at (remarked remark part.outcome)))))

-- the same by the names of its numbers
unfoldable pub lint_part : Naming → (Record → List ℕ) → Numbers → Part → List Token
lint_part naming remark its part = named_part (lint_names naming its.first) remark its part

-- the parts of a piece in their order
unfoldable pub lint_piece : Naming → (Record → List ℕ) → Piece → List Token
lint_piece naming remark piece = flat_map (lint_part naming remark piece.numbers) piece.parts.items

-- those of all pieces in their order
unfoldable pub lint_pieces : Naming → (Record → List ℕ) → List Piece → List Token
lint_pieces naming remark pieces = differences_name ++ array (flat_map (lint_piece naming remark) pieces)

-- all parts, and whether there is nothing to be told of
unfoldable pub lint_tokens : Naming → (Record → List ℕ) → Finding → List Piece → List Token
lint_tokens naming remark finding pieces =
    object (word_at (codes "lint") ++ (holds_at finding ++ lint_pieces naming remark pieces))

-- the text of that
abbrev pub lint_document : Naming → (Record → List ℕ) → Finding → List Piece → List ℕ
lint_document naming remark finding pieces = document (lint_tokens naming remark finding pieces)
