-- What a comparison of two chains tells, as a document.
use Rattle.std.specs.Prelude.{ℕ, ◌++◌, List, codes, flat_map}
use Rattle.json.specs.Token.{Token}
use Rattle.sk_conditions.specs.declared.numbers.Numbers.{Numbers}
use Rattle.sk_conditions.specs.declared.standing.Relation.{Relation}
use Rattle.sk_conditions.specs.declared.standing.Relation.TheVariants.{Same, AsStrict, Expected}
use Rattle.sk_when.specs.declared.diff_engine.Finding.{Finding}
use Rattle.sk_when.specs.declared.diff_text.Kind.{Kind}
use Rattle.sk_when.specs.declared.diff_text.Kind.TheVariants.{Looser, Stricter, Other, Undecided}
use Rattle.sk_when.specs.declared.names.Names.{Names}
use Rattle.sk_when.specs.declared.piece.Part.{Part}
use Rattle.sk_when.specs.declared.piece.Piece.{Piece}
use Rattle.sk_when.specs.DiffText.{kind_of}
use Rattle.sk_document.specs.Documents.{array, document, object, string_at, word_at}
use Rattle.sk_document.specs.Numbers.{architecture_at, numbers}
use Rattle.sk_document.specs.Differences.{difference, differences_name, holds_at}

-- what the new verdicts are asked to be to the old ones
abbrev pub relation_word : Relation → List ℕ
relation_word Same = codes "same"
relation_word AsStrict = codes "as strict"
relation_word Expected = codes "as expected"

-- the kinds of differences, as their headings say them
abbrev pub kind_word : Kind → List ℕ
kind_word Looser = codes "looser"
kind_word Stricter = codes "stricter"
kind_word Other = codes "other"
kind_word Undecided = codes "undecided"

-- the relation as a member
unfoldable pub relation_at : Relation → List Token
relation_at relation = string_at (codes "relation") (relation_word relation)

-- the kind as a member
unfoldable pub kind_at : Kind → List Token
kind_at kind = string_at (codes "kind") (kind_word kind)

-- one difference: numbers, its kind, and what is told of it
unfoldable pub comparison_part : Relation → Names → Numbers → Part → List Token
comparison_part relation names its part =
    object (numbers names.architecture its.first its.last
    ++ (kind_at (kind_of relation part.outcome) ++ difference relation names its part))

-- the differences of a piece in their order
unfoldable pub comparison_piece : Relation → Names → Piece → List Token
comparison_piece relation names piece = flat_map (comparison_part relation names piece.numbers) piece.parts.items

-- those of all pieces in their order
unfoldable pub comparison_pieces : Relation → Names → List Piece → List Token
comparison_pieces relation names pieces = differences_name ++ array (flat_map (comparison_piece relation names) pieces)

-- a comparison by the word that was asked
unfoldable pub comparison_tokens : List ℕ → Names → Relation → Finding → List Piece → List Token
comparison_tokens word names relation finding pieces =
    object (word_at word
    ++ (architecture_at names.architecture ++ (relation_at relation ++ (holds_at finding ++ comparison_pieces relation names pieces))))

-- the text of that
abbrev pub comparison_document : List ℕ → Names → Relation → Finding → List Piece → List ℕ
comparison_document word names relation finding pieces = document (comparison_tokens word names relation finding pieces)
