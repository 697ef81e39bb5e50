-- The rows of the code as rows of the definition.
use Rattle.std.specs.Prelude.{ℕ, ◌≡◌, ◌≤◌, ◌<◌, List, [], ◌∷◌, ◌++◌, ◌+◌, map, flat_map, All, length, Bool, true, Contains}
use Rattle.sk_insn.specs.declared.insn.Insn.{Insn}
use Rattle.sk_profile.specs.declared.condition.Condition.{Condition}
use Rattle.sk_profile.specs.declared.saying.Arm.{Arm as ArmOfCode}
use Rattle.sk_profile.specs.declared.saying.Saying.{Saying as SayingOfCode}
use Rattle.sk_profile.specs.declared.saying.Row.{Row as RowOfCode}
use Rattle.sk_profile.specs.Sayings.{Arm, Saying, are_apart, asks, Piece, arms_of, Shows, Tree}
use Rattle.sk_profile.specs.CodeRows.{Row, Cuts}
use Rattle.sk_profile.specs.Code.{high, piece_code, saying_code, place_of, far, tree_code, Section, guarded_code}
use Rattle.sk_profile.specs.Means.{IsPiece, IsTree, HasCode, IsSection}

abbrev pub arm_of : ArmOfCode → Arm
arm_of arm = record { conditions = arm.conditions.items; value = arm.value }

abbrev pub saying_of : SayingOfCode → Saying
saying_of saying = record { narrow = saying.narrow; arms = map arm_of saying.arms.items; otherwise = saying.otherwise }

abbrev pub row_of : RowOfCode → Row
row_of row = record { start = row.start; saying = saying_of row.saying }

-- conditions on the six arguments, each on one of its own
abbrev pub AreAsked : List Condition → Type 0
AreAsked conditions = All (λ (c : Condition). c.index < 6) conditions × (are_apart conditions ≡ true)

abbrev pub IsArmOfCode : ArmOfCode → Type 0
IsArmOfCode arm = AreAsked arm.conditions.items × (length arm.conditions.items ≤ 6)

abbrev pub IsSayingOfCode : SayingOfCode → Type 0
IsSayingOfCode saying = All IsArmOfCode saying.arms.items

abbrev pub IsRowOfCode : RowOfCode → Type 0
IsRowOfCode row = IsSayingOfCode row.saying

-- the number that the first condition has
abbrev pub number_in : List Condition → ℕ
number_in [] = 0
number_in (c ∷ conditions) = c.value

abbrev pub asked_for : ArmOfCode → ℕ
asked_for arm = number_in arm.conditions.items

-- an arm that asks an argument for a number with this upper half
pub record Asks (index value upper : ℕ) (arm : ArmOfCode) : Type 0 where
  pub is : arm_of arm ≡ asks index value (asked_for arm)
  pub upper_half : high (asked_for arm) ≡ upper

-- the code of a piece that has these arms stands behind what stood there
pub record PutsPiece (narrow : Bool) (old new : List Insn) (arms : List Arm) : Type 0 where
  pub piece : Piece
  pub code : new ≡ old ++ piece_code narrow piece
  pub has : arms_of piece ≡ arms
  pub good : IsPiece narrow piece

-- and that of pieces
pub record PutsPieces (narrow : Bool) (old new : List Insn) (arms : List Arm) : Type 0 where
  pub pieces : List Piece
  pub code : new ≡ old ++ flat_map (piece_code narrow) pieces
  pub has : flat_map arms_of pieces ≡ arms
  pub good : All (IsPiece narrow) pieces

-- and of what is said of a number
pub record PutsSaying (old new : List Insn) (saying : Saying) : Type 0 where
  pub pieces : List Piece
  pub code : new ≡ old ++ saying_code saying.narrow pieces saying.otherwise
  pub shows : Shows saying.narrow pieces saying.otherwise saying
  pub good : All (IsPiece saying.narrow) pieces

-- each row starts at no lower number than those before it
abbrev pub AreRising : List RowOfCode → Type 0
AreRising [] = Unit {0}
AreRising (row ∷ rows) = All (λ (other : RowOfCode). row.start ≤ other.start) rows × AreRising rows

-- what rows owe, with what is said below the first of them
pub record AreRows (before : SayingOfCode) (rows : List RowOfCode) : Type 0 where
  pub below : IsSayingOfCode before
  pub each : All IsRowOfCode rows
  pub rising : AreRising rows

-- a tree that cuts the rows, before values that stand so many instructions behind it
pub record CutsRows (values : List ℕ) (before : SayingOfCode) (rows : List RowOfCode) (tree : Tree) : Type 0 where
  pub cuts : Cuts tree (saying_of before) (map row_of rows)
  pub good : IsTree values tree

-- one whose code, with what stands behind it, has more instructions than a filter may have
pub record IsOverlong (values : List ℕ) (behind : ℕ) (before : SayingOfCode) (rows : List RowOfCode) : Type 0 where
  pub tree : Tree
  pub is : CutsRows values before rows tree
  pub long : 4096 < length (tree_code values tree behind) + (behind + length values)

-- rows of one value, which stands among those behind the tree, and so far behind their place
pub record IsAway (values : List ℕ) (behind : ℕ) (before : SayingOfCode) (rows : List RowOfCode) (begins : ℕ) : Type 0 where
  pub no_rows : rows ≡ []
  pub no_arms : before.arms.items ≡ []
  pub there : Contains values before.otherwise
  pub reached : begins ≡ behind + place_of before.otherwise values
  pub near : begins ≤ behind + length values

-- the code of such a tree, which begins so far behind
pub record IsSideOf (values : List ℕ) (behind : ℕ) (before : SayingOfCode) (rows : List RowOfCode) (code : List Insn) (begins : ℕ) : Type 0 where
  pub tree : Tree
  pub is : CutsRows values before rows tree
  pub written : code ≡ tree_code values tree behind
  pub reached : begins ≡ far values tree behind

-- and of one that begins where it stands
pub record IsTreeOf (values : List ℕ) (behind : ℕ) (before : SayingOfCode) (rows : List RowOfCode) (code : List Insn) : Type 0 where
  pub tree : Tree
  pub is : CutsRows values before rows tree
  pub has : HasCode tree
  pub written : code ≡ tree_code values tree behind

-- a section that says what rows say, with no more values than there are sayings
pub record IsSectionFor (audit : ℕ) (before : SayingOfCode) (rows : List RowOfCode) (section : Section) : Type 0 where
  pub named : section.audit ≡ audit
  pub good : IsSection section
  pub is : CutsRows section.values before rows section.tree
  pub brief : length section.values ≤ 1 + length rows

-- its code stands behind what stood there
pub record PutsSection (old new : List Insn) (audit : ℕ) (before : SayingOfCode) (rows : List RowOfCode) : Type 0 where
  pub section : Section
  pub says : IsSectionFor audit before rows section
  pub code : new ≡ old ++ guarded_code section

-- one has more instructions than a filter may have
pub record IsLongSection (audit : ℕ) (before : SayingOfCode) (rows : List RowOfCode) : Type 0 where
  pub section : Section
  pub says : IsSectionFor audit before rows section
  pub long : 4096 < length (guarded_code section)
