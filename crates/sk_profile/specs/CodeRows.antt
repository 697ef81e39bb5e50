-- Rows: what is said from each number on, up to the next row's.
use Rattle.std.specs.Prelude.{ℕ, ◌≡◌, ◌≤◌, nat_le, false, if◌then◌else◌, List, [], ◌∷◌, ◌++◌, All}
use Rattle.sk_insn.specs.declared.record.Record.{Record}
use Rattle.sk_profile.specs.Sayings.{Saying, Tree, Leaf, Away, Fork, Shows, said, saying_at}

pub record Row : Type 0 where
  pub start : ℕ
  pub saying : Saying

-- what rows say of a number, where this is said below the first of them
abbrev pub saying_in : List Row → Saying → ℕ → Saying
saying_in [] before nr = before
saying_in (row ∷ rows) before nr = if nat_le row.start nr then saying_in rows row.saying nr else before

-- the tree cuts the rows in two at one of them, and each part again, and shows in pieces what is left: at which it cuts
-- is free, and so are the pieces
abbrev pub Cuts : Tree → Saying → List Row → Type 0
Cuts (Leaf narrow pieces otherwise) before rows = (rows ≡ []) × Shows narrow pieces otherwise before
Cuts (Away value) before rows = (rows ≡ []) × Shows false [] value before
Cuts (Fork number below above) before rows =
    (left : List Row) × (middle : Row) × (right : List Row) × (rows ≡ left ++ middle ∷ right) × (middle.start ≡ number)
    × All (λ (row : Row). row.start ≤ number) left × Cuts below before left × Cuts above middle.saying right

-- wherever it cuts, a tree says what the rows say
abbrev pub CutsSayTheSame : Type 0
CutsSayTheSame =
    (tree : Tree) (before : Saying) (rows : List Row) → Cuts tree before rows → (nr : ℕ) (call : Record) → said (saying_at tree nr) call ≡ said (saying_in rows before nr) call
