-- Wherever a tree cuts, it says what the rows say.
use Rattle.std.proofs.Common.{◌≡◌, ℕ, ◌≤◌, Bool, true, false, if◌then◌else◌, nat_le, List, [], ◌∷◌, ◌++◌, flat_map, refl, ap, sym, ◌∙◌, subst, arith}
use Rattle.std.specs.Prelude.{All}
use Rattle.std.proofs.lemmas.Bool.{leb-true, le-leb}
use Rattle.std.proofs.lemmas.List.Elements.{All-head, All-tail}
use Rattle.sk_profile.specs.Sayings.{Arm, arms_of, Saying, said, Piece, saying_of_pieces, Shows, AlwaysSays, IsBare, Tree, Leaf, Away, Fork, saying_at}
use Rattle.sk_profile.specs.CodeRows.{Row, saying_in, Cuts, CutsSayTheSame}

-- rows from a number on say nothing of lower numbers
below_them : (left : List Row) (middle : Row) (right : List Row) (before : Saying) (nr : ℕ) → nat_le middle.start nr ≡ false
    → saying_in (left ++ middle ∷ right) before nr ≡ saying_in left before nr
below_them [] middle right before nr e = ap (λ b. if b then saying_in right middle.saying nr else before) e
below_them (row ∷ left) middle right before nr e =
    ap (λ s. if nat_le row.start nr then s else before) (below_them left middle right row.saying nr e)

-- rows up to a number say nothing of higher numbers
beyond_them : (left : List Row) (middle : Row) (right : List Row) (before : Saying) (nr : ℕ) → All (λ (row : Row). row.start ≤ nr) left → middle.start ≤ nr
    → saying_in (left ++ middle ∷ right) before nr ≡ saying_in right middle.saying nr
beyond_them [] middle right before nr all h = ap (λ b. if b then saying_in right middle.saying nr else before) (le-leb middle.start nr h)
beyond_them (row ∷ left) middle right before nr all h =
    ap (λ b. if b then saying_in (left ++ middle ∷ right) row.saying nr else before) (le-leb row.start nr (All-head (λ (row : Row). row.start ≤ nr) row left all))
    ∙ beyond_them left middle right row.saying nr (All-tail (λ (row : Row). row.start ≤ nr) row left all) h

up_to : (left : List Row) (number nr : ℕ) → All (λ (row : Row). row.start ≤ number) left → number ≤ nr → All (λ (row : Row). row.start ≤ nr) left
up_to left number nr all h = Rattle.std.proofs.lemmas.List.Elements.All-weaker (λ (row : Row). row.start ≤ number) (λ (row : Row). row.start ≤ nr) (λ row le. omega (arith, le, h)) left all

module _ (Q : Saying → Saying → Type 0) (at_leaf : (narrow : Bool) (pieces : List Piece) (otherwise : ℕ) (saying : Saying) → Shows narrow pieces otherwise saying → Q (saying_of_pieces narrow pieces otherwise) saying) where
  either_side : (b : Bool) (number nr : ℕ) (up down whole : Saying) → nat_le number nr ≡ b → (number ≤ nr → Q up whole) → (nat_le number nr ≡ false → Q down whole)
      → Q (if b then up else down) whole
  either_side true number nr up down whole e above below = above (leb-true number nr e)
  either_side false number nr up down whole e above below = below e

  -- what is so of each leaf and what it shows is so of the tree and the rows
  at_number : (tree : Tree) (before : Saying) (rows : List Row) → Cuts tree before rows → (nr : ℕ) → Q (saying_at tree nr) (saying_in rows before nr)
  at_number (Leaf narrow pieces otherwise) before rows cuts nr =
      subst (λ rows. Q (saying_of_pieces narrow pieces otherwise) (saying_in rows before nr)) (sym cuts.0) (at_leaf narrow pieces otherwise before cuts.1)
  at_number (Away value) before rows cuts nr =
      subst (λ rows. Q (saying_of_pieces false [] value) (saying_in rows before nr)) (sym cuts.0) (at_leaf false [] value before cuts.1)
  at_number (Fork number below above) before rows cuts nr =
      let left = cuts.0 in
      let middle = cuts.1 in
      let right = cuts.2 in
      let whole : saying_in (left ++ middle ∷ right) before nr ≡ saying_in rows before nr = ap (λ rows. saying_in rows before nr) (sym cuts.3) in
      either_side (nat_le number nr) number nr (saying_at above nr) (saying_at below nr) (saying_in rows before nr) refl
      (λ h. subst (Q (saying_at above nr)) (sym (beyond_them left middle right before nr (up_to left number nr cuts.5 h) (omega (arith, cuts.4, h))) ∙ whole)
      (at_number above middle.saying right cuts.7 nr))
      (λ e. subst (Q (saying_at below nr)) (sym (below_them left middle right before nr (ap (λ n. nat_le n nr) cuts.4 ∙ e)) ∙ whole)
      (at_number below before left cuts.6 nr))

pub cuts_say_the_same : CutsSayTheSame
cuts_say_the_same tree before rows cuts nr call =
    at_number (λ one other. said one call ≡ said other call) (λ narrow pieces otherwise saying shows. shows.same call) tree before rows cuts nr

-- where the rows always say a value, the tree asks for nothing
pub asks_nothing : (tree : Tree) (before : Saying) (rows : List Row) → Cuts tree before rows → (nr value : ℕ) → AlwaysSays value (saying_in rows before nr)
    → IsBare value (saying_at tree nr)
asks_nothing tree before rows cuts nr value =
    at_number (λ one other. AlwaysSays value other → IsBare value one)
    (λ narrow pieces otherwise saying shows always.
    let all = subst (λ v. All (λ (arm : Arm). arm.value ≡ v) saying.arms) (sym always.1) always.0 in
    (ap (λ pieces. flat_map arms_of pieces) (shows.none all), shows.left ∙ always.1))
    tree before rows cuts nr
