-- The values of the lines that a call meets.
use Rattle.std.proofs.Common.{◌≡◌, ℕ, zero, suc, ◌<◌, ◌≤◌, ◌||◌, Bool, true, false, if◌then◌else◌, List, [], ◌∷◌, ◌++◌, length, get_or, Option, sym, ap, subst, ◌∙◌, refl, arith, append_assoc, append-nil, length-append}
use Rattle.std.specs.List.{remove}
use Rattle.sk_insn.specs.declared.record.Record.{Record}
use Rattle.sk_terms.specs.declared.lines.LeftOut.{LeftOut}
use Rattle.sk_terms.specs.declared.lines.LeftOut.TheVariants.{Nothing, End}
use Rattle.sk_terms.specs.declared.lines.Line.{Line}
use Rattle.sk_terms.specs.Lines.{meets_line, told_by, told_alone, shown, same_end}

pub told_cons : (line : Line) (rest : List Line) (call : Record) → told_by (line ∷ rest) call ≡ told_alone line call ++ told_by rest call
told_cons line rest call = by_test (meets_line line call) refl where
  by_test : (b : Bool) → meets_line line call ≡ b → told_by (line ∷ rest) call ≡ told_alone line call ++ told_by rest call
  by_test true e = rw e refl
  by_test false e = rw e refl

pub told_append : (xs ys : List Line) (call : Record) → told_by (xs ++ ys) call ≡ told_by xs call ++ told_by ys call
told_append [] ys call = refl
told_append (x ∷ xs) ys call =
    told_cons x (xs ++ ys) call
    ∙ ap (λ r. told_alone x call ++ r) (told_append xs ys call)
    ∙ sym (append_assoc (told_alone x call) (told_by xs call) (told_by ys call))
    ∙ ap (λ r. r ++ told_by ys call) (sym (told_cons x xs call))

parts_at : {X : Type 0} → (xs : List X) (i : ℕ) (d : X) → i < length xs
    → (before : List X) × (after : List X) × (xs ≡ before ++ get_or xs i d ∷ after) × (remove xs i ≡ before ++ after)
parts_at [] i d less = absurd (omega arith)
parts_at (x ∷ xs) zero d less = ([], xs, refl, refl)
parts_at (x ∷ xs) (suc i) d less =
    let p = parts_at xs i d (omega arith) in (x ∷ p.0, p.1, ap (λ l. x ∷ l) p.2, ap (λ l. x ∷ l) p.3)

abbrev alone : Bool → Option ℕ → List (Option ℕ)
alone b v = if b then v ∷ [] else []

-- of two lines one at most is met: the other one's place may stay empty
in_place_of : (a b : List (Option ℕ)) (v : Option ℕ) (first last : Bool) → length ((a ++ (alone first v ++ b)) ++ alone last v) ≤ 1
    → (a ++ b) ++ alone (first || last) v ≡ (a ++ (alone first v ++ b)) ++ alone last v
in_place_of a b v false last once = refl
in_place_of [] [] v true false once = refl
in_place_of [] (x ∷ b) v true false once = absurd (omega (arith, length-append b []))
in_place_of (x ∷ a) b v true false once =
    let e = length-append (a ++ v ∷ b) [] in let f = length-append a (v ∷ b) in absurd (omega (arith, once, e, f))
in_place_of a b v true true once =
    let e = length-append (a ++ v ∷ b) (v ∷ []) in let f = length-append a (v ∷ b) in absurd (omega (arith, once, e, f))

-- a line that is met where one of two is takes the place of both
pub told_together : (old kept : List Line) (at : ℕ) (line other joined : Line) (call : Record) → at < length old → kept ≡ remove old at
    → other ≡ get_or old at other → other.value ≡ line.value → joined.value ≡ other.value
    → meets_line joined call ≡ (meets_line other call || meets_line line call)
    → length (told_by old call ++ told_alone line call) ≤ 1
    → told_by kept call ++ told_alone joined call ≡ told_by old call ++ told_alone line call
told_together old kept at line other joined call less is there same value met once =
    let p = parts_at old at other less in
    let whole : told_by old call ≡ told_by p.0 call ++ (alone (meets_line other call) line.value ++ told_by p.1 call) =
    ap (λ xs. told_by xs call) (p.2 ∙ ap (λ o. p.0 ++ o ∷ p.1) (sym there))
    ∙ told_append p.0 (other ∷ p.1) call
    ∙ ap (λ r. told_by p.0 call ++ r) (told_cons other p.1 call ∙ ap (λ v. alone (meets_line other call) v ++ told_by p.1 call) same) in
    let its : told_alone joined call ≡ alone (meets_line other call || meets_line line call) line.value =
    ap (λ b. alone b joined.value) met ∙ ap (λ v. alone (meets_line other call || meets_line line call) v) (value ∙ same) in
    let short = subst (λ xs. length (xs ++ told_alone line call) ≤ 1) whole once in
    ap (λ xs. told_by xs call ++ told_alone joined call) (is ∙ p.3)
    ∙ ap (λ xs. xs ++ told_alone joined call) (told_append p.0 p.1 call)
    ∙ ap (λ xs. (told_by p.0 call ++ told_by p.1 call) ++ xs) its
    ∙ in_place_of (told_by p.0 call) (told_by p.1 call) line.value (meets_line other call) (meets_line line call) short
    ∙ ap (λ xs. xs ++ told_alone line call) (sym whole)

pub one_line_more : (all merged next left rest single : List (Option ℕ)) → left ≡ single ++ rest → (length all ≤ 1 → merged ++ left ≡ all)
    → (length (merged ++ single) ≤ 1 → next ≡ merged ++ single) → length all ≤ 1 → next ++ rest ≡ all
one_line_more all merged next left rest single steps before added once =
    let whole : (merged ++ single) ++ rest ≡ all = append_assoc merged single rest ∙ ap (λ l. merged ++ l) (sym steps) ∙ before once in
    let e = length-append (merged ++ single) rest in
    let f : length ((merged ++ single) ++ rest) ≡ length all = ap length whole in
    ap (λ l. l ++ rest) (added (omega (arith, once, e, f))) ∙ whole

pub shown_once : (left_out : LeftOut) (value : Option ℕ) → length (shown left_out value) ≤ 1
shown_once Nothing value = omega arith
shown_once (End otherwise) value = by_test (same_end value otherwise) where
  by_test : (b : Bool) → length (if b then [] else value ∷ []) ≤ 1
  by_test true = omega arith
  by_test false = omega arith

pub told_pushed : (lines : List Line) (line : Line) (call : Record) → told_by (lines ++ (line ∷ [])) call ≡ told_by lines call ++ told_alone line call
told_pushed lines line call =
    told_append lines (line ∷ []) call ∙ ap (λ xs. told_by lines call ++ xs) (told_cons line [] call ∙ append-nil (told_alone line call))

pub told_same : (written line : Line) (call : Record) → written.value ≡ line.value → meets_line written call ≡ meets_line line call → told_alone written call ≡ told_alone line call
told_same written line call value met = ap (λ v. alone (meets_line written call) v) value ∙ ap (λ b. alone b line.value) met
