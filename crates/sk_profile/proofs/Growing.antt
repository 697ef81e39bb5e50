-- Rows that are cut in two, and the code of the parts.
use Rattle.std.proofs.Common.{◌≡◌, Bool, true, false, inl, inr, ℕ, zero, suc, ◌+◌, ◌<◌, ◌≤◌, List, [], ◌∷◌, ◌++◌, ◌-◌, length, get_or, take, drop, map, flat_map, refl, ap, sym, ◌∙◌, subst, arith, append_assoc, length-append}
use Rattle.std.specs.Prelude.{All, Contains, Result, Ok, Err, IfOk, IfErr, IsErrAnd, ◌==◌}
use Rattle.std.specs.List.{list_all}
use Rattle.std.proofs.lemmas.Bool.{eq-eqb, eqb-true, both_ways}
use Rattle.std.proofs.lemmas.List.Sums.{AllPass-from_list_all}
use Rattle.std.proofs.lemmas.List.{length-map, take_all}
use Rattle.std.proofs.lemmas.List.Elements.{All-nil, All-cons, All-head, All-tail, All-get_or, All-take, All-drop, All-map, All-weaker}
use Rattle.sk_insn.specs.declared.insn.Insn.{Insn}
use Rattle.sk_profile.specs.declared.saying.Arm.{Arm as ArmOfCode}
use Rattle.sk_profile.specs.declared.saying.Saying.{Saying as SayingOfCode}
use Rattle.sk_profile.specs.declared.saying.Row.{Row as RowOfCode}
use Rattle.sk_profile.specs.Sayings.{seen, Arm, first_held, Single, arms_of, Tree, Leaf, Away, Fork}
use Rattle.sk_profile.specs.CodeRows.{Row, Cuts}
use Rattle.sk_profile.specs.Code.{branch, jump, answer, place_of, far, over_code, head_code, fork_code, tree_code, Section, section_code, past_code, guarded_code}
use Rattle.sk_profile.specs.Means.{IsPiece, HasCode}
use Rattle.sk_profile.specs.CodeViews.{arm_of, saying_of, row_of, IsArmOfCode, IsSayingOfCode, IsRowOfCode, AreRising, AreRows, PutsSaying, CutsRows, IsAway, IsSideOf, IsTreeOf, IsOverlong, PutsSection, IsLongSection}
use Rattle.sk_profile.proofs.Emitting.{none_matters, of_code, rest_of}
use Rattle.sk_profile.proofs.Trees.{begins_here}

rising_take : (n : ℕ) (rows : List RowOfCode) → AreRising rows → AreRising (take n rows)
rising_take zero rows rising = tt
rising_take (suc n) [] rising = tt
rising_take (suc n) (row ∷ rows) rising = (All-take (λ (other : RowOfCode). row.start ≤ other.start) n rows rising.0, rising_take n rows rising.1)

rising_drop : (n : ℕ) (rows : List RowOfCode) → AreRising rows → AreRising (drop n rows)
rising_drop zero rows rising = rising
rising_drop (suc n) [] rising = tt
rising_drop (suc n) (row ∷ rows) rising = rising_drop n rows rising.1

below_it : (n : ℕ) (rows : List RowOfCode) (d : RowOfCode) → n < length rows → AreRising rows → All (λ (row : RowOfCode). row.start ≤ (get_or rows n d).start) (take n rows)
below_it zero rows d inside rising = All-nil (λ (row : RowOfCode). row.start ≤ (get_or rows 0 d).start)
below_it (suc n) [] d inside rising = absurd (omega arith)
below_it (suc n) (row ∷ rows) d inside rising =
    All-cons (λ (other : RowOfCode). other.start ≤ (get_or rows n d).start) row (take n rows)
    (All-get_or (λ (other : RowOfCode). row.start ≤ other.start) rows n d (omega arith) rising.0) (below_it n rows d (omega arith) rising.1)

split : (n : ℕ) (rows : List RowOfCode) (d : RowOfCode) → n < length rows → map row_of rows ≡ map row_of (take n rows) ++ row_of (get_or rows n d) ∷ map row_of (drop (n + 1) rows)
split n [] d inside = absurd (omega arith)
split zero (row ∷ rows) d inside = refl
split (suc n) (row ∷ rows) d inside =
    let e : suc n + 1 ≡ suc (n + 1) = omega arith in
    ap (λ rest. row_of row ∷ rest) (split n rows d (omega arith)) ∙ ap (λ k. row_of row ∷ (map row_of (take n rows) ++ row_of (get_or rows n d) ∷ map row_of (drop k (row ∷ rows)))) (sym e)

pub left_part : (before : SayingOfCode) (rows : List RowOfCode) (n : ℕ) → AreRows before rows → AreRows before (take n rows)
left_part before rows n are = record { below = are.below; each = All-take IsRowOfCode n rows are.each; rising = rising_take n rows are.rising }

pub right_part : (before : SayingOfCode) (rows : List RowOfCode) (n : ℕ) (d : RowOfCode) → n < length rows → AreRows before rows → AreRows (get_or rows n d).saying (drop (n + 1) rows)
right_part before rows n d inside are = record {
  below = All-get_or IsRowOfCode rows n d inside are.each;
  each = All-drop IsRowOfCode (n + 1) rows are.each;
  rising = rising_drop (n + 1) rows are.rising;
}

-- a tree of both parts
both_cut : (before : SayingOfCode) (rows : List RowOfCode) (n : ℕ) (d : RowOfCode) (left right : Tree) → AreRows before rows → n < length rows
    → Cuts left (saying_of before) (map row_of (take n rows)) → Cuts right (saying_of (get_or rows n d).saying) (map row_of (drop (n + 1) rows))
    → Cuts (Fork (get_or rows n d).start left right) (saying_of before) (map row_of rows)
both_cut before rows n d left right are inside one other = (
  map row_of (take n rows),
  row_of (get_or rows n d),
  map row_of (drop (n + 1) rows),
  split n rows d inside,
  refl,
  All-map (λ (row : Row). row.start ≤ (get_or rows n d).start) row_of (take n rows) (below_it n rows d inside are.rising),
  one,
  other,
)

pub both_parts : (values : List ℕ) (before : SayingOfCode) (rows : List RowOfCode) (n : ℕ) (d : RowOfCode) (left right : Tree) → AreRows before rows → n < length rows
    → CutsRows values before (take n rows) left → CutsRows values (get_or rows n d).saying (drop (n + 1) rows) right
    → CutsRows values before rows (Fork (get_or rows n d).start left right)
both_parts values before rows n d left right are inside one other = record {
  cuts = both_cut before rows n d left right are inside one.cuts other.cuts;
  good = (one.good, other.good);
}

-- what is behind the cut, as the code has it
pub at_middle : (P : SayingOfCode → List RowOfCode → Type 0) (rows : List RowOfCode) (n : ℕ) (d : RowOfCode) → d ≡ get_or rows n d → P d.saying (take (length rows - (n + 1)) (drop (n + 1) rows))
    → P (get_or rows n d).saying (drop (n + 1) rows)
at_middle P rows n d is p = subst (λ (row : RowOfCode). P row.saying (drop (n + 1) rows)) is (subst (P d.saying) (rest_of (n + 1) rows) p)

pub has_more : (values others : List ℕ) (first value : ℕ) → values ≡ first ∷ others → Contains others value → Contains values value
has_more values others first value is has = subst (λ values. Contains values value) (sym is) (suc has.0, omega (arith, has.1), has.2)

-- ---- the code of the parts

pub leaf_put : (values : List ℕ) (behind : ℕ) (before : SayingOfCode) (rows : List RowOfCode) (code : List Insn) → length rows ≡ 0 → PutsSaying [] code (saying_of before) → IsTreeOf values behind before rows code
leaf_put values behind before [] code none puts = record {
  tree = Leaf before.narrow puts.pieces before.otherwise;
  is = record { cuts = (refl, puts.shows); good = puts.good };
  has = tt;
  written = puts.code;
}
leaf_put values behind before (row ∷ rows) code none puts = absurd (omega (arith, none))

-- a value away from its place
no_code : (before : SayingOfCode) → before.arms.items ≡ [] → (values : List ℕ) → Contains values before.otherwise → CutsRows values before [] (Away before.otherwise)
no_code before none values there = record {
  cuts = (
    refl,
    record {
      same = λ call. ap (λ (arms : List ArmOfCode). first_held (map arm_of arms) before.otherwise (seen before.narrow call)) (sym none);
      left = refl;
      first = 0;
      shown = refl;
      none = λ all. refl;
    },
  );
  good = there;
}

pub away_side : (values : List ℕ) (behind : ℕ) (before : SayingOfCode) (rows : List RowOfCode) (begins : ℕ) → IsAway values behind before rows begins → IsSideOf values behind before rows [] begins
away_side values behind before rows begins away = record {
  tree = Away before.otherwise;
  is = subst (λ rows. CutsRows values before rows (Away before.otherwise)) (sym away.no_rows) (no_code before away.no_arms values away.there);
  written = refl;
  reached = away.reached;
}

pub tree_side : (values : List ℕ) (behind : ℕ) (before : SayingOfCode) (rows : List RowOfCode) (code : List Insn) → IsTreeOf values behind before rows code → IsSideOf values behind before rows code 0
tree_side values behind before rows code it = record { tree = it.tree; is = it.is; written = it.written; reached = sym (begins_here values it.tree behind it.has) }

pub forked : (values : List ℕ) (behind : ℕ) (before : SayingOfCode) (rows : List RowOfCode) (n : ℕ) (d : RowOfCode) (below above code : List Insn) (under over more : ℕ) → AreRows before rows → n < length rows
    → more ≡ length above + behind → IsSideOf values behind (get_or rows n d).saying (drop (n + 1) rows) above over → IsSideOf values more before (take n rows) below under
    → code ≡ fork_code (get_or rows n d).start over under below above → IsTreeOf values behind before rows code
forked values behind before rows n d below above code under over more are inside so_many right left is =
    let number = (get_or rows n d).start in
    let place : more ≡ length (tree_code values right.tree behind) + behind = so_many ∙ ap (λ insns. length insns + behind) right.written in record {
      tree = Fork number left.tree right.tree;
      is = both_parts values before rows n d left.tree right.tree are inside left.is right.is;
      has = tt;
      written =
          is
          ∙ ap (λ n. fork_code number n under below above) right.reached
          ∙ ap (λ n. fork_code number (far values right.tree behind) n below above) (left.reached ∙ ap (far values left.tree) place)
          ∙ ap (λ insns. fork_code number (far values right.tree behind) (far values left.tree (length (tree_code values right.tree behind) + behind)) insns above)
          (left.written ∙ ap (tree_code values left.tree) place)
          ∙ ap (λ insns. fork_code number (far values right.tree behind) (far values left.tree (length (tree_code values right.tree behind) + behind))
          (tree_code values left.tree (length (tree_code values right.tree behind) + behind)) insns) right.written;
    }

-- ---- rows whose tree is too long

-- there is a tree, whatever the rows are
record SomeTree (values : List ℕ) (before : SayingOfCode) (rows : List RowOfCode) : Type 0 where
  tree : Tree
  is : CutsRows values before rows tree

arm_by_itself : (arms : List ArmOfCode) → flat_map arms_of (map (λ arm. Single (arm_of arm)) arms) ≡ map arm_of arms
arm_by_itself [] = refl
arm_by_itself (arm ∷ arms) = ap (λ arms. arm_of arm ∷ arms) (arm_by_itself arms)

each_answers : (value : ℕ) (arms : List ArmOfCode) → All (λ (arm : ArmOfCode). arm.value ≡ value) arms → list_all (λ (arm : ArmOfCode). arm.value == value) arms ≡ true
each_answers value [] all = refl
each_answers value (arm ∷ arms) all =
    rw (eq-eqb arm.value value (All-head (λ (arm : ArmOfCode). arm.value ≡ value) arm arms all)) (each_answers value arms (All-tail (λ (arm : ArmOfCode). arm.value ≡ value) arm arms all))

leaf_of : (values : List ℕ) (saying : SayingOfCode) → IsSayingOfCode saying → (b : Bool) → list_all (λ (arm : ArmOfCode). arm.value == saying.otherwise) saying.arms.items ≡ b → SomeTree values saying []
leaf_of values saying good true e =
    let arms = saying.arms.items in
    let pass = AllPass-from_list_all (λ (arm : ArmOfCode). arm.value == saying.otherwise) arms e in
    let each : All (λ (arm : ArmOfCode). arm.value ≡ saying.otherwise) arms = λ k d less. eqb-true _ saying.otherwise (pass k d less) in record {
      tree = Leaf saying.narrow [] saying.otherwise;
      is = record {
        cuts = (
          refl,
          record {
            same = λ call. sym (none_matters (map arm_of arms) saying.otherwise (seen saying.narrow call) (All-map (λ (arm : Arm). arm.value ≡ saying.otherwise) arm_of arms each));
            left = refl;
            first = 0;
            shown = refl;
            none = λ all. refl;
          },
        );
        good = All-nil (IsPiece saying.narrow);
      };
    }
leaf_of values saying good false e =
    let arms = saying.arms.items in record {
      tree = Leaf saying.narrow (map (λ arm. Single (arm_of arm)) arms) saying.otherwise;
      is = record {
        cuts = (
          refl,
          record {
            same = λ call. ap (λ arms. first_held arms saying.otherwise (seen saying.narrow call)) (arm_by_itself arms);
            left = refl;
            first = length (map arm_of arms);
            shown = arm_by_itself arms ∙ sym (take_all (length (map arm_of arms)) (map arm_of arms) (omega arith));
            none = λ all. absurd (both_ways _ e (each_answers saying.otherwise arms (of_code saying.otherwise arms all)));
          },
        );
        good =
            All-map (IsPiece saying.narrow) (λ arm. Single (arm_of arm)) arms
            (All-weaker IsArmOfCode (λ arm. IsPiece saying.narrow (Single (arm_of arm))) (λ arm is. is.0.0) arms good);
      };
    }

some_tree : (values : List ℕ) (before : SayingOfCode) (rows : List RowOfCode) → AreRows before rows → SomeTree values before rows
some_tree values before [] are = leaf_of values before are.below _ refl
some_tree values before (row ∷ rows) are =
    let leaf = leaf_of values before are.below _ refl in
    let behind : AreRows row.saying rows = record { below = All-head IsRowOfCode row rows are.each; each = All-tail IsRowOfCode row rows are.each; rising = are.rising.1 } in
    let right = some_tree values row.saying rows behind in record {
      tree = Fork row.start leaf.tree right.tree;
      is = record {
        cuts = ([], row_of row, map row_of rows, refl, refl, All-nil (λ (other : Row). other.start ≤ row.start), leaf.is.cuts, right.is.cuts);
        good = (leaf.is.good, right.is.good);
      };
    }

-- what is in a fork is no longer than the fork
no_shorter : (number over under : ℕ) (front back : List Insn) → length front + length back ≤ length (fork_code number over under front back)
no_shorter number over under front back =
    omega (arith, length-append (head_code number (length front + over) under) (front ++ back), length-append front back)

abbrev Behind : List ℕ → Tree → ℕ → ℕ
Behind values tree behind = length (tree_code values tree behind) + (behind + length values)

fork_longer : (values : List ℕ) (number behind : ℕ) (left right : Tree) → Behind values right behind ≤ Behind values (Fork number left right) behind
fork_longer values number behind left right =
    let back = tree_code values right behind in
    omega (arith, no_shorter number (far values right behind) (far values left (length back + behind)) (tree_code values left (length back + behind)) back)

fork_longest : (values : List ℕ) (number behind : ℕ) (left right : Tree) → Behind values left (length (tree_code values right behind) + behind) ≤ Behind values (Fork number left right) behind
fork_longest values number behind left right =
    let back = tree_code values right behind in
    omega (arith, no_shorter number (far values right behind) (far values left (length back + behind)) (tree_code values left (length back + behind)) back)

-- a part that is too long makes the whole so
pub overlong_right : (values : List ℕ) (behind : ℕ) (before : SayingOfCode) (rows : List RowOfCode) (n : ℕ) (d : RowOfCode) → AreRows before rows → n < length rows
    → IsOverlong values behind (get_or rows n d).saying (drop (n + 1) rows) → IsOverlong values behind before rows
overlong_right values behind before rows n d are inside right =
    let left = some_tree values before (take n rows) (left_part before rows n are) in record {
      tree = Fork (get_or rows n d).start left.tree right.tree;
      is = both_parts values before rows n d left.tree right.tree are inside left.is right.is;
      long = omega (arith, right.long, fork_longer values (get_or rows n d).start behind left.tree right.tree);
    }

pub overlong_both : (values : List ℕ) (behind : ℕ) (before : SayingOfCode) (rows : List RowOfCode) (n : ℕ) (d : RowOfCode) (above : List Insn) (over more : ℕ) → AreRows before rows → n < length rows
    → more ≡ length above + behind → IsSideOf values behind (get_or rows n d).saying (drop (n + 1) rows) above over → 4096 < more → IsOverlong values behind before rows
overlong_both values behind before rows n d above over more are inside so_many right long =
    overlong_right values behind before rows n d are inside
    (record { tree = right.tree; is = right.is; long = omega (arith, long, so_many, ap length right.written) })

pub overlong_left : (values : List ℕ) (behind : ℕ) (before : SayingOfCode) (rows : List RowOfCode) (n : ℕ) (d : RowOfCode) (above : List Insn) (over more : ℕ) → AreRows before rows → n < length rows
    → more ≡ length above + behind → IsSideOf values behind (get_or rows n d).saying (drop (n + 1) rows) above over → IsOverlong values more before (take n rows) → IsOverlong values behind before rows
overlong_left values behind before rows n d above over more are inside so_many right left =
    let place : more ≡ length (tree_code values right.tree behind) + behind = so_many ∙ ap (λ insns. length insns + behind) right.written in
    let longest = subst (λ m. Behind values left.tree m ≤ Behind values (Fork (get_or rows n d).start left.tree right.tree) behind) (sym place) (fork_longest values (get_or rows n d).start behind left.tree right.tree) in record {
      tree = Fork (get_or rows n d).start left.tree right.tree;
      is = both_parts values before rows n d left.tree right.tree are inside left.is right.is;
      long = omega (arith, left.long, longest);
    }

-- a jump that is too long
pub overlong_head : (values : List ℕ) (behind : ℕ) (before : SayingOfCode) (rows : List RowOfCode) (n : ℕ) (d : RowOfCode) (below above : List Insn) (under over more : ℕ) → AreRows before rows → n < length rows
    → more ≡ length above + behind → IsSideOf values behind (get_or rows n d).saying (drop (n + 1) rows) above over → IsSideOf values more before (take n rows) below under
    → over ≤ behind + length values → under ≤ more + length values → (length below + over ≤ 4096 → 4096 < under) → IsOverlong values behind before rows
overlong_head values behind before rows n d below above under over more are inside so_many right left near near' long =
    let number = (get_or rows n d).start in
    let back = tree_code values right.tree behind in
    let place : more ≡ length back + behind = so_many ∙ ap (λ insns. length insns + behind) right.written in
    let front = tree_code values left.tree (length back + behind) in
    let same : below ≡ front = left.written ∙ ap (tree_code values left.tree) place in
    let longer = no_shorter number (far values right.tree behind) (far values left.tree (length back + behind)) front back in record {
      tree = Fork number left.tree right.tree;
      is = both_parts values before rows n d left.tree right.tree are inside left.is right.is;
      long = elim (Rattle.std.proofs.lemmas.Bool.cases_lt 4096 under) [
        | inl far_under ↦ omega (arith, far_under, near', place, longer)
        | inr under_few ↦ omega (arith, long_over under_few, near, ap length same, longer)
      ];
    } where
      long_over : under ≤ 4096 → 4096 < length below + over
      long_over under_few = elim (Rattle.std.proofs.lemmas.Bool.cases_lt 4096 (length below + over)) [
        | inl long_enough ↦ long_enough
        | inr small ↦ absurd (omega (arith, long small, under_few))
      ]

-- ---- sections

pub section_put : (old tree new : List Insn) (audit : ℕ) (values : List ℕ) (before : SayingOfCode) (rows : List RowOfCode) (n : ℕ) → IsTreeOf values 0 before rows tree → n ≡ length tree + length values + 1 → length values ≤ 1 + length rows
    → new ≡ (((old ++ past_code audit n) ++ Rattle.sk_profile.specs.Code.load 0 ∷ []) ++ tree) ++ map answer values → PutsSection old new audit before rows
section_put old tree new audit values before rows n it so_many brief is =
    let section : Section = record { audit = audit; values = values; tree = it.tree } in
    let code = section_code section in
    let first = Rattle.sk_profile.specs.Code.load 0 in
    let count : n ≡ length code = omega (arith, so_many, ap length it.written, length-append (tree_code values it.tree 0) (map answer values), length-map values answer) in record {
      section = section;
      says = record { named = refl; good = record { tree = it.is.good; code = it.has }; is = it.is; brief = brief };
      code =
          is
          ∙ append_assoc ((old ++ past_code audit n) ++ first ∷ []) tree (map answer values)
          ∙ append_assoc (old ++ past_code audit n) (first ∷ []) (tree ++ map answer values)
          ∙ append_assoc old (past_code audit n) (first ∷ (tree ++ map answer values))
          ∙ ap (λ n. old ++ (past_code audit n ++ (first ∷ (tree ++ map answer values)))) count
          ∙ ap (λ insns. old ++ (past_code audit (length code) ++ (first ∷ (insns ++ map answer values)))) it.written;
    }

guarded_longer : (section : Section) → length (tree_code section.values section.tree 0) + length section.values < length (guarded_code section)
guarded_longer section =
    omega (
      arith,
      length-append (past_code section.audit (length (section_code section))) (section_code section),
      length-append (tree_code section.values section.tree 0) (map answer section.values),
      length-map section.values answer,
    )

pub long_section : (audit : ℕ) (values : List ℕ) (before : SayingOfCode) (rows : List RowOfCode) (tree : Tree) → CutsRows values before rows tree → HasCode tree
    → length values ≤ 1 + length rows → 4096 < length (tree_code values tree 0) + length values + 1 → IsLongSection audit before rows
long_section audit values before rows tree is has brief long =
    let section : Section = record { audit = audit; values = values; tree = tree } in record {
      section = section;
      says = record { named = refl; good = record { tree = is.good; code = has }; is = is; brief = brief };
      long = omega (arith, long, guarded_longer section);
    }

-- a tree with instructions that says the same, and is no shorter
record Own (values : List ℕ) (before : SayingOfCode) (rows : List RowOfCode) (least : ℕ) : Type 0 where
  tree : Tree
  is : CutsRows values before rows tree
  has : HasCode tree
  longer : least ≤ length (tree_code values tree 0)

own : (values : List ℕ) (before : SayingOfCode) (rows : List RowOfCode) (tree : Tree) → CutsRows values before rows tree → Own values before rows (length (tree_code values tree 0))
own values before rows (Leaf narrow pieces otherwise) is = record { tree = Leaf narrow pieces otherwise; is = is; has = tt; longer = omega arith }
own values before rows (Away value) is = record { tree = Leaf false [] value; is = record { cuts = is.cuts; good = All-nil (IsPiece false) }; has = tt; longer = omega arith }
own values before rows (Fork number below above) is = record { tree = Fork number below above; is = is; has = tt; longer = omega arith }

pub long_of : (audit : ℕ) (values : List ℕ) (before : SayingOfCode) (rows : List RowOfCode) → length values ≤ 1 + length rows → IsOverlong values 0 before rows → IsLongSection audit before rows
long_of audit values before rows brief over =
    let it = own values before rows over.tree over.is in long_section audit values before rows it.tree it.is it.has brief (omega (arith, over.long, it.longer))

pub on_err : {X E : Type 0} {P Q : E → Type 0} (r : Result X E) → ((fault : E) → P fault → Q fault) → IfErr r P → IfErr r Q
on_err (Ok x) f p = p
on_err (Err e) f p = f e p

-- a fault that is handed on
pub handed_on : {X E : Type 0} {Q : Type 0} (r : Result X E) (fault wanted : E) → IsErrAnd r (λ e. e ≡ fault) → (fault ≡ wanted → Q) → IfErr r (λ e. e ≡ wanted → Q)
handed_on (Ok x) fault wanted is f = absurd is
handed_on (Err e) fault wanted is f = λ same. f (sym is ∙ same)

pub on_if_ok : {X E : Type 0} {P Q : X → Type 0} (r : Result X E) → ((x : X) → P x → Q x) → IfOk r P → IfOk r Q
on_if_ok (Ok x) f p = f x p
on_if_ok (Err e) f p = tt
