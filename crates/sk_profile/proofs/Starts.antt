-- What rows say from one more start on, and behind the last.
use Rattle.std.proofs.Common.{zero, suc, ◌≡◌, ◌==◌, ℕ, ◌+◌, ◌-◌, ◌<◌, ◌≤◌, nat_le, ◌^◌, inl, inr, Bool, true, false, if◌then◌else◌, List, [], ◌∷◌, ◌++◌, map, length, Some, None, slice_get, refl, sym, ap, ◌∙◌, subst, arith, append_assoc}
use Rattle.std.specs.Prelude.{All}
use Rattle.std.proofs.lemmas.Bool.{cases_lt, leb-true, leb-false, le-leb, lt-leb, ne_eqb}
use Rattle.std.proofs.lemmas.List.{map-append}
use Rattle.std.proofs.lemmas.List.Elements.{All-nil, All-cons, All-head, All-tail, All-append, All-weaker}
use Rattle.sk_profile.specs.declared.saying.Row.{Row as RowOfCode}
use Rattle.sk_profile.specs.declared.saying.Saying.{Saying as SayingOfCode}
use Rattle.sk_profile.specs.declared.saying.Arm.{Arm as ArmOfCode}
use Rattle.sk_profile.specs.declared.rows.Rows.{Rows}
use Rattle.sk_profile.specs.declared.profile.Rule.{Rule as RuleOfCode}
use Rattle.sk_profile.specs.Sayings.{Arm, Saying}
use Rattle.sk_profile.specs.CodeRows.{saying_in}
use Rattle.sk_profile.specs.CodeViews.{arm_of, saying_of, row_of, IsSayingOfCode, IsRowOfCode, AreRising, AreRows}
use Rattle.sk_profile.specs.Clashes.{AreClear, IsClearPart}
use Rattle.sk_profile.specs.Profiles.{Part, is_for, arms_for, arm_of_rule, saying_in_part}
use Rattle.sk_profile.specs.Views.{rule_of}
use Rattle.sk_profile.specs.Rows.{has_no_arms, says_same, changes, said_at, StartBelow, next_mark, marks_of}
use Rattle.sk_profile.proofs.Between.{next_found, none_nearer, none_above, same_between}

by_start : (start nr : ℕ) (old new : Saying) (r : ℕ) (rest : Saying) → r < start
    → (if nat_le r nr then (if nat_le start nr then new else rest) else old) ≡ (if nat_le start nr then new else (if nat_le r nr then rest else old))
by_start start nr old new r rest below = by (nat_le r nr) refl where
  by : (b : Bool) → nat_le r nr ≡ b → (if b then (if nat_le start nr then new else rest) else old) ≡ (if nat_le start nr then new else (if b then rest else old))
  by true e = refl
  by false e = let less = leb-false r nr e in rw (lt-leb start nr (omega (arith, less, below))) refl

one_more : (rows : List RowOfCode) (row : RowOfCode) (before : Saying) (nr : ℕ) → StartBelow row.start rows
    → saying_in (map row_of rows ++ row_of row ∷ []) before nr ≡ (if nat_le row.start nr then saying_of row.saying else saying_in (map row_of rows) before nr)
one_more [] row before nr below = refl
one_more (first ∷ rows) row before nr below =
    ap (λ said. if nat_le first.start nr then said else before) (one_more rows row (saying_of first.saying) nr (All-tail (λ (r : RowOfCode). r.start < row.start) first rows below))
    ∙ by_start row.start nr before (saying_of row.saying) first.start (saying_in (map row_of rows) (saying_of first.saying) nr) (All-head (λ (r : RowOfCode). r.start < row.start) first rows below)

-- from one more start on
pub says_from : (rows new : List RowOfCode) (start : ℕ) (row : RowOfCode) (before : Saying) → row.start ≡ start → new ≡ rows ++ row ∷ [] → StartBelow start rows → (nr : ℕ)
    → saying_in (map row_of new) before nr ≡ (if nat_le start nr then saying_of row.saying else saying_in (map row_of rows) before nr)
says_from rows new start row before at is below nr =
    ap (λ rows. saying_in (map row_of rows) before nr) is
    ∙ ap (λ rows. saying_in rows before nr) (map-append row_of rows (row ∷ []))
    ∙ one_more rows row before nr (subst (λ n. StartBelow n rows) (sym at) below)
    ∙ ap (λ n. if nat_le n nr then saying_of row.saying else saying_in (map row_of rows) before nr) at

-- where it is what was said already
pub says_still : (rows : List RowOfCode) (start : ℕ) (before now : Saying) → ((nr : ℕ) → StartBelow (nr + 1) rows → saying_in (map row_of rows) before nr ≡ now) → StartBelow start rows → (nr : ℕ)
    → saying_in (map row_of rows) before nr ≡ (if nat_le start nr then now else saying_in (map row_of rows) before nr)
says_still rows start before now last below nr = by (nat_le start nr) refl where
  by : (b : Bool) → nat_le start nr ≡ b → saying_in (map row_of rows) before nr ≡ (if b then now else saying_in (map row_of rows) before nr)
  by true e = let up = leb-true start nr e in last nr (λ k d less. let one = below k d less in omega (arith, one, up))
  by false e = refl

last_from : (first row : RowOfCode) (rest : List RowOfCode) (before : Saying) (nr : ℕ) → slice_get (first ∷ rest) (length rest) ≡ Some row → StartBelow (nr + 1) (first ∷ rest)
    → saying_in (map row_of (first ∷ rest)) before nr ≡ saying_of row.saying
last_from first row [] before nr is below =
    let here = All-head (λ (r : RowOfCode). r.start < nr + 1) first [] below in
    let same : first ≡ row = cc in
    rw (le-leb first.start nr (omega (arith, here))) (ap (λ (r : RowOfCode). saying_of r.saying) same)
last_from first row (second ∷ rest) before nr is below =
    let here = All-head (λ (r : RowOfCode). r.start < nr + 1) first (second ∷ rest) below in
    rw (le-leb first.start nr (omega (arith, here)))
    (last_from second row rest (saying_of first.saying) nr is (All-tail (λ (r : RowOfCode). r.start < nr + 1) first (second ∷ rest) below))

-- behind the last start
pub last_said : (rows : List RowOfCode) (row : RowOfCode) (before : Saying) (nr : ℕ) → slice_get rows (length rows - 1) ≡ Some row → StartBelow (nr + 1) rows
    → saying_in (map row_of rows) before nr ≡ saying_of row.saying
last_said [] row before nr is below = cc
last_said (first ∷ rest) row before nr is below =
    let past : length (first ∷ rest) - 1 ≡ length rest = omega arith in
    last_from first row rest before nr (subst (λ n. slice_get (first ∷ rest) n ≡ Some row) past is) below

-- rows that rise still do with one more behind them
rising_more : (rows : List RowOfCode) (row : RowOfCode) → AreRising rows → StartBelow row.start rows → AreRising (rows ++ row ∷ [])
rising_more [] row rising below = (All-nil (λ (r : RowOfCode). row.start ≤ r.start), tt)
rising_more (first ∷ rows) row rising below =
    let here = All-head (λ (r : RowOfCode). r.start < row.start) first rows below in (
      All-append (λ (r : RowOfCode). first.start ≤ r.start) rows (row ∷ []) rising.0
          (All-cons (λ (r : RowOfCode). first.start ≤ r.start) row [] (omega (arith, here)) (All-nil (λ (r : RowOfCode). first.start ≤ r.start))),
      rising_more rows row rising.1 (All-tail (λ (r : RowOfCode). r.start < row.start) first rows below),
    )

pub still_rows : (before : SayingOfCode) (rows new : List RowOfCode) (row : RowOfCode) → new ≡ rows ++ row ∷ [] → StartBelow row.start rows → IsSayingOfCode row.saying → AreRows before rows → AreRows before new
still_rows before rows new row is below good all = subst (AreRows before) (sym is) (record {
  below = all.below;
  each = All-append IsRowOfCode rows (row ∷ []) all.each (All-cons IsRowOfCode row [] good (All-nil IsRowOfCode));
  rising = rising_more rows row all.rising below;
})

-- one rule more among the arms, where it is for the number
pub with_rule : (old new : List Arm) (left rest whole : List RuleOfCode) (rule : RuleOfCode) (default nr : ℕ) → new ≡ old ++ arm_of_rule (rule_of rule) ∷ [] → left ≡ rule ∷ rest
    → is_for default nr (rule_of rule) ≡ true → old ++ arms_for default (map rule_of left) nr ≡ arms_for default (map rule_of whole) nr
    → new ++ arms_for default (map rule_of rest) nr ≡ arms_for default (map rule_of whole) nr
with_rule old new left rest whole rule default nr is steps for_it so_far =
    let first : arms_for default (map rule_of (rule ∷ rest)) nr ≡ arm_of_rule (rule_of rule) ∷ arms_for default (map rule_of rest) nr = rw for_it refl in
    ap (λ arms. arms ++ arms_for default (map rule_of rest) nr) is
    ∙ append_assoc old (arm_of_rule (rule_of rule) ∷ []) (arms_for default (map rule_of rest) nr)
    ∙ ap (λ arms. old ++ arms) (sym first)
    ∙ ap (λ rules. old ++ arms_for default (map rule_of rules) nr) (sym steps)
    ∙ so_far

-- and where it is not
pub without_rule : (arms : List Arm) (left rest whole : List RuleOfCode) (rule : RuleOfCode) (default nr : ℕ) → left ≡ rule ∷ rest → is_for default nr (rule_of rule) ≡ false
    → arms ++ arms_for default (map rule_of left) nr ≡ arms_for default (map rule_of whole) nr
    → arms ++ arms_for default (map rule_of rest) nr ≡ arms_for default (map rule_of whole) nr
without_rule arms left rest whole rule default nr steps not_for_it so_far =
    let first : arms_for default (map rule_of (rule ∷ rest)) nr ≡ arms_for default (map rule_of rest) nr = rw not_for_it refl in
    ap (λ more. arms ++ more) (sym first) ∙ ap (λ rules. arms ++ arms_for default (map rule_of rules) nr) (sym steps) ∙ so_far

-- without arms, of the code and of the definition
pub without_arms : (arms : List ArmOfCode) → has_no_arms (map arm_of arms) ≡ (length arms == 0)
without_arms [] = refl
without_arms (arm ∷ arms) = sym (ne_eqb (length (arm ∷ arms)) 0 (λ e. absurd (omega (arith, e))))

-- a row more where something else is said
pub row_of_change : (old new : ℕ) (before last now : Saying) → new ≡ old + 1 → before ≡ last → says_same last now ≡ false → new ≤ old + (if says_same before now then 0 else 1)
row_of_change old new before last now more is other = rw (ap (λ said. says_same said now) is ∙ other) (omega (arith, more))

-- ---- rows up to a number, with all that is owed

changes_grow : (default bad : ℕ) (part : Part) (one other : ℕ) → one ≤ other → changes default bad part one ≤ changes default bad part other
unfolding changes
changes_grow default bad part zero zero up = omega arith
changes_grow default bad part (suc one) zero up = absurd (omega (arith, up))
changes_grow default bad part one (suc other) up =
    elim (cases_lt other one) [
      | inl last ↦ let same : one ≡ suc other = omega (arith, last, up) in subst (λ n. changes default bad part one ≤ changes default bad part n) same (omega arith)
      | inr below ↦ let so_far = changes_grow default bad part one other below in omega (arith, so_far)
    ]

change_at : (default bad : ℕ) (part : Part) (nr : ℕ) → 0 < nr
    → changes default bad part nr ≡ changes default bad part (nr - 1) + (if says_same (saying_in_part default bad part (nr - 1)) (saying_in_part default bad part nr) then 0 else 1)
unfolding changes
change_at default bad part zero some = absurd (omega (arith, some))
change_at default bad part (suc nr) some =
    let last : nr ≡ suc nr - 1 = omega arith in
    ap (λ n. changes default bad part n + (if says_same (saying_in_part default bad part n) (saying_in_part default bad part (suc nr)) then 0 else 1)) last

pub record SoFar (default bad : ℕ) (part : Part) (rows : Rows) (from : ℕ) : Type 0 where
  pub start : StartBelow (from + 1) rows.rows.items
  pub says : (nr : ℕ) → nr ≤ from → said_at rows nr ≡ saying_in_part default bad part nr
  pub clear : (nr : ℕ) → nr ≤ from → AreClear (saying_in_part default bad part nr)
  pub few : length rows.rows.items ≤ changes default bad part from
  pub good : AreRows rows.before rows.rows.items
  pub small : from < 2 ^ 32

-- behind all rows the same is said
beyond : (rows : List RowOfCode) (before : Saying) (from nr : ℕ) → StartBelow (from + 1) rows → from ≤ nr → saying_in (map row_of rows) before nr ≡ saying_in (map row_of rows) before from
beyond [] before from nr below up = refl
beyond (row ∷ rows) before from nr below up =
    let here = All-head (λ (r : RowOfCode). r.start < from + 1) row rows below in
    rw (le-leb row.start nr (omega (arith, here, up))) (rw (le-leb row.start from (omega (arith, here)))
    (beyond rows (saying_of row.saying) from nr (All-tail (λ (r : RowOfCode). r.start < from + 1) row rows below) up))

-- what is said of numbers behind those, if no mark stands between
said_on : (default bad : ℕ) (part : Part) (rows : Rows) (from nr : ℕ) → SoFar default bad part rows from → from ≤ nr → nr < 2 ^ 32 → All (λ mark. from < mark → nr < mark) (marks_of part)
    → said_at rows nr ≡ saying_in_part default bad part nr
said_on default bad part rows from nr so_far up small all =
    beyond rows.rows.items (saying_of rows.before) from nr so_far.start up ∙ so_far.says from (omega arith) ∙ sym (same_between default bad part from nr up small all)

clear_on : (default bad : ℕ) (part : Part) (rows : Rows) (from nr : ℕ) → SoFar default bad part rows from → from ≤ nr → nr < 2 ^ 32 → All (λ mark. from < mark → nr < mark) (marks_of part)
    → AreClear (saying_in_part default bad part nr)
clear_on default bad part rows from nr so_far up small all =
    subst AreClear (sym (same_between default bad part from nr up small all)) (so_far.clear from (omega arith))

pub none_so_far : (default bad : ℕ) (part : Part) (rows : Rows) → rows.rows.items ≡ [] → saying_of rows.before ≡ saying_in_part default bad part 0 → AreClear (saying_of rows.before) → IsSayingOfCode rows.before
    → SoFar default bad part rows 0
none_so_far default bad part rows none is clear good = record {
  start = subst (StartBelow 1) (sym none) (All-nil (λ (row : RowOfCode). row.start < 1));
  says = λ nr low. let first : 0 ≡ nr = omega (arith, low) in
      ap (λ (items : List RowOfCode). saying_in (map row_of items) (saying_of rows.before) nr) none ∙ is ∙ ap (saying_in_part default bad part) first;
  clear = λ nr low. let first : 0 ≡ nr = omega (arith, low) in subst AreClear (is ∙ ap (saying_in_part default bad part) first) clear;
  few = omega (arith, ap length none);
  good = subst (AreRows rows.before) (sym none) (record { below = good; each = All-nil IsRowOfCode; rising = tt });
  small = omega arith;
}

pub one_more_mark : (default bad : ℕ) (part : Part) (rows more : Rows) (from start : ℕ) (said : SayingOfCode) → SoFar default bad part rows from → next_mark part from ≡ Some start
    → saying_of said ≡ saying_in_part default bad part start → AreClear (saying_of said) → ((nr : ℕ) → said_at more nr ≡ (if nat_le start nr then saying_of said else said_at rows nr))
    → StartBelow (start + 1) more.rows.items → length more.rows.items ≤ length rows.rows.items + (if says_same (said_at rows (start - 1)) (saying_of said) then 0 else 1)
    → (AreRows rows.before rows.rows.items → AreRows more.before more.rows.items) → SoFar default bad part more start
one_more_mark default bad part rows more from start said so_far next is clear says behind few rows_too =
    let found = next_found part from start next in
    let nearest = none_nearer part from start next in
    let between : (nr : ℕ) → nr < start → All (λ mark. from < mark → nr < mark) (marks_of part) =
    λ nr less. All-weaker (λ mark. from < mark → start ≤ mark) (λ mark. from < mark → nr < mark) (λ mark past above. let far = past above in omega (arith, far, less)) (marks_of part) nearest in
    let last = start - 1 in
    let before : said_at rows last ≡ saying_in_part default bad part last =
    said_on default bad part rows from last so_far (omega (arith, found.0)) (omega (arith, found.1)) (between last (omega (arith, found.0))) in
    let grows : length more.rows.items ≤ length rows.rows.items + (if says_same (saying_in_part default bad part last) (saying_in_part default bad part start) then 0 else 1) =
    subst (λ now. length more.rows.items ≤ length rows.rows.items + (if says_same (saying_in_part default bad part last) now then 0 else 1)) is
    (subst (λ was. length more.rows.items ≤ length rows.rows.items + (if says_same was (saying_of said) then 0 else 1)) before few) in record {
      start = behind;
      says = λ nr low.
          says nr
          ∙ elim (cases_lt nr start) [
            | inl less ↦
                rw (lt-leb start nr less)
                (elim (cases_lt from nr) [
                  | inl past ↦ said_on default bad part rows from nr so_far (omega (arith, past)) (omega (arith, less, found.1)) (between nr less)
                  | inr within ↦ so_far.says nr within
                ])
            | inr up ↦ let same : start ≡ nr = omega (arith, low, up) in rw (le-leb start nr up) (is ∙ ap (saying_in_part default bad part) same)
          ];
      clear = λ nr low.
          elim (cases_lt nr start) [
            | inl less ↦
                elim (cases_lt from nr) [
                  | inl past ↦ clear_on default bad part rows from nr so_far (omega (arith, past)) (omega (arith, less, found.1)) (between nr less)
                  | inr within ↦ so_far.clear nr within
                ]
            | inr up ↦ let same : start ≡ nr = omega (arith, low, up) in subst AreClear (is ∙ ap (saying_in_part default bad part) same) clear
          ];
      few = omega (arith, grows, so_far.few, changes_grow default bad part from last (omega (arith, found.0)), change_at default bad part start (omega (arith, found.0)));
      good = rows_too so_far.good;
      small = found.1;
    }

module _ (default bad : ℕ) (part : Part) (rows : Rows) (from : ℕ) (so_far : SoFar default bad part rows from) (none : next_mark part from ≡ None) where
  no_more : (nr : ℕ) → nr < 2 ^ 32 → All (λ mark. from < mark → nr < mark) (marks_of part)
  no_more nr small =
      All-weaker (λ mark. from < mark → 2 ^ 32 ≤ mark) (λ mark. from < mark → nr < mark) (λ mark past above. let far = past above in omega (arith, far, small)) (marks_of part) (none_above part from none)

  pub all_said : (nr : ℕ) → nr < 2 ^ 32 → said_at rows nr ≡ saying_in_part default bad part nr
  all_said nr small =
      elim (cases_lt from nr) [
        | inl past ↦ said_on default bad part rows from nr so_far (omega (arith, past)) small (no_more nr small)
        | inr within ↦ so_far.says nr within
      ]

  pub all_clear : IsClearPart default bad part
  all_clear nr small =
      elim (cases_lt from nr) [
        | inl past ↦ clear_on default bad part rows from nr so_far (omega (arith, past)) small (no_more nr small)
        | inr within ↦ so_far.clear nr within
      ]

  pub all_few : length rows.rows.items ≤ changes default bad part (2 ^ 32 - 1)
  all_few = omega (arith, so_far.few, changes_grow default bad part from (2 ^ 32 - 1) (omega (arith, so_far.small)))
