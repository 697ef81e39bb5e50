-- The lines from under a filter, one after the other.
use Rattle.std.proofs.Common.{◌≡◌, ◌∙◌, ◌==◌, ◌&&◌, ◌||◌, not, ap, arith, refl, sym, subst, inl, inr, ℕ, List, [], ◌∷◌, ◌++◌, length, get_or, drop, cond, append_assoc, append-nil, Bool, true, false, BTreeSet, nat_cmp, is_some, Option, Some, None, Vec, Global}
use Rattle.std.proofs.lemmas.Bool.{cases_Bool, false≢true, or_parts}
use Rattle.std.proofs.lemmas.List.Folds.{list_any-append}
use Rattle.std.specs.BTreeMap.{is_at}
use Rattle.std.specs.Bool.{then_some}
use Rattle.std.specs.BTreeSet.{contains}
use Rattle.std.specs.List.{before_first, list_any, onto_first, position_or_len}
use Rattle.std.specs.Option.{option_map}
use Rattle.sk_text.specs.Lines.{lines_of}
use Rattle.sk_text.proofs.Cuts.{one_further}
use Rattle.sk_names.specs.declared.architecture.Architecture.{Architecture}
use Rattle.sk_replay.specs.declared.attaching.Scope.{Scope}
use Rattle.sk_replay.specs.Since.{Marked, attaches, from_attached, gets, is_other, is_outside, is_process, is_under, marked, may_get, process_of, scope_of, since_attached, since_behind}

or_nothing : (b : Bool) → (b || false) ≡ b
or_nothing true = refl
or_nothing false = refl

-- ---- the first that passes a test

module _ {X : Type 0} (p : X → Bool) where
  abbrev from_first : List X → List X
  from_first xs = drop (position_or_len p xs) xs

  -- where none of these does
  before_later : (xs ys : List X) → list_any p xs ≡ false → before_first p (xs ++ ys) ≡ xs ++ before_first p ys
  before_later [] ys h = refl
  before_later (x ∷ xs) ys h =
      let f = (or_parts (p x) (list_any p xs) h).0 in
      let rest = (or_parts (p x) (list_any p xs) h).1 in
      let here : before_first p (x ∷ (xs ++ ys)) ≡ x ∷ before_first p (xs ++ ys) = rw (f, one_further) refl in
      here ∙ ap (λ l. x ∷ l) (before_later xs ys rest)

  from_later : (xs ys : List X) → list_any p xs ≡ false → from_first (xs ++ ys) ≡ from_first ys
  from_later [] ys h = refl
  from_later (x ∷ xs) ys h =
      let f = (or_parts (p x) (list_any p xs) h).0 in
      let rest = (or_parts (p x) (list_any p xs) h).1 in
      let here : from_first (x ∷ (xs ++ ys)) ≡ from_first (xs ++ ys) = rw (f, one_further) refl in
      here ∙ from_later xs ys rest

  -- where one does
  before_there : (xs ys : List X) → list_any p xs ≡ true → before_first p (xs ++ ys) ≡ before_first p xs
  before_there [] ys h = absurd (false≢true h)
  before_there (x ∷ xs) ys h = elim (cases_Bool (p x)) [
    | inl t ↦ rw t refl
    | inr f ↦
        let all : before_first p (x ∷ (xs ++ ys)) ≡ x ∷ before_first p (xs ++ ys) = rw (f, one_further) refl in
        let here : before_first p (x ∷ xs) ≡ x ∷ before_first p xs = rw (f, one_further) refl in
        all ∙ ap (λ l. x ∷ l) (before_there xs ys (rw f at h)) ∙ sym here
  ]

  from_there : (xs ys : List X) → list_any p xs ≡ true → from_first (xs ++ ys) ≡ from_first xs ++ ys
  from_there [] ys h = absurd (false≢true h)
  from_there (x ∷ xs) ys h = elim (cases_Bool (p x)) [
    | inl t ↦ rw t refl
    | inr f ↦
        let all : from_first (x ∷ (xs ++ ys)) ≡ from_first (xs ++ ys) = rw (f, one_further) refl in
        let here : from_first (x ∷ xs) ≡ from_first xs = rw (f, one_further) refl in
        all ∙ from_there xs ys (rw f at h) ∙ sym (ap (λ l. l ++ ys) here)
  ]

  -- the one behind these
  before_next : (xs : List X) (x : X) → list_any p xs ≡ false → p x ≡ true → before_first p (xs ++ x ∷ []) ≡ xs
  before_next xs x none t =
      let here : before_first p (x ∷ []) ≡ [] = rw t refl in
      before_later xs (x ∷ []) none ∙ ap (λ l. xs ++ l) here ∙ append-nil xs

  from_next : (xs : List X) (x : X) → list_any p xs ≡ false → p x ≡ true → from_first (xs ++ x ∷ []) ≡ x ∷ []
  from_next xs x none t =
      let here : from_first (x ∷ []) ≡ x ∷ [] = rw t refl in
      from_later xs (x ∷ []) none ∙ here

  -- where none does, nor the one behind these
  before_none : (xs : List X) → list_any p xs ≡ false → before_first p xs ≡ xs
  before_none xs none = ap (before_first p) (sym (append-nil xs)) ∙ before_later xs [] none ∙ append-nil xs

  from_none : (xs : List X) → list_any p xs ≡ false → from_first xs ≡ []
  from_none xs none = ap from_first (sym (append-nil xs)) ∙ from_later xs [] none

  any_next : (xs : List X) (x : X) → list_any p (xs ++ x ∷ []) ≡ (list_any p xs || p x)
  any_next xs x = list_any-append p xs (x ∷ []) ∙ ap (λ b. list_any p xs || b) (or_nothing (p x))

-- ---- the processes without a filter

out_of_more : (a b c : Bool) → (a && not (b || c)) ≡ ((a && not b) && not c)
out_of_more true true c = refl
out_of_more true false c = refl
out_of_more false b c = refl

and_all : (b : Bool) → (b && true) ≡ b
and_all true = refl
and_all false = refl

module _ (lines : List Marked) (line : Marked) (process : ℕ) where
  abbrev here : Marked → Bool
  here other = is_process process (process_of other.0)

  abbrev next : List Marked
  next = lines ++ line ∷ []

  outside_there : list_any attaches lines ≡ true → is_outside next process ≡ (is_outside lines process && not (may_get process line))
  outside_there some =
      ap (λ l. list_any here l && not (list_any (may_get process) (from_attached next))) (before_there attaches lines (line ∷ []) some)
      ∙ ap (λ l. list_any here (before_first attaches lines) && not (list_any (may_get process) l)) (from_there attaches lines (line ∷ []) some)
      ∙ ap (λ b. list_any here (before_first attaches lines) && not b) (any_next (may_get process) (from_attached lines) line)
      ∙ out_of_more (list_any here (before_first attaches lines)) (list_any (may_get process) (from_attached lines)) (may_get process line)

  -- before the first attachment
  outside_before : list_any attaches lines ≡ false → is_outside lines process ≡ list_any here lines
  outside_before none =
      ap (λ l. list_any here l && not (list_any (may_get process) (from_attached lines))) (before_none attaches lines none)
      ∙ ap (λ l. list_any here lines && not (list_any (may_get process) l)) (from_none attaches lines none)
      ∙ and_all (list_any here lines)

  outside_first : list_any attaches lines ≡ false → attaches line ≡ true → is_outside next process ≡ (is_outside lines process && not (may_get process line))
  outside_first none it =
      ap (λ l. list_any here l && not (list_any (may_get process) (from_attached next))) (before_next attaches lines line none it)
      ∙ ap (λ l. list_any here lines && not (list_any (may_get process) l)) (from_next attaches lines line none it)
      ∙ ap (λ b. list_any here lines && not b) (or_nothing (may_get process line))
      ∙ ap (λ b. b && not (may_get process line)) (sym (outside_before none))

  outside_none : list_any attaches lines ≡ false → attaches line ≡ false → is_outside next process ≡ (is_outside lines process || is_process process (process_of line.0))
  outside_none none not_it =
      let all : list_any attaches next ≡ false = any_next attaches lines line ∙ ap (λ b. b || attaches line) none ∙ not_it in
      ap (λ l. list_any here l && not (list_any (may_get process) (from_attached next))) (before_none attaches next all)
      ∙ ap (λ l. list_any here next && not (list_any (may_get process) l)) (from_none attaches next all)
      ∙ and_all (list_any here next)
      ∙ any_next here lines line
      ∙ ap (λ b. b || here line) (sym (outside_before none))

  -- whether one of the lines attaches a filter, the next one among them
  outside_next : (is_attached : Bool) → is_attached ≡ list_any attaches next
      → is_outside next process ≡ cond is_attached (is_outside lines process && not (may_get process line)) (is_outside lines process || is_process process (process_of line.0))
  outside_next is_attached is = elim (cases_Bool (list_any attaches lines)) [
    | inl some ↦
        let t : is_attached ≡ true = is ∙ any_next attaches lines line ∙ ap (λ b. b || attaches line) some in
        rw t (outside_there some)
    | inr none ↦ elim (cases_Bool (attaches line)) [
      | inl it ↦
          let t : is_attached ≡ true = is ∙ any_next attaches lines line ∙ ap (λ b. b || attaches line) none ∙ it in
          rw t (outside_first none it)
      | inr not_it ↦
          let f : is_attached ≡ false = is ∙ any_next attaches lines line ∙ ap (λ b. b || attaches line) none ∙ not_it in
          rw f (outside_none none not_it)
    ]
  ]

-- ---- a line and its end

first_line : List (List ℕ) → List ℕ
first_line lines = get_or lines 0 []

Ends : List ℕ → Type 0
Ends line = (more : List ℕ) → lines_of (line ++ 10 ∷ more) ≡ line ∷ lines_of more

-- each line of a text is one where a line feed stands behind it
line_ends : (text line : List ℕ) (rest : List (List ℕ)) → lines_of text ≡ line ∷ rest → Ends line
unfolding first_line Ends
line_ends [] line rest h = absurd (omega (arith, ap length h))
line_ends (byte ∷ text) line rest h = elim (cases_Bool (byte == 10)) [
  | inl t ↦ subst Ends (ap first_line (rw t at h)) (λ more. refl)
  | inr f ↦ behind (lines_of text) (λ part parts is. line_ends text part parts is) f (rw f at h)
]
  where
    longer : (part : List ℕ) → Ends part → (byte == 10) ≡ false → Ends (byte ∷ part)
    longer part ends f more =
        let here : lines_of (byte ∷ (part ++ 10 ∷ more)) ≡ onto_first byte (lines_of (part ++ 10 ∷ more)) = rw f refl in
        here ∙ ap (onto_first byte) (ends more)

    behind : (lines : List (List ℕ)) → ((part : List ℕ) (parts : List (List ℕ)) → lines ≡ part ∷ parts → Ends part) → (byte == 10) ≡ false → onto_first byte lines ≡ line ∷ rest → Ends line
    behind [] ends f whole = subst Ends (ap first_line whole) (longer [] (λ more. refl) f)
    behind (part ∷ parts) ends f whole = subst Ends (ap first_line whole) (longer part (ends part parts refl) f)

-- ---- one line after the other

-- what is known after the lines that are done, and the text that they became
pub record Seen (by : Architecture) (is_attached : Bool) (outside : BTreeSet ℕ) (text : List ℕ) (rest all : List (List ℕ)) : Type 0 where
  pub done : List Marked
  pub told : List (List ℕ)
  pub whole : done ++ marked by rest ≡ marked by all
  pub some : is_attached ≡ list_any attaches done
  pub out : (process : ℕ) → contains nat_cmp outside process ≡ is_outside done process
  pub lines : (more : List ℕ) → lines_of (text ++ more) ≡ told ++ lines_of more
  pub since : since_behind [] (marked by all) ≡ told ++ since_behind done (marked by rest)

pub none_seen : (by : Architecture) (outside : BTreeSet ℕ) (text : List ℕ) (rest all : List (List ℕ)) → outside.keys ≡ [] → text ≡ [] → rest ≡ all → Seen by false outside text rest all
none_seen by outside text rest all no_key no_text same = record {
  done = [];
  told = [];
  whole = ap (marked by) same;
  some = refl;
  out = λ process. ap (λ keys. list_any (is_at (nat_cmp process)) keys) no_key;
  lines = λ more. ap (λ l. lines_of (l ++ more)) no_text;
  since = ap (λ l. since_behind [] (marked by l)) (sym same);
}

module _ (by : Architecture) (is_attached : Bool) (outside : BTreeSet ℕ) (text log left line : List ℕ) (rest : List (List ℕ))
    (cut : lines_of left ≡ line ∷ rest) (seen : Seen by is_attached outside text (lines_of left) (lines_of log)) where
  abbrev this : Marked
  this = (line, scope_of by line rest)

  -- what stands for the line
  abbrev shown : List ℕ
  shown = cond (is_under seen.done line) line []

  shown_ends : (more : List ℕ) → lines_of (shown ++ 10 ∷ more) ≡ shown ∷ lines_of more
  unfolding Ends
  shown_ends more = elim (cases_Bool (is_under seen.done line)) [
    | inl t ↦ rw t (line_ends left line rest cut more)
    | inr f ↦ rw f refl
  ]

  -- it is under a filter by what is known
  under_is : (process : Option ℕ) → process ≡ process_of line → (is_attached && is_other (contains nat_cmp outside) process) ≡ is_under seen.done line
  under_is process is = ap (λ b. b && is_other (contains nat_cmp outside) process) seen.some ∙ ap (λ b. list_any attaches seen.done && b) (other process ∙ ap (is_other (is_outside seen.done)) is)
    where
      other : (process : Option ℕ) → is_other (contains nat_cmp outside) process ≡ is_other (is_outside seen.done) process
      other None = refl
      other (Some process) = ap not (seen.out process)

  pub one_more : (is_next : Bool) (after : BTreeSet ℕ) (longer : List ℕ) (under : Bool) (process : Option ℕ) (scope : Option Scope)
      → process ≡ process_of line
      → under ≡ (is_attached && is_other (contains nat_cmp outside) process)
      → longer ≡ text ++ (cond under line [] ++ 10 ∷ [])
      → scope ≡ scope_of by line rest
      → is_next ≡ (is_attached || is_some scope)
      → ((p : ℕ) → contains nat_cmp after p ≡ cond is_next (contains nat_cmp outside p && not (gets p process scope line)) (contains nat_cmp outside p || is_process p process))
      → Seen by is_next after longer rest (lines_of log)
  one_more is_next after longer under process scope of_line is_under_is pushed attached is noted = record {
    done = seen.done ++ this ∷ [];
    told = seen.told ++ shown ∷ [];
    whole = append_assoc seen.done (this ∷ []) (marked by rest) ∙ ap (λ l. seen.done ++ marked by l) (sym cut) ∙ seen.whole;
    some = some_next;
    out = λ p. noted p
        ∙ ap (λ o. cond is_next (contains nat_cmp outside p && not (gets p o scope line)) (contains nat_cmp outside p || is_process p o)) of_line
        ∙ ap (λ o. cond is_next (contains nat_cmp outside p && not (gets p (process_of line) o line)) (contains nat_cmp outside p || is_process p (process_of line))) attached
        ∙ ap (λ b. cond is_next (b && not (may_get p this)) (b || is_process p (process_of line))) (seen.out p)
        ∙ sym (outside_next seen.done this p is_next some_next);
    lines = λ more. ap (λ l. lines_of (l ++ more)) text_is
        ∙ ap lines_of (append_assoc text (shown ++ 10 ∷ []) more ∙ ap (λ l. text ++ l) (append_assoc shown (10 ∷ []) more))
        ∙ seen.lines (shown ++ 10 ∷ more)
        ∙ ap (λ l. seen.told ++ l) (shown_ends more)
        ∙ sym (append_assoc seen.told (shown ∷ []) (lines_of more));
    since = seen.since
        ∙ ap (λ l. seen.told ++ since_behind seen.done (marked by l)) cut
        ∙ sym (append_assoc seen.told (shown ∷ []) (since_behind (seen.done ++ this ∷ []) (marked by rest)));
  }
    where
      some_next : is_next ≡ list_any attaches (seen.done ++ this ∷ [])
      some_next = is ∙ ap (λ b. b || is_some scope) seen.some ∙ ap (λ o. list_any attaches seen.done || is_some o) attached ∙ sym (any_next attaches seen.done this)

      text_is : longer ≡ text ++ (shown ++ 10 ∷ [])
      text_is = pushed ∙ ap (λ b. text ++ (cond b line [] ++ 10 ∷ [])) (is_under_is ∙ under_is process of_line)

module _ (by : Architecture) (is_attached : Bool) (outside : BTreeSet ℕ) (text : List ℕ) (rest all : List (List ℕ)) (none : rest ≡ []) (seen : Seen by is_attached outside text rest all) where
  pub all_attached : is_attached ≡ list_any attaches (marked by all)
  all_attached = seen.some ∙ ap (list_any attaches) (sym (append-nil seen.done) ∙ ap (λ l. seen.done ++ marked by l) (sym none) ∙ seen.whole)

  pub all_lines : lines_of text ≡ since_behind [] (marked by all)
  all_lines = ap lines_of (sym (append-nil text)) ∙ seen.lines [] ∙ sym (seen.since ∙ ap (λ l. seen.told ++ since_behind seen.done (marked by l)) none)

-- what is told where one of all lines attaches a filter, and only there
pub told : (by : Architecture) (is_attached : Bool) (text : Vec ℕ Global) (result : Option (Vec ℕ Global)) (all : List (List ℕ)) → result ≡ then_some is_attached text
    → is_attached ≡ list_any attaches (marked by all) → lines_of text.items ≡ since_behind [] (marked by all) → option_map (λ t. lines_of t.items) result ≡ since_attached by all
told by is_attached text result all is some lines =
    ap (option_map (λ t. lines_of t.items)) is
    ∙ mapped is_attached
    ∙ ap (λ l. cond is_attached (Some l) None) lines
    ∙ ap (λ b. cond b (Some (since_behind [] (marked by all))) None) some
  where
    mapped : (b : Bool) → option_map (λ t. lines_of t.items) (then_some b text) ≡ cond b (Some (lines_of text.items)) None
    mapped true = refl
    mapped false = refl
