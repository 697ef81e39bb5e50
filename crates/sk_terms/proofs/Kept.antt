-- A list in which an element is put in or taken out.
use Rattle.std.proofs.Common.{◌≡◌, ℕ, zero, suc, ◌+◌, ◌<◌, ◌&&◌, ◌||◌, Bool, true, false, List, [], ◌∷◌, take, drop, length, get_or, not, Option, Some, IfSome, subst, sym, ap, ◌∙◌, refl, arith}
use Rattle.std.specs.List.{list_all, list_any, insert, remove}
use Rattle.std.proofs.lemmas.List.{take-append-drop}
use Rattle.std.proofs.lemmas.List.Folds.{list_all-append, list_any-append}
use Rattle.sk_insn.specs.declared.record.Record.{Record}
use Rattle.sk_terms.specs.declared.choices.Choice.{Choice}
use Rattle.sk_terms.specs.declared.term.Term.{Term}
use Rattle.sk_terms.specs.Terms.{holds_term}
use Rattle.sk_terms.specs.Lines.{holds_choice, holds_one, meets_choices}
use Rattle.sk_terms.proofs.Meeting.{swapped, parted}
use Rattle.sk_terms.proofs.Together.{and_true}

pub all_with : {X : Type 0} (p : X → Bool) → (xs : List X) (i : ℕ) (y : X) → list_all p (insert xs i y) ≡ (list_all p xs && p y)
all_with p xs i y =
    list_all-append p (take i xs) (y ∷ drop i xs)
    ∙ ap (λ b. list_all p (take i xs) && b) (swapped (p y) (list_all p (drop i xs)))
    ∙ parted (list_all p (take i xs)) (list_all p (drop i xs)) (p y)
    ∙ ap (λ b. b && p y) (sym (list_all-append p (take i xs) (drop i xs)) ∙ ap (list_all p) (take-append-drop i xs))

pub all_without : {X : Type 0} (p : X → Bool) → (xs : List X) (i : ℕ) (d : X) → i < length xs → list_all p xs ≡ (list_all p (remove xs i) && p (get_or xs i d))
all_without p [] i d less = absurd (omega arith)
all_without p (x ∷ xs) zero d less = swapped (p x) (list_all p xs)
all_without p (x ∷ xs) (suc i) d less =
    ap (λ b. p x && b) (all_without p xs i d (omega arith)) ∙ parted (p x) (list_all p (remove xs i)) (p (get_or xs i d))

-- a choice that is put together with another one takes the place of both
pub put_together : (choices seen kept : List Choice) (at : ℕ) (choice joined : Choice) (call : Record) → seen ≡ choices → at < length seen → kept ≡ remove choices at
    → holds_choice joined call ≡ (holds_choice (get_or seen at choice) call && holds_choice choice call)
    → (meets_choices kept call && holds_choice joined call) ≡ (meets_choices choices call && holds_choice choice call)
put_together choices seen kept at choice joined call same less is both =
    ap (λ b. meets_choices kept call && b) both
    ∙ parted (meets_choices kept call) (holds_choice (get_or seen at choice) call) (holds_choice choice call)
    ∙ ap (λ xs. (meets_choices xs call && holds_choice (get_or seen at choice) call) && holds_choice choice call) (is ∙ ap (λ xs. remove xs at) (sym same))
    ∙ ap (λ b. b && holds_choice choice call) (sym (all_without (λ c. holds_choice c call) seen at choice less) ∙ ap (λ xs. meets_choices xs call) same)

or_swapped : (a b : Bool) → (a || b) ≡ (b || a)
or_swapped true true = refl
or_swapped true false = refl
or_swapped false true = refl
or_swapped false false = refl

or_parted : (a b c : Bool) → (a || (b || c)) ≡ ((a || b) || c)
or_parted true b c = refl
or_parted false b c = refl

pub any_with : {X : Type 0} (p : X → Bool) → (xs : List X) (i : ℕ) (y : X) → list_any p (insert xs i y) ≡ (list_any p xs || p y)
any_with p xs i y =
    list_any-append p (take i xs) (y ∷ drop i xs)
    ∙ ap (λ b. list_any p (take i xs) || b) (or_swapped (p y) (list_any p (drop i xs)))
    ∙ or_parted (list_any p (take i xs)) (list_any p (drop i xs)) (p y)
    ∙ ap (λ b. b || p y) (sym (list_any-append p (take i xs) (drop i xs)) ∙ ap (list_any p) (take-append-drop i xs))

any_without : {X : Type 0} (p : X → Bool) → (xs : List X) (i : ℕ) (d : X) → i < length xs → list_any p xs ≡ (list_any p (remove xs i) || p (get_or xs i d))
any_without p [] i d less = absurd (omega arith)
any_without p (x ∷ xs) zero d less = or_swapped (p x) (list_any p xs)
any_without p (x ∷ xs) (suc i) d less =
    ap (λ b. p x || b) (any_without p xs i d (omega arith)) ∙ or_parted (p x) (list_any p (remove xs i)) (p (get_or xs i d))

-- a term of a choice that is one term with another one takes the place of both
pub put_beside : (terms seen kept : List Term) (at : ℕ) (term joined : Term) (call : Record) → seen ≡ terms → at < length seen → kept ≡ remove terms at
    → holds_term joined call ≡ (holds_term (get_or seen at term) call || holds_term term call)
    → (list_any (λ t. holds_term t call) kept || holds_term joined call) ≡ (list_any (λ t. holds_term t call) terms || holds_term term call)
put_beside terms seen kept at term joined call same less is either =
    ap (λ b. list_any (λ t. holds_term t call) kept || b) either
    ∙ or_parted (list_any (λ t. holds_term t call) kept) (holds_term (get_or seen at term) call) (holds_term term call)
    ∙ ap (λ xs. (list_any (λ t. holds_term t call) xs || holds_term (get_or seen at term) call) || holds_term term call) (is ∙ ap (λ xs. remove xs at) (sym same))
    ∙ ap (λ b. b || holds_term term call) (sym (any_without (λ t. holds_term t call) seen at term less) ∙ ap (λ xs. list_any (λ t. holds_term t call) xs) same)

spread : (rest a b : Bool) → (rest && (a || b)) ≡ ((rest && a) || (rest && b))
spread true a b = refl
spread false a b = refl

met_apart : (one other : List Choice) (first second : Choice) (at : ℕ) (call : Record) → at < length one → at < length other
    → first ≡ get_or one at first → second ≡ get_or other at second → meets_choices (remove one at) call ≡ meets_choices (remove other at) call
    → (meets_choices (remove one at) call && (holds_choice first call || holds_choice second call)) ≡ (meets_choices one call || meets_choices other call)
met_apart one other first second at call less there a b others =
    let p : Choice → Bool = λ choice. holds_choice choice call in
    let of_one : meets_choices one call ≡ (meets_choices (remove one at) call && holds_choice first call) =
    all_without p one at first less ∙ ap (λ x. meets_choices (remove one at) call && holds_choice x call) (sym a) in
    let of_other : meets_choices other call ≡ (meets_choices (remove other at) call && holds_choice second call) =
    all_without p other at second there ∙ ap (λ x. meets_choices (remove other at) call && holds_choice x call) (sym b) in
    spread (meets_choices (remove one at) call) (holds_choice first call) (holds_choice second call)
    ∙ ap (λ x. (meets_choices (remove one at) call && holds_choice first call) || (x && holds_choice second call)) others
    ∙ ap (λ x. x || (meets_choices (remove other at) call && holds_choice second call)) (sym of_one)
    ∙ ap (λ x. meets_choices one call || x) (sym of_other)

-- two lists of choices that differ in one
pub met_together : (one other after rest : List Choice) (first second both : Choice) (at : ℕ) (call : Record) → at < length one → at < length other
    → rest ≡ remove one at → after ≡ insert rest at both → first ≡ get_or one at first → second ≡ get_or other at second
    → holds_choice both call ≡ (holds_choice first call || holds_choice second call)
    → meets_choices (remove one at) call ≡ meets_choices (remove other at) call
    → meets_choices after call ≡ (meets_choices one call || meets_choices other call)
met_together one other after rest first second both at call less there is made a b either others =
    ap (λ xs. meets_choices xs call) made
    ∙ all_with (λ choice. holds_choice choice call) rest at both
    ∙ ap (λ xs. meets_choices xs call && holds_choice both call) is
    ∙ ap (λ x. meets_choices (remove one at) call && x) either
    ∙ met_apart one other first second at call less there a b others

-- the same where one of the two always holds
pub met_always : (one other rest : List Choice) (first second : Choice) (at : ℕ) (call : Record) → at < length one → at < length other
    → rest ≡ remove one at → first ≡ get_or one at first → second ≡ get_or other at second
    → (holds_choice first call || holds_choice second call) ≡ true
    → meets_choices (remove one at) call ≡ meets_choices (remove other at) call
    → meets_choices rest call ≡ (meets_choices one call || meets_choices other call)
met_always one other rest first second at call less there is a b all others =
    ap (λ xs. meets_choices xs call) is
    ∙ sym (and_true (meets_choices (remove one at) call))
    ∙ ap (λ x. meets_choices (remove one at) call && x) (sym all)
    ∙ met_apart one other first second at call less there a b others

all_around : {X : Type 0} (p : X → Bool) → (xs : List X) (i : ℕ) → list_all p (remove xs i) ≡ (list_all p (take i xs) && list_all p (drop (suc i) xs))
all_around p [] zero = refl
all_around p [] (suc i) = refl
all_around p (x ∷ xs) zero = refl
all_around p (x ∷ xs) (suc i) = ap (λ b. p x && b) (all_around p xs i) ∙ parted (p x) (list_all p (take i xs)) (list_all p (drop (suc i) xs))

pub all_removed : {X : Type 0} (p : X → Bool) → (xs : List X) (i : ℕ) → list_all p (remove xs i) ≡ (list_all p (take i xs) && list_all p (drop (i + 1) xs))
all_removed p xs i = let e : suc i ≡ i + 1 = omega arith in all_around p xs i ∙ ap (λ j. list_all p (take i xs) && list_all p (drop j xs)) e

pub get_same : {X : Type 0} → (xs : List X) (i : ℕ) (d e : X) → i < length xs → get_or xs i d ≡ get_or xs i e
get_same [] i d e less = absurd (omega arith)
get_same (x ∷ xs) zero d e less = refl
get_same (x ∷ xs) (suc i) d e less = get_same xs i d e (omega arith)

-- lists of choices that say the same before a place and behind it
pub others_same : (one other : List Choice) (at : ℕ) (call : Record) → meets_choices (take at one) call ≡ meets_choices (take at other) call
    → meets_choices (drop (at + 1) one) call ≡ meets_choices (drop (at + 1) other) call
    → meets_choices (remove one at) call ≡ meets_choices (remove other at) call
others_same one other at call before behind =
    let p : Choice → Bool = λ choice. holds_choice choice call in
    all_removed p one at
    ∙ ap (λ b. b && meets_choices (drop (at + 1) one) call) before
    ∙ ap (λ b. meets_choices (take at other) call && b) behind
    ∙ sym (all_removed p other at)

-- none of some terms holds
abbrev pub holds_none : List Term → Record → Bool
holds_none terms call = list_all (λ term. not (holds_term term call)) terms

pub none_holds : (terms : List Term) (call : Record) → holds_none terms call ≡ not (holds_one terms call)
none_holds [] call = refl
none_holds (term ∷ terms) call = ap (λ b. not (holds_term term call) && b) (none_holds terms call) ∙ apart (holds_term term call) (holds_one terms call) where
  apart : (a b : Bool) → (not a && not b) ≡ not (a || b)
  apart true b = refl
  apart false b = refl

pub known : {X : Type 0} (found : Option X) (x : X) (p : X → Type 0) → found ≡ Some x → IfSome found p → p x
known found x p is holds = subst (λ it. IfSome it p) is holds

-- one of some terms more may hold beside a term
pub one_more_within : (old term seen other now joined : Bool) → now ≡ (old || (term && seen)) → joined ≡ (term && other) → (now || joined) ≡ (old || (term && (seen || other)))
one_more_within old true seen other now joined e f = ap (λ n. n || joined) e ∙ ap (λ j. (old || seen) || j) f ∙ sym (or_parted old seen other)
one_more_within true false seen other now joined e f = ap (λ n. n || joined) e
one_more_within false false seen other now joined e f = ap (λ n. n || joined) e ∙ f
