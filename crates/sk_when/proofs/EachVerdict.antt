-- A call that comes to each end of a tree of differences gets each verdict.
use Rattle.std.proofs.Common.{◌≡◌, ℕ, zero, suc, ◌<◌, ◌==◌, ◌||◌, ◌⊎◌, inl, inr, Bool, true, false, cond, not, if◌then◌else◌, List, [], ◌∷◌, map, ◌++◌, ◌≤◌, length, filter, Option, Some, None, ap, sym, subst, ◌∙◌, refl, arith}
use Rattle.std.specs.Option.{option_map_or}
use Rattle.std.specs.List.{All}
use Rattle.std.proofs.lemmas.List.Elements.{All-head, All-tail}
use Rattle.std.proofs.lemmas.Bool.{eqb-true, eq-eqb}
use Rattle.sk_insn.specs.declared.insn.Insn.{Insn}
use Rattle.sk_insn.specs.declared.record.Record.{Record}
use Rattle.sk_filter.specs.Verdict.{verdict_of}
use Rattle.sk_survey.specs.Answers.{IsCallOf}
use Rattle.sk_conditions.specs.declared.differences.Verdicts.{Verdicts}
use Rattle.sk_conditions.specs.declared.standing.Relation.TheVariants.{Same}
use Rattle.sk_conditions.specs.declared.tree.Tree.{Tree}
use Rattle.sk_conditions.specs.declared.tree.Tree.TheVariants.{Is, Untold, Ask'}
use Rattle.sk_conditions.specs.Conditions.{holds_on, told}
use Rattle.sk_conditions.specs.Differing.{SaysOf}
use Rattle.sk_conditions.specs.Followed.{TellsAll}
use Rattle.sk_conditions.specs.Meeting.{EachEndIsMet}
use Rattle.sk_when.specs.declared.judged.Judged.{Judged}
use Rattle.sk_show.specs.Examples.{plain_call}
use Rattle.sk_when.specs.Verdicts.{IsJudged, have_verdict, judged_of}

-- a call is one of some
abbrev Has : List Record → Record → Type 0
Has [] call = ⊥
Has (other ∷ others) call = (other ≡ call) ⊎ Has others call

-- one that passes a test, which the first of them may pass
first_or_rest : (p : Record → Bool) (other : Record) (others kept : List Record) (call : Record) (b : Bool) → p other ≡ b
    → (Has kept call → Has others call × (p call ≡ true)) → Has (cond b (other ∷ kept) kept) call → Has (other ∷ others) call × (p call ≡ true)
first_or_rest p other others kept call true e rest (inl same) = (inl same, ap p (sym same) ∙ e)
first_or_rest p other others kept call true e rest (inr has) = let found = rest has in (inr found.0, found.1)
first_or_rest p other others kept call false e rest has = let found = rest has in (inr found.0, found.1)

of_filter : (p : Record → Bool) (calls : List Record) (call : Record) → Has (filter p calls) call → Has calls call × (p call ≡ true)
of_filter p [] call has = absurd has
of_filter p (other ∷ others) call has =
    first_or_rest p other others (filter p others) call (p other) refl (of_filter p others call) has

-- one of the calls comes to the end that a call comes to
abbrev ComesAlong : List Record → Tree → Record → Type 0
ComesAlong calls tree call = (it : Record) × Has calls it × (told tree it ≡ told tree call)

some_along : (calls : List Record) (tree : Tree) (call : Record) → ((it : Record) → told tree it ≡ told tree call) → 0 < length calls → ComesAlong calls tree call
some_along [] tree call same some = absurd (omega (arith, some))
some_along (it ∷ calls) tree call same some = (it, inl refl, same it)

fails : (b : Bool) → not b ≡ true → b ≡ false
fails false e = refl
fails true e = sym e

by_answer : (b : Bool) (held failed tree : Tree) (holds : Record → Bool) (calls : List Record) (call : Record) → holds call ≡ b
    → ((it : Record) → told tree it ≡ (if holds it then told held it else told failed it))
    → ComesAlong (filter holds calls) held call → ComesAlong (filter (λ it. not (holds it)) calls) failed call → ComesAlong calls tree call
by_answer true held failed tree holds calls call e is one other =
    let of = of_filter holds calls one.0 one.1 in
    (one.0, of.0, is one.0 ∙ ap (λ b. if b then told held one.0 else told failed one.0) of.1 ∙ one.2 ∙ sym (is call ∙ ap (λ b. if b then told held call else told failed call) e))
by_answer false held failed tree holds calls call e is one other =
    let of = of_filter (λ it. not (holds it)) calls other.0 other.1 in (
      other.0,
      of.0,
      is other.0 ∙ ap (λ b. if b then told held other.0 else told failed other.0) (fails (holds other.0) of.1) ∙ other.2
          ∙ sym (is call ∙ ap (λ b. if b then told held call else told failed call) e),
    )

comes_along : (tree : Tree) (calls : List Record) (call : Record) → EachEndIsMet calls tree → ComesAlong calls tree call
comes_along (Is value) calls call met = some_along calls (Is value) call (λ it. refl) met
comes_along Untold calls call met = some_along calls Untold call (λ it. refl) met
comes_along (Ask' test p held q failed) calls call met =
    by_answer (holds_on test call) held failed (Ask' test p held q failed) (holds_on test) calls call refl (λ it. refl)
    (comes_along held (filter (holds_on test) calls) call met.0) (comes_along failed (filter (λ it. not (holds_on test it)) calls) call met.1)

abbrev IsTold : Option ℕ → Type 0
IsTold None = ⊥
IsTold (Some value) = Unit {0}

told_if : (b : Bool) (one other : Option ℕ) → IsTold one → IsTold other → IsTold (if b then one else other)
told_if true one other is is' = is
told_if false one other is is' = is'

all_told : (tree : Tree) (call : Record) → TellsAll tree → IsTold (told tree call)
all_told (Is value) call all = tt
all_told Untold call all = absurd all
all_told (Ask' test p held q failed) call all =
    told_if (holds_on test call) (told held call) (told failed call) (all_told held call all.1.0) (all_told failed call all.1.1)

-- what is told is of one verdict alone
one_verdict : (pairs : List Verdicts) (v w beside : ℕ) (it : Option ℕ) → IsTold it → SaysOf Same pairs v beside it → SaysOf Same pairs w beside it → v ≡ w
one_verdict pairs v w beside None told one other = absurd told
one_verdict pairs v w beside (Some zero) told one other = eqb-true v beside one ∙ sym (eqb-true w beside other)
one_verdict pairs v w beside (Some (suc i)) told one other = ap (λ o. option_map_or (λ it. it.old) o v) (sym one ∙ other)

either_true : (b c : Bool) → c ≡ true → (b || c) ≡ true
either_true true c e = refl
either_true false c e = e

first_true : (b c : Bool) → b ≡ true → (b || c) ≡ true
first_true true c e = refl
first_true false c e = absurd (let wrong : false ≡ true = e in cc)

has_verdict : (programs : List (List Insn)) (calls : List Record) (value : ℕ) (it : Record) → Has calls it → verdict_of programs it ≡ value
    → have_verdict (map (judged_of programs) calls) value ≡ true
has_verdict programs [] value it has same = absurd has
has_verdict programs (call ∷ calls) value it (inl is) same =
    first_true (verdict_of programs call == value) (have_verdict (map (judged_of programs) calls) value)
    (eq-eqb (verdict_of programs call) value (ap (verdict_of programs) is ∙ same))
has_verdict programs (call ∷ calls) value it (inr rest) same =
    either_true (verdict_of programs call == value) (have_verdict (map (judged_of programs) calls) value) (has_verdict programs calls value it rest same)

has_call : (P : Record → Type 0) (calls : List Record) (call : Record) → All P calls → Has calls call → P call
has_call P [] call all has = absurd has
has_call P (other ∷ others) call all (inl same) = subst P same (All-head P other others all)
has_call P (other ∷ others) call all (inr rest) = has_call P others call (All-tail P other others all) rest

-- each verdict of a call is that of one that comes to the same end
pub each_verdict : (programs : List (List Insn)) (first last beside : ℕ) (pairs : List Verdicts) (tree : Tree) (calls : List Record)
    → All (IsCallOf first last) calls → EachEndIsMet calls tree → TellsAll tree
    → ((call : Record) → IsCallOf first last call → SaysOf Same pairs (verdict_of programs call) beside (told tree call))
    → (call : Record) → IsCallOf first last call → have_verdict (map (judged_of programs) calls) (verdict_of programs call) ≡ true
each_verdict programs first last beside pairs tree calls within met all says call is =
    let along = comes_along tree calls call met in
    let it = along.0 in
    let other = subst (SaysOf Same pairs (verdict_of programs it) beside) along.2 (says it (has_call (IsCallOf first last) calls it within along.1)) in
    has_verdict programs calls (verdict_of programs call) it along.1
    (one_verdict pairs (verdict_of programs it) (verdict_of programs call) beside (told tree call) (all_told tree call all) other (says call is))

-- calls behind the plain one, each with its verdict
pub begins_with : (programs : List (List Insn)) (plain : Record) (calls given : List Record) (one : Judged) (start pushed items : List Judged) → start ≡ [] → one ≡ judged_of programs plain
    → pushed ≡ start ++ one ∷ [] → given ≡ calls → items ≡ pushed ++ map (judged_of programs) given → items ≡ map (judged_of programs) (plain ∷ calls)
begins_with programs plain calls given one start pushed items none is pushes same all =
    all ∙ (λ i. pushes i ++ map (judged_of programs) (same i)) ∙ (λ i. (none i ++ is i ∷ []) ++ map (judged_of programs) calls)

pub all_judged : (programs : List (List Insn)) (first last : ℕ) (calls : List Record) → All (IsCallOf first last) calls → All (IsJudged programs first last) (map (judged_of programs) calls)
all_judged programs first last [] within k d less = absurd (omega (arith, less))
all_judged programs first last (call ∷ calls) within zero d less = (All-head (IsCallOf first last) call calls within, refl)
all_judged programs first last (call ∷ calls) within (suc k) d less =
    all_judged programs first last calls (All-tail (IsCallOf first last) call calls within) k d (omega (arith, less))

-- with the plain call before them they have each verdict too
pub with_plain : (programs : List (List Insn)) (plain : Record) (calls : List Record) (value : ℕ) → have_verdict (map (judged_of programs) calls) value ≡ true
    → have_verdict (map (judged_of programs) (plain ∷ calls)) value ≡ true
with_plain programs plain calls value has = either_true (verdict_of programs plain == value) (have_verdict (map (judged_of programs) calls) value) has

pub plain_is_call : (first last : ℕ) (plain : Record) → plain ≡ plain_call first → first ≤ last → IsCallOf first last plain
plain_is_call first last plain is range = subst (IsCallOf first last) (sym is) (refl, (omega arith, range))
