-- Calls that come to each end of a tree, and to each end of a tree of terms that means the same.
use Rattle.std.proofs.Common.{◌≡◌, ℕ, suc, ◌<◌, ◌&&◌, ◌||◌, ◌⊎◌, inl, inr, Bool, true, false, cond, not, List, [], ◌∷◌, length, take, drop, filter, ap, sym, subst, ◌∙◌, refl, arith}
use Rattle.std.specs.List.{All, list_any, remove}
use Rattle.std.proofs.lemmas.List.Elements.{All-append, All-drop, All-filter, All-head, All-tail, All-take}
use Rattle.sk_insn.specs.declared.record.Record.{Record}
use Rattle.sk_insn.specs.Record.{IsNative}
use Rattle.sk_conditions.specs.declared.tree.Tree.{Tree}
use Rattle.sk_conditions.specs.declared.tree.Tree.TheVariants as tree
use Rattle.sk_conditions.specs.Conditions.{holds_on}
use Rattle.sk_conditions.specs.Meeting.{EachEndIsMet}
use Rattle.sk_terms.specs.declared.decision.Decision.{Decision}
use Rattle.sk_terms.specs.declared.decision.Decision.TheVariants.{Is, Untold, Ask'}
use Rattle.sk_terms.specs.declared.lines.Line.{Line}
use Rattle.sk_terms.specs.declared.choices.Choice.{Choice}
use Rattle.sk_terms.specs.Decisions.{EachEndIsMetBy}
use Rattle.sk_terms.specs.Lines.{meets_choices, meets_line, IsMetBy}
use Rattle.sk_terms.specs.Terms.{holds_term}

-- a call is one of some
abbrev pub Has : List Record → Record → Type 0
Has [] call = ⊥
Has (other ∷ others) call = (other ≡ call) ⊎ Has others call

pub one_of_all : (P : Record → Type 0) (calls : List Record) (call : Record) → All P calls → Has calls call → P call
one_of_all P [] call all has = absurd has
one_of_all P (other ∷ others) call all (inl same) = subst P same (All-head P other others all)
one_of_all P (other ∷ others) call all (inr rest) = one_of_all P others call (All-tail P other others all) rest

-- one that passes a test, which the first of them may pass
first_or_rest : (p : Record → Bool) (other : Record) (others kept : List Record) (call : Record) (b : Bool) → p other ≡ b
    → (Has kept call → Has others call × (p call ≡ true)) → Has (cond b (other ∷ kept) kept) call → Has (other ∷ others) call × (p call ≡ true)
first_or_rest p other others kept call true e rest (inl same) = (inl same, ap p (sym same) ∙ e)
first_or_rest p other others kept call true e rest (inr has) = let found = rest has in (inr found.0, found.1)
first_or_rest p other others kept call false e rest has = let found = rest has in (inr found.0, found.1)

pub of_filter : (p : Record → Bool) (calls : List Record) (call : Record) → Has (filter p calls) call → Has calls call × (p call ≡ true)
of_filter p [] call has = absurd has
of_filter p (other ∷ others) call has =
    first_or_rest p other others (filter p others) call (p other) refl (of_filter p others call) has

behind : (b : Bool) (other : Record) (kept : List Record) (call : Record) → Has kept call → Has (cond b (other ∷ kept) kept) call
behind true other kept call has = inr has
behind false other kept call has = has

into_filter : (p : Record → Bool) (calls : List Record) (call : Record) → Has calls call → p call ≡ true → Has (filter p calls) call
into_filter p [] call has passes = absurd has
into_filter p (other ∷ others) call (inl same) passes =
    subst (λ b. Has (cond b (other ∷ filter p others) (filter p others)) call) (sym (ap p same ∙ passes)) (inl same)
into_filter p (other ∷ others) call (inr rest) passes = behind (p other) other (filter p others) call (into_filter p others call rest passes)

some_more : (calls more : List Record) → ((call : Record) → Has calls call → Has more call) → 0 < length calls → 0 < length more
some_more [] more within some = absurd (omega arith)
some_more (call ∷ calls) [] within some = absurd (within call (inl refl))
some_more (call ∷ calls) (other ∷ others) within some = omega arith

kept_within : (p : Record → Bool) (calls more : List Record) → ((call : Record) → Has calls call → Has more call) → (call : Record) → Has (filter p calls) call
    → Has (filter p more) call
kept_within p calls more within call has = let found = of_filter p calls call has in into_filter p more call (within call found.0) found.1

-- more calls come to each end too
wider : (decision : Decision) (calls more : List Record) → ((call : Record) → Has calls call → Has more call) → EachEndIsMetBy calls decision
    → EachEndIsMetBy more decision
wider (Is value) calls more within met = some_more calls more within met
wider Untold calls more within met = some_more calls more within met
wider (Ask' term p held q failed) calls more within met =
    let yes : Record → Bool = λ call. holds_term term call in
    let no : Record → Bool = λ call. not (holds_term term call) in (
      wider held (filter yes calls) (filter yes more) (kept_within yes calls more within) met.0,
      wider failed (filter no calls) (filter no more) (kept_within no calls more within) met.1,
    )

pub passes_all : (decision : Decision) (calls : List Record) (p : Record → Bool) → EachEndIsMetBy (filter p calls) decision → EachEndIsMetBy calls decision
passes_all decision calls p met = wider decision (filter p calls) calls (λ call has. (of_filter p calls call has).0) met

pub passes_always : (decision : Decision) (calls : List Record) (p : Record → Bool) → ((call : Record) → p call ≡ true) → EachEndIsMetBy calls decision
    → EachEndIsMetBy (filter p calls) decision
passes_always decision calls p always met = wider decision calls (filter p calls) (λ call has. into_filter p calls call has (always call)) met

pub passes : (decision : Decision) (calls : List Record) (p q : Record → Bool) → ((call : Record) → p call ≡ true → q call ≡ true)
    → EachEndIsMetBy (filter p calls) decision → EachEndIsMetBy (filter q calls) decision
passes decision calls p q implies met =
    wider decision (filter p calls) (filter q calls)
    (λ call has. let found = of_filter p calls call has in into_filter q calls call found.0 (implies call found.1)) met

pub passes_both : (decision : Decision) (calls : List Record) (p q r : Record → Bool) → ((call : Record) → p call ≡ true → q call ≡ true → r call ≡ true)
    → EachEndIsMetBy (filter q (filter p calls)) decision → EachEndIsMetBy (filter r calls) decision
passes_both decision calls p q r implies met =
    wider decision (filter q (filter p calls)) (filter r calls)
    (λ call has.
    let second = of_filter q (filter p calls) call has in
    let first = of_filter p calls call second.0 in
    into_filter r calls call first.0 (implies call first.1 second.1)) met

-- the same of calls of x86-64
pub passes_native : (decision : Decision) (calls : List Record) (p q : Record → Bool) → All IsNative calls
    → ((call : Record) → IsNative call → p call ≡ true → q call ≡ true) → EachEndIsMetBy (filter p calls) decision → EachEndIsMetBy (filter q calls) decision
passes_native decision calls p q natives implies met =
    wider decision (filter p calls) (filter q calls)
    (λ call has.
    let found = of_filter p calls call has in into_filter q calls call found.0 (implies call (one_of_all IsNative calls call natives found.0) found.1)) met

-- where a call comes to each end of a tree there is one
pub some_of_tree : (it : Tree) (calls : List Record) → EachEndIsMet calls it → 0 < length calls
some_of_tree (tree.Is value) calls met = met
some_of_tree tree.Untold calls met = met
some_of_tree (tree.Ask' test p held q failed) calls met =
    let yes : Record → Bool = λ call. holds_on test call in
    some_more (filter yes calls) calls (λ call has. (of_filter yes calls call has).0) (some_of_tree held (filter yes calls) met.0)

-- ---- terms that are put together

pub first_holds : (a b joined : Bool) → joined ≡ (a || b) → a ≡ true → joined ≡ true
first_holds true b joined is e = is
first_holds false b joined is e = cc

pub neither_holds : (a b joined : Bool) → joined ≡ (a || b) → not a ≡ true → not b ≡ true → not joined ≡ true
neither_holds true b joined is e f = cc
neither_holds false true joined is e f = cc
neither_holds false false joined is e f = ap not is

pub both_hold : (a b joined : Bool) → joined ≡ (a && b) → a ≡ true → b ≡ true → joined ≡ true
both_hold true b joined is e f = is ∙ f
both_hold false b joined is e f = cc

pub first_fails : (a b joined : Bool) → joined ≡ (a && b) → not a ≡ true → not joined ≡ true
first_fails true b joined is e = cc
first_fails false b joined is e = ap not is

one_more : (b : Bool) (call : Record) (rest : List Record) (any : Bool) → (0 < length rest → any ≡ true) → 0 < length (cond b (call ∷ rest) rest) → (b || any) ≡ true
one_more true call rest any more some = refl
one_more false call rest any more some = more some

either_passes : (a b c d : Bool) → (a ≡ true → c ≡ true) → (b ≡ true → d ≡ true) → (a || b) ≡ true → (c || d) ≡ true
either_passes true b c d first second any = ap (λ x. x || d) (first refl)
either_passes false b true d first second any = refl
either_passes false b false d first second any = second any

second_holds : (a b : Bool) → b ≡ true → (a || b) ≡ true
second_holds true b e = refl
second_holds false b e = e

some_pass : (p : Record → Bool) (calls : List Record) → 0 < length (filter p calls) → list_any p calls ≡ true
some_pass p [] some = absurd (omega arith)
some_pass p (call ∷ calls) some = one_more (p call) call (filter p calls) (list_any p calls) (some_pass p calls) some

pub more_pass : (p q : Record → Bool) → ((call : Record) → p call ≡ true → q call ≡ true) → (calls : List Record) → list_any p calls ≡ true → list_any q calls ≡ true
more_pass p q implies [] any = any
more_pass p q implies (call ∷ calls) any =
    either_passes (p call) (list_any p calls) (q call) (list_any q calls) (implies call) (more_pass p q implies calls) any

-- a line that says what the terms on the way to an end say
pub end_met : (calls : List Record) (choices : List Choice) (line : Line) → ((call : Record) → meets_line line call ≡ meets_choices choices call)
    → 0 < length (filter (λ call. meets_choices choices call) calls) → IsMetBy calls line
end_met calls choices line says some =
    more_pass (λ call. meets_choices choices call) (λ call. meets_line line call) (λ call holds. says call ∙ holds) calls
    (some_pass (λ call. meets_choices choices call) calls some)

pub still_met : (calls : List Record) (line both : Line) (first : Record → Bool) → ((call : Record) → meets_line both call ≡ (first call || meets_line line call))
    → IsMetBy calls line → IsMetBy calls both
still_met calls line both first says met =
    more_pass (λ call. meets_line line call) (λ call. meets_line both call) (λ call holds. says call ∙ second_holds (first call) (meets_line line call) holds) calls met

pub same_met : (calls : List Record) (line written : Line) → ((call : Record) → meets_line written call ≡ meets_line line call) → IsMetBy calls line → IsMetBy calls written
same_met calls line written says met = more_pass (λ call. meets_line line call) (λ call. meets_line written call) (λ call holds. says call ∙ holds) calls met

pub all_but : (P : Line → Type 0) (lines : List Line) (i : ℕ) → All P lines → All P (remove lines i)
all_but P lines i all = All-append P (take i lines) (drop (suc i) lines) (All-take P i lines all) (All-drop P (suc i) lines all)

-- ---- a test of a tree

pub parted_met : (it : Tree) (decision : Decision) (calls : List Record) (f g : Record → Bool) → All IsNative calls
    → ((call : Record) → IsNative call → f call ≡ true → g call ≡ true)
    → ((some : List Record) → All IsNative some → EachEndIsMet some it → EachEndIsMetBy some decision)
    → EachEndIsMet (filter f calls) it → EachEndIsMetBy (filter g calls) decision
parted_met it decision calls f g natives implies so met =
    passes_native decision calls f g natives implies (so (filter f calls) (All-filter f IsNative calls natives) met)

pub side_met : (it : Tree) (decision : Decision) (calls : List Record) (f : Record → Bool) → All IsNative calls
    → ((some : List Record) → All IsNative some → EachEndIsMet some it → EachEndIsMetBy some decision)
    → EachEndIsMet (filter f calls) it → EachEndIsMetBy calls decision
side_met it decision calls f natives so met = passes_all decision calls f (so (filter f calls) (All-filter f IsNative calls natives) met)
