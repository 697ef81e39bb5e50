-- Ways with a call at hand, and the calls that come to the ends of a tree.
use Rattle.std.proofs.Common.{◌≡◌, ℕ, zero, suc, ◌*◌, ◌<◌, ◌≤◌, Bool, true, false, not, if◌then◌else◌, List, [], ◌∷◌, ◌++◌, length, slice_index_or, Some, Result, Ok, Err, IfOk, sym, subst, ap, ◌∙◌, refl, arith, append-nil}
use Rattle.std.specs.Prelude.{filter}
use Rattle.std.specs.List.{All}
use Rattle.std.proofs.lemmas.List.{append_assoc}
use Rattle.std.proofs.lemmas.List.Elements.{All-append, filter-append}
use Rattle.sk_insn.specs.declared.record.Record.{Record}
use Rattle.sk_insn.specs.Record.{native, word_of}
use Rattle.sk_survey.specs.Answers.{IsCallOf}
use Rattle.sk_conditions.specs.declared.numbers.Numbers.{Numbers}
use Rattle.sk_conditions.specs.declared.path.Path.{Path}
use Rattle.sk_conditions.specs.declared.path.Path.TheVariants.{Start}
use Rattle.sk_conditions.specs.declared.test.Test.{Test}
use Rattle.sk_conditions.specs.declared.tree.Tree.{Tree}
use Rattle.sk_conditions.specs.declared.tree.Tree.TheVariants.{Is, Untold, Ask'}
use Rattle.sk_conditions.specs.Conditions.{holds_on}
use Rattle.sk_conditions.specs.Differing.{AreMet}
use Rattle.sk_conditions.specs.Following.{MeetsPath}
use Rattle.sk_conditions.specs.Meeting.{EachEndIsMet}
use Rattle.sk_conditions.specs.Ways.{ComesTo, IsEnd, IsMetOn, IsOn}
use Rattle.sk_conditions.proofs.Calls.{call_meets}
use Rattle.sk_conditions.proofs.RecordOfWords.{record_from, words_there}

-- a record of the words is on the way
pub on_way : (numbers : Numbers) (path : Path) (call : Record) (words : List ℕ) → ComesTo numbers path words
    → call.nr ≡ slice_index_or words 0 0 → call.arch ≡ slice_index_or words 1 0
    → ((index : ℕ) → index < 16 → word_of call (4 * index) ≡ Some (slice_index_or words index 0)) → IsOn numbers path call
on_way numbers path call words comes number arch there = (
  (
    arch ∙ comes.1.1,
    (subst (λ n. numbers.first ≤ n) (sym number) comes.1.0.0, subst (λ n. n ≤ numbers.last) (sym number) comes.1.0.1),
  ),
  call_meets path call words comes.0 comes.2 there,
)

one_is : {A : Type 0} (P : A → Type 0) (x : A) → P x → All P (x ∷ [])
one_is P x is zero d less = is
one_is P x is (suc k) d less = absurd (omega (arith, less))

all_more : {A : Type 0} (P Q : A → Type 0) (xs : List A) → ((x : A) → P x → Q x) → All P xs → All Q xs
all_more P Q xs more all k d less = more (slice_index_or xs k d) (all k d less)

-- one call comes to the only end
pub met_at_end : (numbers : Numbers) (path : Path) (words : List ℕ) (tree : Tree) → ComesTo numbers path words → IsEnd tree → IsMetOn numbers path tree
met_at_end numbers path words tree comes end =
    let call = record_from (λ i. slice_index_or words i 0) in (
      call ∷ [],
      one_is (IsOn numbers path) call (on_way numbers path call words comes refl refl (words_there (λ i. slice_index_or words i 0) comes.1.2)),
      at_end tree end,
    ) where
      at_end : (tree : Tree) → IsEnd tree → EachEndIsMet (record_from (λ i. slice_index_or words i 0) ∷ []) tree
      at_end (Is value) end = omega arith
      at_end Untold end = omega arith
      at_end (Ask' test p held q failed) end = absurd end

-- calls that pass, before others that do not
keeps_all : {A : Type 0} (p : A → Bool) (xs : List A) → All (λ x. p x ≡ true) xs → filter p xs ≡ xs
keeps_all p [] all = refl
keeps_all p (x ∷ xs) all =
    ap (λ b. if b then x ∷ filter p xs else filter p xs) (all 0 x (omega arith))
    ∙ ap (λ ys. x ∷ ys) (keeps_all p xs (λ k d less. all (suc k) d (omega (arith, less))))

keeps_none : {A : Type 0} (p : A → Bool) (xs : List A) → All (λ x. p x ≡ false) xs → filter p xs ≡ []
keeps_none p [] all = refl
keeps_none p (x ∷ xs) all =
    ap (λ b. if b then x ∷ filter p xs else filter p xs) (all 0 x (omega arith))
    ∙ keeps_none p xs (λ k d less. all (suc k) d (omega (arith, less)))

keeps_first : {A : Type 0} (p : A → Bool) (xs ys : List A) → All (λ x. p x ≡ true) xs → All (λ x. p x ≡ false) ys → filter p (xs ++ ys) ≡ xs
keeps_first p xs ys pass fail =
    filter-append p xs ys ∙ ap (λ zs. zs ++ filter p ys) (keeps_all p xs pass) ∙ ap (λ zs. xs ++ zs) (keeps_none p ys fail) ∙ append-nil xs

keeps_last : {A : Type 0} (p : A → Bool) (xs ys : List A) → All (λ x. p x ≡ false) xs → All (λ x. p x ≡ true) ys → filter p (xs ++ ys) ≡ ys
keeps_last p xs ys fail pass =
    filter-append p xs ys ∙ ap (λ zs. zs ++ filter p ys) (keeps_none p xs fail) ∙ keeps_all p ys pass

-- calls on the way, on which the test comes out so
abbrev AreBeyond : Numbers → Path → Test → Bool → List Record → Type 0
AreBeyond numbers path test answer calls =
    All (λ call. IsCallOf numbers.first numbers.last call × ((holds_on test call ≡ answer) × MeetsPath path call)) calls

-- a tree of two others is met by the calls of both
abbrev Asks : Test → Tree → Tree → Tree → Type 0
Asks test held failed tree =
    (calls : List Record) → EachEndIsMet (filter (λ call. holds_on test call) calls) held
    → EachEndIsMet (filter (λ call. not (holds_on test call)) calls) failed → EachEndIsMet calls tree

met_both : (numbers : Numbers) (path : Path) (test : Test) (some others : List Record) (held failed tree : Tree)
    → AreBeyond numbers path test true some → AreBeyond numbers path test false others → EachEndIsMet some held → EachEndIsMet others failed
    → Asks test held failed tree → All (IsOn numbers path) (some ++ others) × EachEndIsMet (some ++ others) tree
met_both numbers path test some others held failed tree on_held on_failed met met_too asks = (
  All-append (IsOn numbers path) some others
      (λ k d less. let on = on_held k d less in (on.0, on.1.1)) (λ k d less. let on = on_failed k d less in (on.0, on.1.1)),
  asks (some ++ others)
      (subst (λ calls. EachEndIsMet calls held)
      (sym (keeps_first (λ call. holds_on test call) some others (λ k d less. (on_held k d less).1.0) (λ k d less. (on_failed k d less).1.0))) met)
      (subst (λ calls. EachEndIsMet calls failed)
      (sym (keeps_last (λ call. not (holds_on test call)) some others (λ k d less. ap not (on_held k d less).1.0) (λ k d less. ap not (on_failed k d less).1.0))) met_too),
)

abbrev MetBeyond : Numbers → Path → Test → Bool → Tree → Type 0
MetBeyond numbers path test answer tree = (calls : List Record) × AreBeyond numbers path test answer calls × EachEndIsMet calls tree

pub met_fork : {E : Type 0} (numbers : Numbers) (path : Path) (test : Test) (held failed : Tree) (made : Result Tree E)
    → ((calls : List Record) → IfOk made (λ tree. EachEndIsMet (filter (λ call. holds_on test call) calls) held
    → EachEndIsMet (filter (λ call. not (holds_on test call)) calls) failed → EachEndIsMet calls tree))
    → MetBeyond numbers path test true held → MetBeyond numbers path test false failed → IfOk made (IsMetOn numbers path)
met_fork numbers path test held failed (Ok tree) asks some others =
    let both = met_both numbers path test some.0 others.0 held failed tree some.1 others.1 some.2 others.2 asks in
    (some.0 ++ others.0, both.0, both.1)
met_fork numbers path test held failed (Err e) asks some others = tt

-- the same of calls that are put behind others
abbrev PutBeyond : Numbers → Path → Test → Bool → List Record → List Record → Tree → Type 0
PutBeyond numbers path test answer before calls tree =
    (more : List Record) × (calls ≡ before ++ more) × (AreBeyond numbers path test answer more × EachEndIsMet more tree)

pub put_fork : {E : Type 0} (numbers : Numbers) (path : Path) (test : Test) (before between after : List Record) (held failed : Tree) (made : Result Tree E)
    → ((calls : List Record) → IfOk made (λ tree. EachEndIsMet (filter (λ call. holds_on test call) calls) held
    → EachEndIsMet (filter (λ call. not (holds_on test call)) calls) failed → EachEndIsMet calls tree))
    → PutBeyond numbers path test true before between held → PutBeyond numbers path test false between after failed
    → IfOk made (AreMet numbers path before after)
put_fork numbers path test before between after held failed (Ok tree) asks some others =
    let both = met_both numbers path test some.0 others.0 held failed tree some.2.0 others.2.0 some.2.1 others.2.1 asks in
    (some.0 ++ others.0, others.1 ∙ ap (λ calls. calls ++ others.0) some.1 ∙ append_assoc before some.0 others.0, both)
put_fork numbers path test before between after held failed (Err e) asks some others = tt

-- a call that was put behind others
pub pushed_on : (numbers : Numbers) (path : Path) (before calls : List Record) (call : Record) → calls ≡ before ++ call ∷ [] → IsOn numbers path call
    → (more : List Record) × (calls ≡ before ++ more) × (All (IsOn numbers path) more × (0 < length more))
pushed_on numbers path before calls call pushed on = (call ∷ [], pushed, (one_is (IsOn numbers path) call on, omega arith))

-- calls with the numbers
pub met_by_calls : (numbers : Numbers) (tree : Tree) → IsMetOn numbers Start tree
    → (calls : List Record) × All (IsCallOf numbers.first numbers.last) calls × EachEndIsMet calls tree
met_by_calls numbers tree met =
    (met.0, all_more (IsOn numbers Start) (IsCallOf numbers.first numbers.last) met.0 (λ call on. on.0) met.1, met.2)

pub met_by_first : (numbers : Numbers) (value : ℕ) → numbers.first ≤ numbers.last
    → (calls : List Record) × All (IsCallOf numbers.first numbers.last) calls × EachEndIsMet calls (Is value)
met_by_first numbers value range =
    let call = native numbers.first 0 [] in
    (call ∷ [], one_is (IsCallOf numbers.first numbers.last) call (refl, (omega arith, range)), omega arith)
