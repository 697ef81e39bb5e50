-- What a text says by its ranges in another order.
use Rattle.std.proofs.Common.{◌≡◌, ◌≢◌, ℕ, ◌<◌, ◌^◌, Bool, true, false, if◌then◌else◌, List, [], ◌∷◌, ◌++◌, refl, sym, ap, ◌∙◌, subst, inl, inr, arith, append_assoc, Option, Some, None}
use Rattle.std.specs.Prelude.{All, is_some, unwrap_or, IsPermutation}
use Rattle.std.proofs.lemmas.List.Elements.{All-nil, All-append, All-weaker, All-contains}
use Rattle.std.proofs.lemmas.List.Sorted.{IsPermutation-sym, IsPermutation-trans, Contains-permutation, sum_by-IsPermutation}
use Rattle.sk_insn.specs.declared.record.Record.{Record}
use Rattle.sk_names.specs.declared.architecture.Architecture.{Architecture}
use Rattle.sk_policy_text.specs.declared.policy_fault.Misplaced.TheVariants as misplaced
use Rattle.sk_policy_text.specs.declared.policy_fault.PolicyFault.{PolicyFault}
use Rattle.sk_policy_text.specs.declared.policy_fault.PolicyFault.TheVariants as fault
use Rattle.sk_policy_text.specs.declared.policy_fault.Twice.{Twice}
use Rattle.sk_policy_text.specs.declared.policy_fault.Wrong.{Wrong}
use Rattle.sk_policy_text.specs.declared.policy_fault.Wrong.TheVariants as wrong
use Rattle.sk_policy_text.specs.declared.sentence.Sentence.{Sentence}
use Rattle.sk_policy_text.specs.declared.sentence.Sentence.TheVariants as sentence
use Rattle.sk_policy_text.specs.declared.stated.Above.{Above}
use Rattle.sk_policy_text.specs.declared.stated.Stated.{Stated}
use Rattle.sk_policy_text.specs.PolicyRows.{Part, parts_at, parts_of, once, times, cases_of_part, cases_in, is_of_x32, sentences_of, else_below, architecture_of, default_of, others_of}
use Rattle.sk_policy_text.specs.PolicySays.{Says, unnamed}
use Rattle.sk_policy_text.specs.PolicyFaults.{above_of, misplaced_at, AreRight, IsRight, IsWrong, IsFirstFault}
use Rattle.sk_policy_text.specs.PolicyRanges.{PartsApart, IsTwice, IsUnnamed}
use Rattle.sk_policy_text.specs.PolicyRules.{fallback, PartsSay, HasElse, HasUnreadAmong, IsUnreadWrong, AreUnruled}
use Rattle.sk_policy_text.specs.PolicyOf.{AreOnce, AreNamed, IsFaultOf}
use Rattle.sk_policy_text.proofs.Bounding.{bound_moved}
use Rattle.sk_policy_text.proofs.Ranging.{once_apart}
use Rattle.sk_policy_text.proofs.Standing.{parts_have}

-- ---- the same ranges in another order

times_moved : (parts moved : List Part) → IsPermutation parts moved → (nr : ℕ) → times moved nr ≡ times parts nr
times_moved parts moved same nr = sum_by-IsPermutation (once nr) parts moved same

pub cases_moved : (parts moved : List Part) → IsPermutation parts moved → cases_in moved ≡ cases_in parts
cases_moved parts moved same = sum_by-IsPermutation cases_of_part parts moved same

pub twice_moved : (parts moved : List Part) (it : Twice) → IsPermutation parts moved → IsTwice moved it → IsTwice parts it
twice_moved parts moved it same twice = record {
  one = twice.one;
  other = twice.other;
  rest = twice.rest;
  two = IsPermutation-trans parts moved _ same twice.two;
  in_one = twice.in_one;
  in_other = twice.in_other;
  later = twice.later;
  earlier = twice.earlier;
  least = λ nr less. omega (arith, twice.least nr less, times_moved parts moved same nr);
}

pub unnamed_moved : (architecture : Architecture) (parts moved : List Part) (nr : ℕ) → IsPermutation parts moved → IsUnnamed architecture moved nr → IsUnnamed architecture parts nr
unnamed_moved architecture parts moved nr same it = record {
  none = sym (times_moved parts moved same nr) ∙ it.none;
  native = it.native;
  least = λ n less none. it.least n less (times_moved parts moved same n ∙ none);
}

pub once_moved : (text : List Stated) (moved : List Part) → IsPermutation (parts_of text) moved → PartsApart moved → AreOnce text
once_moved text moved same apart = λ nr. omega (arith, times_moved (parts_of text) moved same nr, once_apart moved apart nr)

-- ---- numbers that no row has

one_of : (b : Bool) (one : ℕ) (other : Option ℕ) → (if b then Some one else other) ≢ None → (if b then Some one else other) ≡ Some (if b then one else unwrap_or other 0)
one_of true one other some = refl
one_of false one None some = absurd (some refl)
one_of false one (Some n) some = refl

unnamed_is : (text : List Stated) (nr : ℕ) → unnamed text nr ≢ None
    → unnamed text nr ≡ Some (fallback (architecture_of (sentences_of text)) (others_of (sentences_of text)) (unwrap_or (default_of (sentences_of text)) 0) nr)
unnamed_is text nr some = one_of (is_of_x32 (architecture_of (sentences_of text)) nr) (others_of (sentences_of text)) (default_of (sentences_of text)) some

either_some : (b : Bool) (one n : ℕ) (other : Option ℕ) → other ≡ Some n → (if b then Some one else other) ≢ None
either_some true one n other is none = cc
either_some false one n other is none = cc

pub named_by_default : (text : List Stated) (n : ℕ) → default_of (sentences_of text) ≡ Some n → AreNamed text
named_by_default text n is =
    λ nr fits none. either_some (is_of_x32 (architecture_of (sentences_of text)) nr) (others_of (sentences_of text)) n (default_of (sentences_of text)) is

pub named_by_rows : (text : List Stated) (moved : List Part) → IsPermutation (parts_of text) moved
    → ((nr : ℕ) → nr < 2 ^ 32 → times moved nr ≡ 0 → is_of_x32 (architecture_of (sentences_of text)) nr ≡ true) → AreNamed text
named_by_rows text moved same each nr fits none unnamed =
    let x32 = each nr fits (times_moved (parts_of text) moved same nr ∙ none) in
    let some : Some (others_of (sentences_of text)) ≡ None =
    sym (ap (λ b. if b then Some (others_of (sentences_of text)) else default_of (sentences_of text)) x32) ∙ unnamed in
    cc

pub says_moved : (text : List Stated) (moved : List Part) (call : Record) (value : ℕ) → IsPermutation (parts_of text) moved → AreNamed text → call.nr < 2 ^ 32
    → PartsSay (architecture_of (sentences_of text)) (others_of (sentences_of text)) moved (unwrap_or (default_of (sentences_of text)) 0) call value → Says text call value
says_moved text moved call value same named fits said = elim said [
  | inl row ↦ inl (record {
    part = row.part;
    there = Contains-permutation moved (parts_of text) row.part (IsPermutation-sym (parts_of text) moved same) row.there;
    has = row.has;
    says = row.says;
  })
  | inr both ↦
      let none = sym (times_moved (parts_of text) moved same call.nr) ∙ both.0 in
      inr (record { none = none; says = unnamed_is text call.nr (named call.nr fits none) ∙ ap Some (sym both.1) })
]

-- ---- rows that stand where they may

closed_row : (behind : List Sentence) → (if is_some (else_below behind) then None else Some misplaced.NoElse) ≡ None → else_below behind ≢ None
closed_row behind right = λ none.
    let some = ap (λ (o : Option ℕ). if is_some o then None else Some misplaced.NoElse) none in
    cc

other_row : (n : ℕ) (verdict : Option ℕ) → Some n ≡ None → verdict ≢ None
other_row n verdict is = cc

closed_at : (above : Above) (it : Sentence) (line : ℕ) (behind : List Stated) → misplaced_at above it (sentences_of behind) ≡ None → All HasElse (parts_at it line behind)
closed_at above (sentence.Row ranges None) line behind right =
    parts_have HasElse line None behind (λ range some none. closed_row (sentences_of behind) right) ranges.items
closed_at above (sentence.Row ranges (Some n)) line behind right =
    parts_have HasElse line (Some n) behind (λ range some. other_row n (else_below (sentences_of behind))) ranges.items
closed_at above other line behind right = All-nil HasElse

pub all_closed : (above : List Sentence) (text : List Stated) → AreRight above text → All HasElse (parts_of text)
all_closed above [] right = All-nil HasElse
all_closed above (first ∷ behind) right =
    All-append HasElse (parts_at first.sentence first.line behind) (parts_of behind) (closed_at (above_of above) first.sentence first.line behind right.0.0)
    (all_closed (first.sentence ∷ above) behind right.1)

-- ---- conditions that are not read

abbrev IsBehind : List Stated → Part → Type 0
IsBehind text part = (front : List Stated) × (text ≡ front ++ part.behind)

behind_at : (first : Stated) (it : Sentence) (line : ℕ) (behind : List Stated) → All (IsBehind (first ∷ behind)) (parts_at it line behind)
behind_at first (sentence.Row ranges verdict) line behind = parts_have (IsBehind (first ∷ behind)) line verdict behind (λ range some. (first ∷ [], refl)) ranges.items
behind_at first other line behind = All-nil (IsBehind (first ∷ behind))

all_behind : (text : List Stated) → All (IsBehind text) (parts_of text)
all_behind [] = All-nil (IsBehind [])
all_behind (first ∷ behind) =
    All-append (IsBehind (first ∷ behind)) (parts_at first.sentence first.line behind) (parts_of behind) (behind_at first first.sentence first.line behind)
    (All-weaker (IsBehind behind) (IsBehind (first ∷ behind)) (λ part it. (first ∷ it.0, ap (λ (text : List Stated). first ∷ text) it.1)) (parts_of behind) (all_behind behind))

wrong_there : (above : Above) (it : Sentence) (behind : List Sentence) (why : Wrong) → IsRight above it behind → IsUnreadWrong it why → IsWrong above it behind why
wrong_there above it behind (wrong.Unread why) right unread = (right.0, unread)
wrong_there above it behind (wrong.Misplaced why) right unread = absurd unread

fault_there : (above : List Sentence) (before : List Stated) (it : Stated) (behind : List Stated) (line : ℕ) (why : Wrong) → AreRight above (before ++ (it ∷ behind))
    → it.line ≡ line → IsUnreadWrong it.sentence why → IsFirstFault above (before ++ (it ∷ behind)) line why
fault_there above [] it behind line why right there unread = inl (there, wrong_there (above_of above) it.sentence (sentences_of behind) why right.0 unread)
fault_there above (first ∷ before) it behind line why right there unread = inr (right.0, fault_there (first.sentence ∷ above) before it behind line why right.1 there unread)

unread_there : (text : List Stated) (moved : List Part) (line : ℕ) (why : Wrong) → IsPermutation (parts_of text) moved → AreRight [] text → HasUnreadAmong moved line why → IsFirstFault [] text line why
unread_there text moved line why same right among =
    let there = Contains-permutation moved (parts_of text) among.part (IsPermutation-sym (parts_of text) moved same) among.there in
    let in_text = All-contains (IsBehind text) (parts_of text) among.part (all_behind text) there in
    let unread = among.unread in
    let is : text ≡ (in_text.0 ++ unread.before) ++ (unread.it ∷ unread.behind) =
    in_text.1 ∙ ap (λ text. in_text.0 ++ text) unread.is ∙ sym (append_assoc in_text.0 unread.before (unread.it ∷ unread.behind)) in
    subst (λ text. IsFirstFault [] text line why) (sym is)
    (fault_there [] (in_text.0 ++ unread.before) unread.it unread.behind line why (subst (AreRight []) is right) unread.there unread.unread)

pub unruled_fault : (text : List Stated) (moved : List Part) (it : PolicyFault) → IsPermutation (parts_of text) moved → AreRight [] text → AreOnce text → AreNamed text
    → AreUnruled moved it → IsFaultOf text it
unruled_fault text moved (fault.Wrong line why) same right once named unruled = unread_there text moved line why same right unruled
unruled_fault text moved (fault.Twice it) same right once named unruled = absurd unruled
unruled_fault text moved (fault.Missing nr) same right once named unruled = absurd unruled
unruled_fault text moved fault.TooLong same right once named long =
    (right, once, named, omega (arith, long, bound_moved (parts_of text) moved same))
unruled_fault text moved fault.Memory same right once named unruled = tt
