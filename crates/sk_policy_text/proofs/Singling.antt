-- A text says one thing of a call.
use Rattle.std.proofs.Common.{◌≡◌, ℕ, zero, suc, ◌≤◌, true, if◌then◌else◌, List, [], ◌∷◌, sym, ap, ◌∙◌, subst, inl, inr, arith, ◌⊎◌, Option, Some, None}
use Rattle.std.specs.Prelude.{Contains}
use Rattle.std.proofs.lemmas.Bool.{cases_Bool}
use Rattle.sk_insn.specs.declared.record.Record.{Record}
use Rattle.sk_policy.specs.Policies.{IsWhole}
use Rattle.sk_policy_text.specs.declared.sentence.Sentence.{Sentence}
use Rattle.sk_policy_text.specs.declared.sentence.Sentence.TheVariants as sentence
use Rattle.sk_policy_text.specs.Conditions.{holds_condition}
use Rattle.sk_policy_text.specs.PolicyRows.{Part, parts_of, sentences_of, has_number, once, times}
use Rattle.sk_policy_text.specs.PolicySays.{SaysCases, SaysRow, RowSays}
use Rattle.sk_policy_text.specs.PolicyOf.{SayOne}
use Rattle.sk_policy_text.proofs.ConditionsMeaning.{words_tell_meaning}
use Rattle.sk_policy_text.proofs.Ranging.{times_cons}

cases_one : (text : List Sentence) (call : Record) → IsWhole call → (one other : ℕ) → SaysCases text call one → SaysCases text call other → one ≡ other
cases_one [] call whole one other a b = absurd a
cases_one (sentence.Case verdict words ∷ behind) call whole one other a b =
    let same : holds_condition a.0 call ≡ holds_condition b.0 call = words_tell_meaning a.0 b.0 (sym a.1 ∙ b.1) call whole in
    elim (cases_Bool (holds_condition a.0 call)) [
      | inl held ↦ a.2 held ∙ sym (b.2 (sym same ∙ held))
      | inr failed ↦ cases_one behind call whole one other (a.3 failed) (b.3 (sym same ∙ failed))
    ]
cases_one (sentence.Else verdict ∷ behind) call whole one other a b = a ∙ sym b
cases_one (rest ∷ behind) call whole one other a b = absurd a

row_one : (verdict : Option ℕ) (behind : List Sentence) (call : Record) → IsWhole call → (one other : ℕ) → SaysRow verdict behind call one → SaysRow verdict behind call other → one ≡ other
row_one (Some verdict) behind call whole one other a b = a ∙ sym b
row_one None behind call whole one other a b = cases_one behind call whole one other a b

-- ---- the one range that has a number

first_or_later : (part : Part) (parts : List Part) (it : Part) → Contains (part ∷ parts) it → (part ≡ it) ⊎ Contains parts it
first_or_later part parts it (zero, less, is) = inl is
first_or_later part parts it (suc k, less, is) = inr (k, omega (arith, less), is)

once_has : (nr : ℕ) (part : Part) → has_number nr part ≡ true → once nr part ≡ 1
once_has nr part has = ap (λ b. if b then 1 else 0) has

stands_once : (nr : ℕ) (parts : List Part) (it : Part) → Contains parts it → has_number nr it ≡ true → 1 ≤ times parts nr
stands_once nr [] it there has = absurd (omega (arith, there.1))
stands_once nr (part ∷ parts) it there has = elim (first_or_later part parts it there) [
  | inl is ↦ omega (arith, times_cons part parts nr, once_has nr part (ap (has_number nr) is ∙ has))
  | inr later ↦ omega (arith, times_cons part parts nr, stands_once nr parts it later has)
]

same_part : (nr : ℕ) (parts : List Part) → times parts nr ≤ 1 → (one other : Part) → Contains parts one → Contains parts other
    → has_number nr one ≡ true → has_number nr other ≡ true → one ≡ other
same_part nr [] few one other here there has too = absurd (omega (arith, here.1))
same_part nr (part ∷ parts) few one other here there has too = elim (first_or_later part parts one here) [
  | inl is ↦ elim (first_or_later part parts other there) [
    | inl it ↦ sym is ∙ it
    | inr later ↦ absurd (omega (arith, few, times_cons part parts nr, once_has nr part (ap (has_number nr) is ∙ has), stands_once nr parts other later too))
  ]
  | inr later ↦ elim (first_or_later part parts other there) [
    | inl it ↦ absurd (omega (arith, few, times_cons part parts nr, once_has nr part (ap (has_number nr) it ∙ too), stands_once nr parts one later has))
    | inr last ↦ same_part nr parts (omega (arith, few, times_cons part parts nr)) one other later last has too
  ]
]

rows_one : (parts : List Part) (call : Record) (one other : ℕ) → IsWhole call → times parts call.nr ≤ 1 → RowSays parts call one → RowSays parts call other → one ≡ other
rows_one parts call one other whole few a b =
    let same = same_part call.nr parts few a.part b.part a.there b.there a.has b.has in
    row_one b.part.verdict (sentences_of b.part.behind) call whole one other
    (subst (λ (part : Part). SaysRow part.verdict (sentences_of part.behind) call one) same a.says) b.says

pub say_one : SayOne
say_one text call one other whole few (inl a) (inl b) = rows_one (parts_of text) call one other whole (few call.nr) a b
say_one text call one other whole few (inl a) (inr b) = absurd (omega (arith, b.none, stands_once call.nr (parts_of text) a.part a.there a.has))
say_one text call one other whole few (inr a) (inl b) = absurd (omega (arith, a.none, stands_once call.nr (parts_of text) b.part b.there b.has))
say_one text call one other whole few (inr a) (inr b) = let same = sym a.says ∙ b.says in cc
