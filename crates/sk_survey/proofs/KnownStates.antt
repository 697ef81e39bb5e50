-- States of which something is known, before and after an instruction.
use Rattle.std.proofs.Common.{◌≡◌, ℕ, ◌+◌, ◌<◌, ◌==◌, inl, inr, Bool, true, false, if◌then◌else◌, List, length, Option, Some, slice_get, set, refl, sym, ap, subst, arith}
use Rattle.std.proofs.lemmas.Bool.{eqb-true, eqb-false, lt-ltb}
use Rattle.sk_insn.specs.declared.insn.Insn.{Insn}
use Rattle.sk_insn.specs.declared.record.Record.{Record}
use Rattle.sk_insn.specs.declared.operation.Register.{Register}
use Rattle.sk_insn.specs.declared.operation.Register.TheVariants.{Accumulator, Index}
use Rattle.sk_filter.specs.Meaning.{State, Effect, GoesOn, Ends, Fails, store, register, operand, holds, calculated, effect}
use Rattle.sk_insn.specs.declared.operation.Operand.{Operand}
use Rattle.sk_insn.specs.declared.operation.Operand.TheVariants.{Constant, IndexRegister}
use Rattle.sk_insn.specs.declared.operation.Arithmetic.{Arithmetic}
use Rattle.sk_insn.specs.declared.operation.Arithmetic.TheVariants.{Divide}
use Rattle.sk_insn.specs.declared.operation.Comparison.{Comparison}
use Rattle.sk_insn.specs.declared.operation.Operation.TheVariants.{StoreScratch, Compute, Branch}
use Rattle.sk_insn.specs.Operations.{is_constant_for}
use Rattle.sk_survey.specs.declared.follow.Next.{Next}
use Rattle.sk_survey.specs.declared.follow.Next.TheVariants.{Skip, Either}
use Rattle.sk_survey.specs.declared.known.Known.{Known}
use Rattle.sk_survey.specs.declared.known.Knowledge.{Knowledge}
use Rattle.sk_survey.specs.Following.{Spreads, DescribedAt, Leads, known_operand, Describes, DescribesWord, DescribesWords, DescribesState, known_register, with_word}
use Rattle.sk_survey.proofs.KnownWords.{word_set, word_other}

register_known : (r : Register) (knowledge : Knowledge) (call : Record) (s : State) → DescribesState knowledge call s
    → Describes (known_register r knowledge) call (register r s)
register_known Accumulator knowledge call s is = is.a
register_known Index knowledge call s is = is.x

words_stored : (words : List Known) (k : ℕ) (known : Known) (call : Record) (n : ℕ) (stored : ℕ → Option ℕ)
    → length words ≡ 16 → k < 16 → Describes known call n → DescribesWords words call stored
    → DescribesWords (set words k known) call (store k n stored)
words_stored words k known call n stored full inside is others j below = by_test (j == k) refl where
  by_test : (b : Bool) → (j == k) ≡ b → DescribesWord (slice_get (set words k known) j) call (if b then Some n else stored j)
  by_test true e =
      subst (λ i. DescribesWord (slice_get (set words k known) i) call (Some n)) (sym (eqb-true j k e))
      (word_set words k known call (Some n) (omega arith) is)
  by_test false e = word_other words k j known call (stored j) (eqb-false j k e) (others j below)

pub state_stored : (r : Register) (k : ℕ) (knowledge : Knowledge) (call : Record) (s : State) → length knowledge.words ≡ 16 → k < 16
    → DescribesState knowledge call s
    → DescribesState (with_word r k knowledge) call (record s { stored = store k (register r s) s.stored })
state_stored r k knowledge call s full inside is = record {
  a = is.a;
  x = is.x;
  words = words_stored knowledge.words k (known_register r knowledge) call (register r s) s.stored full inside
      (register_known r knowledge call s is) is.words;
}

-- a store leads on
pub store_leads : (r : Register) (insn : Insn) (knowledge : Knowledge) (call : Record) (s : State) → length knowledge.words ≡ 16 → insn.k < 16
    → DescribesState knowledge call s
    → Leads (Skip 0) insn (with_word r insn.k knowledge) call (effect (Some (StoreScratch r)) insn call s)
store_leads r insn knowledge call s full inside is = (
  record s { stored = store insn.k (register r s) s.stored },
  ap (λ b. if b then GoesOn 0 (record s { stored = store insn.k (register r s) s.stored }) else Fails) (lt-ltb insn.k 16 inside),
  state_stored r insn.k knowledge call s full inside is,
)

pub operand_known : (right : Operand) (insn : Insn) (knowledge : Knowledge) (call : Record) (s : State) → DescribesState knowledge call s
    → Describes (known_operand right insn.k knowledge) call (operand right insn s)
operand_known Constant insn knowledge call s is = refl
operand_known IndexRegister insn knowledge call s is = is.x

-- a calculation leads on
calculated_leads : (known : Known) (n : ℕ) (insn : Insn) (knowledge : Knowledge) (call : Record) (s : State) → DescribesState knowledge call s
    → Describes known call n → Leads (Skip 0) insn (record knowledge { a = known }) call (GoesOn 0 (record s { a = n }))
calculated_leads known n insn knowledge call s is told = (record s { a = n }, refl, record { a = told; x = is.x; words = is.words })

pub compute_leads : (arithmetic : Arithmetic) (right : Operand) (insn : Insn) (known : Known) (knowledge : Knowledge) (call : Record) (s : State)
    → DescribesState knowledge call s → (right ≡ Constant → is_constant_for arithmetic insn.k ≡ true)
    → (arithmetic ≡ Divide → right ≡ IndexRegister → (s.x == 0) ≡ false)
    → Describes known call (calculated arithmetic s.a (operand right insn s))
    → Leads (Skip 0) insn (record knowledge { a = known }) call (effect (Some (Compute arithmetic right)) insn call s)
compute_leads arithmetic Constant insn known knowledge call s is can some told =
    subst (λ b. Leads (Skip 0) insn (record knowledge { a = known }) call (if b then GoesOn 0 (record s { a = calculated arithmetic s.a insn.k }) else Fails))
    (sym (can refl)) (calculated_leads known _ insn knowledge call s is told)
compute_leads Divide IndexRegister insn known knowledge call s is can some told =
    subst (λ b. Leads (Skip 0) insn (record knowledge { a = known }) call (if b then Ends 0 else GoesOn 0 (record s { a = calculated Divide s.a s.x })))
    (sym (some refl refl)) (calculated_leads known _ insn knowledge call s is told)
compute_leads arithmetic IndexRegister insn known knowledge call s is can some told = calculated_leads known _ insn knowledge call s is told

-- a conditional jump that is not decided
pub branch_leads : (comparison : Comparison) (right : Operand) (insn : Insn) (a : Known) (knowledge : Knowledge) (call : Record) (s : State)
    → DescribesState knowledge call s
    → (holds comparison s.a (operand right insn s) ≡ true → Describes a call s.a)
    → Leads (Either a) insn knowledge call (effect (Some (Branch comparison right)) insn call s)
branch_leads comparison right insn a knowledge call s is told = by_test (holds comparison s.a (operand right insn s)) told where
  by_test : (b : Bool) → (b ≡ true → Describes a call s.a)
      → Leads (Either a) insn knowledge call (GoesOn (if b then insn.jt else insn.jf) s)
  by_test true told = (s, inl (refl, record { a = told refl; x = is.x; words = is.words }))
  by_test false told = (s, inr (refl, is))

-- what is joined on one side of a jump is kept where it is joined on the other side
pub either_spreads : (next : Next) (a : Known) (insn : Insn) (knowledge : Knowledge) (place : ℕ) (slots both : List (Option Knowledge))
    → next ≡ Either a
    → ((call : Record) (s : State) → DescribesState knowledge call s → DescribedAt slots (place + 1 + insn.jf) call s)
    → ((q : ℕ) (call : Record) (s : State) → DescribedAt slots q call s → DescribedAt both q call s)
    → ((call : Record) (s : State) → DescribesState (record knowledge { a = a }) call s → DescribedAt both (place + 1 + insn.jt) call s)
    → (call : Record) (e : Effect) → Leads next insn knowledge call e → Spreads place both call e
either_spreads next a insn knowledge place slots both same otherwise kept there call e leads =
    by_side (subst (λ n. Leads n insn knowledge call e) same leads) where
      by_side : Leads (Either a) insn knowledge call e → Spreads place both call e
      by_side (s, inl (does, is)) =
          let at : place + 1 + insn.jt ≡ place + (1 + insn.jt) = omega arith in
          subst (Spreads place both call) (sym does) (subst (λ q. DescribedAt both q call s) at (there call s is))
      by_side (s, inr (does, is)) =
          let at : place + 1 + insn.jf ≡ place + (1 + insn.jf) = omega arith in
          subst (Spreads place both call) (sym does) (subst (λ q. DescribedAt both q call s) at (kept _ call s (otherwise call s is)))
