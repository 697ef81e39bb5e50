-- The halves of the registers of a call, and some bits of them.
use Rattle.std.proofs.Common.{◌≡◌, ℕ, ◌/◌, ◌%◌, ◌^◌, ◌==◌, ◌<◌, Bool, true, false, if◌then◌else◌, List, [], ◌∷◌, ◌++◌, Some, refl, ap, sym, ◌∙◌, arith, bit_and}
use Rattle.std.proofs.lemmas.Bool.{eqb-true}
use Rattle.std.proofs.lemmas.Nat.{and_mask, and_shr, and_mod}
use Rattle.sk_insn.specs.declared.insn.Insn.{Insn}
use Rattle.sk_insn.specs.declared.record.Record.{Record}
use Rattle.sk_insn.specs.Record.{word_of}
use Rattle.sk_insn.proofs.RecordWords.{word_of_number}
use Rattle.sk_filter.specs.Meaning.{State}
use Rattle.sk_profile.specs.Code.{with, high}
use Rattle.sk_profile.specs.Sayings.{low}
use Rattle.sk_profile.proofs.Halves.{register_fits as argument_fits, low_word}
use Rattle.sk_profile.proofs.Steps.{Comes, load_on, with_on}
use Rattle.sk_terms.specs.declared.term.Register.{Register}
use Rattle.sk_terms.specs.declared.term.Register.TheVariants.{Number, Pointer, Argument}
use Rattle.sk_terms.specs.Terms.{register_of}
use Rattle.sk_terms.proofs.Halves.{pointer_low, pointer_high}
use Rattle.sk_policy.specs.Code.{low_place, kept_code, word_code}
use Rattle.sk_policy.specs.Policies.{IsWhole, IsThere}

pub low_there : (r : Register) (call : Record) → IsWhole call → IsThere r → word_of call (low_place r) ≡ Some (low (register_of r call))
low_there Number call ok there = word_of_number call
low_there Pointer call ok there = pointer_low call
low_there (Argument i) call ok there = low_word call i ok.is_call there

pub pointer_upper : (call : Record) → IsWhole call → word_of call 12 ≡ Some (high call.ip)
pointer_upper call ok =
    let e : call.ip / 2 ^ 32 % 2 ^ 32 ≡ call.ip / 2 ^ 32 = omega (arith, ok.pointer) in pointer_high call ∙ ap Some e

pub low_fits : (a : ℕ) → low a < 2 ^ 32
low_fits a = omega arith

pub register_fits : (r : Register) (call : Record) → IsWhole call → IsThere r → register_of r call < 2 ^ 64
register_fits Number call ok there = omega (arith, ok.is_call.number)
register_fits Pointer call ok there = ok.pointer
register_fits (Argument i) call ok there = argument_fits call i ok.is_call there

-- all bits of a word
all_kept : (w : ℕ) → w < 2 ^ 32 → bit_and w 0xffffffff ≡ w
all_kept w fits = and_mask w 32 ∙ omega (arith, fits)

kept_on : (mask : ℕ) (rest : List Insn) (call : Record) (t : State) (w value : ℕ) → w < 2 ^ 32 → t.a ≡ w
    → ((u : State) → u.a ≡ bit_and w mask → Comes rest 0 call u value) → Comes (kept_code mask ++ rest) 0 call t value
kept_on mask rest call t w value fits at g = by (mask == 0xffffffff) refl where
  by : (b : Bool) → (mask == 0xffffffff) ≡ b → Comes ((if b then [] else with mask ∷ []) ++ rest) 0 call t value
  by true e = g t (at ∙ sym (all_kept w fits) ∙ ap (bit_and w) (sym (eqb-true mask 0xffffffff e)))
  by false e = with_on mask rest call t value (g _ (ap (λ a. bit_and a mask) at))

-- a word of the record, of which some bits are kept
pub word_on : (place mask : ℕ) (rest : List Insn) (call : Record) (s : State) (w value : ℕ) → word_of call place ≡ Some w → w < 2 ^ 32
    → ((u : State) → u.a ≡ bit_and w mask → Comes rest 0 call u value) → Comes (word_code place mask ++ rest) 0 call s value
word_on place mask rest call s w value is fits g = load_on place (kept_code mask ++ rest) call s w value is (kept_on mask rest call _ w value fits refl g)

-- the halves of some bits
pub low_bits : (a mask : ℕ) → low (bit_and a mask) ≡ bit_and (low a) (low mask)
low_bits a mask = and_mod a mask 32

pub high_bits : (a mask : ℕ) → high (bit_and a mask) ≡ bit_and (high a) (high mask)
high_bits a mask = and_shr a mask 32
