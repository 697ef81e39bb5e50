-- Each worked text of expectations is what the definitions compute.
use Rattle.std.proofs.Common.{◌≡◌, ◌+◌, ◌++◌, ℕ, List, [], ◌∷◌, None, refl, sym, ap, subst, inl, inr, arith}
use Rattle.std.specs.Prelude.{Vec}
use Rattle.std.specs.Borrow.{Bor}
use Rattle.std.specs.Global.{Global}
use Rattle.sk_insn.specs.declared.record.Record.{Record}
use Rattle.sk_policy_text.specs.declared.sentence.Range.{Range}
use Rattle.sk_policy_text.specs.declared.word.Word.{Word}
use Rattle.sk_policy_text.specs.Conditions.{Always, Never}
use Rattle.sk_policy_text.specs.PolicyRows.{Part, parts_in, has_number, times, sentences_of}
use Rattle.sk_policy_text.specs.Expecting.{Expects, ExpectsCases, RowExpects, unnamed}
use Rattle.sk_policy_text.specs.WorkedPolicies.{only}
use Rattle.sk_policy_text.specs.WorkedExpecting.{case, default, row_at, WorkedExpecting, WorkedExpectations}

abbrev part : ℕ → Bor (List Word) → Part
part line words = record { first = 56; last = 56; line = line; verdict = None; behind = case (line + 1) words ∷ [] }

row_expects : (ranges : Vec Range Global) (words : Bor (List Word)) → ranges.items ≡ only 56 56 → (call : Record) (value : ℕ) → call.nr ≡ 56
    → ExpectsCases (sentences_of (case 2 words ∷ [])) call value → Expects (row_at 1 ranges ∷ case 2 words ∷ []) call value
row_expects ranges words is call value nr expects =
    inl (subst (λ items. RowExpects (parts_in items 1 None (case 2 words ∷ []) ++ []) call value) (sym is) (record {
      part = part 1 words;
      there = (0, omega arith, refl);
      has = ap (λ nr. has_number nr (part 1 words)) nr;
      expects = expects;
    }))

expected : (ranges : Vec Range Global) (words : Bor (List Word)) → ranges.items ≡ only 56 56 → (call : Record) → WorkedExpectations ranges words call
expected ranges words is call = record {
  met = λ tokens nr. row_expects ranges words is call 0x00010002 nr (Always, tokens, λ held. refl, λ failed. cc);
  not_met = λ tokens nr. row_expects ranges words is call 0x00010003 nr (Never, tokens, λ held. cc, λ failed. refl);
  no_row = λ nr. inr (record {
    none = subst (λ items. times (parts_in items 1 None (case 2 words ∷ []) ++ []) call.nr ≡ 0) (sym is) (ap (λ nr. times (part 1 words ∷ []) nr) nr);
    expects = sym (ap (unnamed (sentences_of (row_at 1 ranges ∷ case 2 words ∷ []))) nr);
  });
  by_default = λ nr. inr (record {
    none = subst (λ items. times (parts_in items 2 None (case 3 words ∷ []) ++ []) call.nr ≡ 0) (sym is) (ap (λ nr. times (part 2 words ∷ []) nr) nr);
    expects = sym (ap (unnamed (sentences_of (default 1 ∷ row_at 2 ranges ∷ case 3 words ∷ []))) nr);
  });
  of_x32 = λ nr. inr (record {
    none = subst (λ items. times (parts_in items 2 None (case 3 words ∷ []) ++ []) call.nr ≡ 0) (sym is) (ap (λ nr. times (part 2 words ∷ []) nr) nr);
    expects = sym (ap (unnamed (sentences_of (default 1 ∷ row_at 2 ranges ∷ case 3 words ∷ []))) nr);
  });
}

pub worked_expecting : WorkedExpecting
worked_expecting ranges words is = (
  record {
    nothing = refl;
    has_default = refl;
    has_others = refl;
    has_both = refl;
    no_else = refl;
    no_case = refl;
    has_else = refl;
    has_verdict = refl;
  },
  expected ranges words is,
)
