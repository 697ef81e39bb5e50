-- A chain that takes some words for 0 is followed where the chain is, and its calls go one way where those of the chain do.
use Rattle.std.proofs.Common.{◌≡◌, ℕ, Bool, true, false, if◌then◌else◌, List, [], ◌∷◌, map, Option, Some, None, slice_get, inl, inr, refl, sym, subst, ◌∙◌}
use Rattle.std.specs.Prelude.{IsTrue}
use Rattle.std.specs.List.{All}
use Rattle.std.specs.Option.{option_map}
use Rattle.std.proofs.lemmas.List.Elements.{All-cons, All-head, All-nil, All-tail}
use Rattle.std.proofs.lemmas.Option.{slice_get-map}
use Rattle.sk_insn.specs.declared.insn.Insn.{Insn}
use Rattle.sk_insn.specs.declared.operation.Operation.{Operation}
use Rattle.sk_insn.specs.declared.operation.Operation.TheVariants.{LoadConstant}
use Rattle.sk_insn.specs.declared.operation.Register.TheVariants.{Accumulator}
use Rattle.sk_insn.specs.Operations.{code_of, operation_of}
use Rattle.sk_insn.proofs.OperationTable.{operation_of-code_of}
use Rattle.sk_survey.specs.Without.{chain_without, loads_among, without}
use Rattle.sk_survey.specs.Settling.{loads_other}
use Rattle.sk_conditions.specs.Followed.{AreFollowed, is_followed, parts_calls}
use Rattle.sk_conditions.specs.Steps.{GoOneWay}

found : (change : Insn → Insn) (o : Option Insn) (other : Insn) → option_map change o ≡ Some other → (it : Insn) × (o ≡ Some it) × (change it ≡ other)
found change None other e = cc
found change (Some it) other e = (it, refl, cc)

-- what is so of each instruction, and of one that loads a constant, is so of each instruction without the words
each : (Q : Option Operation → Insn → Type 0) → ((insn : Insn) → Q (Some (LoadConstant Accumulator)) insn)
    → (places : List ℕ) (insns : List Insn) → ((place : ℕ) (insn : Insn) → slice_get insns place ≡ Some insn → Q (operation_of insn.code) insn)
    → (place : ℕ) (insn : Insn) → slice_get (map (without places) insns) place ≡ Some insn → Q (operation_of insn.code) insn
each Q constant places insns all place insn here = subst (λ (it : Insn). Q (operation_of it.code) it) was.2 (by_test (loads_among places (operation_of was.0.code) was.0)) where
  was : (it : Insn) × (slice_get insns place ≡ Some it) × (without places it ≡ insn)
  was = found (without places) (slice_get insns place) insn (sym (slice_get-map (without places) insns place) ∙ here)

  by_test : (b : Bool) → (λ (it : Insn). Q (operation_of it.code) it) (if b then record was.0 { code = code_of (LoadConstant Accumulator); k = 0 } else was.0)
  by_test true =
      subst (λ o. Q o (record was.0 { code = code_of (LoadConstant Accumulator); k = 0 })) (sym (operation_of-code_of (LoadConstant Accumulator)))
      (constant (record was.0 { code = code_of (LoadConstant Accumulator); k = 0 }))
  by_test false = all place was.0 was.1

follows : (places : List ℕ) (insns : List Insn) → AreFollowed insns → AreFollowed (map (without places) insns)
follows places insns all = each (λ o insn. IsTrue (is_followed o)) (λ insn. refl) places insns all

goes_one_way : (first last : ℕ) (places : List ℕ) (insns : List Insn) → GoOneWay first last insns → GoOneWay first last (map (without places) insns)
goes_one_way first last places insns (inl straight) = inl (each (λ o insn. parts_calls o ≡ false) (λ insn. refl) places insns straight)
goes_one_way first last places insns (inr shared) = inr (each (λ o insn. loads_other first last o insn ≡ false) (λ insn. refl) places insns shared)

pub followed_without : (places : List ℕ) (programs : List (List Insn)) → All AreFollowed programs → All AreFollowed (chain_without places programs)
followed_without places [] all = All-nil AreFollowed
followed_without places (insns ∷ programs) all =
    All-cons AreFollowed (map (without places) insns) (chain_without places programs)
    (follows places insns (All-head AreFollowed insns programs all))
    (followed_without places programs (All-tail AreFollowed insns programs all))

pub one_way_without : (first last : ℕ) (places : List ℕ) (programs : List (List Insn)) → All (GoOneWay first last) programs
    → All (GoOneWay first last) (chain_without places programs)
one_way_without first last places [] all = All-nil (GoOneWay first last)
one_way_without first last places (insns ∷ programs) all =
    All-cons (GoOneWay first last) (map (without places) insns) (chain_without places programs)
    (goes_one_way first last places insns (All-head (GoOneWay first last) insns programs all))
    (one_way_without first last places programs (All-tail (GoOneWay first last) insns programs all))
