-- A filter with a change of its loads means to another record what the filter means to a record, where each load loads the same.
use Rattle.std.proofs.Common.{◌≡◌, ℕ, zero, suc, List, [], ◌∷◌, map, slice_get, Option, Some, None, inl, inr, refl, sym, ap, ◌∙◌}
use Rattle.sk_insn.specs.declared.insn.Insn.{Insn}
use Rattle.sk_insn.specs.declared.record.Record.{Record}
use Rattle.sk_insn.specs.declared.operation.Register.TheVariants.{Accumulator}
use Rattle.sk_insn.specs.declared.operation.Operation.{Operation}
use Rattle.sk_insn.specs.declared.operation.Operation.TheVariants.{LoadRecord, LoadConstant}
use Rattle.sk_insn.specs.Operations.{operation_of}
use Rattle.sk_insn.specs.Record.{word_of}
use Rattle.sk_filter.specs.Meaning.{State, effect, loaded, meaning, meaning_of, start, then_follows}
use Rattle.sk_survey.proofs.Narrower.{is_load, same_effect}
use Rattle.sk_survey.proofs.Alike.{ChangesLoads, IsLoad, StandsFor}

-- what a load loads
abbrev pub word_loaded : Option Operation → Insn → Record → Option ℕ
word_loaded (Some LoadRecord) insn call = word_of call insn.k
word_loaded (Some (LoadConstant Accumulator)) insn call = Some insn.k
word_loaded operation insn call = None

-- what an instruction loads of a record, the other one loads of the other record
abbrev pub LoadsAlike : Record → Record → Insn → Insn → Type 0
LoadsAlike call other insn changed =
    operation_of insn.code ≡ Some LoadRecord → word_loaded (operation_of changed.code) changed other ≡ word_of call insn.k

loads : (insn : Insn) (call : Record) (s : State) → IsLoad insn
    → effect (operation_of insn.code) insn call s ≡ loaded Accumulator s (word_loaded (operation_of insn.code) insn call)
loads insn call s (inl is) = ap (λ o. effect o insn call s) is ∙ ap (λ o. loaded Accumulator s (word_loaded o insn call)) (sym is)
loads insn call s (inr is) = ap (λ o. effect o insn call s) is.0 ∙ ap (λ o. loaded Accumulator s (word_loaded o insn call)) (sym is.0)

step : (insn changed : Insn) (call other : Record) (s : State) → StandsFor changed insn → LoadsAlike call other insn changed
    → effect (operation_of changed.code) changed other s ≡ effect (operation_of insn.code) insn call s
step insn changed call other s (inr (is, load)) alike =
    loads changed other s load ∙ ap (loaded Accumulator s) (alike is) ∙ ap (λ o. effect o insn call s) (sym is)
step insn changed call other s (inl e) alike =
    ap (λ (i : Insn). effect (operation_of i.code) i other s) e ∙ elim (is_load (operation_of insn.code)) [
      | inl is ↦
          let word : word_of other insn.k ≡ word_of call insn.k =
          ap (λ o. word_loaded o insn other) (sym is) ∙ ap (λ (i : Insn). word_loaded (operation_of i.code) i other) (sym e) ∙ alike is in
          ap (λ o. effect o insn other s) is ∙ ap (loaded Accumulator s) word ∙ ap (λ o. effect o insn call s) (sym is)
      | inr apart ↦ same_effect (operation_of insn.code) insn call other s apart
    ]

same_from : (change : Insn → Insn) → ChangesLoads change → (call other : Record) (insns : List Insn) (skip : ℕ) (s : State)
    → ((place : ℕ) (insn : Insn) → slice_get insns place ≡ Some insn → LoadsAlike call other insn (change insn))
    → meaning (map change insns) skip other s ≡ meaning insns skip call s
same_from change keeps call other [] skip s alike = refl
same_from change keeps call other (insn ∷ rest) (suc skip) s alike =
    same_from change keeps call other rest skip s (λ place insn here. alike (suc place) insn here)
same_from change keeps call other (insn ∷ rest) zero s alike =
    ap (λ e. then_follows e (λ skip s. meaning (map change rest) skip other s)) (step insn (change insn) call other s (keeps insn) (alike zero insn refl))
    ∙ (λ i. then_follows (effect (operation_of insn.code) insn call s)
    (λ skip s. same_from change keeps call other rest skip s (λ place insn here. alike (suc place) insn here) i))

pub same_meaning : (change : Insn → Insn) → ChangesLoads change → (call other : Record) (insns : List Insn)
    → ((place : ℕ) (insn : Insn) → slice_get insns place ≡ Some insn → LoadsAlike call other insn (change insn))
    → meaning_of (map change insns) other ≡ meaning_of insns call
same_meaning change keeps call other insns alike = same_from change keeps call other insns 0 start alike
