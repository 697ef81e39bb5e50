-- The line of a case that decides, or of what stands behind it.
use Rattle.std.proofs.Common.{◌≡◌, ℕ, true, false, refl, sym, ◌∙◌, rules, Option, Some}
use Rattle.sk_insn.specs.declared.record.Record.{Record}
use Rattle.sk_terms.specs.Lines.{meets_choices}
use Rattle.sk_policy.specs.declared.cases.Case.{Case}
use Rattle.sk_policy_text.specs.declared.sentence.Sentence.{Sentence}
use Rattle.sk_policy_text.specs.declared.sentence.Sentence.TheVariants as sentence
use Rattle.sk_policy_text.specs.PolicyDeciding.{CaseDecides}
use Rattle.sk_policy_text.specs.PolicyFaults.{IsCaseOf}

pub met_here : (it : Sentence) (at : ℕ) (Behind : Type 0) (case : Case) (call : Record) → IsCaseOf it case
    → meets_choices case.choices.items call ≡ true → CaseDecides it at Behind call (Some at)
met_here (sentence.Case verdict words) at Behind case call is met =
    let reads = is.1 in (
      reads.written,
      reads.words,
      λ whole held. refl,
      λ whole failed. let no : true ≡ false = sym met ∙ reads.means reads.written reads.words call whole ∙ failed in absurd (search (rules, no)),
    )
met_here other at Behind case call is met = absurd is

pub met_behind : (it : Sentence) (at : ℕ) (Behind : Type 0) (case : Case) (call : Record) (line : Option ℕ) → IsCaseOf it case
    → meets_choices case.choices.items call ≡ false → Behind → CaseDecides it at Behind call line
met_behind (sentence.Case verdict words) at Behind case call line is unmet behind =
    let reads = is.1 in (
      reads.written,
      reads.words,
      λ whole held. let no : true ≡ false = sym held ∙ sym (reads.means reads.written reads.words call whole) ∙ unmet in absurd (search (rules, no)),
      λ whole failed. behind,
    )
met_behind other at Behind case call line is unmet behind = absurd is
