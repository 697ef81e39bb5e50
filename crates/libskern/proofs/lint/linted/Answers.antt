use Rattle.std.proofs.Common.{ℕ, List, length, ap, rules, ◌≡◌, ◌∙◌, Bool, true, false, [], arith, sym, string_bytes, refl}
use Rattle.sk_arguments.specs.declared.naming.Naming.TheVariants.{Constants}
use Rattle.sk_when.specs.declared.diff_engine.Finding.{Finding}
use Rattle.sk_when.specs.declared.diff_engine.Finding.TheVariants.{Holds, Fails, Undecided}
use Rattle.sk_when.specs.LintText.{lint_text}
use Rattle.sk_when.proofs.Linting.{followed_is_decided}
use Rattle.libskern.specs.Faults.{no_memory, plain, unfollowed}
use Rattle.libskern.specs.Lints.{number_of}
use Rattle.libskern.specs.Writing.{written}
use Rattle.libskern.proofs.lint.linted.Goals as goal

-- what is found is told by a number of its own
never_for_memory : (is_spent : Bool) (finding : Finding) → number_of is_spent finding ≡ no_memory → ⊥
never_for_memory is_spent Holds is = omega (arith, is)
never_for_memory is_spent Fails is = omega (arith, is)
never_for_memory true Undecided is = omega (arith, is)
never_for_memory false Undecided is = omega (arith, is)

pub returns-clause-linted : goal.returns-clause-linted
returns-clause-linted c =
    let it = c.in_ok-it.it in
    let told = c.say.ensures.said.answer ∙ c.plain-told.ensures.plain ∙ ap plain c.number_of.ensures.number in
    let text = c.deref-2.ensures ∙ c.in_ok-text.ensures.text ∙ ap (lint_text false Constants (λ call. []) it.finding) c.deref.ensures.value in (
      λ is. never_for_memory c.lint.new.budgets.is_spent it.finding (sym (ap (λ fault. fault.reason) told) ∙ is),
      record {
        is_spent = c.lint.new.budgets.is_spent;
        finding = it.finding;
        pieces = it.pieces.items;
        notes = string_bytes it.notes;
        is = c.in_ok-it.ensures.linted;
        said = record {
          answer = told;
          taken = c.say.ensures.said.taken ∙ ap length text;
          bytes = c.say.ensures.said.bytes ∙ ap (λ (its : List ℕ). written its c.args.room.now) text;
        };
      },
    )

-- it is not known for want of a filter that is followed where steps were left and some calls are undecided
only_undecided : (is_spent : Bool) (finding : Finding) → number_of is_spent finding ≡ unfollowed → (is_spent ≡ false) × (finding ≡ Undecided)
only_undecided is_spent Holds is = absurd (omega (arith, is))
only_undecided is_spent Fails is = absurd (omega (arith, is))
only_undecided true Undecided is = absurd (omega (arith, is))
only_undecided false Undecided is = (refl, refl)

pub returns-clause-followed : goal.returns-clause-followed
returns-clause-followed c = λ all is.
    let it = c.in_ok-it.it in
    let told : number_of c.lint.new.budgets.is_spent it.finding ≡ unfollowed =
    sym (c.number_of.ensures.number) ∙ (search (rules, is, c.say.ensures.said, c.plain-told.ensures.plain)) in
    let undecided = only_undecided c.lint.new.budgets.is_spent it.finding told in
    followed_is_decided c.args.chain.now it.finding it.pieces.items (string_bytes it.notes) all
    (rw undecided.0 at c.in_ok-it.ensures.linted) undecided.1
