use Rattle.std.proofs.Common.{◌∙◌, Bool, true, false, not, List, ℕ, inr, subst}
use Rattle.sk_insn.specs.declared.insn.Insn.{Insn}
use Rattle.sk_names.specs.declared.architecture.Architecture.{Architecture}
use Rattle.sk_names.specs.Architectures.{audit_of}
use Rattle.sk_survey.specs.Alike.{AreAlike, AreAsNamesakes}
use Rattle.sk_survey.specs.ChainsFor.{chain_for}
use Rattle.sk_survey.specs.Told.{AreJudgedByName, AreJudgedByNumber, AreMisjudged}
use Rattle.sk_survey.proofs.told.are_misjudged.Goals as goal

by_name : (programs : List (List Insn)) (by : Architecture) (bits : ℕ) (is : Bool)
    → AreJudgedByNumber programs by bits true → AreJudgedByName programs by is → AreMisjudged programs by bits (not is)
by_name programs by bits true alike named = inr named
by_name programs by bits false alike named = (alike, named)

pub returns : goal.returns
returns c =
    let programs = c.args.chain.now in
    let own = chain_for (audit_of c.args.architecture) programs in
    let some = subst (λ is. AreAlike programs own c.args.bits c.args.named.now is) c.if-not-branch.false c.in_ok-are_judged_alike.ensures.alike in
    let alike = subst (λ named. AreAlike programs own c.args.bits named true) c.requires.named some in
    let numbers = c.deref.ensures.value ∙ c.in_ok-own.ensures.all in
    let named = subst (λ numbers. AreAsNamesakes programs own c.args.architecture numbers c.in_ok-are_judged_by_name.field-0) numbers c.in_ok-are_judged_by_name.ensures.alike in
    record { misjudged = by_name programs c.args.architecture c.args.bits c.in_ok-are_judged_by_name.field-0 alike named }
