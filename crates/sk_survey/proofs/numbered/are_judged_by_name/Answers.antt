use Rattle.std.proofs.Common.{◌∙◌, ap, arith, true, slice_index_or, subst, List}
use Rattle.std.specs.List.{All}
use Rattle.std.proofs.lemmas.List.{take_all}
use Rattle.std.proofs.lemmas.List.Elements.{All-more}
use Rattle.sk_insn.specs.declared.insn.Insn.{Insn}
use Rattle.sk_names.specs.Architectures.{audit_of}
use Rattle.sk_survey.specs.ChainsFor.{chain_for}
use Rattle.sk_survey.specs.Alike.{IsAsNamesake, namesake}
use Rattle.sk_survey.proofs.numbered.are_judged_by_name.Goals as goal

pub loop-nr-preserved : goal.loop-nr-preserved
loop-nr-preserved c =
    let own = c.in_ok-own.ensures.chain ∙ ap (λ arch. chain_for arch c.args.chain.now) c.audit.ensures.number in
    let nr = slice_index_or c.args.numbers.now c.loop-nr.nr-index 0 in
    let is = subst (IsAsNamesake c.args.chain.now c.in_ok-own.own c.namesake.result nr) c.if-not-branch.false c.in_ok-is_as_namesake.ensures.alike in
    let of = subst (λ of. IsAsNamesake c.args.chain.now c.in_ok-own.own of nr true) c.namesake.ensures.namesake is in
    All-more (λ nr. IsAsNamesake c.args.chain.now (chain_for (audit_of c.args.architecture) c.args.chain.now) (namesake c.args.architecture nr) nr true)
    c.args.numbers.now c.loop-nr.nr-index 0 (omega arith)
    c.loop-nr.invariant
    (subst (λ (others : List (List Insn)). IsAsNamesake c.args.chain.now others (namesake c.args.architecture nr) nr true) own of)

pub returns : goal.returns
returns c =
    let whole = take_all c.loop-nr.nr-index c.args.numbers.now (omega arith) in record {
      alike = subst (All (λ nr. IsAsNamesake c.args.chain.now (chain_for (audit_of c.args.architecture) c.args.chain.now) (namesake c.args.architecture nr) nr true)) whole c.loop-nr.invariant;
    }
