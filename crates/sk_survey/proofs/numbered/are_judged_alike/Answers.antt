use Rattle.std.proofs.Common.{bit_or, ◌∙◌, ap, arith, false, slice_index_or, subst, true, List}
use Rattle.std.specs.List.{All}
use Rattle.std.proofs.lemmas.List.{take_all}
use Rattle.std.proofs.lemmas.List.Elements.{All-more}
use Rattle.std.proofs.lemmas.Option.{slice_get-get_or}
use Rattle.sk_insn.specs.declared.insn.Insn.{Insn}
use Rattle.sk_names.specs.Architectures.{audit_of}
use Rattle.sk_survey.specs.ChainsFor.{chain_for}
use Rattle.sk_survey.specs.Alike.{IsAlike}
use Rattle.sk_survey.proofs.numbered.are_judged_alike.Goals as goal

pub returns-then-not-branch : goal.returns-then-not-branch
returns-then-not-branch c =
    let own = c.in_ok-own.ensures.chain ∙ ap (λ arch. chain_for arch c.args.chain.now) c.audit.ensures.number in
    let nr = slice_index_or c.args.numbers.now c.loop-nr.nr-index 0 in
    let other = bit_or nr c.args.bits in
    let is = subst (IsAlike c.args.chain.now c.in_ok-own.own nr other) c.if-not-branch.true c.in_ok-is_judged_alike.ensures.alike in record {
      alike = (
        c.loop-nr.nr-index,
        nr,
        slice_get-get_or c.args.numbers.now c.loop-nr.nr-index 0 (omega arith),
        subst (λ (others : List (List Insn)). IsAlike c.args.chain.now others nr other false) own is,
      );
    }

pub loop-nr-preserved : goal.loop-nr-preserved
loop-nr-preserved c =
    let own = c.in_ok-own.ensures.chain ∙ ap (λ arch. chain_for arch c.args.chain.now) c.audit.ensures.number in
    let nr = slice_index_or c.args.numbers.now c.loop-nr.nr-index 0 in
    let is = subst (IsAlike c.args.chain.now c.in_ok-own.own nr (bit_or nr c.args.bits)) c.if-not-branch.false c.in_ok-is_judged_alike.ensures.alike in
    All-more (λ nr. IsAlike c.args.chain.now (chain_for (audit_of c.args.architecture) c.args.chain.now) nr (bit_or nr c.args.bits) true) c.args.numbers.now c.loop-nr.nr-index 0 (omega arith)
    c.loop-nr.invariant
    (subst (λ (others : List (List Insn)). IsAlike c.args.chain.now others nr (bit_or nr c.args.bits) true) own is)

pub returns : goal.returns
returns c =
    let whole = take_all c.loop-nr.nr-index c.args.numbers.now (omega arith) in record {
      alike = subst (All (λ nr. IsAlike c.args.chain.now (chain_for (audit_of c.args.architecture) c.args.chain.now) nr (bit_or nr c.args.bits) true)) whole c.loop-nr.invariant;
    }
