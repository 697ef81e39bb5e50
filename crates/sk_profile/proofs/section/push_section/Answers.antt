use Rattle.std.proofs.Common.{ℕ, List, ◌+◌, ◌<◌, ◌≤◌, length, arith, sym, subst}
use Rattle.sk_profile.specs.CodeViews.{IsTreeOf}
use Rattle.sk_profile.proofs.Growing.{handed_on, long_of, long_section, section_put}
use Rattle.sk_profile.proofs.section.push_section.Goals as goal

pub returns-in_err-tree-clause-long : goal.returns-in_err-tree-clause-long
returns-in_err-tree-clause-long c =
    handed_on _ _ _ c.from_residual-in_err-tree.ensures.1 (λ is. long_of c.args.audit c.deref.result.now c.args.before.now c.args.rows.now
    (subst (λ (values : List ℕ). length values ≤ 1 + length c.args.rows.now) (sym c.deref.ensures.value) c.in_ok-values.ensures.brief) (c.in_err-tree.ensures.long is))

pub returns-then-behind-ge-MOST_INSNS-clause-long : goal.returns-then-behind-ge-MOST_INSNS-clause-long
returns-then-behind-ge-MOST_INSNS-clause-long c = λ is.
    let it = subst (λ values. IsTreeOf values 0 c.args.before.now c.args.rows.now c.in_ok-tree.tree.items) c.deref.ensures.value c.in_ok-tree.ensures.tree in
    long_section c.args.audit c.in_ok-values.values.items c.args.before.now c.args.rows.now it.tree it.is it.has c.in_ok-values.ensures.brief
    (subst (λ insns. 4096 < length insns + length c.in_ok-values.values.items + 1) it.written
    (omega (arith, c.if-behind-ge-MOST_INSNS.true, c.len.ensures, c.len-2.ensures, c.in_ok-tree.tree.ok.0, c.in_ok-values.values.ok.0)))

pub returns-clause-section : goal.returns-clause-section
returns-clause-section c =
    let it = subst (λ values. IsTreeOf values 0 c.args.before.now c.args.rows.now c.in_ok-tree.tree.items) c.deref.ensures.value c.in_ok-tree.ensures.tree in
    section_put c.args.code.now.items c.in_ok-tree.tree.items _ c.args.audit c.in_ok-values.values.items c.args.before.now c.args.rows.now (c.len.result + c.len-2.result + 1) it
    (omega (arith, c.len.ensures, c.len-2.ensures, c.in_ok-tree.tree.ok.0, c.in_ok-values.values.ok.0)) c.in_ok-values.ensures.brief
    (grind (
      arith,
      c.in_ok-push_answers.ensures.code,
      c.in_ok-extend_from_slice.ensures.items,
      c.in_ok-push.ensures.items,
      c.in_ok-push_past.ensures.code,
      c.load.ensures.insn,
      c.deref-2.ensures.value,
      c.deref-3.ensures.value,
    ))
