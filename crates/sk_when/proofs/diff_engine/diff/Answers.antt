use Rattle.std.proofs.Common.{List, ap, sym, subst, ◌∙◌}
use Rattle.sk_insn.specs.declared.insn.Insn.{Insn}
use Rattle.sk_when.specs.Pieces.{AreCompared, finding_of}
use Rattle.sk_when.proofs.EveryCall.{same_holds}
use Rattle.sk_when.proofs.diff_engine.diff.Goals as goal

pub returns : goal.returns
returns c =
    let old = c.args.old.now in
    let pieces = c.in_ok-pieces.pieces.items in
    let told = c.in_ok-pieces.ensures in
    let stands = c.finding_of-finding.ensures.finding ∙ ap finding_of c.deref.ensures.value in
    record {
      compared = record {
        compared = told.compared;
        alone = told.alone;
        decided = told.decided;
        stands = stands;
        same = λ reflexive same.
            stands
            ∙ same_holds c.args.relation reflexive old pieces
            (subst (λ (new : List (List Insn)). AreCompared c.args.relation old new 0 4294967296 pieces) (sym same) told.compared) (told.same reflexive same);
      };
      one_way = c.pieces.ensures.one_way;
    }
