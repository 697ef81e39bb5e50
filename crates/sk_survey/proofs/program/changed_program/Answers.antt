use Rattle.std.proofs.Common.{subst, sym}
use Rattle.sk_filter.specs.Valid.{IsValid}
use Rattle.sk_survey.proofs.Valid.{still_valid_with}
use Rattle.sk_survey.proofs.program.changed_program.Goals as goal

pub unreachable-requires : goal.unreachable-requires
unreachable-requires c =
    let before = subst IsValid (sym c.insns.ensures.insns) c.insns.ensures.valid in
    let valid = subst IsValid (sym c.in_ok-changed_insns.ensures.insns) (still_valid_with c.args.change c.requires.made c.insns.result.now before) in
    let refused = c.in-Err.ensures.valid.1 valid in
    cc
