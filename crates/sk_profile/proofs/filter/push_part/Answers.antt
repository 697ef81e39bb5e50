use Rattle.sk_profile.specs.Views.{part_of}
use Rattle.sk_profile.proofs.Whole.{by_code, long_part, section_of}
use Rattle.sk_profile.proofs.filter.push_part.Goals as goal

pub returns-in_err-push_section-clause-long : goal.returns-in_err-push_section-clause-long
returns-in_err-push_section-clause-long c =
    by_code _ _ c.from_residual-in_err-push_section.ensures.1
    (λ is. long_part c.args.default c.args.bad (part_of c.args.part.now) c.in_ok-before.field-0 c.deref.result.now c.deref.ensures.value c.in_ok-before.ensures.says c.in_ok-before.ensures.few
    (c.in_err-push_section.ensures.long is))

pub returns-clause-section : goal.returns-clause-section
returns-clause-section c =
    section_of c.args.default c.args.bad (part_of c.args.part.now) c.in_ok-before.field-0 c.deref.result.now _ _ c.deref.ensures.value c.in_ok-before.ensures.says c.in_ok-before.ensures.few
    c.in_ok-push_section.ensures.section
