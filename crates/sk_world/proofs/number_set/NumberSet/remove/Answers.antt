use Rattle.std.proofs.Common.{◌≢◌, ◌∙◌, ◌/◌, ◌%◌, ◌^◌, ◌*◌, ◌-◌, arith, get_or, sym, get_or-set_same, bit_and}
use Rattle.sk_world.proofs.Members.{members-clear}
use Rattle.sk_world.proofs.Summing.{summed-clear, left_was_some}
use Rattle.sk_world.proofs.Marking.{marked-clear, marked-kept}
use Rattle.sk_world.proofs.number_set.NumberSet.remove.Goals as goal

pub invariant_of-self : goal.invariant_of-self
invariant_of-self c =
    let n = c.args.number in
    let was = c.self.invariant in
    let written = bit_and (get_or c.self.inside.words (n / 64) 0) (18446744073709551615 - 1 * 2 ^ (n % 64) % 18446744073709551616) in
    let group = bit_and (get_or c.self.inside.inhabited (n / 64 / 64) 0) (18446744073709551615 - 1 * 2 ^ (n / 64 % 64) % 18446744073709551616) in (
      summed-clear c.self.inside.words c.self.inside.inhabited was.0 (n / 64) written (omega (arith, c.requires))
          (sym (get_or-set_same c.self.inside.words (n / 64) written 0 (omega (arith, c.requires, was.0.long))) ∙ c.if-self-index-eq0.true),
      marked-clear c.self.inside.inhabited c.self.inside.groups was.1 (n / 64 / 64) group (omega (arith, c.requires)) (omega (arith, c.requires, was.0.short))
          (sym (get_or-set_same c.self.inside.inhabited (n / 64 / 64) group 0 (omega (arith, c.requires, was.0.short))) ∙ c.if-self-index-eq0-2.true),
    )

pub invariant_of-self-else-self-index-eq0-2 : goal.invariant_of-self-else-self-index-eq0-2
invariant_of-self-else-self-index-eq0-2 c =
    let n = c.args.number in
    let was = c.self.invariant in
    let written = bit_and (get_or c.self.inside.words (n / 64) 0) (18446744073709551615 - 1 * 2 ^ (n % 64) % 18446744073709551616) in
    let mask = 18446744073709551615 - 1 * 2 ^ (n / 64 % 64) % 18446744073709551616 in
    let before = get_or c.self.inside.inhabited (n / 64 / 64) 0 in
    let group = bit_and before mask in
    let same = get_or-set_same c.self.inside.inhabited (n / 64 / 64) group 0 (omega (arith, c.requires, was.0.short)) in
    let some : group ≢ 0 = λ none. c.if-self-index-eq0-2.false (same ∙ none) in (
      summed-clear c.self.inside.words c.self.inside.inhabited was.0 (n / 64) written (omega (arith, c.requires))
          (sym (get_or-set_same c.self.inside.words (n / 64) written 0 (omega (arith, c.requires, was.0.long))) ∙ c.if-self-index-eq0.true),
      marked-kept c.self.inside.inhabited c.self.inside.groups was.1 (n / 64 / 64) group (omega (arith, c.requires)) (omega (arith, c.requires, was.0.short))
          (left_was_some before mask some) some,
    )

pub returns-then-self-index-eq0-2 : goal.returns-then-self-index-eq0-2
returns-then-self-index-eq0-2 c = members-clear c.self.inside.words _ c.args.number c.self.view_is c.self.invariant.0.long c.requires

pub returns-else-self-index-eq0-2 : goal.returns-else-self-index-eq0-2
returns-else-self-index-eq0-2 c = members-clear c.self.inside.words _ c.args.number c.self.view_is c.self.invariant.0.long c.requires

pub returns-else-self-index-eq0 : goal.returns-else-self-index-eq0
returns-else-self-index-eq0 c = members-clear c.self.inside.words _ c.args.number c.self.view_is c.self.invariant.0.long c.requires
