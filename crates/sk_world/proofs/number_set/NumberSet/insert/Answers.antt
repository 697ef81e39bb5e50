use Rattle.std.proofs.Common.{◌/◌, ◌%◌, arith, get_or}
use Rattle.sk_world.proofs.Members.{members-set}
use Rattle.sk_world.proofs.Summing.{summed-insert, set_is_some}
use Rattle.sk_world.proofs.Marking.{marked-insert}
use Rattle.sk_world.proofs.number_set.NumberSet.insert.Goals as goal

pub invariant_of-self : goal.invariant_of-self
invariant_of-self c =
    let n = c.args.number in
    let was = c.self.invariant in (
      summed-insert c.self.inside.words c.self.inside.inhabited was.0 (n / 64) _ (omega (arith, c.requires))
          (set_is_some (get_or c.self.inside.words (n / 64) 0) (n % 64) (omega arith)),
      marked-insert c.self.inside.inhabited c.self.inside.groups was.1 (n / 64 / 64) _ (omega (arith, c.requires)) (omega (arith, c.requires, was.0.short))
          (set_is_some (get_or c.self.inside.inhabited (n / 64 / 64) 0) (n / 64 % 64) (omega arith)),
    )

pub returns : goal.returns
returns c = members-set c.self.inside.words _ c.args.number c.self.view_is c.self.invariant.0.long c.requires
