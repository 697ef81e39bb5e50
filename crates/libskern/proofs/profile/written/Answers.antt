use Rattle.std.proofs.Common.{rules, subst, inl}
use Rattle.libskern.specs.Profiles.{IsMadeThere}
use Rattle.libskern.specs.Writing.{IsGiven}
use Rattle.libskern.proofs.profile.written.Goals as goal

pub returns-in-Ok-clause-answered : goal.returns-in-Ok-clause-answered
returns-in-Ok-clause-answered c =
    let image = c.in-Ok.image.items in
    let made = subst (λ made. IsMadeThere c.args.setting.now c.args.profile.now made) c.in-Ok.is c.in_ok-image.ensures.made in
    let given : IsGiven image c.args.room.now c.give.result c.give.new.size c.give.new.room = rw c.deref.ensures.value at c.give.ensures.given in
    (search (rules, given), inl (image, made, given))
