use Rattle.std.proofs.Common.{◌∙◌, sym}
use Rattle.std.proofs.lemmas.Bool.{le-ltb}
use Rattle.sk_world.proofs.Members.{bit_test, member_below, no_member_above}
use Rattle.sk_world.proofs.number_set.NumberSet.contains.Goals as goal

pub returns-then-number-lt-NUMBERS : goal.returns-then-number-lt-NUMBERS
returns-then-number-lt-NUMBERS c =
    bit_test _ _ ∙ sym (member_below c.self.inside.words _ c.self.view_is c.args.number c.if-number-lt-NUMBERS.true)

pub returns-else-number-lt-NUMBERS : goal.returns-else-number-lt-NUMBERS
returns-else-number-lt-NUMBERS c =
    le-ltb _ _ c.if-number-lt-NUMBERS.false ∙ sym (no_member_above c.self.inside.words _ c.self.view_is c.args.number c.if-number-lt-NUMBERS.false)
