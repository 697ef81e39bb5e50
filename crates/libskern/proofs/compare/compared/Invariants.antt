use Rattle.std.proofs.Common.{◌≡◌, ◌≢◌, ◌≤◌, false}
use Rattle.std.specs.List.{All}
use Rattle.sk_conditions.specs.Followed.{AreFollowed}
use Rattle.sk_conditions.specs.Steps.{NeverPart}
use Rattle.libskern.specs.declared.compare.Found.TheVariants.{Open}
use Rattle.libskern.specs.Comparing.{IsFound}
use Rattle.libskern.proofs.compare.compared.Given as goal

abbrev pub invariant-loop-beginning : goal.invariant-loop-beginning
invariant-loop-beginning l = record {
  fits : l.first ≤ 4294967295;
  found : IsFound l.all.relation l.all.old.now l.all.new.now 0 l.first l.found;
  decided : All AreFollowed l.all.old.now → All AreFollowed l.all.new.now → l.budgets.is_spent ≡ false → l.found ≢ Open;
  one_way : NeverPart 0 4294967296 l.all.old.now → NeverPart 0 4294967296 l.all.new.now → l.initial.budgets.is_spent ≡ false → l.budgets.is_spent ≡ false;
}
