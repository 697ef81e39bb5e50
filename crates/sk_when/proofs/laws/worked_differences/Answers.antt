use Rattle.sk_when.proofs.WorkedDiffs.{calls_work, differences_work, expectations_work, parts_work}
use Rattle.sk_when.proofs.laws.worked_differences.Goals as goal

pub returns : goal.returns
returns c = record { calls = calls_work; differences = differences_work; expectations = expectations_work; parts = parts_work }
