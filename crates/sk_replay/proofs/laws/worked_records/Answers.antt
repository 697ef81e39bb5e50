use Rattle.sk_replay.proofs.RecordExamples.{worked_records}
use Rattle.sk_replay.proofs.laws.worked_records.Goals as goal

pub returns : goal.returns
returns c = record { law = worked_records }
