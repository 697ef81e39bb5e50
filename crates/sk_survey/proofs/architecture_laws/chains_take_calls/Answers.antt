use Rattle.sk_survey.proofs.TakenCalls.{chains_take_calls, chains_without_unread, taken_is_taken_so}
use Rattle.sk_survey.proofs.architecture_laws.chains_take_calls.Goals as goal

pub returns : goal.returns
returns c = record { unread = chains_without_unread; loaded = chains_take_calls; again = taken_is_taken_so }
