use Rattle.sk_laws.proofs.Rights.{sent_rights, forced_rights, reparented_rights, ended_rights, told_rights, forked_rights}
use Rattle.sk_laws.proofs.world.rights_are_kept.Goals as goal

pub returns : goal.returns
returns c = record {
  signal = sent_rights;
  force = forced_rights;
  reparent = reparented_rights;
  end = ended_rights;
  telling = told_rights;
  fork = forked_rights;
}
