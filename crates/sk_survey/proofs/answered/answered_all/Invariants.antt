use Rattle.std.proofs.Common.{◌≡◌, map, take}
use Rattle.std.specs.List.{All}
use Rattle.sk_names.specs.Architectures.{architectures}
use Rattle.sk_survey.specs.AnswersByArchitecture.{answered_architecture, IsAnswered}
use Rattle.sk_survey.proofs.answered.answered_all.Given as goal

-- those before this one are answered
abbrev pub invariant-loop-architecture : goal.invariant-loop-architecture
invariant-loop-architecture l = record {
  all : l.architecture-items ≡ architectures;
  named : map answered_architecture l.all.items ≡ take l.architecture-index l.architecture-items;
  answered : All (IsAnswered l.chain) l.all.items;
}
