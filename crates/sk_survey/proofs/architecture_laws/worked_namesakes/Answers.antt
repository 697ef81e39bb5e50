use Rattle.std.proofs.Common.{refl}
use Rattle.sk_names.specs.X86_64.{name_of, number_named}
use Rattle.sk_names.specs.Names.{name_at, number_at, name_in, number_in, runs_of, name_on, number_on}
use Rattle.sk_survey.proofs.architecture_laws.worked_namesakes.Goals as goal

pub returns : goal.returns
unfolding name_of number_named name_at number_at name_in number_in runs_of name_on number_on
returns c = record {
  law = record {
    ptrace_of_x32 = refl;
    ptrace_of_i386 = refl;
    ioperm_of_i386 = refl;
    getpid_of_x32 = refl;
    none_of_waitpid = refl;
  };
}
