use Rattle.std.proofs.Common.{◌≡◌, ℕ, List, is_some, IsTrue, rules, sym, subst, ◌∙◌}
use Rattle.std.specs.List.{Contains}
use Rattle.std.proofs.lemmas.Result.{IfOk-weaker}
use Rattle.sk_names.specs.declared.architecture.Architecture.{Architecture}
use Rattle.sk_names.specs.Names.{name_on}
use Rattle.sk_names.specs.Numbers.{numbers_on}
use Rattle.sk_names.proofs.Named.{each_is_there}
use Rattle.sk_names.proofs.Naming.{table_is_apart, numbers_of_native, numbers_with_bit, numbers_of_other}
use Rattle.sk_names.proofs.names.numbers.Goals as goal

-- so each is there where they are these
each_of : (by : Architecture) (numbers : List ℕ) → numbers ≡ numbers_on by → (nr : ℕ) → IsTrue (is_some (name_on by nr)) → Contains numbers nr
each_of by numbers is nr named = subst (λ all. Contains all nr) (sym is) (each_is_there by nr named)

pub numbers_in-requires-clause-apart : goal.numbers_in-requires-clause-apart
numbers_in-requires-clause-apart c = table_is_apart _ c.args.architecture c.table_of.ensures.runs

pub numbers_in-requires-in_default : goal.numbers_in-requires-in_default
numbers_in-requires-in_default c = record { base = search rules; apart = table_is_apart _ c.args.architecture c.table_of-in_default.ensures.runs }

pub returns-in-X86_64-clause-all : goal.returns-in-X86_64-clause-all
returns-in-X86_64-clause-all c =
    IfOk-weaker c.numbers.result _ _ (λ numbers is. is ∙ sym (numbers_of_native c.args.architecture c.in-X86_64.is)) c.numbers.ensures.all

pub returns-in-X86_64-clause-each : goal.returns-in-X86_64-clause-each
returns-in-X86_64-clause-each c =
    IfOk-weaker c.numbers.result _ _
    (λ numbers is. each_of c.args.architecture numbers.items (is ∙ sym (numbers_of_native c.args.architecture c.in-X86_64.is))) c.numbers.ensures.all

pub returns-in-X32-clause-all : goal.returns-in-X32-clause-all
returns-in-X32-clause-all c =
    IfOk-weaker c.numbers_in.result _ _
    (λ numbers is. is ∙ sym (numbers_with_bit c.args.architecture _ c.in-X32.is c.table_of.ensures.runs)) c.numbers_in.ensures.all

pub returns-in-X32-clause-each : goal.returns-in-X32-clause-each
returns-in-X32-clause-each c =
    IfOk-weaker c.numbers_in.result _ _
    (λ numbers is. each_of c.args.architecture numbers.items (is ∙ sym (numbers_with_bit c.args.architecture _ c.in-X32.is c.table_of.ensures.runs)))
    c.numbers_in.ensures.all

pub returns-in_default : goal.returns-in_default
returns-in_default c =
    let these = sym (numbers_of_other c.args.architecture _ c.in_default.not-X86_64 c.in_default.not-X32 c.table_of-in_default.ensures.runs) in
    record {
      all = IfOk-weaker c.numbers_in-in_default.result _ _ (λ numbers is. is ∙ these) c.numbers_in-in_default.ensures.all;
      each = IfOk-weaker c.numbers_in-in_default.result _ _
          (λ numbers is. each_of c.args.architecture numbers.items (is ∙ these)) c.numbers_in-in_default.ensures.all;
    }
