use Rattle.std.proofs.Common.{sym, ◌∙◌}
use Rattle.sk_names.proofs.Naming.{table_is_apart, found_so, none_so, name_of_native, number_of_native, number_with_bit, no_number_with_bit, named_with_bit, unnamed_with_bit, name_of_other, number_of_other}
use Rattle.sk_names.proofs.names.number.Goals as goal

-- ---- x86-64

pub returns-in-X86_64-clause-first : goal.returns-in-X86_64-clause-first
returns-in-X86_64-clause-first c = c.number.ensures.first ∙ sym (number_of_native c.args.architecture c.args.name.now c.in-X86_64.is)

pub returns-in-X86_64-clause-found : goal.returns-in-X86_64-clause-found
returns-in-X86_64-clause-found c =
    found_so c.number.result _ _ (λ nr named. name_of_native c.args.architecture nr c.in-X86_64.is ∙ named) c.number.ensures.found

pub returns-in-X86_64-clause-none : goal.returns-in-X86_64-clause-none
returns-in-X86_64-clause-none c =
    none_so c.number.result _ _
    (λ none nr is. none nr (sym (name_of_native c.args.architecture nr c.in-X86_64.is) ∙ is))
    c.number.ensures.none

-- ---- x32

pub number_in-requires : goal.number_in-requires
number_in-requires c = record { apart = table_is_apart _ c.args.architecture c.table_of.ensures.runs }

pub returns-in_err-number_in-in-X32-clause-first : goal.returns-in_err-number_in-in-X32-clause-first
returns-in_err-number_in-in-X32-clause-first c =
    c.from_residual.ensures
    ∙ sym (no_number_with_bit c.args.architecture _ c.args.name.now c.in-X32.is c.table_of.ensures.runs (sym c.in_err-number_in-in-X32.ensures.first))

pub returns-in_err-number_in-in-X32-clause-none : goal.returns-in_err-number_in-in-X32-clause-none
returns-in_err-number_in-in-X32-clause-none c =
    rw c.from_residual.ensures
    (unnamed_with_bit c.args.architecture _ c.args.name.now c.in-X32.is c.table_of.ensures.runs c.in_err-number_in-in-X32.ensures.none)

pub returns-in_ok-number_in-in-X32-clause-first : goal.returns-in_ok-number_in-in-X32-clause-first
returns-in_ok-number_in-in-X32-clause-first c =
    sym (number_with_bit c.args.architecture _ c.args.name.now _ c.in-X32.is c.table_of.ensures.runs (sym c.in_ok-number_in-in-X32.ensures.first))

pub returns-in_ok-number_in-in-X32-clause-found : goal.returns-in_ok-number_in-in-X32-clause-found
returns-in_ok-number_in-in-X32-clause-found c =
    named_with_bit c.args.architecture _ c.args.name.now _ c.in-X32.is c.table_of.ensures.runs c.in_ok-number_in-in-X32.ensures.found

-- ---- the others

pub number_in-requires-in_default : goal.number_in-requires-in_default
number_in-requires-in_default c = record { apart = table_is_apart _ c.args.architecture c.table_of-in_default.ensures.runs }

pub returns-in_default-clause-first : goal.returns-in_default-clause-first
returns-in_default-clause-first c =
    c.number_in-in_default.ensures.first
    ∙ sym (number_of_other c.args.architecture _ c.args.name.now c.in_default.not-X86_64 c.in_default.not-X32 c.table_of-in_default.ensures.runs)

pub returns-in_default-clause-found : goal.returns-in_default-clause-found
returns-in_default-clause-found c =
    found_so c.number_in-in_default.result _ _
    (λ nr named. name_of_other c.args.architecture _ nr c.in_default.not-X86_64 c.in_default.not-X32 c.table_of-in_default.ensures.runs ∙ named)
    c.number_in-in_default.ensures.found

pub returns-in_default-clause-none : goal.returns-in_default-clause-none
returns-in_default-clause-none c =
    none_so c.number_in-in_default.result _ _
    (λ none nr is. none nr (sym (name_of_other c.args.architecture _ nr c.in_default.not-X86_64 c.in_default.not-X32 c.table_of-in_default.ensures.runs) ∙ is))
    c.number_in-in_default.ensures.none
