use Rattle.std.proofs.Common.{sym, ◌∙◌}
use Rattle.sk_names.proofs.Naming.{table_is_apart, name_of_native, name_below_bit, name_with_bit, name_of_other}
use Rattle.sk_names.proofs.names.name.Goals as goal

pub name_in-requires : goal.name_in-requires
name_in-requires c = record { apart = table_is_apart _ c.args.architecture c.table_of.ensures.runs }

pub name_in-requires-in_default : goal.name_in-requires-in_default
name_in-requires-in_default c = record { apart = table_is_apart _ c.args.architecture c.table_of-in_default.ensures.runs }

pub returns-in-X86_64 : goal.returns-in-X86_64
returns-in-X86_64 c = record { name = c.name.ensures.name ∙ sym (name_of_native c.args.architecture c.args.number c.in-X86_64.is) }

pub returns-in-X32 : goal.returns-in-X32
returns-in-X32 c = record { name = sym (name_below_bit c.args.architecture c.args.number c.in-X32.is c.if-number-lt-X32_BIT.true) }

pub returns-in-X32-2 : goal.returns-in-X32-2
returns-in-X32-2 c = record {
  name = c.name_in.ensures.name
      ∙ sym (name_with_bit c.args.architecture _ c.args.number c.in-X32-2.is c.table_of.ensures.runs c.if-number-lt-X32_BIT.false);
}

pub returns-in_default : goal.returns-in_default
returns-in_default c = record {
  name = c.name_in-in_default.ensures.name
      ∙ sym (name_of_other c.args.architecture _ c.args.number c.in_default.not-X86_64 c.in_default.not-X32 c.table_of-in_default.ensures.runs);
}
