use Rattle.std.proofs.Common.{rules}
use Rattle.sk_insn.proofs.OperationTable.{long_named}
use Rattle.sk_insn.proofs.operation.Operation.long_named.Goals as goal

pub returns-else-is_length : goal.returns-else-is_length
returns-else-is_length c = record { operation = rw (long_named c.args.name.now c.requires.long) (search rules) }
