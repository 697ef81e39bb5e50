-- Instructions that lie in memory.
use Rattle.std.specs.Prelude.{◌<◌, ◌^◌}
use Rattle.sk_insn.specs.declared.insn.Insn.{Insn}

-- fields of 16, 8, 8 and 32 bits, as each value of the code's type has
pub record IsInRange (given : Insn) : Type 0 where
  pub code : given.code < 2 ^ 16
  pub k : given.k < 2 ^ 32
