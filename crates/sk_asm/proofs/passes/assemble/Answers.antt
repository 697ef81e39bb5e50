use Rattle.std.proofs.Common.{arith, length}
use Rattle.std.proofs.lemmas.Bool.{le-ltb}
use Rattle.sk_asm.specs.Passes.{assembled}
use Rattle.sk_asm.proofs.FirstFaults.{answers_first}
use Rattle.sk_asm.proofs.Relation.{text-stands, text-only}
use Rattle.sk_asm.proofs.passes.assemble.Goals as goal

-- the text is short enough, so its lines decide
pub returns-clause-exact : goal.returns-clause-exact
unfolding assembled
returns-clause-exact c = let short = le-ltb 1048576 (length c.args.text.now) (omega arith) in rw short c.assemble_lines.ensures.exact

pub returns-clause-stands : goal.returns-clause-stands
returns-clause-stands c = text-stands (λ insns. insns.items) c.assemble_lines.result c.args.text.now (returns-clause-exact c)

pub returns-clause-only : goal.returns-clause-only
returns-clause-only c insns h = text-only (λ insns. insns.items) c.assemble_lines.result c.args.text.now insns (returns-clause-exact c) h

pub returns-clause-first : goal.returns-clause-first
returns-clause-first c = answers_first (λ insns. insns.items) c.assemble_lines.result c.args.text.now (returns-clause-exact c)
