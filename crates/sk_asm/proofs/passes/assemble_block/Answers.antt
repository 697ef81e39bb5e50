use Rattle.std.proofs.Common.{◌+◌}
use Rattle.sk_text.specs.Lines.{lines_of}
use Rattle.sk_asm.specs.Block.{until_end}
use Rattle.sk_asm.proofs.FirstFaults.{answers_first_line}
use Rattle.sk_asm.proofs.Relation.{lines-stand, lines-only}
use Rattle.sk_asm.proofs.passes.assemble_block.Goals as goal

pub returns-clause-stands : goal.returns-clause-stands
returns-clause-stands c =
    lines-stand (λ insns. insns.items) c.assemble_lines.result (c.args.before + 1) (until_end (lines_of c.args.text.now)) c.assemble_lines.ensures.exact

pub returns-clause-only : goal.returns-clause-only
returns-clause-only c insns h =
    lines-only (λ insns. insns.items) c.assemble_lines.result (c.args.before + 1) (until_end (lines_of c.args.text.now)) insns c.assemble_lines.ensures.exact h

pub returns-clause-first : goal.returns-clause-first
returns-clause-first c =
    answers_first_line (λ insns. insns.items) c.assemble_lines.result (c.args.before + 1) (until_end (lines_of c.args.text.now)) c.assemble_lines.ensures.exact
