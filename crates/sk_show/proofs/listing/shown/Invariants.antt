use Rattle.std.proofs.Common.{◌≡◌, ◌+◌, ◌++◌, length, string_bytes, vec_len}
use Rattle.std.specs.List.{All}
use Rattle.sk_asm.specs.RoundTrip.{IsInRange}
use Rattle.sk_show.specs.Coming.{Finds, named_at, told_apart}
use Rattle.sk_show.specs.Holding.{ways_from}
use Rattle.sk_show.specs.Showing.{lines_from, show_text, text_of}
use Rattle.sk_show.proofs.listing.shown.Given as goal

-- the lines of the instructions before this one are written, and the fields of these are in range
abbrev pub invariant-loop-insn : goal.invariant-loop-insn
invariant-loop-insn l = record {
  text : string_bytes l.text ++ text_of (lines_from (named_at l.architecture l.insns) (length l.insns) l.at (ways_from l.at l.jumps.items l.next l.rest) l.rest) ≡ show_text l.architecture l.insns;
  left : l.at + length l.rest ≡ length l.insns;
  places : vec_len l.jumps ≡ length l.insns;
  ranges : All IsInRange l.rest → All IsInRange l.insns;
  reaches : Finds l.insns told_apart l.reaches.items;
}

abbrev pub decreases-loop-insn : goal.decreases-loop-insn
decreases-loop-insn l = length l.rest
