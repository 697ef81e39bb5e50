use Rattle.std.proofs.Common.{◌≡◌, take, string_bytes}
use Rattle.std.specs.List.{All}
use Rattle.sk_asm.specs.Listing.{listing_of}
use Rattle.sk_asm.specs.RoundTrip.{IsInRange}
use Rattle.sk_asm.proofs.listing.list.Given as goal

-- the lines of the instructions before this one are written, and the fields of these are in range
abbrev pub invariant-loop-insn : goal.invariant-loop-insn
invariant-loop-insn l = record {
  text : string_bytes l.text ≡ listing_of (take l.insn-index l.insns);
  ranges : All IsInRange (take l.insn-index l.insns);
}
