use Rattle.std.proofs.Common.{ℕ, List, sym, subst}
use Rattle.std.specs.Str.{IsAscii}
use Rattle.sk_text.proofs.Ascii.{IsAscii-encode_lower}
use Rattle.sk_text.proofs.hexadecimal.HexDigits.of.Goals as goal

pub invariant_of-result : goal.invariant_of-result
invariant_of-result g c =
    let written = rw c.unwrap.ensures at c.encode_to_slice.ensures.written in
    subst (λ (text : List ℕ). IsAscii text) (sym written) (IsAscii-encode_lower c.args.bytes.now)
