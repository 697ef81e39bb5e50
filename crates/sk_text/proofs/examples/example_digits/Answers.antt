use Rattle.std.proofs.Common.{refl}
use Rattle.hex.specs.Hex.{decode_pairs, encode_with}
use Rattle.sk_text.specs.Hexadecimal.{bytes_in, hex_word, hex_half}
use Rattle.sk_text.proofs.examples.example_digits.Goals as goal

pub returns : goal.returns
unfolding decode_pairs encode_with bytes_in hex_word hex_half
returns c = record { joined = refl; none = refl; odd = refl; other = refl; parted = refl; word = refl; half = refl }
