use Rattle.std.proofs.Common.{◌≡◌, ◌++◌, take, map, string_bytes}
use Rattle.sk_policy_text.specs.PolicyTexts.{shown_byte}
use Rattle.sk_policy_text.proofs.shown.push_bytes.Given as goal

abbrev pub invariant-loop-byte : goal.invariant-loop-byte
invariant-loop-byte l = string_bytes l.text ≡ string_bytes l.fn.text ++ map shown_byte (take l.byte-index l.bytes)
