use Rattle.std.proofs.Common.{ap, ◌∙◌}
use Rattle.hex.specs.Hex.{encode_lower}
use Rattle.sk_insn.specs.Record.{record_bytes}
use Rattle.sk_document.specs.Calls.{record_digits}
use Rattle.sk_document.proofs.call.record_digits.Goals as goal

pub returns : goal.returns
unfolding record_digits
returns c = record {
  digits = c.of.ensures.digits ∙ ap encode_lower c.bytes.ensures.bytes
      ∙ ap (λ arch. encode_lower (record_bytes (record c.args.call { arch = arch }))) c.audit.ensures.number;
}
