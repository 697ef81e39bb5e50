use Rattle.sk_insn.proofs.Records.{record_bytes-read}
use Rattle.sk_insn.proofs.record.Record.read.Goals as goal

pub returns-clause-bytes : goal.returns-clause-bytes
returns-clause-bytes c =
    record_bytes-read c.args.bytes.now _ _ _ _ _ _ _ _ _ c.fits-bytes c.told-bytes
    c.u32_at-nr.ensures c.u32_at-arch.ensures c.u64_at-ip.ensures c.u64_at-first.ensures c.u64_at-second.ensures c.u64_at-third.ensures c.u64_at-fourth.ensures c.u64_at-fifth.ensures c.u64_at-sixth.ensures
