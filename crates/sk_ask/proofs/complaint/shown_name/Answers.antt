use Rattle.std.proofs.lemmas.Str.{utf8_lossy-IsUtf8}
use Rattle.sk_ask.specs.Complaints.{shown}
use Rattle.sk_ask.proofs.Shown.{shown_is_utf8}
use Rattle.sk_ask.proofs.complaint.shown_name.Goals as goal

-- nothing is replaced
pub returns : goal.returns
returns c =
    let whole = utf8_lossy-IsUtf8 (shown c.args.name.now) (shown_is_utf8 c.args.name.now c.utf8.name) in
    record { shown = rw (c.deref.ensures.value, c.in_ok-shown.ensures.bytes, c.as_bytes.ensures.value, whole) at c.from_utf8_lossy.ensures.lossy }
