use Rattle.std.proofs.Common.{rules, inl, inr, refl}
use Rattle.sk_text.specs.Counted.{inner_of, failures_of}
use Rattle.sk_engines.specs.Program.{device}
use Rattle.sk_engines.proofs.program.finish.Goals as goal

pub returns-in-Err : goal.returns-in-Err
returns-in-Err g c =
    let left = device (g.W.Write.contents (inner_of c.send.new.writer)) (failures_of c.send.new.writer) in
    record {
      ends = inr (refl, record { between = left; begun = search rules; failed = search rules; told = inl (search rules, refl) });
    }

pub returns : goal.returns
returns g c =
    let left = device (g.W.Write.contents (inner_of c.send.new.writer)) (failures_of c.send.new.writer) in
    record {
      ends = inr (search rules, record { between = left; begun = search rules; failed = search rules; told = inr (search rules, search rules) });
    }
