use Rattle.sk_scenario.proofs.reader.read_again.Goals as goal

pub returns : goal.returns
returns c = record { exact = c.read_lines.ensures.exact }
