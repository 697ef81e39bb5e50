use Rattle.sk_replay.proofs.Parts.{four_parts}
use Rattle.sk_replay.proofs.text.tally_text.Goals as goal

pub returns : goal.returns
returns c = record {
  text = four_parts _ _ _ _ _ _ _ _ _ c.new-text.ensures.bytes c.in_ok-push_denied.ensures.text c.in_ok-push_performed.ensures.text c.in_ok-push_events.ensures.text c.in_ok-push_unclear.ensures.text;
}
