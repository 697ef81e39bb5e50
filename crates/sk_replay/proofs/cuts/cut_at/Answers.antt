use Rattle.sk_replay.proofs.Given.{cut_found, cut_none}
use Rattle.sk_replay.proofs.cuts.cut_at.Goals as goal

pub returns-then-before-text : goal.returns-then-before-text
returns-then-before-text c = record { parts = cut_found _ _ _ _ c.cut.ensures.front c.cut.ensures.back c.if-before-text.true }

pub returns-else-before-text : goal.returns-else-before-text
returns-else-before-text c = record { parts = cut_none _ _ _ c.cut.ensures.front c.if-before-text.false }
