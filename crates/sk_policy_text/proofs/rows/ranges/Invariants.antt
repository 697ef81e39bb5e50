use Rattle.std.proofs.Common.{◌≡◌, ◌∷◌}
use Rattle.sk_policy_text.specs.Sentences.{behind_commas, ranges_of}
use Rattle.sk_policy_text.specs.Views.{all_seen, pieces_left}
use Rattle.sk_policy_text.proofs.Items.{behind_ranges, words_in}
use Rattle.sk_policy_text.proofs.rows.ranges.Given as goal

-- the numbers that are read, and those of the items that are left, are those of all items
abbrev pub invariant-loop-left : goal.invariant-loop-left
invariant-loop-left l =
    behind_ranges l.ranges.items (ranges_of l.by (pieces_left l.left)) ≡ ranges_of l.by (all_seen l.words ∷ behind_commas (all_seen l.words))

abbrev pub decreases-loop-left : goal.decreases-loop-left
decreases-loop-left l = words_in l.left
