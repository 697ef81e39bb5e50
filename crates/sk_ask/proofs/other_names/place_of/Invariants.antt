use Rattle.std.proofs.Common.{◌≡◌, ◌<◌, ℕ, false, get_or}
use Rattle.sk_ask.specs.OtherNames.{is_among}
use Rattle.sk_ask.proofs.other_names.place_of.Given as goal

-- none of the bytes stands before
abbrev pub invariant-loop-at : goal.invariant-loop-at
invariant-loop-at l = (k : ℕ) → k < l.at → is_among l.bytes (get_or l.text k 0) ≡ false
