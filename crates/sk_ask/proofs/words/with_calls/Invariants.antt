use denote.Shadow.{shadow}
use denote.Text.{Utf8}
use Rattle.std.proofs.Common.{◌≡◌, length}
use Rattle.std.specs.List.{slice_split}
use Rattle.sk_ask.specs.Asking.{is_comma, with_calls}
use Rattle.sk_ask.specs.Asked.{question_of}
use Rattle.sk_ask.proofs.words.with_calls.Given as goal

abbrev pub invariant-loop-name : goal.invariant-loop-name
invariant-loop-name l =
    shadow (Utf8 l.rest) × (with_calls (question_of l.held) (slice_split is_comma l.rest) ≡ with_calls (question_of l.fn.asked) (slice_split is_comma l.text))

abbrev pub decreases-loop-name : goal.decreases-loop-name
decreases-loop-name l = length l.rest
