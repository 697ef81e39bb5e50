use Rattle.std.proofs.Common.{◌≡◌}
use Rattle.std.specs.List.{list_any}
use Rattle.sk_text.specs.Lines.{lines_of, words_of}
use Rattle.sk_ask.specs.Forms.{begins_filter}
use Rattle.sk_ask.proofs.form.has_filter.Given as goal

-- the lines that are left tell what all do
abbrev pub invariant-loop-line : goal.invariant-loop-line
invariant-loop-line l =
    list_any (λ line. begins_filter (words_of line)) (lines_of l.line-iterator.0.now) ≡ list_any (λ line. begins_filter (words_of line)) (lines_of l.bytes)
