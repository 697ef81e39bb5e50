use Rattle.std.proofs.Common.{◌≡◌, ◌++◌, [], map}
use Rattle.sk_policy_text.specs.Words.{seen, place_of, placed, words_behind, words_of_line}
use Rattle.sk_policy_text.proofs.reading.push_line.Given as goal

-- the words so far, and those that are left of the line, are those that were there and those of the line
abbrev pub invariant-loop-text : goal.invariant-loop-text
invariant-loop-text l =
    map seen l.words.items ++ placed l.number l.place (words_behind [] l.text-iterator.0.now)
    ≡ map seen l.fn.words.items ++ placed l.number (place_of (map seen l.fn.words.items) l.line) (words_of_line l.line)
