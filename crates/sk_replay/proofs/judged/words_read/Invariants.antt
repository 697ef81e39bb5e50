use Rattle.std.proofs.Common.{◌≡◌, ◌++◌, flat_map}
use Rattle.sk_show.specs.Paths.{path_of}
use Rattle.sk_replay.specs.Judging.{words_on, words_read}
use Rattle.sk_replay.proofs.judged.words_read.Given as goal

-- the words that are there, and those of the filters that are left, are those of all filters
abbrev pub invariant-loop-program : goal.invariant-loop-program
invariant-loop-program l = l.words.items ++ words_read l.program-iterator l.call ≡ words_read l.chain l.call
