use Rattle.std.proofs.Common.{◌≡◌, ◌++◌, length, string_bytes}
use Rattle.sk_show.specs.PathText.{filters_text}
use Rattle.sk_show.proofs.text.push_filters.Given as goal

-- the text of the filters that are left is to come
abbrev pub invariant-loop-program : goal.invariant-loop-program
invariant-loop-program l = record {
  older : l.older ≡ length l.program-iterator;
  text : string_bytes l.text ++ filters_text l.architecture l.program-iterator l.call ≡ string_bytes l.initial.text ++ filters_text l.architecture l.chain l.call;
}
