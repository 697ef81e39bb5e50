use Rattle.std.proofs.Common.{◌≡◌, ◌++◌, flat_map, string_bytes}
use Rattle.sk_filter.specs.Meaning.{meaning_of}
use Rattle.sk_filter.specs.Verdict.{values_of}
use Rattle.sk_engines.specs.EvalCommand.{meaning_line}
use Rattle.sk_engines.proofs.eval.chain_text.Given as goal

abbrev pub invariant-loop-program : goal.invariant-loop-program
invariant-loop-program l = record {
  lines : string_bytes l.text ++ flat_map (λ program. meaning_line (meaning_of program l.call)) l.program-iterator ≡ flat_map (λ program. meaning_line (meaning_of program l.call)) l.filters;
  values : l.values.items ++ values_of l.program-iterator l.call ≡ values_of l.filters l.call;
}
