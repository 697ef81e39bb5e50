use Rattle.std.proofs.Common.{rules, ap, ap₂, map, option_map, refl, sym, inl, inr, ◌≡◌, ◌∙◌}
use Rattle.std.specs.Prelude.{string_bytes}
use Rattle.std.specs.Option.{option_and_then}
use Rattle.clap.specs.Simple.{is_simple, subcommand_of}
use Rattle.clap.specs.Takes.{takes}
use Rattle.sk_engines.specs.Words.{word_of, word_named}
use Rattle.sk_engines.proofs.Parsing.{name_is_of_rows, only_one, program_is_simple, reads_word}
use Rattle.sk_engines.proofs.word.word_in.Goals as goal

pub returns-in-Ok-clause-exact : goal.returns-in-Ok-clause-exact
returns-in-Ok-clause-exact c =
    let one = only_one c.args.words.now (search rules) in
    let is = c.in_ok-parser.ensures.words in
    let met = (c.in-Ok.ensures.matches (ap is_simple is ∙ program_is_simple)).1 ∙ ap₂ subcommand_of is (ap (map string_bytes) one.1) in
    let found : c.and_then.result ≡ option_and_then word_named (option_map (λ s. s.now) c.subcommand_name.result) = search rules in
    let name = c.subcommand_name.ensures ∙ name_is_of_rows c.in-Ok.matches ∙ ap (option_map (λ p. p.0)) met in
    found ∙ ap (option_and_then word_named) name ∙ (reads_word (string_bytes one.0)).0 ∙ sym (ap (λ words. word_of (map string_bytes words)) one.1)

pub returns : goal.returns
returns c =
    let one = only_one c.args.words.now (search rules) in
    let is = c.in_ok-parser.ensures.words in record {
      exact = elim ((reads_word (string_bytes one.0)).1) [
        | inl taken ↦
            let refused = c.in-Err.ensures.passes (ap₂ takes is (ap (map string_bytes) one.1) ∙ taken) in
            absurd (c.in_default.not-OutOfMemory (c.kind.ensures ∙ refused))
        | inr none ↦ sym (ap (λ words. word_of (map string_bytes words)) one.1 ∙ none)
      ];
      single = λ other. refl;
    }
