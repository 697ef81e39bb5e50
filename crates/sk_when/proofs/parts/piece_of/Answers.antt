use Rattle.std.proofs.Common.{Some, arith, refl}
use Rattle.std.proofs.lemmas.List.Elements.{All-weaker}
use Rattle.sk_insn.specs.Record.{IsNative}
use Rattle.sk_survey.specs.Answers.{IsCallOf}
use Rattle.sk_terms.specs.Numbers.{HasNumber}
use Rattle.sk_terms.specs.declared.lines.LeftOut.TheVariants.{End}
use Rattle.sk_terms.specs.Decisions.{decided}
use Rattle.sk_when.proofs.OneCall.{few_lines}
use Rattle.sk_when.proofs.PartsTold.{lines_cover, lines_say, values_are_told}
use Rattle.sk_when.proofs.parts.piece_of.Goals as goal

pub parts_of-requires : goal.parts_of-requires
parts_of-requires c = record {
  say = lines_say c.args.chains c.in_ok-differences.differences c.in_ok-decision.decision c.in_ok-lines.lines.items
      c.in_ok-differences.ensures.tells c.in_ok-decision.ensures.decides c.in_ok-lines.ensures.told;
  numbers =
      let chains = c.args.chains in
      let calls = c.in_ok-differences.differences.calls.items in
      let within = c.in_ok-differences.ensures.within in
      let natives = All-weaker (IsCallOf chains.numbers.first chains.numbers.last) IsNative (λ call inside. inside.0) calls within in
      c.in_ok-lines.ensures.numbers chains.numbers.first chains.numbers.last calls
      (All-weaker (IsCallOf chains.numbers.first chains.numbers.last) (HasNumber chains.numbers.first chains.numbers.last) (λ call inside. inside.1) calls within)
      (c.in_ok-decision.ensures.met calls natives c.in_ok-differences.ensures.met);
  within = c.in_ok-differences.ensures.within;
}

pub returns : goal.returns
returns c =
    let chains = c.args.chains in
    let it = c.in_ok-differences.differences in
    let decision = c.in_ok-decision.decision in
    let lines = c.in_ok-lines.lines.items in
    let told = c.in_ok-lines.ensures.told in
    let calls = it.calls.items in
    record {
      numbers = refl;
      holds = (
        c.in_ok-parts.ensures.hold,
        λ call within fails. c.in_ok-parts.ensures.cover call (within, fails)
            (lines_cover chains it decision lines c.in_ok-differences.ensures.tells c.in_ok-decision.ensures.decides told call (within, fails)),
      );
      decided = λ follows follows' steps.
          let left = c.parts_of.ensures.left in
          let natives = All-weaker (IsCallOf chains.numbers.first chains.numbers.last) IsNative (λ call within. within.0) calls c.in_ok-differences.ensures.within in
          let met = c.in_ok-lines.ensures.met calls (c.in_ok-decision.ensures.met calls natives c.in_ok-differences.ensures.met) in
          let all = c.in_ok-decision.ensures.all (c.in_ok-differences.ensures.all follows follows' (omega (arith, left, steps))) in
          c.in_ok-parts.ensures.decided met (values_are_told decision calls lines all told met) steps;
      one_way = λ both.
          let one = c.in_ok-differences.ensures.one both in
          let natives = All-weaker (IsCallOf chains.numbers.first chains.numbers.last) IsNative (λ call within. within.0) calls c.in_ok-differences.ensures.within in
          let met = c.in_ok-lines.ensures.met calls (c.in_ok-decision.ensures.met calls natives c.in_ok-differences.ensures.met) in
          let looks = c.parts_of.ensures.few (few_lines lines calls (End (Some 0)) (decided decision) one met told) in
          omega (arith, c.in_ok-differences.ensures.one_way both, looks, one);
    }

pub returns-in_err-parts-clause-one_way : goal.returns-in_err-parts-clause-one_way
returns-in_err-parts-clause-one_way c = λ both.
    let chains = c.args.chains in
    let lines = c.in_ok-lines.lines.items in
    let calls = c.in_ok-differences.differences.calls.items in
    let one = c.in_ok-differences.ensures.one both in
    let natives = All-weaker (IsCallOf chains.numbers.first chains.numbers.last) IsNative (λ call within. within.0) calls c.in_ok-differences.ensures.within in
    let met = c.in_ok-lines.ensures.met calls (c.in_ok-decision.ensures.met calls natives c.in_ok-differences.ensures.met) in
    let looks = c.parts_of.ensures.few (few_lines lines calls (End (Some 0)) (decided c.in_ok-decision.decision) one met c.in_ok-lines.ensures.told) in
    omega (arith, c.in_ok-differences.ensures.one_way both, looks, one)
