use Rattle.std.proofs.Common.{◌≡◌, ap, inl, inr, length, rules, arith, subst}
use Rattle.std.proofs.lemmas.Bool.{cases_lt}
use Rattle.std.specs.Prelude.{IsSome}
use Rattle.std.specs.List.{All}
use Rattle.std.proofs.lemmas.List.Elements.{All-head, All-tail}
use Rattle.sk_terms.specs.declared.lines.Line.{Line}
use Rattle.sk_terms.specs.Lines.{IsMetBy}
use Rattle.sk_terms.specs.Numbers.{TellsNoWhole}
use Rattle.sk_when.specs.Pieces.{SaysOfLine}
use Rattle.sk_when.proofs.PartsTold.{next_covers}
use Rattle.sk_when.proofs.parts.parts_of.Goals as goal

pub loop-line-preserved : goal.loop-line-preserved
loop-line-preserved c =
    let chains = c.args.chains in
    let calls = c.args.differences.now.calls.items in
    let line = c.in-Some.line in
    let rest = c.next.new.self.rest.items in
    let steps = c.in-Some.ensures.steps.0 in
    let so_far = c.loop-line.invariant in
    let added = c.in_ok-add_part.ensures in
    let left = c.add_part.ensures.left in
    record {
      hold = added.hold so_far.hold;
      say = All-tail (SaysOfLine chains c.args.differences.now.pairs.items) line rest (subst (All (SaysOfLine chains c.args.differences.now.pairs.items)) steps so_far.say);
      numbers = All-tail (TellsNoWhole chains.numbers.first chains.numbers.last) line rest
          (subst (All (TellsNoWhole chains.numbers.first chains.numbers.last)) steps so_far.numbers);
      cover = λ call fails any.
          next_covers c.loop-line.parts.items c.add_part.new.parts.items line c.loop-line.line-iterator.rest.items rest call steps (added.cover call fails) (so_far.cover call fails any);
      met = λ all. All-tail (IsMetBy calls) line rest (subst (All (IsMetBy calls)) steps (so_far.met all));
      values = λ all. All-tail (λ (it : Line). IsSome it.value) line rest (subst (All (λ (it : Line). IsSome it.value)) steps (so_far.values all));
      decided = λ met values some.
          added.decided (All-head (IsMetBy calls) line rest (subst (All (IsMetBy calls)) steps (so_far.met met)))
          (All-head (λ (it : Line). IsSome it.value) line rest (subst (All (λ (it : Line). IsSome it.value)) steps (so_far.values values))) some
          (so_far.decided met values (omega (arith, left, some)));
      left = let before = so_far.left in omega (arith, left, before);
      within = omega (arith, ap length steps, so_far.within);
      none = λ same. absurd (omega (arith, ap length steps, same, so_far.within));
      few = λ less one.
          let none = so_far.none (omega (arith, ap length steps, so_far.within, less, one)) in
          omega (arith, none, c.add_part.ensures.few);
    }

pub returns-clause-few : goal.returns-clause-few
returns-clause-few c = λ one.
    let same : c.into_iter-line-iterator.result.rest.items ≡ c.args.lines.items = search (rules, c.into_iter-line-iterator.ensures.into_iter_gives) in
    let so_far = c.loop-line.invariant in
    let all = length c.into_iter-line-iterator.result.rest.items in
    elim (cases_lt (length c.loop-line.line-iterator.rest.items) all) [
      | inl less ↦ so_far.few less (omega (arith, ap length same, one))
      | inr more ↦ let none = so_far.none (omega (arith, more, so_far.within)) in omega (arith, none)
    ]

pub returns-in_err-add_part-clause-few : goal.returns-in_err-add_part-clause-few
returns-in_err-add_part-clause-few c = λ one.
    let same : c.into_iter-line-iterator.result.rest.items ≡ c.args.lines.items = search (rules, c.into_iter-line-iterator.ensures.into_iter_gives) in
    let so_far = c.loop-line.invariant in
    let none = so_far.none (omega (arith, ap length same, ap length c.in-Some.ensures.steps.0, so_far.within, one)) in
    omega (arith, none, c.add_part.ensures.few)
