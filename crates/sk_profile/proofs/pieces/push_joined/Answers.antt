use Rattle.std.proofs.Common.{arith, map, length}
use Rattle.std.proofs.lemmas.List.{length-map}
use Rattle.sk_profile.specs.Sayings.{Choice, Joined}
use Rattle.sk_profile.specs.CodeViews.{asked_for}
use Rattle.sk_profile.proofs.Emitting.{joined_code, joined_arms, joined_halves}
use Rattle.sk_profile.proofs.pieces.push_joined.Goals as goal

pub returns : goal.returns
returns c =
    let first = c.args.first in
    let others = c.args.others.now in
    let choice : Choice = record { index = first.index; value = first.value; first = first.number; others = map asked_for others } in record {
      piece = record {
        piece = Joined choice;
        code = joined_code c.args.narrow c.args.code.now.items _ choice (length others) (length-map others asked_for)
            (grind (
              arith,
              c.in_ok-push.ensures.items,
              c.in_ok-push_lows.ensures.code,
              c.in_ok-push_half.ensures.code,
              c.load.ensures.insn,
              c.answer.ensures.insn,
            ));
        has = joined_arms first.index first.value _ first.number others c.requires.like;
        good = record { inside = c.requires.index; halves = joined_halves first.index first.value _ others c.requires.like; within = c.requires.within };
      };
    }
