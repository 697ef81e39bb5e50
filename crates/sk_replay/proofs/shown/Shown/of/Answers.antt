use Rattle.std.proofs.Common.{◌≡◌, ◌<◌, ◌≤◌, ◌-◌, ◌+◌, ◌∙◌, ap, arith, sym, refl, suc, ℕ, codes, nat_eq, length, take, drop}
use Rattle.std.proofs.lemmas.List.{take_all}
use Rattle.std.specs.List.{starts_with}
use Rattle.sk_replay.specs.Lines.{behind_argument}
use Rattle.arrayvec.specs.ArrayVec.{array_vec_len}
use Rattle.sk_replay.proofs.OneByOne.{full, last, left_room, no_room, rest_fits, spent, turned}
use Rattle.sk_replay.proofs.shown.Shown.of.Goals as goal

pub returns-then-not-starts_with : goal.returns-then-not-starts_with
returns-then-not-starts_with c =
    let room = left_room _ (sym c.is_full.ensures.value ∙ c.loop-rest-test.true) c.loop-rest.invariant.few in
    let plain = sym (ap (λ t. starts_with nat_eq t (codes ",")) c.first_argument.ensures.behind) ∙ sym c.starts_with.ensures.value ∙ c.if-not-starts_with.true in
    record {
      shown = rw (c.push_last.ensures.pushed, c.first_argument.ensures.behind, c.first_argument.ensures.first) (last _ _ _ _ _ _ room c.loop-rest.invariant.so_far plain);
    }

pub loop-rest-preserved : goal.loop-rest-preserved
loop-rest-preserved c =
    let room = left_room _ (sym c.is_full.ensures.value ∙ c.loop-rest-test.true) c.loop-rest.invariant.few in
    let few = c.push.ensures.len in
    let inside = c.loop-rest.invariant.few in
    record {
      so_far =
          turned _ _ _ _ _ _ room c.loop-rest.invariant.so_far _ _ _ _ _ _ c.first_argument.ensures.first c.first_argument.ensures.behind c.value.ensures.value c.push.ensures.items
          (take_all _ _ (rest_fits _)) (spent _ _ few) (sym c.starts_with.ensures.value ∙ c.if-not-starts_with.false);
      few = omega (arith, few, room, inside);
    }

pub returns : goal.returns
returns c = record {
  shown = sym (full _ _ _ _ _ (no_room _ (sym c.is_full.ensures.value ∙ c.loop-rest-test.false)) c.loop-rest.invariant.so_far);
}
