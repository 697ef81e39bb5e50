use Rattle.std.proofs.Common.{◌≡◌, ◌+◌, ◌-◌, ◌*◌, ◌++◌, [], ◌∷◌, drop, ap, arith, append_assoc}
use Rattle.std.proofs.lemmas.List.{drop-drop, get_or-drop}
use Rattle.sk_insn.specs.Instructions.{insn_of}
use Rattle.sk_insn.proofs.LittleEndian.{IsBytes}
use Rattle.sk_insn.proofs.Images.{image_of-push, instructions_in-next}
use Rattle.sk_insn.proofs.image.insns_in.Goals as goal

pub loop-place-preserved : goal.loop-place-preserved
loop-place-preserved c =
    let at = c.loop-place._place in
    let image = c.args.image.now in
    let rest = c.loop-place.rest.now in
    let i = c.loop-place.invariant in
    let pushed : c.push.new.self.items ≡ c.loop-place.insns.items ++ insn_of rest ∷ [] =
    rw c.insn_at.ensures at c.in_ok-push.ensures.items in
    let after : c.split_at.result.1.now ≡ drop 8 rest = c.split_at.ensures.back in
    let fits : IsBytes rest =
    λ k. rw (i.left, get_or-drop (8 * at) image k 0) (let b = c.type_inv.image (8 * at + k) in omega arith) in
    let next = instructions_in-next (c.args.count - at) (c.args.count - (at + 1)) rest (omega arith) in
    record {
      left = rw (after, i.left, drop-drop 8 (8 * at) image) (let e : 8 * at + 8 ≡ 8 * (at + 1) = omega arith in ap (λ n. drop n image) e);
      room = let long = c.split_at.ensures.back_len in omega arith;
      count = let more = c.in_ok-push.ensures.len in omega arith;
      so_far = rw (pushed, after, append_assoc) (rw next at i.so_far);
      spelled = rw (pushed, after, image_of-push c.loop-place.insns.items rest fits (omega arith)) i.spelled;
    }
