use Rattle.std.proofs.Common.{◌≡◌, ◌∙◌, sym}
use Rattle.sk_replay.proofs.Given.{plain_from, quoted-end, quoted-next, quoted-open}
use Rattle.sk_replay.proofs.quoted.plain_word.Goals as goal

pub loop-outside-init : goal.loop-outside-init
loop-outside-init c = rw c.new-plain.ensures.items (plain_from c.args.word.now)

pub returns-in_default-cut_at : goal.returns-in_default-cut_at
returns-in_default-cut_at c = record {
  plain = sym (quoted-open c.loop-outside.plain.items c.loop-outside.rest.now _ _ c.in-Some.ensures.parts c.in_default-cut_at.ensures.parts) ∙ c.loop-outside.invariant;
}

pub loop-outside-preserved : goal.loop-outside-preserved
loop-outside-preserved c =
    let next = quoted-next c.loop-outside.plain.items c.loop-outside.rest.now _ _ _ _ c.in-Some.ensures.parts c.in-Some-cut_at.ensures.parts in
    rw (c.in_ok-extend_from_slice-2.ensures.items, c.as_bytes.ensures.value, c.in_ok-extend_from_slice.ensures.items) (sym next ∙ c.loop-outside.invariant)

pub returns : goal.returns
returns c = record {
  plain = rw c.in_ok-extend_from_slice-3.ensures.items (sym (quoted-end c.loop-outside.plain.items c.loop-outside.rest.now c.in_default.ensures.parts) ∙ c.loop-outside.invariant);
}
