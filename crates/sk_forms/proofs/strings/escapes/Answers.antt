use Rattle.std.proofs.Common.{◌≡◌, ◌+◌, ◌-◌, ◌∙◌, ◌∷◌, ◌++◌, [], ℕ, List, ap, arith, suc, sym}
use Rattle.sk_forms.specs.Strings.{escape, escapes}
use Rattle.sk_forms.proofs.Escaping.{put_bytes, escape_read, escape_refused}
use Rattle.sk_forms.proofs.strings.escapes.Goals as goal

pub returns-in_default : goal.returns-in_default
returns-in_default c =
    let left : c.args.count - c.loop-place._place ≡ suc (c.args.count - (c.loop-place._place + 1)) = omega arith in
    let none = ap escape (sym c.split_at.ensures.front) ∙ sym c.in_default.ensures.byte in
    record {
      exact =
          sym (ap (λ (n : ℕ). put_bytes c.loop-place.bytes.items (escapes n c.loop-place.rest.now)) left
          ∙ escape_refused (c.args.count - (c.loop-place._place + 1)) c.loop-place.bytes.items c.loop-place.rest.now none)
          ∙ c.loop-place.invariant.all;
    }

pub loop-place-preserved : goal.loop-place-preserved
loop-place-preserved c =
    let left : c.args.count - c.loop-place._place ≡ suc (c.args.count - (c.loop-place._place + 1)) = omega arith in
    let behind = c.args.count - (c.loop-place._place + 1) in
    let read = ap escape (sym c.split_at.ensures.front) ∙ sym c.in-Some.ensures.byte in
    record {
      long = let rest = c.split_at.ensures.back_len in let long = c.loop-place.invariant.long in omega arith;
      all =
          ap (λ (l : List ℕ). put_bytes l (escapes behind c.split_at.result.1.now)) c.in_ok-push.ensures.items
          ∙ ap (λ (t : List ℕ). put_bytes (c.loop-place.bytes.items ++ c.in-Some.byte ∷ []) (escapes behind t)) c.split_at.ensures.back
          ∙ sym (ap (λ (n : ℕ). put_bytes c.loop-place.bytes.items (escapes n c.loop-place.rest.now)) left
          ∙ escape_read behind c.in-Some.byte c.loop-place.bytes.items c.loop-place.rest.now read)
          ∙ c.loop-place.invariant.all;
    }
