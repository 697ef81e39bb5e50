use Rattle.std.proofs.Common.{◌≡◌, true, false, not, sym, ◌∙◌, rules}
use Rattle.sk_profile_json.specs.Fields.{is_known}
use Rattle.sk_profile_json.proofs.Reading.{key_passes, key_fails, keys_end}
use Rattle.sk_profile_json.proofs.fields.other_key.Goals as goal

pub returns-then-not-is_known : goal.returns-then-not-is_known
returns-then-not-is_known c =
    let m = c.index-members-place.result in
    let h : not (is_known c.args.known.now m.0.now) ≡ true = search rules in
    record { place = sym (key_passes (λ key. not (is_known c.args.known.now key)) _ _ m c.loop-place-test.true c.index-members-place.is h) ∙ c.loop-place.invariant }

pub loop-place-preserved : goal.loop-place-preserved
loop-place-preserved c =
    let m = c.index-members-place.result in
    let h : not (is_known c.args.known.now m.0.now) ≡ false = search rules in
    sym (key_fails (λ key. not (is_known c.args.known.now key)) _ _ m c.loop-place-test.true c.index-members-place.is h) ∙ c.loop-place.invariant

pub returns : goal.returns
returns c =
    record { place = sym (keys_end (λ key. not (is_known c.args.known.now key)) _ _ c.loop-place-test.false) ∙ c.loop-place.invariant }
