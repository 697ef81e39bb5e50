-- The end of an argument, byte by byte.
use Rattle.std.proofs.Common.{◌≡◌, ◌<◌, ◌+◌, ◌∙◌, ap, arith, refl, sym, ℕ, suc, List, ◌∷◌, get_or, length, drop, false}
use Rattle.std.proofs.Math.Seq.{drop-cons}
use Rattle.sk_replay.specs.declared.nest.Nest.{Nest}
use Rattle.sk_replay.specs.Nests.{behind, end_from, ends_argument}

passed : (nest : Nest) (byte : ℕ) (rest : List ℕ) → ends_argument nest byte ≡ false → end_from nest (byte ∷ rest) ≡ end_from (behind nest byte) rest + 1
passed nest byte rest f = rw f refl

pub one_more : (nest : Nest) (text : List ℕ) (at next total : ℕ) → next ≡ suc at → at < length text → ends_argument nest (get_or text at 0) ≡ false
    → end_from nest (drop at text) + at ≡ total → end_from (behind nest (get_or text at 0)) (drop next text) + next ≡ total
one_more nest text at next total is within f so_far =
    let cut : end_from nest (drop at text) ≡ end_from nest (get_or text at 0 ∷ drop (suc at) text) = ap (end_from nest) (drop-cons text at 0 within) in
    let one = passed nest (get_or text at 0) (drop (suc at) text) f in
    let same : end_from (behind nest (get_or text at 0)) (drop next text) ≡ end_from (behind nest (get_or text at 0)) (drop (suc at) text) = ap (λ n. end_from (behind nest (get_or text at 0)) (drop n text)) is in
    omega (arith, cut, one, so_far, is, same)
