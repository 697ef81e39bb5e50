-- The worked words, computed.
use Rattle.std.proofs.Common.{◌≡◌, ℕ, ◌==◌, true, bit_and, true≢false, sym, ◌∙◌, refl, arith}
use Rattle.std.proofs.lemmas.Bool.{eqb-true, ne_eqb}
use Rattle.sk_conditions.specs.WorkedWords.{RangesMeet, WordsMeet}
use Rattle.sk_conditions.proofs.Words.{all_bits}

apart : (n : ℕ) → (n == 8) ≡ true → (n == 7) ≡ true → ⊥
apart n eight seven =
    let is_eight = eqb-true n 8 eight in
    let is_seven = eqb-true n 7 seven in
    omega (arith, is_eight, is_seven)

pub words_meet : WordsMeet
words_meet = record {
  single = λ p word fits meets. all_bits word fits ∙ eqb-true (bit_and word 0xffffffff) 7 (meets.0 refl);
  seven_meets = λ p. (λ same. refl, tt);
  none = λ p word meets. apart (bit_and word 0xffffffff) (meets.0 refl) (meets.1.0 refl);
  not_seven = λ p meets. true≢false (meets.0 refl);
  all_others = λ p word fits other. (λ same. ne_eqb (bit_and word 0xffffffff) 7 (λ is. other (all_bits word fits ∙ is)), tt);
  upper_half = λ p word. (λ same. absurd (omega (arith, same)), tt);
}

pub ranges_meet : RangesMeet
ranges_meet = record {
  from = λ p. (λ same. refl, (λ same. refl, (λ same. refl, tt)));
  to = λ p. (λ same. refl, (λ same. refl, (λ same. refl, tt)));
  below = λ p meets. true≢false (sym (meets.1.0 refl));
  above = λ p meets. true≢false (meets.0 refl);
  other_bits = λ p meets. true≢false (meets.0 refl);
  fourth = λ p. (λ same. refl, (λ same. refl, tt));
  fifth_too = λ p. (λ same. refl, (λ same. refl, tt));
  third_too = λ p meets. true≢false (meets.0 refl);
  fifth_alone = λ p meets. true≢false (sym (meets.1.0 refl));
}
