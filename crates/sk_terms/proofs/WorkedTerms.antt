-- The worked examples of terms, by computation.
use Rattle.std.proofs.Common.{refl}
use Rattle.std.specs.Fmt.{digits}
use Rattle.sk_terms.specs.WorkedTerms.{TermsWork}

pub terms_work : TermsWork
unfolding digits
terms_work = record {
  clone = refl;
  clone_of_another = refl;
  both_halves = refl;
  one_half = refl;
  at_the_border = refl;
  behind_the_border = refl;
  even = refl;
  clone_text = refl;
  whole_text = refl;
  border_text = refl;
  odd_text = refl;
  range_text = refl;
  other_text = refl;
  bound = refl;
  above_bound = refl;
  above_half = refl;
  bound_text = refl;
  personality = refl;
  personality_asked = refl;
  no_personality = refl;
  personality_text = refl;
  personality_beside = refl;
  alone_beside = refl;
  range_beside = refl;
  of_none = refl;
  below_seven = refl;
  seven = refl;
  above_seven = refl;
  below_sixteen = refl;
  last_of_block = refl;
  next_block = refl;
}
