-- The parts of a word between commas.
use Rattle.std.proofs.Common.{◌≡◌, ◌<◌, ℕ, List, [], ◌∷◌, Result, Ok, Err, length, refl, arith}
use Rattle.std.specs.List.{position_or_len, before_first, after_first, slice_split}
use Rattle.std.proofs.lemmas.List.Splits.{slice_split_first, slice_split_none}
use Rattle.std.proofs.lemmas.List.Sums.{fails_before_first}
use Rattle.std.proofs.lemmas.Grind.{common_steps}
use Rattle.sk_profile_json.specs.Capabilities.{capability}
use Rattle.sk_ask.specs.Asking.{Question, is_comma, with_caps, with_each_cap}

pub first_part : (text : List ℕ) → position_or_len is_comma text < length text → slice_split is_comma text ≡ before_first is_comma text ∷ slice_split is_comma (after_first is_comma text)
first_part text l = slice_split_first is_comma text 0 l

pub only_part : (text : List ℕ) → position_or_len is_comma text ≡ length text → slice_split is_comma text ≡ text ∷ []
only_part text e = slice_split_none is_comma text (λ k x m. let fails = fails_before_first is_comma text k x (grind (arith, common_steps)) in grind (arith, common_steps))

pub is_shorter : (text : List ℕ) → position_or_len is_comma text < length text → length (after_first is_comma text) < length text
is_shorter text l = grind (arith, common_steps)

same : (said : Result Question (List ℕ)) → elim said [ Err line ↦ Err line | Ok more ↦ Ok more ] ≡ said
same (Err line) = refl
same (Ok more) = refl

pub last_one : (asked : Question) (name : List ℕ) → with_each_cap asked (name ∷ []) ≡ with_caps asked name (capability name)
last_one asked name = same (with_caps asked name (capability name))
