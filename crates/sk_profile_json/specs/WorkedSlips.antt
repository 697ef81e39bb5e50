-- The slips of texts that are no JSON, worked out by hand.
use Rattle.std.specs.Prelude.{ℕ, ◌≡◌, ◌++◌, [], ◌∷◌, codes, Option, Some, None}
use Rattle.std.specs.Fmt.{decimal}
use Rattle.sk_profile_json.specs.declared.answer.Refusal.TheVariants.{NotJson}
use Rattle.sk_profile_json.specs.declared.slip.Extra.{Extra}
use Rattle.sk_profile_json.specs.declared.slip.Extra.TheVariants.{Comment, Comma}
use Rattle.sk_profile_json.specs.declared.slip.Slip.{Slip}
use Rattle.sk_profile_json.specs.Slips.{slip_of}
use Rattle.sk_profile_json.specs.Texts.{refusal_text}

abbrev pub at : ℕ → ℕ → Extra → Option Slip
at line column extra = Some (record { line = line; column = column; extra = extra })

pub record WorkedSlips : Type 0 where
  pub comma_in_object : slip_of (codes "{\"a\": 1,}") ≡ at 1 8 Comma
  pub comma_in_list : slip_of (codes "{\n  \"a\": [1, 2 ,\n ],\n}") ≡ at 2 14 Comma
  pub comma_and_blanks : slip_of (codes "{\"a\": 1," ++ (9 ∷ 13 ∷ 10 ∷ codes " }")) ≡ at 1 8 Comma
  pub the_first_of_two : slip_of (codes "{\"a\": [1,],}") ≡ at 1 9 Comma
  -- not so another blank: a form feed
  pub no_blank : slip_of (codes "{\"a\": 1," ++ (12 ∷ codes "}")) ≡ None
  pub comment_to_the_end : slip_of (codes "{\n    // text\n}") ≡ at 2 5 Comment
  pub comment_between : slip_of (codes "{\"a\": 1, /* , } */ \"b\": 2}") ≡ at 1 10 Comment
  pub comment_of_shells : slip_of (codes "{\n\"a\": 1 # text\n}") ≡ at 2 8 Comment
  pub comment_behind_a_comma : slip_of (codes "{\"a\": 1, // text\n}") ≡ at 1 10 Comment
  pub at_the_beginning : slip_of (codes "# text\n{}") ≡ at 1 1 Comment
  pub at_the_end : slip_of (codes "{}\n#") ≡ at 2 1 Comment
  -- what stands in strings
  pub in_a_string : slip_of (codes "{\"a\": \"// # ,}\", \"b\": 1,\n}") ≡ at 1 24 Comma
  pub behind_a_quote : slip_of (codes "{\"a\": \"\\\"//\", \"b\": \"\\\\\", #}") ≡ at 1 26 Comment
  pub not_closed : slip_of (codes "{\"a\": \"b,\n\"c\": 1,}") ≡ None
  pub not_closed_behind_an_escape : slip_of (codes "{\"a\": \"b\\\n\", #}") ≡ None
  -- a letter of two bytes
  pub bytes_count : slip_of (codes "{\"" ++ (195 ∷ 164 ∷ codes "\": 1,}")) ≡ at 1 9 Comma
  -- other faults
  pub one_slash : slip_of (codes "{\"a\": 1 / 2}") ≡ None
  pub a_mistyped_word : slip_of (codes "{\"a\": tru}") ≡ None
  pub two_commas : slip_of (codes "[1,,2]") ≡ None
  pub empty : slip_of [] ≡ None
  -- what is said
  pub comma_text : refusal_text (NotJson (at 3 14 Comma))
      ≡ codes "line " ++ (decimal 3 ++ (codes ", column " ++ (decimal 14 ++ codes ": a comma stands before the bracket that closes: JSON has none there")))
  pub comment_text : refusal_text (NotJson (at 2 5 Comment))
      ≡ codes "line " ++ (decimal 2 ++ (codes ", column " ++ (decimal 5 ++ codes ": a comment begins: JSON has none")))
  pub other_text : refusal_text (NotJson None) ≡ codes "is no JSON: expected the JSON of a profile, no more than 128 deep"
