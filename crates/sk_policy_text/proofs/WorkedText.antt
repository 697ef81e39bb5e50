-- Each worked policy is what the definitions compute.
use Rattle.std.proofs.Common.{◌≡◌, ◌++◌, [], ◌∷◌, Some, None, refl, sym, ap, subst, inl, inr, arith}
use Rattle.std.specs.Fmt.{digits}
use Rattle.sk_text.specs.Numbers.{number_of}
use Rattle.sk_replay.specs.WordCalls.{plain_number}
use Rattle.sk_text.specs.Words.{is_letter}
use Rattle.sk_names.specs.X86_64.{name_of, number_named}
use Rattle.sk_names.specs.Names.{name_at, name_in, name_on, number_at, number_in, number_on, runs_of}
use Rattle.sk_filter.specs.Errors.{error_number}
use Rattle.sk_policy_text.specs.Words.{is_blank, is_letter_or_digit, is_word_byte, is_pair, goes_on, begun, place_of}
use Rattle.sk_policy_text.specs.Verdicts.{data_in, action_value, verdict_of_word, error_in}
use Rattle.sk_policy_text.specs.Sentences.{behind_error, verdict, only_verdict, range_in, ends_items, ends_item, item_ends, behind_dash, behind_name, range_item, number_item, name_item, item, behind_colon, verdict_or_none, row, arch, line, where_or_else, case, said_by}
use Rattle.sk_policy_text.specs.Conditions.{Always, Never}
use Rattle.sk_policy_text.specs.PolicyRows.{Part, parts_in, has_number, times}
use Rattle.sk_policy_text.specs.PolicySays.{RowSays, unnamed}
use Rattle.sk_policy_text.specs.PolicyTexts.{wanted_text, on_text, more_text}
use Rattle.sk_policy_text.specs.WorkedPolicies.{stated, plain, WorkedPolicies, WorkedExpectations, WorkedPlaces, WorkedRefusals}
use Rattle.sk_policy_text.specs.declared.sentence.Sentence.TheVariants as sentence

abbrev plain_part : Part
plain_part = record { first = 0; last = 1; line = 2; verdict = Some 0x7fff0000; behind = [] }

pub worked_policies : WorkedPolicies
worked_policies = record {
  row = λ ranges is call nr. inl (subst (λ items. RowSays (parts_in items 2 (Some 0x7fff0000) [] ++ []) call 0x7fff0000) (sym is) (record {
    part = plain_part;
    there = (0, omega arith, refl);
    has = ap (λ nr. has_number nr plain_part) nr;
    says = refl;
  }));
  no_row = λ ranges is call nr. inr (record {
    none = subst (λ items. times (parts_in items 2 (Some 0x7fff0000) [] ++ []) call.nr ≡ 0) (sym is) (ap (λ nr. times (plain_part ∷ []) nr) nr);
    says = ap (unnamed (plain ranges)) nr;
  });
  of_x32 = λ ranges is call nr. inr (record {
    none = subst (λ items. times (parts_in items 2 (Some 0x7fff0000) [] ++ []) call.nr ≡ 0) (sym is) (ap (λ nr. times (plain_part ∷ []) nr) nr);
    says = ap (unnamed (plain ranges)) nr;
  });
  last = λ ranges is call nr. inr (record {
    none = subst (λ items. times (parts_in items 2 (Some 0x7fff0000) [] ++ []) call.nr ≡ 0) (sym is) (ap (λ nr. times (plain_part ∷ []) nr) nr);
    says = ap (unnamed (plain ranges)) nr;
  });
  met = λ ranges words is tokens call nr.
      let behind = stated 2 (sentence.Case 0x7fff0000 words) ∷ stated 3 (sentence.Else 0x00050001) ∷ [] in
      let part : Part = record { first = 56; last = 56; line = 1; verdict = None; behind = behind } in
      inl (subst (λ items. RowSays (parts_in items 1 None behind ++ []) call 0x7fff0000) (sym is) (record {
        part = part;
        there = (0, omega arith, refl);
        has = ap (λ nr. has_number nr part) nr;
        says = (Always, tokens, λ held. refl, λ failed. cc);
      }));
  not_met = λ ranges words is tokens call nr.
      let behind = stated 2 (sentence.Case 0x7fff0000 words) ∷ stated 3 (sentence.Else 0x00050001) ∷ [] in
      let part : Part = record { first = 56; last = 56; line = 1; verdict = None; behind = behind } in
      inl (subst (λ items. RowSays (parts_in items 1 None behind ++ []) call 0x00050001) (sym is) (record {
        part = part;
        there = (0, omega arith, refl);
        has = ap (λ nr. has_number nr part) nr;
        says = (Never, tokens, λ held. cc, λ failed. refl);
      }));
}

pub worked_places : WorkedPlaces
worked_places = record {
  default = refl;
  default_twice = refl;
  others_twice = refl;
  arch = refl;
  arch_behind = refl;
  no_row = refl;
  has_verdict = λ ranges. refl;
  has_row = λ ranges. refl;
  behind_else = λ ranges. refl;
  has_else = λ ranges. refl;
  no_else = λ ranges. refl;
}

pub worked_expectations : WorkedExpectations
worked_expectations = record {
  none = λ ranges. refl;
  row = λ ranges. refl;
  case = λ ranges words. refl;
  others = refl;
  default = refl;
  anything = refl;
}

pub worked_refusals : WorkedRefusals
unfolding plain_number number_of digits number_named number_at number_in number_on name_of name_at name_in name_on runs_of error_number is_letter is_blank is_letter_or_digit is_word_byte is_pair goes_on begun place_of data_in action_value verdict_of_word error_in behind_error verdict only_verdict range_in ends_items ends_item item_ends behind_dash behind_name range_item number_item name_item item behind_colon verdict_or_none row arch line where_or_else case said_by wanted_text on_text more_text
worked_refusals = record {
  no_call = record { stops = refl; text = refl };
  several = record { stops = refl; text = refl };
  any = record { stops = refl; text = refl };
  nothing = record { stops = refl; text = refl };
  twice = refl;
  missing = refl;
  refused = refl;
  performed = refl;
  no_else = refl;
}
