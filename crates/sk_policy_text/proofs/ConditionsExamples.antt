-- The worked examples of conditions, by computation.
use Rattle.std.proofs.Common.{refl}
use Rattle.sk_arguments.specs.Constants.{all_names, all_numbers, number_of_constant}
use Rattle.sk_text.specs.Numbers.{number_of}
use Rattle.sk_replay.specs.CallWords.{number_or_constant}
use Rattle.sk_replay.specs.WordCalls.{plain_number}
use Rattle.sk_policy_text.specs.ConditionsTokens.{relation_named, operator_named, register_named, token_of}
use Rattle.sk_policy_text.specs.WorkedConditions.{ConditionsWork}

pub conditions_work : ConditionsWork
unfolding all_names all_numbers number_of_constant number_of relation_named operator_named register_named number_or_constant plain_number token_of
conditions_work = record {
  written = λ a b. record {
    always = refl;
    never = refl;
    clone = refl;
    persona = refl;
    lower = refl;
    all = refl;
    beyond = refl;
    range = refl;
    range_beside = refl;
    number = refl;
    pointer = refl;
    half = refl;
  };
  hold = λ a b. record {
    always = refl;
    never = refl;
    clone = refl;
    persona = refl;
    lower = refl;
    all = refl;
    beyond = refl;
    beyond_or_5 = refl;
    range = refl;
    range_beside = refl;
    number = refl;
    other_number = refl;
    pointer = refl;
    half = refl;
  };
}
