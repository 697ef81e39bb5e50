-- Conditions in several lines are read as they are in one.
use Rattle.std.proofs.Common.{◌≡◌, ◌∙◌, ap, sym, refl, subst, ℕ, List, [], ◌∷◌, ◌++◌, map}
use Rattle.std.proofs.lemmas.List.{append-nil}
use Rattle.sk_text.specs.Lines.{lines_of}
use Rattle.sk_terms.specs.declared.choices.Choice.{Choice}
use Rattle.sk_terms.specs.Known.{known_by}
use Rattle.sk_terms.specs.Text.{choices_text}
use Rattle.sk_when.specs.Filling.{filled_behind}
use Rattle.sk_policy_text.specs.ConditionsTokens.{token_of}
use Rattle.sk_policy_when.specs.Written.{FilledConditionsComeBack, GoOn, IsConditionIn, words_in}
use Rattle.sk_policy_when.proofs.Broken.{fills_lines}
use Rattle.sk_policy_when.proofs.Choosing.{IsWritten, choices_condition}

in_lines : (column : ℕ) (text : List ℕ) (choices : List Choice) → IsWritten text choices → IsConditionIn (filled_behind column text ++ (10 ∷ [])) choices
in_lines column text choices it =
    let fills = fills_lines column text it.clean in
    let lines : lines_of (filled_behind column text ++ (10 ∷ [])) ≡ fills.first ∷ fills.others = fills.lines [] [] refl ∙ ap (λ l. fills.first ∷ l) (append-nil fills.others) in
    record {
      written = it.condition.written;
      words = ap (λ l. map token_of (words_in l)) lines ∙ ap (map token_of) fills.words ∙ it.condition.words;
      means = it.condition.means;
      go_on = subst GoOn (sym lines) fills.go_on;
    }

pub filled_conditions_come_back : FilledConditionsComeBack
filled_conditions_come_back call it column all =
    in_lines column (choices_text (known_by call it.choices.items) it.choices.items) it.choices.items (choices_condition (known_by call it.choices.items) it.choices.items all)
