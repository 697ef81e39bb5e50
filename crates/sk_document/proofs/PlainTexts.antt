-- A text as it is shown has no byte that could be markup.
use Rattle.std.proofs.Common.{ℕ, ◌≡◌, ◌==◌, ◌++◌, ◌&&◌, not, Bool, true, false, List, [], ◌∷◌, refl, ◌∙◌, inl, inr}
use Rattle.std.proofs.lemmas.Bool.{cases_Bool}
use Rattle.std.specs.Cmp.Derive.{both_true}
use Rattle.std.specs.Prelude.{flat_map}
use Rattle.std.specs.List.{list_all}
use Rattle.std.proofs.lemmas.List.Folds.{list_all-append}
use Rattle.sk_document.specs.Html.{escape, escaped, is_markup, IsPlain}

-- of one byte
plain_byte : (byte : ℕ) → IsPlain (escape byte)
unfolding escape
plain_byte byte = elim (cases_Bool (byte == 38)) [
  | inl is ↦ rw is refl
  | inr no_amp ↦ rw no_amp (elim (cases_Bool (byte == 60)) [
    | inl is ↦ rw is refl
    | inr no_less ↦ rw no_less (elim (cases_Bool (byte == 62)) [
      | inl is ↦ rw is refl
      | inr no_greater ↦ rw no_greater (elim (cases_Bool (byte == 34)) [
        | inl is ↦ rw is refl
        | inr no_quote ↦ rw no_quote (elim (cases_Bool (byte == 39)) [
          | inl is ↦ rw is refl
          | inr no_apostrophe ↦ rw (no_apostrophe, no_less, no_greater, no_quote, no_apostrophe) refl
        ])
      ])
    ])
  ])
]

pub plain_text : (text : List ℕ) → IsPlain (escaped text)
plain_text [] = refl
plain_text (byte ∷ text) =
    list_all-append (λ byte. not (is_markup byte)) (escape byte) (flat_map escape text) ∙ both_true (plain_byte byte) (plain_text text)
