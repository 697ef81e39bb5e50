-- The filters and programs that calls name by numbers, in the order in which they were declared, and whether
-- there are subreapers.
use Rattle.std.specs.Prelude.{ℕ, Bool, List, Option, slice_get, refl}
use Rattle.std.specs.Coded.{Coded, code_by, coded×, coded_list, coded_ℕ, coded_bool}
use Rattle.sk_machine.specs.contracts.images.Mark.{the_row}
use Rattle.sk_machine.specs.declared.images.Mark.{Mark}

-- the images of filters and the marks of programs that are declared, and whether processes may mark themselves
-- as subreapers: prctl(2), PR_SET_CHILD_SUBREAPER
pub record Images : Type 0 where
  pub filters : List (List ℕ)
  pub programs : List Mark
  pub subreapers : Bool

-- the image of a number, if it is declared
abbrev pub filter_image : Images → ℕ → Option (List ℕ)
filter_image declared n = slice_get declared.filters n

-- what execve(2) finds of the program of a number, if it is declared
abbrev pub mark_of : Images → ℕ → Option Mark
mark_of declared n = slice_get declared.programs n

-- they are stored as the pair of the pair of their lists and the rest
abbrev pub images_code : Coded Images
images_code =
    code_by ((List (List ℕ) × List Mark) × Bool) (coded× (coded× (coded_list (coded_list coded_ℕ)) (coded_list the_row.coded)) coded_bool)
    (λ declared. ((declared.filters, declared.programs), declared.subreapers))
    (λ p. record { filters = p.0.0; programs = p.0.1; subreapers = p.1 })
    (λ _. refl)
