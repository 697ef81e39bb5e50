-- The image of a profile's filter is read as one filter, which has just the instructions that mean the profile.
use Rattle.std.specs.Prelude.{ℕ, ◌≡◌, List, [], ◌∷◌, None, Ok}
use Rattle.sk_ask.specs.Filters.{Filters}
use Rattle.sk_profile.specs.Profiles.{Profile}
use Rattle.sk_profile_json.specs.Filters.{IsFilterOf}
use Rattle.sk_ask.specs.Reading.{judged}

-- in the first file, and in no line of it
abbrev pub alone : List ℕ → Filters
alone image = record { images = image ∷ []; places = record { file = 0; line = None } ∷ [] }

abbrev pub ImageIsItsFilter : Type 0
ImageIsItsFilter =
    (profile : Profile) (image : List ℕ) (filter : IsFilterOf profile image) → judged (image ∷ []) ≡ Ok (alone image, filter.insns ∷ [])
