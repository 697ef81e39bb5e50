-- What was found, as the code has it.
use Rattle.std.specs.Prelude.{map}
use Rattle.sk_ask.specs.declared.found.Found.{Found}
use Rattle.sk_ask.specs.Filters.{Filters}

abbrev pub filters_of : Found → Filters
filters_of found = record { images = map (λ image. image.items) found.images.items; places = found.places.items }
