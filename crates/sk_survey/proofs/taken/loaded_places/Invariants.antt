use Rattle.std.proofs.Common.{◌≡◌, take}
use Rattle.sk_survey.specs.Taken.{loaded_places}
use Rattle.sk_survey.proofs.taken.loaded_places.Given as goal

-- the places that are there are those before this one which are loaded
abbrev pub invariant-loop-place : goal.invariant-loop-place
invariant-loop-place l = l.loaded.items ≡ loaded_places l.chain (take l.place-index l.places)
