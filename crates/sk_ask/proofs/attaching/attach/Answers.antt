use Rattle.std.proofs.Common.{◌≡◌, ◌<◌, length, map, [], Err, arith, rules}
use Rattle.sk_engines.specs.Filters.{chained}
use Rattle.sk_ask.specs.Filters.{place_at}
use Rattle.sk_ask.proofs.Given.{place_given, refused_below}
use Rattle.sk_ask.proofs.attaching.attach.Goals as goal

pub place_at-place-requires : goal.place_at-place-requires
place_at-place-requires c =
    let images = map (λ image. image.items) c.args.found.now.images.items in
    let is : Err (c.in-Err.number, c.in-Err.why) ≡ chained 0 [] images = first_of (cc, search rules, grind arith) in
    let below = refused_below images c.in-Err.number c.in-Err.why is in
    let same = c.requires.paired in
    let places : length c.deref-in-Err.result.now ≡ length c.args.found.now.places.items = first_of (cc, search rules, grind arith) in
    record { placed = omega (arith, below, same, places) }

pub returns-in-Err-clause-given : goal.returns-in-Err-clause-given
returns-in-Err-clause-given c = λ count placed.
    let images = map (λ image. image.items) c.args.found.now.images.items in
    let is : Err (c.in-Err.number, c.in-Err.why) ≡ chained 0 [] images = first_of (cc, search rules, grind arith) in
    let below = refused_below images c.in-Err.number c.in-Err.why is in
    let same = c.requires.paired in
    let inside : c.in-Err.number < length c.args.found.now.places.items = omega (arith, below, same) in
    let stands : c.place_at-place.result ≡ place_at c.args.found.now.places.items c.in-Err.number = first_of (cc, search rules) in
    place_given count c.args.found.now.places.items c.in-Err.number c.place_at-place.result stands inside placed.given
