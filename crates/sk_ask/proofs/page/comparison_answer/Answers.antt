use Rattle.std.proofs.Common.{ℕ, List, Some, drop, inl, inr, subst, map, string_bytes}
use Rattle.sk_ask.specs.Endings.{ending_of}
use Rattle.sk_ask.specs.Pages.{TellsPage}
use Rattle.sk_ask.specs.Reading.{ReadsFilters, IsRefusedOf, read_of}
use Rattle.sk_ask.specs.Troubles.{OfFiles}
use Rattle.sk_ask.proofs.Troubles.{handed_on}
use Rattle.sk_ask.proofs.page.comparison_answer.Goals as goal

pub returns-in_err-filters-clause-told : goal.returns-in_err-filters-clause-told
returns-in_err-filters-clause-told g c =
    let reader = c.args.reader.now in
    let held = g.S.Shelf.held reader.shelf.now in
    let why = c.in_err-filters.field-0.0 in
    let refused =
    subst (λ (names : List (List ℕ)). IsRefusedOf reader.manner held reader.context.now names why)
    c.sides.ensures.old c.in_err-filters.ensures.refused in
    inr (handed_on c.from_residual.result _ _ c.from_residual.ensures.1 refused)

pub returns-clause-told : goal.returns-clause-told
returns-clause-told g c =
    let reader = c.args.reader.now in
    let held = g.S.Shelf.held reader.shelf.now in
    let may_spend = g.A.Analysis.may_spend c.args.on.analysis.now in
    let end = ending_of c.answer.result in
    let old = c.in_ok-filters.filters in
    let read =
    subst (λ (names : List (List ℕ)). ReadsFilters reader.manner held reader.context.now names (read_of old))
    c.sides.ensures.old c.in_ok-filters.ensures.read in
    let told =
    subst (λ (names : List (List ℕ)). OfFiles reader.manner held reader.context.now names end
    (λ new. TellsPage may_spend c.args.on.naming reader.context.now (map string_bytes c.sides.result.0.now) (Some old.chain) old.notes.items names new end))
    c.sides.ensures.new c.answer.ensures.told in
    let named =
    subst (λ (names : List (List ℕ)). OfFiles reader.manner held reader.context.now (drop 1 (map string_bytes c.args.names.now)) end
    (λ new. TellsPage may_spend c.args.on.naming reader.context.now names (Some old.chain) old.notes.items (drop 1 (map string_bytes c.args.names.now)) new end))
    c.sides.ensures.old told in
    inl (read_of old, read, named)
