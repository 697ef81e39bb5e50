use Rattle.std.proofs.Common.{ℕ, List, ◌++◌, inl, inr, subst}
use Rattle.sk_ask.specs.Diffs.{IsDiff}
use Rattle.sk_ask.specs.Endings.{ending_of}
use Rattle.sk_ask.specs.Reading.{ReadsFilters, IsRefusedOf, read_of}
use Rattle.sk_ask.specs.Troubles.{OfFiles}
use Rattle.sk_ask.proofs.Troubles.{handed_on}
use Rattle.sk_ask.proofs.diff.diff_answer.Goals as goal

pub returns-in_err-old-clause-told : goal.returns-in_err-old-clause-told
returns-in_err-old-clause-told g c =
    let reader = c.args.reader.now in
    let held = g.S.Shelf.held reader.shelf.now in
    let why = c.in_err-old.field-0.0 in
    let refused =
    subst (λ (names : List (List ℕ)). IsRefusedOf reader.manner held reader.context.now names why)
    c.sides.ensures.old c.in_err-old.ensures.refused in
    inr (handed_on c.from_residual.result _ _ c.from_residual.ensures.1 refused)

pub returns-clause-told : goal.returns-clause-told
returns-clause-told g c =
    let reader = c.args.reader.now in
    let held = g.S.Shelf.held reader.shelf.now in
    let may_spend = g.A.Analysis.may_spend c.args.on.analysis.now in
    let end = ending_of c.answer.result in
    let old = c.in_ok-old.old in
    let read =
    subst (λ (names : List (List ℕ)). ReadsFilters reader.manner held reader.context.now names (read_of old))
    c.sides.ensures.old c.in_ok-old.ensures.read in
    let told =
    subst (λ (names : List (List ℕ)). OfFiles reader.manner held reader.context.now names end
    (λ new. IsDiff may_spend c.args.on.naming c.args.on.printing c.args.on.architecture c.args.stricter old.chain new.chain (old.notes.items ++ new.notes) end))
    c.sides.ensures.new c.answer.ensures.told in
    inl (read_of old, read, told)
