use Rattle.sk_document.proofs.WorkedDocuments.{arches_works, calls_works, comparison_works, lint_works, when_works}
use Rattle.sk_document.proofs.laws.worked_documents.Goals as goal

pub returns : goal.returns
returns c = record { calls = calls_works; when = when_works; comparison = comparison_works; lint = lint_works; arches = arches_works }
