use Rattle.sk_document.proofs.WorkedPages.{actions_work, changes_work, groups_work, rows_work, texts_work}
use Rattle.sk_document.proofs.laws.worked_pages.Goals as goal

pub returns : goal.returns
returns c = record { texts = texts_work; actions = actions_work; groups = groups_work; rows = rows_work; changes = changes_work }
