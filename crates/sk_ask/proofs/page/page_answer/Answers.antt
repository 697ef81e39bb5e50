use Rattle.sk_ask.proofs.page.page_answer.Goals as goal

pub returns-clause-told : goal.returns-clause-told
returns-clause-told g c = rw c.new.ensures.items at c.answer.ensures.told
