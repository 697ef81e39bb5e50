use Rattle.std.proofs.Common.{◌≡◌, [], ◌∷◌, ◌++◌, sym, ap, ◌∙◌, subst}
use Rattle.sk_policy_text.specs.Views.{all_seen}
use Rattle.sk_policy_text.specs.Sentences.{sentence_in}
use Rattle.sk_policy_text.specs.PolicyMade.{AreSaid, reads_on, first_line, first_words}
use Rattle.sk_policy_text.proofs.Saying.{said_more}
use Rattle.sk_policy_text.proofs.making.sentences_in.Goals as goal

pub loop-first-preserved : goal.loop-first-preserved
loop-first-preserved c =
    let all = all_seen c.args.words.now in
    let left = all_seen c.loop-first.left.now in
    let text = c.loop-first.text.items in
    let by = c.architecture_of-by.result in
    let read = c.in_ok-stated.ensures.read in
    let on : by ≡ reads_on text = c.architecture_of-by.ensures.of ∙ ap reads_on c.deref.ensures.value in
    let line = read.0 ∙ sym (ap (λ words. first_line (all_seen words)) c.in-Some.ensures.cases.0) in
    let sentence =
    sym (ap (λ by. sentence_in by (first_words left)) on) ∙ sym (ap (λ words. sentence_in by words) c.sentence_at.ensures.sentence) ∙ read.1 in
    let more = said_more [] text all left c.in_ok-stated.stated c.loop-first.invariant (line, sentence) in
    subst (λ text. AreSaid [] all text (all_seen c.sentence_at.result.1.now)) (sym c.in_ok-push.ensures.items)
    (subst (AreSaid [] all (text ++ c.in_ok-stated.stated ∷ [])) (sym c.sentence_at.ensures.behind) more)
