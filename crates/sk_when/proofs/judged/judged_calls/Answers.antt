use Rattle.std.proofs.Common.{◌≡◌, true, List, [], ◌∷◌, arith, sym, subst}
use Rattle.std.specs.List.{All}
use Rattle.std.proofs.lemmas.List.Elements.{All-cons}
use Rattle.sk_insn.specs.declared.insn.Insn.{Insn}
use Rattle.sk_insn.specs.declared.record.Record.{Record}
use Rattle.sk_filter.specs.Verdict.{verdict_of}
use Rattle.sk_survey.specs.Answers.{IsCallOf}
use Rattle.sk_conditions.specs.declared.standing.Relation.TheVariants.{Same}
use Rattle.sk_conditions.specs.Conditions.{told}
use Rattle.sk_conditions.specs.Differing.{SaysOf}
use Rattle.sk_conditions.specs.Followed.{AreFollowed}
use Rattle.sk_when.specs.Verdicts.{IsJudged, have_verdict}
use Rattle.sk_when.proofs.EachVerdict.{all_judged, begins_with, each_verdict, plain_is_call, with_plain}
use Rattle.sk_when.proofs.judged.judged_calls.Goals as goal

none_followed : (programs : List (List Insn)) → programs ≡ [] → All AreFollowed programs
none_followed [] is k d less = absurd (omega (arith, less))
none_followed (insns ∷ programs) is k d less = cc

pub returns-clause-judged : goal.returns-clause-judged
returns-clause-judged c =
    let programs = c.args.chain.now in
    let first = c.args.numbers.first in
    let last = c.args.numbers.last in
    let calls = c.in_ok-differences.differences.calls.items in
    let plain = plain_is_call first last c.native.result c.native.ensures.call c.requires.range in
    let items = begins_with programs c.native.result calls _ _ _ _ _ c.new-judged.ensures.items c.judge.ensures.judged c.in_ok-push.ensures.items c.deref.ensures.value c.in_ok-judge_all.ensures.judged in
    subst (All (IsJudged programs first last)) (sym items)
    (all_judged programs first last (c.native.result ∷ calls) (All-cons (IsCallOf first last) c.native.result calls plain c.in_ok-differences.ensures.within))

pub returns-clause-each : goal.returns-clause-each
returns-clause-each c = λ follows left call is.
    let programs = c.args.chain.now in
    let first = c.args.numbers.first in
    let last = c.args.numbers.last in
    let calls = c.in_ok-differences.differences.calls.items in
    let tree = c.in_ok-differences.differences.tree in
    let pairs = c.in_ok-differences.differences.pairs.items in
    let items = begins_with programs c.native.result calls _ _ _ _ _ c.new-judged.ensures.items c.judge.ensures.judged c.in_ok-push.ensures.items c.deref.ensures.value c.in_ok-judge_all.ensures.judged in
    let all = c.in_ok-differences.ensures.all follows (none_followed _ c.empty-nothing.ensures.empty) left in
    let says : (call : Record) → IsCallOf first last call → SaysOf Same pairs (verdict_of programs call) (verdict_of [] call) (told tree call) =
    λ call is. subst (λ (nothing : List (List Insn)). SaysOf Same pairs (verdict_of programs call) (verdict_of nothing call) (told tree call)) c.empty-nothing.ensures.empty
    (c.in_ok-differences.ensures.tells call is) in
    subst (λ it. have_verdict it (verdict_of programs call) ≡ true) (sym items)
    (with_plain programs c.native.result calls (verdict_of programs call)
    (each_verdict programs first last (verdict_of [] call) pairs tree calls c.in_ok-differences.ensures.within c.in_ok-differences.ensures.met all says call is))
