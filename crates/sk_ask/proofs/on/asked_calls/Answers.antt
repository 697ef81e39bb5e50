use Rattle.std.proofs.Common.{string_bytes}
use Rattle.sk_ask.proofs.Told.{are_all, asks_on, here, later}
use Rattle.sk_ask.proofs.on.asked_calls.Goals as goal

pub loop-word-preserved : goal.loop-word-preserved
loop-word-preserved c =
    let cases = c.in-Some.ensures.cases in
    let is = rw (c.bare_name.ensures.name, c.as_bytes.ensures.value) at c.in-Some-call_named.ensures.call in
    record {
      so_far = asks_on string_bytes c.args.architecture _ _ _ _ _ _ _ cases.0 c.in_ok-push.ensures.items is c.loop-word.invariant.so_far;
      first = λ line it. later string_bytes c.args.architecture _ _ _ _ _ line cases.0 is c.loop-word.invariant.first it;
    }

pub returns-clause-calls : goal.returns-clause-calls
returns-clause-calls c = are_all string_bytes c.args.architecture c.loop-word.rest.now _ _ c.in_default.ensures.cases c.loop-word.invariant.so_far

pub returns-in_default-call_named-clause-no_call : goal.returns-in_default-call_named-clause-no_call
returns-in_default-call_named-clause-no_call c =
    let none = rw (c.bare_name.ensures.name, c.as_bytes.ensures.value) at c.in_default-call_named.ensures.none in
    let line = rw c.as_bytes-in_default-call_named.ensures.value at c.in_ok-line.ensures.line in
    here string_bytes c.args.architecture _ _ _ _ _ c.in-Some.ensures.cases.0 (none, line) c.loop-word.invariant.first
