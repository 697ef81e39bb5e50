use Rattle.std.proofs.Common.{◌∙◌, sym, ap, rules, is_some, lt-ltb}
use Rattle.sk_scenario.proofs.Common.{given, named_in_entries, entries_after}
use Rattle.sk_scenario.proofs.top.give.Goals as goal

pub returns : goal.returns
unfolding given
returns c =
    let judged = c.in_ok-judge_name.ensures.exact in
    let room = lt-ltb c.args.count 256 judged.1 in
    let absent = sym (ap is_some (named_in_entries c.args.name.now c.args.done.now.names.entries)) ∙ judged.0 in
    let grown = entries_after c.args.name _ c.args.done.now.names.entries _ absent c.in_ok-insert.ensures.entries in
    record { exact = rw (judged.0, room, grown) (search rules) }
