use Rattle.std.proofs.Common.{◌∙◌, sym, refl, le-ltb}
use Rattle.sk_scenario.proofs.Common.{given, named_in_entries}
use Rattle.sk_scenario.proofs.top.judge_name.Goals as goal

pub returns-then-contains_key : goal.returns-then-contains_key
unfolding given
returns-then-contains_key c = record {
  exact = λ what. rw (named_in_entries c.args.name.now c.args.done.now.names.entries, sym c.contains_key.ensures ∙ c.if-contains_key.true) refl;
}

pub returns-then-count-ge-MOST_OF_A_KIND : goal.returns-then-count-ge-MOST_OF_A_KIND
unfolding given
returns-then-count-ge-MOST_OF_A_KIND c =
    let full = le-ltb c.args.count 256 c.if-count-ge-MOST_OF_A_KIND.true in
    record { exact = λ what. rw (named_in_entries c.args.name.now c.args.done.now.names.entries, sym c.contains_key.ensures ∙ c.if-contains_key.false, full) refl }

pub returns : goal.returns
returns c = record {
  exact = (
    rw (named_in_entries c.args.name.now c.args.done.now.names.entries) (sym c.contains_key.ensures ∙ c.if-contains_key.false),
    c.if-count-ge-MOST_OF_A_KIND.false,
  );
}
