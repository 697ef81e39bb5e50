use Rattle.std.proofs.Common.{◌≡◌, ◌++◌, drop, map}
use Rattle.sk_profile.specs.Views.{rule_of}
use Rattle.sk_profile_json.specs.EntryViews.{named_view}
use Rattle.sk_profile_json.specs.Rules.{own_rules}
use Rattle.sk_profile_json.proofs.rules.push_own.Given as goal

abbrev pub invariant-loop-it : goal.invariant-loop-it
invariant-loop-it l =
    map rule_of l.rules.items ++ own_rules l.architecture (drop l.it-index (map named_view l.named))
    ≡ map rule_of l.fn.rules.items ++ own_rules l.architecture (map named_view l.named)
