use Rattle.std.proofs.Common.{◌+◌, ◌*◌, ◌^◌, ◌-◌, ◌∷◌, [], map, flat_map, ap, sym, ◌∙◌}
use Rattle.std.specs.Prelude.{None, List}
use Rattle.sk_profile.specs.declared.profile.Rule.{Rule}
use Rattle.sk_profile.specs.Rows.{marks_of_rule, next_of}
use Rattle.sk_profile.specs.Views.{rule_of, part_of}
use Rattle.sk_profile.proofs.Between.{behind_rules}
use Rattle.sk_profile.proofs.marks.next_mark.Goals as goal

pub returns : goal.returns
returns c =
    let from = c.args.from in
    let of_rules = c.next_of_rules-of_rules.ensures.mark ∙ ap (λ (rules : List Rule). next_of from None (flat_map marks_of_rule (map rule_of rules))) c.deref.ensures.value in
    let tops =
    c.nearest-of_tops.ensures.nearest ∙ ap (λ n. next_of from c.next_of_rules-of_rules.result (n ∷ c.behind-2.result ∷ [])) c.behind.ensures.behind
    ∙ ap (λ n. next_of from c.next_of_rules-of_rules.result ((c.args.part.now.top + 1) ∷ n ∷ [])) c.behind-2.ensures.behind in record {
      mark =
          c.nearest.ensures.nearest
          ∙ ap (λ best. next_of from best (2 ^ 30 ∷ 2 ^ 31 ∷ (3 * 2 ^ 30) ∷ (2 ^ 32 - 1) ∷ [])) tops
          ∙ sym (behind_rules (part_of c.args.part.now) from c.next_of_rules-of_rules.result of_rules);
    }
