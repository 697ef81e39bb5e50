use Rattle.std.proofs.Common.{◌≡◌, ◌+◌, length, take, drop, arith, ap, sym, ◌∙◌, subst}
use Rattle.std.proofs.lemmas.List.{length-take-le, length-drop}
use Rattle.sk_profile.specs.declared.saying.Row.{Row}
use Rattle.sk_profile.specs.Code.{fork_code}
use Rattle.sk_profile.specs.CodeViews.{AreRows, IsSideOf, IsOverlong, PutsSaying, saying_of}
use Rattle.sk_profile.proofs.Emitting.{rest_of}
use Rattle.sk_profile.proofs.Growing.{left_part, right_part, at_middle, away_side, tree_side, leaf_put, forked, overlong_right, overlong_both, overlong_left, overlong_head, on_err, on_if_ok, handed_on}
use Rattle.sk_profile.proofs.build.+code.Goals as goal

pub side_of-returns-in-Some-clause-side : goal.side_of-returns-in-Some-clause-side
side_of-returns-in-Some-clause-side t c =
    subst (λ code. IsSideOf c.args.values.now c.args.behind c.args.before.now c.args.rows.now code c.in-Some.begins) (sym c.new-code.ensures.items)
    (away_side c.args.values.now c.args.behind c.args.before.now c.args.rows.now c.in-Some.begins c.in-Some.ensures.away)

pub side_of-returns-clause-side : goal.side_of-returns-clause-side
side_of-returns-clause-side t c = tree_side c.args.values.now c.args.behind c.args.before.now c.args.rows.now c.in_ok-code.code.items c.in_ok-code.ensures.tree

pub tree_of-returns-then-is_empty-clause-tree : goal.tree_of-returns-then-is_empty-clause-tree
tree_of-returns-then-is_empty-clause-tree t c =
    leaf_put c.args.values.now c.args.behind c.args.before.now c.args.rows.now c.push_saying.new.code.items (grind (arith, c.if-is_empty.true, c.is_empty.ensures))
    (subst (λ old. PutsSaying old c.push_saying.new.code.items (saying_of c.args.before.now)) c.new-code.ensures.items c.in_ok-push_saying.ensures.code)

pub tree_of-side_of-requires : goal.tree_of-side_of-requires
tree_of-side_of-requires t c =
    let fewer = length-drop (c.cut-at.result + 1) c.args.rows.now in
    let middle = right_part c.args.before.now c.args.rows.now c.cut-at.result c.index-rows-at.result c.cut-at.ensures.inside c.requires.rows in (
      omega (arith, fewer, c.decreases, c.cut-at.ensures.inside),
      (
        subst (λ rows. AreRows c.index-rows-at.result.saying rows) (sym (rest_of (c.cut-at.result + 1) c.args.rows.now))
            (subst (λ (row : Row). AreRows row.saying (drop (c.cut-at.result + 1) c.args.rows.now)) (sym c.index-rows-at.is) middle),
        c.requires.near,
      ),
    )

pub tree_of-returns-in_err-above-clause-long : goal.tree_of-returns-in_err-above-clause-long
tree_of-returns-in_err-above-clause-long t c =
    handed_on _ _ _ c.from_residual-in_err-above.ensures.1
    (λ is. overlong_right c.args.values.now c.args.behind c.args.before.now c.args.rows.now c.cut-at.result c.index-rows-at.result c.requires.rows c.cut-at.ensures.inside
    (at_middle (IsOverlong c.args.values.now c.args.behind) c.args.rows.now c.cut-at.result c.index-rows-at.result c.index-rows-at.is (c.in_err-above.ensures.long is)))

pub tree_of-returns-then-more-gt-MOST_INSNS-clause-long : goal.tree_of-returns-then-more-gt-MOST_INSNS-clause-long
tree_of-returns-then-more-gt-MOST_INSNS-clause-long t c = λ is.
    let above = c.in_ok-above.above in
    overlong_both c.args.values.now c.args.behind c.args.before.now c.args.rows.now c.cut-at.result c.index-rows-at.result above.code.items above.begins (c.len.result + c.args.behind)
    c.requires.rows c.cut-at.ensures.inside (omega (arith, c.len.ensures, above.code.ok.0))
    (at_middle (λ before rows. IsSideOf c.args.values.now c.args.behind before rows above.code.items above.begins) c.args.rows.now c.cut-at.result c.index-rows-at.result c.index-rows-at.is c.in_ok-above.ensures.side)
    (omega (arith, c.if-more-gt-MOST_INSNS.true))

pub tree_of-side_of-requires-2 : goal.tree_of-side_of-requires-2
tree_of-side_of-requires-2 t c =
    let fewer : length (take c.cut-at.result c.args.rows.now) ≡ c.cut-at.result = length-take-le c.cut-at.result c.args.rows.now (omega (arith, c.cut-at.ensures.inside)) in
    (omega (arith, fewer, c.decreases, c.cut-at.ensures.inside), (left_part _ _ _ c.requires.rows, omega (arith, c.if-more-gt-MOST_INSNS.false)))

pub tree_of-returns-in_err-below-clause-long : goal.tree_of-returns-in_err-below-clause-long
tree_of-returns-in_err-below-clause-long t c =
    let above = c.in_ok-above.above in
    handed_on _ _ _ c.from_residual-in_err-below.ensures.1
    (λ is. overlong_left c.args.values.now c.args.behind c.args.before.now c.args.rows.now c.cut-at.result c.index-rows-at.result above.code.items above.begins (c.len.result + c.args.behind)
    c.requires.rows c.cut-at.ensures.inside (omega (arith, c.len.ensures, above.code.ok.0))
    (at_middle (λ before rows. IsSideOf c.args.values.now c.args.behind before rows above.code.items above.begins) c.args.rows.now c.cut-at.result c.index-rows-at.result c.index-rows-at.is c.in_ok-above.ensures.side)
    (c.in_err-below.ensures.long is))

pub tree_of-returns-clause-tree : goal.tree_of-returns-clause-tree
tree_of-returns-clause-tree t c =
    let above = c.in_ok-above.above in
    let below = c.in_ok-below.below in
    on_if_ok c.forked.result
    (λ code is. forked c.args.values.now c.args.behind c.args.before.now c.args.rows.now c.cut-at.result c.index-rows-at.result below.code.items above.code.items code.items below.begins above.begins
    (c.len.result + c.args.behind) c.requires.rows c.cut-at.ensures.inside (omega (arith, c.len.ensures, above.code.ok.0))
    (at_middle (λ before rows. IsSideOf c.args.values.now c.args.behind before rows above.code.items above.begins) c.args.rows.now c.cut-at.result c.index-rows-at.result c.index-rows-at.is c.in_ok-above.ensures.side)
    c.in_ok-below.ensures.side
    (is ∙ ap (λ (row : Row). fork_code row.start above.begins below.begins below.code.items above.code.items) c.index-rows-at.is))
    c.forked.ensures.code

pub tree_of-returns-clause-long : goal.tree_of-returns-clause-long
tree_of-returns-clause-long t c =
    let above = c.in_ok-above.above in
    let below = c.in_ok-below.below in
    on_err c.forked.result
    (λ fault far is. overlong_head c.args.values.now c.args.behind c.args.before.now c.args.rows.now c.cut-at.result c.index-rows-at.result below.code.items above.code.items below.begins above.begins
    (c.len.result + c.args.behind) c.requires.rows c.cut-at.ensures.inside (omega (arith, c.len.ensures, above.code.ok.0))
    (at_middle (λ before rows. IsSideOf c.args.values.now c.args.behind before rows above.code.items above.begins) c.args.rows.now c.cut-at.result c.index-rows-at.result c.index-rows-at.is c.in_ok-above.ensures.side)
    c.in_ok-below.ensures.side c.in_ok-above.ensures.near c.in_ok-below.ensures.near (far is))
    c.forked.ensures.long
