use Rattle.std.proofs.Common.{◌-◌, refl, sym, arith}
use Rattle.sk_profile.proofs.Starts.{says_from, still_rows, row_of_change}
use Rattle.sk_profile.proofs.rows.said_from.Goals as goal

pub returns-clause-says : goal.returns-clause-says
returns-clause-says c =
    says_from _ _ c.args.start (record { start = c.args.start; saying = c.args.saying }) _ refl c.in_ok-push.ensures.items c.requires.behind

pub returns-clause-rows : goal.returns-clause-rows
returns-clause-rows c =
    still_rows _ _ _ (record { start = c.args.start; saying = c.args.saying }) c.in_ok-push.ensures.items c.requires.behind c.requires.good

pub returns-clause-few : goal.returns-clause-few
returns-clause-few c =
    row_of_change _ _ _ _ _ (grind (arith, c.in_ok-push.ensures.items)) (c.last.ensures.last (c.args.start - 1) (λ k d less. omega (arith, c.requires.behind k d less))) (sym c.if-is_same.ensures.exact)
