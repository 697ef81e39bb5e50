use Rattle.std.proofs.Common.{ℕ, ◌++◌, ◌^◌, ◌↔◌, IsTrue, List, ap, subst, sym, ◌∙◌}
use Rattle.std.specs.List.{Contains}
use Rattle.sk_arguments.specs.Reading.{is_narrow, narrow_from}
use Rattle.sk_arguments.proofs.Narrow.{numbers_are_narrow}
use Rattle.sk_arguments.proofs.reading.narrow_numbers.Goals as goal

pub returns-clause-each : goal.returns-clause-each
returns-clause-each c =
    let native = c.in_ok-push_narrow.ensures.pushed ∙ ap (λ xs. xs ++ narrow_from 512 0) c.new-numbers.ensures.items in
    let all = c.in_ok-push_narrow-2.ensures.pushed ∙ ap (λ xs. xs ++ narrow_from 512 (2 ^ 30)) native in
    subst (λ (numbers : List ℕ). (nr : ℕ) → Contains numbers nr ↔ IsTrue (is_narrow nr)) (sym all) numbers_are_narrow
