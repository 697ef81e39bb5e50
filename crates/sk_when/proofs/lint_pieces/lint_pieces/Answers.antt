use Rattle.std.proofs.Common.{◌++◌, [], ◌∷◌, if◌then◌else◌, ℕ, List, take, slice_index_or, ap, sym, ◌∙◌}
use Rattle.std.specs.List.{filter}
use Rattle.std.proofs.lemmas.List.{take_more}
use Rattle.sk_when.specs.Lint.{is_asked}
use Rattle.sk_when.proofs.Counts.{filter_more}
use Rattle.sk_when.proofs.lint_pieces.lint_pieces.Goals as goal

pub loop-nr-preserved : goal.loop-nr-preserved
loop-nr-preserved c =
    let so_far = c.loop-nr.invariant in
    let added = c.in_ok-push_number.ensures in
    let asked = is_asked c.args.chain.now in
    let numbers = c.args.numbers.now in
    let i = c.loop-nr.nr-index in
    let nr = slice_index_or numbers i 0 in
    record {
      kept = added.kept;
      numbers =
          added.numbers ∙ ap (λ (its : List ℕ). if asked nr then its ++ nr ∷ [] else its) so_far.numbers
          ∙ sym (filter_more asked (take i numbers) nr) ∙ ap (filter asked) (sym (take_more numbers i 0 c.loop-nr-test.true));
      holds = added.holds so_far.holds;
      decided = λ all unspent. added.decided all (so_far.decided all) unspent;
      one_way = λ never fresh. c.push_number.ensures.one_way never (so_far.one_way never fresh);
    }
