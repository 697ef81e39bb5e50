use Rattle.std.proofs.Common.{rules, ◌≡◌, true, false, slice_index_or, sym, subst, ◌∙◌, arith}
use Rattle.std.specs.List.{All}
use Rattle.sk_filter.specs.Verdict.{verdict_of}
use Rattle.libskern.specs.Comparing.{stands_on, tree_stands}
use Rattle.libskern.proofs.Standing.{of_tree, to_tree}
use Rattle.libskern.proofs.compare.found_by.Goals as goal

pub returns-then-tree_stands-clause-found : goal.returns-then-tree_stands-clause-found
returns-then-tree_stands-clause-found c = λ call native from below.
    let chains = c.args.chains in
    let it = c.args.differences.now in
    let stands : tree_stands chains.relation it.pairs.items it.tree ≡ true =
    search (rules, c.tree_stands.ensures, c.deref.ensures, c.if-tree_stands.true) in
    of_tree chains.relation it.pairs.items it.tree call (verdict_of chains.old.now call) (verdict_of chains.new.now call) stands
    (c.requires.tells call (native, (from, omega (arith, below))))

pub returns-in-None-clause-decided : goal.returns-in-None-clause-decided
returns-in-None-clause-decided c = λ tells met left same.
    let chains = c.args.chains in
    let it = c.args.differences.now in
    let fails : tree_stands chains.relation it.pairs.items it.tree ≡ false =
    search (rules, c.tree_stands.ensures, c.deref.ensures, c.if-tree_stands.false) in
    let none : All (λ call. stands_on chains.relation chains.old.now chains.new.now call ≡ true) it.calls.items =
    subst (λ calls. All (λ call. stands_on chains.relation chains.old.now chains.new.now call ≡ true) calls)
    c.deref-2.ensures.value (c.in-None.ensures.none left) in
    let stands = to_tree chains.relation it.pairs.items chains.old.now chains.new.now it.tree it.calls.items tells met
    (λ k d less. (c.requires.tells (slice_index_or it.calls.items k d) (c.requires.within k d less), none k d less)) in
    let wrong : false ≡ true = sym fails ∙ stands in
    cc
