-- The files of names that are left, and those of all.
use Rattle.std.proofs.Common.{◌≡◌, ℕ, List, [], ◌∷◌, ◌++◌, length, map, arith, rules, subst, append-nil}
use Rattle.sk_ask.specs.Shelves.{Held, AreContents}

pub all_contents : {T : Type 0} (f : T → List ℕ) (most : ℕ) (held : List ℕ → Held) (rest : List T) (names files : List (List ℕ)) → length rest ≡ 0 → ((more : List (List ℕ)) → AreContents most held (map f rest) more → AreContents most held names (files ++ more)) → AreContents most held names files
all_contents f most held [] names files e so_far = subst (λ all. AreContents most held names all) (append-nil files) (so_far [] (search rules))
all_contents f most held (name ∷ rest) names files e so_far = absurd (omega arith)
