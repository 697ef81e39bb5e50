-- What stands beside the slots of the processes: rows of pairs, and counts.
use Rattle.std.specs.Prelude.{◌≡◌, ℕ, ◌+◌, ◌==◌, false, List, [], ◌∷◌, length, slice_index}
use Rattle.sk_world.specs.Common.{option_map_or, Processes, get, count, has_pair}
use Rattle.sk_world.specs.declared.process.Proc.{Proc}
use Rattle.sk_table.specs.Weights.{weight}

-- how often the processes use a number
abbrev pub uses_in : ℕ → List (ℕ × Proc) → ℕ
uses_in n [] = 0
uses_in n (e ∷ es) = weight n e.0 e.1.links + uses_in n es

-- the row has a pair for each process: this number of it, and its pid
pub record IsRow (number : Proc → ℕ) (procs : Processes) (row : List (ℕ × ℕ)) : Type 0 where
  pub pairs : (a b : ℕ) → has_pair row a b ≡ option_map_or (λ p. number p == a) (get procs b) false
  pub len : length row ≡ count procs

pub record IsBeside (procs : Processes) (children members : List (ℕ × ℕ)) (counts : List ℕ) : Type 0 where
  pub by_parent : IsRow (λ p. p.links.parent) procs children
  pub by_group : IsRow (λ p. p.links.group) procs members
  pub uses : (n : ℕ) → slice_index counts n ≡ uses_in n procs.entries
