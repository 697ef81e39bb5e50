-- What the forward pass does with its sets of scratch words, one for each place. The checker's private
-- functions cite it; the paths themselves stand in Paths.
use Rattle.std.specs.Int.{bit_at}
use Rattle.std.specs.Prelude.{ℕ, ◌≡◌, ◌<◌, ◌⊎◌, ◌↔◌, List, length, slice_index}
use Rattle.sk_insn.specs.declared.insn.Insn.{Insn}
use Rattle.sk_insn.specs.Operations.{operation_of}
use Rattle.sk_filter.specs.Paths.{LeadsTo, Stores}

-- the word is not in the set of bits
abbrev pub Lacks : ℕ → ℕ → Type 0
Lacks set word = bit_at set word ≡ 0

-- one of the sets has lost what the given set lacks
abbrev pub Meets : ℕ → ℕ → List ℕ → List ℕ → Type 0
Meets at set old new =
    (place word : ℕ) → place < length old → Lacks (slice_index new place) word ↔ (Lacks (slice_index old place) word ⊎ ((place ≡ at) × Lacks set word))

-- where the instruction leads to, the sets have lost what its own set lacks and it doesn't store
abbrev pub Spreads : ℕ → Insn → List ℕ → List ℕ → Type 0
Spreads at insn old new =
    (place word : ℕ) → place < length old → Lacks (slice_index new place) word ↔ (Lacks (slice_index old place) word ⊎ (LeadsTo at place (operation_of insn.code) insn × Lacks (slice_index old at) word × (Stores word (operation_of insn.code) insn → ⊥)))
