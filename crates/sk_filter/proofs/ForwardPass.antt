-- One pass forwards finds what all paths say: after the places below n, a set lacks a word exactly where
-- some path, whose last step is from below n, stores none there.
use Rattle.std.proofs.Common.{ℕ, ◌≡◌, ◌≢◌, ◌+◌, ◌<◌, ◌⊎◌, ◌↔◌, inl, inr, List, [], ◌∷◌, Option, Some, length, replicate, sym, subst, ◌∙◌, arith}
use Rattle.std.specs.Prelude.{slice_get, slice_index, slice_set}
use Rattle.std.specs.Int.{bit_at}
use Rattle.std.proofs.lemmas.Bool.{cases_eq}
use Rattle.std.proofs.lemmas.List.{get_or-set_same, get_or-set_other, get_or-replicate}
use Rattle.std.proofs.lemmas.Nat.Bits.{bit_at-zero, bit_at_ones}
use Rattle.sk_insn.specs.declared.insn.Insn.{Insn}
use Rattle.sk_insn.specs.declared.operation.Operation.{Operation}
use Rattle.sk_insn.specs.declared.operation.Operation.TheVariants.{Jump, Branch, ReturnConstant, ReturnAccumulator}
use Rattle.sk_insn.specs.Operations.{operation_of}
use Rattle.sk_filter.specs.Paths.{LeadsTo, Loads, Stores, At, IsPath, NoneStores, IsUnstored}
use Rattle.sk_filter.specs.Sets.{Lacks, Spreads}

-- ---- paths

-- the last step of a path is from below n
abbrev pub ComesFromBelow : ℕ → List ℕ → Type 0
ComesFromBelow n [] = Unit {0}
ComesFromBelow n (place ∷ earlier) = place < n

-- some path to the place, whose last step is from below n, stores no such word
abbrev pub IsBare : List Insn → ℕ → ℕ → ℕ → Type 0
IsBare insns n place word =
    (before : List ℕ) × IsPath insns place before × NoneStores insns word before × ComesFromBelow n before

pub at_only : (insns : List Insn) (place : ℕ) (insn : Insn) (P : Option Operation → Insn → Type 0) → slice_get insns place ≡ Some insn → At insns place P → P (operation_of insn.code) insn
at_only insns place insn P here (other, there, holds) =
    let same : other ≡ insn = cc in subst (λ i. P (operation_of i.code) i) same holds

pub forwards : (place next : ℕ) (insn : Insn) (o : Option Operation) → LeadsTo place next o insn → place < next
forwards place next insn (Some Jump) leads = omega arith
forwards place next insn (Some (Branch comparison operand)) (inl leads) = omega arith
forwards place next insn (Some (Branch comparison operand)) (inr leads) = omega arith
forwards place next insn (Some ReturnConstant) leads = absurd leads
forwards place next insn (Some ReturnAccumulator) leads = absurd leads
forwards place next insn o leads = omega arith

comes_from_below : (insns : List Insn) (place : ℕ) (before : List ℕ) → IsPath insns place before → ComesFromBelow place before
comes_from_below insns place [] path = tt
comes_from_below insns place (last ∷ earlier) ((insn, here, leads), path) =
    forwards last place insn (operation_of insn.code) leads

-- one place more
bare_more : (insns : List Insn) (n place word : ℕ) → IsBare insns (n + 1) place word → IsBare insns n place word ⊎ (At insns n (LeadsTo n place) × IsBare insns n n word × (At insns n (Stores word) → ⊥))
bare_more insns n place word ([], path, none, below) = inl ([], path, tt, tt)
bare_more insns n place word (last ∷ earlier, (leads, path), (no_store, none), below) =
    elim (cases_eq last n) [
      | inl same ↦ inr (subst (λ p. At insns p (LeadsTo p place)) same leads, (earlier, subst (λ p. IsPath insns p earlier) same path, none, subst (λ p. ComesFromBelow p earlier) same (comes_from_below insns last earlier path)), subst (λ p. At insns p (Stores word) → ⊥) same no_store)
      | inr other ↦ inl (last ∷ earlier, (leads, path), (no_store, none), (let less : last < n = omega arith in less))
    ]

bare_old : (insns : List Insn) (n place word : ℕ) → IsBare insns n place word → IsBare insns (n + 1) place word
bare_old insns n place word ([], path, none, below) = ([], path, tt, tt)
bare_old insns n place word (last ∷ earlier, path, none, below) =
    (last ∷ earlier, path, none, (let less : last < n + 1 = omega arith in less))

bare_new : (insns : List Insn) (n place word : ℕ) → At insns n (LeadsTo n place) → IsBare insns n n word → (At insns n (Stores word) → ⊥) → IsBare insns (n + 1) place word
bare_new insns n place word leads (earlier, path, none, below) no_store =
    (n ∷ earlier, (leads, path), (no_store, none), (let less : n < n + 1 = omega arith in less))

-- ---- sets

-- the sets lack what the paths have not stored
abbrev pub Counts : List Insn → ℕ → List ℕ → Type 0
Counts insns n stored =
    (place word : ℕ) → place < 4096 → word < 16 → Lacks (slice_index stored place) word ↔ IsBare insns n place word

-- at the start: nothing is stored at place 0, and no path has come to another place
pub counts_start : (insns : List Insn) → Counts insns 0 (slice_set (replicate 4096 65535) 0 0)
counts_start insns place word inside below =
    let sets : List ℕ = replicate 4096 65535 in
    elim (cases_eq place 0) [
      | inl start ↦ let e : slice_index (slice_set sets 0 0) place ≡ 0 = rw start (get_or-set_same sets 0 0 0 (omega arith)) in (λ lacks. ([], start, tt, tt), λ bare. subst (λ s. Lacks s word) (sym e) (bit_at-zero word))
      | inr other ↦ let e : slice_index (slice_set sets 0 0) place ≡ 65535 = get_or-set_other sets 0 place 0 0 other ∙ get_or-replicate 4096 place 65535 0 inside in let one : bit_at 65535 word ≡ 1 = bit_at_ones 16 word below in (λ lacks. (let zeroed : bit_at 65535 word ≡ 0 = subst (λ s. Lacks s word) e lacks in absurd (omega arith)), λ bare. absurd (elsewhere bare other))
    ]
  where
    elsewhere : IsBare insns 0 place word → place ≢ 0 → ⊥
    elsewhere ([], start, none, below) other = other start
    elsewhere (last ∷ earlier, path, none, below) other = omega arith

pub counts_more : (insns : List Insn) (n : ℕ) (insn : Insn) (old new : List ℕ) → slice_get insns n ≡ Some insn → n < 4096 → length old ≡ 4096 → Counts insns n old → Spreads n insn old new → Counts insns (n + 1) new
counts_more insns n insn old new here short room counts spreads place word inside below =
    let spread = spreads place word (omega arith) in
    let count = counts place word inside below in
    let count_n = counts n word short below in (
      λ lacks. elim (spread.0 lacks) [
        | inl before ↦ bare_old insns n place word (count.0 before)
        | inr (leads, lacks_n, no_store) ↦ bare_new insns n place word (insn, here, leads) (count_n.0 lacks_n) (λ stores. no_store (at_only insns n insn (Stores word) here stores))
      ],
      λ bare. spread.1 (elim (bare_more insns n place word bare) [
        | inl before ↦ inl (count.1 before)
        | inr (leads, bare_n, no_store) ↦ inr (at_only insns n insn (LeadsTo n place) here leads, count_n.1 bare_n, λ stores. no_store (insn, here, stores))
      ]),
    )

-- ---- loads

pub lacks_unstored : (insns : List Insn) (n word : ℕ) (insn : Insn) (stored : List ℕ) → slice_get insns n ≡ Some insn → n < 4096 → word < 16 → Counts insns n stored → Loads word (operation_of insn.code) insn → Lacks (slice_index stored n) word → IsUnstored insns n word
lacks_unstored insns n word insn stored here short below counts loads lacks =
    let bare = (counts n word short below).0 lacks in
    ((insn, here, loads), (bare.0, bare.1, bare.2))

pub unstored_lacks : (insns : List Insn) (n word : ℕ) (insn : Insn) (stored : List ℕ) → slice_get insns n ≡ Some insn → n < 4096 → (Loads word (operation_of insn.code) insn → word < 16) → Counts insns n stored → IsUnstored insns n word → Loads word (operation_of insn.code) insn × Lacks (slice_index stored n) word
unstored_lacks insns n word insn stored here short below counts (at, (before, path, none)) =
    let loads = at_only insns n insn (Loads word) here at in
    (loads, (counts n word short (below loads)).1 (before, path, none, comes_from_below insns n before path))

-- no place below n loads a word that some path to it has not stored
abbrev pub NoneUnstored : List Insn → ℕ → Type 0
NoneUnstored insns n = (place : ℕ) → place < n → (word : ℕ) → IsUnstored insns place word → ⊥
