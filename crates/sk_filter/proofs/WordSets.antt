-- What the sets of scratch words lack after each operation on bits.
use Rattle.std.proofs.Common.{ℕ, ◌≡◌, ◌<◌, ◌⊎◌, ◌↔◌, inl, inr, List, length, w16, sym, subst, ◌∙◌, arith}
use Rattle.std.specs.Int.{bit_at}
use Rattle.std.specs.Prelude.{slice_index, slice_set, bit_and, bit_or, ◌*◌, ◌%◌, ◌^◌}
use Rattle.std.proofs.lemmas.Bool.{cases_eq}
use Rattle.std.proofs.lemmas.List.{get_or-set_same, get_or-set_other}
use Rattle.std.proofs.lemmas.Nat.Bits.{bit_at_and, bit_at_set_same, bit_at_set_other, bit_at-lt}
use Rattle.sk_filter.specs.Sets.{Lacks}

-- the words that both sets have
lacks_and : (a b m : ℕ) → Lacks (bit_and a b) m ↔ (Lacks a m ⊎ Lacks b m)
lacks_and a b m =
    let e = bit_at_and a b m in
    let bit_a = bit_at-lt a m in
    let bit_b = bit_at-lt b m in
    (λ both. elim (cases_eq (bit_at a m) 0) [ inl none ↦ inl none | inr some ↦ inr (omega arith) ], λ either. elim either [ inl none ↦ omega arith | inr none ↦ omega arith ])

-- one word more
pub lacks_with : (set word : ℕ) → word < 16 → (m : ℕ) → Lacks (bit_or set (1 * 2 ^ word % 65536)) m ↔ (Lacks set m × (word ≡ m → ⊥))
lacks_with set word below m =
    elim (cases_eq m word) [
      | inl same ↦ let one : bit_at (bit_or set (1 * 2 ^ word % 65536)) m ≡ 1 = subst (λ i. bit_at (bit_or set (1 * 2 ^ word % 65536)) i ≡ 1) (sym same) (bit_at_set_same w16 set word below) in (λ none. omega arith, λ both. absurd (both.1 (sym same)))
      | inr other ↦ let old : bit_at (bit_or set (1 * 2 ^ word % 65536)) m ≡ bit_at set m = bit_at_set_other w16 set word below m other in (λ none. (sym old ∙ none, λ e. other (sym e)), λ both. old ∙ both.0)
    ]

-- one of the sets met with another
pub lacks_meet : (sets : List ℕ) (at set j m : ℕ) → at < length sets → Lacks (slice_index (slice_set sets at (bit_and (slice_index sets at) set)) j) m ↔ (Lacks (slice_index sets j) m ⊎ ((j ≡ at) × Lacks set m))
lacks_meet sets at set j m inside =
    let met = bit_and (slice_index sets at) set in
    elim (cases_eq j at) [
      | inl here ↦ let e : slice_index (slice_set sets at met) j ≡ bit_and (slice_index sets j) set = rw here (get_or-set_same sets at met 0 inside) in let both = lacks_and (slice_index sets j) set m in (λ none. elim (both.0 (subst (λ s. Lacks s m) e none)) [ inl old ↦ inl old | inr new ↦ inr (here, new) ], λ either. subst (λ s. Lacks s m) (sym e) (both.1 (elim either [ inl old ↦ inl old | inr new ↦ inr new.1 ])))
      | inr other ↦ let e : slice_index (slice_set sets at met) j ≡ slice_index sets j = get_or-set_other sets at j met 0 other in (λ none. inl (subst (λ s. Lacks s m) e none), λ either. elim either [ inl old ↦ subst (λ s. Lacks s m) (sym e) old | inr new ↦ absurd (other new.0) ])
    ]
