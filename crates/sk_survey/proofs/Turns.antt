-- Cuts where tests turn.
use Rattle.std.proofs.Common.{◌≡◌, ◌≢◌, ℕ, ◌+◌, ◌-◌, ◌*◌, ◌/◌, ◌^◌, ◌<◌, ◌≤◌, ◌⊎◌, nat_lt, inl, inr, List, [], ◌∷◌, length, take, bit_and, refl, sym, ap, subst, ◌∙◌, arith}
use Rattle.std.specs.Int.{w32, trailing_zeros}
use Rattle.std.specs.Int.Bits.{and_zero_r}
use Rattle.std.specs.List.{Contains}
use Rattle.std.proofs.Math.Nat.{div-mul-le_self, mul-le-mul_right}
use Rattle.std.proofs.lemmas.Bool.{cases_eq, cases_lt, ne_eqb, lt-ltb, le-ltb, le-leb, lt-leb}
use Rattle.std.proofs.lemmas.List.{take_all, length-take-le}
use Rattle.std.proofs.lemmas.Nat.{pow_pos, pow-add, le-div}
use Rattle.std.proofs.lemmas.Nat.Bits.{bit_at-trailing_zeros}
use Rattle.sk_insn.specs.declared.insn.Insn.{Insn}
use Rattle.sk_insn.specs.declared.operation.Comparison.{Comparison}
use Rattle.sk_insn.specs.declared.operation.Comparison.TheVariants.{Equal, Greater, GreaterOrEqual, CommonBits}
use Rattle.sk_filter.specs.Chains.{cost_of}
use Rattle.sk_survey.specs.Turning.{IsTurnOf}
use Rattle.sk_survey.specs.Cutting.{IsCutRound, IsCutAtTurns}
use Rattle.sk_survey.proofs.Bits.{div_le, same_bits}

pub round_cuts : (cuts : List ℕ) (comparison : Comparison) (k : ℕ) → comparison ≢ CommonBits → IsCutRound cuts k → IsCutAtTurns cuts comparison k
round_cuts cuts Equal k ordered round nr fits seldom (before, next, turns) = elim (cases_eq nr k) [
  | inl is ↦ subst (Contains cuts) (sym is) round.0
  | inr apart ↦ elim (cases_eq before k) [
    | inl is ↦ let e : k + 1 ≡ nr = omega arith in subst (Contains cuts) e (round.1 (omega arith))
    | inr apart' ↦ absurd (turns (ne_eqb nr k apart ∙ sym (ne_eqb before k apart')))
  ]
]
round_cuts cuts Greater k ordered round nr fits seldom (before, next, turns) = elim (cases_lt k before) [
  | inl above ↦ absurd (turns (lt-ltb k nr (omega arith) ∙ sym (lt-ltb k before above)))
  | inr below ↦ elim (cases_lt k nr) [
    | inl above ↦ let e : k + 1 ≡ nr = omega arith in subst (Contains cuts) e (round.1 (omega arith))
    | inr below' ↦ absurd (turns (le-ltb k nr below' ∙ sym (le-ltb k before below)))
  ]
]
round_cuts cuts GreaterOrEqual k ordered round nr fits seldom (before, next, turns) = elim (cases_lt before k) [
  | inl below ↦ elim (cases_lt nr k) [
    | inl below' ↦ absurd (turns (lt-leb k nr below' ∙ sym (lt-leb k before below)))
    | inr above ↦ let e : k ≡ nr = omega arith in subst (Contains cuts) e round.0
  ]
  | inr above ↦ absurd (turns (le-leb k nr (omega arith) ∙ sym (le-leb k before above)))
]
round_cuts cuts CommonBits k ordered round nr fits seldom turns = absurd (ordered refl)

-- the next number begins a new multiple
begins_multiple : (n next p : ℕ) → 0 < p → next ≡ n + 1 → n / p ≢ next / p → next / p * p ≡ next
begins_multiple n next p some is apart =
    let below = div-mul-le_self next p in
    let rises = div_le n next p some (omega arith) in
    elim (cases_lt n (next / p * p)) [
      | inl past ↦ omega arith
      | inr within ↦ let same = le-div (next / p) n p some within in absurd (apart (omega arith))
    ]

-- so many multiples there are
pub few_parts : (part low : ℕ) → low < 32 → part * 2 ^ low < 2 ^ 32 → part < 2 ^ (32 - low)
few_parts part low high small = elim (cases_lt part (2 ^ (32 - low))) [
  | inl fewer ↦ fewer
  | inr more ↦
      let all : 32 - low + low ≡ 32 = omega arith in
      let whole : 2 ^ (32 - low) * 2 ^ low ≡ 2 ^ 32 = sym (pow-add 2 (32 - low) low) ∙ ap (λ n. 2 ^ n) all in
      let past = mul-le-mul_right (2 ^ low) more in
      absurd (omega arith)
]

pub parts_cut : (cuts : List ℕ) (k : ℕ) → k < 2 ^ 32
    → ((part : ℕ) → 26 ≤ trailing_zeros w32 k → trailing_zeros w32 k < 32 → part * 2 ^ trailing_zeros w32 k < 2 ^ 32
    → Contains cuts (part * 2 ^ trailing_zeros w32 k))
    → IsCutAtTurns cuts CommonBits k
parts_cut cuts k small parts nr fits seldom (before, next, turns) = elim (cases_eq k 0) [
  | inl none ↦
      let nothing : (n : ℕ) → bit_and n k ≡ 0 = λ n. ap (bit_and n) none ∙ and_zero_r n in
      absurd (turns (ap (nat_lt 0) (nothing nr ∙ sym (nothing before))))
  | inr apart ↦
      let some : 0 < k = omega arith in
      let low = trailing_zeros w32 k in
      let inside = (bit_at-trailing_zeros w32 k some small).0 in
      elim (cases_eq (before / 2 ^ low) (nr / 2 ^ low)) [
        | inl same ↦ absurd (turns (ap (nat_lt 0) (same_bits k before nr nr some small same (omega arith) (omega arith))))
        | inr other ↦
            let is : nr / 2 ^ low * 2 ^ low ≡ nr = begins_multiple before nr (2 ^ low) (pow_pos low) next other in
            subst (Contains cuts) is (parts (nr / 2 ^ low) seldom inside (subst (λ n. n < 2 ^ 32) (sym is) fits))
      ]
]

-- of too many the first stay
pub first_stay : (cuts : List ℕ) (most nr : ℕ) → Contains cuts nr → Contains (take most cuts) nr ⊎ (length (take most cuts) ≡ most)
first_stay cuts most nr has = elim (cases_lt (length cuts) most) [
  | inl fewer ↦ inl (subst (λ xs. Contains xs nr) (sym (take_all most cuts (omega arith))) has)
  | inr more ↦ inr (length-take-le most cuts more)
]

pub some_cost : (programs : List (List Insn)) (nr : ℕ) → IsTurnOf programs nr → 0 < cost_of programs
some_cost [] nr turn = absurd turn
some_cost (insns ∷ programs) nr turn = omega arith

-- more of them cost more
pub costs_more : (bound few many cost : ℕ) → few ≤ many → bound < few * cost → bound < many * cost
costs_more bound few many cost up above = let more = mul-le-mul_right cost up in omega arith
