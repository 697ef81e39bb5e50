-- To which instructions calls come, as far as a loop has come.
use Rattle.std.proofs.Common.{◌≡◌, ◌+◌, ◌∙◌, ap, arith, false, refl, subst, sym, ℕ, List, [], ◌∷◌, ◌++◌, length, append_assoc, append-nil, inl, inr, Option, Some, None, Bool}
use Rattle.std.specs.Prelude.{is_some, filter, find, slice_get, slice_index_or}
use Rattle.std.specs.Option.{option_map}
use Rattle.std.proofs.lemmas.Bool.{cases_Bool}
use Rattle.std.proofs.lemmas.List.{length-map}
use Rattle.sk_insn.specs.declared.insn.Insn.{Insn}
use Rattle.sk_show.specs.declared.held.Held.{Held}
use Rattle.sk_names.specs.declared.architecture.Architecture.{Architecture}
use Rattle.sk_names.specs.Architectures.{audit_of}
use Rattle.sk_show.specs.declared.coming.Reach.{Reach}
use Rattle.sk_show.specs.Coming.{architectures_of, comes_from, comes_to, comes, jumps_taken, named_by, named_at, names_of, next_taken, told_apart, Finds}
use Rattle.sk_show.specs.Holding.{Jumps, joined_ways, jump_to}

pub comes_turn : (number at : ℕ) (jumps jumps_new : Jumps) (next next_new held : Option Held) (given : Insn) (rest left : List Insn) (comes comes_new total : List Bool)
    → rest ≡ given ∷ left → held ≡ joined_ways (jump_to jumps at) next → comes_new ≡ comes ++ is_some held ∷ []
    → jumps_new ≡ jumps_taken number at held given jumps → next_new ≡ next_taken number at held given
    → comes ++ comes_from number at jumps next rest ≡ total → comes_new ++ comes_from number (at + 1) jumps_new next_new left ≡ total
unfolding comes_from
comes_turn number at jumps jumps_new next next_new held given rest left comes comes_new total cut h c j n so_far =
    let here = joined_ways (jump_to jumps at) next in
    let others = comes_from number (at + 1) (jumps_taken number at here given jumps) (next_taken number at here given) left in
    let whole : comes ++ is_some here ∷ others ≡ total = rw cut at so_far in
    let parts : (comes ++ is_some here ∷ []) ++ others ≡ total = append_assoc comes (is_some here ∷ []) others ∙ whole in
    rw (c, j, n, h) parts

-- no instruction is left
pub comes_end : (number at : ℕ) (jumps : Jumps) (next : Option Held) (rest : List Insn) (comes total : List Bool) → length rest ≡ 0
    → comes ++ comes_from number at jumps next rest ≡ total → comes ≡ total
unfolding comes_from
comes_end number at jumps next [] comes total none so_far = sym (append-nil comes) ∙ so_far
comes_end number at jumps next (given ∷ rest) comes total none so_far = absurd (omega arith)

-- ---- the architectures

-- one more is found
pub finds_turn : (insns : List Insn) (all rest left : List Architecture) (by : Architecture) (found : List Reach) (reach : Reach)
    → rest ≡ by ∷ left → reach.architecture ≡ by → reach.places.items ≡ comes_to (audit_of by) insns
    → ((more : List Reach) → Finds insns rest more → Finds insns all (found ++ more))
    → (more : List Reach) → Finds insns left more → Finds insns all ((found ++ reach ∷ []) ++ more)
finds_turn insns all rest left by found reach cut same places so_far more h =
    subst (Finds insns all) (sym (append_assoc found (reach ∷ []) more)) (so_far (reach ∷ more) (rw cut (same, places, h)))

pub finds_end : (insns : List Insn) (all rest : List Architecture) (found : List Reach) → length rest ≡ 0
    → ((more : List Reach) → Finds insns rest more → Finds insns all (found ++ more)) → Finds insns all found
finds_end insns all [] found none so_far = subst (Finds insns all) (append-nil found) (so_far [] refl)
finds_end insns all (by ∷ rest) found none so_far = absurd (omega arith)

-- ---- names

first-found : (p : Reach → Bool) (reaches : List Reach) → option_map (λ reach. reach.architecture) (find p reaches) ≡ slice_get (architectures_of (filter p reaches)) 0
first-found p [] = refl
first-found p (reach ∷ reaches) = elim (cases_Bool (p reach)) [ inl t ↦ rw t refl | inr f ↦ rw f (first-found p reaches) ]

none-of : (asked : Architecture) (found : List Architecture) → None ≡ slice_get found 0 → names_of asked found ≡ None
none-of asked [] h = refl
none-of asked (first ∷ others) h = cc

some-of : (asked first : Architecture) (count : ℕ) (found : List Architecture) → Some first ≡ slice_get found 0 → count ≡ length found → names_of asked found ≡ named_by asked first count
some-of asked first count [] h len = cc
some-of asked first count (one ∷ others) h len = let same : first ≡ one = cc in rw (same, len) refl

pub named_none : (asked : Architecture) (place : ℕ) (reaches : List Reach) → None ≡ option_map (λ reach. reach.architecture) (find (comes place) reaches)
    → names_of asked (architectures_of (filter (comes place) reaches)) ≡ None
named_none asked place reaches h = none-of asked (architectures_of (filter (comes place) reaches)) (h ∙ first-found (comes place) reaches)

pub named_some : (asked first : Architecture) (place count : ℕ) (reaches : List Reach) → Some first ≡ option_map (λ reach. reach.architecture) (find (comes place) reaches)
    → count ≡ length (filter (comes place) reaches) → names_of asked (architectures_of (filter (comes place) reaches)) ≡ named_by asked first count
named_some asked first place count reaches h len =
    some-of asked first count (architectures_of (filter (comes place) reaches)) (h ∙ first-found (comes place) reaches)
    (len ∙ sym (length-map (filter (comes place) reaches) (λ (reach : Reach). reach.architecture)))

-- those that are found to come are those that come
found-come : (insns : List Insn) (place : ℕ) (all : List Architecture) (reaches : List Reach) → Finds insns all reaches
    → architectures_of (filter (comes place) reaches) ≡ filter (λ by. slice_index_or (comes_to (audit_of by) insns) place false) all
found-come insns place [] reaches h = rw h refl
found-come insns place (by ∷ all) [] h = absurd h
found-come insns place (by ∷ all) (reach ∷ reaches) h =
    let others = found-come insns place all reaches h.2 in
    let same : comes place reach ≡ slice_index_or (comes_to (audit_of by) insns) place false = ap (λ (places : List Bool). slice_index_or places place false) h.1 in
    elim (cases_Bool (comes place reach)) [
      | inl t ↦
          let there = sym same ∙ t in
          rw (t, there) (ap (λ (first : Architecture). first ∷ architectures_of (filter (comes place) reaches)) h.0 ∙ ap (λ (rest : List Architecture). by ∷ rest) others)
      | inr f ↦
          let there = sym same ∙ f in
          rw (f, there) others
    ]

pub named_there : (asked : Architecture) (insns : List Insn) (place : ℕ) (reaches : List Reach) (named : Option Architecture) → Finds insns told_apart reaches
    → named ≡ names_of asked (architectures_of (filter (comes place) reaches)) → named ≡ named_at asked insns place
named_there asked insns place reaches named h e = e ∙ ap (names_of asked) (found-come insns place told_apart reaches h)
