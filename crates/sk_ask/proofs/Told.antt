-- What is told of the calls that are left, and of all.
use Rattle.std.proofs.Common.{◌≡◌, ℕ, List, [], ◌∷◌, ◌++◌, length, map, refl, arith, subst, inl, inr, append-nil, append_assoc}
use Rattle.std.specs.Prelude.{Option, Some}
use Rattle.sk_names.specs.declared.architecture.Architecture.{Architecture}
use Rattle.sk_replay.specs.WordCalls.{IsCall}
use Rattle.sk_ask.specs.Calls.{AreAskedCalls, IsFirstNoCall, IsNoCall, OfAll}
use Rattle.sk_ask.specs.OtherNames.{bare_name}

pub goes_on : {T : Type 0} (P : Option ℕ → List T → Type 0) (rest left all : List ℕ) (nr : ℕ) (told telling first : List T) → rest ≡ nr ∷ left → telling ≡ told ++ first → P (Some nr) first → ((more : List T) → OfAll P rest more → OfAll P all (told ++ more)) → (more : List T) → OfAll P left more → OfAll P all (telling ++ more)
goes_on P rest left all nr told telling first r t p so_far more these =
    let known = rw r at so_far in
    let step = known (first ++ more) (first, more, p, these, refl) in
    rw (t, append_assoc told first more) step

pub is_whole : {T : Type 0} (P : Option ℕ → List T → Type 0) (rest all : List ℕ) (told : List T) → length rest ≡ 0 → ((more : List T) → OfAll P rest more → OfAll P all (told ++ more)) → OfAll P all told
is_whole P [] all told e so_far = subst (λ items. OfAll P all items) (append-nil told) (so_far [] refl)
is_whole P (nr ∷ rest) all told e so_far = absurd (omega arith)

-- ---- the calls that words ask for

pub asks_on : {T : Type 0} (f : T → List ℕ) (by : Architecture) (rest left : List T) (word : T) (all : List (List ℕ)) (calls pushed : List ℕ) (nr : ℕ) → rest ≡ word ∷ left → pushed ≡ calls ++ nr ∷ [] → IsCall by (bare_name (f word)) nr → ((more : List ℕ) → AreAskedCalls by (map f rest) more → AreAskedCalls by all (calls ++ more)) → (more : List ℕ) → AreAskedCalls by (map f left) more → AreAskedCalls by all (pushed ++ more)
asks_on f by rest left word all calls pushed nr r p is so_far more these =
    let known = rw r at so_far in
    rw (p, append_assoc calls (nr ∷ []) more) (known (nr ∷ more) (is, these))

pub later : {T : Type 0} (f : T → List ℕ) (by : Architecture) (rest left : List T) (word : T) (all : List (List ℕ)) (nr : ℕ) (line : List ℕ) → rest ≡ word ∷ left → IsCall by (bare_name (f word)) nr → ((line : List ℕ) → IsFirstNoCall by line (map f rest) → IsFirstNoCall by line all) → IsFirstNoCall by line (map f left) → IsFirstNoCall by line all
later f by rest left word all nr line r is among it =
    let known = rw r at among in
    known line (inr (nr, is, it))

pub here : {T : Type 0} (f : T → List ℕ) (by : Architecture) (rest left : List T) (word : T) (all : List (List ℕ)) (line : List ℕ) → rest ≡ word ∷ left → IsNoCall by (f word) line → ((line : List ℕ) → IsFirstNoCall by line (map f rest) → IsFirstNoCall by line all) → IsFirstNoCall by line all
here f by rest left word all line r is among =
    let known = rw r at among in
    known line (inl is)

pub are_all : {T : Type 0} (f : T → List ℕ) (by : Architecture) (rest : List T) (all : List (List ℕ)) (calls : List ℕ) → length rest ≡ 0 → ((more : List ℕ) → AreAskedCalls by (map f rest) more → AreAskedCalls by all (calls ++ more)) → AreAskedCalls by all calls
are_all f by [] all calls e so_far = subst (λ text. AreAskedCalls by all text) (append-nil calls) (so_far [] tt)
are_all f by (word ∷ rest) all calls e so_far = absurd (omega arith)
