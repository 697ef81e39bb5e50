-- One log more among those whose numbers are known.
use Rattle.std.proofs.Common.{◌≡◌, ◌+◌, ◌<◌, ◌∙◌, ap, arith, refl, suc, sym, ℕ, List, [], ◌∷◌, ◌++◌, map, length, take}
use Rattle.std.proofs.Math.ListN.{get_or}
use Rattle.std.proofs.Math.Seq.{take-suc}
use Rattle.std.proofs.lemmas.List.{flat_map_more}
use Rattle.sk_text.specs.Lines.{lines_of}
use Rattle.sk_names.specs.declared.architecture.Architecture.{Architecture}
use Rattle.sk_replay.specs.declared.call.Call.{Call}
use Rattle.sk_replay.specs.declared.logged.LineCounts.{LineCounts}
use Rattle.sk_replay.specs.Logged.{calls_in, numbers_in, numbers_with}
use Rattle.sk_replay.specs.Replaying.{calls_of, each_once, unclear_in}
use Rattle.sk_replay.proofs.Logging.{logs_more}
use Rattle.sk_policy_when.specs.Allowing.{logged_calls}
use Rattle.sk_ask.specs.Allows.{counts_of}

map_more : {A B : Type 0} (f : A → B) (xs : List A) (x : A) → map f (xs ++ x ∷ []) ≡ map f xs ++ f x ∷ []
map_more f [] x = refl
map_more f (first ∷ xs) x = ap (λ l. f first ∷ l) (map_more f xs x)

one_taken : {A : Type 0} (files : List A) (i : ℕ) (x : A) → i < length files → x ≡ get_or files i x → take (i + 1) files ≡ take i files ++ x ∷ []
one_taken files i x inside same =
    let e : i + 1 ≡ suc i = omega arith in
    ap (λ n. take n files) e ∙ take-suc files i x inside ∙ ap (λ last. take i files ++ last ∷ []) (sym same)

-- those of the logs in some files, of which so many are done
pub one_log_more : {A : Type 0} (f : A → List ℕ) (by : Architecture) (files : List A) (i : ℕ) (x : A) (keys next : List ℕ) → i < length files → x ≡ get_or files i x
    → keys ≡ numbers_in by (map f (take i files)) → next ≡ numbers_with by keys (lines_of (f x)) → next ≡ numbers_in by (map f (take (i + 1) files))
one_log_more f by files i x keys next inside same so_far is =
    let more = one_taken files i x inside same in
    is ∙ ap (λ l. numbers_with by l (lines_of (f x))) so_far
    ∙ sym (ap (λ l. numbers_in by (map f l)) more ∙ ap (numbers_in by) (map_more f (take i files) x) ∙ logs_more by (map f (take i files)) (f x))

-- so it is with what was counted of them
pub one_count_more : {A : Type 0} (f : A → List ℕ) (by : Architecture) (files : List A) (i : ℕ) (x : A) (counts next : List LineCounts) (it : LineCounts) → i < length files → x ≡ get_or files i x
    → counts ≡ map (counts_of by) (map f (take i files)) → next ≡ counts ++ it ∷ [] → it.calls ≡ calls_in by (lines_of (f x))
    → it.unclear ≡ unclear_in by (lines_of (f x)) → next ≡ map (counts_of by) (map f (take (i + 1) files))
one_count_more f by files i x counts next it inside same so_far is calls unclear =
    let more = one_taken files i x inside same in
    let one : it ≡ counts_of by (f x) = λ j. record { calls = calls j; unclear = unclear j } in
    is ∙ ap (λ l. l ++ it ∷ []) so_far ∙ ap (λ last. map (counts_of by) (map f (take i files)) ++ last ∷ []) one
    ∙ sym (ap (λ l. map (counts_of by) (map f l)) more ∙ ap (map (counts_of by)) (map_more f (take i files) x) ∙ map_more (counts_of by) (map f (take i files)) (f x))

-- and with their calls
pub more_calls : {A : Type 0} (f : A → List ℕ) (by : Architecture) (files : List A) (i : ℕ) (x : A) (calls next : List Call) → i < length files → x ≡ get_or files i x
    → calls ≡ logged_calls by (map f (take i files)) → next ≡ calls ++ each_once (calls_of by (lines_of (f x))) → next ≡ logged_calls by (map f (take (i + 1) files))
more_calls f by files i x calls next inside same so_far is =
    let more = one_taken files i x inside same in
    let of = λ (log : List ℕ). each_once (calls_of by (lines_of log)) in
    is ∙ ap (λ l. l ++ of (f x)) so_far
    ∙ flat_map_more of [] (map f (take i files)) (f x)
    ∙ sym (ap (λ l. logged_calls by (map f l)) more ∙ ap (logged_calls by) (map_more f (take i files) x))
