-- The calls that are asked for.
use Rattle.std.specs.Prelude.{ℕ, ◌≡◌, ◌⊎◌, ◌++◌, List, [], ◌∷◌, Option, Some, None, ⊤}
use Rattle.sk_names.specs.declared.architecture.Architecture.{Architecture}
use Rattle.sk_replay.specs.WordCalls.{IsCall, NoCall}
use Rattle.sk_ask.specs.declared.trouble.Trouble.{Trouble}
use Rattle.sk_ask.specs.declared.trouble.Trouble.TheVariants.{Refused, Reading, Memory}
use Rattle.sk_ask.specs.Endings.{Ending}
use Rattle.sk_ask.specs.Nearest.{no_call_named}
use Rattle.sk_ask.specs.OtherNames.{bare_name}
use Rattle.sk_ask.specs.Troubles.{IsTrouble}

-- the calls of an architecture that words ask for, one for one
abbrev pub AreAskedCalls : Architecture → List (List ℕ) → List ℕ → Type 0
AreAskedCalls by [] [] = ⊤
AreAskedCalls by (word ∷ words) (nr ∷ calls) = IsCall by (bare_name word) nr × AreAskedCalls by words calls
AreAskedCalls by words calls = ⊥

-- a word is no call, and the line says so
abbrev pub IsNoCall : Architecture → List ℕ → List ℕ → Type 0
IsNoCall by word line = NoCall by (bare_name word) × (line ≡ no_call_named by word)

-- the first of these words that is no call
abbrev pub IsFirstNoCall : Architecture → List ℕ → List (List ℕ) → Type 0
IsFirstNoCall by line [] = ⊥
IsFirstNoCall by line (word ∷ words) =
    IsNoCall by word line ⊎ ((nr : ℕ) × IsCall by (bare_name word) nr × IsFirstNoCall by line words)

-- one of the words is no call; or memory was refused
abbrev pub AreNoCalls : Architecture → Trouble → List (List ℕ) → Type 0
AreNoCalls by (Refused line) asked = IsFirstNoCall by line.items asked
AreNoCalls by (Reading line) asked = ⊥
AreNoCalls by Memory asked = ⊤

-- what is so of the calls that are asked for; or one of the words is no call
abbrev pub OfCalls : Architecture → List (List ℕ) → Ending → (List ℕ → Type 0) → Type 0
OfCalls by asked ending P =
    ((calls : List ℕ) × AreAskedCalls by asked calls × P calls) ⊎ IsTrouble ending (λ why. AreNoCalls by why asked)

-- ---- what is told of calls

-- what is told of each of these calls, one behind the other
abbrev pub OfAll : {T : Type 0} → (Option ℕ → List T → Type 0) → List ℕ → List T → Type 0
OfAll P [] items = items ≡ []
OfAll {T} P (nr ∷ calls) items = (first others : List T) × P (Some nr) first × OfAll P calls others × (items ≡ first ++ others)

-- where no call is asked for, all are told of
abbrev pub OfEach : {T : Type 0} → (Option ℕ → List T → Type 0) → List ℕ → List T → Type 0
OfEach P [] items = P None items
OfEach P (nr ∷ calls) items = OfAll P (nr ∷ calls) items
