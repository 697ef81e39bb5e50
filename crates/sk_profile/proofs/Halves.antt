-- The halves of a call's arguments.
use Rattle.std.proofs.Common.{◌≡◌, ℕ, zero, suc, ◌/◌, ◌%◌, ◌^◌, ◌<◌, Bool, true, false, List, [], ◌∷◌, map, Some, slice_index_or, refl, ap, ◌∙◌, arith}
use Rattle.std.proofs.lemmas.List.Elements.{All-get_or}
use Rattle.sk_insn.specs.declared.record.Record.{Record}
use Rattle.sk_insn.specs.Record.{word_of}
use Rattle.sk_insn.proofs.RecordWords.{word_of_argument}
use Rattle.sk_profile.specs.Sayings.{low, seen}
use Rattle.sk_profile.specs.Code.{high, high_place, low_place}
use Rattle.sk_profile.specs.Means.{IsCall}

-- an argument as it is shown, and as conditions see it
abbrev pub register : Record → ℕ → ℕ
register call i = slice_index_or call.args i 0

abbrev pub argument : Bool → Record → ℕ → ℕ
argument narrow call i = register (seen narrow call) i

pub low_at : (args : List ℕ) (i : ℕ) → slice_index_or (map low args) i 0 ≡ low (slice_index_or args i 0)
low_at [] zero = refl
low_at [] (suc i) = refl
low_at (a ∷ args) zero = refl
low_at (a ∷ args) (suc i) = low_at args i

-- the lower half is shown as it is seen, and where registers have 32 bits there is no upper one
pub lower_seen : (narrow : Bool) (call : Record) (i : ℕ) → low (register call i) ≡ low (argument narrow call i)
lower_seen false call i = refl
lower_seen true call i = omega (arith, low_at call.args i)

pub upper_seen : (call : Record) (i : ℕ) → high (argument true call i) ≡ 0
upper_seen call i = omega (arith, low_at call.args i)

pub register_fits : (call : Record) (i : ℕ) → IsCall call → i < 6 → register call i < 2 ^ 64
register_fits call i ok inside = All-get_or (λ a. a < 2 ^ 64) call.args i 0 (omega (arith, inside, ok.six)) ok.fit

no_more : (a : ℕ) → a < 2 ^ 64 → Some (a / 2 ^ 32 % 2 ^ 32) ≡ Some (high a)
no_more a fits = let e : a / 2 ^ 32 % 2 ^ 32 ≡ a / 2 ^ 32 = omega arith in ap Some e

pub high_word : (call : Record) (i : ℕ) → IsCall call → i < 6 → word_of call (high_place i) ≡ Some (high (register call i))
high_word call zero ok inside = word_of_argument call 20 refl (omega arith) (omega arith) ok.six ∙ no_more _ (register_fits call 0 ok inside)
high_word call (suc zero) ok inside = word_of_argument call 28 refl (omega arith) (omega arith) ok.six ∙ no_more _ (register_fits call 1 ok inside)
high_word call (suc (suc zero)) ok inside = word_of_argument call 36 refl (omega arith) (omega arith) ok.six ∙ no_more _ (register_fits call 2 ok inside)
high_word call (suc (suc (suc zero))) ok inside = word_of_argument call 44 refl (omega arith) (omega arith) ok.six ∙ no_more _ (register_fits call 3 ok inside)
high_word call (suc (suc (suc (suc zero)))) ok inside = word_of_argument call 52 refl (omega arith) (omega arith) ok.six ∙ no_more _ (register_fits call 4 ok inside)
high_word call (suc (suc (suc (suc (suc zero))))) ok inside = word_of_argument call 60 refl (omega arith) (omega arith) ok.six ∙ no_more _ (register_fits call 5 ok inside)
high_word call (suc (suc (suc (suc (suc (suc i)))))) ok inside = absurd (omega arith)

pub low_word : (call : Record) (i : ℕ) → IsCall call → i < 6 → word_of call (low_place i) ≡ Some (low (register call i))
low_word call zero ok inside = word_of_argument call 16 refl (omega arith) (omega arith) ok.six
low_word call (suc zero) ok inside = word_of_argument call 24 refl (omega arith) (omega arith) ok.six
low_word call (suc (suc zero)) ok inside = word_of_argument call 32 refl (omega arith) (omega arith) ok.six
low_word call (suc (suc (suc zero))) ok inside = word_of_argument call 40 refl (omega arith) (omega arith) ok.six
low_word call (suc (suc (suc (suc zero)))) ok inside = word_of_argument call 48 refl (omega arith) (omega arith) ok.six
low_word call (suc (suc (suc (suc (suc zero))))) ok inside = word_of_argument call 56 refl (omega arith) (omega arith) ok.six
low_word call (suc (suc (suc (suc (suc (suc i)))))) ok inside = absurd (omega arith)
