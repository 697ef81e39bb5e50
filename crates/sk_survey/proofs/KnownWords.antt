-- Scratch words of which something is known.
use Rattle.std.proofs.Common.{◌≡◌, ℕ, zero, suc, ◌<◌, List, [], ◌∷◌, length, Option, Some, None, slice_get, get_or, set, refl, sym, ◌∙◌, arith}
use Rattle.std.proofs.lemmas.Option.{slice_get-get_or}
use Rattle.sk_insn.specs.declared.record.Record.{Record}
use Rattle.sk_survey.specs.declared.known.Known.{Known}
use Rattle.sk_survey.specs.Following.{Describes, DescribesWord}

-- a word that is set, and the others
pub word_at : (words : List Known) (k : ℕ) (known : Known) → k < length words → slice_get (set words k known) k ≡ Some known
word_at [] k known inside = absurd (omega arith)
word_at (first ∷ words) zero known inside = refl
word_at (first ∷ words) (suc k) known inside = word_at words k known (omega arith)

pub word_apart : (words : List Known) (k j : ℕ) (known : Known) → (j ≡ k → ⊥) → slice_get (set words k known) j ≡ slice_get words j
word_apart [] k j known other = refl
word_apart (first ∷ words) zero zero known other = absurd (other refl)
word_apart (first ∷ words) zero (suc j) known other = refl
word_apart (first ∷ words) (suc k) zero known other = refl
word_apart (first ∷ words) (suc k) (suc j) known other = word_apart words k j known (λ e. other (omega arith))

pub same_at : (words others : List Known) (k : ℕ) (one other : Known) → k < length words → k < length others → slice_get words k ≡ slice_get others k
    → get_or words k one ≡ get_or others k other
same_at words others k one other inside inside' same =
    let e : Some (get_or words k one) ≡ Some (get_or others k other) =
    sym (slice_get-get_or words k one inside) ∙ same ∙ slice_get-get_or others k other inside' in cc

-- a word of which less is known
pub word_joined : (words : List Known) (k j : ℕ) (known default : Known) (call : Record) (word : Option ℕ) → k < length words
    → ((n : ℕ) → Describes (get_or words k default) call n → Describes known call n)
    → DescribesWord (slice_get words j) call word → DescribesWord (slice_get (set words k known) j) call word
word_joined [] k j known default call word inside less is = absurd (omega arith)
word_joined (first ∷ words) zero zero known default call (Some n) inside less is = less n is
word_joined (first ∷ words) zero zero known default call None inside less is = absurd is
word_joined (first ∷ words) zero (suc j) known default call word inside less is = is
word_joined (first ∷ words) (suc k) zero known default call word inside less is = is
word_joined (first ∷ words) (suc k) (suc j) known default call word inside less is =
    word_joined words k j known default call word (omega arith) less is

-- a word of which this is known
pub word_set : (words : List Known) (k : ℕ) (known : Known) (call : Record) (word : Option ℕ) → k < length words
    → DescribesWord (Some known) call word → DescribesWord (slice_get (set words k known) k) call word
word_set [] k known call word inside is = absurd (omega arith)
word_set (first ∷ words) zero known call word inside is = is
word_set (first ∷ words) (suc k) known call word inside is = word_set words k known call word (omega arith) is

pub word_other : (words : List Known) (k j : ℕ) (known : Known) (call : Record) (word : Option ℕ) → (j ≡ k → ⊥)
    → DescribesWord (slice_get words j) call word → DescribesWord (slice_get (set words k known) j) call word
word_other [] k j known call word other is = is
word_other (first ∷ words) zero zero known call word other is = absurd (other (omega arith))
word_other (first ∷ words) zero (suc j) known call word other is = is
word_other (first ∷ words) (suc k) zero known call word other is = is
word_other (first ∷ words) (suc k) (suc j) known call word other is =
    word_other words k j known call word (λ e. other (omega arith)) is

-- what is known of a word is known of its number
pub word_known : (words : List Known) (k : ℕ) (known default : Known) (call : Record) (word : Option ℕ) → k < length words
    → ((n : ℕ) → Describes (get_or words k default) call n → Describes known call n)
    → DescribesWord (slice_get words k) call word → DescribesWord (Some known) call word
word_known [] k known default call word inside less is = absurd (omega arith)
word_known (first ∷ words) zero known default call (Some n) inside less is = less n is
word_known (first ∷ words) zero known default call None inside less is = absurd is
word_known (first ∷ words) (suc k) known default call word inside less is = word_known words k known default call word (omega arith) less is
