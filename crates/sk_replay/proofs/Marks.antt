-- The words of a line, one after the other.
use Rattle.std.proofs.Common.{◌≡◌, ◌∙◌, ap, refl, sym, ℕ, Bool, List, ◌∷◌, ◌&&◌, filter, nat_eq, true, false}
use Rattle.std.specs.List.{list_any, starts_with}
use Rattle.std.specs.Str.{bytes_eq}
use Rattle.sk_names.specs.declared.architecture.Architecture.{Architecture}
use Rattle.sk_replay.specs.declared.line.LogLine.{LogLine}
use Rattle.sk_replay.specs.AuditRecords.{begins_with_type, has_source_and_type, is_record_type, is_source}
use Rattle.sk_replay.specs.Lines.{begins_event, is_event, is_mark, said, said_at}

pub unmarked : (by : Architecture) (word text : List ℕ) (words rest : List (List ℕ)) (total : LogLine) → words ≡ word ∷ rest → is_mark word ≡ false → said by words text ≡ total → said_at by word rest text ≡ total
unmarked by word text words rest total cut f so_far = sym (sym so_far ∙ ap (λ w. said by w text) cut ∙ rw f refl)

pub marked : (by : Architecture) (word text : List ℕ) (words rest : List (List ℕ)) (total : LogLine) → words ≡ word ∷ rest → is_mark word ≡ true → said by words text ≡ total → said by rest text ≡ total
marked by word text words rest total cut t so_far = sym (sym so_far ∙ ap (λ w. said by w text) cut ∙ rw t refl)

-- a word that is no type of a record
pub any_behind : (word : List ℕ) (words rest : List (List ℕ)) (total : Bool) → words ≡ word ∷ rest → is_record_type word ≡ false → list_any is_record_type words ≡ total → list_any is_record_type rest ≡ total
any_behind word words rest total cut f so_far = sym (sym so_far ∙ ap (list_any is_record_type) cut ∙ rw f refl)

-- one that is
pub any_here : (word : List ℕ) (words rest : List (List ℕ)) (total : Bool) → words ≡ word ∷ rest → is_record_type word ≡ true → list_any is_record_type words ≡ total → true ≡ total
any_here word words rest total cut t so_far = sym (sym so_far ∙ ap (list_any is_record_type) cut ∙ rw t refl)

-- a word that is not followed by the type, or does not say where a record comes from
pub type_behind : (word : List ℕ) (words rest : List (List ℕ)) (total : Bool) → words ≡ word ∷ rest → (is_source word && begins_with_type rest) ≡ false
    → has_source_and_type words ≡ total → has_source_and_type rest ≡ total
type_behind word words rest total cut f so_far = sym (sym so_far ∙ ap has_source_and_type cut ∙ rw f refl)

-- one that does
pub type_here : (word : List ℕ) (words rest : List (List ℕ)) (total : Bool) → words ≡ word ∷ rest → (is_source word && begins_with_type rest) ≡ true
    → has_source_and_type words ≡ total → true ≡ total
type_here word words rest total cut t so_far = sym (sym so_far ∙ ap has_source_and_type cut ∙ rw t refl)

-- the first word that is no mark
pub event_unmarked : (word : List ℕ) (words rest : List (List ℕ)) (total : Bool) → words ≡ word ∷ rest → is_mark word ≡ false
    → begins_event words ≡ total → is_event word ≡ total
event_unmarked word words rest total cut f so_far = sym (sym so_far ∙ ap begins_event cut ∙ rw f refl)

-- one that is a mark
pub event_marked : (word : List ℕ) (words rest : List (List ℕ)) (total : Bool) → words ≡ word ∷ rest → is_mark word ≡ true
    → begins_event words ≡ total → begins_event rest ≡ total
event_marked word words rest total cut t so_far = sym (sym so_far ∙ ap begins_event cut ∙ rw t refl)

-- a word that is not this one
pub one_behind : (one word : List ℕ) (words rest : List (List ℕ)) (total : Bool) → words ≡ word ∷ rest → bytes_eq one word ≡ false → list_any (bytes_eq one) words ≡ total → list_any (bytes_eq one) rest ≡ total
one_behind one word words rest total cut f so_far = sym (sym so_far ∙ ap (list_any (bytes_eq one)) cut ∙ rw f refl)

-- one that is
pub one_here : (one word : List ℕ) (words rest : List (List ℕ)) (total : Bool) → words ≡ word ∷ rest → bytes_eq one word ≡ true → list_any (bytes_eq one) words ≡ total → true ≡ total
one_here one word words rest total cut t so_far = sym (sym so_far ∙ ap (list_any (bytes_eq one)) cut ∙ rw t refl)

-- the words that begin with a key
abbrev pub with_key : List ℕ → List (List ℕ) → List (List ℕ)
with_key key words = filter (λ w. starts_with nat_eq w key) words

pub kept_without : (key word : List ℕ) (words rest total : List (List ℕ)) → words ≡ word ∷ rest → starts_with nat_eq word key ≡ false → with_key key words ≡ total → with_key key rest ≡ total
kept_without key word words rest total cut f so_far = sym (sym so_far ∙ ap (with_key key) cut ∙ rw f refl)

pub kept_with : (key word : List ℕ) (words rest total : List (List ℕ)) → words ≡ word ∷ rest → starts_with nat_eq word key ≡ true → with_key key words ≡ total → total ≡ word ∷ with_key key rest
kept_with key word words rest total cut t so_far = sym so_far ∙ ap (with_key key) cut ∙ rw t refl
