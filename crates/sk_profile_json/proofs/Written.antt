-- The tokens of a profile that is written.
use Rattle.std.proofs.Common.{◌≡◌, ℕ, ◌+◌, ◌<◌, zero, suc, List, [], ◌∷◌, ◌++◌, length, map, codes, drop, get_or, Option, Some, None, refl, ap, ◌∙◌, add-one, append_assoc, arith}
use Rattle.std.specs.List.{cons_option}
use Rattle.json.specs.Token.{Token}
use Rattle.json.specs.Token as token
use Rattle.json.specs.Json.{array}
use Rattle.json.specs.Tree.{items_tokens, json_tokens}
use Rattle.sk_names.specs.declared.architecture.Architecture.TheVariants as architecture
use Rattle.sk_names.specs.Names.{name_on}
use Rattle.sk_profile_json.specs.declared.fault.Field.TheVariants as field
use Rattle.sk_profile_json.specs.Keys.{key_of}
use Rattle.sk_profile_json.specs.Machines.{scmp_name}
use Rattle.sk_profile_json.specs.Writing.{entries, entry, names_of, strings, value_of}

-- names that are found are written one by one
put : (done new : List Token) (o : Option (List ℕ)) (rest : List (List ℕ)) → new ≡ done ++ map token.string (cons_option o [])
    → new ++ map token.string rest ≡ done ++ map token.string (cons_option o rest)
put done new None rest e = ap (λ ts. ts ++ map token.string rest) e ∙ append_assoc done [] _
put done new (Some name) rest e = ap (λ ts. ts ++ map token.string rest) e ∙ append_assoc done (token.string name ∷ []) _

name_behind : (numbers : List ℕ) (i d : ℕ) (done new : List Token) → i < length numbers
    → new ≡ done ++ map token.string (cons_option (name_on architecture.X86_64 (get_or numbers i d)) [])
    → new ++ map token.string (names_of (drop (suc i) numbers)) ≡ done ++ map token.string (names_of (drop i numbers))
name_behind [] i d done new h n = absurd (omega arith)
name_behind (first ∷ numbers) zero d done new h n = put done new (name_on architecture.X86_64 first) (names_of numbers) n
name_behind (first ∷ numbers) (suc i) d done new h n = name_behind numbers i d done new (omega arith) n

pub one_more_name : (numbers : List ℕ) (i d : ℕ) (done new : List Token) → i < length numbers
    → new ≡ done ++ map token.string (cons_option (name_on architecture.X86_64 (get_or numbers i d)) [])
    → new ++ map token.string (names_of (drop (i + 1) numbers)) ≡ done ++ map token.string (names_of (drop i numbers))
one_more_name numbers i d done new h n =
    ap (λ k. new ++ map token.string (names_of (drop k numbers))) (add-one i) ∙ name_behind numbers i d done new h n

-- the tokens of a list of strings are those of its items, and the bracket that closes
pub strings_tokens : (texts : List (List ℕ)) → items_tokens (strings texts) ≡ map token.string texts ++ token.end_array ∷ []
strings_tokens [] = refl
strings_tokens (text ∷ texts) = ap (λ ts. token.string text ∷ ts) (strings_tokens texts)

pub listed : (old opened named : List Token) (numbers : List ℕ) → opened ≡ old ++ token.begin_array ∷ []
    → named ≡ opened ++ map token.string (names_of numbers)
    → named ++ token.end_array ∷ [] ≡ old ++ json_tokens (array (strings (names_of numbers)))
listed old opened named numbers o n =
    rw (n, o, strings_tokens (names_of numbers)) (append_assoc (old ++ token.begin_array ∷ []) _ _ ∙ append_assoc old _ _)

pub entered : (old opened at listed acted : List Token) (numbers : List ℕ) → opened ≡ old ++ token.begin_object ∷ []
    → at ≡ opened ++ token.key (key_of field.Names) ∷ [] → listed ≡ at ++ json_tokens (array (strings (names_of numbers)))
    → acted ≡ listed ++ token.key (key_of field.Action) ∷ token.string (codes "SCMP_ACT_ALLOW") ∷ []
    → acted ++ token.end_object ∷ [] ≡ old ++ json_tokens (entry numbers)
entered old opened at listed acted numbers o a l e = rw (e, l, a, o) (simp append_assoc)

pub whole : (old opened default error by at listed : List Token) (numbers : List ℕ) → opened ≡ old ++ token.begin_object ∷ []
    → default ≡ opened ++ token.key (key_of field.DefaultAction) ∷ token.string (codes "SCMP_ACT_ERRNO") ∷ []
    → error ≡ default ++ token.key (key_of field.DefaultErrnoRet) ∷ token.number (codes "1") ∷ []
    → by ≡ error ++ token.key (key_of field.Architectures) ∷ json_tokens (array (strings (scmp_name architecture.X86_64 ∷ [])))
    → at ≡ by ++ token.key (key_of field.Syscalls) ∷ [] → listed ≡ at ++ json_tokens (array (entries numbers))
    → listed ++ token.end_object ∷ [] ≡ old ++ json_tokens (value_of numbers)
whole old opened default error by at listed numbers o d e a s l = rw (l, s, a, e, d, o) (simp append_assoc)

pub no_entries : (old opened : List Token) → opened ≡ old ++ token.begin_array ∷ []
    → opened ++ token.end_array ∷ [] ≡ old ++ json_tokens (array (entries []))
no_entries old opened o = rw o (append_assoc old _ _)

pub one_entry : (old opened entered : List Token) (nr : ℕ) (numbers : List ℕ) → opened ≡ old ++ token.begin_array ∷ []
    → entered ≡ opened ++ json_tokens (entry (nr ∷ numbers))
    → entered ++ token.end_array ∷ [] ≡ old ++ json_tokens (array (entries (nr ∷ numbers)))
one_entry old opened entered nr numbers o e = rw (e, o) (simp append_assoc)
