-- The text of a profile that is written is read as a profile that allows these calls and refuses all others.
use Rattle.std.proofs.Common.{◌≡◌, ◌≢◌, ℕ, nat_le, slice_index_or, ◌==◌, ◌&&◌, not, Bool, true, false, cond, List, [], ◌∷◌, ◌≤◌, max, map, codes, refl, sym, subst, ap, ◌∙◌, append-nil, true≢false, arith, rules as steps}
use Rattle.std.specs.Prelude.{Option, Some, None, Ok, AllPairs}
use Rattle.std.specs.Borrow.{Bor}
use Rattle.std.specs.List.{list_all, list_any}
use Rattle.std.specs.Option.{option_and_then}
use Rattle.std.specs.Str.{bytes_eq}
use Rattle.std.proofs.lemmas.Bool.{and_parts}
use Rattle.std.proofs.lemmas.List.Kept.{AllPairs-cons}
use Rattle.std.proofs.lemmas.List.Sums.{AllPass-from_list_all}
use Rattle.std.proofs.lemmas.Slice.Eq.{bytes_eq-Decides}
use Rattle.json.specs.Json.{Json, string, array, object, no_members, value, max_depth, if_last, document}
use Rattle.json.specs.Strict.{HasUniqueKeys, ItemsHaveUniqueKeys}
use Rattle.json.specs.Tree.{json_tokens, depth, items_depth, HasNumbers, ItemsHaveNumbers}
use Rattle.json.specs.Word.{after_number}
use Rattle.json.proofs.Printed.Trees.{value-json_tokens, ArePrintable-json_tokens}
use Rattle.sk_insn.specs.declared.record.Record.{Record}
use Rattle.sk_names.specs.declared.architecture.Architecture.TheVariants as architecture
use Rattle.sk_names.specs.Names.{name_on, number_on}
use Rattle.sk_names.specs.X86_64.{number_named}
use Rattle.sk_filter.specs.Errors.{error_number}
use Rattle.sk_text.specs.Numbers.{number_of}
use Rattle.sk_profile.specs.Profiles.{Profile, is_x32, has_x32_bit, arms_for, plain_rule, said_by, settled}
use Rattle.sk_profile.specs.Sayings.{said}
use Rattle.sk_profile_json.specs.declared.context.Context.{Context}
use Rattle.sk_profile_json.specs.declared.context.Kernel.{Kernel}
use Rattle.sk_profile_json.specs.declared.fault.Field.TheVariants as field
use Rattle.sk_profile_json.specs.declared.machine.Machine.TheVariants as machine
use Rattle.sk_profile_json.specs.Entries.{Named, all_named}
use Rattle.sk_profile_json.specs.Fields.{is_text, list_of}
use Rattle.sk_profile_json.specs.Keys.{key_of}
use Rattle.sk_profile_json.specs.Multiplexed.{multiplexed_rules}
use Rattle.sk_profile_json.specs.Parts.{parts_of}
use Rattle.sk_profile_json.specs.Rules.{own_rules, rules_on}
use Rattle.sk_profile_json.specs.Wholes.{entry_named, named_from, profile_in}
use Rattle.sk_profile_json.specs.WorkedFiles.{allowed, x86_64_part}
use Rattle.sk_profile_json.specs.Writing.{Allows, SaysOf, answer, at, entries, first_unnamed, names_of, profile_text, strings, value_of}
use Rattle.sk_profile_json.proofs.LastLine.{tokens_line}
use Rattle.sk_profile_json.proofs.NamesBack.{found_by_name}

-- ---- the text is the document of its value

one_is_number : after_number (codes "1") ≡ Some []
unfolding after_number
one_is_number = refl

all_numbers : (texts : List (List ℕ)) → ItemsHaveNumbers (strings texts)
all_numbers [] = tt
all_numbers (text ∷ texts) = (tt, all_numbers texts)

entries_numbers : (numbers : List ℕ) → ItemsHaveNumbers (entries numbers)
entries_numbers [] = tt
entries_numbers (nr ∷ numbers) = ((all_numbers (names_of (nr ∷ numbers)), (tt, tt)), tt)

value_numbers : (numbers : List ℕ) → HasNumbers (value_of numbers)
value_numbers numbers = (tt, (one_is_number, ((tt, tt), (entries_numbers numbers, tt))))

strings_flat : (texts : List (List ℕ)) → items_depth (strings texts) ≡ 0
strings_flat [] = refl
strings_flat (text ∷ texts) = ap (λ n. max 0 n) (strings_flat texts)

shallow : (numbers : List ℕ) → depth (value_of numbers) ≤ max_depth
shallow [] = omega arith
shallow (nr ∷ numbers) = rw (strings_flat (names_of (nr ∷ numbers))) (omega arith)

is_document : (numbers : List ℕ) → document (profile_text numbers) ≡ Some (value_of numbers)
is_document numbers =
    let j = value_of numbers in
    ap (option_and_then (λ p. if_last p.0 p.1))
    (ap (value max_depth) (tokens_line (json_tokens j) (ArePrintable-json_tokens j (value_numbers numbers)) ∙ sym (append-nil (json_tokens j)))
    ∙ value-json_tokens j max_depth [] (shallow numbers))

-- ---- no key comes twice

abbrev are_distinct : List (List ℕ) → Bool
are_distinct [] = true
are_distinct (key ∷ keys) = list_all (λ other. not (bytes_eq key other)) keys && are_distinct keys

distinct : (keys : List (List ℕ)) → are_distinct keys ≡ true → AllPairs (λ a b. a ≢ b) keys
distinct [] h = λ i j d l m. absurd (omega (arith, m))
distinct (key ∷ keys) h =
    let both = and_parts (list_all (λ other. not (bytes_eq key other)) keys) (are_distinct keys) h in
    let others = AllPass-from_list_all (λ other. not (bytes_eq key other)) keys both.0 in
    AllPairs-cons (λ a b. a ≢ b) key keys
    (λ k d l e. true≢false (sym (others k d l) ∙ ap not ((bytes_eq-Decides key (slice_index_or keys k d)).1 e))) (distinct keys both.1)

strings_unique : (texts : List (List ℕ)) → ItemsHaveUniqueKeys (strings texts)
strings_unique [] = tt
strings_unique (text ∷ texts) = (tt, strings_unique texts)

entries_unique : (numbers : List ℕ) → ItemsHaveUniqueKeys (entries numbers)
entries_unique [] = tt
entries_unique (nr ∷ numbers) =
    ((distinct (key_of field.Names ∷ key_of field.Action ∷ []) refl, (strings_unique (names_of (nr ∷ numbers)), (tt, tt))), tt)

unique : (numbers : List ℕ) → HasUniqueKeys (value_of numbers)
unique numbers = (
  distinct (key_of field.DefaultAction ∷ key_of field.DefaultErrnoRet ∷ key_of field.Architectures ∷ key_of field.Syscalls ∷ []) refl,
  (tt, (tt, ((tt, tt), (entries_unique numbers, tt)))),
)

-- ---- its entry names the calls

texts_of_strings : (texts : List (List ℕ)) → list_all is_text (list_of (strings texts)) ≡ true
texts_of_strings [] = refl
texts_of_strings (text ∷ texts) = texts_of_strings texts

abbrev allowing : List ℕ → Named
allowing name = record { name = name; conditions = []; value = 0x7fff0000; entry = 0 }

named_strings : (texts : List (List ℕ)) → all_named 0 [] 0x7fff0000 (list_of (strings texts)) ≡ map allowing texts
named_strings [] = refl
named_strings (text ∷ texts) = ap (λ named. allowing text ∷ named) (named_strings texts)

abbrev here : Bor (List (Bor (List ℕ))) → Kernel → Bool → Context
here caps kernel native = record { capabilities = caps; kernel = kernel; runc = false; machine = Some machine.X86_64; native = native }

abbrev entry_of_names : List (List ℕ) → Json
entry_of_names names =
    object (at field.Names (array (strings names)) (at field.Action (string (codes "SCMP_ACT_ALLOW")) no_members))

entry_says : (context : Context) (name : List ℕ) (names : List (List ℕ)) → entry_named context 0 (entry_of_names (name ∷ names)) ≡ Ok (map allowing (name ∷ names))
unfolding number_of error_number
entry_says context name names = rw (texts_of_strings names) (ap (λ named. Ok (allowing name ∷ named)) (named_strings names))

-- ---- the rules are those of these calls

named_first : (nr : ℕ) (numbers : List ℕ) (o : Option (List ℕ)) → name_on architecture.X86_64 nr ≡ o → first_unnamed (nr ∷ numbers) ≡ None
    → (name : List ℕ) × (name_on architecture.X86_64 nr ≡ Some name) × (first_unnamed numbers ≡ None)
named_first nr numbers None e h = let no : Some nr ≡ None = rw e at h in absurd (search (steps, no))
named_first nr numbers (Some name) e h = (name, e, rw e at h)

own : (numbers : List ℕ) → first_unnamed numbers ≡ None → own_rules architecture.X86_64 (map allowing (names_of numbers)) ≡ map allowed numbers
own [] h = refl
own (nr ∷ numbers) h =
    let first = named_first nr numbers (name_on architecture.X86_64 nr) refl h in
    rw (first.1, found_by_name nr first.0 first.1) (ap (λ rules. allowed nr ∷ rules) (own numbers first.2))

no_multiplexer : (default : ℕ) (named : List Named) → multiplexed_rules architecture.X86_64 default named ≡ []
unfolding number_on number_named
no_multiplexer default named = refl

rules : (numbers : List ℕ) → first_unnamed numbers ≡ None → rules_on architecture.X86_64 0x50001 (map allowing (names_of numbers)) ≡ map allowed numbers
rules numbers h = rw (own numbers h, no_multiplexer 0x50001 (map allowing (names_of numbers))) (append-nil (map allowed numbers))

abbrev profile_for : List ℕ → Profile
profile_for numbers = record { parts = x86_64_part (map allowed numbers) ∷ []; default = 0x50001; bad = 0 }

parts : (caps : Bor (List (Bor (List ℕ)))) (kernel : Kernel) (native : Bool) (numbers : List ℕ) → first_unnamed numbers ≡ None
    → parts_of (here caps kernel native) (value_of numbers) 0x50001 (map allowing (names_of numbers)) ≡ x86_64_part (map allowed numbers) ∷ []
parts caps kernel true numbers h = ap (λ all. x86_64_part all ∷ []) (rules numbers h)
parts caps kernel false numbers h = ap (λ all. x86_64_part all ∷ []) (rules numbers h)

entries_say : (context : Context) (numbers : List ℕ) → first_unnamed numbers ≡ None
    → named_from context 0 (list_of (entries numbers)) ≡ Ok (map allowing (names_of numbers))
entries_say context [] h = refl
entries_say context (nr ∷ numbers) h =
    let first = named_first nr numbers (name_on architecture.X86_64 nr) refl h in
    rw first.1 (rw (entry_says context first.0 (names_of numbers)) (ap (λ named. Ok named) (append-nil _)))

is_read : (caps : Bor (List (Bor (List ℕ)))) (kernel : Kernel) (native : Bool) (numbers : List ℕ) → first_unnamed numbers ≡ None
    → profile_in (here caps kernel native) (value_of numbers) ≡ Ok (profile_for numbers)
unfolding number_of error_number
is_read caps kernel native numbers h =
    rw (entries_say (here caps kernel native) numbers h)
    (ap (λ all. Ok (record { parts = all; default = 0x50001; bad = 0 })) (parts caps kernel native numbers h))

is_read_in : (context : Context) → context.machine ≡ Some machine.X86_64 → context.runc ≡ false → (numbers : List ℕ) → first_unnamed numbers ≡ None
    → profile_in context (value_of numbers) ≡ Ok (profile_for numbers)
is_read_in context on runc numbers h =
    subst (λ m. profile_in (record context { machine = m }) (value_of numbers) ≡ Ok (profile_for numbers)) (sym on)
    (subst (λ r. profile_in (record context { machine = Some machine.X86_64; runc = r }) (value_of numbers) ≡ Ok (profile_for numbers)) (sym runc)
    (is_read context.capabilities context.kernel context.native numbers h))

-- ---- which say this

abbrev IsSettled : Bool → Record → List ℕ → Type 0
IsSettled narrow call numbers =
    said (settled narrow (plain_rule 0x50001 (map allowed numbers) call.nr) (arms_for 0x50001 (map allowed numbers) call.nr) 0x50001) call
    ≡ cond (list_any (λ nr. nr == call.nr) numbers) 0x7fff0000 0x50001

settled_is : (narrow : Bool) (call : Record) (numbers : List ℕ) → IsSettled narrow call numbers
settled_is narrow call [] = refl
settled_is narrow call (nr ∷ numbers) = by (nr == call.nr) refl (settled_is narrow call numbers) where
  by : (b : Bool) → (nr == call.nr) ≡ b → IsSettled narrow call numbers → IsSettled narrow call (nr ∷ numbers)
  by true e more = rw e refl
  by false e more = rw e more

meaning : (numbers : List ℕ) → Allows numbers (profile_for numbers)
meaning numbers call = by (0xC000003E == call.arch) (is_x32 call.nr) (has_x32_bit call.nr) refl refl refl where
  by : (own x32 bit : Bool) → (0xC000003E == call.arch) ≡ own → is_x32 call.nr ≡ x32 → has_x32_bit call.nr ≡ bit
      → said_by (profile_for numbers) call ≡ answer numbers call
  by false x32 bit e f g = rw e refl
  by true true true e f g = rw (e, f, g) refl
  by true true false e f g = rw (e, f, g) refl
  by true false true e f g = rw (e, f, g) (settled_is (nat_le 0x40000000 call.nr) call numbers)
  by true false false e f g = rw (e, f, g) (settled_is (nat_le 0x40000000 call.nr) call numbers)

pub says_of : (numbers : List ℕ) → first_unnamed numbers ≡ None → SaysOf numbers (profile_text numbers)
says_of numbers h context machine runc =
    (profile_for numbers, (value_of numbers, (is_document numbers, unique numbers), is_read_in context machine runc numbers h), meaning numbers)
