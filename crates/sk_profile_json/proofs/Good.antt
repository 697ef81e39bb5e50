-- The rules of a profile that is read have conditions on six arguments, each on another one.
use Rattle.std.proofs.Common.{◌≡◌, ℕ, ◌+◌, ◌≤◌, ◌&&◌, ◌++◌, nat_lt, Bool, true, false, if◌then◌else◌, List, [], ◌∷◌, length, flat_map, Option, Some, None, Result, Ok, Err, refl, subst, ap, ◌∙◌, rules as steps, arith}
use Rattle.std.specs.Prelude.{find}
use Rattle.std.proofs.lemmas.Bool.{lt-ltb, le-leb}
use Rattle.std.proofs.lemmas.List.Elements.{All-cons, All-nil, All-append, All-tail}
use Rattle.std.specs.List.{All, list_all, cons_option, filter_map}
use Rattle.std.specs.Option.{option_map}
use Rattle.json.specs.Find.{as_str}
use Rattle.json.specs.Json.{Json}
use Rattle.sk_names.specs.declared.architecture.Architecture.{Architecture}
use Rattle.sk_names.specs.declared.architecture.Architecture.TheVariants as architecture
use Rattle.sk_names.specs.Names.{number_on}
use Rattle.sk_profile.specs.declared.condition.Condition.{Condition}
use Rattle.sk_profile.specs.Faults.{is_good}
use Rattle.sk_profile.specs.Profiles.{Rule, Part, Profile}
use Rattle.sk_profile.specs.Sayings.{are_apart}
use Rattle.sk_profile_json.specs.declared.conditions.WrongArgument.{WrongArgument}
use Rattle.sk_profile_json.specs.declared.context.Context.{Context}
use Rattle.sk_profile_json.specs.declared.fault.Fault.{Fault}
use Rattle.sk_profile_json.specs.declared.fault.Wrong.{Wrong}
use Rattle.sk_profile_json.specs.declared.machine.Machine.{Machine}
use Rattle.sk_profile_json.specs.declared.machine.Machine.TheVariants as machine
use Rattle.sk_profile_json.specs.Architectures.{counts_too}
use Rattle.sk_profile_json.specs.Conditions.{conditions_of, wrong_argument}
use Rattle.sk_profile_json.specs.Contexts.{counts}
use Rattle.sk_profile_json.specs.Entries.{Entry, Named, entry_of, all_named}
use Rattle.sk_profile_json.specs.Fields.{result_then}
use Rattle.sk_profile_json.specs.Machines.{row}
use Rattle.sk_profile_json.specs.Multiplexed.{Told, Multiplexer, socketcall, ipc, is_named, unseen, under, told_rule, told_rules, multiplexed_rules}
use Rattle.sk_profile_json.specs.Parts.{Basis, basis_of, has_part, own_part, part_on, parts_of, parts_on, relative_part}
use Rattle.sk_profile_json.specs.Rules.{own_rules, rules_on}
use Rattle.sk_profile_json.specs.Wholes.{AreGood, Head, before, named_if, named_with, named_unless, named_of_entry, entry_named, named_from, head_of, profile_with, profile_if, profile_in}
use Rattle.sk_profile_json.proofs.Asked.{IsAsked, conditions_of-asked, apart-few}

abbrev pub IsGood : Rule → Type 0
IsGood rule = is_good rule ≡ true

abbrev pub IsFine : Named → Type 0
IsFine it = is_good (record { number = 0; conditions = it.conditions; value = it.value; entry = it.entry }) ≡ true

-- ---- what an entry says of a name

asked-all : (conditions : List Condition) → All IsAsked conditions → list_all (λ (c : Condition). nat_lt c.index 6) conditions ≡ true
asked-all [] asked = refl
asked-all (c ∷ conditions) asked =
    let first = lt-ltb c.index 6 (asked 0 c (omega arith)) in
    ap (λ b. b && list_all (λ (c : Condition). nat_lt c.index 6) conditions) first
    ∙ asked-all conditions (All-tail IsAsked c conditions asked)

fine-named : (name : List ℕ) (value entry : ℕ) (conditions : List Condition) → length conditions ≤ 6 → are_apart conditions ≡ true → All IsAsked conditions
    → IsFine (record { name = name; conditions = conditions; value = value; entry = entry })
fine-named name value entry conditions few apart asked =
    let f = le-leb (length conditions) 6 few in
    let a = asked-all conditions asked in
    rw (f, apart, a) refl

found-fine : (entry : ℕ) (conditions : List Condition) (value : ℕ) (o : Option (List ℕ)) (rest : List Named)
    → length conditions ≤ 6 → are_apart conditions ≡ true → All IsAsked conditions → All IsFine rest
    → All IsFine (cons_option (option_map (λ name. record { name = name; conditions = conditions; value = value; entry = entry }) o) rest)
found-fine entry conditions value None rest few apart asked h = h
found-fine entry conditions value (Some name) rest few apart asked h =
    All-cons IsFine _ rest (fine-named name value entry conditions few apart asked) h

all_named-fine : (entry : ℕ) (conditions : List Condition) (value : ℕ) (names : List Json)
    → length conditions ≤ 6 → are_apart conditions ≡ true → All IsAsked conditions → All IsFine (all_named entry conditions value names)
all_named-fine entry conditions value [] few apart asked = All-nil IsFine
all_named-fine entry conditions value (j ∷ names) few apart asked =
    found-fine entry conditions value (as_str j) (all_named entry conditions value names) few apart asked
    (all_named-fine entry conditions value names few apart asked)

-- what was told is fine, if it is no fault
abbrev AreFine : Result (List Named) Fault → Type 0
AreFine told = (named : List Named) → told ≡ Ok named → All IsFine named

if-fine : (at : ℕ) (named : List Named) (told : Result Bool Wrong) → All IsFine named → AreFine (named_if at named told)
if-fine at named (Ok true) h more e = let same : named ≡ more = search (steps, e) in subst (All IsFine) same h
if-fine at named (Ok false) h more e = let same : [] ≡ more = search (steps, e) in subst (All IsFine) same (All-nil IsFine)
if-fine at named (Err wrong) h more e = absurd (search (steps, e))

with-fine : (context : Context) (at : ℕ) (j : Json) (entry : Entry) (conditions : List Condition) (b : Bool) → are_apart conditions ≡ b
    → All IsAsked conditions → AreFine (named_with context at j entry conditions)
with-fine context at j entry conditions true e asked =
    rw e (if-fine at (all_named at conditions entry.value entry.names) (counts context j)
    (all_named-fine at conditions entry.value entry.names (apart-few conditions e asked) e asked))
with-fine context at j entry conditions false e asked = rw e (λ more h. absurd (search (steps, h)))

unless-fine : (context : Context) (at : ℕ) (j : Json) (entry : Entry) (o : Option WrongArgument) → AreFine (named_unless context at j entry o)
unless-fine context at j entry None =
    with-fine context at j entry (conditions_of entry.arguments) (are_apart (conditions_of entry.arguments)) refl (conditions_of-asked entry.arguments)
unless-fine context at j entry (Some it) = λ more h. absurd (search (steps, h))

entry-fine : (context : Context) (at : ℕ) (j : Json) (told : Result Entry Wrong) → AreFine (named_of_entry context at j told)
entry-fine context at j (Ok entry) = unless-fine context at j entry (wrong_argument 0 entry.arguments)
entry-fine context at j (Err wrong) = λ more h. absurd (search (steps, h))

before-fine : (first : List Named) (told : Result (List Named) Fault) → All IsFine first → AreFine told → AreFine (before first told)
before-fine first (Ok rest) h g more e =
    let same : first ++ rest ≡ more = search (steps, e) in subst (All IsFine) same (All-append IsFine first rest h (g rest refl))
before-fine first (Err fault) h g more e = absurd (search (steps, e))

then-fine : (told rest : Result (List Named) Fault) → AreFine told → AreFine rest → AreFine (result_then (λ named. before named rest) told)
then-fine (Ok first) rest g h = before-fine first rest (g first refl) h
then-fine (Err fault) rest g h = λ more e. absurd (search (steps, e))

from-fine : (context : Context) (at : ℕ) (js : List Json) → AreFine (named_from context at js)
from-fine context at [] = λ more e. let same : [] ≡ more = search (steps, e) in subst (All IsFine) same (All-nil IsFine)
from-fine context at (j ∷ js) =
    then-fine (entry_named context at j) (named_from context (at + 1) js) (entry-fine context at j (entry_of j)) (from-fine context (at + 1) js)

-- ---- the rules of an architecture

own-one : (it : Named) (o : Option ℕ) (rest : List Rule) → IsFine it → All IsGood rest
    → All IsGood (cons_option (option_map (λ nr. record { number = nr; conditions = it.conditions; value = it.value; entry = it.entry }) o) rest)
own-one it None rest fine h = h
own-one it (Some nr) rest fine h = All-cons IsGood _ rest fine h

own-good : (on : Architecture) (named : List Named) → All IsFine named → All IsGood (own_rules on named)
own-good on [] h = All-nil IsGood
own-good on (it ∷ named) h =
    own-one it (number_on on it.name) (own_rules on named) (h 0 it (omega arith)) (own-good on named (All-tail IsFine it named h))

told-one : (nr mask place value : ℕ) (o : Option Named) (rest : List Rule) → All IsGood rest
    → All IsGood (cons_option
    (option_map (λ (first : Named). record { number = nr; conditions = under mask place ∷ []; value = value; entry = first.entry }) o) rest)
told-one nr mask place value None rest h = h
told-one nr mask place value (Some first) rest h = All-cons IsGood _ rest refl h

told-good : (nr mask default : ℕ) (named : List Named) (tells : List Told) → All IsGood (filter_map (told_rule nr mask default named) tells)
told-good nr mask default named [] = All-nil IsGood
told-good nr mask default named (told ∷ tells) =
    told-one nr mask told.1 (unseen default named told.0) (find (is_named told.0) named) (filter_map (told_rule nr mask default named) tells)
    (told-good nr mask default named tells)

tells-good : (it : Multiplexer) (default : ℕ) (named : List Named) (o : Option ℕ) → All IsGood (told_rules it default named o)
tells-good it default named None = All-nil IsGood
tells-good it default named (Some nr) = told-good nr it.mask default named it.tells

multiplexed-good : (on : Architecture) (default : ℕ) (named : List Named) → All IsGood (multiplexed_rules on default named)
multiplexed-good on default named =
    All-append IsGood _ _ (tells-good socketcall default named (number_on on socketcall.call))
    (All-append IsGood _ _ (tells-good ipc default named (number_on on ipc.call)) (All-nil IsGood))

rules-good : (on : Architecture) (default : ℕ) (named : List Named) → All IsFine named → All IsGood (rules_on on default named)
rules-good on default named h = All-append IsGood _ _ (own-good on named h) (multiplexed-good on default named)

-- ---- parts

abbrev pub IsGoodPart : Part → Type 0
IsGoodPart part = All IsGood part.rules

part-good : (basis : Basis) (on : Architecture) → All IsFine basis.named → IsGoodPart (part_on basis on)
part-good basis on h = rules-good on basis.default basis.named h

own_part-good : (basis : Basis) (it : Machine) (x32 : Bool) → All IsFine basis.named → IsGoodPart (own_part basis it x32)
own_part-good basis machine.X86_64 true h =
    All-append IsGood _ _ (part-good basis architecture.X86_64 h) (rules-good architecture.X32 basis.default basis.named h)
own_part-good basis machine.X86_64 false h = part-good basis architecture.X86_64 h
own_part-good basis machine.Aarch64 x32 h = part-good basis architecture.Aarch64 h
own_part-good basis machine.Riscv64 x32 h = part-good basis architecture.Riscv64 h
own_part-good basis machine.Ppc64le x32 h = part-good basis architecture.Ppc64le h
own_part-good basis machine.Loongarch64 x32 h = part-good basis architecture.Loongarch64 h

relative-one : (basis : Basis) (on : Architecture) (b : Bool) → All IsFine basis.named → AreGood (if b then part_on basis on ∷ [] else [])
relative-one basis on true h = All-cons IsGoodPart _ [] (part-good basis on h) (All-nil IsGoodPart)
relative-one basis on false h = All-nil IsGoodPart

relatives-good : (context : Context) (j : Json) (basis : Basis) (relatives : List Architecture) → All IsFine basis.named
    → AreGood (flat_map (relative_part context j basis) relatives)
relatives-good context j basis [] h = All-nil IsGoodPart
relatives-good context j basis (on ∷ relatives) h =
    All-append IsGoodPart _ _ (relative-one basis on (has_part context j on) h) (relatives-good context j basis relatives h)

parts-good : (context : Context) (j : Json) (basis : Basis) (o : Option Machine) → All IsFine basis.named → AreGood (parts_on context j basis o)
parts-good context j basis None h = All-nil IsGoodPart
parts-good context j basis (Some it) h =
    All-cons IsGoodPart _ _ (own_part-good basis it (counts_too context j architecture.X32) h) (relatives-good context j basis (row it).relatives h)

-- ---- all rules

with-rules : (context : Context) (j : Json) (default : ℕ) (told : Result (List Named) Fault) (profile : Profile) → AreFine told
    → profile_with context j default told ≡ Ok profile → AreGood profile.parts
with-rules context j default (Ok named) profile g e =
    let same : parts_of context j default named ≡ profile.parts = search (steps, e) in
    subst AreGood same (parts-good context j (basis_of context j default named) context.machine (g named refl))
with-rules context j default (Err fault) profile g e = absurd (search (steps, e))

if-rules : (context : Context) (j : Json) (head : Result Head Wrong) (profile : Profile) → profile_if context j head ≡ Ok profile → AreGood profile.parts
if-rules context j (Ok head) profile e = with-rules context j head.default (named_from context 0 head.entries) profile (from-fine context 0 head.entries) e
if-rules context j (Err wrong) profile e = absurd (search (steps, e))

pub rules_good : (context : Context) (j : Json) (profile : Profile) → profile_in context j ≡ Ok profile → AreGood profile.parts
rules_good context j profile e = if-rules context j (head_of context j) profile e
