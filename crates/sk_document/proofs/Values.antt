-- Objects, arrays and members of values are values again.
use Rattle.std.proofs.Common.{ℕ, ◌≡◌, ◌++◌, Bool, List, [], ◌∷◌, refl, ap, ◌∙◌, sym, append_assoc, append-nil}
use Rattle.std.specs.Prelude.{flat_map, Option, Some, None}
use Rattle.std.proofs.lemmas.Grind.{flat_map-append}
use Rattle.json.specs.Json.{Json, Items, no_items, item, Members, no_members, member}
use Rattle.json.specs.Json as json
use Rattle.json.specs.Token.{Token}
use Rattle.json.specs.Token as token
use Rattle.json.specs.Tree.{json_tokens, items_tokens, members_tokens}
use Rattle.sk_document.specs.Documents.{array, at, boolean_at, counted, decided, maybe, none, number_at, object, said, string_at, word_at}
use Rattle.sk_document.specs.DocumentLaws.{IsValue}

abbrev pub Member : Type 0
Member = List ℕ × Json

abbrev pub member_tokens : Member → List Token
member_tokens it = token.key it.0 ∷ json_tokens it.1

-- the tokens of values in a row, and of members in a row
abbrev pub AreValues : List Token → Type 0
AreValues tokens = (values : List Json) × (tokens ≡ flat_map json_tokens values)

abbrev pub AreMembers : List Token → Type 0
AreMembers tokens = (members : List Member) × (tokens ≡ flat_map member_tokens members)

-- ---- values

abbrev items_of : List Json → Items
items_of [] = no_items
items_of (value ∷ values) = item value (items_of values)

items_end : (values : List Json) → flat_map json_tokens values ++ token.end_array ∷ [] ≡ items_tokens (items_of values)
items_end [] = refl
items_end (value ∷ values) =
    append_assoc (json_tokens value) (flat_map json_tokens values) (token.end_array ∷ []) ∙ ap (λ rest. json_tokens value ++ rest) (items_end values)

abbrev members_of : List Member → Members
members_of [] = no_members
members_of (it ∷ its) = member it.0 it.1 (members_of its)

members_end : (its : List Member) → flat_map member_tokens its ++ token.end_object ∷ [] ≡ members_tokens (members_of its)
members_end [] = refl
members_end (it ∷ its) =
    append_assoc (member_tokens it) (flat_map member_tokens its) (token.end_object ∷ []) ∙ ap (λ rest. member_tokens it ++ rest) (members_end its)

pub array_is : (tokens : List Token) → AreValues tokens → IsValue (array tokens)
array_is tokens are =
    (json.array (items_of are.0), ap (λ its. token.begin_array ∷ (its ++ token.end_array ∷ [])) are.1 ∙ ap (λ rest. token.begin_array ∷ rest) (items_end are.0))

pub object_is : (tokens : List Token) → AreMembers tokens → IsValue (object tokens)
object_is tokens are =
    (json.object (members_of are.0), ap (λ its. token.begin_object ∷ (its ++ token.end_object ∷ [])) are.1 ∙ ap (λ rest. token.begin_object ∷ rest) (members_end are.0))

pub counted_is : (n : ℕ) → IsValue (counted n)
counted_is n = (json.number _, refl)

pub said_is : (text : List ℕ) → IsValue (said text)
said_is text = (json.string text, refl)

pub none_is : IsValue none
none_is = (json.null, refl)

pub maybe_is : {T : Type 0} → (value : T → List Token) → ((it : T) → IsValue (value it)) → (o : Option T) → IsValue (maybe value o)
maybe_is value is None = none_is
maybe_is value is (Some it) = is it

-- ---- values in a row

pub no_values : AreValues []
no_values = ([], refl)

pub one_value : (tokens : List Token) → IsValue tokens → AreValues tokens
one_value tokens is = (is.0 ∷ [], is.1 ∙ sym (append-nil (json_tokens is.0)))

pub more_values : (one other : List Token) → AreValues one → AreValues other → AreValues (one ++ other)
more_values one other are are' =
    (are.0 ++ are'.0, ap (λ ts. ts ++ other) are.1 ∙ ap (λ ts. flat_map json_tokens are.0 ++ ts) are'.1 ∙ sym (flat_map-append json_tokens are.0 are'.0))

pub each_is : {X : Type 0} → (f : X → List Token) → ((x : X) → AreValues (f x)) → (xs : List X) → AreValues (flat_map f xs)
each_is f are [] = no_values
each_is f are (x ∷ xs) = more_values (f x) (flat_map f xs) (are x) (each_is f are xs)

-- an array of a value for each
pub array_of : {X : Type 0} → (f : X → List Token) → ((x : X) → IsValue (f x)) → (xs : List X) → IsValue (array (flat_map f xs))
array_of f is xs = array_is (flat_map f xs) (each_is f (λ x. one_value (f x) (is x)) xs)

-- ---- members in a row

pub one_member : (name : List ℕ) (tokens : List Token) → IsValue tokens → AreMembers (at name ++ tokens)
unfolding at
one_member name tokens is = ((name, is.0) ∷ [], ap (λ ts. token.key name ∷ ts) (is.1 ∙ sym (append-nil (json_tokens is.0))))

pub more_members : (one other : List Token) → AreMembers one → AreMembers other → AreMembers (one ++ other)
more_members one other are are' =
    (are.0 ++ are'.0, ap (λ ts. ts ++ other) are.1 ∙ ap (λ ts. flat_map member_tokens are.0 ++ ts) are'.1 ∙ sym (flat_map-append member_tokens are.0 are'.0))

-- a member in front of others, whose value stands behind its name
pub member_before : (name : List ℕ) (value others : List Token) → IsValue value → AreMembers others → AreMembers (at name ++ (value ++ others))
member_before name value others is are =
    let joined : AreMembers ((at name ++ value) ++ others) = more_members (at name ++ value) others (one_member name value is) are in
    (joined.0, sym (append_assoc (at name) value others) ∙ joined.1)

pub number_member : (name : List ℕ) (n : ℕ) → AreMembers (number_at name n)
unfolding number_at
number_member name n = one_member name (counted n) (counted_is n)

pub string_member : (name text : List ℕ) → AreMembers (string_at name text)
unfolding string_at
string_member name text = one_member name (said text) (said_is text)

pub boolean_member : (name : List ℕ) (is : Bool) → AreMembers (boolean_at name is)
unfolding boolean_at
boolean_member name is = one_member name (decided is) (json.boolean is, refl)

pub word_member : (word : List ℕ) → AreMembers (word_at word)
unfolding word_at
word_member word = string_member _ word
