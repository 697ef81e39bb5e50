-- The places of a text, one by one; and the numbers in an entry are numbers.
use Rattle.std.proofs.Common.{◌≡◌, ℕ, zero, suc, ◌+◌, ◌-◌, ◌<◌, ◌≤◌, length, take, drop, append-nil, true≢false, ◌≢◌, Bool, true, false, cond, List, [], ◌∷◌, Option, Some, None, Result, refl, sym, ap, ◌∙◌, subst, arith, rules as steps}
use Rattle.std.specs.Prelude.{All, IfSome, filter, find, slice_get}
use Rattle.std.specs.List.{range_with_len, slice_index}
use Rattle.std.specs.Option.{option_and_then, option_map, option_or, unwrap_or}
use Rattle.std.proofs.lemmas.Slice.Eq.{bytes_eq-Decides}
use Rattle.std.proofs.lemmas.List.Elements.{All-cons, All-nil, All-tail}
use Rattle.json.specs.Find.{get, is_null}
use Rattle.json.specs.Json.{Json, null, boolean, number, string, array, object, Items, no_items, item, max_depth, value}
use Rattle.json.specs.Tree.{HasNumbers, ItemsHaveNumbers, depth, json_tokens}
use Rattle.json.specs.Lex.{tokens}
use Rattle.json.specs.Print.{print}
use Rattle.json.specs.Token.{Token}
use Rattle.json.proofs.Found.{Some_inj}
use Rattle.json.proofs.Numbered.{ArePrintableOrBad-tokens, document-HasNumbers, HasNumbers-get, value-HasNumbers}
use Rattle.json.proofs.Printed.Tokens.{tokens-print}
use Rattle.json.proofs.Printed.Trees.{ArePrintable-json_tokens, value-json_tokens}
use Rattle.sk_profile_json.specs.declared.fault.Absence.{Absence}
use Rattle.sk_profile_json.specs.declared.fault.Field.{Field}
use Rattle.sk_profile_json.specs.declared.fault.Field.TheVariants as field
use Rattle.sk_profile_json.specs.Fields.{given, is_written, items_of_kind, items_or_none, list_in, list_of, unless_null}
use Rattle.sk_profile_json.specs.Inspected.{text_inside}
use Rattle.sk_profile_json.specs.Keys.{key_of}
use Rattle.sk_profile_json.specs.Lines.{LinesHaveEntries, Stands, entry_if, entry_in, line_in, most_objects, place_of, written}
use Rattle.sk_profile_json.specs.Forms.{is_byte}
use Rattle.sk_profile_json.specs.Slips.{line_of}
use Rattle.sk_profile_json.specs.Wholes.{IsDocument, configured, inside, profile_of_document}

-- ---- places

first_place : (first count : ℕ) → 0 < count → range_with_len first count ≡ first ∷ range_with_len (first + 1) (count - 1)
first_place first zero some = absurd (omega arith)
first_place first (suc count) some =
    let less : suc count - 1 ≡ count = omega arith in ap (λ n. first ∷ range_with_len (first + 1) n) (sym less)

-- the places from one on, with it in front
from_place : (place end : ℕ) → place < end → range_with_len place (end - place) ≡ place ∷ range_with_len (place + 1) (end - (place + 1))
from_place place end less =
    let left : (end - place) - 1 ≡ end - (place + 1) = omega arith in
    first_place place (end - place) (omega arith) ∙ ap (λ n. place ∷ range_with_len (place + 1) n) left

pub some_left : (left : ℕ) → left ≢ 0 → 0 < left
some_left zero none = absurd (none refl)
some_left (suc left) some = omega arith

-- the first place from one on that opens and passes, among so many that open
abbrev pub looked : (ℕ → Bool) → (ℕ → Bool) → ℕ → ℕ → ℕ → Option ℕ
looked opens test most place end = find test (take most (filter opens (range_with_len place (end - place))))

-- the two tests of `place_of`
abbrev pub is_opening : List ℕ → ℕ → Bool
is_opening text place = is_byte 123 (slice_get text place)

abbrev pub reads_so : List ℕ → List ℕ → ℕ → Bool
reads_so wanted text place = is_written wanted (written (drop place text))

pub looked_whole : (wanted text : List ℕ) → looked (is_opening text) (reads_so wanted text) most_objects 0 (length text) ≡ place_of wanted text
looked_whole wanted text =
    let whole : length text - 0 ≡ length text = omega arith in
    ap (λ n. find (reads_so wanted text) (take most_objects (filter (is_opening text) (range_with_len 0 n)))) whole

-- where nothing opens, nothing is looked at
pub closed_place : (opens test : ℕ → Bool) (most place end : ℕ) → place < end → opens place ≡ false
    → looked opens test most (place + 1) end ≡ looked opens test most place end
closed_place opens test most place end less shut =
    let there = range_with_len (place + 1) (end - (place + 1)) in
    let here : find test (take most (filter opens (place ∷ there))) ≡ find test (take most (filter opens there)) = rw shut refl in
    sym (ap (λ places. find test (take most (filter opens places))) (from_place place end less) ∙ here)

-- where something opens, it is looked at, and one less is left
open_place : (opens test : ℕ → Bool) (most place end : ℕ) → place < end → opens place ≡ true → 0 < most
    → looked opens test most place end ≡ cond (test place) (Some place) (looked opens test (most - 1) (place + 1) end)
open_place opens test zero place end less open_here some = absurd (omega arith)
open_place opens test (suc most) place end less open_here some =
    let there = range_with_len (place + 1) (end - (place + 1)) in
    let left : suc most - 1 ≡ most = omega arith in
    let here : find test (take (suc most) (filter opens (place ∷ there))) ≡ cond (test place) (Some place) (find test (take most (filter opens there))) =
    rw open_here refl in
    ap (λ places. find test (take (suc most) (filter opens places))) (from_place place end less)
    ∙ here
    ∙ ap (λ n. cond (test place) (Some place) (looked opens test n (place + 1) end)) (sym left)

pub other_place : (opens test : ℕ → Bool) (most place end : ℕ) → place < end → opens place ≡ true → 0 < most → test place ≡ false
    → looked opens test (most - 1) (place + 1) end ≡ looked opens test most place end
other_place opens test most place end less open_here some fails =
    sym (open_place opens test most place end less open_here some ∙ ap (λ b. cond b (Some place) (looked opens test (most - 1) (place + 1) end)) fails)

pub this_place : (opens test : ℕ → Bool) (most place end : ℕ) → place < end → opens place ≡ true → 0 < most → test place ≡ true
    → looked opens test most place end ≡ Some place
this_place opens test most place end less open_here some passes =
    open_place opens test most place end less open_here some ∙ ap (λ b. cond b (Some place) (looked opens test (most - 1) (place + 1) end)) passes

-- behind the last place nothing is found
pub no_place : (opens test : ℕ → Bool) (most place end : ℕ) → end ≤ place → looked opens test most place end ≡ None
no_place opens test most place end past =
    let none : end - place ≡ 0 = omega arith in
    ap (λ n. find test (take most (filter opens (range_with_len place n)))) none ∙ nothing most where
      nothing : (n : ℕ) → find test (take n []) ≡ None
      nothing zero = refl
      nothing (suc n) = refl

-- a brace is a character of one byte, and so a text can be cut there
pub opening_byte : (text : List ℕ) (place : ℕ) → is_byte 123 (slice_get text place) ≡ true → slice_index text place ≡ 123
opening_byte [] place opens = absurd (search (steps, opens))
opening_byte (byte ∷ text) zero opens = search (steps, arith, opens)
opening_byte (byte ∷ text) (suc place) opens = opening_byte text place opens

-- ---- numbers

get-numbers : (name : List ℕ) (j : Json) (o : Option Json) → HasNumbers j → get name j ≡ o → IfSome (unless_null o) HasNumbers
get-numbers name j None h e = tt
get-numbers name j (Some part) h e = by (is_null part) (HasNumbers-get name j part h (sym e)) where
  by : (b : Bool) → HasNumbers part → IfSome (cond b None (Some part)) HasNumbers
  by true n = tt
  by false n = n

given-numbers : (at : Field) (j : Json) → HasNumbers j → IfSome (given at j) HasNumbers
given-numbers at j h = get-numbers (key_of at) j (get (key_of at) j) h refl

then-numbers : (at : Field) (o : Option Json) → IfSome o HasNumbers → IfSome (option_and_then (given at) o) HasNumbers
then-numbers at None h = tt
then-numbers at (Some j) h = given-numbers at j h

or-numbers : (o p : Option Json) → IfSome o HasNumbers → IfSome p HasNumbers → IfSome (option_or o p) HasNumbers
or-numbers None p h k = k
or-numbers (Some j) p h k = h

unwrap-numbers : (o : Option Json) (j : Json) → IfSome o HasNumbers → HasNumbers j → HasNumbers (unwrap_or o j)
unwrap-numbers None j h k = k
unwrap-numbers (Some part) j h k = h

profile-numbers : (j : Json) → HasNumbers j → HasNumbers (profile_of_document j)
profile-numbers j h =
    unwrap-numbers (inside j) j
    (or-numbers (configured j) (given field.Spec j) (then-numbers field.Seccomp (given field.Linux j) (given-numbers field.Linux j h)) (given-numbers field.Spec j h)) h

items-numbers : (js : Items) → ItemsHaveNumbers js → All HasNumbers (list_of js)
items-numbers no_items h = All-nil HasNumbers
items-numbers (item j js) h = All-cons HasNumbers j (list_of js) h.0 (items-numbers js h.1)

array-numbers : (at : Field) (j : Json) → HasNumbers j → All HasNumbers (items_or_none (items_of_kind at (Some j)))
array-numbers at null h = All-nil HasNumbers
array-numbers at (boolean b) h = All-nil HasNumbers
array-numbers at (number s) h = All-nil HasNumbers
array-numbers at (string s) h = All-nil HasNumbers
array-numbers at (array js) h = items-numbers js h
array-numbers at (object ms) h = All-nil HasNumbers

kind-numbers : (at : Field) (o : Option Json) → IfSome o HasNumbers → All HasNumbers (items_or_none (items_of_kind at o))
kind-numbers at None h = All-nil HasNumbers
kind-numbers at (Some j) h = array-numbers at j h

list-numbers : (at : Field) (j : Json) → HasNumbers j → All HasNumbers (items_or_none (list_in at j))
list-numbers at j h = kind-numbers at (given at j) (given-numbers at j h)

some-numbers : (js : List Json) (nth : ℕ) → All HasNumbers js → IfSome (slice_get js nth) HasNumbers
some-numbers [] nth h = tt
some-numbers (j ∷ js) zero h = h 0 j (omega arith)
some-numbers (j ∷ js) (suc nth) h = some-numbers js nth (All-tail HasNumbers j js h)

if-numbers : (nth : ℕ) (o : Option (Result (List ℕ) Absence)) (j : Json) → HasNumbers j → IfSome (entry_if nth o j) HasNumbers
if-numbers nth None j h =
    some-numbers (items_or_none (list_in field.Syscalls (profile_of_document j))) nth
    (list-numbers field.Syscalls (profile_of_document j) (profile-numbers j h))
if-numbers nth (Some told) j h = tt

pub entry_numbers : (text : List ℕ) (nth : ℕ) (whole entry : Json) → IsDocument text whole → entry_in nth whole ≡ Some entry → HasNumbers entry
entry_numbers text nth whole entry h e =
    subst (λ o. IfSome o HasNumbers) e (if-numbers nth (text_inside whole) whole (document-HasNumbers text whole h.0))

-- ---- what is written alike is the same

same_value : (j k : Json) → HasNumbers j → HasNumbers k → print (json_tokens j) ≡ print (json_tokens k) → j ≡ k
same_value j k h g e =
    let tokens_alike : json_tokens j ≡ json_tokens k =
    sym (tokens-print (json_tokens j) (ArePrintable-json_tokens j h)) ∙ ap tokens e ∙ tokens-print (json_tokens k) (ArePrintable-json_tokens k g) in
    let d = depth j + depth k in
    let read : Some (j, []) ≡ Some (k, []) =
    sym (ap (value d) (sym (append-nil (json_tokens j))) ∙ value-json_tokens j d [] (omega arith))
    ∙ ap (value d) tokens_alike
    ∙ (ap (value d) (sym (append-nil (json_tokens k))) ∙ value-json_tokens k d [] (omega arith)) in
    ap (λ (p : Json × List Token). p.0) (Some_inj (j, []) (k, []) read)

-- what was found opens and passes
found : (opens test : ℕ → Bool) (most : ℕ) (places : List ℕ) (place : ℕ) → find test (take most (filter opens places)) ≡ Some place
    → (opens place ≡ true) × (test place ≡ true)
found opens test zero places place h = absurd (search (steps, h))
found opens test (suc most) [] place h = absurd (search (steps, h))
found opens test (suc most) (first ∷ places) place h =
    by (opens first) refl (test first) refl (found opens test (suc most) places place) (found opens test most places place) h where
      by : (b : Bool) → opens first ≡ b → (c : Bool) → test first ≡ c
          → (find test (take (suc most) (filter opens places)) ≡ Some place → (opens place ≡ true) × (test place ≡ true))
          → (find test (take most (filter opens places)) ≡ Some place → (opens place ≡ true) × (test place ≡ true))
          → find test (take (suc most) (cond b (first ∷ filter opens places) (filter opens places))) ≡ Some place
          → (opens place ≡ true) × (test place ≡ true)
      by false o c t same less e = same e
      by true o true t same less e =
          let here : find test (first ∷ take most (filter opens places)) ≡ Some first = rw t refl in
          let is : first ≡ place = Some_inj first place (sym here ∙ e) in
          (subst (λ p. opens p ≡ true) is o, subst (λ p. test p ≡ true) is t)
      by true o false t same less e =
          let here : find test (first ∷ take most (filter opens places)) ≡ find test (take most (filter opens places)) = rw t refl in less (sym here ∙ e)

get_behind : (text : List ℕ) (place : ℕ) → slice_get (drop place text) 0 ≡ slice_get text place
get_behind text zero = refl
get_behind [] (suc place) = refl
get_behind (byte ∷ text) (suc place) = get_behind text place

read_as : (text : List ℕ) (entry : Json) → HasNumbers entry → (o : Option (Json × List Token)) → value max_depth (tokens text) ≡ o
    → is_written (print (json_tokens entry)) (option_map (λ read. print (json_tokens read.0)) o) ≡ true → option_map (λ read. read.0) o ≡ Some entry
read_as text entry h None r w = absurd (true≢false (sym w))
read_as text entry h (Some (j, rest)) r w =
    let numbers : HasNumbers j = value-HasNumbers max_depth (tokens text) rest j (ArePrintableOrBad-tokens text) r in
    ap (λ k. Some k) (same_value j entry numbers h ((bytes_eq-Decides (print (json_tokens j)) (print (json_tokens entry))).0 w))

stands_at : (text : List ℕ) (entry : Json) (line : ℕ) → HasNumbers entry → (o : Option ℕ) → place_of (print (json_tokens entry)) text ≡ o
    → option_map (λ place. line_of (take place text)) o ≡ Some line → Stands text entry line
stands_at text entry line h None p e = absurd (search (steps, e))
stands_at text entry line h (Some place) p e =
    let wanted = print (json_tokens entry) in
    let both = found (is_opening text) (reads_so wanted text) most_objects (range_with_len 0 (length text)) place p in
    record {
      place = place;
      on = sym (search (steps, e));
      opens = ap (is_byte 123) (get_behind text place) ∙ both.0;
      reads = read_as (drop place text) entry h (value max_depth (tokens (drop place text))) refl both.1;
    }

pub lines_have_entries : LinesHaveEntries
lines_have_entries text nth whole entry line document e l =
    stands_at text entry line (entry_numbers text nth whole entry document e) (place_of (print (json_tokens entry)) text) refl
    (subst (λ o. option_and_then (line_in text) o ≡ Some line) e l)
