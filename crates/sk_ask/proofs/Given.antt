-- What is told of files is told of those that were given.
use Rattle.std.proofs.Common.{◌≡◌, ◌<◌, ◌≤◌, ◌+◌, ℕ, List, [], ◌∷◌, length, length-append, nat_lt, ◌==◌, Option, Some, None, Result, Ok, Err, arith, sym, subst, inl, inr}
use Rattle.std.specs.Bool.{⊤}
use Rattle.std.specs.List.{All}
use Rattle.std.proofs.lemmas.Bool.{cases_Bool}
use Rattle.std.proofs.lemmas.List.Elements.{All-append, All-cons, All-nil}
use Rattle.std.proofs.lemmas.Option.{unwrap_or-slice_get}
use Rattle.sk_insn.specs.declared.insn.Insn.{Insn}
use Rattle.sk_insn.specs.Instructions.{image_instructions}
use Rattle.sk_text.specs.Lines.{lines_of, words_of}
use Rattle.sk_text.specs.Hexadecimal.{hex_text_bytes}
use Rattle.sk_engines.specs.declared.filters.Refusal.{Refusal}
use Rattle.sk_engines.specs.Filters.{chained, image_attached}
use Rattle.sk_ask.specs.declared.fault.FileFault.TheVariants.{Line}
use Rattle.sk_ask.specs.declared.fault.LineFault.{LineFault}
use Rattle.sk_ask.specs.declared.fault.Refused.{Refused}
use Rattle.sk_ask.specs.declared.form.Form.{Form}
use Rattle.sk_ask.specs.declared.form.Form.TheVariants as form
use Rattle.sk_ask.specs.declared.found.Place.{Place}
use Rattle.sk_ask.specs.Filters.{Filters, no_filters, with_filter, with_line, with_lines, some_more, with_digits, with_file, with_files, filters_in, place_at, as_chain, chain_of}
use Rattle.sk_ask.specs.Forms.{form_of, without_returns}
use Rattle.sk_ask.specs.Lines.{says}
use Rattle.sk_ask.specs.declared.found.Found.{Found}
use Rattle.sk_ask.specs.Finding.{filters_of}
use Rattle.sk_ask.specs.Answers.{Finds, found_in}
use Rattle.sk_ask.specs.Given.{ArePlaced, AreGiven, IsGiven}

-- ---- steps

then_given : (count : ℕ) (r : Result Filters Refused) (next : Filters → Result Filters Refused) → AreGiven count r → ((more : Filters) → ArePlaced count more → AreGiven count (next more)) → AreGiven count (elim r [ Err refused ↦ Err refused | Ok more ↦ next more ])
then_given count (Err refused) next h go = h
then_given count (Ok more) next h go = go more h

with_filter_given : (count : ℕ) (found : Filters) (place : Place) (image : List ℕ) → ArePlaced count found → place.file < count → AreGiven count (with_filter found place image)
with_filter_given count found place image h lt = elim (cases_Bool (nat_lt (length found.images) 32)) [
  | inl t ↦
      rw t (record {
        paired =
            let places = length-append found.places (place ∷ []) in
            let images = length-append found.images (image ∷ []) in
            let same = h.paired in
            omega (arith, places, images, same);
        given = All-append (λ p. p.file < count) found.places (place ∷ []) h.given (All-cons (λ p. p.file < count) place [] lt (All-nil (λ p. p.file < count)));
      })
  | inr f ↦ rw f lt
]

-- ---- one file

module _ (count file : ℕ) (lt : file < count) where
  line_given : (number : ℕ) (found : Filters) (said : Result (Option (List ℕ)) LineFault) → ArePlaced count found
      → AreGiven count (elim said [
        | Err fault ↦ Err (record { file = file; why = Line number fault })
        | Ok said ↦ elim said [
          | None ↦ Ok found
          | Some image ↦ with_filter found (record { file = file; line = Some number }) image
        ]
      ])
  line_given number found (Err fault) h = lt
  line_given number found (Ok None) h = h
  line_given number found (Ok (Some image)) h = with_filter_given count found (record { file = file; line = Some number }) image h lt

  lines_given : (number : ℕ) (found : Filters) (lines : List (List ℕ)) → ArePlaced count found → AreGiven count (with_lines file number found lines)
  lines_given number found [] h = h
  lines_given number found (line ∷ lines) h =
      then_given count (with_line file number found (words_of line)) (λ more. with_lines file (number + 1) more lines)
      (line_given number found (says (words_of line)) h) (λ more placed. lines_given (number + 1) more lines placed)

  some_given : (before : ℕ) (r : Result Filters Refused) → AreGiven count r → AreGiven count (some_more file before r)
  some_given before (Err refused) h = h
  some_given before (Ok found) h = elim (cases_Bool (length found.images == before)) [
    | inl t ↦ rw t lt
    | inr f ↦ rw f h
  ]

  digits_given : (found : Filters) (bytes : Option (List ℕ)) → ArePlaced count found → AreGiven count (with_digits file found bytes)
  digits_given found None h = lt
  digits_given found (Some []) h = lt
  digits_given found (Some (byte ∷ bytes)) h = with_filter_given count found (record { file = file; line = None }) (byte ∷ bytes) h lt

  form_given : (found : Filters) (bytes : List ℕ) (f : Form) → ArePlaced count found
      → AreGiven count (elim f [
        | form.Raw ↦ with_filter found (record { file = file; line = None }) bytes
        | form.Digits ↦ with_digits file found (hex_text_bytes (without_returns bytes))
        | form.Lines ↦ some_more file (length found.images) (with_lines file 1 found (lines_of (without_returns bytes)))
      ])
  form_given found bytes form.Raw h = with_filter_given count found (record { file = file; line = None }) bytes h lt
  form_given found bytes form.Digits h = digits_given found (hex_text_bytes (without_returns bytes)) h
  form_given found bytes form.Lines h =
      some_given (length found.images) (with_lines file 1 found (lines_of (without_returns bytes)))
      (lines_given 1 found (lines_of (without_returns bytes)) h)

-- ---- files

files_given : (count number : ℕ) (found : Filters) (files : List (List ℕ)) → number + length files ≤ count → ArePlaced count found → AreGiven count (with_files number found files)
files_given count number found [] fits h = h
files_given count number found (file ∷ files) fits h =
    then_given count (with_file number found file) (λ more. with_files (number + 1) more files)
    (form_given count number (omega arith) found file (form_of file) h)
    (λ more placed. files_given count (number + 1) more files (omega arith) placed)

pub filters_given : (files : List (List ℕ)) → AreGiven (length files) (filters_in files)
filters_given files =
    files_given (length files) 0 no_filters files (omega arith) (record { paired = omega arith; given = All-nil (λ p. p.file < length files) })

-- ---- their chain

abbrev IsBelow : ℕ → Result (List (List Insn)) (ℕ × Refusal) → Type 0
IsBelow most (Ok chain) = ⊤
IsBelow most (Err (number, why)) = number < most

attached_below : (most number : ℕ) (r : Result (List (List Insn)) Refusal) (next : List (List Insn) → Result (List (List Insn)) (ℕ × Refusal)) → number < most → ((chain : List (List Insn)) → IsBelow most (next chain)) → IsBelow most (elim r [ Err refusal ↦ Err (number, refusal) | Ok chain ↦ next chain ])
attached_below most number (Err refusal) next lt go = lt
attached_below most number (Ok chain) next lt go = go chain

chained_below : (most number : ℕ) (chain : List (List Insn)) (images : List (List ℕ)) → number + length images ≤ most → IsBelow most (chained number chain images)
chained_below most number chain [] fits = tt
chained_below most number chain (image ∷ images) fits =
    attached_below most number (image_attached chain (image_instructions image)) (λ next. chained (number + 1) next images)
    (omega arith) (λ next. chained_below most (number + 1) next images (omega arith))

as_chain_given : (count : ℕ) (places : List Place) (r : Result (List (List Insn)) (ℕ × Refusal)) → All (λ p. p.file < count) places → IsBelow (length places) r → IsGiven count (as_chain places r)
as_chain_given count places (Ok chain) given below = tt
as_chain_given count places (Err (number, why)) given below =
    let nowhere : Place = record { file = 0; line = None } in
    let same = unwrap_or-slice_get places number nowhere in
    rw same (given number nowhere below)

pub chain_given : (count : ℕ) (found : Filters) → ArePlaced count found → IsGiven count (chain_of found)
chain_given count found placed =
    let same = placed.paired in
    as_chain_given count found.places (chained 0 [] found.images) placed.given
    (chained_below (length found.places) 0 [] found.images (omega (arith, same)))

-- ---- what the code's answers say

pub found_given : (files : List (List ℕ)) (r : Result Found Refused) (count : ℕ) → count ≡ length files → Finds r (filters_in files) → AreGiven count (found_in r)
found_given files (Ok found) count same is =
    let all = filters_given files in
    let placed : ArePlaced (length files) (filters_of found) = rw is at all in
    subst (λ n. ArePlaced n (filters_of found)) (sym same) placed
found_given files (Err refused) count same is =
    let all = filters_given files in
    let given : refused.file < length files = rw is at all in
    omega (arith, same, given)

pub refused_below : (images : List (List ℕ)) (number : ℕ) (why : Refusal) → Err (number, why) ≡ chained 0 [] images → number < length images
refused_below images number why is =
    let below = chained_below (length images) 0 [] images (omega arith) in
    rw (← is) at below

pub place_given : (count : ℕ) (places : List Place) (number : ℕ) (place : Place) → place ≡ place_at places number → number < length places → All (λ p. p.file < count) places → place.file < count
place_given count places number place is below given =
    let nowhere : Place = record { file = 0; line = None } in
    let same = unwrap_or-slice_get places number nowhere in
    let at : (place_at places number).file < count = rw same (given number nowhere below) in
    rw is at
