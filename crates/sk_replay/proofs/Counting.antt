-- The lines of a log, counted one after the other.
use Rattle.std.proofs.Common.{◌≡◌, ◌<◌, ◌≤◌, ◌+◌, ◌-◌, ◌^◌, ◌∙◌, ap, arith, refl, sym, ℕ, List, [], ◌∷◌, ◌++◌, length, length-append, append-nil, append_assoc, count_by, take, nat_lt, if◌then◌else◌, inl, inr, length-take, Bool, true, false, cond}
use Rattle.std.proofs.lemmas.Bool.{cases_lt, lt-ltb, le-ltb}
use Rattle.std.proofs.lemmas.List.{take_all, take-append-le}
use Rattle.std.proofs.lemmas.List.Sums.{sum_by-append, count_by-le-length}
use Rattle.sk_text.specs.Lines.{lines_of}
use Rattle.sk_asm.proofs.Blocks.{length-lines_in}
use Rattle.sk_names.specs.declared.architecture.Architecture.{Architecture}
use Rattle.sk_replay.specs.declared.call.Call.{Call}
use Rattle.sk_replay.specs.declared.line.LogLine.{LogLine}
use Rattle.sk_replay.specs.declared.line.LogLine.TheVariants.{Made, Event, Unclear}
use Rattle.sk_replay.specs.Lines.{line_of}
use Rattle.sk_replay.specs.Replaying.{onto_calls, onto_numbers, calls_of, is_event, is_unclear, events_in, unclear_from, unclear_in, unclear_lines, tallied, times_of, with_line, with_number}
use Rattle.sk_replay.proofs.Tallies.{tallied_more, times_within}

onto_append : (line : LogLine) (xs ys : List Call) → onto_calls line (xs ++ ys) ≡ onto_calls line xs ++ ys
onto_append (Made call) xs ys = refl
onto_append Event xs ys = refl
onto_append Unclear xs ys = refl

calls_more : (by : Architecture) (done : List (List ℕ)) (line : List ℕ) → calls_of by (done ++ line ∷ []) ≡ calls_of by done ++ onto_calls (line_of by line) []
calls_more by [] line = refl
calls_more by (first ∷ done) line =
    ap (onto_calls (line_of by first)) (calls_more by done line) ∙ onto_append (line_of by first) (calls_of by done) (onto_calls (line_of by line) [])

onto_length : (line : LogLine) (calls : List Call) → length (onto_calls line calls) ≤ 1 + length calls
onto_length (Made call) calls = omega arith
onto_length Event calls = omega arith
onto_length Unclear calls = omega arith

calls_length : (by : Architecture) (lines : List (List ℕ)) → length (calls_of by lines) ≤ length lines
calls_length by [] = omega arith
calls_length by (line ∷ lines) =
    let rest = calls_length by lines in
    let one = onto_length (line_of by line) (calls_of by lines) in
    omega arith

with_more : (line : LogLine) (calls : List Call) → with_line line (tallied calls) ≡ tallied (calls ++ onto_calls line [])
with_more (Made call) calls = tallied_more calls call
with_more Event calls = ap tallied (sym (append-nil calls))
with_more Unclear calls = ap tallied (sym (append-nil calls))

-- what was counted is what the lines say that are done
pub record Counted (by : Architecture) (entries : List (Call × ℕ)) (events unclear : ℕ) (numbers : List ℕ) (number : ℕ) (rest all : List (List ℕ)) : Type 0 where
  pub done : List (List ℕ)
  pub whole : done ++ rest ≡ all
  pub calls : entries ≡ tallied (calls_of by done)
  pub ended : events ≡ events_in by done
  pub missed : unclear ≡ unclear_in by done
  pub noted : numbers ≡ unclear_lines by done
  pub next : number ≡ length done

pub begun : (by : Architecture) (entries : List (Call × ℕ)) (numbers : List ℕ) (rest all : List (List ℕ)) → entries ≡ [] → numbers ≡ [] → rest ≡ all → Counted by entries 0 0 numbers 0 rest all
begun by entries numbers rest all none nothing same = record { done = []; whole = same; calls = none; ended = refl; missed = refl; noted = nothing; next = refl }

-- ---- numbers of lines

onto_more : (number : ℕ) (line : LogLine) (xs ys : List ℕ) → onto_numbers number line (xs ++ ys) ≡ onto_numbers number line xs ++ ys
onto_more number (Made call) xs ys = refl
onto_more number Event xs ys = refl
onto_more number Unclear xs ys = refl

numbers_more : (by : Architecture) (first : ℕ) (done : List (List ℕ)) (line : List ℕ)
    → unclear_from by first (done ++ line ∷ []) ≡ unclear_from by first done ++ onto_numbers (first + length done) (line_of by line) []
numbers_more by first [] line = let same : first ≡ first + 0 = omega arith in ap (λ n. onto_numbers n (line_of by line) []) same
numbers_more by first (one ∷ done) line =
    let same : first + 1 + length done ≡ first + length (one ∷ done) = omega arith in
    ap (onto_numbers first (line_of by one)) (numbers_more by (first + 1) done line)
    ∙ onto_more first (line_of by one) (unclear_from by (first + 1) done) (onto_numbers (first + 1 + length done) (line_of by line) [])
    ∙ ap (λ n. onto_numbers first (line_of by one) (unclear_from by (first + 1) done) ++ onto_numbers n (line_of by line) []) same

-- eight of a list, and one more behind it
one_or_none : (number : ℕ) (line : LogLine) → length (onto_numbers number line []) ≤ 1
one_or_none number (Made call) = omega arith
one_or_none number Event = omega arith
one_or_none number Unclear = omega arith

with_one : (xs ys : List ℕ) → length ys ≤ 1 → (if nat_lt (length (take 8 xs)) 8 then take 8 xs ++ ys else take 8 xs) ≡ take 8 (xs ++ ys)
with_one xs ys few = elim (cases_lt (length xs) 8) [
  | inl lt ↦
      let all = take_all 8 xs (omega (arith, lt)) in
      let t = lt-ltb (length xs) 8 lt in
      let lens = length-append xs ys in
      let both = take_all 8 (xs ++ ys) (omega (arith, lt, few, lens)) in
      rw (all, t, both) refl
  | inr ge ↦
      let len = length-take 8 xs in
      let f = le-ltb (length (take 8 xs)) 8 (omega (arith, len, ge)) in
      let same = take-append-le 8 xs ys ge in
      rw (f, same) refl
]

module _ (by : Architecture) (entries : List (Call × ℕ)) (events unclear : ℕ) (numbers : List ℕ) (number : ℕ) (log line : List ℕ) (lines rest : List (List ℕ))
    (fits : length log < 2 ^ 64) (cut : lines ≡ line ∷ rest) (counted : Counted by entries events unclear numbers number lines (lines_of log)) where
  -- there are fewer lines than a number of 64 bits counts
  few : length counted.done < 2 ^ 64 - 1
  few =
      let bytes = length-lines_in false log in
      let both = ap length counted.whole in
      let parts = length-append counted.done lines in
      let one = ap length cut in
      omega (arith, bytes, both, parts, one)

  pub room : (call : Call) → times_of entries call < 2 ^ 64 - 1
  room call =
      let times = ap (λ l. times_of l call) counted.calls in
      let most = times_within (calls_of by counted.done) call in
      let made = calls_length by counted.done in
      let fewer = few in
      omega (arith, times, most, made, fewer)

  few_of : (test : LogLine → Bool) (n : ℕ) → n ≡ count_by (λ line. test (line_of by line)) counted.done → n < 2 ^ 64 - 1
  few_of test n same =
      let most = count_by-le-length (λ line. test (line_of by line)) counted.done in
      let fewer = few in
      omega (arith, most, same, fewer)

  pub few_events : events < 2 ^ 64 - 1
  few_events = few_of is_event events counted.ended

  pub few_unclear : unclear < 2 ^ 64 - 1
  few_unclear = few_of is_unclear unclear counted.missed

  pub next_fits : number + 1 < 2 ^ 64
  next_fits =
      let fewer = few in
      let now = counted.next in
      omega (arith, fewer, now)

  place : number + 1 ≡ 1 + length counted.done
  place = let now = counted.next in omega (arith, now)

  pub turned : (said : LogLine) (after : List (Call × ℕ)) (more : List ℕ) (e u : ℕ) → said ≡ line_of by line → after ≡ with_line said entries → more ≡ with_number numbers (number + 1) said
      → e ≡ cond (is_event said) 1 0 → u ≡ cond (is_unclear said) 1 0
      → Counted by after (events + e) (unclear + u) more (number + 1) rest (lines_of log)
  turned said after more e u is counted_call numbered event missing = record {
    done = counted.done ++ line ∷ [];
    whole = append_assoc counted.done (line ∷ []) rest ∙ ap (λ l. counted.done ++ l) (sym cut) ∙ counted.whole;
    calls =
        counted_call ∙ ap (with_line said) counted.calls ∙ with_more said (calls_of by counted.done)
        ∙ ap (λ l. tallied (calls_of by counted.done ++ onto_calls l [])) is ∙ ap tallied (sym (calls_more by counted.done line));
    ended =
        let one : e ≡ cond (is_event (line_of by line)) 1 0 = event ∙ ap (λ l. cond (is_event l) 1 0) is in
        let same = counted.ended in
        let more : events_in by (counted.done ++ line ∷ []) ≡ events_in by counted.done + (0 + cond (is_event (line_of by line)) 1 0) =
        sum_by-append (λ l. cond (is_event (line_of by l)) 1 0) counted.done (line ∷ []) in
        omega (arith, one, same, more);
    missed =
        let one : u ≡ cond (is_unclear (line_of by line)) 1 0 = missing ∙ ap (λ l. cond (is_unclear l) 1 0) is in
        let same = counted.missed in
        let more : unclear_in by (counted.done ++ line ∷ []) ≡ unclear_in by counted.done + (0 + cond (is_unclear (line_of by line)) 1 0) =
        sum_by-append (λ l. cond (is_unclear (line_of by l)) 1 0) counted.done (line ∷ []) in
        omega (arith, one, same, more);
    noted =
        numbered ∙ (λ i. with_number (counted.noted i) (place i) (is i))
        ∙ with_one (unclear_from by 1 counted.done) (onto_numbers (1 + length counted.done) (line_of by line) []) (one_or_none (1 + length counted.done) (line_of by line))
        ∙ sym (ap (take 8) (numbers_more by 1 counted.done line));
    next =
        let now = counted.next in
        let longer = length-append counted.done (line ∷ []) in
        omega (arith, now, longer);
  }

module _ (by : Architecture) (entries : List (Call × ℕ)) (events unclear : ℕ) (numbers : List ℕ) (number : ℕ) (rest all : List (List ℕ))
    (none : rest ≡ []) (counted : Counted by entries events unclear numbers number rest all) where
  all_done : counted.done ≡ all
  all_done = sym (append-nil counted.done) ∙ ap (λ l. counted.done ++ l) (sym none) ∙ counted.whole

  pub all_calls : entries ≡ tallied (calls_of by all)
  all_calls = counted.calls ∙ ap (λ l. tallied (calls_of by l)) all_done

  pub all_events : events ≡ events_in by all
  all_events = counted.ended ∙ ap (events_in by) all_done

  pub all_unclear : unclear ≡ unclear_in by all
  all_unclear = counted.missed ∙ ap (unclear_in by) all_done

  pub all_numbers : numbers ≡ unclear_lines by all
  all_numbers = counted.noted ∙ ap (unclear_lines by) all_done

-- one line more still fits
pub sum_fits : (count one : ℕ) (test : Bool) → count < 2 ^ 64 - 1 → one ≡ cond test 1 0 → count + one < 2 ^ 64
sum_fits count one true few is = omega (arith, few, is)
sum_fits count one false few is = omega (arith, few, is)
