-- Numbers that are put among rising ones.
use Rattle.std.proofs.Common.{◌≡◌, ◌<◌, ◌≤◌, ◌+◌, ◌-◌, ◌^◌, ◌∙◌, ap, arith, refl, sym, inl, inr, ℕ, List, [], ◌∷◌, ◌++◌, length, length-append, append-nil, append_assoc, count_by, Bool, true, false, cond, ◌==◌, ◌||◌, subst}
use Rattle.std.proofs.lemmas.Bool.{cases_lt, eq-eqb, le-ltb, lt-ltb, ne_eqb}
use Rattle.std.proofs.lemmas.List.Sums.{sum_by-append, count_by-le-length}
use Rattle.std.specs.BTreeSet.{insert_key}
use Rattle.std.specs.List.{list_any}
use Rattle.std.specs.Ordering.{nat_cmp}
use Rattle.sk_text.specs.Lines.{lines_of}
use Rattle.sk_asm.proofs.Blocks.{length-lines_in}
use Rattle.sk_names.specs.declared.architecture.Architecture.{Architecture}
use Rattle.sk_replay.specs.declared.line.LogLine.{LogLine}
use Rattle.sk_replay.specs.declared.line.LogLine.TheVariants.{Made, Event, Unclear}
use Rattle.sk_replay.specs.Lines.{line_of}
use Rattle.sk_replay.specs.Logged.{RiseFrom, calls_in, has_number, is_among, is_call, is_made_in, numbers_in, numbers_with, onto_numbers}
use Rattle.sk_replay.specs.LoggedLaws.{NumbersAreMade, NumbersRise}
use Rattle.sk_replay.specs.Replaying.{is_unclear, unclear_in}

abbrev put : List ℕ → ℕ → List ℕ
put numbers nr = insert_key nat_cmp numbers nr

-- ---- where a number stands

put_below : (nr first : ℕ) (numbers : List ℕ) → nr < first → put (first ∷ numbers) nr ≡ nr ∷ first ∷ numbers
put_below nr first numbers less = let t = lt-ltb nr first less in rw t refl

put_there : (nr first : ℕ) (numbers : List ℕ) → nr ≡ first → put (first ∷ numbers) nr ≡ first ∷ numbers
put_there nr first numbers is = let f = le-ltb nr first (omega (arith, is)) in let same = eq-eqb nr first is in rw (f, same) refl

put_above : (nr first : ℕ) (numbers : List ℕ) → first < nr → put (first ∷ numbers) nr ≡ first ∷ put numbers nr
put_above nr first numbers more =
    let f = le-ltb nr first (omega (arith, more)) in
    let other = ne_eqb nr first (λ is. omega (arith, is, more)) in
    rw (f, other) refl

-- a number is below another one, the same, or above it
data Order (a b : ℕ) : Type 0 where
  below : a < b → Order a b
  equal : a ≡ b → Order a b
  above : b < a → Order a b

order : (a b : ℕ) → Order a b
order a b = elim (cases_lt a b) [
  | inl less ↦ below less
  | inr ge ↦ elim (cases_lt b a) [
    | inl more ↦ above more
    | inr le ↦ equal (omega (arith, ge, le))
  ]
]

-- ---- in which order numbers are put there is the same

put_first : (x a b : ℕ) (xs : List ℕ) → a < b → a < x → put (put (x ∷ xs) b) a ≡ a ∷ put (x ∷ xs) b
put_first x a b xs less front = elim (order b x) [
  | below lower ↦
      let is = put_below b x xs lower in
      ap (λ l. put l a) is ∙ put_below a b (x ∷ xs) less ∙ ap (λ l. a ∷ l) (sym is)
  | equal is_it ↦
      let is = put_there b x xs is_it in
      ap (λ l. put l a) is ∙ put_below a x xs front ∙ ap (λ l. a ∷ l) (sym is)
  | above higher ↦
      let is = put_above b x xs higher in
      ap (λ l. put l a) is ∙ put_below a x (put xs b) front ∙ ap (λ l. a ∷ l) (sym is)
]

swapped_less : (numbers : List ℕ) (a b : ℕ) → a < b → put (put numbers a) b ≡ put (put numbers b) a
swapped_less [] a b less = put_above b a [] less ∙ sym (put_below a b [] less)
swapped_less (x ∷ xs) a b less = elim (order a x) [
  | below front ↦ ap (λ l. put l b) (put_below a x xs front) ∙ put_above b a (x ∷ xs) less ∙ sym (put_first x a b xs less front)
  | equal is ↦
      let higher : x < b = omega (arith, is, less) in
      ap (λ l. put l b) (put_there a x xs is) ∙ put_above b x xs higher
      ∙ sym (ap (λ l. put l a) (put_above b x xs higher) ∙ put_there a x (put xs b) is)
  | above behind ↦
      let higher : x < b = omega (arith, behind, less) in
      ap (λ l. put l b) (put_above a x xs behind) ∙ put_above b x (put xs a) higher
      ∙ ap (λ l. x ∷ l) (swapped_less xs a b less)
      ∙ sym (ap (λ l. put l a) (put_above b x xs higher) ∙ put_above a x (put xs b) behind)
]

swapped : (numbers : List ℕ) (a b : ℕ) → put (put numbers a) b ≡ put (put numbers b) a
swapped numbers a b = elim (order a b) [
  | below less ↦ swapped_less numbers a b less
  | equal is ↦ ap (put (put numbers a)) (sym is) ∙ ap (λ n. put (put numbers n) a) is
  | above more ↦ sym (swapped_less numbers b a more)
]

onto_swapped : (one other : LogLine) (numbers : List ℕ) → onto_numbers one (onto_numbers other numbers) ≡ onto_numbers other (onto_numbers one numbers)
onto_swapped (Made call) (Made other) numbers = swapped numbers other.nr call.nr
onto_swapped (Made call) Event numbers = refl
onto_swapped (Made call) Unclear numbers = refl
onto_swapped Event other numbers = refl
onto_swapped Unclear other numbers = refl

onto_lines : (by : Architecture) (one : LogLine) (numbers : List ℕ) (lines : List (List ℕ)) → numbers_with by (onto_numbers one numbers) lines ≡ onto_numbers one (numbers_with by numbers lines)
onto_lines by one numbers [] = refl
onto_lines by one numbers (line ∷ lines) =
    ap (onto_numbers (line_of by line)) (onto_lines by one numbers lines) ∙ onto_swapped (line_of by line) one (numbers_with by numbers lines)

with_more : (by : Architecture) (numbers : List ℕ) (done : List (List ℕ)) (line : List ℕ) → numbers_with by numbers (done ++ line ∷ []) ≡ onto_numbers (line_of by line) (numbers_with by numbers done)
with_more by numbers [] line = refl
with_more by numbers (first ∷ done) line =
    ap (onto_numbers (line_of by first)) (with_more by numbers done line) ∙ onto_swapped (line_of by first) (line_of by line) (numbers_with by numbers done)

with_swapped : (by : Architecture) (numbers : List ℕ) (one other : List (List ℕ)) → numbers_with by (numbers_with by numbers one) other ≡ numbers_with by (numbers_with by numbers other) one
with_swapped by numbers [] other = refl
with_swapped by numbers (line ∷ one) other =
    onto_lines by (line_of by line) (numbers_with by numbers one) other ∙ ap (onto_numbers (line_of by line)) (with_swapped by numbers one other)

-- one log more
pub logs_more : (by : Architecture) (done : List (List ℕ)) (log : List ℕ) → numbers_in by (done ++ log ∷ []) ≡ numbers_with by (numbers_in by done) (lines_of log)
logs_more by [] log = refl
logs_more by (first ∷ done) log =
    ap (λ numbers. numbers_with by numbers (lines_of first)) (logs_more by done log) ∙ with_swapped by (numbers_in by done) (lines_of log) (lines_of first)

-- ---- which numbers are there

among_put : (nr other : ℕ) (numbers : List ℕ) → is_among nr (put numbers other) ≡ ((other == nr) || is_among nr numbers)
among_put nr other [] = refl
among_put nr other (first ∷ numbers) = elim (order other first) [
  | below less ↦ ap (is_among nr) (put_below other first numbers less)
  | equal is ↦
      ap (is_among nr) (put_there other first numbers is) ∙ again (first == nr) (is_among nr numbers)
      ∙ ap (λ n. (n == nr) || ((first == nr) || is_among nr numbers)) (sym is)
  | above more ↦
      ap (is_among nr) (put_above other first numbers more) ∙ ap (λ b. (first == nr) || b) (among_put nr other numbers)
      ∙ exchanged (first == nr) (other == nr) (is_among nr numbers)
]
  where
    again : (a b : Bool) → (a || b) ≡ (a || (a || b))
    again true b = refl
    again false b = refl

    exchanged : (a b c : Bool) → (a || (b || c)) ≡ (b || (a || c))
    exchanged true true c = refl
    exchanged true false c = refl
    exchanged false true c = refl
    exchanged false false c = refl

grouped : (a b c : Bool) → (a || (b || c)) ≡ ((a || b) || c)
grouped true b c = refl
grouped false b c = refl

among_onto : (nr : ℕ) (line : LogLine) (numbers : List ℕ) → is_among nr (onto_numbers line numbers) ≡ (has_number nr line || is_among nr numbers)
among_onto nr (Made call) numbers = among_put nr call.nr numbers
among_onto nr Event numbers = refl
among_onto nr Unclear numbers = refl

among_with : (by : Architecture) (nr : ℕ) (numbers : List ℕ) (lines : List (List ℕ))
    → is_among nr (numbers_with by numbers lines) ≡ (list_any (λ line. has_number nr (line_of by line)) lines || is_among nr numbers)
among_with by nr numbers [] = refl
among_with by nr numbers (line ∷ lines) =
    among_onto nr (line_of by line) (numbers_with by numbers lines)
    ∙ ap (λ b. has_number nr (line_of by line) || b) (among_with by nr numbers lines)
    ∙ grouped (has_number nr (line_of by line)) (list_any (λ l. has_number nr (line_of by l)) lines) (is_among nr numbers)

pub numbers_are_made : NumbersAreMade
numbers_are_made by [] nr = refl
numbers_are_made by (log ∷ logs) nr =
    among_with by nr (numbers_in by logs) (lines_of log) ∙ ap (λ b. is_made_in by nr log || b) (numbers_are_made by logs nr)

-- ---- they rise

put_rises : (from nr : ℕ) (numbers : List ℕ) → from ≤ nr → RiseFrom from numbers → RiseFrom from (put numbers nr)
put_rises from nr [] low rise = (low, tt)
put_rises from nr (first ∷ numbers) low rise = elim (order nr first) [
  | below less ↦ subst (RiseFrom from) (sym (put_below nr first numbers less)) (low, (omega (arith, less), rise.1))
  | equal is ↦ subst (RiseFrom from) (sym (put_there nr first numbers is)) rise
  | above more ↦ subst (RiseFrom from) (sym (put_above nr first numbers more)) (rise.0, put_rises (first + 1) nr numbers (omega (arith, more)) rise.1)
]

onto_rises : (line : LogLine) (numbers : List ℕ) → RiseFrom 0 numbers → RiseFrom 0 (onto_numbers line numbers)
onto_rises (Made call) numbers rise = put_rises 0 call.nr numbers (omega arith) rise
onto_rises Event numbers rise = rise
onto_rises Unclear numbers rise = rise

with_rises : (by : Architecture) (numbers : List ℕ) (lines : List (List ℕ)) → RiseFrom 0 numbers → RiseFrom 0 (numbers_with by numbers lines)
with_rises by numbers [] rise = rise
with_rises by numbers (line ∷ lines) rise = onto_rises (line_of by line) (numbers_with by numbers lines) (with_rises by numbers lines rise)

pub numbers_rise : NumbersRise
numbers_rise by [] = tt
numbers_rise by (log ∷ logs) = with_rises by (numbers_in by logs) (lines_of log) (numbers_rise by logs)

-- ---- one line after the other

-- the numbers of the lines that are done are there, and these were counted
pub record Added (by : Architecture) (old keys : List ℕ) (calls unclear : ℕ) (rest all : List (List ℕ)) : Type 0 where
  pub done : List (List ℕ)
  pub whole : done ++ rest ≡ all
  pub numbers : keys ≡ numbers_with by old done
  pub made : calls ≡ calls_in by done
  pub missed : unclear ≡ unclear_in by done

pub none_added : (by : Architecture) (old keys : List ℕ) (rest all : List (List ℕ)) → keys ≡ old → rest ≡ all → Added by old keys 0 0 rest all
none_added by old keys rest all is same = record { done = []; whole = same; numbers = is; made = refl; missed = refl }

module _ (by : Architecture) (old keys : List ℕ) (calls unclear : ℕ) (log line : List ℕ) (lines rest : List (List ℕ))
    (fits : length log < 2 ^ 64) (cut : lines ≡ line ∷ rest) (added : Added by old keys calls unclear lines (lines_of log)) where
  -- there are fewer lines than a number of 64 bits counts
  few_lines : (test : LogLine → Bool) (n : ℕ) → n ≡ count_by (λ line. test (line_of by line)) added.done → n < 2 ^ 64 - 1
  few_lines test n same =
      let most = count_by-le-length (λ line. test (line_of by line)) added.done in
      let bytes = length-lines_in false log in
      let both = ap length added.whole in
      let parts = length-append added.done lines in
      let one = ap length cut in
      omega (arith, most, same, bytes, both, parts, one)

  pub few_calls : calls < 2 ^ 64 - 1
  few_calls = few_lines is_call calls added.made

  pub few_unclear : unclear < 2 ^ 64 - 1
  few_unclear = few_lines is_unclear unclear added.missed

  more_of : (test : LogLine → Bool) (n one : ℕ) (said : LogLine) → said ≡ line_of by line → n ≡ count_by (λ line. test (line_of by line)) added.done → one ≡ cond (test said) 1 0
      → n + one ≡ count_by (λ line. test (line_of by line)) (added.done ++ line ∷ [])
  more_of test n one said is same is_one =
      let here : one ≡ cond (test (line_of by line)) 1 0 = is_one ∙ ap (λ l. cond (test l) 1 0) is in
      let more : count_by (λ line. test (line_of by line)) (added.done ++ line ∷ []) ≡ count_by (λ line. test (line_of by line)) added.done + (0 + cond (test (line_of by line)) 1 0) =
      sum_by-append (λ l. cond (test (line_of by l)) 1 0) added.done (line ∷ []) in
      omega (arith, here, same, more)

  pub one_more_line : (said : LogLine) (after : List ℕ) (c u : ℕ) → said ≡ line_of by line → after ≡ onto_numbers said keys → c ≡ cond (is_call said) 1 0 → u ≡ cond (is_unclear said) 1 0
      → Added by old after (calls + c) (unclear + u) rest (lines_of log)
  one_more_line said after c u is put_there call missing = record {
    done = added.done ++ line ∷ [];
    whole = append_assoc added.done (line ∷ []) rest ∙ ap (λ l. added.done ++ l) (sym cut) ∙ added.whole;
    numbers = put_there ∙ ap (onto_numbers said) added.numbers ∙ ap (λ l. onto_numbers l (numbers_with by old added.done)) is ∙ sym (with_more by old added.done line);
    made = more_of is_call calls c said is added.made call;
    missed = more_of is_unclear unclear u said is added.missed missing;
  }

module _ (by : Architecture) (old keys : List ℕ) (calls unclear : ℕ) (rest all : List (List ℕ)) (none : rest ≡ []) (added : Added by old keys calls unclear rest all) where
  all_done : added.done ≡ all
  all_done = sym (append-nil added.done) ∙ ap (λ l. added.done ++ l) (sym none) ∙ added.whole

  pub all_numbers : keys ≡ numbers_with by old all
  all_numbers = added.numbers ∙ ap (numbers_with by old) all_done

  pub all_calls : calls ≡ calls_in by all
  all_calls = added.made ∙ ap (calls_in by) all_done

  pub all_unclear : unclear ≡ unclear_in by all
  all_unclear = added.missed ∙ ap (unclear_in by) all_done
