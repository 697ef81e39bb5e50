-- The fault of one step of the reading is what is wrong with its line.
use Rattle.std.proofs.Common.{◌≡◌, ◌+◌, ◌∙◌, refl, sym, ℕ, List, [], ◌∷◌, ◌++◌, Option, Some, None, is_some, Result, Ok, Err, Bool, true, false, not, ◌&&◌, cond, length, nat_eq, nat_le, nat_lt, inl, inr, length-append, filter}
use Rattle.sk_scenario.proofs.Common.{cases_Bool, option_map_or, list_all, list_any, words_of, begins_comment, is_printable_byte, is_end, until_end, labelled, assembled_lines, ScriptCall, TextFault, Line, Unresolved, Limit, Silent, Turns, Subreapers, Filter, Program, Heading, Alone, Opens, heading_of, begins_bytes, bytes_of, Asked, asked_of, Script, Names, named_by, call_of, ◌>>=◌, with_call, plain, understood, checked, Gained, Open, Nothing, Undecided, Bytes, Code, Calls, remarked, given, opened, started, limited, coded, grown, decided, resolved, called, inside, within, stepped, Wrong, Excess, Malformed, Beyond, Nameless, Place, AtTop, InFilter, InBytes, InCode, InCalls, is_turns, is_subreapers, is_filter, is_program, gives, repeats, exceeds, is_too_long, is_wrong_at_top, is_wrong_in_bytes, is_code, is_nameless, is_wrong_in_calls, is_wrong, begins_code}
use Rattle.sk_asm.specs.Passes.{checked as asm_checked}
use Rattle.sk_scenario.proofs.Steps.{kind}

-- the fault of a step, if it has one
abbrev pub fault_in : {X : Type 0} → Result X TextFault → Option TextFault
fault_in (Ok value) = None
fault_in (Err fault) = Some fault

-- a reading that knows no names passes over the faults of names
abbrev pub counts : Option Names → Wrong → Bool
counts None Excess = true
counts None Malformed = true
counts None Beyond = true
counts None Nameless = false
counts (Some names) wrong = true

-- the first thing that is wrong with line n
abbrev pub tried : Option Names → ℕ → (Wrong → Bool) → Option TextFault
tried known n bad =
    cond (bad Excess) (Some (Limit n)) (cond (bad Malformed) (Some (Line n)) (cond (bad Beyond) (Some (Limit n)) (cond (bad Nameless && counts known Nameless) (Some (Unresolved n)) None)))

-- ---- the top level

-- what was gained is what the lines at the top level said
pub record Matches (d : Gained) (filters programs : ℕ) (said : List Heading) : Type 0 where
  pub turns : is_some d.turns ≡ list_any is_turns said
  pub subreapers : d.subreapers ≡ list_any is_subreapers said
  pub names : (name : List ℕ) → is_some (named_by d.names name) ≡ list_any (gives name) said
  pub filter_count : filters ≡ length (filter is_filter said)
  pub program_count : programs ≡ length (filter is_program said)

module _ (known : Option Names) (n : ℕ) (d : Gained) (said : List Heading) (m : Matches d (length d.filters) (length d.programs) said) where
  -- a line that is short and printable, by what it says
  judged_heading : (o : Option Heading)
      → fault_in (understood n o >>= λ heading. started n d heading)
      ≡ cond (option_map_or (repeats said) o true) (Some (Line n)) (cond (option_map_or (exceeds said) o false) (Some (Limit n)) None)
  unfolding started remarked opened given
  judged_heading None = refl
  judged_heading (Some (Alone Silent)) = refl
  judged_heading (Some (Alone (Turns t))) = rw (m.turns) (elim (cases_Bool (list_any is_turns said)) [
    | inl again ↦ rw again refl
    | inr once ↦ rw once (elim (cases_Bool (nat_le 1 t)) [
      | inr low ↦ rw low refl
      | inl some ↦ rw some (elim (cases_Bool (nat_le t 100000)) [ inl few ↦ rw few refl | inr many ↦ rw many refl ])
    ])
  ])
  judged_heading (Some (Alone Subreapers)) = rw (m.subreapers) (elim (cases_Bool (list_any is_subreapers said)) [ inl again ↦ rw again refl | inr once ↦ rw once refl ])
  judged_heading (Some (Opens (Filter name))) = rw (m.names name, m.filter_count) (elim (cases_Bool (list_any (gives name) said)) [
    | inl again ↦ rw again refl
    | inr once ↦ rw once (elim (cases_Bool (nat_lt (length (filter is_filter said)) 256)) [ inl room ↦ rw room refl | inr full ↦ rw full refl ])
  ])
  judged_heading (Some (Opens (Program name owner setuid))) = rw (m.names name, m.program_count) (elim (cases_Bool (list_any (gives name) said)) [
    | inl again ↦ rw again refl
    | inr once ↦ rw once (elim (cases_Bool (nat_lt (length (filter is_program said)) 256)) [ inl room ↦ rw room refl | inr full ↦ rw full refl ])
  ])

  judged_top : (line : List ℕ) → fault_in (checked heading_of n line >>= λ heading. started n d heading) ≡ tried known n (is_wrong_at_top said line)
  unfolding checked
  judged_top line = elim (cases_Bool (is_too_long line)) [
    | inl long ↦ rw long refl
    | inr short ↦ rw short (elim (cases_Bool (list_all is_printable_byte line)) [
      | inr bad ↦ rw bad refl
      | inl good ↦ rw good (judged_heading (heading_of line))
    ])
  ]

-- ---- a block of bytes

judged_bytes_said : (known : Option Names) (n : ℕ) (image : List ℕ) (o : Option (List ℕ))
    → fault_in (understood n o >>= λ bytes. limited n (image ++ bytes))
    ≡ cond (not (is_some o)) (Some (Line n)) (cond (nat_lt 32776 (length image + option_map_or length o 0)) (Some (Limit n)) None)
judged_bytes_said known n image None = refl
judged_bytes_said known n image (Some bytes) = rw (sym (length-append image bytes)) (elim (cases_Bool (nat_lt 32776 (length (image ++ bytes)))) [ inl long ↦ rw long refl | inr short ↦ rw short refl ])

judged_bytes : (known : Option Names) (n : ℕ) (image line : List ℕ) → fault_in (grown n image line) ≡ tried known n (is_wrong_in_bytes (length image) line)
unfolding checked
judged_bytes known n image line = elim (cases_Bool (is_too_long line)) [
  | inl long ↦ rw long refl
  | inr short ↦ rw short (elim (cases_Bool (list_all is_printable_byte line)) [
    | inr bad ↦ rw bad refl
    | inl good ↦ rw good (judged_bytes_said known n image (bytes_of line))
  ])
]

-- ---- a program's block

-- the names that are known, if any are
abbrev pub AreThese : Names → Option Names → Type 0
AreThese names None = Unit {0}
AreThese names (Some others) = others ≡ names

module _ (n : ℕ) (script : Script) (names : Names) where
  judged_call : (known : Option Names) → AreThese names known → (o : Option (Option Asked))
      → fault_in (understood n o >>= λ asked. called known n script asked >>= λ next. Ok (Calls next))
      ≡ cond (not (is_some o)) (Some (Line n))
      (cond (option_map_or is_some o false && not (nat_lt (length script.calls) 1000)) (Some (Limit n))
      (cond (is_nameless names o && counts known Nameless) (Some (Unresolved n)) None))
  unfolding called resolved
  judged_call None these None = refl
  judged_call (Some others) these None = refl
  judged_call None these (Some None) = refl
  judged_call (Some others) these (Some None) = refl
  judged_call None these (Some (Some asked)) = elim (cases_Bool (nat_lt (length script.calls) 1000)) [
    | inr full ↦ rw full refl
    | inl room ↦ rw room (elim (cases_Bool (is_some (call_of names asked))) [ inl t ↦ rw t refl | inr f ↦ rw f refl ])
  ]
  judged_call (Some others) these (Some (Some asked)) = elim (cases_Bool (nat_lt (length script.calls) 1000)) [
    | inr full ↦ rw full refl
    | inl room ↦ rw (room, these) (found (call_of names asked))
  ]
    where
      found : (o : Option ScriptCall)
          → fault_in ((option_map_or Ok o (Err (Unresolved n)) >>= λ call. Ok (with_call script call)) >>= λ next. Ok (Calls next))
          ≡ cond (not (is_some o) && true) (Some (Unresolved n)) None
      found None = refl
      found (Some call) = refl

  judged_calls : (known : Option Names) → AreThese names known → (line : List ℕ)
      → fault_in (checked asked_of n line >>= λ asked. called known n script asked >>= λ next. Ok (Calls next))
      ≡ tried known n (is_wrong_in_calls names (length script.calls) line)
  unfolding checked
  judged_calls known these line = elim (cases_Bool (is_too_long line)) [
    | inl long ↦ rw long refl
    | inr short ↦ rw short (elim (cases_Bool (list_all is_printable_byte line)) [
      | inr bad ↦ rw bad refl
      | inl good ↦ rw good (judged_call known these (asked_of line))
    ])
  ]

-- ---- a filter's block whose lines said nothing so far

abbrev pub first_of : Option TextFault → Option TextFault → Option TextFault
first_of None other = other
first_of (Some fault) other = Some fault

comment_bytes : (line : List ℕ) → begins_comment (words_of line) ≡ true → bytes_of line ≡ Some []
unfolding bytes_of
comment_bytes line comment = rw comment refl

or_none : (o : Option TextFault) → first_of o None ≡ o
or_none None = refl
or_none (Some fault) = refl

module _ (known : Option Names) (n : ℕ) (line : List ℕ) (rest : List (List ℕ)) where
  -- what is wrong with the line, if it is no code, or with the block of code that it begins
  abbrev judged_by : Option TextFault
  judged_by = first_of (tried known n (λ wrong. not (is_code line) && is_wrong_in_bytes 0 line wrong)) (cond (is_code line) (fault_in (coded known (assembled_lines n (line ∷ rest)))) None)

  judged_good : is_too_long line ≡ false → list_all is_printable_byte line ≡ true → fault_in (decided known n line (line ∷ rest)) ≡ judged_by
  unfolding decided
  judged_good short good = rw (short, good) (elim (cases_Bool (begins_comment (words_of line))) [
    | inl comment ↦
        let nothing : bytes_of line ≡ Some [] = comment_bytes line comment in
        rw (comment, nothing) refl
    | inr speaks ↦ rw speaks (elim (cases_Bool (begins_bytes (words_of line))) [
      | inl bytes ↦ rw bytes (judged_bytes_said known n [] (bytes_of line) ∙ sym (or_none _))
      | inr code ↦ rw code refl
    ])
  ])

  -- a line of code that is too long, or has other bytes, is the fault of its block
  judged_plain : fault_in (plain n line >>= λ good. decided known n line (line ∷ rest)) ≡ judged_by
  unfolding coded assembled_lines labelled asm_checked
  judged_plain = elim (cases_Bool (is_too_long line)) [
    | inl long ↦ elim (cases_Bool (is_code line)) [ inl code ↦ rw (long, code) refl | inr other ↦ rw (long, other) refl ]
    | inr short ↦ elim (cases_Bool (list_all is_printable_byte line)) [
      | inr bad ↦ elim (cases_Bool (is_code line)) [ inl code ↦ rw (short, bad, code) refl | inr other ↦ rw (short, bad, other) refl ]
      | inl good ↦
          let decides = rw (short, good) at (judged_good short good) in
          rw (short, good) decides
    ]
  ]

-- ---- any line

abbrev pub place_of : Open → Place
place_of Nothing = AtTop
place_of Undecided = InFilter
place_of (Bytes image) = InBytes (length image)
place_of (Code image) = InCode
place_of (Calls script) = InCalls (length script.calls)

-- how many filters and programs were opened
abbrev pub filters_so_far : Gained → Open → ℕ
filters_so_far d block = cond (nat_eq (kind block) 1) (length d.filters + 1) (length d.filters)

abbrev pub programs_so_far : Gained → Open → ℕ
programs_so_far d block = cond (nat_eq (kind block) 2) (length d.programs + 1) (length d.programs)

pub fault_in_paired : {X : Type 0} {Y : Type 0} (r : Result X TextFault) (f : X → Y) → fault_in (r >>= λ x. Ok (f x)) ≡ fault_in r
fault_in_paired (Ok x) f = refl
fault_in_paired (Err fault) f = refl

module _ (known : Option Names) (names : Names) (these : AreThese names known) (n : ℕ) (d : Gained) (said : List Heading) (line : List ℕ) (rest : List (List ℕ)) where
  abbrev Judged : Open → Type 0
  Judged block = fault_in (stepped known n d block line (line ∷ rest))
      ≡ first_of (tried known n (is_wrong names (place_of block) said line)) (cond (begins_code (place_of block) line) (fault_in (coded known (assembled_lines n (until_end (line ∷ rest))))) None)

  pub judged_line : (block : Open) → Matches d (filters_so_far d block) (programs_so_far d block) said → Judged block
  unfolding stepped within inside
  judged_line Nothing m = judged_top known n d said m line ∙ sym (or_none (tried known n (is_wrong_at_top said line)))
  judged_line Undecided m = elim (cases_Bool (is_end line)) [
    | inl end ↦ rw end refl
    | inr goes ↦ rw goes (fault_in_paired (plain n line >>= λ good. decided known n line (line ∷ until_end rest)) (λ next. (d, next)) ∙ judged_plain known n line (until_end rest))
  ]
  judged_line (Bytes image) m = elim (cases_Bool (is_end line)) [
    | inl end ↦ rw end refl
    | inr goes ↦ rw goes (fault_in_paired (grown n image line) (λ next. (d, next)) ∙ judged_bytes known n image line ∙ sym (or_none (tried known n (is_wrong_in_bytes (length image) line))))
  ]
  judged_line (Code image) m = elim (cases_Bool (is_end line)) [ inl end ↦ rw end refl | inr goes ↦ rw goes refl ]
  judged_line (Calls script) m = elim (cases_Bool (is_end line)) [
    | inl end ↦ rw end refl
    | inr goes ↦ rw goes (fault_in_paired (checked asked_of n line >>= λ asked. called known n script asked >>= λ next. Ok (Calls next)) (λ next. (d, next)) ∙ judged_calls n script names known these line ∙ sym (or_none (tried known n (is_wrong_in_calls names (length script.calls) line))))
  ]
