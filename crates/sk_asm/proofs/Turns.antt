-- The passes, turn by turn: what one line does to what all lines from it on give.
use Rattle.std.proofs.Common.{◌≡◌, ◌<◌, ◌≤◌, ◌+◌, ◌-◌, ◌^◌, ◌∙◌, ap, arith, refl, sym, ℕ, List, [], ◌∷◌, ◌++◌, Option, Some, None, is_some, Result, Ok, Err, MatchResult, nat_lt, length, append-nil, append_assoc, length-append, inl, inr}
use Rattle.std.proofs.Math.Seq.{set-append_seam}
use Rattle.std.proofs.lemmas.List.{length-set, set-append_left}
use Rattle.std.proofs.lemmas.Bool.{cases_Bool}
use Rattle.std.specs.Option.{option_len}
use Rattle.sk_insn.specs.declared.insn.Insn.{Insn}
use Rattle.sk_asm.specs.declared.fault.AsmFault.{AsmFault}
use Rattle.sk_asm.specs.declared.fault.AsmFault.TheVariants.{Line, Label, Twice, Far, Back, TooLong, Memory}
use Rattle.sk_asm.specs.Faults.{◌>>=◌, IsAsmFault}
use Rattle.sk_asm.specs.Drafts.{Pending, draft_of, pending_of, AreAmong, replaced, completed, Seen, Takes, IsUntaken}
use Rattle.sk_asm.specs.Grammar.{Further, Labelled, Statement, Silent, Marks, Plain, Jumps, Branches, insn}
use Rattle.sk_asm.specs.Labels.{Labels, label_place}
use Rattle.sk_asm.specs.Passes.{checked, counted, marked, noted, labelled, distance, resolved, emitted, in_front}

-- a fault of a step is one of what goes on from it
IsAsmFault-along : {X Y : Type 0} (fault : AsmFault) (first : Result X AsmFault) (whole : Result Y AsmFault) → (first ≡ Err fault → whole ≡ Err fault) → IsAsmFault fault first → IsAsmFault fault whole
IsAsmFault-along (Line n) first whole on h = on h
IsAsmFault-along (Label n) first whole on h = on h
IsAsmFault-along (Twice n) first whole on h = on h
IsAsmFault-along (Far n) first whole on h = on h
IsAsmFault-along (Back n) first whole on h = on h
IsAsmFault-along (TooLong n) first whole on h = on h
IsAsmFault-along Memory first whole on h = tt

-- ---- the first pass

module _ (n : ℕ) (labels : Labels) (at : ℕ) (line : List ℕ) (lines rest : List (List ℕ)) (total : Result Labels AsmFault)
    (cut : lines ≡ line ∷ rest) (so_far : labelled n labels at lines ≡ total) where
  opened : total ≡ (checked n line >>= λ statement. noted n labels at statement >>= λ next. labelled (n + 1) next.0 next.1 rest)
  unfolding labelled
  opened = sym so_far ∙ ap (labelled n labels at) cut

  pub labelled-unchecked : (fault : AsmFault) → IsAsmFault fault (checked n line) → IsAsmFault fault total
  labelled-unchecked fault h = IsAsmFault-along fault (checked n line) total (λ e. opened ∙ rw e refl) h

  pub labelled-unnoted : (statement : Statement) (fault : AsmFault) → checked n line ≡ Ok statement → IsAsmFault fault (noted n labels at statement) → IsAsmFault fault total
  labelled-unnoted statement fault c h = IsAsmFault-along fault (noted n labels at statement) total (λ e. opened ∙ rw (c, e) refl) h

  pub labelled-turn : (statement : Statement) (after : Labels) (next : ℕ) → checked n line ≡ Ok statement → noted n labels at statement ≡ Ok (after, next) → labelled (n + 1) after next rest ≡ total
  labelled-turn statement after next c e = sym (opened ∙ rw (c, e) refl)

pub labelled-end : (n : ℕ) (labels : Labels) (at : ℕ) (lines : List (List ℕ)) (total : Result Labels AsmFault) → lines ≡ [] → labelled n labels at lines ≡ total → total ≡ Ok labels
unfolding labelled
labelled-end n labels at lines total none so_far = sym so_far ∙ ap (labelled n labels at) none

-- the place in an answer
abbrev place_in : Result (Labels × ℕ) AsmFault → ℕ
place_in (Ok given) = given.1
place_in (Err fault) = 0

-- the place that follows
next_place : (n at : ℕ) (labels : Labels) (next : ℕ) (after : Labels) → counted n labels at ≡ Ok (after, next) → next ≡ at + 1
next_place n at labels next after h = elim (cases_Bool (nat_lt at 4096)) [
  | inl t ↦ let e : ◌≡◌ {A = Result (Labels × ℕ) AsmFault} (Ok (labels, at + 1)) (Ok (after, next)) = rw t at h in sym (ap place_in e)
  | inr f ↦ let e : ◌≡◌ {A = Result (Labels × ℕ) AsmFault} (Err (TooLong n)) (Ok (after, next)) = rw f at h in cc
]

same_place : (n at : ℕ) (labels : Labels) (name : List ℕ) (next : ℕ) (after : Labels) → marked n labels at name ≡ Ok (after, next) → next ≡ at
same_place n at labels name next after h = elim (cases_Bool (is_some (label_place labels name))) [
  | inl t ↦ let e : ◌≡◌ {A = Result (Labels × ℕ) AsmFault} (Err (Twice n)) (Ok (after, next)) = rw t at h in cc
  | inr f ↦ let e : ◌≡◌ {A = Result (Labels × ℕ) AsmFault} (Ok (labels ++ (name, at) ∷ [], at)) (Ok (after, next)) = rw f at h in sym (ap place_in e)
]

noted-place : (n at : ℕ) (labels : Labels) (statement : Statement) (next : ℕ) (after : Labels) → noted n labels at statement ≡ Ok (after, next) → next ≡ at + option_len (draft_of statement)
unfolding noted
noted-place n at labels Silent next after h = let e = ap place_in h in omega (arith, e)
noted-place n at labels (Marks name) next after h = let e = same_place n at labels name next after h in omega (arith, e)
noted-place n at labels (Plain given) next after h = next_place n at labels next after h
noted-place n at labels (Jumps code to) next after h = next_place n at labels next after h
noted-place n at labels (Branches code k jt jf) next after h = next_place n at labels next after h

-- ---- lines that are no instructions

pub takes-silent : (n at : ℕ) (old : Seen) → Takes n at Silent old old at
unfolding noted
takes-silent n at old = (refl, (sym (append-nil old.insns), sym (append-nil old.jumps)))

pub takes-label : (answer : Result ℕ AsmFault) (n at : ℕ) (name : List ℕ) (old : Seen) (after : Labels)
    → MatchResult answer (λ next. marked n old.labels at name ≡ Ok (after, next)) (λ fault. IsAsmFault fault (marked n old.labels at name))
    → MatchResult answer
    (λ next. Takes n at (Marks name) old (record { labels = after; insns = old.insns; jumps = old.jumps }) next)
    (λ fault. IsUntaken n at (Marks name) old fault)
unfolding noted
takes-label (Ok next) n at name old after h = (h, (sym (append-nil old.insns), sym (append-nil old.jumps)))
takes-label (Err fault) n at name old after h = h

-- ---- answers, and what is done with them

-- two ways on from an answer
along : {X Y Z : Type 0} (answer : Result X AsmFault) (one other : X → Result Y AsmFault) (on further : Y → Result Z AsmFault)
    → ((value : X) → (one value >>= on) ≡ (other value >>= further)) → ((answer >>= one) >>= on) ≡ ((answer >>= other) >>= further)
along (Ok value) one other on further h = h value
along (Err fault) one other on further h = refl

-- an answer as it is
same_answer : (answer : Result (List Insn) AsmFault) → (answer >>= λ insns. Ok insns) ≡ answer
same_answer (Ok insns) = refl
same_answer (Err fault) = refl

no_more : (answer : Result (List Insn) AsmFault) → answer ≡ (answer >>= λ front. Ok (front ++ []))
no_more (Ok front) = ap Ok (sym (append-nil front))
no_more (Err fault) = refl

-- instructions, and those of what is left
abbrev then_after : List Insn → Result (List Insn) AsmFault → Result (List Insn) AsmFault
then_after front others = others >>= λ insns. Ok (front ++ insns)

regrouped : (front : List Insn) (given : Option Insn) (others : Result (List Insn) AsmFault)
    → then_after (front ++ in_front given []) others ≡ then_after front (others >>= λ insns. Ok (in_front given insns))
regrouped front None (Ok insns) = ap (λ l. Ok (l ++ insns)) (append-nil front)
regrouped front (Some one) (Ok insns) = ap Ok (append_assoc front (one ∷ []) insns)
regrouped front given (Err fault) = refl

first_regrouped : (front : List Insn) (answer : Result (Option Insn) AsmFault) (others : Result (List Insn) AsmFault)
    → ((answer >>= λ given. Ok (front ++ in_front given [])) >>= λ insns. then_after insns others)
    ≡ then_after front (answer >>= λ given. others >>= λ insns. Ok (in_front given insns))
first_regrouped front (Ok given) others = regrouped front given others
first_regrouped front (Err fault) others = refl

-- ---- how many instructions a statement is

length-in_front : (given : Option Insn) → length (in_front given []) ≡ option_len given
length-in_front None = refl
length-in_front (Some one) = refl

jump_size : (code at : ℕ) (count : Result ℕ AsmFault) (emitting : ℕ → Result (List Insn) AsmFault)
    → ((count >>= λ k. Ok (Some (insn code 0 0 k))) >>= λ given. emitting (at + option_len given) >>= λ insns. Ok (in_front given insns))
    ≡ ((count >>= λ k. Ok (Some (insn code 0 0 k))) >>= λ given. emitting (at + 1) >>= λ insns. Ok (in_front given insns))
jump_size code at (Ok k) emitting = refl
jump_size code at (Err fault) emitting = refl

branch_size : (code k at : ℕ) (t f : Result ℕ AsmFault) (emitting : ℕ → Result (List Insn) AsmFault)
    → ((t >>= λ t. f >>= λ f. Ok (Some (insn code t f k))) >>= λ given. emitting (at + option_len given) >>= λ insns. Ok (in_front given insns))
    ≡ ((t >>= λ t. f >>= λ f. Ok (Some (insn code t f k))) >>= λ given. emitting (at + 1) >>= λ insns. Ok (in_front given insns))
branch_size code k at (Ok t) (Ok f) emitting = refl
branch_size code k at (Ok t) (Err fault) emitting = refl
branch_size code k at (Err fault) f emitting = refl

resolved-size : (labels : Labels) (n at : ℕ) (statement : Statement) (emitting : ℕ → Result (List Insn) AsmFault)
    → (resolved labels n at statement >>= λ given. emitting (at + option_len given) >>= λ insns. Ok (in_front given insns))
    ≡ (resolved labels n at statement >>= λ given. emitting (at + option_len (draft_of statement)) >>= λ insns. Ok (in_front given insns))
unfolding resolved
resolved-size labels n at Silent emitting = refl
resolved-size labels n at (Marks name) emitting = refl
resolved-size labels n at (Plain given) emitting = refl
resolved-size labels n at (Jumps code to) emitting = jump_size code at (distance labels n at (2 ^ 32 - 1) to) emitting
resolved-size labels n at (Branches code k jt jf) emitting = branch_size code k at (distance labels n at 255 jt) (distance labels n at 255 jf) emitting

-- ---- what is left to the second pass

replaced-length : (insns : List Insn) (at : ℕ) (given : Option Insn) → length (replaced insns at given) ≡ length insns
replaced-length insns at None = refl
replaced-length insns at (Some one) = length-set insns at one

replaced-left : (insns more : List Insn) (at : ℕ) (given : Option Insn) → at < length insns → replaced (insns ++ more) at given ≡ replaced insns at given ++ more
replaced-left insns more at None within = refl
replaced-left insns more at (Some one) within = set-append_left insns more at one within

-- the instruction that is there already is replaced
jump_replaced : (front : List Insn) (code draft : ℕ) (count : Result ℕ AsmFault)
    → ((count >>= λ k. Ok (Some (insn code 0 0 k))) >>= λ given. Ok (replaced (front ++ insn code 0 0 draft ∷ []) (length front) given))
    ≡ ((count >>= λ k. Ok (Some (insn code 0 0 k))) >>= λ given. Ok (front ++ in_front given []))
jump_replaced front code draft (Ok k) = ap Ok (set-append_seam front (insn code 0 0 draft) [] (insn code 0 0 k))
jump_replaced front code draft (Err fault) = refl

branch_replaced : (front : List Insn) (code k one other : ℕ) (t f : Result ℕ AsmFault)
    → ((t >>= λ t. f >>= λ f. Ok (Some (insn code t f k))) >>= λ given. Ok (replaced (front ++ insn code one other k ∷ []) (length front) given))
    ≡ ((t >>= λ t. f >>= λ f. Ok (Some (insn code t f k))) >>= λ given. Ok (front ++ in_front given []))
branch_replaced front code k one other (Ok t) (Ok f) = ap Ok (set-append_seam front (insn code one other k) [] (insn code t f k))
branch_replaced front code k one other (Ok t) (Err fault) = refl
branch_replaced front code k one other (Err fault) f = refl

-- what a statement adds at the end
completed-one : (labels : Labels) (n : ℕ) (front : List Insn) (statement : Statement)
    → completed labels (front ++ in_front (draft_of statement) []) (pending_of (length front) n statement)
    ≡ (resolved labels n (length front) statement >>= λ given. Ok (front ++ in_front given []))
unfolding resolved distance
completed-one labels n front Silent = refl
completed-one labels n front (Marks name) = refl
completed-one labels n front (Plain given) = refl
completed-one labels n front (Jumps code (Further count)) = refl
completed-one labels n front (Jumps code (Labelled name)) = jump_replaced front code 0 (distance labels n (length front) (2 ^ 32 - 1) (Labelled name))
completed-one labels n front (Branches code k (Further t) (Further f)) = refl
completed-one labels n front (Branches code k (Further t) (Labelled g)) = branch_replaced front code k t 0 (Ok t) (distance labels n (length front) 255 (Labelled g))
completed-one labels n front (Branches code k (Labelled s) (Further f)) = branch_replaced front code k 0 f (distance labels n (length front) 255 (Labelled s)) (Ok f)
completed-one labels n front (Branches code k (Labelled s) (Labelled g)) =
    branch_replaced front code k 0 0 (distance labels n (length front) 255 (Labelled s)) (distance labels n (length front) 255 (Labelled g))

module _ (labels : Labels) (n : ℕ) (statement : Statement) (others : Result (List Insn) AsmFault) where
  completed-more : (insns : List Insn) (jumps : List Pending) (at : ℕ) → length insns ≡ at → AreAmong at jumps
      → (completed labels (insns ++ in_front (draft_of statement) []) (jumps ++ pending_of at n statement) >>= λ front. then_after front others)
      ≡ (completed labels insns jumps >>= λ front. then_after front (resolved labels n at statement >>= λ given. others >>= λ more. Ok (in_front given more)))
  completed-more insns [] at size among =
      rw (sym size) (
      ap (λ answer. answer >>= λ front. then_after front others) (completed-one labels n insns statement)
      ∙ first_regrouped insns (resolved labels n (length insns) statement) others)
  completed-more insns (jump ∷ jumps) at size among =
      let first = among.0 in
      along (resolved labels jump.1 jump.0 jump.2)
      (λ given. completed labels (replaced (insns ++ in_front (draft_of statement) []) jump.0 given) (jumps ++ pending_of at n statement))
      (λ given. completed labels (replaced insns jump.0 given) jumps)
      (λ front. then_after front others)
      (λ front. then_after front (resolved labels n at statement >>= λ given. others >>= λ more. Ok (in_front given more)))
      (λ given.
      let within : jump.0 < length insns = omega (arith, first, size) in
      ap (λ l. completed labels l (jumps ++ pending_of at n statement) >>= λ front. then_after front others)
      (replaced-left insns (in_front (draft_of statement) []) jump.0 given within)
      ∙ completed-more (replaced insns jump.0 given) jumps at (replaced-length insns jump.0 given ∙ size) among.1)

-- ---- their places

among-append : (size more : ℕ) (jumps others : List Pending) → AreAmong size jumps → size ≤ more → AreAmong more others → AreAmong more (jumps ++ others)
among-append size more [] others among le there = there
among-append size more (jump ∷ jumps) others among le there =
    let first = among.0 in
    (omega (arith, first, le), among-append size more jumps others among.1 le there)

among-one : (at n : ℕ) (statement : Statement) → AreAmong (at + option_len (draft_of statement)) (pending_of at n statement)
among-one at n Silent = tt
among-one at n (Marks name) = tt
among-one at n (Plain given) = tt
among-one at n (Jumps code (Further count)) = tt
among-one at n (Jumps code (Labelled name)) = (omega arith, tt)
among-one at n (Branches code k (Further t) (Further f)) = tt
among-one at n (Branches code k (Further t) (Labelled g)) = (omega arith, tt)
among-one at n (Branches code k (Labelled s) (Further f)) = (omega arith, tt)
among-one at n (Branches code k (Labelled s) (Labelled g)) = (omega arith, tt)

-- ---- the first pass, once more

-- the instructions of the lines before, completed, and those of the lines that are left are what all lines give
pub record FoundSoFar (number n at : ℕ) (insns : List Insn) (jumps : List Pending) (lines all : List (List ℕ)) : Type 0 where
  pub place : at ≡ length insns
  pub among : AreAmong at jumps
  pub same : (labels : Labels) → (completed labels insns jumps >>= λ front. emitted labels n at lines >>= λ insns. Ok (front ++ insns)) ≡ emitted labels number 0 all

pub found-start : (number n : ℕ) (insns : List Insn) (jumps : List Pending) (lines all : List (List ℕ)) → insns ≡ [] → jumps ≡ [] → n ≡ number → lines ≡ all
    → FoundSoFar number n 0 insns jumps lines all
found-start number n insns jumps lines all none no_jump start same = record {
  place = sym (ap length none);
  among = rw no_jump tt;
  same = λ labels. rw (none, no_jump, start, same) (same_answer (emitted labels number 0 all));
}

found-turn : (number n at : ℕ) (insns : List Insn) (jumps : List Pending) (line : List ℕ) (lines rest all : List (List ℕ)) (statement : Statement)
    (labels after : Labels) (next : ℕ) (more : List Insn) (further : List Pending)
    → lines ≡ line ∷ rest → FoundSoFar number n at insns jumps lines all → checked n line ≡ Ok statement → noted n labels at statement ≡ Ok (after, next)
    → more ≡ insns ++ in_front (draft_of statement) [] → further ≡ jumps ++ pending_of at n statement → FoundSoFar number (n + 1) next more further rest all
unfolding emitted
found-turn number n at insns jumps line lines rest all statement labels after next more further cut so_far said there pushed queued =
    let place = noted-place n at labels statement next after there in
    let grown = length-append insns (in_front (draft_of statement) []) in
    let one = length-in_front (draft_of statement) in
    let first = so_far.place in
    let size = ap length pushed in
    record {
      place = omega (arith, place, grown, one, first, size);
      among = rw (queued, place) (among-append at (at + option_len (draft_of statement)) jumps (pending_of at n statement) so_far.among (omega arith) (among-one at n statement));
      same = λ labels.
          let cut_off : emitted labels n at lines ≡ (resolved labels n at statement >>= λ given. emitted labels (n + 1) (at + option_len given) rest >>= λ insns. Ok (in_front given insns)) =
          ap (emitted labels n at) cut ∙ rw said refl in
          ap (λ l. completed labels l further >>= λ front. then_after front (emitted labels (n + 1) next rest)) pushed
          ∙ ap (λ l. completed labels (insns ++ in_front (draft_of statement) []) l >>= λ front. then_after front (emitted labels (n + 1) next rest)) queued
          ∙ ap (λ place. completed labels (insns ++ in_front (draft_of statement) []) (jumps ++ pending_of at n statement) >>= λ front. then_after front (emitted labels (n + 1) place rest)) place
          ∙ completed-more labels n statement (emitted labels (n + 1) (at + option_len (draft_of statement)) rest) insns jumps at (sym so_far.place) so_far.among
          ∙ ap (λ answer. completed labels insns jumps >>= λ front. then_after front answer)
          (sym (cut_off ∙ resolved-size labels n at statement (λ place. emitted labels (n + 1) place rest)))
          ∙ so_far.same labels;
    }

pub found-taken : (number n at : ℕ) (line : List ℕ) (lines rest all : List (List ℕ)) (statement : Statement) (old new : Seen) (next : ℕ)
    → lines ≡ line ∷ rest → FoundSoFar number n at old.insns old.jumps lines all → checked n line ≡ Ok statement → Takes n at statement old new next
    → FoundSoFar number (n + 1) next new.insns new.jumps rest all
found-taken number n at line lines rest all statement old new next cut so_far said h =
    found-turn number n at old.insns old.jumps line lines rest all statement old.labels new.labels next new.insns new.jumps cut so_far said h.0 h.1.0 h.1.1

pub found-among : (number n at : ℕ) (insns : List Insn) (jumps : List Pending) (lines all : List (List ℕ)) → FoundSoFar number n at insns jumps lines all → AreAmong (length insns) jumps
found-among number n at insns jumps lines all so_far = rw (sym so_far.place) so_far.among

pub found-end : (number n at : ℕ) (insns : List Insn) (jumps : List Pending) (lines all : List (List ℕ)) → lines ≡ [] → FoundSoFar number n at insns jumps lines all
    → (labels : Labels) → completed labels insns jumps ≡ emitted labels number 0 all
unfolding emitted
found-end number n at insns jumps lines all none so_far labels =
    no_more (completed labels insns jumps)
    ∙ ap (λ l. completed labels insns jumps >>= λ front. then_after front (emitted labels n at l)) (sym none)
    ∙ so_far.same labels
