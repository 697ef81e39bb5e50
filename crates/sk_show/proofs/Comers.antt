-- Where a call comes, it is found that those of its architecture come.
use Rattle.std.proofs.Common.{◌≡◌, ◌<◌, ◌+◌, ◌∙◌, ap, arith, refl, subst, sym, ℕ, zero, suc, List, [], ◌∷◌, length, replicate, inl, inr, Option, Some, None, true, false}
use Rattle.std.proofs.lemmas.List.{length-replicate}
use Rattle.std.proofs.lemmas.Option.{slice_get_within}
use Rattle.std.specs.Prelude.{is_some, slice_get, slice_index_or, cond}
use Rattle.sk_insn.specs.Operations.{operation_of}
use Rattle.sk_insn.specs.declared.insn.Insn.{Insn}
use Rattle.sk_insn.specs.declared.record.Record.{Record}
use Rattle.sk_insn.specs.declared.operation.Operand.TheVariants.{Constant, IndexRegister}
use Rattle.sk_insn.specs.declared.operation.Comparison.{Comparison}
use Rattle.sk_insn.specs.declared.operation.Operation.{Operation}
use Rattle.sk_insn.specs.declared.operation.Operation.TheVariants.{LoadRecord, LoadConstant, LoadScratch, LoadLength, StoreScratch, Compute, Negate, Jump, Branch, ReturnConstant, ReturnAccumulator, CopyToIndex, CopyToAccumulator}
use Rattle.sk_insn.proofs.OperationTable.{operation_of-code_of}
use Rattle.sk_filter.specs.Paths.{GoesTo, onward}
use Rattle.sk_filter.specs.Meaning.{State, GoesOn, effect, holds}
use Rattle.sk_filter.proofs.ValidSteps.{leads_to}
use Rattle.sk_show.specs.Runs.{ComesTo}
use Rattle.sk_show.specs.declared.held.Held.{Held}
use Rattle.sk_show.specs.declared.held.Held.TheVariants.{Number, Architecture, Other}
use Rattle.sk_show.specs.Coming.{comes_from, comes_to, jumps_taken, next_taken, taken, taken_at}
use Rattle.sk_show.specs.Holding.{Jumps, held_behind, joined, joined_ways, jump_to, next_behind}
use Rattle.sk_show.specs.NoteLaws.{ComersAreFound, FitWords, IsHeld}
use Rattle.sk_show.proofs.InRuns.{AtMost, behind-held, brings-way, goes-true, joined-both, keeps-way, some-same, weaker-further, weaker-held}
use Rattle.sk_show.proofs.Landing.{jumps-length, kept-jump, landed-jump}
use Rattle.sk_show.proofs.Targets.{none-yet}

-- what A holds where such calls come, from a place on
held_from : ℕ → ℕ → Jumps → Option Held → List Insn → List (Option Held)
held_from number at jumps next [] = []
held_from number at jumps next (given ∷ insns) =
    let held = joined_ways (jump_to jumps at) next in
    held ∷ held_from number (at + 1) (jumps_taken number at held given jumps) (next_taken number at held given) insns

found-held : (number at n : ℕ) (jumps : Jumps) (next : Option Held) (insns : List Insn) (held : Held)
    → slice_get (held_from number at jumps next insns) n ≡ Some (Some held) → slice_index_or (comes_from number at jumps next insns) n false ≡ true
unfolding comes_from held_from
found-held number at n jumps next [] held e = cc
found-held number at zero jumps next (given ∷ insns) held e =
    let here = some-same (joined_ways (jump_to jumps at) next) (Some held) e in
    ap is_some here
found-held number at (suc n) jumps next (given ∷ insns) held e =
    let here = joined_ways (jump_to jumps at) next in
    found-held number (at + 1) n (jumps_taken number at here given jumps) (next_taken number at here given) insns held e

-- ---- what is noted stays

taken-length : (number at : ℕ) (here : Option Held) (given : Insn) (jumps : Jumps) → length (jumps_taken number at here given jumps) ≡ length jumps
taken-length number at None given jumps = refl
taken-length number at (Some held) given jumps = jumps-length at (taken_at number at held given) (held_behind (operation_of given.code) given held) jumps

taken-kept : (number at place : ℕ) (here : Option Held) (given : Insn) (jumps : Jumps) (held : Held) → place < length jumps → AtMost held (jump_to jumps place)
    → AtMost held (jump_to (jumps_taken number at here given jumps) place)
taken-kept number at place None given jumps held within h = h
taken-kept number at place (Some one) given jumps held within h =
    kept-jump (AtMost held) (keeps-way held) at place (taken_at number at one given) (held_behind (operation_of given.code) given one) jumps within h

beside-next : (held : Held) (way next : Option Held) → AtMost held way → AtMost held (joined_ways way next)
beside-next held None next h = absurd h
beside-next held (Some way) None h = h
beside-next held (Some way) (Some second) h = weaker-further (joined way second) way held (joined-both way second).0 h

held-length : (number at : ℕ) (jumps : Jumps) (next : Option Held) (insns : List Insn) → length (held_from number at jumps next insns) ≡ length insns
unfolding held_from
held-length number at jumps next [] = refl
held-length number at jumps next (given ∷ insns) =
    let here = joined_ways (jump_to jumps at) next in
    let rest = held-length number (at + 1) (jumps_taken number at here given jumps) (next_taken number at here given) insns in
    ap suc rest

held-within : (number at n : ℕ) (jumps : Jumps) (next : Option Held) (insns : List Insn) (found : Option Held)
    → slice_get (held_from number at jumps next insns) n ≡ Some found → n < length insns
held-within number at n jumps next insns found e =
    let size = held-length number at jumps next insns in
    let within = slice_get_within (held_from number at jumps next insns) n found e in
    omega arith

stays-held : (number at n : ℕ) (jumps : Jumps) (next : Option Held) (insns : List Insn) (found : Option Held) (held : Held) → at + length insns ≡ length jumps
    → AtMost held (jump_to jumps (at + n)) → slice_get (held_from number at jumps next insns) n ≡ Some found → AtMost held found
unfolding held_from
stays-held number at n jumps next [] found held len h e = cc
stays-held number at zero jumps next (given ∷ insns) found held len h e =
    let here : at + zero ≡ at = omega arith in
    let there : AtMost held (jump_to jumps at) = rw here at h in
    subst (AtMost held) (some-same (joined_ways (jump_to jumps at) next) found e) (beside-next held (jump_to jumps at) next there)
stays-held number at (suc n) jumps next (given ∷ insns) found held len h e =
    let here = joined_ways (jump_to jumps at) next in
    let place : at + suc n ≡ at + 1 + n = omega arith in
    let within = held-within number (at + 1) n (jumps_taken number at here given jumps) (next_taken number at here given) insns found e in
    let size = taken-length number at here given jumps in
    let there : AtMost held (jump_to jumps (at + 1 + n)) = rw place at h in
    stays-held number (at + 1) n (jumps_taken number at here given jumps) (next_taken number at here given) insns found held (omega (arith, size))
    (taken-kept number at (at + 1 + n) here given jumps held (omega arith) there) e

-- ---- where the first of these instructions leads

first-leads : (number at n : ℕ) (jumps : Jumps) (held : Held) (given : Insn) (insns : List Insn) (found : Option Held) → at + length (given ∷ insns) ≡ length jumps
    → GoesTo (at + 1 + n) (taken_at number at held given)
    → slice_get (held_from number (at + 1) (jumps_taken number at (Some held) given jumps) (next_taken number at (Some held) given) insns) n ≡ Some found
    → AtMost (held_behind (operation_of given.code) given held) found
unfolding held_from
first-leads number at n jumps held given [] found len goes e = cc
first-leads number at zero jumps held given (second ∷ insns) found len goes e =
    let behind = held_behind (operation_of given.code) given held in
    let on = taken_at number at held given in
    let noted = jumps_taken number at (Some held) given jumps in
    let here : at + 1 + zero ≡ at + 1 = omega arith in
    let to : GoesTo (at + 1) on = subst (λ (p : ℕ). GoesTo p on) here goes in
    let known : next_behind at on behind ≡ Some behind = let t = goes-true (at + 1) on to in rw t refl in
    subst (AtMost behind) (some-same (joined_ways (jump_to noted (at + 1)) (next_behind at on behind)) found e)
    (subst (λ (o : Option Held). AtMost behind (joined_ways (jump_to noted (at + 1)) o)) (sym known) (brings-way behind (jump_to noted (at + 1))))
first-leads number at (suc n) jumps held given (second ∷ insns) found len goes e =
    let behind = held_behind (operation_of given.code) given held in
    let on = taken_at number at held given in
    let within = held-within number (at + 1) (suc n) (jumps_taken number at (Some held) given jumps) (next_taken number at (Some held) given) (second ∷ insns) found e in
    let size = jumps-length at on behind jumps in
    stays-held number (at + 1) (suc n) (jumps_taken number at (Some held) given jumps) (next_taken number at (Some held) given) (second ∷ insns) found behind (omega (arith, size))
    (landed-jump (AtMost behind) (keeps-way behind) behind (brings-way behind) at (at + 1 + suc n) on jumps goes (omega arith) (omega arith)) e

at-places : (number to to' from from' : ℕ) (held : Held) (one other : Insn) → to ≡ to' → from ≡ from' → one ≡ other → GoesTo to (taken_at number from held one)
    → GoesTo to' (taken_at number from' held other)
at-places number to to' from from' held one other e f same goes =
    subst (λ (i : Insn). GoesTo to' (taken_at number from' held i)) same
    (subst (λ (p : ℕ). GoesTo to' (taken_at number p held one)) f (subst (λ (p : ℕ). GoesTo p (taken_at number from held one)) e goes))

-- any of them
leads-on : (number at n m : ℕ) (jumps : Jumps) (next : Option Held) (insns : List Insn) (given : Insn) (held : Held) (found : Option Held) → at + length insns ≡ length jumps → n < m
    → slice_get insns n ≡ Some given → slice_get (held_from number at jumps next insns) n ≡ Some (Some held) → GoesTo (at + m) (taken_at number (at + n) held given)
    → slice_get (held_from number at jumps next insns) m ≡ Some found → AtMost (held_behind (operation_of given.code) given held) found
unfolding held_from
leads-on number at n m jumps next [] given held found len before is e goes f = cc
leads-on number at n zero jumps next (first ∷ insns) given held found len before is e goes f = absurd (omega arith)
leads-on number at zero (suc m) jumps next (first ∷ insns) given held found len before is e goes f =
    let this = some-same first given is in
    let here = some-same (joined_ways (jump_to jumps at) next) (Some held) e in
    let to = at-places number (at + suc m) (at + 1 + m) (at + zero) at held given first (omega arith) (omega arith) (sym this) goes in
    let rest : slice_get (held_from number (at + 1) (jumps_taken number at (Some held) first jumps) (next_taken number at (Some held) first) insns) m ≡ Some found =
    subst (λ (o : Option Held). slice_get (held_from number (at + 1) (jumps_taken number at o first jumps) (next_taken number at o first) insns) m ≡ Some found) here f
    in
    subst (λ (i : Insn). AtMost (held_behind (operation_of i.code) i held) found) this (first-leads number at m jumps held first insns found len to rest)
leads-on number at (suc n) (suc m) jumps next (first ∷ insns) given held found len before is e goes f =
    let here = joined_ways (jump_to jumps at) next in
    let size = taken-length number at here first jumps in
    let to = at-places number (at + suc m) (at + 1 + m) (at + suc n) (at + 1 + n) held given given (omega arith) (omega arith) refl goes in
    leads-on number (at + 1) n m (jumps_taken number at here first jumps) (next_taken number at here first) insns given held found (omega (arith, size)) (omega arith) is e to f

-- ---- a run

-- an instruction that is no test of the architecture goes on as ever
plain-goes : (held : Held) (operation : Option Operation) (given : Insn) (call : Record) (s after : State) (at skip : ℕ) → taken call.arch held operation given ≡ given
    → operation_of given.code ≡ operation → effect operation given call s ≡ GoesOn skip after → GoesTo (at + (1 + skip)) (taken_at call.arch at held given)
plain-goes held operation given call s after at skip plain is does =
    let does_so = subst (λ (o : Option Operation). effect o given call s ≡ GoesOn skip after) (sym is) does in
    let same : taken call.arch held (operation_of given.code) given ≡ given = rw is plain in
    rw same (leads_to at (operation_of given.code) given call s skip after does_so)

test-goes : (comparison : Comparison) (given : Insn) (call : Record) (s after : State) (at skip : ℕ) → operation_of given.code ≡ Some (Branch comparison Constant)
    → s.a ≡ call.arch → effect (Some (Branch comparison Constant)) given call s ≡ GoesOn skip after → GoesTo (at + (1 + skip)) (taken_at call.arch at Architecture given)
test-goes comparison given call s after at skip is same does =
    let skips : (cond (holds comparison s.a given.k) given.jt given.jf) ≡ skip = cc in
    let there : cond (holds comparison call.arch given.k) given.jt given.jf ≡ skip = rw same at skips in
    let jump = operation_of-code_of Jump in
    rw (is, jump) (omega (arith, there))

goes-taken : (held : Held) (operation : Option Operation) (given : Insn) (call : Record) (s after : State) (at skip : ℕ) → operation_of given.code ≡ operation → IsHeld held call s.a
    → effect operation given call s ≡ GoesOn skip after → GoesTo (at + (1 + skip)) (taken_at call.arch at held given)
goes-taken Number operation given call s after at skip is h does = plain-goes Number operation given call s after at skip refl is does
goes-taken Other operation given call s after at skip is h does = plain-goes Other operation given call s after at skip refl is does
goes-taken Architecture (Some (Branch comparison Constant)) given call s after at skip is h does = test-goes comparison given call s after at skip is h does
goes-taken Architecture None given call s after at skip is h does = plain-goes Architecture None given call s after at skip refl is does
goes-taken Architecture (Some (Branch comparison IndexRegister)) given call s after at skip is h does = plain-goes Architecture (Some (Branch comparison IndexRegister)) given call s after at skip refl is does
goes-taken Architecture (Some LoadRecord) given call s after at skip is h does = plain-goes Architecture (Some LoadRecord) given call s after at skip refl is does
goes-taken Architecture (Some (LoadConstant r)) given call s after at skip is h does = plain-goes Architecture (Some (LoadConstant r)) given call s after at skip refl is does
goes-taken Architecture (Some (LoadScratch r)) given call s after at skip is h does = plain-goes Architecture (Some (LoadScratch r)) given call s after at skip refl is does
goes-taken Architecture (Some (LoadLength r)) given call s after at skip is h does = plain-goes Architecture (Some (LoadLength r)) given call s after at skip refl is does
goes-taken Architecture (Some (StoreScratch r)) given call s after at skip is h does = plain-goes Architecture (Some (StoreScratch r)) given call s after at skip refl is does
goes-taken Architecture (Some (Compute a r)) given call s after at skip is h does = plain-goes Architecture (Some (Compute a r)) given call s after at skip refl is does
goes-taken Architecture (Some Negate) given call s after at skip is h does = plain-goes Architecture (Some Negate) given call s after at skip refl is does
goes-taken Architecture (Some Jump) given call s after at skip is h does = plain-goes Architecture (Some Jump) given call s after at skip refl is does
goes-taken Architecture (Some ReturnConstant) given call s after at skip is h does = plain-goes Architecture (Some ReturnConstant) given call s after at skip refl is does
goes-taken Architecture (Some ReturnAccumulator) given call s after at skip is h does = plain-goes Architecture (Some ReturnAccumulator) given call s after at skip refl is does
goes-taken Architecture (Some CopyToIndex) given call s after at skip is h does = plain-goes Architecture (Some CopyToIndex) given call s after at skip refl is does
goes-taken Architecture (Some CopyToAccumulator) given call s after at skip is h does = plain-goes Architecture (Some CopyToAccumulator) given call s after at skip refl is does

-- what A holds is found where the run comes, and it holds it
abbrev Follows : List Insn → Record → ℕ → State → Type 0
Follows insns call place s =
    (held : Held) × (slice_get (held_from call.arch 0 (replicate (length insns) None) (Some Other) insns) place ≡ Some (Some held)) × IsHeld held call s.a

held-there : (rest : List (Option Held)) (n : ℕ) → n < length rest → (found : Option Held) × (slice_get rest n ≡ Some found)
held-there [] n h = absurd (omega arith)
held-there (found ∷ rest) zero h = (found, refl)
held-there (found ∷ rest) (suc n) h = held-there rest n (omega arith)

found-most : (insns : List Insn) (call : Record) (place : ℕ) (s : State) (behind : Held) (found : Option Held) → IsHeld behind call s.a → AtMost behind found
    → slice_get (held_from call.arch 0 (replicate (length insns) None) (Some Other) insns) place ≡ Some found → Follows insns call place s
found-most insns call place s behind None held_so h e = absurd h
found-most insns call place s behind (Some held) held_so h e = (held, e, weaker-held held behind call s.a h held_so)

follows : (insns : List Insn) (call : Record) (steps place : ℕ) (s : State) → FitWords call → place < length insns → ComesTo insns call steps place s → Follows insns call place s
unfolding held_from
follows [] call zero place s small within comes = absurd (omega arith)
follows (given ∷ insns) call zero place s small within comes =
    let none = none-yet (length (given ∷ insns)) 0 in
    let first : slice_get (held_from call.arch 0 (replicate (length (given ∷ insns)) None) (Some Other) (given ∷ insns)) 0 ≡ Some (Some Other) = refl in
    (Other, subst (λ (p : ℕ). slice_get (held_from call.arch 0 (replicate (length (given ∷ insns)) None) (Some Other) (given ∷ insns)) p ≡ Some (Some Other)) (sym comes.0) first, tt)
follows insns call (suc steps) place s small within (before, earlier, comes, (given, is, (skip, does, to))) =
    let inside = slice_get_within insns before given is in
    let so_far = follows insns call steps before earlier small inside comes in
    let held = so_far.0 in
    let next = behind-held (operation_of given.code) given call earlier s skip held small does so_far.2 in
    let goes = goes-taken held (operation_of given.code) given call earlier s before skip refl so_far.2 does in
    let to_there = at-places call.arch (before + (1 + skip)) (0 + place) before (0 + before) held given given (omega arith) (omega arith) refl goes in
    let none : length (replicate {A = Option Held} (length insns) None) ≡ length insns = length-replicate (length insns) None in
    let size = held-length call.arch 0 (replicate (length insns) None) (Some Other) insns in
    let there = held-there (held_from call.arch 0 (replicate (length insns) None) (Some Other) insns) place (omega arith) in
    found-most insns call place s (held_behind (operation_of given.code) given held) there.0 next
    (leads-on call.arch 0 before place (replicate (length insns) None) (Some Other) insns given held there.0 (omega arith) (omega arith) is so_far.1 to_there there.1) there.1

pub comers_are_found : ComersAreFound
unfolding comes_to
comers_are_found insns call steps place s small within comes =
    let there = follows insns call steps place s small within comes in
    found-held call.arch 0 place (replicate (length insns) None) (Some Other) insns there.0 there.1
