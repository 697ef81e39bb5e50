-- A turn of the loop over the instructions.
use Rattle.std.proofs.Common.{◌≡◌, ◌+◌, ◌∙◌, ap, arith, subst, sym, ℕ, List, [], ◌∷◌, ◌++◌, length, codes, Option, append_assoc, append-nil}
use Rattle.std.proofs.lemmas.List.Concat.{flat_map-append}
use Rattle.std.proofs.lemmas.List.Elements.{All-cons}
use Rattle.std.specs.List.{All}
use Rattle.sk_asm.specs.RoundTrip.{IsInRange}
use Rattle.sk_insn.specs.Operations.{operation_of}
use Rattle.sk_insn.specs.declared.insn.Insn.{Insn}
use Rattle.sk_names.specs.declared.architecture.Architecture.{Architecture}
use Rattle.sk_filter.specs.Paths.{onward}
use Rattle.sk_show.specs.declared.held.Held.{Held}
use Rattle.sk_show.specs.Holding.{Jumps, held_before, held_behind, jump_to, jumps_behind, next_behind, ways_from}
use Rattle.sk_show.specs.Showing.{lines_from, lines_of_insn, text_of}

pub text_of-append : (lines others : List (List ℕ)) → text_of (lines ++ others) ≡ text_of lines ++ text_of others
text_of-append lines others = flat_map-append (λ line. line ++ codes "\n") lines others

pub shown_turn : (named : ℕ → Option Architecture) (by : Option Architecture) (count at : ℕ) (jumps jumps_new : Jumps) (next next_new jump : Option Held) (held behind : Held) (given : Insn) (rest left : List Insn) (text text_new total : List ℕ)
    → rest ≡ given ∷ left → by ≡ named at → jump ≡ jump_to jumps at → held ≡ held_before jump next → text_new ≡ text ++ text_of (lines_of_insn by count at (record { jump = jump; held = held }) given)
    → behind ≡ held_behind (operation_of given.code) given held
    → jumps_new ≡ jumps_behind at (onward at (operation_of given.code) given) behind jumps
    → next_new ≡ next_behind at (onward at (operation_of given.code) given) behind
    → text ++ text_of (lines_from named count at (ways_from at jumps next rest) rest) ≡ total
    → text_new ++ text_of (lines_from named count (at + 1) (ways_from (at + 1) jumps_new next_new left) left) ≡ total
unfolding lines_from ways_from
shown_turn named by count at jumps jumps_new next next_new jump held behind given rest left text text_new total cut y j h t b s n so_far =
    let goes = onward at (operation_of given.code) given in
    let here = held_before (jump_to jumps at) next in
    let then = held_behind (operation_of given.code) given here in
    let first = lines_of_insn (named at) count at (record { jump = jump_to jumps at; held = here }) given in
    let others = lines_from named count (at + 1) (ways_from (at + 1) (jumps_behind at goes then jumps) (next_behind at goes then) left) left in
    let whole : text ++ text_of (first ++ others) ≡ total = rw cut at so_far in
    let parts : (text ++ text_of first) ++ text_of others ≡ total =
    append_assoc text (text_of first) (text_of others) ∙ ap (λ (l : List ℕ). text ++ l) (sym (text_of-append first others)) ∙ whole
    in
    rw (t, s, n, b, h, j, y) parts

-- no instruction is left
pub shown_end : (named : ℕ → Option Architecture) (count at : ℕ) (jumps : Jumps) (next : Option Held) (rest : List Insn) (text total : List ℕ) → length rest ≡ 0
    → text ++ text_of (lines_from named count at (ways_from at jumps next rest) rest) ≡ total → text ≡ total
unfolding lines_from ways_from
shown_end named count at jumps next [] text total none so_far = sym (append-nil text) ∙ so_far
shown_end named count at jumps next (given ∷ rest) text total none so_far = absurd (omega arith)

pub ranges_turn : (given : Insn) (rest left insns : List Insn) → rest ≡ given ∷ left → IsInRange given → (All IsInRange rest → All IsInRange insns)
    → All IsInRange left → All IsInRange insns
ranges_turn given rest left insns cut range so_far ranges = so_far (subst (All IsInRange) (sym cut) (All-cons IsInRange given left range ranges))

pub ranges_end : (rest insns : List Insn) → length rest ≡ 0 → (All IsInRange rest → All IsInRange insns) → All IsInRange insns
ranges_end [] insns none so_far = so_far (λ k d within. absurd (omega arith))
ranges_end (given ∷ rest) insns none so_far = absurd (omega arith)
