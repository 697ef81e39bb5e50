use Rattle.std.proofs.Common.{ℕ, List, ◌≡◌, ◌<◌, ◌≤◌, length, Option, Some, None, slice_index_or, below_more, arith}
use Rattle.std.specs.Prelude.{slice_get, IsSomeAnd, IfSome}
use Rattle.std.proofs.lemmas.Option.{slice_get-get_or}
use Rattle.sk_insn.specs.declared.insn.Insn.{Insn}
use Rattle.sk_insn.specs.Operations.{operation_of}
use Rattle.sk_filter.specs.Paths.{loaded_word, Loads, IsUnstored}
use Rattle.sk_filter.specs.Fits.{TakesConstant, NoFaultBefore}
use Rattle.sk_filter.proofs.PlaceFaults.{FitsAt, no_insn, loads_there, stores_there, stays_in_room}
use Rattle.sk_filter.proofs.ForwardPass.{counts_start, counts_more, lacks_unstored, unstored_lacks}
use Rattle.sk_filter.proofs.Stages.{length_bounds, fits_at, goes_on, first_unstored_at, all_stored}
use Rattle.sk_filter.proofs.pass.first_unstored.Goals as goal

short : (insns : List Insn) → NoFaultBefore insns 5 → length insns ≤ 4096
short insns clear = (length_bounds insns (λ fault early. clear fault (omega arith))).1

fits : (insns : List Insn) → NoFaultBefore insns 5 → (place : ℕ) → FitsAt insns place
fits insns clear = fits_at insns (λ fault early. clear fault (omega arith))

-- a word that is loaded is there
small : (loaded : Option ℕ) (word : ℕ) → IsSomeAnd loaded (λ k. k ≡ word) → IfSome loaded (λ k. k < 16) → word < 16
small None word loads there = absurd loads
small (Some k) word loads there = omega arith

loads_below : (word : ℕ) (insn : Insn) → Loads word (operation_of insn.code) insn → TakesConstant (operation_of insn.code) insn → word < 16
loads_below word insn loads takes =
    small (loaded_word (operation_of insn.code) insn) word loads (loads_there insn (operation_of insn.code) takes)

pub loop-at-init : goal.loop-at-init
loop-at-init c = record {
  room = omega arith;
  counts = counts_start c.args.insns.now;
  stored = λ place below. absurd (omega arith);
}

-- there are at most 4096 instructions
pub bounds-stored-at : goal.bounds-stored-at
bounds-stored-at c =
    let most : length c.args.insns.now ≤ 4096 = short c.args.insns.now c.requires in
    let inside : c.loop-at.at < length c.args.insns.now = c.loop-at-test.true in
    omega arith

pub missing_word-requires : goal.missing_word-requires
missing_word-requires c =
    let insns = c.args.insns.now in
    let at = c.loop-at.at in
    let insn = slice_index_or insns at no_insn in
    loads_there insn (operation_of insn.code) (fits insns c.requires at insn (slice_get-get_or insns at no_insn c.loop-at-test.true)).0

pub returns-in-Some-clause-first : goal.returns-in-Some-clause-first
returns-in-Some-clause-first c =
    let insns = c.args.insns.now in
    let at = c.loop-at.at in
    let insn = slice_index_or insns at no_insn in
    let word = c.in-Some.word in
    let here : slice_get insns at ≡ Some insn = slice_get-get_or insns at no_insn c.loop-at-test.true in
    let most : length insns ≤ 4096 = short insns c.requires in
    let inside : at < length insns = c.loop-at-test.true in
    let loads = c.in-Some.ensures.some.0 in
    let lacks = c.in-Some.ensures.some.1 in
    let below = loads_below word insn loads (fits insns c.requires at insn here).0 in
    first_unstored_at insns at word c.requires c.loop-at.invariant.stored (lacks_unstored insns at word insn c.loop-at.stored here (omega arith) below c.loop-at.invariant.counts loads lacks)

pub spread-requires-clause-at : goal.spread-requires-clause-at
spread-requires-clause-at c =
    let most : length c.args.insns.now ≤ 4096 = short c.args.insns.now c.requires in
    let inside : c.loop-at.at < length c.args.insns.now = c.loop-at-test.true in
    let room : length c.loop-at.stored ≡ 4096 = c.loop-at.invariant.room in
    omega arith

pub spread-requires-clause-there : goal.spread-requires-clause-there
spread-requires-clause-there c =
    let insns = c.args.insns.now in
    let at = c.loop-at.at in
    let insn = slice_index_or insns at no_insn in
    stores_there insn (operation_of insn.code) (fits insns c.requires at insn (slice_get-get_or insns at no_insn c.loop-at-test.true)).0

pub spread-requires-clause-inside : goal.spread-requires-clause-inside
spread-requires-clause-inside c =
    let insns = c.args.insns.now in
    let at = c.loop-at.at in
    let insn = slice_index_or insns at no_insn in
    let here : slice_get insns at ≡ Some insn = slice_get-get_or insns at no_insn c.loop-at-test.true in
    let most : length insns ≤ 4096 = short insns c.requires in
    let room : length c.loop-at.stored ≡ 4096 = c.loop-at.invariant.room in
    stays_in_room at (length insns) (length c.loop-at.stored) insn (operation_of insn.code) (omega arith) (fits insns c.requires at insn here) (λ no_return. goes_on insns c.requires at (insn, here, no_return))

pub loop-at-preserved : goal.loop-at-preserved
loop-at-preserved c =
    let insns = c.args.insns.now in
    let at = c.loop-at.at in
    let insn = slice_index_or insns at no_insn in
    let here : slice_get insns at ≡ Some insn = slice_get-get_or insns at no_insn c.loop-at-test.true in
    let most : length insns ≤ 4096 = short insns c.requires in
    let inside : at < length insns = c.loop-at-test.true in
    let below : at < 4096 = omega arith in
    let room : length c.loop-at.stored ≡ 4096 = c.loop-at.invariant.room in
    let none = c.in_default.ensures.none in
    record {
      room = omega arith;
      counts = counts_more insns at insn c.loop-at.stored c.spread.new.stored here below room c.loop-at.invariant.counts c.spread.ensures;
      stored = below_more (λ place. (word : ℕ) → IsUnstored insns place word → ⊥) at c.loop-at.invariant.stored (λ word unstored. let both = unstored_lacks insns at word insn c.loop-at.stored here below (λ loads. loads_below word insn loads (fits insns c.requires at insn here).0) c.loop-at.invariant.counts unstored in none word both.0 both.1);
    }

pub returns-clause-none : goal.returns-clause-none
returns-clause-none c =
    all_stored c.args.insns.now c.requires (λ place inside. c.loop-at.invariant.stored place (omega arith))
