-- A listing of at most 4096 instructions assembles to them.
use Rattle.std.proofs.Common.{◌≡◌, ◌≤◌, ◌+◌, ◌*◌, ◌∙◌, ap, arith, refl, subst, sym, ℕ, List, [], ◌∷◌, length, take, append_assoc, length-append, take_all}
use Rattle.std.proofs.lemmas.Bool.{le-ltb}
use Rattle.std.proofs.lemmas.List.Elements.{All-head, All-tail}
use Rattle.std.specs.List.{All, join_with_byte}
use Rattle.sk_text.specs.Lines.{lines_of}
use Rattle.sk_insn.specs.declared.insn.Insn.{Insn}
use Rattle.sk_asm.specs.Assembly.{AssemblesText, Says, SaysLine, StandFor, labels_from}
use Rattle.sk_asm.specs.Grammar.{Statement, Silent, Marks, Plain, Jumps, Branches}
use Rattle.sk_asm.specs.Passes.{assembled}
use Rattle.sk_asm.proofs.Distinct.{given_once-none}
use Rattle.sk_asm.proofs.Meaning.{assembled_lines-only}
use Rattle.sk_asm.specs.Listing.{line_for, listing_of, words_for}
use Rattle.sk_asm.specs.RoundTrip.{IsInRange, ListingAssembles, ListingIsAssembled}
use Rattle.sk_asm.proofs.Words.{lines_of-line}
use Rattle.sk_asm.proofs.Lines.{length-line, line-says}

-- lines that give no label say statements of the instructions
record Listed (lines : List (List ℕ)) (insns : List Insn) : Type 0 where
  statements : List Statement
  says : Says lines statements
  no_label : (at : ℕ) → labels_from at statements ≡ []
  stand : (at : ℕ) → StandFor [] at statements insns

-- one line and one instruction more
module _ (line : List ℕ) (lines : List (List ℕ)) (given : Insn) (insns : List Insn) (rest : Listed lines insns) where
  listed-more : (statement : Statement) → SaysLine line statement → ((at : ℕ) → StandFor [] at (statement ∷ []) (given ∷ [])) → Listed (line ∷ lines) (given ∷ insns)
  listed-more Silent said stand = absurd (stand 0)
  listed-more (Marks name) said stand = absurd (stand 0)
  listed-more (Plain other) said stand = record {
    statements = Plain other ∷ rest.statements;
    says = (said, rest.says);
    no_label = λ at. rest.no_label (at + 1);
    stand = λ at. ((stand at).0, rest.stand (at + 1));
  }
  listed-more (Jumps code to) said stand = record {
    statements = Jumps code to ∷ rest.statements;
    says = (said, rest.says);
    no_label = λ at. rest.no_label (at + 1);
    stand = λ at. ((stand at).0, rest.stand (at + 1));
  }
  listed-more (Branches code k jt jf) said stand = record {
    statements = Branches code k jt jf ∷ rest.statements;
    says = (said, rest.says);
    no_label = λ at. rest.no_label (at + 1);
    stand = λ at. ((stand at).0, rest.stand (at + 1));
  }

-- the lines of a listing are those of its instructions
lines_of-listing : (given : Insn) (insns : List Insn) → IsInRange given → lines_of (listing_of (given ∷ insns)) ≡ join_with_byte 32 (words_for given) ∷ lines_of (listing_of insns)
lines_of-listing given insns range =
    let said = line-says given range in
    ap lines_of (append_assoc (join_with_byte 32 (words_for given)) (10 ∷ []) (listing_of insns))
    ∙ lines_of-line (join_with_byte 32 (words_for given)) (listing_of insns) said.says.printable

listed : (insns : List Insn) → All IsInRange insns → Listed (lines_of (listing_of insns)) insns
listed [] ranges = record { statements = []; says = tt; no_label = λ at. refl; stand = λ at. tt }
listed (given ∷ insns) ranges =
    let range = All-head IsInRange given insns ranges in
    let said = line-says given range in
    let rest = listed insns (All-tail IsInRange given insns ranges) in
    subst (λ lines. Listed lines (given ∷ insns)) (sym (lines_of-listing given insns range))
    (listed-more (join_with_byte 32 (words_for given)) (lines_of (listing_of insns)) given insns rest said.statement said.says said.stand)

length-listing : (insns : List Insn) → All IsInRange insns → length (listing_of insns) ≤ 61 * length insns
length-listing [] ranges = omega arith
length-listing (given ∷ insns) ranges =
    let line = length-line given (All-head IsInRange given insns ranges) in
    let rest = length-listing insns (All-tail IsInRange given insns ranges) in
    let whole = length-append (line_for given) (listing_of insns) in
    let ended = length-append (join_with_byte 32 (words_for given)) (10 ∷ []) in
    omega arith

pub listing_assembles : ListingAssembles
listing_assembles insns ranges few =
    let list = listed insns ranges in
    let short = length-listing insns ranges in (
      omega arith,
      (
        list.statements,
        record {
          says = list.says;
          once = rw (list.no_label 0) (given_once-none ℕ);
          few = few;
          stand = rw (list.no_label 0) (list.stand 0);
        },
      ),
    )

pub listing_is_assembled : ListingIsAssembled
unfolding assembled
listing_is_assembled insns ranges few =
    let stands = listing_assembles insns ranges few in
    let short = le-ltb 1048576 (length (listing_of insns)) stands.0 in
    rw short (assembled_lines-only 1 (lines_of (listing_of insns)) insns stands.1)

-- the text of a loop that has come to the end of the instructions
pub text-assembles : (insns : List Insn) (index : ℕ) (text : List ℕ) → length insns ≤ index → text ≡ listing_of (take index insns) → All IsInRange (take index insns) → length insns ≤ 4096 → AssemblesText text insns
text-assembles insns index text ended same ranges few =
    let whole = take_all index insns ended in
    let ranged = subst (All IsInRange) whole ranges in
    subst (λ t. AssemblesText t insns) (sym (same ∙ ap listing_of whole)) (listing_assembles insns ranged few)
