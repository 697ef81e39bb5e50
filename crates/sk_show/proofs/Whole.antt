-- The text that is shown assembles to the instructions.
use Rattle.std.proofs.Common.{◌≡◌, ◌<◌, ◌≤◌, ◌+◌, ◌-◌, ◌*◌, ◌∙◌, ap, arith, refl, subst, sym, ℕ, List, [], ◌∷◌, ◌++◌, false, length, codes, map, replicate, inl, inr, length-append, append_assoc, Option, Some, None}
use Rattle.std.proofs.lemmas.Bool.{cases_Bool, cases_lt}
use Rattle.std.proofs.lemmas.List.{length-replicate}
use Rattle.std.proofs.lemmas.List.Elements.{All-head, All-tail}
use Rattle.std.specs.List.{All, AllByRecursion, IsDistinct}
use Rattle.std.specs.Str.{bytes_eq}
use Rattle.sk_text.specs.Lines.{lines_of}
use Rattle.sk_insn.specs.Operations.{operation_of}
use Rattle.sk_insn.specs.declared.insn.Insn.{Insn}
use Rattle.sk_filter.specs.Paths.{onward}
use Rattle.sk_asm.specs.Assembly.{AreGivenOnce, AssemblesText, Says, SaysLine, StandFor, labels_from}
use Rattle.sk_asm.specs.Grammar.{Statement, Silent, Marks, Plain, Jumps as JumpsTo, Branches}
use Rattle.sk_asm.specs.Labels.{Labels, label_place}
use Rattle.sk_asm.specs.RoundTrip.{IsInRange}
use Rattle.sk_asm.proofs.Words.{lines_of-line}
use Rattle.sk_names.specs.declared.architecture.Architecture.{Architecture}
use Rattle.sk_show.specs.declared.held.Held.{Held}
use Rattle.sk_show.specs.declared.held.Held.TheVariants.{Other}
use Rattle.sk_show.specs.Coming.{named_at}
use Rattle.sk_show.specs.Holding.{Jumps, held_before, held_behind, jump_to, jumps_behind, next_behind, ways_from, ways_to}
use Rattle.sk_show.specs.RoundTrip.{ShownAssembles}
use Rattle.sk_show.specs.Showing.{comment_line, insn_line, label_lines, label_name, lines_from, show_text, text_of}
use Rattle.sk_show.proofs.Landing.{HasJump, has-jump, jumps-length, still-jump}
use Rattle.sk_show.proofs.Lines.{AreLabelled, comment-says, comment-short, label-says, said-line}
use Rattle.sk_show.proofs.Names.{IsWord-label_line, other_label, same_label}

-- ---- labels in rising order

-- labels of places, each larger than the one before it, from one on
abbrev AreFrom : ℕ → Labels → Type 0
AreFrom low [] = Unit {0}
AreFrom low (entry ∷ labels) = (entry.0 ≡ label_name entry.1) × (low ≤ entry.1) × (entry.1 < 4096) × AreFrom (entry.1 + 1) labels

from-lower : (low lower : ℕ) (labels : Labels) → lower ≤ low → AreFrom low labels → AreFrom lower labels
from-lower low lower [] le h = tt
from-lower low lower (entry ∷ labels) le h = let above = h.1 in (h.0, omega arith, h.2, h.3)

-- what is found stands there
found-from : (low place : ℕ) (labels : Labels) (name : List ℕ) → AreFrom low labels → label_place labels name ≡ Some place → low ≤ place
found-from low place [] name from h = cc
found-from low place (entry ∷ labels) name from h = elim (cases_Bool (bytes_eq name entry.0)) [
  | inl t ↦
      let e : Some entry.1 ≡ Some place = rw t at h in
      let same : entry.1 ≡ place = cc in
      let above = from.1 in
      omega arith
  | inr f ↦
      let rest = found-from (entry.1 + 1) place labels name from.3 (rw f at h) in
      let above = from.1 in
      omega arith
]

-- the labels from a place on are none of an earlier one
none-earlier : (place low : ℕ) (labels : Labels) → place < low → place < 4096 → AreFrom low labels
    → AllByRecursion (λ name. bytes_eq (label_name place) name ≡ false) (map (λ label. label.0) labels)
none-earlier place low [] before near h = tt
none-earlier place low (entry ∷ labels) before near h =
    let above = h.1 in
    let other = other_label place entry.1 near h.2 (λ same. absurd (omega arith)) in (
      subst (λ (name : List ℕ). bytes_eq (label_name place) name ≡ false) (sym h.0) other,
      none-earlier place (entry.1 + 1) labels (omega arith) near h.3,
    )

given-once : (low : ℕ) (labels : Labels) → AreFrom low labels → AreGivenOnce labels
unfolding IsDistinct
given-once low [] h = tt
given-once low (entry ∷ labels) h =
    let rest = none-earlier entry.1 (entry.1 + 1) labels (omega arith) h.2 h.3 in (
      subst (λ (name : List ℕ). AllByRecursion (λ other. bytes_eq name other ≡ false) (map (λ label. label.0) labels)) (sym h.0) rest,
      given-once (entry.1 + 1) labels h.3,
    )

-- a label more, in front, is that of its place, and hides no other
first-found : (at : ℕ) (labels : Labels) → label_place ((label_name at, at) ∷ labels) (label_name at) ≡ Some at
first-found at labels = let t = same_label at in rw t refl

behind-found : (at place : ℕ) (labels : Labels) → at < 4096 → place < 4096 → at < place → label_place labels (label_name place) ≡ Some place
    → label_place ((label_name at, at) ∷ labels) (label_name place) ≡ Some place
behind-found at place labels near far before h = let f = other_label place at far near (λ same. absurd (omega arith)) in rw f h

-- ---- lines

text_lines : (lines : List (List ℕ)) (statements : List Statement) → Says lines statements → lines_of (text_of lines) ≡ lines
text_lines [] statements h = refl
text_lines (line ∷ lines) [] h = absurd h
text_lines (line ∷ lines) (statement ∷ statements) h =
    ap lines_of (append_assoc line (codes "\n") (text_of lines))
    ∙ lines_of-line line (text_of lines) h.0.printable
    ∙ ap (λ (rest : List (List ℕ)). line ∷ rest) (text_lines lines statements h.1)

-- ---- all instructions from a place on

-- the lines say statements that stand for the instructions, and give the labels of the places where jumps go
record Shown (count at : ℕ) (jumps : Jumps) (lines : List (List ℕ)) (insns : List Insn) : Type 0 where
  statements : List Statement
  says : Says lines statements
  ordered : AreFrom at (labels_from at statements)
  given : (place : ℕ) → at ≤ place → place < count → HasJump jumps place → label_place (labels_from at statements) (label_name place) ≡ Some place
  stand : (labels : Labels)
      → ((place : ℕ) → place < count → label_place (labels_from at statements) (label_name place) ≡ Some place → label_place labels (label_name place) ≡ Some place)
      → StandFor labels at statements insns
  short : length (text_of lines) ≤ 160 * length insns

-- the same without the label of the first place
record Unlabelled (count at : ℕ) (jumps : Jumps) (lines : List (List ℕ)) (insns : List Insn) : Type 0 where
  statements : List Statement
  says : Says lines statements
  ordered : AreFrom (at + 1) (labels_from at statements)
  given : (place : ℕ) → at < place → place < count → HasJump jumps place → label_place (labels_from at statements) (label_name place) ≡ Some place
  stand : (labels : Labels)
      → ((place : ℕ) → place < count → label_place (labels_from at statements) (label_name place) ≡ Some place → label_place labels (label_name place) ≡ Some place)
      → StandFor labels at statements insns
  short : length (text_of lines) ≤ 148 + 160 * (length insns - 1)

text-length : (line : List ℕ) (lines : List (List ℕ)) → length (text_of (line ∷ lines)) ≡ length line + 1 + length (text_of lines)
text-length line lines =
    let whole = length-append (line ++ codes "\n") (text_of lines) in
    let ended = length-append line (codes "\n") in
    omega arith

-- the comment and the line of an instruction, in front of those of the others
module _ (by : Option Architecture) (count at : ℕ) (jumps : Jumps) (held behind : Held) (given : Insn) (insns : List Insn) (lines : List (List ℕ))
    (few : count ≤ 4096) (len : length jumps ≡ count) (within : at < count) (range : IsInRange given)
    (rest : Shown count (at + 1) (jumps_behind at (onward at (operation_of given.code) given) behind jumps) lines insns) where
  labelled : (labels : Labels)
      → ((place : ℕ) → place < count → label_place (labels_from (at + 1) rest.statements) (label_name place) ≡ Some place → label_place labels (label_name place) ≡ Some place)
      → AreLabelled count at given labels
  labelled labels up place goes further inside =
      up place inside
      (rest.given place (omega arith) inside (has-jump at place (onward at (operation_of given.code) given) behind jumps goes further (omega arith)))

  still-given : (place : ℕ) → at < place → place < count → HasJump jumps place → label_place (labels_from (at + 1) rest.statements) (label_name place) ≡ Some place
  still-given place further inside has =
      rest.given place (omega arith) inside (still-jump at place (onward at (operation_of given.code) given) behind jumps (omega arith) has)

  front-short : length (insn_line count at given) ≤ 64
      → length (text_of (comment_line by at held given ∷ insn_line count at given ∷ lines)) ≤ 148 + 160 * (length (given ∷ insns) - 1)
  front-short most =
      let comment = comment-short by at held given (omega arith) range in
      let first = comment.short in
      let others = rest.short in
      let one = text-length (comment_line by at held given) (insn_line count at given ∷ lines) in
      let two = text-length (insn_line count at given) lines in
      omega arith

  front : (statement : Statement) → SaysLine (insn_line count at given) statement
      → ((labels : Labels) → AreLabelled count at given labels → StandFor labels at (statement ∷ []) (given ∷ []))
      → length (insn_line count at given) ≤ 64
      → Unlabelled count at jumps (comment_line by at held given ∷ insn_line count at given ∷ lines) (given ∷ insns)
  front Silent said stand most = absurd (stand (labels_from (at + 1) rest.statements) (labelled (labels_from (at + 1) rest.statements) (λ place inside h. h)))
  front (Marks name) said stand most = absurd (stand (labels_from (at + 1) rest.statements) (labelled (labels_from (at + 1) rest.statements) (λ place inside h. h)))
  front (Plain other) said stand most = record {
    statements = Silent ∷ Plain other ∷ rest.statements;
    says = (comment-says by at held given (omega arith) range, (said, rest.says));
    ordered = rest.ordered;
    given = still-given;
    stand = λ labels up. ((stand labels (labelled labels up)).0, rest.stand labels up);
    short = front-short most;
  }
  front (JumpsTo code to) said stand most = record {
    statements = Silent ∷ JumpsTo code to ∷ rest.statements;
    says = (comment-says by at held given (omega arith) range, (said, rest.says));
    ordered = rest.ordered;
    given = still-given;
    stand = λ labels up. ((stand labels (labelled labels up)).0, rest.stand labels up);
    short = front-short most;
  }
  front (Branches code k jt jf) said stand most = record {
    statements = Silent ∷ Branches code k jt jf ∷ rest.statements;
    says = (comment-says by at held given (omega arith) range, (said, rest.says));
    ordered = rest.ordered;
    given = still-given;
    stand = λ labels up. ((stand labels (labelled labels up)).0, rest.stand labels up);
    short = front-short most;
  }

-- and the label of their place, if a jump goes there
with-label : (count at : ℕ) (jumps : Jumps) (jump : Option Held) (lines : List (List ℕ)) (given : Insn) (insns : List Insn) → count ≤ 4096 → at < count
    → jump_to jumps at ≡ jump → Unlabelled count at jumps lines (given ∷ insns) → Shown count at jumps (label_lines at jump ++ lines) (given ∷ insns)
with-label count at jumps None lines given insns few within none rest = record {
  statements = rest.statements;
  says = rest.says;
  ordered = from-lower (at + 1) at (labels_from at rest.statements) (omega arith) rest.ordered;
  given = λ place from inside has. elim (cases_lt at place) [
    | inl further ↦ rest.given place further inside has
    | inr here ↦
        let same : place ≡ at = omega arith in
        let no = rw (same, none) at has in
        cc
  ];
  stand = rest.stand;
  short = let short = rest.short in omega arith;
}
with-label count at jumps (Some held) lines given insns few within some rest = record {
  statements = Marks (label_name at) ∷ rest.statements;
  says = (label-says at (omega arith), rest.says);
  ordered = (refl, omega arith, omega arith, rest.ordered);
  given = λ place from inside has. elim (cases_lt at place) [
    | inl further ↦ behind-found at place (labels_from at rest.statements) (omega arith) (omega arith) further (rest.given place further inside has)
    | inr here ↦
        let same : at ≡ place = omega arith in
        subst (λ (p : ℕ). label_place ((label_name at, at) ∷ labels_from at rest.statements) (label_name p) ≡ Some p) same
        (first-found at (labels_from at rest.statements))
  ];
  stand = λ labels up. rest.stand labels (λ place inside found.
      let from = found-from (at + 1) place (labels_from at rest.statements) (label_name place) rest.ordered found in
      up place inside (behind-found at place (labels_from at rest.statements) (omega arith) (omega arith) (omega arith) found));
  short =
      let short = rest.short in
      let word = IsWord-label_line at (omega arith) in
      let few_bytes = word.short in
      let one = text-length (label_name at ++ codes ":") lines in
      omega arith;
}

shown-from : (named : ℕ → Option Architecture) (count at : ℕ) (jumps : Jumps) (next : Option Held) (insns : List Insn) → count ≤ 4096 → length jumps ≡ count → at + length insns ≡ count → All IsInRange insns
    → Shown count at jumps (lines_from named count at (ways_from at jumps next insns) insns) insns
unfolding lines_from ways_from
shown-from named count at jumps next [] few len all ranges = record {
  statements = [];
  says = tt;
  ordered = tt;
  given = λ place from inside has. absurd (omega arith);
  stand = λ labels up. tt;
  short = omega arith;
}
shown-from named count at jumps next (given ∷ insns) few len all ranges =
    let range = All-head IsInRange given insns ranges in
    let within : at < count = omega arith in
    let goes = onward at (operation_of given.code) given in
    let held = held_before (jump_to jumps at) next in
    let behind = held_behind (operation_of given.code) given held in
    let others = lines_from named count (at + 1) (ways_from (at + 1) (jumps_behind at goes behind jumps) (next_behind at goes behind) insns) insns in
    let rest : Shown count (at + 1) (jumps_behind at goes behind jumps) others insns =
    shown-from named count (at + 1) (jumps_behind at goes behind jumps) (next_behind at goes behind) insns few (jumps-length at goes behind jumps ∙ len) (omega arith)
    (All-tail IsInRange given insns ranges)
    in
    let line = said-line count at given few range in
    let here = front (named at) count at jumps held behind given insns others few len within range rest line.statement line.says line.stand line.short in
    subst (λ lines. Shown count at jumps lines (given ∷ insns))
    (sym (append_assoc (label_lines at (jump_to jumps at)) (comment_line (named at) at held given ∷ insn_line count at given ∷ []) others))
    (with-label count at jumps (jump_to jumps at) (comment_line (named at) at held given ∷ insn_line count at given ∷ others) given insns few within refl here)

pub shown_assembles : ShownAssembles
unfolding ways_to
shown_assembles by insns ranges few =
    let count = length insns in
    let all = shown-from (named_at by insns) count 0 (replicate count None) (Some Other) insns few (length-replicate count None) (omega arith) ranges in
    let short = all.short in
    let same = text_lines (lines_from (named_at by insns) count 0 (ways_from 0 (replicate count None) (Some Other) insns) insns) all.statements all.says in (
      omega arith,
      (
        all.statements,
        record {
          says = subst (λ lines. Says lines all.statements) (sym same) all.says;
          once = given-once 0 (labels_from 0 all.statements) all.ordered;
          few = few;
          stand = all.stand (labels_from 0 all.statements) (λ place inside h. h);
        },
      ),
    )

-- the text of a loop that has come to the end of the instructions
pub text-assembles : (by : Architecture) (insns : List Insn) (text : List ℕ) → text ≡ show_text by insns → All IsInRange insns → length insns ≤ 4096 → AssemblesText text insns
text-assembles by insns text same ranges few = subst (λ t. AssemblesText t insns) (sym same) (shown_assembles by insns ranges few)
