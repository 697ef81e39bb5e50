-- A completed text says what the text as it is written expects.
use Rattle.std.proofs.Common.{◌≡◌, ℕ, zero, suc, nat_le, List, [], ◌∷◌, ◌++◌, map, refl, sym, ap, ◌∙◌, subst, inl, inr, arith, append_assoc, Option, Some, None}
use Rattle.std.specs.Prelude.{Contains, unwrap_or}
use Rattle.std.proofs.lemmas.Bool.{cases_Bool}
use Rattle.std.proofs.lemmas.List.{map-append}
use Rattle.sk_insn.specs.declared.record.Record.{Record}
use Rattle.sk_policy_text.specs.declared.sentence.Range.{Range}
use Rattle.sk_policy_text.specs.declared.sentence.Sentence.{Sentence}
use Rattle.sk_policy_text.specs.declared.sentence.Sentence.TheVariants as sentence
use Rattle.sk_policy_text.specs.declared.stated.Stated.{Stated}
use Rattle.sk_policy_text.specs.PolicyRows.{Part, sentences_of, part_in, parts_in, parts_at, parts_of, has_number, times, once, is_of_x32, architecture_of, default_in, others_in, default_of, stated_others, others_of, or_else}
use Rattle.sk_policy_text.specs.PolicySays.{SaysCases, SaysRow, unnamed as unnamed_in}
use Rattle.sk_policy_text.specs.Expecting.{anything, else_of, else_before, wanting_behind, closed, added_default, added_others, completed, ExpectsCases, ExpectsRow, unnamed, CompletedExpects}
use Rattle.sk_policy_text.proofs.Ranging.{times_cons}

-- ---- rows

-- a row wants `else` behind itself where it has no verdict
abbrev wanting_of : Option ℕ → ℕ → Option ℕ
wanting_of None line = Some line
wanting_of (Some verdict) line = None

-- a range, before what completes the text
abbrev whole_part : List Stated → Part → Part
whole_part tail part = record {
  first = part.first;
  last = part.last;
  line = part.line;
  verdict = part.verdict;
  behind = closed (wanting_of part.verdict part.line) part.behind ++ tail;
}

no_rows : (wanting : Option ℕ) (rest : List Stated) → parts_of (else_of wanting ++ rest) ≡ parts_of rest
no_rows None rest = refl
no_rows (Some line) rest = refl

no_rows_before : (wanting : Option ℕ) (it : Sentence) (rest : List Stated) → parts_of (else_before wanting it ++ rest) ≡ parts_of rest
no_rows_before wanting (sentence.Arch architecture) rest = no_rows wanting rest
no_rows_before wanting (sentence.Default verdict) rest = no_rows wanting rest
no_rows_before wanting (sentence.Others verdict) rest = no_rows wanting rest
no_rows_before wanting (sentence.Row ranges verdict) rest = no_rows wanting rest
no_rows_before wanting (sentence.Case verdict words) rest = refl
no_rows_before wanting (sentence.Else verdict) rest = refl

part_whole : (range : Range) (line : ℕ) (verdict : Option ℕ) (behind tail : List Stated)
    → part_in range line verdict (closed (wanting_of verdict line) behind ++ tail) ≡ map (whole_part tail) (part_in range line verdict behind)
part_whole range line verdict behind tail = elim (cases_Bool (nat_le range.first range.last)) [ inl t ↦ rw t refl | inr f ↦ rw f refl ]

parts_whole : (ranges : List Range) (line : ℕ) (verdict : Option ℕ) (behind tail : List Stated)
    → parts_in ranges line verdict (closed (wanting_of verdict line) behind ++ tail) ≡ map (whole_part tail) (parts_in ranges line verdict behind)
parts_whole [] line verdict behind tail = refl
parts_whole (range ∷ ranges) line verdict behind tail =
    let first = part_whole range line verdict behind tail in
    let others = parts_whole ranges line verdict behind tail in
    ap (λ parts. parts ++ parts_in ranges line verdict (closed (wanting_of verdict line) behind ++ tail)) first
    ∙ ap (λ parts. map (whole_part tail) (part_in range line verdict behind) ++ parts) others
    ∙ sym (map-append (whole_part tail) (part_in range line verdict behind) (parts_in ranges line verdict behind))

whole_at : (it : Sentence) (wanting : Option ℕ) (line : ℕ) (behind tail : List Stated)
    → parts_at it line (closed (wanting_behind wanting line it) behind ++ tail) ≡ map (whole_part tail) (parts_at it line behind)
whole_at (sentence.Arch architecture) wanting line behind tail = refl
whole_at (sentence.Default verdict) wanting line behind tail = refl
whole_at (sentence.Others verdict) wanting line behind tail = refl
whole_at (sentence.Row ranges None) wanting line behind tail = parts_whole ranges.items line None behind tail
whole_at (sentence.Row ranges (Some verdict)) wanting line behind tail = parts_whole ranges.items line (Some verdict) behind tail
whole_at (sentence.Case verdict words) wanting line behind tail = refl
whole_at (sentence.Else verdict) wanting line behind tail = refl

rows_whole : (wanting : Option ℕ) (text tail : List Stated) → parts_of tail ≡ [] → parts_of (closed wanting text ++ tail) ≡ map (whole_part tail) (parts_of text)
rows_whole wanting [] tail none = no_rows wanting tail ∙ none
rows_whole wanting (first ∷ behind) tail none =
    let it = first.sentence in
    let rest = closed (wanting_behind wanting first.line it) behind in
    ap parts_of (append_assoc (else_before wanting it) (first ∷ rest) tail)
    ∙ no_rows_before wanting it (first ∷ (rest ++ tail))
    ∙ ap (λ parts. parts ++ parts_of (rest ++ tail)) (whole_at it wanting first.line behind tail)
    ∙ ap (λ parts. map (whole_part tail) (parts_at it first.line behind) ++ parts) (rows_whole (wanting_behind wanting first.line it) behind tail none)
    ∙ sym (map-append (whole_part tail) (parts_at it first.line behind) (parts_of behind))

times_whole : (tail : List Stated) (parts : List Part) (nr : ℕ) → times (map (whole_part tail) parts) nr ≡ times parts nr
times_whole tail [] nr = refl
times_whole tail (part ∷ parts) nr =
    let same : once nr (whole_part tail part) ≡ once nr part = refl in
    omega (arith, same, times_cons (whole_part tail part) (map (whole_part tail) parts) nr, times_cons part parts nr, times_whole tail parts nr)

record Original (tail : List Stated) (parts : List Part) (whole : Part) : Type 0 where
  part : Part
  there : Contains parts part
  is : whole_part tail part ≡ whole

later_original : (tail : List Stated) (first : Part) (parts : List Part) (whole : Part) → Original tail parts whole → Original tail (first ∷ parts) whole
later_original tail first parts whole it = record {
  part = it.part;
  there = (suc it.there.0, omega (arith, it.there.1), it.there.2);
  is = it.is;
}

original : (tail : List Stated) (parts : List Part) (whole : Part) → Contains (map (whole_part tail) parts) whole → Original tail parts whole
original tail [] whole there = absurd (omega (arith, there.1))
original tail (first ∷ parts) whole (zero, less, is) = record { part = first; there = (0, omega arith, refl); is = is }
original tail (first ∷ parts) whole (suc k, less, is) = later_original tail first parts whole (original tail parts whole (k, omega (arith, less), is))

-- ---- cases

cases_step : (line own : ℕ) (it : Sentence) (rest tail : List Stated) (call : Record) (value : ℕ)
    → (SaysCases (sentences_of (closed (Some line) rest ++ tail)) call value → ExpectsCases (sentences_of rest) call value)
    → SaysCases (sentences_of ((else_before (Some line) it ++ (record { line = own; sentence = it } ∷ closed (wanting_behind (Some line) own it) rest)) ++ tail)) call value
    → ExpectsCases (it ∷ sentences_of rest) call value
cases_step line own (sentence.Arch architecture) rest tail call value later says = says
cases_step line own (sentence.Default verdict) rest tail call value later says = says
cases_step line own (sentence.Others verdict) rest tail call value later says = says
cases_step line own (sentence.Row ranges verdict) rest tail call value later says = says
cases_step line own (sentence.Case verdict words) rest tail call value later says = (says.0, says.1, says.2, λ failed. later (says.3 failed))
cases_step line own (sentence.Else verdict) rest tail call value later says = says

cases_expected : (line : ℕ) (behind tail : List Stated) (call : Record) (value : ℕ)
    → SaysCases (sentences_of (closed (Some line) behind ++ tail)) call value → ExpectsCases (sentences_of behind) call value
cases_expected line [] tail call value says = says
cases_expected line (first ∷ rest) tail call value says =
    cases_step line first.line first.sentence rest tail call value (cases_expected line rest tail call value) says

row_expected : (verdict : Option ℕ) (line : ℕ) (behind tail : List Stated) (call : Record) (value : ℕ)
    → SaysRow verdict (sentences_of (closed (wanting_of verdict line) behind ++ tail)) call value → ExpectsRow verdict (sentences_of behind) call value
row_expected (Some verdict) line behind tail call value says = says
row_expected None line behind tail call value says = cases_expected line behind tail call value says

-- ---- what is said once

no_default : (wanting : Option ℕ) (rest : List Stated) → default_of (sentences_of (else_of wanting ++ rest)) ≡ default_of (sentences_of rest)
no_default None rest = refl
no_default (Some line) rest = refl

no_default_before : (wanting : Option ℕ) (it : Sentence) (rest : List Stated)
    → default_of (sentences_of (else_before wanting it ++ rest)) ≡ default_of (sentences_of rest)
no_default_before wanting (sentence.Arch architecture) rest = no_default wanting rest
no_default_before wanting (sentence.Default verdict) rest = no_default wanting rest
no_default_before wanting (sentence.Others verdict) rest = no_default wanting rest
no_default_before wanting (sentence.Row ranges verdict) rest = no_default wanting rest
no_default_before wanting (sentence.Case verdict words) rest = refl
no_default_before wanting (sentence.Else verdict) rest = refl

or_else_assoc : (a b c : Option ℕ) → or_else a (or_else b c) ≡ or_else (or_else a b) c
or_else_assoc None b c = refl
or_else_assoc (Some n) b c = refl

default_whole : (wanting : Option ℕ) (text tail : List Stated)
    → default_of (sentences_of (closed wanting text ++ tail)) ≡ or_else (default_of (sentences_of text)) (default_of (sentences_of tail))
default_whole wanting [] tail = no_default wanting tail
default_whole wanting (first ∷ behind) tail =
    let it = first.sentence in
    let rest = closed (wanting_behind wanting first.line it) behind in
    ap (λ text. default_of (sentences_of text)) (append_assoc (else_before wanting it) (first ∷ rest) tail)
    ∙ no_default_before wanting it (first ∷ (rest ++ tail))
    ∙ ap (or_else (default_in it)) (default_whole (wanting_behind wanting first.line it) behind tail)
    ∙ or_else_assoc (default_in it) (default_of (sentences_of behind)) (default_of (sentences_of tail))

no_others : (wanting : Option ℕ) (rest : List Stated) → stated_others (sentences_of (else_of wanting ++ rest)) ≡ stated_others (sentences_of rest)
no_others None rest = refl
no_others (Some line) rest = refl

no_others_before : (wanting : Option ℕ) (it : Sentence) (rest : List Stated)
    → stated_others (sentences_of (else_before wanting it ++ rest)) ≡ stated_others (sentences_of rest)
no_others_before wanting (sentence.Arch architecture) rest = no_others wanting rest
no_others_before wanting (sentence.Default verdict) rest = no_others wanting rest
no_others_before wanting (sentence.Others verdict) rest = no_others wanting rest
no_others_before wanting (sentence.Row ranges verdict) rest = no_others wanting rest
no_others_before wanting (sentence.Case verdict words) rest = refl
no_others_before wanting (sentence.Else verdict) rest = refl

others_whole : (wanting : Option ℕ) (text tail : List Stated)
    → stated_others (sentences_of (closed wanting text ++ tail)) ≡ or_else (stated_others (sentences_of text)) (stated_others (sentences_of tail))
others_whole wanting [] tail = no_others wanting tail
others_whole wanting (first ∷ behind) tail =
    let it = first.sentence in
    let rest = closed (wanting_behind wanting first.line it) behind in
    ap (λ text. stated_others (sentences_of text)) (append_assoc (else_before wanting it) (first ∷ rest) tail)
    ∙ no_others_before wanting it (first ∷ (rest ++ tail))
    ∙ ap (or_else (others_in it)) (others_whole (wanting_behind wanting first.line it) behind tail)
    ∙ or_else_assoc (others_in it) (stated_others (sentences_of behind)) (stated_others (sentences_of tail))

-- what is added behind the last sentence
abbrev tail_of : Option ℕ → Option ℕ → List Stated
tail_of default others = added_default default ++ added_others others

tail_rows : (default others : Option ℕ) → parts_of (tail_of default others) ≡ []
tail_rows None None = refl
tail_rows None (Some others) = refl
tail_rows (Some default) None = refl
tail_rows (Some default) (Some others) = refl

tail_default : (default others : Option ℕ) → or_else default (default_of (sentences_of (tail_of default others))) ≡ Some (unwrap_or default anything)
tail_default None None = refl
tail_default None (Some others) = refl
tail_default (Some default) others = refl

tail_others : (default others : Option ℕ) → or_else others (stated_others (sentences_of (tail_of default others))) ≡ Some (unwrap_or others anything)
tail_others None None = refl
tail_others (Some default) None = refl
tail_others default (Some others) = refl

first_kept : (line : ℕ) (it : Sentence) (behind tail : List Stated)
    → architecture_of (sentences_of ((else_before None it ++ (record { line = line; sentence = it } ∷ behind)) ++ tail)) ≡ architecture_of (it ∷ [])
first_kept line (sentence.Arch architecture) behind tail = refl
first_kept line (sentence.Default verdict) behind tail = refl
first_kept line (sentence.Others verdict) behind tail = refl
first_kept line (sentence.Row ranges verdict) behind tail = refl
first_kept line (sentence.Case verdict words) behind tail = refl
first_kept line (sentence.Else verdict) behind tail = refl

architecture_whole : (text : List Stated) → architecture_of (sentences_of (completed text)) ≡ architecture_of (sentences_of text)
architecture_whole [] = refl
architecture_whole (first ∷ behind) =
    first_kept first.line first.sentence (closed (wanting_behind None first.line first.sentence) behind)
    (tail_of (default_of (sentences_of (first ∷ behind))) (stated_others (sentences_of (first ∷ behind))))

unnamed_whole : (text : List Stated) (nr : ℕ) → unnamed_in (completed text) nr ≡ Some (unnamed (sentences_of text) nr)
unnamed_whole text nr =
    let default = default_of (sentences_of text) in
    let others = stated_others (sentences_of text) in
    let on = architecture_whole text in
    let is_default : default_of (sentences_of (completed text)) ≡ Some (unwrap_or default anything) =
    default_whole None text (tail_of default others) ∙ tail_default default others in
    let is_others : others_of (sentences_of (completed text)) ≡ unwrap_or others anything =
    ap (λ stated. unwrap_or stated 0x80000000) (others_whole None text (tail_of default others) ∙ tail_others default others) in
    elim (cases_Bool (is_of_x32 (architecture_of (sentences_of text)) nr)) [
      | inl t ↦ let whole = ap (λ on. is_of_x32 on nr) on ∙ t in rw (whole, t) (ap Some is_others)
      | inr f ↦ let whole = ap (λ on. is_of_x32 on nr) on ∙ f in rw (whole, f) is_default
    ]

some_same : (one other : ℕ) → Some one ≡ Some other → one ≡ other
some_same one other same = ap (λ found. unwrap_or found 0) same

-- ---- a text

pub completed_expects : CompletedExpects
completed_expects text call value whole (inl row) =
    let tail = tail_of (default_of (sentences_of text)) (stated_others (sentences_of text)) in
    let rows = rows_whole None text tail (tail_rows (default_of (sentences_of text)) (stated_others (sentences_of text))) in
    let found = original tail (parts_of text) row.part (subst (λ parts. Contains parts row.part) rows row.there) in
    let says = subst (λ (part : Part). SaysRow part.verdict (sentences_of part.behind) call value) (sym found.is) row.says in
    inl (record {
      part = found.part;
      there = found.there;
      has = ap (has_number call.nr) found.is ∙ row.has;
      expects = row_expected found.part.verdict found.part.line found.part.behind tail call value says;
    })
completed_expects text call value whole (inr none) =
    let tail = tail_of (default_of (sentences_of text)) (stated_others (sentences_of text)) in
    let rows = rows_whole None text tail (tail_rows (default_of (sentences_of text)) (stated_others (sentences_of text))) in
    inr (record {
      none = sym (times_whole tail (parts_of text) call.nr) ∙ sym (ap (λ parts. times parts call.nr) rows) ∙ none.none;
      expects = some_same value (unnamed (sentences_of text) call.nr) (sym none.says ∙ unnamed_whole text call.nr);
    })
