-- Each line of a row is met by a call, and some call meets none.
use Rattle.std.proofs.Common.{◌≡◌, ◌≢◌, ℕ, ◌<◌, ◌≤◌, ◌||◌, ◌⊎◌, inl, inr, Bool, true, false, if◌then◌else◌, List, [], ◌∷◌, length, get_or, map, filter, Option, Some, None, sym, ap, subst, ◌∙◌, refl, arith}
use Rattle.std.specs.List.{All, list_any}
use Rattle.std.proofs.lemmas.Bool.{eq-eqb, true≢false}
use Rattle.std.proofs.lemmas.List.Elements.{All-cons, All-head, All-nil, All-tail}
use Rattle.sk_insn.specs.declared.insn.Insn.{Insn}
use Rattle.sk_insn.specs.declared.record.Record.{Record}
use Rattle.sk_insn.specs.Record.{native}
use Rattle.sk_filter.specs.Verdict.{verdict_of}
use Rattle.sk_survey.specs.Answers.{ChainAnswersAmong, IsAmong, IsCallOf, answers_of}
use Rattle.sk_conditions.specs.Conditions.{Agrees}
use Rattle.sk_terms.specs.declared.lines.LeftOut.{LeftOut}
use Rattle.sk_terms.specs.declared.lines.LeftOut.TheVariants.{Nothing, End}
use Rattle.sk_terms.specs.declared.lines.Line.{Line}
use Rattle.sk_terms.specs.Lines.{IsMetBy, IsValueOf, meets_line, same_end, shown, told_by}
use Rattle.sk_terms.specs.Numbers.{TellsNoWhole}
use Rattle.sk_when.specs.declared.row.ConditionalRow.{ConditionalRow}
use Rattle.sk_when.specs.Lines.{IsExact, IsMet, or_else}
use Rattle.sk_when.specs.Telling.{FollowedRowsHaveVerdicts, HasVerdicts}

-- of all lines that a call meets the values are the one that is told, if it is told
abbrev AtMost : List (Option ℕ) → Option ℕ → Type 0
AtMost values d = (values ≡ []) ⊎ (values ≡ d ∷ [])

one_or_none : (b : Bool) (d : Option ℕ) (values : List (Option ℕ)) → values ≡ (if b then [] else d ∷ []) → AtMost values d
one_or_none true d values e = inl e
one_or_none false d values e = inr e

at_most : (left_out : LeftOut) (d : Option ℕ) (values : List (Option ℕ)) → values ≡ shown left_out d → AtMost values d
at_most Nothing d values e = inr e
at_most (End otherwise) d values e = one_or_none (same_end d otherwise) d values e

head_of : (line : Line) (lines : List Line) (call : Record) (d : Option ℕ) (b : Bool) → meets_line line call ≡ b
    → AtMost (if b then line.value ∷ told_by lines call else told_by lines call) d → (meets_line line call ≡ true → d ≡ line.value) × AtMost (told_by lines call) d
head_of line lines call d true is (inl e) = cc
head_of line lines call d true is (inr e) = (λ met. cc, inl cc)
head_of line lines call d false is so = (λ met. absurd (true≢false (sym met ∙ is)), so)

pub one_line : (line : Line) (lines : List Line) (call : Record)
    → told_by (line ∷ lines) call ≡ (if meets_line line call then line.value ∷ told_by lines call else told_by lines call)
one_line line lines call = by_test (meets_line line call) where
  by_test : (b : Bool)
      → map (λ (it : Line). it.value) (if b then line ∷ filter (λ it. meets_line it call) lines else filter (λ it. meets_line it call) lines)
      ≡ (if b then line.value ∷ told_by lines call else told_by lines call)
  by_test true = refl
  by_test false = refl

-- what is told of the calls that meet a line is its value
abbrev pub Tells : (Record → Option ℕ) → Line → Type 0
Tells d line = (call : Record) → meets_line line call ≡ true → d call ≡ line.value

each_at_most : (lines : List Line) (d : Record → Option ℕ) → ((call : Record) → AtMost (told_by lines call) (d call)) → All (Tells d) lines
each_at_most [] d most = All-nil (Tells d)
each_at_most (line ∷ lines) d most =
    All-cons (Tells d) line lines (λ call met. (of_head call).0 met) (each_at_most lines d (λ call. (of_head call).1))
  where
    of_head : (call : Record) → (meets_line line call ≡ true → d call ≡ line.value) × AtMost (told_by lines call) (d call)
    of_head call = head_of line lines call (d call) (meets_line line call) refl (subst (λ xs. AtMost xs (d call)) (one_line line lines call) (most call))

pub each_tells : (lines : List Line) (left_out : LeftOut) (d : Record → Option ℕ) → ((call : Record) → told_by lines call ≡ shown left_out (d call))
    → All (Tells d) lines
each_tells lines left_out d told = each_at_most lines d (λ call. at_most left_out (d call) (told_by lines call) (told call))

-- a call of some on which a test holds
of_first : (P : Record → Type 0) (p : Record → Bool) (call : Record) (any b : Bool) → p call ≡ b → P call
    → (any ≡ true → (other : Record) × P other × (p other ≡ true)) → (b || any) ≡ true → (other : Record) × P other × (p other ≡ true)
of_first P p call any true is here behind passes = (call, here, is)
of_first P p call any false is here behind passes = behind passes

pub found : (P : Record → Type 0) (p : Record → Bool) (calls : List Record) → All P calls → list_any p calls ≡ true → (call : Record) × P call × (p call ≡ true)
found P p [] all any = absurd (true≢false (sym any))
found P p (call ∷ calls) all any =
    of_first P p call (list_any p calls) (p call) refl (All-head P call calls all)
    (λ rest. found P p calls (All-tail P call calls all) rest) any

-- a call that meets a line, of what is told of each
abbrev MeetsIt : List (List Insn) → ℕ → ℕ → Line → Type 0
MeetsIt programs first last line = (call : Record) × IsCallOf first last call × (meets_line line call ≡ true) × Agrees line.value (verdict_of programs call)

lines_met : (programs : List (List Insn)) (first last : ℕ) (calls : List Record) (lines : List Line) (d : Record → Option ℕ) → All (IsCallOf first last) calls
    → ((call : Record) → IsCallOf first last call → Agrees (d call) (verdict_of programs call)) → All (Tells d) lines → All (IsMetBy calls) lines
    → All (MeetsIt programs first last) lines
lines_met programs first last calls lines d within agrees tells met k other less =
    let line = get_or lines k other in
    let it = found (IsCallOf first last) (λ call. meets_line line call) calls within (met k other less) in
    (it.0, it.1, it.2, subst (λ value. Agrees value (verdict_of programs it.0)) (tells k other less it.0 it.2) (agrees it.0 it.1))

same_itself : (value : Option ℕ) → same_end value value ≡ true
same_itself None = refl
same_itself (Some value) = eq-eqb value value refl

some_lines : (lines : List Line) (call : Record) (value : Option ℕ) → told_by lines call ≡ value ∷ [] → 0 < length lines
some_lines [] call value e = cc
some_lines (line ∷ lines) call value e = omega arith

else_met : (programs : List (List Insn)) (first last : ℕ) (calls : List Record) (all lines : List Line) (d : Record → Option ℕ) (otherwise : Option ℕ)
    → All (IsCallOf first last) calls → ((call : Record) → IsCallOf first last call → Agrees (d call) (verdict_of programs call))
    → ((call : Record) → told_by all call ≡ shown Nothing (d call)) → ((call : Record) → told_by lines call ≡ shown (End otherwise) (d call))
    → All (IsMetBy calls) all → IsValueOf all otherwise
    → (call : Record) × IsCallOf first last call × (told_by lines call ≡ []) × Agrees otherwise (verdict_of programs call)
else_met programs first last calls all lines d otherwise within agrees told left met (k, line, less, there, same) =
    let it = found (IsCallOf first last) (λ call. meets_line line call) calls within (subst (IsMetBy calls) there (met k line less)) in
    let value : d it.0 ≡ otherwise = subst (Tells d) there (each_tells all Nothing d told k line less) it.0 it.2 ∙ same in (
      it.0,
      it.1,
      left it.0 ∙ ap (λ v. shown (End otherwise) v) value ∙ ap (λ b. if b then [] else otherwise ∷ []) (same_itself otherwise),
      subst (λ v. Agrees v (verdict_of programs it.0)) value (agrees it.0 it.1),
    )

pub row_met : (programs : List (List Insn)) (told : ConditionalRow) (calls : List Record) (all : List Line) (d : Record → Option ℕ)
    → All (IsCallOf told.row.first told.row.last) calls
    → ((call : Record) → IsCallOf told.row.first told.row.last call → Agrees (d call) (verdict_of programs call))
    → ((call : Record) → told_by all call ≡ shown Nothing (d call)) → ((call : Record) → told_by told.lines.items call ≡ shown (End told.otherwise) (d call))
    → All (IsMetBy calls) all → All (IsMetBy calls) told.lines.items → (0 < length all → IsValueOf all told.otherwise)
    → All (TellsNoWhole told.row.first told.row.last) told.lines.items → IsMet programs told
row_met programs told calls all d within agrees every left met met' heaviest numbers =
    let some = native told.row.first 0 [] in
    record {
      lines = lines_met programs told.row.first told.row.last calls told.lines.items d within agrees (each_tells told.lines.items (End told.otherwise) d left) met';
      otherwise = else_met programs told.row.first told.row.last calls all told.lines.items d told.otherwise within agrees every left met
          (heaviest (some_lines all some (d some) (every some)));
      numbers = numbers;
    }

-- of one call each line that it meets tells what is told of it
of_one_call : (lines : List Line) (call : Record) (d : Option ℕ) → AtMost (told_by lines call) d → All (λ line. meets_line line call ≡ true → d ≡ line.value) lines
of_one_call [] call d most = All-nil (λ line. meets_line line call ≡ true → d ≡ line.value)
of_one_call (line ∷ lines) call d most =
    let first = head_of line lines call d (meets_line line call) refl (subst (λ xs. AtMost xs d) (one_line line lines call) most) in
    All-cons (λ line. meets_line line call ≡ true → d ≡ line.value) line lines first.0 (of_one_call lines call d first.1)

told_once : (values : List (Option ℕ)) (otherwise d : Option ℕ) → or_else values otherwise ≡ d ∷ [] → AtMost values d
told_once [] otherwise d e = inl refl
told_once (value ∷ values) otherwise d e = inr e

some_verdict : (told : Option ℕ) (verdict : ℕ) → Some verdict ≡ told → told ≢ None
some_verdict None verdict e = cc
some_verdict (Some value) verdict e = λ none. cc

-- each line, and `else`, tells the verdict on a call, and so a verdict
have_verdicts : (programs : List (List Insn)) (told : ConditionalRow) → IsExact programs told → IsMet programs told → HasVerdicts told
have_verdicts programs told exact met = (
  λ k other less.
      let it = met.lines k other less in
      let verdict = verdict_of programs it.0 in
      some_verdict (get_or told.lines.items k other).value verdict
      (of_one_call told.lines.items it.0 (Some verdict) (told_once (told_by told.lines.items it.0) told.otherwise (Some verdict) (exact it.0 it.1)) k other less it.2),
  let it = met.otherwise in
      let verdict = verdict_of programs it.0 in
      let same : told.otherwise ∷ [] ≡ Some verdict ∷ [] = sym (ap (λ values. or_else values told.otherwise) it.2) ∙ exact it.0 it.1 in
      some_verdict told.otherwise verdict cc,
)

pub followed_rows_have_verdicts : FollowedRowsHaveVerdicts
followed_rows_have_verdicts architecture programs rows follows told k other less =
    have_verdicts programs (get_or rows k other) (told.exact follows refl k other less) (told.met k other less)

-- a row with one verdict
only_one : (verdict value : ℕ) (answers : Option (List ℕ)) → answers ≡ Some (value ∷ []) → IsAmong verdict answers → value ≡ verdict
only_one verdict value answers is among = of_one (subst (IsAmong verdict) is among) where
  of_one : IsAmong verdict (Some (value ∷ [])) → value ≡ verdict
  of_one (inl same) = sym same
  of_one (inr none) = absurd none

pub alone_met : (programs : List (List Insn)) (told : ConditionalRow) (value : ℕ) → told.row.first ≤ told.row.last
    → ChainAnswersAmong programs told.row.first told.row.last (answers_of told.row.answers) → answers_of told.row.answers ≡ Some (value ∷ [])
    → told.lines.items ≡ [] → told.otherwise ≡ Some value → IsMet programs told
alone_met programs told value range among only none otherwise =
    let call = native told.row.first 0 [] in
    let within : IsCallOf told.row.first told.row.last call = (refl, (omega arith, range)) in
    record {
      lines = subst (All (MeetsIt programs told.row.first told.row.last)) (sym none) (All-nil (MeetsIt programs told.row.first told.row.last));
      otherwise = (
        call,
        within,
        ap (λ lines. told_by lines call) none,
        subst (λ v. Agrees v (verdict_of programs call)) (sym otherwise) (only_one (verdict_of programs call) value (answers_of told.row.answers) only (among call within)),
      );
      numbers = subst (All (TellsNoWhole told.row.first told.row.last)) (sym none) (All-nil (TellsNoWhole told.row.first told.row.last));
    }
