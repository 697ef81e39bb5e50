-- The worked lines: what their terms come to on every call.
use Rattle.std.proofs.Common.{◌≡◌, ℕ, ◌+◌, ◌%◌, ◌^◌, ◌<◌, ◌≤◌, sym, ◌&&◌, ◌||◌, Bool, true, false, if◌then◌else◌, nat_le, List, [], ◌∷◌, ◌++◌, map, bit_and, ap, ◌∙◌, refl, arith}
use Rattle.std.specs.List.{list_all, list_any}
use Rattle.std.proofs.Math.Bool.{and-true}
use Rattle.std.proofs.lemmas.Bool.{leb-true, true≢false}
use Rattle.std.proofs.lemmas.Bool.Decides.{nat_tests}
use Rattle.std.proofs.lemmas.Nat.{and_mask}
use Rattle.sk_insn.specs.declared.record.Record.{Record}
use Rattle.sk_terms.specs.declared.choices.Choice.{Choice}
use Rattle.sk_terms.specs.declared.lines.Line.{Line}
use Rattle.sk_terms.specs.declared.term.Register.TheVariants.{Argument}
use Rattle.sk_terms.specs.declared.term.Term.{Term}
use Rattle.sk_terms.specs.Lines.{meets_all, meets_choices, meets_line, told_by}
use Rattle.sk_terms.specs.Terms.{holds_term, register_of, takes}
use Rattle.sk_terms.specs.WorkedTerms.{sized}
use Rattle.sk_terms.specs.Numbers.{numbered, TellsNoWhole}
use Rattle.sk_terms.specs.WorkedLines.{is_word, is_another, numbered_from, terms_of, seven_from, seven_twice, seven_and_eight, LinesWork}
use Rattle.sk_terms.proofs.Telling.{told_cons}

-- of the number 7 alone, what holds of 7
of_seven : (n : ℕ) (f : ℕ → Bool) (b : Bool) → f 7 ≡ b → ((nat_le 7 n && nat_le n 7) && (f n && true)) ≡ ((nat_le 7 n && nat_le n 7) && b)
of_seven n f b at_seven = by_tests (nat_le 7 n) (nat_le n 7) refl refl where
  by_tests : (x y : Bool) → nat_le 7 n ≡ x → nat_le n 7 ≡ y → ((x && y) && (f n && true)) ≡ ((x && y) && b)
  by_tests true true e g =
      let least = leb-true 7 n e in
      let most = leb-true n 7 g in
      let same : n ≡ 7 = omega (arith, least, most) in
      ap (λ m. f m && true) same ∙ and-true (f 7) ∙ at_seven
  by_tests true false e g = refl
  by_tests false y e g = refl

twice_itself : (b : Bool) → (b && (b && true)) ≡ b
twice_itself true = refl
twice_itself false = refl

or_nothing : (b : Bool) → ((b || false) && ((b || false) && true)) ≡ b
or_nothing true = refl
or_nothing false = refl

nothing_or : (b c : Bool) → ((b || false) && ((c || false) && true)) ≡ (b && (c && true))
nothing_or true true = refl
nothing_or true false = refl
nothing_or false c = refl

not_both : (b : Bool) → (b && false) ≡ false
not_both true = refl
not_both false = refl

-- the bits of the second argument that the terms look at
abbrev bits : Record → ℕ
bits call = bit_and (register_of (Argument 1) call) 0xffffffff

never : (call : Record) → meets_all (is_word 7 ∷ is_word 8 ∷ []) call ≡ false
never call = of_seven (bits call) (λ n. takes (is_word 8) n) false refl ∙ not_both (nat_le 7 (bits call) && nat_le (bits call) 7)

no_other : (call : Record) → meets_all (is_word 7 ∷ is_another 8 ∷ []) call ≡ holds_term (is_word 7) call
no_other call = of_seven (bits call) (λ n. takes (is_another 8) n) true refl ∙ and-true (nat_le 7 (bits call) && nat_le (bits call) 7)

-- what a line's terms say
abbrev pub met_terms : List (List Term) → Record → Bool
met_terms choices call = list_all (λ terms. list_any (λ term. holds_term term call) terms) choices

choices_met : (choices : List Choice) (call : Record) → meets_choices choices call ≡ met_terms (map (λ choice. choice.terms.items) choices) call
choices_met [] call = refl
choices_met (choice ∷ choices) call = ap (λ b. list_any (λ term. holds_term term call) choice.terms.items && b) (choices_met choices call)

pub line_met : (line : Line) (call : Record) (terms : List (List Term)) → terms_of line ≡ terms → meets_line line call ≡ met_terms terms call
line_met line call terms e = choices_met line.choices.items call ∙ ap (λ t. met_terms t call) e

pub told_first : (line : Line) (others : List Line) (call : Record) (b : Bool) → meets_line line call ≡ b
    → told_by (line ∷ others) call ≡ (if b then line.value ∷ [] else []) ++ told_by others call
told_first line others call b e = told_cons line others call ∙ ap (λ met. (if met then line.value ∷ [] else []) ++ told_by others call) e

-- ---- ranges of the numbers of a row

within_range : (nr first last : ℕ) → first ≤ nr → nr ≤ last → last < 2 ^ 32 → holds_term (numbered_from first last) (numbered (sized 7) nr) ≡ true
within_range nr first last above under small =
    let masked = and_mask nr 32 in
    let same : bit_and nr 0xffffffff ≡ nr = omega (arith, masked, above, under, small) in
    let lies : (nat_le first nr && nat_le nr last) ≡ true = grind (arith, nat_tests, above, under) in
    ap (λ n. nat_le first n && nat_le n last) same ∙ lies

not_told : (line : Line) (first last : ℕ) → terms_of line ≡ seven_from first last → first ≤ 500 → 599 ≤ last → last < 700 → TellsNoWhole 500 599 line → ⊥
not_told line first last e begins ends small tells =
    let past : ((last + 1) % 2 ^ 32) ≡ last + 1 = omega (arith, small) in
    let masked = and_mask (last + 1) 32 in
    let same : bit_and (last + 1) 0xffffffff ≡ last + 1 = omega (arith, masked, small) in
    let beyond : (nat_le first (last + 1) && nat_le (last + 1) last) ≡ false = grind (arith, nat_tests) in
    let fails = ap (λ n. nat_le first n && nat_le n last) same ∙ beyond in
    true≢false
    (sym (tells (sized 7) (λ nr above under.
    line_met line (numbered (sized 7) nr) (seven_from first last) e
    ∙ ap (λ b. (b || false) && true) (within_range nr first last (omega (arith, above, begins)) (omega (arith, under, ends)) (omega (arith, small)))) (last + 1))
    ∙ line_met line (numbered (sized 7) (last + 1)) (seven_from first last) e
    ∙ ap (λ b. (b || false) && true) fails)

part_of_row : (line : Line) → terms_of line ≡ seven_from 550 599 → TellsNoWhole 500 599 line
part_of_row line e call each nr =
    absurd (true≢false (sym (each 500 (omega arith) (omega arith)) ∙ line_met line (numbered call 500) (seven_from 550 599) e))

pub lines_work : LinesWork
lines_work = record {
  again = λ call. twice_itself (holds_term (is_word 7) call);
  no_other = no_other;
  never = never;
  twice = λ line call e. line_met line call seven_twice e ∙ or_nothing (holds_term (is_word 7) call);
  no_line = λ line others call e.
      told_first line others call false
      (line_met line call seven_and_eight e ∙ nothing_or (holds_term (is_word 7) call) (holds_term (is_word 8) call) ∙ never call);
  either = λ line e. told_first line [] (sized 0x100000008) true (line_met line (sized 0x100000008) ((is_word 7 ∷ is_word 8 ∷ []) ∷ []) e);
  whole_row = λ line e. not_told line 500 599 e (omega arith) (omega arith) (omega arith);
  beyond_row = λ line e. not_told line 400 699 e (omega arith) (omega arith) (omega arith);
  part_of_row = part_of_row;
  neither = λ line e. told_first line [] (sized 9) false (line_met line (sized 9) ((is_word 7 ∷ is_word 8 ∷ []) ∷ []) e);
}
