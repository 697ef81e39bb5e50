-- Worked examples of terms: clone(2)'s flags as docker's filter tests them, 64 bits at once, a masked number, a bound of the
-- instruction pointer, the numbers that docker's filter lets personality(2) have, and ranges: none, all but one number, and of
-- a number's upper bits.
use Rattle.std.specs.Prelude.{ℕ, ◌≡◌, Bool, None, List, ◌∷◌, [], true, false, codes}
use Rattle.sk_insn.specs.declared.record.Record.{Record}
use Rattle.sk_insn.specs.Record.{native}
use Rattle.sk_terms.specs.declared.term.Register.TheVariants.{Number, Pointer, Argument}
use Rattle.sk_terms.specs.declared.term.Term.{Term}
use Rattle.sk_terms.specs.Lines.{holds_one}
use Rattle.sk_terms.specs.Terms.{holds_term}
use Rattle.sk_terms.specs.Known.{nothing_known}
use Rattle.sk_terms.specs.Text.{choice_text, term_text, terms_text}

-- a call with 0x100000002 in its first argument, from 2 ^ 33 in memory
abbrev pub worked_call : Record
worked_call = native 56 0x200000000 (0x100000002 ∷ 0x10000000 ∷ 0 ∷ 0 ∷ 0 ∷ 0 ∷ [])

abbrev pub no_namespaces : Term
no_namespaces = record { register = Argument 0; mask = 0x7e020000; first = 0; last = 0; inside = true }

abbrev pub whole : Term
whole = record { register = Argument 0; mask = 0xffffffffffffffff; first = 0x100000002; last = 0x100000002; inside = true }

abbrev pub from_on : Term
from_on = record { register = Pointer; mask = 0xffffffffffffffff; first = 0x200000000; last = 0xffffffffffffffff; inside = true }

abbrev pub odd : Term
odd = record { register = Number; mask = 1; first = 0; last = 0; inside = false }

-- PER_LINUX of personality(2), and the number that asks what it is
abbrev pub linux : Term
linux = record whole { first = 0; last = 0 }

abbrev pub asking : Term
asking = record whole { first = 0xffffffff; last = 0xffffffff }

-- a bound in both halves
abbrev pub at_most : Term
at_most = record { register = Argument 1; mask = 0xffffffffffffffff; first = 0; last = 0x1400000; inside = true }

abbrev pub sized : ℕ → Record
sized n = native 10 0 (0 ∷ n ∷ 0 ∷ 0 ∷ 0 ∷ 0 ∷ [])

abbrev pub some_holds : List Term → ℕ → Bool
some_holds terms n = holds_one terms (native 135 0 (n ∷ 0 ∷ 0 ∷ 0 ∷ 0 ∷ 0 ∷ []))

-- all numbers but 7, as ranges
abbrev pub all_but_seven : List Term
all_but_seven = record whole { first = 0; last = 6 } ∷ record whole { first = 8; last = 0xffffffffffffffff } ∷ []

-- 16 to 47, as the numbers of all bits but the four lowest
abbrev pub by_sixteens : Term
by_sixteens = record whole { mask = 0xfffffffffffffff0; first = 0x10; last = 0x20 }

pub record TermsWork : Type 0 where
  pub clone : holds_term no_namespaces worked_call ≡ true
  pub clone_of_another : holds_term (record no_namespaces { register = Argument 1; mask = 0x10000000 }) worked_call ≡ false
  pub both_halves : holds_term whole worked_call ≡ true
  pub one_half : holds_term (record whole { first = 2; last = 2 }) worked_call ≡ false
  pub at_the_border : holds_term from_on worked_call ≡ true
  pub behind_the_border : holds_term (record from_on { first = 0x200000001 }) worked_call ≡ false
  pub even : holds_term odd worked_call ≡ false
  pub clone_text : term_text None no_namespaces ≡ codes "(args[0] & 0x7e020000) == 0"
  pub whole_text : term_text None whole ≡ codes "args[0] == 0x100000002"
  pub border_text : term_text None from_on ≡ codes "ip >= 0x200000000"
  pub odd_text : term_text None odd ≡ codes "(nr & 0x1) != 0"
  pub range_text : term_text None (record from_on { last = 0x2000000ff }) ≡ codes "0x200000000 <= ip && ip <= 0x2000000ff"
  pub other_text : term_text None (record whole { first = 16; last = 31; inside = false }) ≡ codes "(args[0] < 0x10 || 0x1f < args[0])"
  pub bound : holds_term at_most (sized 0x1400000) ≡ true
  pub above_bound : holds_term at_most (sized 0x1400001) ≡ false
  pub above_half : holds_term at_most (sized 0x100000000) ≡ false
  pub bound_text : term_text None at_most ≡ codes "args[1] <= 0x1400000"
  pub personality : some_holds (linux ∷ asking ∷ []) 0 ≡ true
  pub personality_asked : some_holds (linux ∷ asking ∷ []) 0xffffffff ≡ true
  pub no_personality : some_holds (linux ∷ asking ∷ []) 0xffffffff00000000 ≡ false
  pub personality_text : terms_text (nothing_known None) (linux ∷ asking ∷ []) ≡ codes "args[0] == 0 || args[0] == 0xffffffff"
  pub personality_beside : choice_text (nothing_known None) (linux ∷ asking ∷ []) ≡ codes "(args[0] == 0 || args[0] == 0xffffffff)"
  pub alone_beside : choice_text (nothing_known None) (linux ∷ []) ≡ codes "args[0] == 0"
  pub range_beside : terms_text (nothing_known None) (record whole { first = 16; last = 31 } ∷ asking ∷ []) ≡ codes "(0x10 <= args[0] && args[0] <= 0x1f) || args[0] == 0xffffffff"
  pub of_none : some_holds [] 7 ≡ false
  pub below_seven : some_holds all_but_seven 6 ≡ true
  pub seven : some_holds all_but_seven 7 ≡ false
  pub above_seven : some_holds all_but_seven 8 ≡ true
  pub below_sixteen : some_holds (by_sixteens ∷ []) 15 ≡ false
  pub last_of_block : some_holds (by_sixteens ∷ []) 47 ≡ true
  pub next_block : some_holds (by_sixteens ∷ []) 48 ≡ false
