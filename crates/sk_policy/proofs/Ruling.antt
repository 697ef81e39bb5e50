-- Rules that are cut in two, and the code of both parts.
use Rattle.std.proofs.Common.{◌≡◌, Bool, true, false, if◌then◌else◌, ◌==◌, ℕ, zero, suc, ◌+◌, ◌-◌, ◌%◌, ◌^◌, ◌<◌, ◌≤◌, ◌&&◌, nat_le, List, [], ◌∷◌, ◌++◌, length, get_or, take, drop, Some, refl, ap, sym, ◌∙◌, subst, arith, append_assoc, append-nil, length-append}
use Rattle.std.specs.Prelude.{All, Result, Ok, Err, IfErr, IsErrAnd}
use Rattle.std.specs.List.{list_all}
use Rattle.std.proofs.lemmas.Bool.{le-leb, leb-true, leb-false, lt-leb, ne_eqb, eq-eqb, eqb-true}
use Rattle.std.proofs.lemmas.Bool.Decides.{nat_tests}
use Rattle.std.proofs.lemmas.List.Elements.{All-nil, All-cons, All-head, All-tail, All-get_or, All-take, All-drop, All-weaker}
use Rattle.sk_insn.specs.declared.insn.Insn.{Insn}
use Rattle.sk_insn.specs.declared.record.Record.{Record}
use Rattle.sk_insn.specs.declared.operation.Comparison.TheVariants.{Equal, GreaterOrEqual}
use Rattle.sk_insn.proofs.RecordWords.{number_there, word_of_architecture}
use Rattle.sk_filter.specs.Meaning.{State, start as first_state}
use Rattle.sk_filter.specs.Valid.{IsValid}
use Rattle.sk_profile.specs.Code.{load, branch, jump, answer}
use Rattle.sk_profile.proofs.Fitting.{Fit, EndsWithAnswer, answer_fits, behind_others}
use Rattle.sk_profile.proofs.Steps.{Comes, answers, load_on, branch_on, jump_on, past}
use Rattle.sk_policy.specs.declared.policy.Policy.{Policy}
use Rattle.sk_policy.specs.declared.policy.Rule.{Rule}
use Rattle.sk_policy.specs.Code.{cases_code, head_code}
use Rattle.sk_policy.specs.Emitting.{adds_nothing, Emits}
use Rattle.sk_policy.specs.Policies.{said, is_for, says, AreApart, AreWithin, RuleThere, IsWhole, MeansPolicy, AnswersOthers}
use Rattle.sk_policy.proofs.Deciding.{cases_on}
use Rattle.sk_policy.proofs.Fitting.{cases_fit, cases_ends, head_fits, guarded, guarded_valid}

abbrev Behind : ℕ → Rule → Type 0
Behind number rule = number < rule.first

abbrev Before : ℕ → Rule → Type 0
Before number rule = rule.last < number

abbrev From : ℕ → Rule → Type 0
From number rule = number ≤ rule.first

pub apart_take : (n : ℕ) (rules : List Rule) → AreApart rules → AreApart (take n rules)
apart_take zero rules apart = tt
apart_take (suc n) [] apart = tt
apart_take (suc n) (rule ∷ rules) apart = (apart.0, All-take (Behind rule.last) n rules apart.1, apart_take n rules apart.2)

pub apart_drop : (n : ℕ) (rules : List Rule) → AreApart rules → AreApart (drop n rules)
apart_drop zero rules apart = apart
apart_drop (suc n) [] apart = tt
apart_drop (suc n) (rule ∷ rules) apart = apart_drop n rules apart.2

-- those before a rule have lower numbers, and it and those behind it no lower ones
before_it : (n : ℕ) (rules : List Rule) (d : Rule) → n < length rules → AreApart rules → All (Before (get_or rules n d).first) (take n rules)
before_it zero rules d inside apart = All-nil (Before (get_or rules 0 d).first)
before_it (suc n) [] d inside apart = absurd (omega arith)
before_it (suc n) (rule ∷ rules) d inside apart =
    All-cons (Before (get_or rules n d).first) rule (take n rules) (All-get_or (Behind rule.last) rules n d (omega arith) apart.1) (before_it n rules d (omega arith) apart.2)

from_here : (rule : Rule) (rules : List Rule) → AreApart (rule ∷ rules) → All (From rule.first) (rule ∷ rules)
from_here rule rules apart =
    All-cons (From rule.first) rule rules (omega arith)
    (All-weaker (Behind rule.last) (From rule.first) (λ other behind. omega (arith, behind, apart.0)) rules apart.1)

from_it : (n : ℕ) (rules : List Rule) (d : Rule) → n < length rules → AreApart rules → All (From (get_or rules n d).first) (drop n rules)
from_it zero [] d inside apart = absurd (omega arith)
from_it zero (rule ∷ rules) d inside apart = from_here rule rules apart
from_it (suc n) [] d inside apart = absurd (omega arith)
from_it (suc n) (rule ∷ rules) d inside apart = from_it n rules d (omega arith) apart.2

-- a rule is not for a number outside
not_below : (rule : Rule) (nr : ℕ) → nr < rule.first → is_for rule nr ≡ false
not_below rule nr below = rw (lt-leb rule.first nr below) refl

not_above : (rule : Rule) (nr : ℕ) → rule.last < nr → is_for rule nr ≡ false
not_above rule nr above = grind (arith, nat_tests, above)

-- no rule is for a number below all of them
none_below : (rules : List Rule) (default number : ℕ) (call : Record) → All (From number) rules → call.nr < number → says rules default call ≡ default
none_below [] default number call all below = refl
none_below (rule ∷ rules) default number call all below =
    let here = All-head (From number) rule rules all in
    rw (not_below rule call.nr (omega (arith, here, below))) (none_below rules default number call (All-tail (From number) rule rules all) below)

says_low : (n : ℕ) (rules : List Rule) (default number : ℕ) (call : Record) → All (From number) (drop n rules) → call.nr < number
    → says rules default call ≡ says (take n rules) default call
says_low zero rules default number call all below = none_below rules default number call all below
says_low (suc n) [] default number call all below = refl
says_low (suc n) (rule ∷ rules) default number call all below =
    ap (λ v. if is_for rule call.nr then said rule.cases.items rule.otherwise call else v) (says_low n rules default number call all below)

says_high : (n : ℕ) (rules : List Rule) (default number : ℕ) (call : Record) → All (Before number) (take n rules) → number ≤ call.nr
    → says rules default call ≡ says (drop n rules) default call
says_high zero rules default number call all above = refl
says_high (suc n) [] default number call all above = refl
says_high (suc n) (rule ∷ rules) default number call all above =
    let here = All-head (Before number) rule (take n rules) all in
    rw (not_above rule call.nr (omega (arith, here, above))) (says_high n rules default number call (All-tail (Before number) rule (take n rules) all) above)

-- the numbers of the parts
pub within_take : (n : ℕ) (rules : List Rule) (d : Rule) (start end : ℕ) → n < length rules → AreApart rules → AreWithin start end rules → AreWithin start ((get_or rules n d).first - 1) (take n rules)
within_take n rules d start end inside apart within = by (take n rules) (before_it n rules d inside apart) (All-take (λ (rule : Rule). (start ≤ rule.first) × (rule.last ≤ end)) n rules within) where
  by : (some : List Rule) → All (Before (get_or rules n d).first) some → AreWithin start end some → AreWithin start ((get_or rules n d).first - 1) some
  by [] before within = All-nil (λ (rule : Rule). (start ≤ rule.first) × (rule.last ≤ (get_or rules n d).first - 1))
  by (rule ∷ some) before within =
      let here = All-head (λ (rule : Rule). (start ≤ rule.first) × (rule.last ≤ end)) rule some within in
      let low = All-head (Before (get_or rules n d).first) rule some before in
      All-cons (λ (rule : Rule). (start ≤ rule.first) × (rule.last ≤ (get_or rules n d).first - 1)) rule some (here.0, omega (arith, low))
      (by some (All-tail (Before (get_or rules n d).first) rule some before) (All-tail (λ (rule : Rule). (start ≤ rule.first) × (rule.last ≤ end)) rule some within))

from_and_to : (some : List Rule) (number start end : ℕ) → All (From number) some → AreWithin start end some → AreWithin number end some
from_and_to [] number start end from within = All-nil (λ (rule : Rule). (number ≤ rule.first) × (rule.last ≤ end))
from_and_to (rule ∷ some) number start end from within =
    let here = All-head (λ (rule : Rule). (start ≤ rule.first) × (rule.last ≤ end)) rule some within in
    All-cons (λ (rule : Rule). (number ≤ rule.first) × (rule.last ≤ end)) rule some (All-head (From number) rule some from, here.1)
    (from_and_to some number start end (All-tail (From number) rule some from) (All-tail (λ (rule : Rule). (start ≤ rule.first) × (rule.last ≤ end)) rule some within))

pub within_drop : (n : ℕ) (rules : List Rule) (d : Rule) (start end : ℕ) → n < length rules → AreApart rules → AreWithin start end rules → AreWithin (get_or rules n d).first end (drop n rules)
within_drop n rules d start end inside apart within =
    from_and_to (drop n rules) (get_or rules n d).first start end (from_it n rules d inside apart) (All-drop (λ (rule : Rule). (start ≤ rule.first) × (rule.last ≤ end)) n rules within)

-- a rule behind the first starts above where the numbers start
pub above_start : (n : ℕ) (rules : List Rule) (d : Rule) (start end : ℕ) → 0 < n → n < length rules → AreApart rules → AreWithin start end rules → start < (get_or rules n d).first
above_start n [] d start end some inside apart within = absurd (omega arith)
above_start zero (rule ∷ rules) d start end some inside apart within = absurd (omega arith)
above_start (suc n) (rule ∷ rules) d start end some inside apart within =
    let here = All-head (λ (rule : Rule). (start ≤ rule.first) × (rule.last ≤ end)) rule rules within in
    let behind = All-get_or (Behind rule.last) rules n d (omega arith) apart.1 in
    omega (arith, here.0, apart.0, behind)

pub first_within : (n : ℕ) (rules : List Rule) (d : Rule) (start end : ℕ) → n < length rules → AreApart rules → AreWithin start end rules → (get_or rules n d).first ≤ end
first_within n [] d start end inside apart within = absurd (omega arith)
first_within zero (rule ∷ rules) d start end inside apart within =
    let here = All-head (λ (rule : Rule). (start ≤ rule.first) × (rule.last ≤ end)) rule rules within in omega (arith, here.1, apart.0)
first_within (suc n) (rule ∷ rules) d start end inside apart within =
    first_within n rules d start end (omega arith) apart.2 (All-tail (λ (rule : Rule). (start ≤ rule.first) × (rule.last ≤ end)) rule rules within)

-- the head, before what is below, and behind that what is above
by_head : (b : Bool) (number : ℕ) (front above : List Insn) (call : Record) (s : State) (value : ℕ) → nat_le number s.a ≡ b
    → (b ≡ true → Comes above 0 call s value) → (b ≡ false → Comes (front ++ above) 0 call s value) → Comes (head_code number (length front) ++ (front ++ above)) 0 call s value
by_head b number front above call s value asked up down = by (nat_le (length front) 255) where
  lands : (c : Bool) → b ≡ c → Comes (front ++ above) (if c then length front else 0) call s value
  lands true e = let none : length front + 0 ≡ length front = omega arith in subst (λ n. Comes (front ++ above) n call s value) none (past front above 0 call s value (up e))
  lands false e = down e

  hops : (c : Bool) → b ≡ c → Comes (jump (length front) ∷ (front ++ above)) (if c then 0 else 1) call s value
  hops true e = jump_on (length front) (front ++ above) call s value (lands true e)
  hops false e = past (jump (length front) ∷ []) (front ++ above) 0 call s value (down e)

  by : (near : Bool) → Comes ((if near then branch GreaterOrEqual number (length front) 0 ∷ [] else branch GreaterOrEqual number 0 1 ∷ jump (length front) ∷ []) ++ (front ++ above)) 0 call s value
  by true =
      branch_on GreaterOrEqual number (length front) 0 (front ++ above) call s value
      (lands (nat_le number s.a) (sym asked))
  by false =
      branch_on GreaterOrEqual number 0 1 (jump (length front) ∷ (front ++ above)) call s value
      (hops (nat_le number s.a) (sym asked))

-- two parts of the numbers, cut at one of them
pub joined : (old above mid new : List Insn) (rules low high : List Rule) (default start end number below : ℕ) → start < number
    → ((call : Record) → start ≤ call.nr → call.nr < number → says rules default call ≡ says low default call)
    → ((call : Record) → number ≤ call.nr → call.nr ≤ end → says rules default call ≡ says high default call)
    → Emits old above high default number end → Emits above mid low default start (number - 1) → below ≡ length mid - length above → new ≡ head_code number below ++ mid
    → Emits old new rules default start end
joined old above mid new rules low high default start end number below some is_low is_high right left many is = record {
  front = head_code number below ++ (left.front ++ right.front);
  code = is ∙ ap (λ (insns : List Insn). head_code number below ++ insns) (left.code ∙ ap (λ (insns : List Insn). left.front ++ insns) right.code ∙ sym (append_assoc left.front right.front old))
      ∙ sym (append_assoc (head_code number below) (left.front ++ right.front) old);
  fit = λ behind.
      let as_long : length left.front ≡ below = omega (arith, many, ap length left.code, length-append left.front above) in
      subst (λ k. Fit behind (head_code number k ++ (left.front ++ right.front))) as_long
      (head_fits number left.front right.front behind right.ends (left.fit (length right.front + behind)) (right.fit behind));
  ends = behind_others (head_code number below) (left.front ++ right.front) (behind_others left.front right.front right.ends);
  means = by;
} where
  by : (call : Record) → IsWhole call → start ≤ call.nr → call.nr ≤ end → (s : State) → s.a ≡ call.nr → Comes new 0 call s (says rules default call)
  by call ok from to s at =
      let value = says rules default call in
      let as_long : length left.front ≡ below = omega (arith, many, ap length left.code, length-append left.front above) in
      let is_new : head_code number (length left.front) ++ (left.front ++ above) ≡ new =
      ap (λ k. head_code number k ++ (left.front ++ above)) as_long ∙ ap (λ (insns : List Insn). head_code number below ++ insns) (sym left.code) ∙ sym is in
      subst (λ insns. Comes insns 0 call s value) is_new
      (by_head (nat_le number call.nr) number left.front above call s value (ap (nat_le number) at)
      (λ e. let up = leb-true number call.nr e in
      subst (λ v. Comes above 0 call s v) (sym (is_high call up to)) (right.means call ok up to s at))
      (λ e. let down = leb-false number call.nr e in
      subst (λ insns. Comes insns 0 call s value) left.code
      (subst (λ v. Comes mid 0 call s v) (sym (is_low call from down)) (left.means call ok from (omega (arith, down)) s at))))

-- cut at a rule
pub cut_here : (old above mid new : List Insn) (rules : List Rule) (n : ℕ) (d : Rule) (default start end below : ℕ) → 0 < n → n < length rules → AreApart rules → AreWithin start end rules
    → Emits old above (drop n rules) default (get_or rules n d).first end → Emits above mid (take n rules) default start ((get_or rules n d).first - 1) → below ≡ length mid - length above
    → new ≡ head_code (get_or rules n d).first below ++ mid → Emits old new rules default start end
cut_here old above mid new rules n d default start end below some inside apart within right left many is =
    let number = (get_or rules n d).first in
    joined old above mid new rules (take n rules) (drop n rules) default start end number below (above_start n rules d start end some inside apart within)
    (λ call from less. says_low n rules default number call (from_it n rules d inside apart) less)
    (λ call up to. says_high n rules default number call (before_it n rules d inside apart) up) right left many is

-- one answer
pub one_answer : (old new : List Insn) (rules : List Rule) (default start end value : ℕ) → new ≡ answer value ∷ old
    → ((call : Record) → start ≤ call.nr → call.nr ≤ end → says rules default call ≡ value) → Emits old new rules default start end
one_answer old new rules default start end value is same = record {
  front = answer value ∷ [];
  code = is;
  fit = λ behind. (answer_fits value _, tt);
  ends = record { front = []; value = value; is = refl };
  means = λ call ok from to s at.
      subst (λ v. Comes new 0 call s v) (sym (same call from to)) (subst (λ insns. Comes insns 0 call s value) (sym is) (answers value old call s));
}

-- numbers before the first rule
pub gap_before : (old above mid new : List Insn) (rules : List Rule) (n : ℕ) (d : Rule) (default start end below : ℕ) → n ≡ 0 → n < length rules → AreApart rules → start < (get_or rules n d).first
    → Emits old above rules default (get_or rules n d).first end → mid ≡ answer default ∷ above → below ≡ length mid - length above
    → new ≡ head_code (get_or rules n d).first below ++ mid → Emits old new rules default start end
gap_before old above mid new rules n d default start end below is_0 inside apart some right is_mid many is =
    let number = (get_or rules n d).first in
    let from = subst (λ k. All (From number) (drop k rules)) is_0 (from_it n rules d inside apart) in
    joined old above mid new rules [] rules default start end number below some
    (λ call up less. none_below rules default number call from less)
    (λ call up to. refl) right (one_answer above mid [] default start (number - 1) default is_mid (λ call up to. refl)) many is

-- a rule alone
its_cases : (old new : List Insn) (rule : Rule) (default start end : ℕ) → RuleThere rule → rule.first ≤ start → end ≤ rule.last
    → new ≡ cases_code rule.cases.items rule.otherwise ++ old → Emits old new (rule ∷ []) default start end
its_cases old new rule default start end there first last is = record {
  front = cases_code rule.cases.items rule.otherwise;
  code = is;
  fit = λ behind. cases_fit rule.cases.items rule.otherwise behind there;
  ends = cases_ends rule.cases.items rule.otherwise;
  means = λ call ok from to s at.
      let value = said rule.cases.items rule.otherwise call in
      let found = subst (λ insns. Comes insns 0 call s value) (sym is) (cases_on rule.cases.items rule.otherwise old call s ok there) in
      let same : says (rule ∷ []) default call ≡ value = rw (le-leb rule.first call.nr (omega (arith, first, from)), le-leb call.nr rule.last (omega (arith, last, to))) refl in
      subst (λ v. Comes new 0 call s v) (sym same) found;
}

pub alone : (old new : List Insn) (rule : Rule) (default end : ℕ) → RuleThere rule → end ≤ rule.last → new ≡ cases_code rule.cases.items rule.otherwise ++ old
    → Emits old new (rule ∷ []) default rule.first end
alone old new rule default end there last is = its_cases old new rule default rule.first end there (omega arith) last is

pub alone_and_more : (old above mid new : List Insn) (rule : Rule) (default end below : ℕ) → RuleThere rule → rule.first ≤ rule.last → above ≡ answer default ∷ old
    → mid ≡ cases_code rule.cases.items rule.otherwise ++ above → below ≡ length mid - length above → new ≡ head_code (rule.last + 1) below ++ mid
    → Emits old new (rule ∷ []) default rule.first end
alone_and_more old above mid new rule default end below there some is_above is_mid many is =
    joined old above mid new (rule ∷ []) (rule ∷ []) [] default rule.first end (rule.last + 1) below (omega (arith, some))
    (λ call up less. refl)
    (λ call up to. rw (not_above rule call.nr (omega (arith, up))) refl)
    (one_answer old above [] default (rule.last + 1) end default is_above (λ call up to. refl))
    (its_cases above mid rule default rule.first (rule.last + 1 - 1) there (omega arith) (omega arith) is_mid) many is

pub whole : (code insns : List Insn) (policy : Policy) → code ≡ guarded policy.audit policy.others insns → Emits [] insns policy.rules.items policy.default 0 0xffffffff → MeansPolicy code policy
whole code insns policy is emits call ok same =
    let value = says policy.rules.items policy.default call in
    let nr = ok.is_call.number in
    let fits : call.nr ≤ 0xffffffff = omega (arith, nr) in
    let shown : call.arch % 2 ^ 32 ≡ policy.audit = omega (arith, ok.is_call.arch, same) in
    let found : Comes (guarded policy.audit policy.others insns) 0 call first_state value =
    load_on 4 _ call first_state policy.audit value (word_of_architecture call ∙ ap Some shown)
    (branch_on Equal policy.audit 1 0 _ call _ value
    (rw (eq-eqb policy.audit policy.audit refl)
    (past (answer policy.others ∷ []) (load 0 ∷ insns) 0 call _ value
    (load_on 0 insns call _ call.nr value (number_there call nr) (emits.means call ok (omega arith) fits _ refl))))) in
    let there = subst (λ insns. Comes insns 0 call first_state value) (sym is) found in
    (there.steps, there.is)

pub others : (code insns : List Insn) (policy : Policy) → code ≡ guarded policy.audit policy.others insns → AnswersOthers code policy
others code insns policy is call fits other =
    let bad = policy.others in
    let apart = ne_eqb call.arch policy.audit other in
    let found : Comes (guarded policy.audit bad insns) 0 call first_state bad =
    load_on 4 _ call first_state call.arch bad (word_of_architecture call ∙ ap Some (omega (arith, fits)))
    (branch_on Equal policy.audit 1 0 _ call _ bad (rw apart (answers bad (load 0 ∷ insns) call _))) in
    let there = subst (λ insns. Comes insns 0 call first_state bad) (sym is) found in
    (there.steps, there.is)

-- a rule that says what is said without it
says_no_more : (rule : Rule) (cases : List Rattle.sk_policy.specs.declared.cases.Case.Case) (default v : ℕ) (call : Record) (b : Bool) → length cases ≡ 0 → rule.otherwise ≡ default
    → (if b then said cases rule.otherwise call else v) ≡ (if b then default else v)
says_no_more rule [] default v call b none same = ap (λ w. if b then w else v) same
says_no_more rule (first ∷ cases) default v call b none same = absurd (omega (arith, none))

same_both : (b : Bool) (v w : ℕ) → w ≡ v → (if b then v else w) ≡ v
same_both true v w e = refl
same_both false v w e = e

pub none_say : (default : ℕ) (rules : List Rule) → list_all (adds_nothing default) rules ≡ true → (call : Record) → says rules default call ≡ default
none_say default [] all call = refl
none_say default (rule ∷ rules) all call =
    let both = and_both (adds_nothing default rule) (list_all (adds_nothing default) rules) all in
    let parts = and_both (length rule.cases.items == 0) (rule.otherwise == default) both.0 in
    says_no_more rule rule.cases.items default (says rules default call) call (is_for rule call.nr) (eqb-true (length rule.cases.items) 0 parts.0) (eqb-true rule.otherwise default parts.1)
    ∙ same_both (is_for rule call.nr) default (says rules default call) (none_say default rules both.1 call) where
      and_both : (b c : Bool) → (b && c) ≡ true → (b ≡ true) × (c ≡ true)
      and_both true true e = (refl, refl)
      and_both true false e = cc
      and_both false c e = cc

-- what says something is there
pub some_say : (default : ℕ) (rules : List Rule) → list_all (adds_nothing default) rules ≡ false → 0 < length rules
some_say default [] none = cc
some_say default (rule ∷ rules) none = omega arith

pub valid : (code insns : List Insn) (policy : Policy) → code ≡ guarded policy.audit policy.others insns → Emits [] insns policy.rules.items policy.default 0 0xffffffff → length code ≤ 4096 → IsValid code
valid code insns policy is emits few =
    let alone : insns ≡ emits.front = emits.code ∙ append-nil emits.front in
    guarded_valid code insns policy.audit policy.others is (subst (Fit 0) (sym alone) (emits.fit 0)) (subst EndsWithAnswer (sym alone) emits.ends) few

pub on_err : {X E : Type 0} {P Q : E → Type 0} (r : Result X E) → ((fault : E) → P fault → Q fault) → IfErr r P → IfErr r Q
on_err (Ok x) f p = p
on_err (Err e) f p = f e p

-- a fault that is handed on
pub handed_on : {X E : Type 0} {Q : Type 0} (r : Result X E) (fault wanted : E) → IsErrAnd r (λ e. e ≡ fault) → (fault ≡ wanted → Q) → IfErr r (λ e. e ≡ wanted → Q)
handed_on (Ok x) fault wanted is f = absurd is
handed_on (Err e) fault wanted is f = λ same. f (sym is ∙ same)
