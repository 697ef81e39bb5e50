-- Calls that conditions hold of, argument by argument, and arms that do not clash.
use Rattle.std.proofs.Common.{◌≡◌, ℕ, zero, suc, ◌^◌, ◌<◌, ◌&&◌, not, if◌then◌else◌, Bool, true, false, inl, inr, List, [], ◌∷◌, length, map, slice_get, slice_index_or, refl, sym, ap, ◌∙◌, subst, arith}
use Rattle.std.specs.Prelude.{◌||◌, Option, Some, None, IsSome}
use Rattle.std.specs.List.{All, Contains, list_any}
use Rattle.std.proofs.lemmas.Bool.{eqb-true, eq-eqb, ne_eqb, le-leb, cases_lt, cases_Bool, and_parts}
use Rattle.std.proofs.lemmas.List.{get_or_past, length-map}
use Rattle.std.proofs.lemmas.Option.{slice_get-get_or, slice_get_within}
use Rattle.std.proofs.lemmas.List.Elements.{All-nil, All-cons, All-head, All-tail}
use Rattle.sk_insn.specs.declared.record.Record.{Record}
use Rattle.sk_profile.specs.declared.condition.Condition.{Condition}
use Rattle.sk_profile.specs.declared.condition.Test.TheVariants.{AtLeast}
use Rattle.sk_profile.specs.declared.clash.TwoArms.{TwoArms}
use Rattle.sk_profile.specs.declared.fault.Clash.{Clash}
use Rattle.sk_profile.specs.declared.saying.Arm.{Arm as ArmOfCode}
use Rattle.sk_profile.specs.Means.{IsCall}
use Rattle.sk_profile.specs.Sayings.{Arm, Saying, always, low, seen, is_on, are_apart, holds_of, all_hold}
use Rattle.sk_profile.specs.CodeViews.{arm_of, AreAsked, IsArmOfCode}
use Rattle.sk_profile.specs.Meeting.{limit, meets, meets_on, MeetsBoth}
use Rattle.sk_profile.specs.Clashes.{FitsBoth, ClashesWithNone, AreClashing, IsClashIn, call_of, entries_for}
use Rattle.sk_profile.specs.Profiles.{Rule, Part, arm_of_rule, is_narrow, is_unknown, is_x32, plain_rule, rules_for, saying_of_rules, saying_in_part, settled}
use Rattle.sk_profile.proofs.Halves.{low_at}

-- ---- the condition on an argument

neither : (a b : Bool) → (a || b) ≡ false → (a ≡ false) × (b ≡ false)
neither true b e = cc
neither false b e = (refl, e)

and_true : (b rest : Bool) → rest ≡ true → (b && rest) ≡ b
and_true true rest e = e
and_true false rest e = refl

none_on : (index : ℕ) (cs : List Condition) (n : ℕ) → list_any (is_on index) cs ≡ false → meets_on index cs n ≡ true
none_on index [] n e = refl
none_on index (c ∷ cs) n e =
    let parts = neither (is_on index c) (list_any (is_on index) cs) e in rw parts.0 (none_on index cs n parts.1)

pub on_this : (index : ℕ) (whole cs : List Condition) (c : Condition) → whole ≡ c ∷ cs → c.index ≡ index → AreAsked whole → (n : ℕ) → meets_on index whole n ≡ meets c n
on_this index whole cs c is this asked n =
    let split = and_parts (not (list_any (is_on c.index) cs)) (are_apart cs) (subst (λ cs. are_apart cs ≡ true) is asked.1) in
    let others : list_any (is_on index) cs ≡ false = subst (λ i. list_any (is_on i) cs ≡ false) this (not_any (list_any (is_on c.index) cs) split.0) in
    ap (λ cs. meets_on index cs n) is ∙ rw (eq-eqb c.index index this) (and_true (meets c n) (meets_on index cs n) (none_on index cs n others)) where
      not_any : (b : Bool) → not b ≡ true → b ≡ false
      not_any true e = cc
      not_any false e = refl

pub on_others : (index : ℕ) (whole cs : List Condition) (c d : Condition) → whole ≡ c ∷ cs → (c.index ≡ index → ⊥) → ((n : ℕ) → meets_on index cs n ≡ meets d n)
    → (n : ℕ) → meets_on index whole n ≡ meets d n
on_others index whole cs c d is other same n =
    let first : meets_on index (c ∷ cs) n ≡ meets_on index cs n = rw (ne_eqb c.index index other) refl in
    ap (λ cs. meets_on index cs n) is ∙ first ∙ same n

pub on_nothing : (index : ℕ) (cs : List Condition) → length cs ≡ 0 → (n : ℕ) → meets_on index cs n ≡ meets (record { index = index; test = AtLeast; value = 0 }) n
on_nothing index [] none n = sym (le-leb 0 n (omega arith))
on_nothing index (c ∷ cs) none n = absurd (omega (arith, none))

pub asked_rest : (whole cs : List Condition) (c : Condition) → whole ≡ c ∷ cs → AreAsked whole → AreAsked cs
asked_rest whole cs c is asked =
    let both = subst AreAsked is asked in
    (All-tail (λ (c : Condition). c.index < 6) c cs both.0, (and_parts (not (list_any (is_on c.index) cs)) (are_apart cs) both.1).1)

pub meets_both : (narrow : Bool) (index n : ℕ) (cs ds : List Condition) (c d : Condition) → ((n : ℕ) → meets_on index cs n ≡ meets c n) → ((n : ℕ) → meets_on index ds n ≡ meets d n)
    → n < limit narrow → meets c n ≡ true → meets d n ≡ true → MeetsBoth narrow cs ds index n
meets_both narrow index n cs ds c d one other small first second = record { small = small; first = one n ∙ first; second = other n ∙ second }

pub below_limit : (narrow : Bool) (n : ℕ) → n < limit narrow → n < 2 ^ 64
below_limit true n small = omega (arith, small)
below_limit false n small = small

pub none_on_both : (narrow : Bool) (index : ℕ) (cs ds : List Condition) (c d : Condition) → ((n : ℕ) → meets_on index cs n ≡ meets c n) → ((n : ℕ) → meets_on index ds n ≡ meets d n)
    → ((n : ℕ) → n < limit narrow → meets c n ≡ true → meets d n ≡ true → ⊥) → (n : ℕ) → n < limit narrow → meets_on index cs n ≡ true → meets_on index ds n ≡ true → ⊥
none_on_both narrow index cs ds c d one other none n small first second = none n small (sym (one n) ∙ first) (sym (other n) ∙ second)

-- the least number is too great for an argument
pub none_so_low : (narrow : Bool) (least n : ℕ) → narrow ≡ true → 0xffffffff < least → n < limit narrow → n < least
none_so_low true least n e great small = omega (arith, great, small)
none_so_low false least n e great small = cc

pub within_limit : (narrow : Bool) (n : ℕ) → n < 2 ^ 64 → (narrow ≡ true → 0xffffffff < n → ⊥) → n < limit narrow
within_limit false n small low = small
within_limit true n small low =
    elim (cases_lt n (2 ^ 32)) [ inl less ↦ less | inr up ↦ absurd (low refl (omega (arith, up))) ]

-- ---- from arguments to calls, and back

met_here : (c : Condition) (cs : List Condition) (n : ℕ) → meets_on c.index (c ∷ cs) n ≡ true → meets c n ≡ true
met_here c cs n e =
    let here : (not (is_on c.index c) || meets c n) ≡ true = (and_parts _ _ e).0 in
    subst (λ b. (not b || meets c n) ≡ true) (eq-eqb c.index c.index refl) here

holds_all : (cs : List Condition) (call : Record) → All (λ (c : Condition). c.index < 6) cs → ((i : ℕ) → i < 6 → meets_on i cs (slice_index_or call.args i 0) ≡ true)
    → all_hold cs call ≡ true
holds_all [] call inside each = refl
holds_all (c ∷ cs) call inside each =
    let first = met_here c cs (slice_index_or call.args c.index 0) (each c.index (All-head (λ (c : Condition). c.index < 6) c cs inside)) in
    let rest = holds_all cs call (All-tail (λ (c : Condition). c.index < 6) c cs inside) (λ i less. (and_parts _ _ (each i less)).1) in
    rw first rest

six : (P : ℕ → Type 0) → P 0 → P 1 → P 2 → P 3 → P 4 → P 5 → (i : ℕ) → i < 6 → P i
six P a b c d e f zero less = a
six P a b c d e f (suc zero) less = b
six P a b c d e f (suc (suc zero)) less = c
six P a b c d e f (suc (suc (suc zero))) less = d
six P a b c d e f (suc (suc (suc (suc zero)))) less = e
six P a b c d e f (suc (suc (suc (suc (suc zero))))) less = f
six P a b c d e f (suc (suc (suc (suc (suc (suc i)))))) less = absurd (omega (arith, less))

abbrev Fits : ℕ → Type 0
Fits n = n < 2 ^ 64

-- an argument that is seen as it is
as_seen : (index : ℕ) (cs : List Condition) (n : ℕ) → n < 2 ^ 32 → meets_on index cs n ≡ true → meets_on index cs (low n) ≡ true
as_seen index cs n small met = let same : n ≡ low n = omega (arith, small) in subst (λ n. meets_on index cs n ≡ true) same met

pub a_call : (narrow : Bool) (cs ds : List Condition) (a b c d e f : ℕ) → AreAsked cs → AreAsked ds → MeetsBoth narrow cs ds 0 a → MeetsBoth narrow cs ds 1 b → MeetsBoth narrow cs ds 2 c
    → MeetsBoth narrow cs ds 3 d → MeetsBoth narrow cs ds 4 e → MeetsBoth narrow cs ds 5 f
    → (arch nr : ℕ) → arch < 2 ^ 32 → nr < 2 ^ 32 → FitsBoth narrow cs ds (call_of arch nr (a ∷ b ∷ c ∷ d ∷ e ∷ f ∷ []))
a_call narrow cs ds a b c d e f asked others one two three four five sixth arch nr known small =
    record { is_call = is_call; first = all_first narrow refl; second = all_second narrow refl } where
      args : List ℕ
      args = a ∷ b ∷ c ∷ d ∷ e ∷ f ∷ []

      call : Record
      call = call_of arch nr args

      is_call : IsCall call
      is_call = record {
        number = small;
        arch = known;
        six = refl;
        fit =
            All-cons Fits a (b ∷ c ∷ d ∷ e ∷ f ∷ []) (below_limit narrow a one.small)
            (All-cons Fits b (c ∷ d ∷ e ∷ f ∷ []) (below_limit narrow b two.small)
            (All-cons Fits c (d ∷ e ∷ f ∷ []) (below_limit narrow c three.small)
            (All-cons Fits d (e ∷ f ∷ []) (below_limit narrow d four.small)
            (All-cons Fits e (f ∷ []) (below_limit narrow e five.small) (All-cons Fits f [] (below_limit narrow f sixth.small) (All-nil Fits))))));
      }

      low_one : (n : ℕ) → narrow ≡ true → n < limit narrow → n < 2 ^ 32
      low_one n narrowed within = subst (λ narrow. n < limit narrow) narrowed within

      all_first : (b : Bool) → narrow ≡ b → all_hold cs (seen b call) ≡ true
      all_first false narrowed = holds_all cs call asked.0 (six (λ i. meets_on i cs (slice_index_or args i 0) ≡ true) one.first two.first three.first four.first five.first sixth.first)
      all_first true narrowed =
          holds_all cs (seen true call) asked.0
          (six (λ i. meets_on i cs (slice_index_or (map low args) i 0) ≡ true) (as_seen 0 cs a (low_one a narrowed one.small) one.first) (as_seen 1 cs b (low_one b narrowed two.small) two.first)
          (as_seen 2 cs c (low_one c narrowed three.small) three.first) (as_seen 3 cs d (low_one d narrowed four.small) four.first) (as_seen 4 cs e (low_one e narrowed five.small) five.first)
          (as_seen 5 cs f (low_one f narrowed sixth.small) sixth.first))

      all_second : (b : Bool) → narrow ≡ b → all_hold ds (seen b call) ≡ true
      all_second false narrowed =
          holds_all ds call others.0 (six (λ i. meets_on i ds (slice_index_or args i 0) ≡ true) one.second two.second three.second four.second five.second sixth.second)
      all_second true narrowed =
          holds_all ds (seen true call) others.0
          (six (λ i. meets_on i ds (slice_index_or (map low args) i 0) ≡ true) (as_seen 0 ds a (low_one a narrowed one.small) one.second) (as_seen 1 ds b (low_one b narrowed two.small) two.second)
          (as_seen 2 ds c (low_one c narrowed three.small) three.second) (as_seen 3 ds d (low_one d narrowed four.small) four.second) (as_seen 4 ds e (low_one e narrowed five.small) five.second)
          (as_seen 5 ds f (low_one f narrowed sixth.small) sixth.second))

-- an argument has 64 bits, or 32
small_argument : (call : Record) → IsCall call → (i : ℕ) → slice_index_or call.args i 0 < 2 ^ 64
small_argument call is i =
    elim (cases_lt i (length call.args)) [ inl inside ↦ is.fit i 0 inside | inr past ↦ rw (get_or_past call.args i 0 past) (omega arith) ]

seen_small : (narrow : Bool) (call : Record) → IsCall call → (i : ℕ) → slice_index_or (seen narrow call).args i 0 < limit narrow
seen_small false call is i = small_argument call is i
seen_small true call is i = omega (arith, low_at call.args i)

meets_here : (c : Condition) (call : Record) (i : ℕ) → holds_of c call ≡ true → (not (is_on i c) || meets c (slice_index_or call.args i 0)) ≡ true
meets_here c call i holds =
    elim (cases_Bool (is_on i c)) [
      | inl on ↦
          let same = eqb-true c.index i on in
          rw on (subst (λ i. meets c (slice_index_or call.args i 0) ≡ true) same holds)
      | inr off ↦ rw off refl
    ]

meets_all : (cs : List Condition) (call : Record) (i : ℕ) → all_hold cs call ≡ true → meets_on i cs (slice_index_or call.args i 0) ≡ true
meets_all [] call i holds = refl
meets_all (c ∷ cs) call i holds =
    let parts = and_parts _ _ holds in rw (meets_here c call i parts.0) (meets_all cs call i parts.1)

pub no_call : (narrow : Bool) (cs ds : List Condition) (index : ℕ) → ((n : ℕ) → n < limit narrow → meets_on index cs n ≡ true → meets_on index ds n ≡ true → ⊥) → (call : Record) → FitsBoth narrow cs ds call → ⊥
no_call narrow cs ds index none call fits =
    none (slice_index_or (seen narrow call).args index 0) (seen_small narrow call fits.is_call index) (meets_all cs (seen narrow call) index fits.first) (meets_all ds (seen narrow call) index fits.second)

-- ---- arms

-- arms of which two fit a call say the same of it
abbrev pub ArmsAreClear : Bool → List Arm → Type 0
ArmsAreClear narrow arms = (one other : Arm) → Contains arms one → Contains arms other → ClashesWithNone narrow one other

clear_without_arms : (narrow : Bool) → ArmsAreClear narrow []
clear_without_arms narrow one other has also call fits = absurd (omega (arith, has.1))

-- one of arms, seen as an arm of the definition
among : (P : Arm → Type 0) (arms : List ArmOfCode) → All (λ (arm : ArmOfCode). P (arm_of arm)) arms → (other : Arm) → Contains (map arm_of arms) other → P other
among P [] each other has = absurd (omega (arith, has.1))
among P (arm ∷ arms) each other (zero, d, here) = subst P here (All-head (λ (arm : ArmOfCode). P (arm_of arm)) arm arms each)
among P (arm ∷ arms) each other (suc k, d, here) = among P arms (All-tail (λ (arm : ArmOfCode). P (arm_of arm)) arm arms each) other (k, omega (arith, d), here)

turned : (narrow : Bool) (cs ds : List Condition) (call : Record) → FitsBoth narrow cs ds call → FitsBoth narrow ds cs call
turned narrow cs ds call fits = record { is_call = fits.is_call; first = fits.second; second = fits.first }

one_more : (narrow : Bool) (arm : Arm) (arms : List Arm) → ((other : Arm) → Contains arms other → ClashesWithNone narrow arm other) → ArmsAreClear narrow arms → ArmsAreClear narrow (arm ∷ arms)
one_more narrow arm arms free clear one other (zero, d, here) (zero, f, there) call fits = let same : one ≡ other = sym here ∙ there in ap (λ (x : Arm). x.value) same
one_more narrow arm arms free clear one other (zero, d, here) (suc k, f, there) call fits =
    let has : Contains arms other = (k, omega (arith, f), there) in
    subst (λ (x : Arm). FitsBoth narrow x.conditions other.conditions call → x.value ≡ other.value) here (free other has call) fits
one_more narrow arm arms free clear one other (suc k, d, here) (zero, f, there) call fits =
    let has : Contains arms one = (k, omega (arith, d), here) in
    sym (subst (λ (x : Arm). FitsBoth narrow x.conditions one.conditions call → x.value ≡ one.value) there (free one has call) (turned narrow one.conditions other.conditions call fits))
one_more narrow arm arms free clear one other (suc k, d, here) (suc j, f, there) call fits =
    clear one other (k, omega (arith, d), here) (j, omega (arith, f), there) call fits

pub first_good : (left rest : List ArmOfCode) (arm : ArmOfCode) → left ≡ arm ∷ rest → All IsArmOfCode left → IsArmOfCode arm
first_good left rest arm is good = All-head IsArmOfCode arm rest (subst (All IsArmOfCode) is good)

pub rest_good : (left rest : List ArmOfCode) (arm : ArmOfCode) → left ≡ arm ∷ rest → All IsArmOfCode left → All IsArmOfCode rest
rest_good left rest arm is good = All-tail IsArmOfCode arm rest (subst (All IsArmOfCode) is good)

pub arm_more : (narrow : Bool) (left rest whole : List ArmOfCode) (arm : ArmOfCode) → left ≡ arm ∷ rest → All (λ (other : ArmOfCode). ClashesWithNone narrow (arm_of arm) (arm_of other)) rest
    → (ArmsAreClear narrow (map arm_of left) → ArmsAreClear narrow (map arm_of whole)) → ArmsAreClear narrow (map arm_of rest) → ArmsAreClear narrow (map arm_of whole)
arm_more narrow left rest whole arm steps free so_far clear =
    so_far (subst (λ (arms : List ArmOfCode). ArmsAreClear narrow (map arm_of arms)) (sym steps)
    (one_more narrow (arm_of arm) (map arm_of rest) (among (ClashesWithNone narrow (arm_of arm)) rest free) clear))

none_left : (narrow : Bool) (left : List ArmOfCode) → length left ≡ 0 → ArmsAreClear narrow (map arm_of left)
none_left narrow [] e = clear_without_arms narrow
none_left narrow (arm ∷ left) e = absurd (omega (arith, e))

pub nothing_left : (narrow : Bool) (left whole : List ArmOfCode) → length left ≡ 0 → (ArmsAreClear narrow (map arm_of left) → ArmsAreClear narrow (map arm_of whole)) → ArmsAreClear narrow (map arm_of whole)
nothing_left narrow left whole e so_far = so_far (none_left narrow left e)

-- two rules for a number that clash are a fault of the part
pub clash_in : (default bad : ℕ) (part : Part) (saying : Saying) (it : TwoArms) (nr : ℕ) (clash : Clash) → saying ≡ saying_in_part default bad part nr → clash.arch ≡ part.audit → clash.number ≡ nr → clash.args ≡ it.args
    → AreClashing part.audit nr saying it → slice_get (entries_for default part nr) it.first ≡ Some clash.first → slice_get (entries_for default part nr) it.second ≡ Some clash.second
    → IsClashIn default bad part clash
clash_in default bad part saying it nr clash is arch number args clashing one other = record {
  one = it.first;
  other = it.second;
  arch = arch;
  clash =
      subst (λ args. AreClashing clash.arch clash.number (saying_in_part default bad part clash.number) (record { first = it.first; second = it.second; args = args })) (sym args)
      (subst (λ nr. AreClashing clash.arch nr (saying_in_part default bad part nr) it) (sym number)
      (subst (λ arch. AreClashing arch nr (saying_in_part default bad part nr) it) (sym arch) (subst (λ (said : Saying). AreClashing part.audit nr said it) is clashing)));
  first = ap (λ n. slice_get (entries_for default part n) it.first) number ∙ one;
  second = ap (λ n. slice_get (entries_for default part n) it.second) number ∙ other;
}

-- an arm of a saying is one of a rule that counts
counted : (narrow : Bool) (rule : Option Rule) (rules : List Rule) (default place : ℕ) (arm : Arm) → slice_get (settled narrow rule (map arm_of_rule rules) default).arms place ≡ Some arm
    → place < length rules
counted narrow (Some rule) rules default place arm found = cc
counted narrow None [] default place arm found = cc
counted narrow None (rule ∷ rules) default place arm found =
    let within : place < length (map arm_of_rule (rule ∷ rules)) = slice_get_within (map arm_of_rule (rule ∷ rules)) place arm found in
    let same : length (map arm_of_rule (rule ∷ rules)) ≡ length (rule ∷ rules) = length-map (rule ∷ rules) arm_of_rule in omega (arith, within, same)

within_entries : (default bad : ℕ) (part : Part) (nr place : ℕ) (arm : Arm) → slice_get (saying_in_part default bad part nr).arms place ≡ Some arm → place < length (entries_for default part nr)
within_entries default bad part nr place arm found = by (is_unknown part nr) refl (part.without_x32 && is_x32 nr) refl where
  rules : List Rule
  rules = rules_for default part.rules nr

  said : Bool → Bool → Saying
  said unknown x32 = if unknown then always Rattle.sk_profile.specs.Profiles.no_call else if x32 then always bad else saying_of_rules part default nr

  by : (unknown : Bool) → is_unknown part nr ≡ unknown → (x32 : Bool) → (part.without_x32 && is_x32 nr) ≡ x32 → place < length (entries_for default part nr)
  by true e x32 f =
      let none : slice_get (said true (part.without_x32 && is_x32 nr)).arms place ≡ Some arm = subst (λ b. slice_get (said b (part.without_x32 && is_x32 nr)).arms place ≡ Some arm) e found in cc
  by false e true f =
      let none : slice_get (said false true).arms place ≡ Some arm =
      subst (λ b. slice_get (said false b).arms place ≡ Some arm) f (subst (λ b. slice_get (said b (part.without_x32 && is_x32 nr)).arms place ≡ Some arm) e found) in cc
  by false e false f =
      let some : slice_get (said false false).arms place ≡ Some arm =
      subst (λ b. slice_get (said false b).arms place ≡ Some arm) f (subst (λ b. slice_get (said b (part.without_x32 && is_x32 nr)).arms place ≡ Some arm) e found) in
      let within : place < length rules = counted (is_narrow part nr) (plain_rule default part.rules nr) rules default place arm some in
      let same : length (entries_for default part nr) ≡ length rules = length-map rules (λ (rule : Rule). rule.entry) in omega (arith, within, same)

some_within : (xs : List ℕ) (place : ℕ) → place < length xs → IsSome (slice_get xs place)
some_within xs place within = subst IsSome (sym (slice_get-get_or xs place 0 within)) refl

pub has_entry : (default bad : ℕ) (part : Part) (nr place : ℕ) (saying : Saying) (arm : Arm) → saying ≡ saying_in_part default bad part nr → slice_get saying.arms place ≡ Some arm
    → IsSome (slice_get (entries_for default part nr) place)
has_entry default bad part nr place saying arm is found =
    some_within (entries_for default part nr) place (within_entries default bad part nr place arm (subst (λ (said : Saying). slice_get said.arms place ≡ Some arm) is found))
