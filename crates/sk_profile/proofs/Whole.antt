-- The sections of all parts, and the filter of them.
use Rattle.std.proofs.Common.{◌≡◌, ◌==◌, ℕ, suc, ◌-◌, ◌<◌, ◌≤◌, ◌^◌, Bool, true, false, List, [], ◌∷◌, ◌++◌, length, map, flat_map, refl, ap, sym, ◌∙◌, subst, arith, append_assoc, append-nil, length-append}
use Rattle.std.specs.Prelude.{All, Contains, IsTrue, Some, find, Result, Ok, Err, IfErr, IsErrAnd, ◌≢◌}
use Rattle.std.proofs.lemmas.List.{flat_map_more, map-append}
use Rattle.std.proofs.lemmas.List.Elements.{All-nil, All-cons, All-head, All-tail, All-append}
use Rattle.sk_insn.specs.declared.insn.Insn.{Insn}
use Rattle.sk_insn.specs.declared.record.Record.{Record}
use Rattle.sk_insn.specs.Actions.{allow}
use Rattle.sk_insn.specs.Record.{architecture}
use Rattle.sk_filter.specs.Meaning.{meaning_of}
use Rattle.sk_filter.specs.Valid.{IsValid}
use Rattle.sk_filter.specs.Walk.{walks}
use Rattle.sk_profile.specs.declared.build.CodeFault.{CodeFault}
use Rattle.sk_profile.specs.declared.build.CodeFault.TheVariants as code
use Rattle.sk_profile.specs.declared.fault.Clash.{Clash}
use Rattle.sk_profile.specs.declared.fault.ProfileFault.{ProfileFault}
use Rattle.sk_profile.specs.declared.fault.ProfileFault.TheVariants.{Rule as WrongRule, Clashes, TooLong, Memory}
use Rattle.sk_profile.specs.declared.rows.Rows.{Rows}
use Rattle.sk_profile.specs.declared.saying.Row.{Row}
use Rattle.sk_profile.specs.declared.profile.Part.{Part as PartOfCode}
use Rattle.sk_profile.specs.declared.profile.Profile.{Profile as ProfileOfCode}
use Rattle.sk_profile.specs.Sayings.{Saying, AlwaysSays, said, saying_at}
use Rattle.sk_profile.specs.Code.{answer, load, Section, guarded_code, filter_code}
use Rattle.sk_profile.specs.CodeViews.{saying_of, row_of, IsSectionFor, PutsSection, IsLongSection}
use Rattle.sk_profile.specs.Means.{IsCall, IsSection, IsAllowed, Gives, section_for, said_if}
use Rattle.sk_profile.specs.Clashes.{IsClear, IsClearPart, IsClash, IsClashIn, AreClear}
use Rattle.sk_profile.specs.Profiles.{Part, Profile, saying_in_part, saying_if, saying_for, said_by}
use Rattle.sk_profile.specs.Views.{part_of, profile_of}
use Rattle.sk_profile.specs.Rows.{IsSectionOf, AreSections, PutsSectionOf, PutsSections, IsLongPart, HasLongSections, AreGood, said_at, changes}
use Rattle.sk_profile.specs.Faults.{of_code, IsFaultIn, IsFaultOf}
use Rattle.sk_profile.proofs.Trees.{code_means_sections}
use Rattle.sk_profile.proofs.CodeRows.{cuts_say_the_same, asks_nothing}
use Rattle.sk_profile.proofs.Knowing.{sections_are_known}
use Rattle.sk_profile.proofs.Fitting.{valid_code}

-- ---- sections of parts, one by one

all_sections : (default bad : ℕ) (parts : List Part) (sections : List Section) → AreSections default bad parts sections → All IsSection sections
all_sections default bad [] [] are = All-nil IsSection
all_sections default bad (part ∷ parts) (section ∷ sections) are = All-cons IsSection section sections are.0.is.good (all_sections default bad parts sections are.1)
all_sections default bad [] (section ∷ sections) are = absurd are
all_sections default bad (part ∷ parts) [] are = absurd are

section_more : (default bad : ℕ) (parts : List Part) (sections : List Section) (part : Part) (section : Section) → AreSections default bad parts sections → IsSectionOf default bad part section
    → AreSections default bad (parts ++ part ∷ []) (sections ++ section ∷ [])
section_more default bad [] [] part section are is = (is, tt)
section_more default bad (first ∷ parts) (other ∷ sections) part section are is = (are.0, section_more default bad parts sections part section are.1 is)
section_more default bad [] (other ∷ sections) part section are is = absurd are
section_more default bad (first ∷ parts) [] part section are is = absurd are

-- what is said of a call by the section for its architecture is what its part says
said_same : (default bad : ℕ) (part : Part) (section : Section) (call : Record) → IsCall call → IsSectionOf default bad part section
    → said (saying_at section.tree call.nr) call ≡ said (saying_in_part default bad part call.nr) call
said_same default bad part section call ok is =
    cuts_say_the_same section.tree (saying_of is.rows.before) (map row_of is.rows.rows.items) is.is.is.cuts call.nr call
    ∙ ap (λ (saying : Saying). said saying call) (is.says call.nr ok.number)

by_part : (profile : Profile) (parts : List Part) (sections : List Section) → AreSections profile.default profile.bad parts sections → (call : Record) → IsCall call
    → said_if (section_for sections call.arch) profile.bad call ≡ said (saying_if profile (find (λ (part : Part). part.audit == call.arch) parts) call.nr) call
by_part profile [] [] are call ok = refl
by_part profile (part ∷ parts) (section ∷ sections) are call ok = by (by_part profile parts sections are.1 call ok) (part.audit == call.arch) refl where
  same : (section.audit == call.arch) ≡ (part.audit == call.arch)
  same = ap (λ n. n == call.arch) are.0.is.named

  by : said_if (section_for sections call.arch) profile.bad call ≡ said (saying_if profile (find (λ (part : Part). part.audit == call.arch) parts) call.nr) call → (b : Bool) → (part.audit == call.arch) ≡ b
      → said_if (section_for (section ∷ sections) call.arch) profile.bad call ≡ said (saying_if profile (find (λ (part : Part). part.audit == call.arch) (part ∷ parts)) call.nr) call
  by rest true e = rw (same ∙ e) (rw e (said_same profile.default profile.bad part section call ok are.0))
  by rest false e = rw (same ∙ e) (rw e rest)
by_part profile [] (section ∷ sections) are call ok = absurd are
by_part profile (part ∷ parts) [] are call ok = absurd are

pub whole_means : (profile : Profile) (sections : List Section) → AreSections profile.default profile.bad profile.parts sections → (call : Record) → IsCall call
    → Gives (said_by profile call) (meaning_of (filter_code profile.bad sections) call)
whole_means profile sections are call ok =
    subst (λ value. Gives value (meaning_of (filter_code profile.bad sections) call)) (by_part profile profile.parts sections are call ok)
    (code_means_sections profile.bad sections (all_sections profile.default profile.bad profile.parts sections are) call ok)

-- a part that always allows a number has a section that allows it without asking
allowed_by : (profile : Profile) (parts : List Part) (sections : List Section) → AreSections profile.default profile.bad parts sections → (nr : ℕ) → nr < 2 ^ 32
    → AlwaysSays allow (saying_if profile (find (λ (part : Part). part.audit == architecture) parts) nr) → IsAllowed (section_for sections architecture) profile.bad nr
allowed_by profile [] [] are nr small always = always.1
allowed_by profile (part ∷ parts) (section ∷ sections) are nr small always = by (λ always. allowed_by profile parts sections are.1 nr small always) (part.audit == architecture) refl where
  same : (section.audit == architecture) ≡ (part.audit == architecture)
  same = ap (λ n. n == architecture) are.0.is.named

  by : (AlwaysSays allow (saying_if profile (find (λ (part : Part). part.audit == architecture) parts) nr) → IsAllowed (section_for sections architecture) profile.bad nr)
      → (b : Bool) → (part.audit == architecture) ≡ b → IsAllowed (section_for (section ∷ sections) architecture) profile.bad nr
  by among true e =
      let is = are.0 in
      let here : find (λ (part : Part). part.audit == architecture) (part ∷ parts) ≡ Some part = rw e refl in
      let says = subst (λ found. AlwaysSays allow (saying_if profile found nr)) here always in
      let rows : AlwaysSays allow (said_at is.rows nr) = subst (AlwaysSays allow) (sym (is.says nr small)) says in
      rw (same ∙ e) (asks_nothing section.tree (saying_of is.rows.before) (map row_of is.rows.rows.items) is.is.is.cuts nr allow rows)
  by among false e =
      let skips : find (λ (part : Part). part.audit == architecture) (part ∷ parts) ≡ find (λ (part : Part). part.audit == architecture) parts = rw e refl in
      rw (same ∙ e) (among (subst (λ found. AlwaysSays allow (saying_if profile found nr)) skips always))
allowed_by profile [] (section ∷ sections) are nr small always = absurd are
allowed_by profile (part ∷ parts) [] are nr small always = absurd are

pub whole_known : (profile : Profile) (sections : List Section) → AreSections profile.default profile.bad profile.parts sections → (nr : ℕ) → nr < 2 ^ 32 → AlwaysSays allow (saying_for profile architecture nr)
    → IsTrue (walks (filter_code profile.bad sections) nr)
whole_known profile sections are nr small always =
    sections_are_known profile.bad sections nr (all_sections profile.default profile.bad profile.parts sections are) (allowed_by profile profile.parts sections are nr small always)

-- ---- what is clear in each part is so in all

clear_in : (profile : Profile) (parts : List Part) → All (IsClearPart profile.default profile.bad) parts → (arch nr : ℕ) → nr < 2 ^ 32
    → AreClear (saying_if profile (find (λ (part : Part). part.audit == arch) parts) nr)
clear_in profile [] all arch nr small = λ one other has also call fits. absurd (omega (arith, has.1))
clear_in profile (part ∷ parts) all arch nr small = by (clear_in profile parts (All-tail (IsClearPart profile.default profile.bad) part parts all) arch nr small) (part.audit == arch) refl where
  by : AreClear (saying_if profile (find (λ (part : Part). part.audit == arch) parts) nr) → (b : Bool) → (part.audit == arch) ≡ b
      → AreClear (saying_if profile (find (λ (part : Part). part.audit == arch) (part ∷ parts)) nr)
  by rest true e = rw e (All-head (IsClearPart profile.default profile.bad) part parts all nr small)
  by rest false e = rw e rest

pub whole_clear : (profile : Profile) → All (IsClearPart profile.default profile.bad) profile.parts → IsClear profile
whole_clear profile all arch nr small = clear_in profile profile.parts all arch nr small

-- ---- the parts that are done, and those that are left

pub record SoFar (profile : ProfileOfCode) (left : List PartOfCode) (old new : List Insn) : Type 0 where
  pub first : List PartOfCode
  pub parts : profile.parts.items ≡ first ++ left
  pub sections : List Section
  pub are : AreSections profile.default profile.bad (map part_of first) sections
  pub code : new ≡ old ++ flat_map guarded_code sections
  pub clear : All (IsClearPart profile.default profile.bad) (map part_of first)
  pub good : All AreGood left

pub none_so_far : (profile : ProfileOfCode) (left : List PartOfCode) (code : List Insn) → left ≡ profile.parts.items → All AreGood left → SoFar profile left code code
none_so_far profile left code is good = record {
  first = [];
  parts = sym is;
  sections = [];
  are = tt;
  code = sym (append-nil code);
  clear = All-nil (IsClearPart profile.default profile.bad);
  good = good;
}

first_parts : (profile : ProfileOfCode) (first rest : List PartOfCode) (part : PartOfCode) → profile.parts.items ≡ first ++ (part ∷ rest) → profile.parts.items ≡ (first ++ part ∷ []) ++ rest
first_parts profile first rest part is = is ∙ sym (append_assoc first (part ∷ []) rest)

pub one_more_part : (profile : ProfileOfCode) (left rest : List PartOfCode) (part : PartOfCode) (old code new : List Insn) → left ≡ part ∷ rest → SoFar profile left old code
    → PutsSectionOf profile.default profile.bad (part_of part) code new → IsClearPart profile.default profile.bad (part_of part) → SoFar profile rest old new
one_more_part profile left rest part old code new steps so_far puts clear = record {
  first = so_far.first ++ part ∷ [];
  parts = first_parts profile so_far.first rest part (so_far.parts ∙ ap (λ left. so_far.first ++ left) steps);
  sections = so_far.sections ++ puts.section ∷ [];
  are = subst (λ parts. AreSections profile.default profile.bad parts (so_far.sections ++ puts.section ∷ [])) (sym (map-append part_of so_far.first (part ∷ [])))
      (section_more profile.default profile.bad (map part_of so_far.first) so_far.sections (part_of part) puts.section so_far.are puts.says);
  code = puts.code ∙ ap (λ insns. insns ++ guarded_code puts.section) so_far.code ∙ flat_map_more guarded_code old so_far.sections puts.section;
  clear = subst (All (IsClearPart profile.default profile.bad)) (sym (map-append part_of so_far.first (part ∷ [])))
      (All-append (IsClearPart profile.default profile.bad) (map part_of so_far.first) (part_of part ∷ []) so_far.clear
      (All-cons (IsClearPart profile.default profile.bad) (part_of part) [] clear (All-nil (IsClearPart profile.default profile.bad))));
  good = All-tail AreGood part rest (subst (All AreGood) steps so_far.good);
}

all_parts : (profile : ProfileOfCode) (left : List PartOfCode) (first : List PartOfCode) → length left ≡ 0 → profile.parts.items ≡ first ++ left → map part_of first ≡ (profile_of profile).parts
all_parts profile [] first none is = ap (map part_of) (sym (append-nil first) ∙ sym is)
all_parts profile (part ∷ left) first none is = absurd (omega (arith, none))

pub all_put : (profile : ProfileOfCode) (left : List PartOfCode) (old new : List Insn) → length left ≡ 0 → SoFar profile left old new → PutsSections (profile_of profile) old new
all_put profile left old new none so_far = record {
  sections = so_far.sections;
  are = subst (λ parts. AreSections profile.default profile.bad parts so_far.sections) (all_parts profile left so_far.first none so_far.parts) so_far.are;
  code = so_far.code;
}

pub all_clear : (profile : ProfileOfCode) (left : List PartOfCode) (old new : List Insn) → length left ≡ 0 → SoFar profile left old new
    → All (IsClearPart profile.default profile.bad) (profile_of profile).parts
all_clear profile left old new none so_far = subst (All (IsClearPart profile.default profile.bad)) (all_parts profile left so_far.first none so_far.parts) so_far.clear

pub first_good : (profile : ProfileOfCode) (left rest : List PartOfCode) (part : PartOfCode) (old code : List Insn) → left ≡ part ∷ rest → SoFar profile left old code → AreGood part
first_good profile left rest part old code steps so_far = All-head AreGood part rest (subst (All AreGood) steps so_far.good)

-- the parts of the definition
its_parts : (profile : ProfileOfCode) (left rest : List PartOfCode) (part : PartOfCode) (old code : List Insn) → left ≡ part ∷ rest → (so_far : SoFar profile left old code)
    → (profile_of profile).parts ≡ map part_of so_far.first ++ (part_of part ∷ map part_of rest)
its_parts profile left rest part old code steps so_far = ap (map part_of) (so_far.parts ∙ ap (λ left. so_far.first ++ left) steps) ∙ map-append part_of so_far.first (part ∷ rest)

no_less : (sections : List Section) (section : Section) (bad : ℕ) → length (guarded_code section) ≤ length (filter_code bad (sections ++ section ∷ []))
no_less sections section bad =
    omega (
      arith,
      ap length (flat_map_more guarded_code [] sections section),
      length-append (flat_map guarded_code sections) (guarded_code section),
      length-append (flat_map guarded_code (sections ++ section ∷ [])) (answer bad ∷ []),
    )

pub long_parts : (profile : ProfileOfCode) (left rest : List PartOfCode) (part : PartOfCode) (old code : List Insn) → left ≡ part ∷ rest → SoFar profile left old code
    → IsLongPart profile.default profile.bad (part_of part) → HasLongSections (profile_of profile)
long_parts profile left rest part old code steps so_far long = record {
  first = map part_of so_far.first ++ part_of part ∷ [];
  others = map part_of rest;
  parts = its_parts profile left rest part old code steps so_far ∙ sym (append_assoc (map part_of so_far.first) (part_of part ∷ []) (map part_of rest));
  sections = so_far.sections ++ long.section ∷ [];
  are = section_more profile.default profile.bad (map part_of so_far.first) so_far.sections (part_of part) long.section so_far.are long.says;
  long = omega (arith, long.long, no_less so_far.sections long.section profile.bad);
}

-- a clash in a part is one of the profile
contains_middle : (front back : List Part) (part : Part) → Contains (front ++ (part ∷ back)) part
contains_middle [] back part = (0, omega arith, refl)
contains_middle (first ∷ front) back part = let there = contains_middle front back part in (suc there.0, omega (arith, there.1), there.2)

pub clash_of : (profile : ProfileOfCode) (left rest : List PartOfCode) (part : PartOfCode) (old code : List Insn) (it : Clash) → left ≡ part ∷ rest → SoFar profile left old code
    → IsClashIn profile.default profile.bad (part_of part) it → IsClash (profile_of profile) it
clash_of profile left rest part old code it steps so_far clash = (
  part_of part,
  subst (λ parts. Contains parts (part_of part)) (sym (its_parts profile left rest part old code steps so_far)) (contains_middle (map part_of so_far.first) (map part_of rest) (part_of part)),
  clash,
)

-- ---- the filter

pub whole_code : (bad : ℕ) (front code sections new : List Insn) → front ≡ load 4 ∷ [] → code ≡ front ++ sections → new ≡ code ++ answer bad ∷ [] → new ≡ load 4 ∷ (sections ++ answer bad ∷ [])
whole_code bad front code sections new is behind at_end = at_end ∙ ap (λ insns. insns ++ answer bad ∷ []) (behind ∙ ap (λ insns. insns ++ sections) is)

pub whole_valid : (profile : Profile) (sections : List Section) → AreSections profile.default profile.bad profile.parts sections → length (filter_code profile.bad sections) ≤ 4096 → IsValid (filter_code profile.bad sections)
whole_valid profile sections are few = valid_code profile.bad sections (all_sections profile.default profile.bad profile.parts sections are) few

pub whole_long : (profile : Profile) (sections : List Section) → AreSections profile.default profile.bad profile.parts sections → 4096 < length (filter_code profile.bad sections) → HasLongSections profile
whole_long profile sections are long = record { first = profile.parts; others = []; parts = sym (append-nil profile.parts); sections = sections; are = are; long = long }

-- ---- what a part's rows are made into

pub section_of : (default bad : ℕ) (part : Part) (rows : Rows) (items : List Row) (old new : List Insn) → items ≡ rows.rows.items → ((nr : ℕ) → nr < 2 ^ 32 → said_at rows nr ≡ saying_in_part default bad part nr)
    → length rows.rows.items ≤ changes default bad part (2 ^ 32 - 1) → PutsSection old new part.audit rows.before items → PutsSectionOf default bad part old new
section_of default bad part rows items old new is says few puts = record {
  section = puts.section;
  says = record { rows = rows; says = says; few = few; is = subst (λ (items : List Row). IsSectionFor part.audit rows.before items puts.section) is puts.says };
  code = puts.code;
}

pub long_part : (default bad : ℕ) (part : Part) (rows : Rows) (items : List Row) → items ≡ rows.rows.items → ((nr : ℕ) → nr < 2 ^ 32 → said_at rows nr ≡ saying_in_part default bad part nr)
    → length rows.rows.items ≤ changes default bad part (2 ^ 32 - 1) → IsLongSection part.audit rows.before items → IsLongPart default bad part
long_part default bad part rows items is says few long = record {
  section = long.section;
  says = record { rows = rows; says = says; few = few; is = subst (λ (items : List Row). IsSectionFor part.audit rows.before items long.section) is long.says };
  long = long.long;
}

-- ---- faults that are handed on

pub by_code : {X : Type 0} {Q : Type 0} (r : Result X ProfileFault) (fault : CodeFault) → IsErrAnd r (λ e. e ≡ of_code fault) → (fault ≡ code.TooLong → Q) → IfErr r (λ e. e ≡ TooLong → Q)
by_code (Ok x) fault is f = absurd is
by_code (Err e) code.TooLong is f = λ same. f refl
by_code (Err e) code.Memory is f = λ same. cc

pub handed : {X E : Type 0} (P : E → Type 0) (r : Result X E) (fault : E) → IsErrAnd r (λ e. e ≡ fault) → P fault → IfErr r P
handed P (Ok x) fault is p = absurd is
handed P (Err e) fault is p = subst P (sym is) p

pub fault_of : (profile : ProfileOfCode) (left rest : List PartOfCode) (part : PartOfCode) (old code : List Insn) (fault : ProfileFault) → left ≡ part ∷ rest → SoFar profile left old code
    → (fault ≢ TooLong → IsFaultIn profile.default profile.bad (part_of part) fault) → IsFaultOf (profile_of profile) fault
fault_of profile left rest part old code (WrongRule it) steps so_far is = absurd (is (λ e. cc))
fault_of profile left rest part old code (Clashes it) steps so_far is = clash_of profile left rest part old code it steps so_far (is (λ e. cc))
fault_of profile left rest part old code TooLong steps so_far is = tt
fault_of profile left rest part old code Memory steps so_far is = tt
