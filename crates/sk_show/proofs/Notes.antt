-- Notes are short, and made of printable bytes alone.
use Rattle.std.proofs.Common.{◌≡◌, ◌<◌, ◌≤◌, ◌+◌, ◌-◌, ◌/◌, ◌%◌, ◌^◌, ◌==◌, ◌&&◌, ◌||◌, ◌∙◌, arith, refl, subst, ℕ, zero, suc, List, [], ◌∷◌, ◌++◌, Bool, true, false, cond, length, map, codes, inl, inr, length-append, Option, Some, None}
use Rattle.std.proofs.lemmas.Bool.{and_from, and_parts, cases_Bool, leb-true}
use Rattle.std.proofs.lemmas.List.Folds.{list_all-append}
use Rattle.std.specs.Prelude.{nat_le, nat_lt, slice_get}
use Rattle.std.specs.Fmt.{decimal}
use Rattle.std.specs.List.{list_all}
use Rattle.std.specs.Option.{option_and_then, option_map, option_or}
use Rattle.sk_text.specs.Lines.{is_printable_byte}
use Rattle.sk_insn.specs.Actions.{action_of, action_name, data_part}
use Rattle.sk_insn.specs.declared.action.Action.{Action}
use Rattle.sk_insn.specs.declared.action.Action.TheVariants.{KillProcess, KillThread, Trap, Errno, UserNotif, Trace, Log, Allow, Unknown}
use Rattle.sk_insn.specs.declared.insn.Insn.{Insn}
use Rattle.sk_insn.specs.declared.operation.Operand.TheVariants.{Constant, IndexRegister}
use Rattle.sk_insn.specs.declared.operation.Comparison.{Comparison}
use Rattle.sk_insn.specs.declared.operation.Comparison.TheVariants.{Equal, Greater, GreaterOrEqual, CommonBits}
use Rattle.sk_insn.specs.declared.operation.Operation.{Operation}
use Rattle.sk_insn.specs.declared.operation.Operation.TheVariants.{LoadRecord, LoadConstant, LoadScratch, LoadLength, StoreScratch, Compute, Negate, Jump, Branch, ReturnConstant, ReturnAccumulator, CopyToIndex, CopyToAccumulator}
use Rattle.sk_names.specs.declared.architecture.Architecture.{Architecture as TheArchitecture}
use Rattle.sk_names.specs.declared.architecture.Architecture.TheVariants as architecture
use Rattle.sk_names.specs.Architectures.{text_of}
use Rattle.sk_names.specs.Names.{Run, name_at, name_in, name_on, runs_of}
use Rattle.sk_names.specs.X86_64.{name_of}
use Rattle.sk_names.specs.declared.x86_64.names.TheConstants.{EARLY, LATE}
use Rattle.sk_filter.specs.Errors.{error_named, if_any}
use Rattle.sk_filter.specs.VerdictText.{data_text, error_text, verdict_text}
use Rattle.sk_filter.specs.declared.errors.TheConstants.{ERRORS}
use Rattle.sk_asm.proofs.Numerals.{IsWord-decimal}
use Rattle.sk_asm.proofs.Words.{joined-printable}
use Rattle.sk_show.specs.declared.held.Held.{Held}
use Rattle.sk_show.specs.declared.held.Held.TheVariants.{Number, Architecture, Other}
use Rattle.sk_show.specs.Notes.{architecture_of, architecture_text, argument_text, call_name, compared_text, field_text, half_text, is_turned, named_text, note_text}

-- ---- texts of at most so many printable bytes

pub record IsShort (most : ℕ) (text : List ℕ) : Type 0 where
  pub short : length text ≤ most
  pub printable : list_all is_printable_byte text ≡ true

is_short : ℕ → List ℕ → Bool
is_short most text = nat_le (length text) most && list_all is_printable_byte text

IsShort-from : (most : ℕ) (text : List ℕ) → is_short most text ≡ true → IsShort most text
unfolding is_short
IsShort-from most text h =
    let parts = and_parts (nat_le (length text) most) (list_all is_printable_byte text) h in
    record { short = leb-true (length text) most parts.0; printable = parts.1 }

pub IsShort-append : (m n : ℕ) (front back : List ℕ) → IsShort m front → IsShort n back → IsShort (m + n) (front ++ back)
IsShort-append m n front back f b =
    let len = length-append front back in
    let short = f.short in
    let few = b.short in
    record {
      short = omega arith;
      printable =
          list_all-append is_printable_byte front back
          ∙ and_from (list_all is_printable_byte front) (list_all is_printable_byte back) f.printable b.printable;
    }

IsShort-weaker : (m n : ℕ) (text : List ℕ) → m ≤ n → IsShort m text → IsShort n text
IsShort-weaker m n text le h = let short = h.short in record { short = omega arith; printable = h.printable }

IsShort-cond : (most : ℕ) (test : Bool) (text other : List ℕ) → IsShort most text → IsShort most other → IsShort most (cond test text other)
IsShort-cond most true text other h g = h
IsShort-cond most false text other h g = g

IsShort-nothing : (most : ℕ) → IsShort most []
IsShort-nothing most = record { short = omega arith; printable = refl }

pub IsShort-decimal : (n : ℕ) → n < 2 ^ 32 → IsShort 11 (decimal n)
IsShort-decimal n h =
    let word = IsWord-decimal n h in
    record { short = word.short; printable = joined-printable (decimal n ∷ []) (word, tt) }

-- ---- loads

half-short : (turned : Bool) (place : ℕ) → IsShort 5 (half_text turned place)
unfolding is_short is_printable_byte
half-short turned place = IsShort-cond 5 (place % 8 == cond turned 4 0) _ _ (IsShort-from 5 (codes " low") refl) (IsShort-from 5 (codes " high") refl)

argument-short : (turned : Bool) (place : ℕ) → place < 2 ^ 32 → IsShort 23 (argument_text turned place)
unfolding argument_text is_short is_printable_byte
argument-short turned place h =
    IsShort-append 6 17 (codes " args[") _ (IsShort-from 6 (codes " args[") refl)
    (IsShort-append 11 6 (decimal ((place - 16) / 8)) _ (IsShort-decimal ((place - 16) / 8) (omega arith))
    (IsShort-append 1 5 (codes "]") (half_text turned place) (IsShort-from 1 (codes "]") refl) (half-short turned place)))

field-short : (turned : Bool) (place : ℕ) → place < 2 ^ 32 → IsShort 23 (field_text turned place)
unfolding field_text is_short is_printable_byte
field-short turned place h =
    IsShort-cond 23 (place == 0) _ _ (IsShort-from 23 (codes " nr") refl)
    (IsShort-cond 23 (place == 4) _ _ (IsShort-from 23 (codes " arch") refl)
    (IsShort-cond 23 (place == 8 || place == 12) _ _ (IsShort-append 3 20 (codes " ip") _ (IsShort-from 3 (codes " ip") refl) (IsShort-weaker 5 20 _ (omega arith) (half-short turned place)))
    (IsShort-cond 23 (nat_le 16 place && nat_lt place 64 && place % 4 == 0) _ _ (argument-short turned place h) (IsShort-nothing 23))))

-- ---- names

-- an element of a list that passes
among : (test : List ℕ → Bool) (texts : List (List ℕ)) (place : ℕ) (text : List ℕ) → list_all test texts ≡ true → slice_get texts place ≡ Some text → test text ≡ true
among test [] place text all h = cc
among test (first ∷ texts) zero text all h =
    let same : first ≡ text = cc in
    subst (λ (t : List ℕ). test t ≡ true) same (and_parts (test first) (list_all test texts) all).0
among test (first ∷ texts) (suc place) text all h = among test texts place text (and_parts (test first) (list_all test texts) all).1 h

early-short : list_all (is_short 40) (map (λ name. name.now) EARLY) ≡ true
unfolding is_short is_printable_byte
early-short = refl

late-short : list_all (is_short 40) (map (λ name. name.now) LATE) ≡ true
unfolding is_short is_printable_byte
late-short = refl

errors-short : list_all (is_short 40) (map (λ name. name.now) ERRORS) ≡ true
unfolding is_short is_printable_byte
errors-short = refl

native-short : (nr : ℕ) (name : List ℕ) → name_of nr ≡ Some name → IsShort 40 name
unfolding name_of
native-short nr name h = elim (cases_Bool (nat_lt nr 424)) [
  | inl t ↦ IsShort-from 40 name (among (is_short 40) (map (λ n. n.now) EARLY) nr name early-short (rw t at h))
  | inr f ↦ IsShort-from 40 name (among (is_short 40) (map (λ n. n.now) LATE) (nr - 424) name late-short (rw f at h))
]

are_short : List Run → Bool
are_short runs = list_all (λ run. list_all (is_short 40) run.1) runs

runs-short : (by : TheArchitecture) → are_short (runs_of by) ≡ true
unfolding are_short is_short is_printable_byte runs_of
runs-short architecture.X86_64 = refl
runs-short architecture.X32 = refl
runs-short architecture.I386 = refl
runs-short architecture.Aarch64 = refl
runs-short architecture.Arm = refl
runs-short architecture.Riscv64 = refl
runs-short architecture.Ppc64le = refl
runs-short architecture.S390x = refl
runs-short architecture.Loongarch64 = refl

name_at-short : (run : Run) (nr : ℕ) (name : List ℕ) → list_all (is_short 40) run.1 ≡ true → name_at run nr ≡ Some name → IsShort 40 name
unfolding name_at
name_at-short run nr name all h = elim (cases_Bool (nat_lt nr run.0)) [
  | inl t ↦ let e : None ≡ Some name = rw t at h in cc
  | inr f ↦ IsShort-from 40 name (among (is_short 40) run.1 (nr - run.0) name all (rw f at h))
]

first-short : (run : Run) (runs : List Run) (nr : ℕ) (name : List ℕ) (found : Option (List ℕ)) → list_all (is_short 40) run.1 ≡ true
    → (name_in runs nr ≡ Some name → IsShort 40 name) → name_at run nr ≡ found → option_or found (name_in runs nr) ≡ Some name → IsShort 40 name
first-short run runs nr name None all later is h = later h
first-short run runs nr name (Some text) all later is h = name_at-short run nr name all (is ∙ h)

name_in-short : (runs : List Run) (nr : ℕ) (name : List ℕ) → are_short runs ≡ true → name_in runs nr ≡ Some name → IsShort 40 name
unfolding are_short name_in
name_in-short [] nr name all h = cc
name_in-short (run ∷ runs) nr name all h =
    let parts = and_parts (list_all (is_short 40) run.1) (are_short runs) all in
    first-short run runs nr name (name_at run nr) parts.0 (name_in-short runs nr name parts.1) refl h

name-short : (by : TheArchitecture) (nr : ℕ) (name : List ℕ) → name_on by nr ≡ Some name → IsShort 40 name
unfolding name_on
name-short architecture.X86_64 nr name h = native-short nr name h
name-short architecture.X32 nr name h = elim (cases_Bool (nat_lt nr (2 ^ 30))) [
  | inl t ↦ let e : None ≡ Some name = rw t at h in cc
  | inr f ↦ name_in-short (runs_of architecture.X32) (nr - 2 ^ 30) name (runs-short architecture.X32) (rw f at h)
]
name-short architecture.I386 nr name h = name_in-short (runs_of architecture.I386) nr name (runs-short architecture.I386) h
name-short architecture.Aarch64 nr name h = name_in-short (runs_of architecture.Aarch64) nr name (runs-short architecture.Aarch64) h
name-short architecture.Arm nr name h = name_in-short (runs_of architecture.Arm) nr name (runs-short architecture.Arm) h
name-short architecture.Riscv64 nr name h = name_in-short (runs_of architecture.Riscv64) nr name (runs-short architecture.Riscv64) h
name-short architecture.Ppc64le nr name h = name_in-short (runs_of architecture.Ppc64le) nr name (runs-short architecture.Ppc64le) h
name-short architecture.S390x nr name h = name_in-short (runs_of architecture.S390x) nr name (runs-short architecture.S390x) h
name-short architecture.Loongarch64 nr name h = name_in-short (runs_of architecture.Loongarch64) nr name (runs-short architecture.Loongarch64) h

named-short : (name : Option (List ℕ)) → ((text : List ℕ) → name ≡ Some text → IsShort 40 text) → IsShort 41 (named_text name)
unfolding is_short is_printable_byte
named-short None each = IsShort-nothing 41
named-short (Some name) each = IsShort-append 1 40 (codes " ") name (IsShort-from 1 (codes " ") refl) (each name refl)

call-short : (by : Option TheArchitecture) (nr : ℕ) → IsShort 41 (named_text (call_name by nr))
call-short None nr = IsShort-nothing 41
call-short (Some by) nr = named-short (name_on by nr) (name-short by nr)

any_same : (text name : List ℕ) → if_any text ≡ Some name → text ≡ name
any_same [] name h = cc
any_same (byte ∷ bytes) name h = cc

error_from : (number : ℕ) (text : Option (List ℕ)) (name : List ℕ) → slice_get (map (λ n. n.now) ERRORS) number ≡ text → option_and_then if_any text ≡ Some name → IsShort 40 name
error_from number None name e h = cc
error_from number (Some text) name e h =
    subst (IsShort 40) (any_same text name h) (IsShort-from 40 text (among (is_short 40) (map (λ n. n.now) ERRORS) number text errors-short e))

error-short : (number : ℕ) (name : Option (List ℕ)) → error_named number ≡ name → IsShort 41 (error_text name)
unfolding is_short is_printable_byte error_named
error-short number None h = IsShort-nothing 41
error-short number (Some name) h =
    IsShort-append 1 40 (codes " ") name (IsShort-from 1 (codes " ") refl) (error_from number (slice_get (map (λ n. n.now) ERRORS) number) name refl h)

-- ---- verdicts

action-short : (action : Action) → IsShort 12 (action_name action)
unfolding is_short is_printable_byte
action-short KillProcess = IsShort-from 12 (codes "kill_process") refl
action-short KillThread = IsShort-from 12 (codes "kill_thread") refl
action-short Trap = IsShort-from 12 (codes "trap") refl
action-short Errno = IsShort-from 12 (codes "errno") refl
action-short UserNotif = IsShort-from 12 (codes "user_notif") refl
action-short Trace = IsShort-from 12 (codes "trace") refl
action-short Log = IsShort-from 12 (codes "log") refl
action-short Allow = IsShort-from 12 (codes "allow") refl
action-short Unknown = IsShort-from 12 (codes "unknown") refl

slashed-short : (given : ℕ) → given < 2 ^ 32 → IsShort 12 (codes "/" ++ decimal given)
unfolding is_short is_printable_byte
slashed-short given h = IsShort-append 1 11 (codes "/") (decimal given) (IsShort-from 1 (codes "/") refl) (IsShort-decimal given h)

given-short : (given : ℕ) → given < 2 ^ 32 → IsShort 53 (cond (given == 0) [] (codes "/" ++ decimal given))
given-short given h = IsShort-cond 53 (given == 0) _ _ (IsShort-nothing 53) (IsShort-weaker 12 53 _ (omega arith) (slashed-short given h))

data-short : (action : Action) (given : ℕ) → given < 2 ^ 32 → IsShort 53 (data_text action given)
data-short Errno given h = IsShort-append 12 41 (codes "/" ++ decimal given) (error_text (error_named given)) (slashed-short given h) (error-short given (error_named given) refl)
data-short KillProcess given h = given-short given h
data-short KillThread given h = given-short given h
data-short Trap given h = given-short given h
data-short UserNotif given h = given-short given h
data-short Trace given h = given-short given h
data-short Log given h = given-short given h
data-short Allow given h = given-short given h
data-short Unknown given h = given-short given h

verdict-short : (value : ℕ) → value < 2 ^ 32 → IsShort 65 (verdict_text value)
unfolding verdict_text
verdict-short value h =
    IsShort-append 12 53 (action_name (action_of value)) (data_text (action_of value) (data_part value))
    (action-short (action_of value)) (data-short (action_of value) (data_part value) (omega arith))

-- ---- all

text-short : (by : TheArchitecture) → IsShort 41 (codes " " ++ text_of by)
unfolding is_short is_printable_byte
text-short architecture.X86_64 = IsShort-from 41 (codes " x86-64") refl
text-short architecture.X32 = IsShort-from 41 (codes " x32") refl
text-short architecture.I386 = IsShort-from 41 (codes " i386") refl
text-short architecture.Aarch64 = IsShort-from 41 (codes " aarch64") refl
text-short architecture.Arm = IsShort-from 41 (codes " arm") refl
text-short architecture.Riscv64 = IsShort-from 41 (codes " riscv64") refl
text-short architecture.Ppc64le = IsShort-from 41 (codes " ppc64le") refl
text-short architecture.S390x = IsShort-from 41 (codes " s390x") refl
text-short architecture.Loongarch64 = IsShort-from 41 (codes " loongarch64") refl

found-short : (found : Option TheArchitecture) → IsShort 41 (named_text (option_map text_of found))
found-short None = IsShort-nothing 41
found-short (Some by) = text-short by

architecture-short : (number : ℕ) → IsShort 41 (architecture_text number)
architecture-short number = found-short (architecture_of number)

compared-short : (by : Option TheArchitecture) (held : Held) (comparison : Comparison) (number : ℕ) → IsShort 41 (compared_text by held comparison number)
compared-short by Number CommonBits number = IsShort-nothing 41
compared-short by Architecture CommonBits number = IsShort-nothing 41
compared-short by Other CommonBits number = IsShort-nothing 41
compared-short by Number Equal number = call-short by number
compared-short by Number Greater number = call-short by number
compared-short by Number GreaterOrEqual number = call-short by number
compared-short by Architecture Equal number = architecture-short number
compared-short by Architecture Greater number = architecture-short number
compared-short by Architecture GreaterOrEqual number = architecture-short number
compared-short by Other Equal number = IsShort-nothing 41
compared-short by Other Greater number = IsShort-nothing 41
compared-short by Other GreaterOrEqual number = IsShort-nothing 41

pub note-short : (by : Option TheArchitecture) (held : Held) (operation : Option Operation) (given : Insn) → given.k < 2 ^ 32 → IsShort 66 (note_text by held operation given)
unfolding note_text is_short is_printable_byte
note-short by held None given h = IsShort-nothing 66
note-short by held (Some LoadRecord) given h = IsShort-weaker 23 66 _ (omega arith) (field-short (is_turned by) given.k h)
note-short by held (Some (Branch comparison Constant)) given h = IsShort-weaker 41 66 _ (omega arith) (compared-short by held comparison given.k)
note-short by held (Some (Branch comparison IndexRegister)) given h = IsShort-nothing 66
note-short by held (Some ReturnConstant) given h = IsShort-append 1 65 (codes " ") (verdict_text given.k) (IsShort-from 1 (codes " ") refl) (verdict-short given.k h)
note-short by held (Some (LoadConstant register)) given h = IsShort-nothing 66
note-short by held (Some (LoadScratch register)) given h = IsShort-nothing 66
note-short by held (Some (LoadLength register)) given h = IsShort-nothing 66
note-short by held (Some (StoreScratch register)) given h = IsShort-nothing 66
note-short by held (Some (Compute arithmetic right)) given h = IsShort-nothing 66
note-short by held (Some Negate) given h = IsShort-nothing 66
note-short by held (Some Jump) given h = IsShort-nothing 66
note-short by held (Some ReturnAccumulator) given h = IsShort-nothing 66
note-short by held (Some CopyToIndex) given h = IsShort-nothing 66
note-short by held (Some CopyToAccumulator) given h = IsShort-nothing 66
