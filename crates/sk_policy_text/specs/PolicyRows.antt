-- Rows of a policy's text, and the sentences behind them.
use Rattle.std.specs.Prelude.{ℕ, ◌+◌, ◌++◌, ◌&&◌, nat_le, Bool, true, false, if◌then◌else◌, List, [], ◌∷◌, map, sum_by, Option, Some, None, unwrap_or}
use Rattle.sk_names.specs.declared.architecture.Architecture.{Architecture}
use Rattle.sk_names.specs.declared.architecture.Architecture.TheVariants as architecture
use Rattle.sk_policy_text.specs.declared.sentence.Range.{Range}
use Rattle.sk_policy_text.specs.declared.sentence.Sentence.{Sentence}
use Rattle.sk_policy_text.specs.declared.sentence.Sentence.TheVariants as sentence
use Rattle.sk_policy_text.specs.declared.stated.Stated.{Stated}

-- without their lines
abbrev pub sentences_of : List Stated → List Sentence
sentences_of text = map (λ (it : Stated). it.sentence) text

-- ---- what one sentence is

abbrev pub is_case : Sentence → Bool
is_case (sentence.Case verdict words) = true
is_case other = false

abbrev pub arch_in : Sentence → Option Architecture
arch_in (sentence.Arch architecture) = Some architecture
arch_in other = None

abbrev pub default_in : Sentence → Option ℕ
default_in (sentence.Default verdict) = Some verdict
default_in other = None

abbrev pub others_in : Sentence → Option ℕ
others_in (sentence.Others verdict) = Some verdict
others_in other = None

abbrev pub else_in : Sentence → Option ℕ
else_in (sentence.Else verdict) = Some verdict
else_in other = None

-- ---- what is said once in a text

abbrev pub or_else : Option ℕ → Option ℕ → Option ℕ
or_else None other = other
or_else (Some verdict) other = Some verdict

-- of whose calls it tells: only its first sentence says so
abbrev pub architecture_of : List Sentence → Architecture
architecture_of [] = architecture.X86_64
architecture_of (first ∷ behind) = unwrap_or (arch_in first) architecture.X86_64

-- the verdict of numbers that no row has
abbrev pub default_of : List Sentence → Option ℕ
default_of [] = None
default_of (first ∷ behind) = or_else (default_in first) (default_of behind)

abbrev pub stated_others : List Sentence → Option ℕ
stated_others [] = None
stated_others (first ∷ behind) = or_else (others_in first) (stated_others behind)

-- the verdict of calls of other architectures: SECCOMP_RET_KILL_PROCESS of linux/seccomp.h where no line says another one
abbrev pub others_of : List Sentence → ℕ
others_of text = unwrap_or (stated_others text) 0x80000000

-- ---- what stands directly behind a row

-- the verdict of `else`, behind cases
abbrev pub else_below : List Sentence → Option ℕ
else_below [] = None
else_below (first ∷ behind) = if is_case first then else_below behind else else_in first

-- how many cases there are
abbrev pub cases_below : List Sentence → ℕ
cases_below [] = 0
cases_below (first ∷ behind) = if is_case first then cases_below behind + 1 else 0

-- ---- rows

-- one range of a row, the verdict of the row, and the sentences behind it
pub record Part : Type 0 where
  pub first : ℕ
  pub last : ℕ
  pub line : ℕ
  pub verdict : Option ℕ
  pub behind : List Stated

-- a range from a greater number has none
abbrev pub part_in : Range → ℕ → Option ℕ → List Stated → List Part
part_in range line verdict behind =
    if nat_le range.first range.last then
    record { first = range.first; last = range.last; line = line; verdict = verdict; behind = behind } ∷ []
    else []

abbrev pub parts_in : List Range → ℕ → Option ℕ → List Stated → List Part
parts_in [] line verdict behind = []
parts_in (range ∷ ranges) line verdict behind = part_in range line verdict behind ++ parts_in ranges line verdict behind

abbrev pub parts_at : Sentence → ℕ → List Stated → List Part
parts_at (sentence.Row ranges verdict) line behind = parts_in ranges.items line verdict behind
parts_at other line behind = []

abbrev pub parts_of : List Stated → List Part
parts_of [] = []
parts_of (first ∷ behind) = parts_at first.sentence first.line behind ++ parts_of behind

-- ---- the numbers of rows

abbrev pub has_number : ℕ → Part → Bool
has_number nr part = nat_le part.first nr && nat_le nr part.last

abbrev pub once : ℕ → Part → ℕ
once nr part = if has_number nr part then 1 else 0

-- in how many ranges of rows a number stands
abbrev pub times : List Part → ℕ → ℕ
times parts nr = sum_by (once nr) parts

-- how many cases a range has; a row with a verdict has none
abbrev pub cases_of_row : Option ℕ → List Sentence → ℕ
cases_of_row None behind = cases_below behind
cases_of_row (Some verdict) behind = 0

abbrev pub cases_of_part : Part → ℕ
cases_of_part part = cases_of_row part.verdict (sentences_of part.behind)

abbrev pub cases_in : List Part → ℕ
cases_in parts = sum_by cases_of_part parts

-- the numbers of x32 are among those of x86-64: bit 30 is __X32_SYSCALL_BIT of asm/unistd.h; and 0xffffffff is no number of a call
abbrev pub is_of_x32 : Architecture → ℕ → Bool
is_of_x32 architecture.X86_64 nr = nat_le 0x40000000 nr && nat_le nr 0xfffffffe
is_of_x32 other nr = false
