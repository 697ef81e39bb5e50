-- Sets of signals: sigsetops(3) and the table of standard signals in signal(7).
use Rattle.std.specs.Prelude.{ℕ, zero, suc, ◌-◌, ◌^◌, ◌≤◌, ◌==◌, Bool, IsTrue, if◌then◌else◌, List, [], ◌∷◌, ◌++◌, filter, sum_by, find, Option}
use Rattle.std.specs.Int.{bit_at}
use Rattle.sk_world.specs.Sets as set
use Rattle.sk_world.specs.declared.signals.TheConstants.{SIGKILL, SIGSTOP}

-- the standard signals are the numbers 1 to 31: signal(7)
abbrev pub IsSignal : ℕ → Type 0
IsSignal n = (1 ≤ n) × (n ≤ 31)

-- a set of signals, by its members
abbrev pub Signals : Type 0
Signals = set.NumberSet

-- the signals from 1 to n, in rising order
unfoldable pub signals_to : ℕ → List ℕ
signals_to zero = []
signals_to (suc n) = signals_to n ++ suc n ∷ []

-- whether the bits of a sigset_t have the signal: bit n - 1 is signal n
abbrev pub has_bit : ℕ → ℕ → Bool
has_bit bits n = bit_at bits (n - 1) == 1

-- the signals that the bits of a sigset_t stand for. Bits above signal 31 are dropped
unfoldable pub signals_of : ℕ → Signals
signals_of bits = set.from_list (filter (has_bit bits) (signals_to 31))

-- the bits of a sigset_t that stand for the set: the sum of 2 ^ (n - 1) over its members
unfoldable pub number_of : Signals → ℕ
number_of s = sum_by (λ n. if set.contains s n then 2 ^ (n - 1) else 0) (signals_to 31)

-- the member with the lowest number: the first of all signals that the set has
unfoldable pub lowest : Signals → Option ℕ
lowest s = find (λ n. set.contains s n) (signals_to 31)

-- the signal is a member, and no member is below it
abbrev pub IsLeast : Signals → ℕ → Type 0
IsLeast s n = record {
  signal : IsSignal n;
  member : IsTrue (set.contains s n);
  least : (other : ℕ) → IsTrue (set.contains s other) → n ≤ other;
}

-- the set without the signals that cannot be blocked: sigprocmask(2)
abbrev pub blockable : Signals → Signals
blockable s = set.remove (set.remove s SIGKILL) SIGSTOP
