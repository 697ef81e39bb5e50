-- The names and numbers of an architecture, by its table.
use Rattle.std.proofs.Common.{◌≡◌, ◌≢◌, ℕ, ◌+◌, ◌-◌, ◌^◌, ◌<◌, ◌≤◌, List, Option, Some, None, arith, ap, sym, refl, ◌∙◌}
use Rattle.std.specs.Prelude.{IsTrue, IfSome, IfNone}
use Rattle.std.proofs.Math.Logic.{⊎_elim}
use Rattle.std.proofs.lemmas.Bool.{cases_lt, lt-ltb, le-ltb}
use Rattle.sk_names.specs.X86_64.{name_of, named_from, names_end, number_named}
use Rattle.sk_names.specs.declared.architecture.Architecture.{Architecture}
use Rattle.sk_names.specs.declared.architecture.Architecture.TheVariants as architecture
use Rattle.sk_names.specs.Names.{Run, name_in, number_in, runs_of, name_on, number_on}
use Rattle.sk_names.specs.Numbers.{are_apart, numbers_in, numbers_on}
use Rattle.sk_names.proofs.Lookups.{none≢some}

apart_of : (a : Architecture) → IsTrue (are_apart 0 (runs_of a))
unfolding runs_of
apart_of architecture.X86_64 = refl
apart_of other = refl

pub table_is_apart : (runs : List Run) (a : Architecture) → runs ≡ runs_of a → IsTrue (are_apart 0 runs)
table_is_apart runs a e = ap (are_apart 0) e ∙ apart_of a

-- ---- what follows from an answer

pub found_so : (o : Option ℕ) (P Q : ℕ → Type 0) → ((nr : ℕ) → P nr → Q nr) → IfSome o P → IfSome o Q
found_so None P Q so h = tt
found_so (Some nr) P Q so h = so nr h

pub none_so : (o : Option ℕ) (P Q : Type 0) → (P → Q) → IfNone o P → IfNone o Q
none_so None P Q so h = so h
none_so (Some nr) P Q so h = tt

-- ---- x86-64

native_name : (nr : ℕ) → name_on architecture.X86_64 nr ≡ name_of nr
unfolding name_on
native_name nr = refl

native_number : (wanted : List ℕ) → number_on architecture.X86_64 wanted ≡ number_named wanted
unfolding number_on
native_number wanted = refl

pub name_of_native : (a : Architecture) (nr : ℕ) → a ≡ architecture.X86_64 → name_on a nr ≡ name_of nr
name_of_native a nr e = ap (λ a. name_on a nr) e ∙ native_name nr

pub number_of_native : (a : Architecture) (wanted : List ℕ) → a ≡ architecture.X86_64 → number_on a wanted ≡ number_named wanted
number_of_native a wanted e = ap (λ a. number_on a wanted) e ∙ native_number wanted

native_numbers : numbers_on architecture.X86_64 ≡ named_from names_end 0
unfolding numbers_on
native_numbers = refl

pub numbers_of_native : (a : Architecture) → a ≡ architecture.X86_64 → numbers_on a ≡ named_from names_end 0
numbers_of_native a e = ap numbers_on e ∙ native_numbers

-- ---- x32

bit_numbers : numbers_on architecture.X32 ≡ numbers_in (2 ^ 30) (runs_of architecture.X32)
unfolding numbers_on
bit_numbers = refl

pub numbers_with_bit : (a : Architecture) (runs : List Run) → a ≡ architecture.X32 → runs ≡ runs_of a → numbers_on a ≡ numbers_in (2 ^ 30) runs
numbers_with_bit a runs e same = ap numbers_on e ∙ bit_numbers ∙ ap (numbers_in (2 ^ 30)) (sym (same ∙ ap runs_of e))

low_name : (nr : ℕ) → nr < 2 ^ 30 → name_on architecture.X32 nr ≡ None
unfolding name_on
low_name nr h = rw (lt-ltb nr (2 ^ 30) h) refl

bit_name : (nr : ℕ) → 2 ^ 30 ≤ nr → name_on architecture.X32 nr ≡ name_in (runs_of architecture.X32) (nr - 2 ^ 30)
unfolding name_on
bit_name nr h = rw (le-ltb nr (2 ^ 30) h) refl

bit_number : (wanted : List ℕ) (nr : ℕ) → number_in (runs_of architecture.X32) wanted ≡ Some nr → number_on architecture.X32 wanted ≡ Some (2 ^ 30 + nr)
unfolding number_on
bit_number wanted nr is = rw is refl

no_bit_number : (wanted : List ℕ) → number_in (runs_of architecture.X32) wanted ≡ None → number_on architecture.X32 wanted ≡ None
unfolding number_on
no_bit_number wanted is = rw is refl

pub name_below_bit : (a : Architecture) (nr : ℕ) → a ≡ architecture.X32 → nr < 2 ^ 30 → name_on a nr ≡ None
name_below_bit a nr e h = ap (λ a. name_on a nr) e ∙ low_name nr h

pub name_with_bit : (a : Architecture) (runs : List Run) (nr : ℕ) → a ≡ architecture.X32 → runs ≡ runs_of a → 2 ^ 30 ≤ nr → name_on a nr ≡ name_in runs (nr - 2 ^ 30)
name_with_bit a runs nr e same h =
    ap (λ a. name_on a nr) e ∙ bit_name nr h ∙ ap (λ runs. name_in runs (nr - 2 ^ 30)) (sym (same ∙ ap runs_of e))

pub number_with_bit : (a : Architecture) (runs : List Run) (wanted : List ℕ) (nr : ℕ) → a ≡ architecture.X32 → runs ≡ runs_of a → number_in runs wanted ≡ Some nr → number_on a wanted ≡ Some (2 ^ 30 + nr)
number_with_bit a runs wanted nr e same is =
    ap (λ a. number_on a wanted) e ∙ bit_number wanted nr (ap (λ runs. number_in runs wanted) (sym (same ∙ ap runs_of e)) ∙ is)

pub no_number_with_bit : (a : Architecture) (runs : List Run) (wanted : List ℕ) → a ≡ architecture.X32 → runs ≡ runs_of a → number_in runs wanted ≡ None → number_on a wanted ≡ None
no_number_with_bit a runs wanted e same is =
    ap (λ a. number_on a wanted) e ∙ no_bit_number wanted (ap (λ runs. number_in runs wanted) (sym (same ∙ ap runs_of e)) ∙ is)

pub named_with_bit : (a : Architecture) (runs : List Run) (wanted : List ℕ) (nr : ℕ) → a ≡ architecture.X32 → runs ≡ runs_of a → name_in runs nr ≡ Some wanted → name_on a (2 ^ 30 + nr) ≡ Some wanted
named_with_bit a runs wanted nr e same is =
    let there : (2 ^ 30 + nr) - 2 ^ 30 ≡ nr = omega arith in
    name_with_bit a runs (2 ^ 30 + nr) e same (omega arith) ∙ ap (name_in runs) there ∙ is

pub unnamed_with_bit : (a : Architecture) (runs : List Run) (wanted : List ℕ) → a ≡ architecture.X32 → runs ≡ runs_of a → ((nr : ℕ) → name_in runs nr ≢ Some wanted) → (nr : ℕ) → name_on a nr ≢ Some wanted
unnamed_with_bit a runs wanted e same none nr is =
    ⊎_elim (λ less. none≢some wanted (sym (name_below_bit a nr e less) ∙ is))
    (λ more. none (nr - 2 ^ 30) (sym (name_with_bit a runs nr e same more) ∙ is)) (cases_lt nr (2 ^ 30))

-- ---- the others

plain_name : (a : Architecture) (nr : ℕ) → a ≢ architecture.X86_64 → a ≢ architecture.X32 → name_on a nr ≡ name_in (runs_of a) nr
unfolding name_on
plain_name architecture.X86_64 nr p q = absurd (p refl)
plain_name architecture.X32 nr p q = absurd (q refl)
plain_name other nr p q = refl

plain_number : (a : Architecture) (wanted : List ℕ) → a ≢ architecture.X86_64 → a ≢ architecture.X32 → number_on a wanted ≡ number_in (runs_of a) wanted
unfolding number_on
plain_number architecture.X86_64 wanted p q = absurd (p refl)
plain_number architecture.X32 wanted p q = absurd (q refl)
plain_number other wanted p q = refl

pub name_of_other : (a : Architecture) (runs : List Run) (nr : ℕ) → a ≢ architecture.X86_64 → a ≢ architecture.X32 → runs ≡ runs_of a → name_on a nr ≡ name_in runs nr
name_of_other a runs nr p q same = plain_name a nr p q ∙ ap (λ runs. name_in runs nr) (sym same)

pub number_of_other : (a : Architecture) (runs : List Run) (wanted : List ℕ) → a ≢ architecture.X86_64 → a ≢ architecture.X32 → runs ≡ runs_of a → number_on a wanted ≡ number_in runs wanted
number_of_other a runs wanted p q same = plain_number a wanted p q ∙ ap (λ runs. number_in runs wanted) (sym same)

plain_numbers : (a : Architecture) → a ≢ architecture.X86_64 → a ≢ architecture.X32 → numbers_on a ≡ numbers_in 0 (runs_of a)
unfolding numbers_on
plain_numbers architecture.X86_64 p q = absurd (p refl)
plain_numbers architecture.X32 p q = absurd (q refl)
plain_numbers architecture.I386 p q = refl
plain_numbers architecture.Aarch64 p q = refl
plain_numbers architecture.Arm p q = refl
plain_numbers architecture.Riscv64 p q = refl
plain_numbers architecture.Ppc64le p q = refl
plain_numbers architecture.S390x p q = refl
plain_numbers architecture.Loongarch64 p q = refl

pub numbers_of_other : (a : Architecture) (runs : List Run) → a ≢ architecture.X86_64 → a ≢ architecture.X32 → runs ≡ runs_of a → numbers_on a ≡ numbers_in 0 runs
numbers_of_other a runs p q same = plain_numbers a p q ∙ ap (numbers_in 0) (sym same)
