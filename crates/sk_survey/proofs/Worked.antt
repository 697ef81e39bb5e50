-- Each worked call is what the definitions say, and warnings are written where there is something to warn of.
use Rattle.std.proofs.Common.{◌≡◌, ◌≢◌, ◌++◌, ◌&&◌, ◌||◌, Bool, true, false, if◌then◌else◌, [], refl, arith}
use Rattle.sk_names.specs.declared.architecture.Architecture.TheVariants as architecture
use Rattle.sk_survey.specs.Text.{warning_text}
use Rattle.sk_survey.specs.Told.{judges_calls}
use Rattle.sk_survey.specs.Worked.{WorkedNumbers, WarnsWhereItIsWritten}

pub worked_numbers : WorkedNumbers
worked_numbers = record {
  read_of_x86_64 = (refl, (omega arith, omega arith));
  last_of_x86_64 = (refl, (omega arith, omega arith));
  none_with_the_bit = λ called. let high = called.1.1 in omega arith;
  read_of_x32 = (refl, (omega arith, omega arith));
  last_of_x32 = (refl, (omega arith, omega arith));
  none_without_it = λ called. let low = called.1.0 in omega arith;
  none_with_a_higher_bit = λ called. let high = called.1.1 in omega arith;
  first_of_i386 = (refl, (omega arith, omega arith));
  last_of_i386 = (refl, (omega arith, omega arith));
  none_of_another = λ called. let arch = called.0 in omega arith;
}

by_tests : (judges i386 x32 : Bool)
    → ((judges && (i386 || x32)) ≡ true → (if judges then (if i386 then warning_text architecture.I386 else []) ++ (if x32 then warning_text architecture.X32 else []) else []) ≢ [])
    × ((if judges then (if i386 then warning_text architecture.I386 else []) ++ (if x32 then warning_text architecture.X32 else []) else []) ≢ [] → (judges && (i386 || x32)) ≡ true)
by_tests true true x32 = (λ is none. cc, λ some. refl)
by_tests true false true = (λ is none. cc, λ some. refl)
by_tests true false false = (λ is. cc, λ some. absurd (some refl))
by_tests false i386 x32 = (λ is. cc, λ some. absurd (some refl))

pub warns_where_it_is_written : WarnsWhereItIsWritten
warns_where_it_is_written it = by_tests (judges_calls it.all.items) it.i386 it.x32
