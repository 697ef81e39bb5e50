-- A number that was read from a field.
use Rattle.std.proofs.Common.{◌≡◌, ℕ, ◌≤◌, List, Option, Some, None, Result, Ok, Err, rules, arith}
use Rattle.std.proofs.Math.Logic.{⊎_elim}
use Rattle.std.proofs.lemmas.Bool.{cases_lt}
use Rattle.std.specs.Option.{option_and_then}
use Rattle.json.specs.Find.{as_number}
use Rattle.json.specs.Json.{Json}
use Rattle.sk_text.specs.Numbers.{number_of, up_to}
use Rattle.sk_text.proofs.Reading.{up_to-large, up_to-within}
use Rattle.sk_profile_json.specs.declared.fault.Field.{Field}
use Rattle.sk_profile_json.specs.declared.fault.Wrong.{Wrong}
use Rattle.sk_profile_json.specs.declared.fault.Wrong.TheVariants.{NotTaken}
use Rattle.sk_profile_json.specs.Fields.{read_as, number_in, number_up_to, given}

-- a number that was read is no larger than may be
up_to-some : (most m n : ℕ) → up_to most (Some m) ≡ Some n → n ≤ most
up_to-some most m n h =
    ⊎_elim
    (λ large. let none = up_to-large most m large in absurd (search (rules, h, none)))
    (λ small. let same = up_to-within most m small in let e : m ≡ n = search (rules, h, same) in omega arith)
    (cases_lt most m)

up_to-most : (most : ℕ) (o : Option ℕ) (n : ℕ) → up_to most o ≡ Some n → n ≤ most
up_to-most most None n h = absurd (search (rules, h))
up_to-most most (Some m) n h = up_to-some most m n h

number_up_to-most : (most : ℕ) (o : Option (List ℕ)) (n : ℕ) → option_and_then (λ digits. up_to most (number_of digits)) o ≡ Some n → n ≤ most
number_up_to-most most None n h = absurd (search (rules, h))
number_up_to-most most (Some digits) n h = up_to-most most (number_of digits) n h

abbrev read_or : Field → Option ℕ → Result (Option ℕ) Wrong
read_or field None = Err (NotTaken field)
read_or field (Some m) = Ok (Some m)

read_or-some : (field : Field) (o : Option ℕ) (n : ℕ) → read_or field o ≡ Ok (Some n) → o ≡ Some n
read_or-some field None n h = absurd (search (rules, h))
read_or-some field (Some m) n h = search (rules, h)

read_as-most : (most : ℕ) (field : Field) (o : Option Json) (n : ℕ) → read_as (number_up_to most) field o ≡ Ok (Some n) → n ≤ most
read_as-most most field None n h = absurd (search (rules, h))
read_as-most most field (Some j) n h =
    number_up_to-most most (as_number j) n (read_or-some field (number_up_to most j) n h)

pub number_in-most : (most : ℕ) (field : Field) (j : Json) (n : ℕ) → number_in most field j ≡ Ok (Some n) → n ≤ most
number_in-most most field j n h = read_as-most most field (given field j) n h
