-- What is true of a reader after bytes were taken from it.
use Rattle.std.specs.Prelude.{◌≡◌, ◌≤◌, ℕ, Option, Result, Ok, Err, List, length}
use Rattle.std.specs.Io.KnownBytes.{Consumes}
use Rattle.sk_text.specs.Failures.{one_more}
use Rattle.sk_text.specs.declared.source.ReadFault.{ReadFault}
use Rattle.sk_text.specs.declared.source.ReadFault.TheVariants.{Read, Memory}

-- at most so many of the known bytes are gone, from the front
pub record ConsumesUpTo (most : ℕ) (old new : Option (List ℕ)) : Type 0 where
  pub gone : List ℕ
  pub within : length gone ≤ most
  pub consumed : Consumes old new gone

-- Read is answered where a read failed, which the reader counted; every other answer where none did
abbrev pub WhyNotRead : {T : Type 0} → Result T ReadFault → ℕ → ℕ → Type 0
WhyNotRead (Ok value) old new = new ≡ old
WhyNotRead (Err Read) old new = new ≡ one_more old
WhyNotRead (Err Memory) old new = new ≡ old
