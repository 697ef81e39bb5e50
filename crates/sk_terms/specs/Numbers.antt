-- What a line says of the number of a call.
use Rattle.std.specs.Prelude.{ℕ, ◌≡◌, ◌≤◌, true}
use Rattle.sk_insn.specs.declared.record.Record.{Record}
use Rattle.sk_terms.specs.declared.lines.Line.{Line}
use Rattle.sk_terms.specs.Lines.{meets_line}

-- the call's number is one of these
abbrev pub HasNumber : ℕ → ℕ → Record → Type 0
HasNumber first last call = (first ≤ call.nr) × (call.nr ≤ last)

-- the same call with another number
abbrev pub numbered : Record → ℕ → Record
numbered call nr = record call { nr = nr }

-- what the line asks of a number is never just what all of these numbers meet: a call that meets it with each of them meets it
-- with every number
abbrev pub TellsNoWhole : ℕ → ℕ → Line → Type 0
TellsNoWhole first last line =
    (call : Record) → ((nr : ℕ) → first ≤ nr → nr ≤ last → meets_line line (numbered call nr) ≡ true)
    → (nr : ℕ) → meets_line line (numbered call nr) ≡ true
