-- All numbers of an architecture that have a name, and tables as the code has them.
use Rattle.std.specs.Prelude.{ℕ, ◌+◌, ◌^◌, ◌&&◌, nat_le, Bool, List, [], ◌∷◌, length, map, flat_map}
use Rattle.std.specs.List.{range_with_len, zip}
use Rattle.sk_names.specs.X86_64.{named_from, names_end}
use Rattle.sk_names.specs.declared.architecture.Architecture.{Architecture}
use Rattle.sk_names.specs.declared.architecture.Architecture.TheVariants as architecture
use Rattle.sk_names.specs.declared.runs.Run.{Run as CodeRun}
use Rattle.sk_names.specs.declared.runs.Table.{Table}
use Rattle.sk_names.specs.Names.{Run, names_in, runs_of}

-- ---- runs

-- no number of the run is from here on
abbrev pub end_of : Run → ℕ
end_of run = run.0 + length run.1

-- the numbers of a run, each behind a base
abbrev pub numbers_at : ℕ → Run → List ℕ
numbers_at base run = range_with_len (base + run.0) (length run.1)

abbrev pub numbers_in : ℕ → List Run → List ℕ
numbers_in base runs = flat_map (numbers_at base) runs

-- each run begins where the one before it has ended, or later, and the last has ended where bit 30 begins
abbrev pub are_apart : ℕ → List Run → Bool
are_apart from [] = nat_le from (2 ^ 30)
are_apart from (run ∷ runs) = nat_le from run.0 && are_apart (end_of run) runs

-- ---- an architecture

-- all numbers that have a name, in rising order
unfoldable pub numbers_on : Architecture → List ℕ
numbers_on architecture.X86_64 = named_from names_end 0
numbers_on architecture.X32 = numbers_in (2 ^ 30) (runs_of architecture.X32)
numbers_on other = numbers_in 0 (runs_of other)

-- ---- as the code has them

abbrev pub run_of : CodeRun → Run
run_of run = (run.first, names_in run.names.now)

abbrev pub runs_in : Table → List Run
runs_in table = zip table.firsts.now (map (λ text. names_in text.now) table.names.now)
