-- The code's values as the definitions see them.
use Rattle.std.specs.Prelude.{ℕ, if◌then◌else◌, Bool, List, [], ◌∷◌, map, Option, Some, None}
use Rattle.std.specs.Borrow.{Bor}
use Rattle.std.specs.Option.{option_map, option_map_or}
use Rattle.sk_text.specs.Numbers.{number_of}
use Rattle.sk_scenario.specs.declared.line.TopLine.{TopLine}
use Rattle.sk_scenario.specs.declared.line.TopLine.TheVariants as top
use Rattle.sk_scenario.specs.declared.line.Argument.{Argument as CodeArgument}
use Rattle.sk_scenario.specs.declared.line.Argument.TheVariants as argument
use Rattle.sk_scenario.specs.declared.line.Arguments.{Arguments}
use Rattle.sk_scenario.specs.declared.line.CallLine.{CallLine}
use Rattle.sk_scenario.specs.declared.line.ProgramLine.{ProgramLine}
use Rattle.sk_scenario.specs.declared.line.ProgramLine.TheVariants as program
use Rattle.std.specs.declared.hash.FoldHasher.{FoldHasher}
use Rattle.std.specs.declared.hash.BuildHasherDefault.{BuildHasherDefault}
use Rattle.indexmap.specs.IndexMap.{IndexMap}
use Rattle.sk_scenario.specs.declared.call.Named.{Named}
use Rattle.sk_scenario.specs.declared.call.Named.TheVariants as named
use Rattle.sk_scenario.specs.declared.state.Done.{Done}
use Rattle.sk_scenario.specs.declared.state.Block.{Block}
use Rattle.sk_scenario.specs.declared.state.Block.TheVariants as block
use Rattle.sk_scenario.specs.Scenario.{Names}
use Rattle.sk_scenario.specs.Reading.{Gained, Open, Nothing, Undecided, Bytes, Code, Calls}
use Rattle.sk_scenario.specs.Grammar.{Heading, Alone, Opens, Silent, Turns, Subreapers, Filter, Program, Argument, Plain, NumberOf, HandlerOf, Asked}

abbrev pub heading : TopLine → Heading
heading top.Silent = Alone Silent
heading (top.Turns word) = Alone (Turns (option_map_or (λ n. n) (number_of word.now) 0))
heading top.Subreapers = Alone Subreapers
heading (top.Filter name) = Opens (Filter name.now)
heading (top.Program name owner setuid) = Opens (Program name.now owner setuid)

abbrev pub argument_seen : CodeArgument → Argument
argument_seen (argument.Plain value) = Plain value
argument_seen (argument.NumberOf name) = NumberOf name.now
argument_seen (argument.HandlerOf name) = HandlerOf name.now

abbrev pub arguments_seen : Arguments → List Argument
arguments_seen given =
    argument_seen given.a ∷ argument_seen given.b ∷ argument_seen given.c ∷ argument_seen given.d ∷ argument_seen given.e ∷ argument_seen given.f ∷ []

abbrev pub call_seen : CallLine → Asked
call_seen line = record { nr = line.nr; arguments = arguments_seen line.arguments; child = option_map (λ name. name.now) line.child }

abbrev pub line_seen : ProgramLine → Option Asked
line_seen program.Silent = None
line_seen (program.Call line) = Some (call_seen line)

-- ---- what was read

abbrev pub names_seen : IndexMap (Bor (List ℕ)) Named (BuildHasherDefault FoldHasher) → Names
names_seen names = map (λ entry. (entry.0.now, entry.1)) names.entries

abbrev pub known_seen : Option (Bor (IndexMap (Bor (List ℕ)) Named (BuildHasherDefault FoldHasher))) → Option Names
known_seen known = option_map (λ names. names_seen names.now) known

abbrev pub gained : Done → Gained
gained d = record {
  turns = d.turns;
  subreapers = d.subreapers;
  names = names_seen d.names;
  filters = map (λ image. image.items) d.filters.items;
  programs = d.programs.items;
}

abbrev pub numbered : Bool → ℕ → Named
numbered is_program number = if is_program then named.Program number else named.Filter number

abbrev pub block_seen : Block → Open
block_seen block.Nothing = Nothing
block_seen block.Undecided = Undecided
block_seen (block.Bytes image) = Bytes image.items
block_seen (block.Code image) = Code image.items
block_seen (block.Calls program) = Calls program
