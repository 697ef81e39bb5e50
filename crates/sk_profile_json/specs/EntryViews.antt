-- The entry of the code, and what it says of a name, as those of the definition.
use Rattle.std.specs.Prelude.{map}
use Rattle.json.specs.Value.{value_view}
use Rattle.sk_profile_json.specs.declared.entry.Entry.{Entry as EntryOfCode}
use Rattle.sk_profile_json.specs.declared.named.Named.{Named as NamedOfCode}
use Rattle.sk_profile_json.specs.Entries.{Entry, Named}

abbrev pub entry_view : EntryOfCode → Entry
entry_view entry = record {
  names = map value_view entry.names.now;
  value = entry.value;
  arguments = map value_view entry.arguments.now;
}

abbrev pub named_view : NamedOfCode → Named
named_view it = record { name = it.name.now; conditions = it.conditions.items; value = it.value; entry = it.entry }
