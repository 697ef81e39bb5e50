-- What an entry includes or excludes, of the code, as of the definition.
use Rattle.std.specs.Prelude.{map}
use Rattle.json.specs.Value.{value_view}
use Rattle.sk_profile_json.specs.declared.context.Where.{Where as WhereOfCode}
use Rattle.sk_profile_json.specs.Contexts.{Where}

abbrev pub where_view : WhereOfCode → Where
where_view place = record {
  arches = map value_view place.arches.now;
  caps = map value_view place.caps.now;
  kernel = place.kernel;
}
