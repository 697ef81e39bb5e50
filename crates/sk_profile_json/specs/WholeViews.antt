-- What a profile begins with, of the code, as of the definition.
use Rattle.std.specs.Prelude.{map}
use Rattle.json.specs.Value.{value_view}
use Rattle.sk_profile_json.specs.declared.whole.Head.{Head as HeadOfCode}
use Rattle.sk_profile_json.specs.Wholes.{Head}

abbrev pub head_view : HeadOfCode → Head
head_view head = record { default = head.default; entries = map value_view head.entries.now }
