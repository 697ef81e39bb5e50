-- What the code has of the profiles among files.
use Rattle.std.specs.Prelude.{ℕ, List, map, Option}
use Rattle.std.specs.Option.{option_map}
use Rattle.sk_profile.specs.Profiles.{Profile}
use Rattle.sk_profile.specs.Views.{profile_of}
use Rattle.sk_ask.specs.declared.remark.Said.{Said}
use Rattle.sk_ask.specs.declared.remark.Entries.{Entries}

abbrev pub said_of : Said → List ℕ × Option Profile
said_of said = (said.name.now, option_map profile_of said.profile)

abbrev pub all_said : Entries → List (List ℕ × Option Profile)
all_said entries = map said_of entries.files.items
