-- What a profile's file is made into.
use Rattle.std.specs.Prelude.{ℕ, ◌≡◌, ◌⊎◌, List, map, string_bytes, Vec, Option, Some, None, Result, Ok, Err}
use Rattle.std.specs.Global.{Global}
use Rattle.std.specs.Str.{IsUtf8}
use Rattle.json.specs.Json.{Json, document}
use Rattle.sk_profile.specs.Clashes.{IsClash}
use Rattle.sk_profile.specs.Profiles.{Profile}
use Rattle.sk_profile.specs.Rows.{HasLongSections}
use Rattle.sk_profile_json.specs.declared.context.Context.{Context}
use Rattle.sk_profile_json.specs.declared.machine.Machine.{Machine}
use Rattle.sk_profile_json.specs.declared.fault.Absence.{Absence}
use Rattle.sk_profile_json.specs.declared.fault.Absence.TheVariants as absence
use Rattle.sk_profile_json.specs.Inspected.{text_inside}
use Rattle.sk_profile_json.specs.Wholes.{HasKeyTwice, IsDocument, profile_in, profile_of_document}
use Rattle.sk_profile_json.specs.declared.answer.Made.{Made}
use Rattle.sk_profile_json.specs.declared.answer.Refusal.{Refusal}
use Rattle.sk_profile_json.specs.declared.answer.Refusal.TheVariants.{NoMachine, NotText, NotJson, KeyTwice, NoProfile, Wrong, Clashes, TooLong}
use Rattle.sk_profile_json.specs.Filters.{IsFilterOf}
use Rattle.sk_profile_json.specs.Notes.{notes_of}
use Rattle.sk_profile_json.specs.Slips.{slip_of}

-- why a profile has no filter
abbrev pub IsUnbuilt : Profile → Refusal → Type 0
IsUnbuilt profile (Clashes it) = IsClash profile it
IsUnbuilt profile TooLong = HasLongSections profile
IsUnbuilt profile refusal = ⊥

-- a filter that means the profile
abbrev pub Builds : Profile → Result (Vec ℕ Global) Refusal → Type 0
Builds profile (Ok image) = IsFilterOf profile image.items
Builds profile (Err refusal) = IsUnbuilt profile refusal

-- what a value is made into: the profile that it says has this filter, or none
abbrev pub IsRefusedValue : Context → Json → Refusal → Type 0
IsRefusedValue context j (Wrong fault) = profile_in context j ≡ Err fault
IsRefusedValue context j refusal = (profile : Profile) × (profile_in context j ≡ Ok profile) × IsUnbuilt profile refusal

abbrev pub IsMadeOf : Context → Json → Result Made Refusal → Type 0
IsMadeOf context j (Ok made) =
    (profile : Profile) × (profile_in context j ≡ Ok profile) × IsFilterOf profile made.image.items
    × (map string_bytes made.notes.items ≡ notes_of context j)
IsMadeOf context j (Err refusal) = IsRefusedValue context j refusal

-- what docker's text of a profile is made into
abbrev pub IsMadeInside : Context → List ℕ → Result Made Refusal → Type 0
IsMadeInside context inner (Err KeyTwice) = HasKeyTwice inner
IsMadeInside context inner (Err (NoProfile why)) = (why ≡ absence.NotJson) × (document inner ≡ None)
IsMadeInside context inner made = (j : Json) × IsDocument inner j × IsMadeOf context j made

-- a document is made into what the profile within is
abbrev pub IsMadeWithin : Context → Option (Result (List ℕ) Absence) → Json → Result Made Refusal → Type 0
IsMadeWithin context None whole made = IsMadeOf context (profile_of_document whole) made
IsMadeWithin context (Some (Ok inner)) whole made = IsMadeInside context inner made
IsMadeWithin context (Some (Err why)) whole made = made ≡ Err (NoProfile why)

abbrev pub IsMadeOfDocument : Context → List ℕ → Result Made Refusal → Type 0
IsMadeOfDocument context text made = (whole : Json) × IsDocument text whole × IsMadeWithin context (text_inside whole) whole made

-- a text is made into what its document is
abbrev pub IsMadeOfText : Context → List ℕ → Result Made Refusal → Type 0
IsMadeOfText context text (Err NoMachine) = ⊥
IsMadeOfText context text (Err NotText) = ⊥
IsMadeOfText context text (Err (NotJson slip)) = (document text ≡ None) × (slip ≡ slip_of text)
IsMadeOfText context text (Err KeyTwice) = HasKeyTwice text ⊎ IsMadeOfDocument context text (Err KeyTwice)
IsMadeOfText context text made = IsMadeOfDocument context text made

-- bytes that are no text are refused as such
abbrev pub IsMadeOfBytes : Context → List ℕ → Result Made Refusal → Type 0
IsMadeOfBytes context bytes (Err NotText) = ¬ IsUtf8 bytes
IsMadeOfBytes context bytes made = IsUtf8 bytes × IsMadeOfText context bytes made

-- where there is no machine, it is that which is refused, whatever the bytes are
abbrev pub IsMadeOn : Option Machine → Context → List ℕ → Result Made Refusal → Type 0
IsMadeOn None context bytes made = made ≡ Err NoMachine
IsMadeOn (Some machine) context bytes made = IsMadeOfBytes context bytes made

abbrev pub IsMade : Context → List ℕ → Result Made Refusal → Type 0
IsMade context bytes made = IsMadeOn context.machine context bytes made
