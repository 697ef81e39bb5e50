-- The name that may be meant by a word that is none.
use Rattle.std.specs.Prelude.{ℕ, ◌+◌, ◌/◌, ◌++◌, nat_eq, nat_lt, if◌then◌else◌, List, [], ◌∷◌, length, map, codes, Option, Some, None}
use Rattle.std.specs.List.{filter_map}
use Rattle.std.specs.Option.{option_or, unwrap_or}
use Rattle.strsim.specs.Edits.{damerau}
use Rattle.sk_names.specs.declared.architecture.Architecture.{Architecture}
use Rattle.sk_names.specs.Architectures.{architectures, text_of}
use Rattle.sk_names.specs.Names.{name_on}
use Rattle.sk_names.specs.Numbers.{numbers_on}
use Rattle.sk_profile_json.specs.Capabilities.{capability}
use Rattle.sk_profile_json.specs.Machines.{machines, own_of}
use Rattle.sk_ask.specs.declared.nearest.TheConstants.{SEE_CAPABILITIES, SEE_HELP}
use Rattle.sk_ask.specs.Complaints.{shown}
use Rattle.sk_ask.specs.OtherNames.{bare_name}

-- how many letters are put in, taken out, put in another's place, or swapped with the next one: F. J. Damerau, "A technique for
-- computer detection and correction of spelling errors", 1964
abbrev pub distance : List ℕ → List ℕ → ℕ
distance [] name = length name
distance (letter ∷ word) [] = length word + 1
distance (letter ∷ word) (first ∷ name) = damerau nat_eq (letter ∷ word) (first ∷ name)

-- the first of the nearest names, where it is nearer than that
abbrev pub nearer_than : ℕ → List ℕ → List (List ℕ) → Option (List ℕ)
nearer_than bound word [] = None
nearer_than bound word (name ∷ names) =
    if nat_lt (distance word name) bound then option_or (nearer_than (distance word name) word names) (Some name)
    else nearer_than bound word names

-- of two to five letters one may be wrong, of six to nine two, and so on; a word of more than 64 letters means none
abbrev pub nearest : List ℕ → List (List ℕ) → Option (List ℕ)
nearest word names = if nat_lt 64 (length word) then None else nearer_than ((length word + 2) / 4 + 1) word names

-- the names of an architecture's calls
abbrev pub call_names : Architecture → List (List ℕ)
call_names by = filter_map (name_on by) (numbers_on by)

-- those of the architectures
abbrev pub architecture_names : List (List ℕ)
architecture_names = map text_of architectures

-- those of the capabilities that `--cap all` lends
abbrev pub capability_names : List (List ℕ)
capability_names = unwrap_or (capability (codes "all")) []

-- those of the machines that filters of profiles are made for
abbrev pub machine_names : List (List ℕ)
machine_names = map (λ machine. text_of (own_of machine)) machines

-- what is said of the name that may be meant, or else of where the names stand
abbrev pub meant_text : List ℕ → Option (List ℕ) → List ℕ
meant_text elsewhere None = elsewhere
meant_text elsewhere (Some name) = codes ": did you mean " ++ (name ++ codes "?")

-- what is wrong, a word, and the name that may be meant by what is sought of it, or else where the names stand
abbrev pub of_unknown : List ℕ → List ℕ → List ℕ → List (List ℕ) → List ℕ → List ℕ
of_unknown what word sought names elsewhere =
    codes "ask: " ++ (what ++ (shown word ++ (meant_text elsewhere (nearest sought names) ++ codes "\n")))

-- the words, the architectures and the machines have their names there
abbrev pub see_help : List ℕ
see_help = SEE_HELP.now

-- and the capabilities theirs
abbrev pub see_capabilities : List ℕ
see_capabilities = SEE_CAPABILITIES.now

-- a word names no call of an architecture
abbrev pub no_call_named : Architecture → List ℕ → List ℕ
no_call_named by word = of_unknown (codes "no call is named ") word (bare_name word) (call_names by) []
