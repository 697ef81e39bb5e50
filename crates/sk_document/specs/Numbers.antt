-- Numbers of calls, and names, in documents.
use Rattle.std.specs.Prelude.{ℕ, ◌==◌, ◌++◌, if◌then◌else◌, List, codes, Option, None}
use Rattle.json.specs.Token.{Token}
use Rattle.sk_names.specs.declared.architecture.Architecture.{Architecture}
use Rattle.sk_names.specs.Architectures.{text_of}
use Rattle.sk_names.specs.Names.{name_on}
use Rattle.sk_document.specs.Documents.{at, maybe, number_at, said, string_at}

-- the name that a single number has on an architecture
abbrev pub single_name : Architecture → ℕ → ℕ → Option (List ℕ)
single_name architecture first last = if first == last then name_on architecture first else None

-- the name of an architecture
unfoldable pub architecture_at : Architecture → List Token
architecture_at architecture = string_at (codes "architecture") (text_of architecture)

-- a name, if there is one
unfoldable pub name_at : Option (List ℕ) → List Token
name_at name = at (codes "name") ++ maybe said name

-- the first and the last of neighbouring numbers, and the name that a single one has
unfoldable pub numbers : Architecture → ℕ → ℕ → List Token
numbers architecture first last =
    number_at (codes "first") first ++ (number_at (codes "last") last ++ name_at (single_name architecture first last))
