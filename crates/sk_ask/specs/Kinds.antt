-- What people give for a filter and is none, by how it begins, and what is said of it.
use Rattle.std.specs.Prelude.{ℕ, nat_eq, Bool, if◌then◌else◌, List, [], ◌∷◌, codes, Option, Some, None}
use Rattle.std.specs.List.{list_any, starts_with}

abbrev pub begins_as : List ℕ → List ℕ → Bool
begins_as bytes start = starts_with nat_eq bytes start

-- EI_MAG of elf(5)
abbrev pub is_elf : List ℕ → Bool
is_elf bytes = begins_as bytes (127 ∷ 69 ∷ 76 ∷ 70 ∷ [])

-- ID1 and ID2 of RFC 1952
abbrev pub is_gzip : List ℕ → Bool
is_gzip bytes = begins_as bytes (31 ∷ 139 ∷ [])

-- a byte order mark of UTF-16 in either order: section 23.8 of the Unicode standard
abbrev pub is_utf16 : List ℕ → Bool
is_utf16 bytes = list_any (begins_as bytes) ((255 ∷ 254 ∷ []) ∷ (254 ∷ 255 ∷ []) ∷ [])

-- seccomp_export_pfc(3) writes this first
abbrev pub is_pseudo_code : List ℕ → Bool
is_pseudo_code bytes = begins_as bytes (codes "#\n# pseudo filter code start\n#\n# filter for arch ")

-- a document of YAML begins with three dashes, or with a key of a profile or of a manifest of Kubernetes
abbrev pub is_yaml : List ℕ → Bool
is_yaml bytes = list_any (begins_as bytes) (codes "---\n" ∷ codes "apiVersion:" ∷ codes "defaultAction:" ∷ [])

-- sections of systemd.unit(5) and systemd.exec(5)
abbrev pub is_unit : List ℕ → Bool
is_unit bytes = list_any (begins_as bytes) (codes "[Unit]" ∷ codes "[Service]" ∷ [])

-- statements of minijail0(5)
abbrev pub is_minijail : List ℕ → Bool
is_minijail bytes = list_any (begins_as bytes) (codes "@include " ∷ codes "@default " ∷ codes "@frequency " ∷ codes "@denylist" ∷ [])

abbrev pub kind_of : List ℕ → Option (List ℕ)
kind_of bytes =
    if is_elf bytes then Some (codes "is an ELF file: expected a filter, as bytes of struct sock_filter or as a text")
    else if is_gzip bytes then Some (codes "is compressed: expected what gunzip makes of it")
    else if is_utf16 bytes then Some (codes "is a text in UTF-16: expected UTF-8")
    else if is_pseudo_code bytes then Some (codes "is pseudo code of libseccomp: expected what seccomp_export_bpf(3) writes")
    else if is_yaml bytes then Some (codes "is YAML: expected JSON, as yq -o json writes it")
    else if is_unit bytes then Some (codes "is a unit of systemd: expected a filter, a policy or a profile")
    else if is_minijail bytes then Some (codes "is a policy of minijail: expected a filter, as minijail's compile_seccomp_policy.py writes it")
    else None
