-- Lines of entries, worked out by hand.
use Rattle.std.specs.Prelude.{ℕ, ◌≡◌, ◌++◌, List, codes, Option, Some, None}
use Rattle.std.specs.Option.{option_and_then}
use Rattle.json.specs.Json.{document}
use Rattle.sk_profile_json.specs.Lines.{line_within}
use Rattle.sk_profile_json.specs.WorkedInspected.{given, with_options}

abbrev pub line : List ℕ → ℕ → Option ℕ
line text number = option_and_then (line_within text number) (document text)

-- the first entry has an object in it, and the third is like it but for its blanks; the last has a brace in a string, and begins in one line with another
abbrev pub entries : List ℕ
entries =
    codes "  \"syscalls\": [\n    {\"names\": [\"read\"], \"action\": \"SCMP_ACT_ALLOW\",\n"
    ++ (codes "      \"args\": [{\"index\": 0, \"value\": 1, \"op\": \"SCMP_CMP_EQ\"}]},\n"
    ++ (codes "    {\n      \"names\": [\"write\"],\n      \"action\": \"SCMP_ACT_ALLOW\"\n    },\n"
    ++ (codes "    {\"names\": [\"read\"], \"action\": \"SCMP_ACT_ALLOW\", \"args\":\n      [{\"index\": 0, \"value\": 1, \"op\": \"SCMP_CMP_EQ\"}]},\n"
    ++ codes "    {\"names\": [\"open\"], \"action\": \"SCMP_ACT_LOG\", \"comment\": \"{\"}, {\"names\": [\"close\"], \"action\": \"SCMP_ACT_LOG\"}]")))

abbrev pub bare : List ℕ
bare = codes "{\"defaultAction\": \"SCMP_ACT_ERRNO\",\n" ++ (entries ++ codes "}\n")

-- in the configuration of a container, and as Kubernetes has it
abbrev pub configured : List ℕ
configured = codes "{\"linux\": {\n\n\"seccomp\": {\"defaultAction\": \"SCMP_ACT_ERRNO\",\n" ++ (entries ++ codes "}}}\n")

abbrev pub of_kubernetes : List ℕ
of_kubernetes = codes "{\"kind\": \"SeccompProfile\",\n\"spec\": {\"defaultAction\": \"SCMP_ACT_ERRNO\",\r\n" ++ (entries ++ codes "}}")

pub record WorkedLines : Type 0 where
  pub first : line bare 0 ≡ Some 3
  pub second : line bare 1 ≡ Some 5
  -- it never decides, since the first one does
  pub alike : line bare 2 ≡ Some 3
  pub fourth : line bare 3 ≡ Some 11
  pub in_one_line : line bare 4 ≡ Some 11
  pub none : line bare 5 ≡ None
  pub in_linux : line configured 1 ≡ Some 7
  pub in_spec : line of_kubernetes 1 ≡ Some 6
  -- docker's text, and a document without entries
  pub of_docker : line (with_options given) 0 ≡ None
  pub no_entries : line (codes "{\"defaultAction\": \"SCMP_ACT_ERRNO\"}") 0 ≡ None
  pub no_object : line (codes "{\"syscalls\": [7, {}]}") 0 ≡ None
  pub its_entries : line (codes "{\"syscalls\": [7,\n{}]}") 1 ≡ Some 2
