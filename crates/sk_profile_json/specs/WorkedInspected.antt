-- What `docker inspect` prints of a container, worked out by hand.
use Rattle.std.specs.Prelude.{ℕ, ◌≡◌, ◌++◌, true, false, List, [], ◌∷◌, codes, Option, Some, None, Result, Ok, Err}
use Rattle.std.specs.Option.{option_and_then}
use Rattle.std.specs.Result.{result_ok}
use Rattle.json.specs.Json.{document}
use Rattle.sk_profile_json.specs.declared.answer.Refusal.TheVariants.{NoProfile}
use Rattle.sk_profile_json.specs.declared.fault.Absence.{Absence}
use Rattle.sk_profile_json.specs.declared.fault.Absence.TheVariants.{Unsaid, Builtin, Unconfined, NotJson}
use Rattle.sk_profile_json.specs.Forms.{is_profile}
use Rattle.sk_profile_json.specs.Inspected.{text_inside}
use Rattle.sk_profile_json.specs.Texts.{refusal_text}
use Rattle.sk_profile_json.specs.WorkedFiles.{allows, plain, said}

abbrev pub inside : List ℕ → Option (Result (List ℕ) Absence)
inside text = option_and_then text_inside (document text)

-- what is printed of a container with these options
abbrev pub with_options : List ℕ → List ℕ
with_options options = codes "[\n  {\"Id\": \"9e\", \"HostConfig\": {\"Privileged\": false, \"SecurityOpt\": " ++ (options ++ codes "}}\n]\n")

abbrev pub inside_with : List ℕ → Option (Result (List ℕ) Absence)
inside_with options = inside (with_options options)

abbrev pub given : List ℕ
given = codes "[\"no-new-privileges\", \"seccomp={\\\"defaultAction\\\":\\\"SCMP_ACT_ERRNO\\\"}\", \"apparmor=docker-default\"]"

pub record WorkedInspected : Type 0 where
  pub one : inside_with given ≡ Some (Ok (codes "{\"defaultAction\":\"SCMP_ACT_ERRNO\"}"))
  pub its_profile : option_and_then (λ told. option_and_then (said plain) (result_ok told)) (inside_with given) ≡ allows []
  pub the_last : inside_with (codes "[\"seccomp=unconfined\", \"seccomp={}\", \"label=disable\"]") ≡ Some (Ok (codes "{}"))
  pub the_last_is_unconfined : inside_with (codes "[\"seccomp={}\", \"seccomp=unconfined\"]") ≡ Some (Err Unconfined)
  pub by_a_colon : inside_with (codes "[\"seccomp:unconfined\"]") ≡ Some (Err Unconfined)
  pub cut_at_the_equals_sign : inside_with (codes "[\"seccomp:{\\\"a\\\":\\\"=\\\"}\"]") ≡ Some (Err Unsaid)
  pub with_an_equals_sign : inside_with (codes "[\"seccomp={\\\"a\\\":\\\"=\\\"}\"]") ≡ Some (Ok (codes "{\"a\":\"=\"}"))
  pub builtin : inside_with (codes "[\"seccomp=builtin\"]") ≡ Some (Err Builtin)
  pub no_text : inside_with (codes "[\"seccomp={}\", \"seccomp=\"]") ≡ Some (Err Unsaid)
  pub no_option : inside_with (codes "[]") ≡ Some (Err Unsaid)
  pub others_alone : inside_with (codes "[\"no-new-privileges\", \"seccomp\", \"xseccomp={}\"]") ≡ Some (Err Unsaid)
  pub null_options : inside_with (codes "null") ≡ Some (Err Unsaid)
  pub a_path : inside_with (codes "[\"seccomp=a.json\"]") ≡ Some (Ok (codes "a.json"))
  -- other documents
  pub two_containers : inside (codes "[{\"HostConfig\": {}}, {\"HostConfig\": {}}]") ≡ None
  pub no_container : inside (codes "[]") ≡ None
  pub no_list : inside (codes "{\"HostConfig\": {\"SecurityOpt\": [\"seccomp=unconfined\"]}}") ≡ None
  pub an_image : inside (codes "[{\"Id\": \"9e\", \"Config\": {}}]") ≡ None
  -- by their bytes
  pub is_one : is_profile (with_options given) ≡ true
  pub with_blanks : is_profile (codes " \n[\t{ \r\n\"") ≡ true
  pub of_numbers : is_profile (codes "[{0x20, 0, 0, 4}]") ≡ false
  pub of_strace : is_profile (codes "[{code=0x20, jt=0, jf=0, k=0x4}]") ≡ false
  pub of_empty_objects : is_profile (codes "[{}]") ≡ false
  pub of_lists : is_profile (codes "[[\"a\"]]") ≡ false
  pub of_texts : is_profile (codes "[\"{\\\"\"]") ≡ false
  pub raw : is_profile (codes "[{\"" ++ 0 ∷ []) ≡ false
  -- what is said
  pub unsaid_text : refusal_text (NoProfile Unsaid)
      ≡ codes "no seccomp profile: SecurityOpt names none, so docker's own holds, unless its daemon has another or the container is privileged"
  pub builtin_text : refusal_text (NoProfile Builtin) ≡ codes "no seccomp profile: SecurityOpt has seccomp=builtin, which is docker's own"
  pub unconfined_text : refusal_text (NoProfile Unconfined) ≡ codes "no seccomp profile: SecurityOpt has seccomp=unconfined, so docker attaches no filter"
  pub other_text : refusal_text (NoProfile NotJson) ≡ codes "no seccomp profile: what SecurityOpt has behind seccomp= is no JSON"
