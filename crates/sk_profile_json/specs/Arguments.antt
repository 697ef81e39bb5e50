-- One of an entry's `args`: a comparison of an argument of the call, all 64 bits. With SCMP_CMP_MASKED_EQ `value` is the mask
-- and `valueTwo` what is compared; no other operator has a `valueTwo` (config-linux.md of the OCI runtime specification,
-- section "Seccomp"; seccomp_rule_add(3)).
use Rattle.std.specs.Prelude.{ℕ, ◌==◌, ◌-◌, ◌^◌, bit_and, if◌then◌else◌, List, [], ◌∷◌, codes, Option, Some, None, Result, Ok, Err, unwrap_or}
use Rattle.std.specs.Str.{bytes_eq}
use Rattle.json.specs.Json.{Json}
use Rattle.sk_profile.specs.declared.condition.Condition.{Condition}
use Rattle.sk_profile.specs.declared.condition.Test.{Test}
use Rattle.sk_profile.specs.declared.condition.Test.TheVariants.{Is, IsNot, Below, AtMost, Above, AtLeast, Masked}
use Rattle.sk_profile_json.specs.declared.fault.Field.{Field}
use Rattle.sk_profile_json.specs.declared.fault.Field.TheVariants as field
use Rattle.sk_profile_json.specs.declared.fault.Wrong.{Wrong}
use Rattle.sk_profile_json.specs.declared.fault.Wrong.TheVariants.{Contradicts}
use Rattle.sk_profile_json.specs.Fields.{result_then, required, taken, text_in, number_in, wrong_keys}

-- the operator with a name, where `value` is this
abbrev pub test_named : List ℕ → ℕ → Option Test
test_named name value =
    if bytes_eq name (codes "SCMP_CMP_NE") then Some IsNot
    else if bytes_eq name (codes "SCMP_CMP_LT") then Some Below
    else if bytes_eq name (codes "SCMP_CMP_LE") then Some AtMost
    else if bytes_eq name (codes "SCMP_CMP_EQ") then Some Is
    else if bytes_eq name (codes "SCMP_CMP_GE") then Some AtLeast
    else if bytes_eq name (codes "SCMP_CMP_GT") then Some Above
    else if bytes_eq name (codes "SCMP_CMP_MASKED_EQ") then Some (Masked value)
    else None

-- no `valueTwo` has a bit outside of the mask
abbrev pub condition_with : ℕ → ℕ → ℕ → Test → Result Condition Wrong
condition_with index value two (Masked mask) =
    if bit_and two mask == two then Ok (record { index = index; test = Masked mask; value = two }) else Err (Contradicts field.ValueTwo)
condition_with index value two test =
    if two == 0 then Ok (record { index = index; test = test; value = value }) else Err (Contradicts field.ValueTwo)

abbrev pub greatest_index : ℕ
greatest_index = 5

abbrev pub greatest_value : ℕ
greatest_value = 2 ^ 64 - 1

-- the fields that an argument may have
abbrev pub argument_fields : List Field
argument_fields = field.Index ∷ field.Value ∷ field.ValueTwo ∷ field.Op ∷ []

abbrev pub operator_in : ℕ → Json → Result Test Wrong
operator_in value j =
    result_then (λ name. taken field.Op (test_named name value)) (result_then (required field.Op) (text_in field.Op j))

abbrev pub comparison_in : ℕ → Json → Result Condition Wrong
comparison_in index j =
    result_then (λ value. result_then (λ two. result_then (condition_with index value (unwrap_or two 0))
    (operator_in value j)) (number_in greatest_value field.ValueTwo j))
    (result_then (required field.Value) (number_in greatest_value field.Value j))

abbrev pub condition_if : Option Wrong → Json → Result Condition Wrong
condition_if (Some wrong) j = Err wrong
condition_if None j =
    result_then (λ index. comparison_in index j) (result_then (required field.Index) (number_in greatest_index field.Index j))

-- the condition that an argument is
abbrev pub condition_of : Json → Result Condition Wrong
condition_of j = condition_if (wrong_keys argument_fields j) j
