-- What is said of an entry that parts two calls which Linux takes for one: the comparison that does so, and how it is written so that it compares the
-- lower 32 bits alone. SCMP_CMP_MASKED_EQ is the only operator that compares fewer than 64 (seccomp_rule_add(3)).
use Rattle.std.specs.Prelude.{ℕ, ◌≡◌, ◌-◌, ◌^◌, ◌++◌, ◌==◌, ◌||◌, if◌then◌else◌, List, codes, Option, Some, None}
use Rattle.std.specs.Fmt.{decimal}
use Rattle.sk_profile.specs.declared.condition.Condition.{Condition}
use Rattle.sk_profile.specs.declared.condition.Test.{Test}
use Rattle.sk_profile.specs.declared.condition.Test.TheVariants.{Is, IsNot, Below, AtMost, Above, AtLeast, Masked}
use Rattle.sk_profile.specs.Sayings.{compares, low}
use Rattle.sk_profile_json.specs.declared.parting.Parting.{Parting}
use Rattle.sk_profile_json.specs.Arguments.{test_named}
use Rattle.sk_profile_json.specs.Texts.{entry_text}

-- ---- the comparison

abbrev pub operator_text : Test → List ℕ
operator_text Is = codes "SCMP_CMP_EQ"
operator_text IsNot = codes "SCMP_CMP_NE"
operator_text Below = codes "SCMP_CMP_LT"
operator_text AtMost = codes "SCMP_CMP_LE"
operator_text Above = codes "SCMP_CMP_GT"
operator_text AtLeast = codes "SCMP_CMP_GE"
operator_text (Masked mask) = codes "SCMP_CMP_MASKED_EQ"

abbrev pub beyond_text : ℕ → List ℕ
beyond_text index = codes " compares more of args[" ++ decimal index ++ codes "] than Linux reads; "

abbrev pub compared_text : Condition → List ℕ
compared_text c = operator_text c.test ++ beyond_text c.index

-- ---- how it is written

abbrev pub lower : ℕ
lower = 2 ^ 32 - 1

-- the mask by which the lower halves are compared as the numbers were, where there is one and it is another one
abbrev pub narrow_mask : Test → Option ℕ
narrow_mask Is = Some lower
narrow_mask (Masked mask) = if low mask == mask || low mask == 0 then None else Some (low mask)
narrow_mask test = None

abbrev pub masked_text : ℕ → ℕ → List ℕ
masked_text mask value =
    codes "compare the lower 32 by \"op\": \"SCMP_CMP_MASKED_EQ\", \"value\": " ++ decimal mask ++ codes ", \"valueTwo\": " ++ decimal value

-- no operator orders the lower halves, nor tells that they differ
abbrev pub each_text : List ℕ
each_text =
    codes "compare the lower 32 with each value in an entry of its own, by \"op\": \"SCMP_CMP_MASKED_EQ\", \"value\": 4294967295"

abbrev pub below_text : ℕ → List ℕ
below_text value = codes "; where the default refuses, SCMP_CMP_LT with " ++ decimal value ++ codes " does for those below"

-- where there is no such mask
abbrev pub other_text : Test → ℕ → List ℕ
other_text (Masked mask) value = codes "leave the comparison out"
other_text IsNot value = each_text ++ below_text value
other_text test value = each_text

abbrev pub repair_text : Option ℕ → Condition → List ℕ
repair_text (Some mask) c = masked_text mask (low c.value)
repair_text None c = other_text c.test c.value

-- the line, without its end
abbrev pub parting_text : Parting → List ℕ
parting_text it = entry_text it.entry ++ (compared_text it.condition ++ repair_text (narrow_mask it.condition.test) it.condition)

-- ---- laws

-- an operator is read by its text, where `value` is the mask of a masked one
abbrev pub value_beside : Test → ℕ → ℕ
value_beside (Masked mask) value = mask
value_beside test value = value

abbrev pub OperatorsAreRead : Type 0
OperatorsAreRead = (test : Test) (value : ℕ) → test_named (operator_text test) (value_beside test value) ≡ Some test

-- with the mask, numbers are compared as their lower halves were before
abbrev pub NarrowMasksCompareLow : Type 0
NarrowMasksCompareLow =
    (test : Test) (mask : ℕ) → narrow_mask test ≡ Some mask
    → (number value : ℕ) → compares (Masked mask) number (low value) ≡ compares test (low number) (low value)
