-- Where an entry counts: `includes` and `excludes` of docker's and podman's profiles, as moby's
-- profiles/seccomp/seccomp_linux.go reads them. An entry that excludes the architecture, any of the capabilities that
-- are held, or the kernel, is left out, and so is one that includes others only.
use Rattle.std.specs.Prelude.{ℕ, ◌+◌, ◌-◌, ◌^◌, ◌==◌, ◌&&◌, ◌||◌, not, nat_lt, nat_le, Bool, true, false, if◌then◌else◌, List, [], ◌∷◌, length, take, drop, Option, Some, None, Result, Ok, Err}
use Rattle.std.specs.Borrow.{Bor}
use Rattle.std.specs.List.{list_any, list_all, position_from}
use Rattle.std.specs.Option.{option_map_or}
use Rattle.std.specs.Result.{result_ok}
use Rattle.json.specs.Json.{Json}
use Rattle.sk_text.specs.Numbers.{number_of, up_to}
use Rattle.sk_profile_json.specs.declared.context.Context.{Context}
use Rattle.sk_profile_json.specs.declared.context.Kernel.{Kernel}
use Rattle.sk_profile_json.specs.declared.fault.Field.{Field}
use Rattle.sk_profile_json.specs.declared.fault.Field.TheVariants as field
use Rattle.sk_profile_json.specs.declared.fault.Wrong.{Wrong}
use Rattle.sk_profile_json.specs.Fields.{result_then, taken, text_in, texts_in, wrong_keys, given, is_the}
use Rattle.sk_profile_json.specs.Machines.{row}

-- ---- versions: two numbers with a point between, as `4.8`

abbrev pub is_version_byte : ℕ → Bool
is_version_byte byte = byte == 46 || (nat_le 48 byte && nat_le byte 57)

abbrev pub greatest_version : ℕ
greatest_version = 2 ^ 32 - 1

abbrev pub kernel_if : Option ℕ → Option ℕ → Option Kernel
kernel_if None minor = None
kernel_if (Some major) None = None
kernel_if (Some major) (Some minor) = Some (record { major = major; minor = minor })

-- the numbers before and behind a place
abbrev pub kernel_at : List ℕ → Option ℕ → Option Kernel
kernel_at text None = None
kernel_at text (Some place) =
    kernel_if (up_to greatest_version (number_of (take place text))) (up_to greatest_version (number_of (drop (place + 1) text)))

abbrev pub kernel_of : List ℕ → Option Kernel
kernel_of text =
    if list_all is_version_byte text then kernel_at text (position_from (λ byte. byte == 46) 0 text) else None

-- this kernel or a later one
abbrev pub is_reached : Kernel → Kernel → Bool
is_reached now least = nat_lt least.major now.major || (least.major == now.major && nat_le least.minor now.minor)

-- ---- what an entry includes or excludes

pub record Where : Type 0 where
  pub arches : List Json
  pub caps : List Json
  pub kernel : Option Kernel

abbrev pub nowhere : Where
nowhere = record { arches = []; caps = []; kernel = None }

abbrev pub where_fields : List Field
where_fields = field.Arches ∷ field.Caps ∷ field.MinKernel ∷ []

abbrev pub kernel_or : Option (List ℕ) → Result (Option Kernel) Wrong
kernel_or None = Ok None
kernel_or (Some text) = result_then (λ kernel. Ok (Some kernel)) (taken field.MinKernel (kernel_of text))

abbrev pub kernel_in : Json → Result (Option Kernel) Wrong
kernel_in j = result_then kernel_or (text_in field.MinKernel j)

abbrev pub where_if : Option Wrong → Json → Result Where Wrong
where_if (Some wrong) j = Err wrong
where_if None j =
    result_then (λ arches. result_then (λ caps. result_then (λ kernel. Ok (record { arches = arches; caps = caps; kernel = kernel }))
    (kernel_in j)) (texts_in field.Caps j)) (texts_in field.Arches j)

abbrev pub where_of : Json → Result Where Wrong
where_of j = where_if (wrong_keys where_fields j) j

abbrev pub where_or : Field → Option Json → Result Where Wrong
where_or field None = Ok nowhere
where_or field (Some j) = taken field (result_ok (where_of j))

abbrev pub where_in : Field → Json → Result Where Wrong
where_in field j = where_or field (given field j)

-- ---- whether it counts

abbrev pub is_held : Context → Json → Bool
is_held context j = list_any (λ (name : Bor (List ℕ)). is_the name.now j) context.capabilities.now

-- the kernel that is asked for is reached; where none is asked for, it is as is said
abbrev pub reaches : Bool → Kernel → Option Kernel → Bool
reaches otherwise now None = otherwise
reaches otherwise now (Some least) = is_reached now least

abbrev pub is_empty : List Json → Bool
is_empty js = length js == 0

-- the name of the machine
abbrev pub is_arch : Context → Json → Bool
is_arch context j = option_map_or (λ machine. is_the (row machine).arch j) context.machine false

abbrev pub has_arch : Context → Where → Bool
has_arch context place = list_any (is_arch context) place.arches

abbrev pub leaves_out : Context → Where → Bool
leaves_out context place = has_arch context place || (list_any (is_held context) place.caps || reaches false context.kernel place.kernel)

abbrev pub takes_in : Context → Where → Bool
takes_in context place =
    (is_empty place.arches || has_arch context place) && (list_all (is_held context) place.caps && reaches true context.kernel place.kernel)

abbrev pub counts : Context → Json → Result Bool Wrong
counts context j =
    result_then (λ includes. result_then (λ excludes. Ok (takes_in context includes && not (leaves_out context excludes)))
    (where_in field.Excludes j)) (where_in field.Includes j)
