-- What calls show, worked out by hand: openat(2) is 257 on x86-64, fcntl(2) 72.
use Rattle.std.specs.Prelude.{◌≡◌, true, false, List, [], ◌∷◌, Some, None}
use Rattle.sk_replay.specs.declared.call.Call.{Call}
use Rattle.sk_replay.specs.declared.value.Value.TheVariants.{Told, Unknown}
use Rattle.sk_replay.specs.Calls.{call_begun, call_with}
use Rattle.sk_replay.specs.Replaying.{each_once}
use Rattle.sk_replay.specs.Seen.{hides, rising, seen_numbers, shown_value}

-- a file is opened twice to be read, once with O_CLOEXEC, and the lines leave the mode out
abbrev pub opened : List Call
opened =
    call_with 257 (Told 0xffffff9c ∷ Unknown ∷ Told 0x80000 ∷ [])
    ∷ call_with 72 (Told 3 ∷ Told 1 ∷ [])
    ∷ call_with 257 (Told 0xffffff9c ∷ Unknown ∷ Told 0 ∷ [])
    ∷ []

-- the numbers rise, each stands there once, and only the bits count that are asked for; what one line hides or leaves out is none;
-- of no call there are none
pub record SeenWorks : Type 0 where
  pub flags : seen_numbers opened 257 2 0xffffffff ≡ Some (0 ∷ 0x80000 ∷ [])
  pub folder : seen_numbers opened 257 0 0xffffffff ≡ Some (0xffffff9c ∷ [])
  pub lower_byte : seen_numbers opened 257 0 0xff ≡ Some (0x9c ∷ [])
  pub of_another_call : seen_numbers opened 72 0 0xffffffff ≡ Some (3 ∷ [])
  pub name_is_hidden : seen_numbers opened 257 1 0xffffffffffffffff ≡ None
  pub mode_is_left_out : seen_numbers opened 257 3 0xffff ≡ None
  pub hidden_once : seen_numbers (call_with 72 (Unknown ∷ []) ∷ opened) 72 0 0xffffffff ≡ None
  pub left_out_once : seen_numbers (call_with 257 (Told 0xffffff9c ∷ Unknown ∷ []) ∷ opened) 257 2 0xffffffff ≡ None
  pub begun : seen_numbers (call_begun 72 (Told 3 ∷ []) ∷ []) 72 1 0xffffffff ≡ None
  pub no_such_call : seen_numbers opened 0 0 0xffffffff ≡ Some []
  pub shown : shown_value (call_with 72 (Told 3 ∷ Told 1 ∷ [])) 1 ≡ Told 1
  pub left_out : shown_value (call_with 72 (Told 3 ∷ Told 1 ∷ [])) 2 ≡ Unknown
  pub hidden : hides 0 (call_with 72 (Unknown ∷ Told 1 ∷ [])) ≡ true
  pub not_hidden : hides 1 (call_with 72 (Unknown ∷ Told 1 ∷ [])) ≡ false
  pub sorted : rising (7 ∷ 3 ∷ 7 ∷ 9 ∷ 3 ∷ []) ≡ 3 ∷ 7 ∷ 9 ∷ []
  pub each_call_once :
      each_once (call_with 72 (Told 3 ∷ []) ∷ call_with 39 [] ∷ call_with 72 (Told 3 ∷ []) ∷ []) ≡ call_with 72 (Told 3 ∷ []) ∷ call_with 39 [] ∷ []
