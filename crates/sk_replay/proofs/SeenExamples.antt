-- Each worked row is what the definition computes.
use Rattle.std.proofs.Common.{refl}
use Rattle.sk_replay.specs.Seen.{seen_numbers, shown_value}
use Rattle.sk_replay.specs.WorkedSeen.{SeenWorks}

pub seen_works : SeenWorks
unfolding seen_numbers shown_value
seen_works = record {
  flags = refl;
  folder = refl;
  lower_byte = refl;
  of_another_call = refl;
  name_is_hidden = refl;
  mode_is_left_out = refl;
  hidden_once = refl;
  left_out_once = refl;
  begun = refl;
  no_such_call = refl;
  shown = refl;
  left_out = refl;
  hidden = refl;
  not_hidden = refl;
  sorted = refl;
  each_call_once = refl;
}
