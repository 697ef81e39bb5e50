-- What was written by hand, computed.
use Rattle.std.proofs.Common.{refl}
use Rattle.std.specs.Fmt.{digits}
use Rattle.strsim.specs.Edits.{damerau_row, damerau_table, last_place}
use Rattle.sk_ask.specs.Complaints.{shown_byte}
use Rattle.sk_ask.specs.Targets.{json_row}
use Rattle.sk_ask.specs.WorkedEndings.{ExpectsWork, NearestWorks, SmallerWorks}

pub worked_smaller : SmallerWorks
unfolding digits json_row
worked_smaller = record {
  size = refl;
  saved = refl;
  raw = refl;
  single = refl;
  several = refl;
  untold = refl;
  memory = refl;
  flags = refl;
  forms = refl;
}

pub worked_nearest : NearestWorks
unfolding shown_byte damerau_table damerau_row last_place
worked_nearest = record {
  swapped = refl;
  first = refl;
  far = refl;
  said = refl;
  said_elsewhere = refl;
}

pub worked_expects : ExpectsWork
unfolding shown_byte
worked_expects = record {
  by_policy = refl;
  by_word = refl;
  note = refl;
  said = refl;
  none = refl;
}
