use Rattle.std.proofs.Common.{refl}
use Rattle.sk_insn.specs.Operations.{operation_of}
use Rattle.sk_filter.specs.FirstFault.{first_fault}
use Rattle.sk_filter.proofs.laws.worked_programs.Goals as goal

pub returns : goal.returns
unfolding first_fault operation_of
returns c = record {
  nothing = refl;
  last_argument = refl;
  between_words = refl;
  past_the_record = refl;
  no_packet = refl;
  divides_by_zero = refl;
  shifts_by_32 = refl;
  word_16 = refl;
  lands_on_the_last = refl;
  lands_past_the_end = refl;
  wraps_nowhere = refl;
  no_return = refl;
  one_side_stores = refl;
  both_sides_store = refl;
  both_sides_count = refl;
  stored_on_the_way = refl;
  unreached_load = refl;
  unreached_place = refl;
  jump_before_load = refl;
  end_before_load = refl;
  least_load = refl;
}
