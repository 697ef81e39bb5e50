-- The worked filters, instruction by instruction.
use Rattle.std.proofs.Common.{◌≡◌, true, Bool, List, refl, subst}
use Rattle.std.specs.List.{list_all}
use Rattle.std.proofs.lemmas.List.Sums.{AllPass-from_list_all}
use Rattle.std.proofs.lemmas.Option.{slice_get_within, get_or_from_slice_get}
use Rattle.sk_insn.specs.declared.insn.Insn.{Insn}
use Rattle.sk_insn.specs.Operations.{operation_of}
use Rattle.sk_conditions.specs.Followed.{AreFollowed, is_followed}
use Rattle.sk_conditions.specs.WorkedFollowed.{FollowedWork, masks_flags}

abbrev follows : Insn → Bool
follows insn = is_followed (operation_of insn.code)

all_follow : (insns : List Insn) → list_all follows insns ≡ true → AreFollowed insns
all_follow insns all place insn here =
    let passes = AllPass-from_list_all follows insns all place insn (slice_get_within insns place insn here) in
    subst (λ (at : Insn). follows at ≡ true) (get_or_from_slice_get insns place insn insn here) passes

pub followed_work : FollowedWork
unfolding operation_of
followed_work = record { followed = all_follow masks_flags refl; not_followed = refl }
