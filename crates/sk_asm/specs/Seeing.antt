-- What was found, as the definitions see it.
use Rattle.sk_asm.specs.declared.found.Found.{Found}
use Rattle.sk_asm.specs.Drafts.{Seen}
use Rattle.sk_asm.specs.Views.{labels_in, jumps_in}

abbrev pub seen : Found → Seen
seen found = record { labels = labels_in found.labels; insns = found.insns.items; jumps = jumps_in found.jumps.items }
