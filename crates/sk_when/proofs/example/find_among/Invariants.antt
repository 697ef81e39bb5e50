use Rattle.std.proofs.Common.{◌≡◌, false, take}
use Rattle.sk_when.specs.Verdicts.{have_verdict}
use Rattle.sk_when.proofs.example.find_among.Given as goal

-- none of those before gets the value
abbrev pub invariant-loop-it : goal.invariant-loop-it
invariant-loop-it l = have_verdict (take l.it-index l.judged) l.value ≡ false
