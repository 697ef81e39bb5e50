use Rattle.std.proofs.Common.{◌≡◌, ◌++◌, take, flat_map}
use Rattle.sk_document.specs.Html.{escape}
use Rattle.sk_document.proofs.html.Html.shown.Given as goal

abbrev pub invariant-loop-byte : goal.invariant-loop-byte
invariant-loop-byte l = l.self ≡ l.initial.self ++ flat_map escape (take l.byte-index l.text)
