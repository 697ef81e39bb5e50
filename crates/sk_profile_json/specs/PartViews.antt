-- What parts are made of, of the code, as of the definition; and a multiplexer.
use Rattle.std.specs.Prelude.{ℕ, List, map}
use Rattle.std.specs.Borrow.{Bor}
use Rattle.sk_profile_json.specs.declared.multiplexed.Multiplexer.{Multiplexer as MultiplexerOfCode}
use Rattle.sk_profile_json.specs.declared.parts.Basis.{Basis as BasisOfCode}
use Rattle.sk_profile_json.specs.EntryViews.{named_view}
use Rattle.sk_profile_json.specs.Multiplexed.{Told, Multiplexer}
use Rattle.sk_profile_json.specs.Parts.{Basis}

abbrev pub basis_view : BasisOfCode → Basis
basis_view basis = record { named = map named_view basis.named.now; default = basis.default; stub = basis.stub }

abbrev pub told_view : Bor (List ℕ) × ℕ → Told
told_view told = (told.0.now, told.1)

abbrev pub multiplexer_view : MultiplexerOfCode → Multiplexer
multiplexer_view it = record { call = it.call.now; mask = it.mask; tells = map told_view it.tells.now }
