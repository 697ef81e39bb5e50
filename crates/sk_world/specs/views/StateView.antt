-- How the fields of a `SigState` stand for a `SignalState`.
use Rattle.std.specs.Prelude.{ℕ, zero, suc, List, [], ◌∷◌, slice_index_or, refl}
use Rattle.std.specs.Coded.{Coded, code_by, coded×, coded_list}
use Rattle.sk_world.specs.Sets as set
use Rattle.sk_world.specs.SignalSet.{Signals}
use Rattle.sk_world.specs.SignalState.{SignalState}
use Rattle.sk_world.specs.declared.disposition.Disposition.{Disposition}
use Rattle.sk_world.specs.contracts.disposition.Disposition.{the_row}

-- the first n masks of an array, the last of them on top
abbrev pub frames_of : ℕ → List Signals → List Signals
frames_of zero masks = []
frames_of (suc n) masks = slice_index_or masks n set.empty ∷ frames_of n masks

-- a set of signals is stored as its members
abbrev pub signals_code : Coded Signals
signals_code = set.code

-- a state is stored as the tuple of its fields
abbrev pub state_code : Coded SignalState
state_code =
    code_by (Signals × (Signals × (List Disposition × List Signals)))
    (coded× signals_code (coded× signals_code (coded× (coded_list the_row.coded) (coded_list signals_code))))
    (λ s. (s.mask, (s.pending, (s.dispositions, s.frames))))
    (λ p. record { mask = p.0; pending = p.1.0; dispositions = p.1.1.0; frames = p.1.1.1 })
    (λ _. refl)
