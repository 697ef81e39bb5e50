-- The text of a report's lines.
use Rattle.std.specs.Prelude.{ℕ, zero, suc, ◌+◌, ◌/◌, ◌%◌, ◌++◌, true, false, List, [], ◌∷◌, codes}
use Rattle.std.specs.Option.{option_map_or}
use Rattle.std.specs.Fmt.{decimal, signed_decimal}
use Rattle.sk_text.specs.Hexadecimal.{digit_of}
use Rattle.sk_insn.specs.Actions.{action_of, action_name, data_part}
use Rattle.sk_names.specs.Syscalls.{syscall_of, name_of}
use Rattle.sk_world.specs.SignalSet.{number_of}
use Rattle.sk_machine.specs.declared.event.Event.{Event}
use Rattle.sk_machine.specs.declared.event.Event.TheVariants.{Call}
use Rattle.sk_machine.specs.declared.answer.Answer.{Answer}
use Rattle.sk_machine.specs.declared.answer.Answer.TheVariants as answer
use Rattle.sk_machine.specs.declared.answer.Outcome.{Outcome}
use Rattle.sk_machine.specs.declared.answer.Outcome.TheVariants.{Returned, Told, Ids, Signals, Waits, Trapped, Ended, Executed}
use Rattle.sk_machine.specs.declared.answer.Effect.{Effect}
use Rattle.sk_machine.specs.declared.answer.Effect.TheVariants as effect
use Rattle.sk_machine.specs.Events.{pid_of}
use Rattle.sk_run.specs.declared.turn.End.{End}
use Rattle.sk_run.specs.declared.turn.End.TheVariants.{Halt, Idle, Limit}
use Rattle.sk_run.specs.declared.turn.ReportLine.{ReportLine}
use Rattle.sk_run.specs.declared.turn.ReportLine.TheVariants as turn

-- the last so many hexadecimal digits of a number
unfoldable pub hex : ℕ → ℕ → List ℕ
hex zero n = []
hex (suc width) n = hex width (n / 16) ++ digit_of (n % 16) ∷ []

-- a status, as wait(2) tells it
abbrev pub status_text : ℕ → List ℕ
status_text status = codes "0x" ++ hex 4 status

-- what the filters say of a call: the action of the verdict, and its data
unfoldable pub judgement_text : ℕ → List ℕ
judgement_text verdict = action_name (action_of verdict) ++ (codes "/" ++ decimal (data_part verdict))

-- what a call came to
unfoldable pub outcome_text : Outcome → List ℕ
outcome_text (Returned n) = signed_decimal n
outcome_text (Told pid status) = codes "told " ++ (decimal pid ++ (codes " " ++ status_text status))
outcome_text (Ids real effective saved) = codes "ids " ++ (decimal real ++ (codes " " ++ (decimal effective ++ (codes " " ++ decimal saved))))
outcome_text (Signals set) = codes "set 0x" ++ hex 8 (number_of set)
outcome_text Waits = codes "waits"
outcome_text Trapped = codes "trapped"
outcome_text (Ended status) = codes "ended " ++ status_text status
outcome_text Executed = codes "executed"

-- what a delivered signal did
unfoldable pub effect_text : Effect → List ℕ
effect_text effect.Ignored = codes "ignored"
effect_text effect.Stopped = codes "stops"
effect_text (effect.Ended status) = codes "ended " ++ status_text status
effect_text (effect.Handler program false) = codes "handler " ++ decimal program
effect_text (effect.Handler program true) = codes "handler " ++ (decimal program ++ codes " eintr")

-- the name of a call, or its number where it has none
unfoldable pub call_name : ℕ → List ℕ
call_name nr = option_map_or name_of (syscall_of nr) (decimal nr)

-- the number of the call that an event is; no other event is a call
abbrev pub number_in : Event → ℕ
number_in (Call pid ip call) = call.nr
number_in other = 0

-- what happened: an event by its answer. That an event is not possible is never told, since each that is due is possible
unfoldable pub happening_text : Event → Answer → List ℕ
happening_text event (answer.Call verdict outcome) =
    codes "call " ++ (call_name (number_in event) ++ (codes " " ++ (judgement_text verdict ++ (codes " " ++ outcome_text outcome))))
happening_text event (answer.Signal n effect) = codes "signal " ++ (decimal n ++ (codes " " ++ effect_text effect))
happening_text event (answer.Resumed outcome) = codes "resume " ++ outcome_text outcome
happening_text event answer.Crashed = codes "crash"
happening_text event (answer.NotNow reason) = []

-- why no further turn is made
unfoldable pub end_text : End → List ℕ
end_text (Halt status) = codes "halt " ++ status_text status
end_text Idle = codes "idle"
end_text Limit = codes "limit"

-- the line of a turn, or of the end
unfoldable pub turn_text : ReportLine → List ℕ
turn_text (turn.Turn n event answer) = decimal n ++ (codes " " ++ (decimal (pid_of event) ++ (codes " " ++ happening_text event answer)))
turn_text (turn.End end) = codes "end " ++ end_text end
