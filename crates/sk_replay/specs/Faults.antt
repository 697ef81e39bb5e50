-- What is told of a word that stands for no call.
use Rattle.std.specs.Prelude.{ℕ, ◌++◌, List, [], codes, Result, Ok, Err}
use Rattle.std.specs.Fmt.{decimal}
use Rattle.sk_replay.specs.declared.fault.CallFault.{CallFault}
use Rattle.sk_replay.specs.declared.fault.CallFault.TheVariants.{NoCall, Unclosed, Unquoted, Argument, TooMany}

-- no call has the name; the parenthesis, or a double quote, is not closed; the argument with this number, from 1 on, has a part that is no
-- number and no constant; there is a seventh argument
pub data Fault : Type 0 where
  no_call : Fault
  unclosed : Fault
  unquoted : Fault
  wrong : ℕ → List ℕ → Fault
  too_many : Fault

abbrev pub fault_of : CallFault → Fault
fault_of NoCall = no_call
fault_of Unclosed = unclosed
fault_of Unquoted = unquoted
fault_of (Argument number part) = wrong number part.now
fault_of TooMany = too_many

-- what the code's answers say
abbrev pub said : {X : Type 0} → Result X CallFault → Result X Fault
said (Ok value) = Ok value
said (Err fault) = Err (fault_of fault)

-- what is told, and what is shown behind it
abbrev pub fault_text : Fault → List ℕ
fault_text no_call = codes "no call has this name or number"
fault_text unclosed = codes "CALL(ARG, ..) does not end with its parenthesis"
fault_text unquoted = codes "CALL(ARG, ..) has a text that does not end with its double quote"
fault_text (wrong number part) =
    codes "argument " ++ (decimal number ++ codes " of CALL(ARG, ..) is no number of 64 bits and no constant: ")
fault_text too_many = codes "CALL(ARG, ..) has more than six arguments"

abbrev pub shown_behind : Fault → List ℕ
shown_behind (wrong number part) = part
shown_behind fault = []
