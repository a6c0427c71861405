-- Each rule has its number.
use mathlib.Core.Path.{sym, ap}
use Rattle.breaches.specs.Order.{number_of_rule}
use Rattle.breaches.proofs.rule_number.Goals as goal

pub returns-in-Flags : goal.returns-in-Flags
returns-in-Flags c = ap number_of_rule (sym c.in-Flags.is)

pub returns-in-Both : goal.returns-in-Both
returns-in-Both c = ap number_of_rule (sym c.in-Both.is)

pub returns-in-Status : goal.returns-in-Status
returns-in-Status c = ap number_of_rule (sym c.in-Status.is)

pub returns-in-Capacity : goal.returns-in-Capacity
returns-in-Capacity c = ap number_of_rule (sym c.in-Capacity.is)

pub returns-in-HeadTail : goal.returns-in-HeadTail
returns-in-HeadTail c = ap number_of_rule (sym c.in-HeadTail.is)

pub returns-in-Length : goal.returns-in-Length
returns-in-Length c = ap number_of_rule (sym c.in-Length.is)

pub returns-in-Round : goal.returns-in-Round
returns-in-Round c = ap number_of_rule (sym c.in-Round.is)

pub returns-in-Characters : goal.returns-in-Characters
returns-in-Characters c = ap number_of_rule (sym c.in-Characters.is)

pub returns-in-Tasks : goal.returns-in-Tasks
returns-in-Tasks c = ap number_of_rule (sym c.in-Tasks.is)

pub returns-in-Readied : goal.returns-in-Readied
returns-in-Readied c = ap number_of_rule (sym c.in-Readied.is)

pub returns-in-ClockRange : goal.returns-in-ClockRange
returns-in-ClockRange c = ap number_of_rule (sym c.in-ClockRange.is)

pub returns-in-ClockIdle : goal.returns-in-ClockIdle
returns-in-ClockIdle c = ap number_of_rule (sym c.in-ClockIdle.is)

pub returns-in-Port : goal.returns-in-Port
returns-in-Port c = ap number_of_rule (sym c.in-Port.is)

pub returns-in-IdlePort : goal.returns-in-IdlePort
returns-in-IdlePort c = ap number_of_rule (sym c.in-IdlePort.is)

pub returns-in-Sends : goal.returns-in-Sends
returns-in-Sends c = ap number_of_rule (sym c.in-Sends.is)

pub returns-in-Receives : goal.returns-in-Receives
returns-in-Receives c = ap number_of_rule (sym c.in-Receives.is)

pub returns-in-Inputs : goal.returns-in-Inputs
returns-in-Inputs c = ap number_of_rule (sym c.in-Inputs.is)

pub returns-in-Outputs : goal.returns-in-Outputs
returns-in-Outputs c = ap number_of_rule (sym c.in-Outputs.is)

pub returns-in-Stopped : goal.returns-in-Stopped
returns-in-Stopped c = ap number_of_rule (sym c.in-Stopped.is)

pub returns-in-Peerless : goal.returns-in-Peerless
returns-in-Peerless c = ap number_of_rule (sym c.in-Peerless.is)

pub returns-in-FreeSlots : goal.returns-in-FreeSlots
returns-in-FreeSlots c = ap number_of_rule (sym c.in-FreeSlots.is)
