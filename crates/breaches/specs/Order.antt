-- The rules in their order, with their numbers, and what breaks them.
use Rattle.std.specs.Prelude.{List, [], ◌∷◌, ℕ, get_or}
use Rattle.paper.specs.Image.{task}
use Rattle.paper.specs.declared.Shape.{Shape}
use Rattle.single_rules.specs.Each.{queue}
use Rattle.single_rules.specs.declared.Rule.{Rule}
use Rattle.single_rules.specs.declared.Kind.{Kind}
use Rattle.breaches.specs.declared.Subject.{Subject}

-- the rules, in the order of "Image" and "What an image must hold", and last that of request 6
abbrev pub rules : List Rule
rules =
    Rule.Flags ∷ Rule.Both ∷ Rule.Status ∷ Rule.Capacity ∷ Rule.HeadTail ∷ Rule.Length ∷ Rule.Round ∷ Rule.Characters ∷
    Rule.Tasks ∷ Rule.Readied ∷ Rule.ClockRange ∷ Rule.ClockIdle ∷ Rule.Port ∷ Rule.IdlePort ∷ Rule.Sends ∷ Rule.Receives ∷
    Rule.Inputs ∷ Rule.Outputs ∷ Rule.Stopped ∷ Rule.Peerless ∷ Rule.FreeSlots ∷ []

-- rule k of them, counted from 0
unfoldable pub rule : ℕ → Rule
rule k = get_or rules k Rule.FreeSlots

-- their numbers
abbrev pub number_of_rule : Rule → ℕ
number_of_rule Rule.Flags = 1
number_of_rule Rule.Both = 2
number_of_rule Rule.Status = 3
number_of_rule Rule.Capacity = 4
number_of_rule Rule.HeadTail = 5
number_of_rule Rule.Length = 6
number_of_rule Rule.Round = 7
number_of_rule Rule.Characters = 8
number_of_rule Rule.Tasks = 9
number_of_rule Rule.Readied = 10
number_of_rule Rule.ClockRange = 11
number_of_rule Rule.ClockIdle = 12
number_of_rule Rule.Port = 13
number_of_rule Rule.IdlePort = 14
number_of_rule Rule.Sends = 15
number_of_rule Rule.Receives = 16
number_of_rule Rule.Inputs = 17
number_of_rule Rule.Outputs = 18
number_of_rule Rule.Stopped = 19
number_of_rule Rule.Peerless = 20
number_of_rule Rule.FreeSlots = 21

-- task k, queue k, or the clock
abbrev pub subject : Shape → Kind → ℕ → Subject
subject s Kind.Task k = Subject.Task (task k)
subject s Kind.Queue k = Subject.Queue (queue s k)
subject s Kind.Clock k = Subject.Clock
