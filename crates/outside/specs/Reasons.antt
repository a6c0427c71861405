-- A word that a reason tells lies in its line, and each token of a sum leaves fewer. Assumes nothing.
use Rattle.std.specs.Prelude.{◌≡◌, List, Result, Ok, Err, ℕ, ◌<◌, ◌≤◌, length, drop}
use Rattle.grammar.specs.Tokens.{tokens}
use Rattle.outside.specs.declared.Reason.{Reason}
use Rattle.outside.specs.declared.Going.{Going}

-- a part of a line
abbrev pub Lies : List ℕ → ℕ → ℕ → Type 0
Lies l from to = (from ≤ to) × (to ≤ length l)

-- the word of a reason is a part of the line
abbrev pub Fits : List ℕ → Reason → Type 0
Fits l Reason.NinthBracket = Unit {0}
Fits l Reason.TooManyNames = Unit {0}
Fits l (Reason.KeptWord from to) = Lies l from to
Fits l (Reason.LaterOrder from to) = Lies l from to
Fits l Reason.StrayByte = Unit {0}
Fits l Reason.Other = Unit {0}
Fits l (Reason.GivenTwice from to) = Lies l from to
Fits l (Reason.NotGiven from to) = Lies l from to
Fits l Reason.OutOfRange = Unit {0}
Fits l Reason.NoRoom = Unit {0}

-- how many tokens a line has from a place on
abbrev pub left : List ℕ → ℕ → ℕ
left l at = length (tokens (drop at l))

-- a step that goes on leaves fewer than n tokens
abbrev pub Steps : List ℕ → ℕ → Result Going Reason → Type 0
Steps l n (Err r) = Fits l r
Steps l n (Ok next) = left l next.at < n

-- a step that goes on at a place, or stops with a reason that tells no word
abbrev pub StepsTo : ℕ → Result Going Reason → Type 0
StepsTo to (Err r) = (l : List ℕ) → Fits l r
StepsTo to (Ok next) = next.at ≡ to

-- a register's place after it, or why there is none
abbrev pub OperandFits : List ℕ → Result ℕ Reason → Type 0
OperandFits l (Err r) = Fits l r
OperandFits l (Ok to) = Unit {0}
