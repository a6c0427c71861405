-- The parts of a line, and how long it may be.
use Rattle.std.specs.Prelude.{List, ◌++◌, ℕ}
use Rattle.paper.specs.Numbers.{number, kind, answer_task}
use Rattle.paper.specs.Runner.{decimal, space, newline, refused_word}
use Rattle.paper.specs.declared.Answer.{Answer}
use Rattle.paper.specs.declared.Refusal.{Refusal}

-- the most bytes of a line, and of its part after an event's number
abbrev pub most_line : ℕ
most_line = 32

abbrev pub most_end : ℕ
most_end = 12

-- the text of a line after an event's number
unfoldable pub answer_text : Answer → List ℕ
answer_text a = ((space ++ decimal (kind a)) ++ (space ++ decimal (answer_task a))) ++ newline

unfoldable pub refusal_text : Refusal → List ℕ
refusal_text r = ((space ++ refused_word) ++ (space ++ decimal (number r))) ++ newline
