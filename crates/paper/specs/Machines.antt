-- A task's own machine: its registers, its flags and its segment; where they lie in an image.
use Rattle.std.specs.Prelude.{List, [], ◌∷◌, ◌++◌, ℕ, zero, suc, ◌+◌, get_or, set}
use Rattle.paper.specs.Image.{place, at, reg, base, len}
use Rattle.paper.specs.declared.Task.{Task}
use Rattle.paper.specs.declared.Shape.{Shape}

-- n words of a list from a place on, and a list with words written over it from a place on
abbrev pub words_at : List ℕ → ℕ → ℕ → List ℕ
words_at l p zero = []
words_at l p (suc n) = get_or l p 0 ∷ words_at l (suc p) n

abbrev pub over : List ℕ → ℕ → List ℕ → List ℕ
over l p [] = l
over l p (w ∷ ws) = over (set l p w) (suc p) ws

-- a task's own machine: R0..R7, the flags, and the words of its segment
pub record Machine : Type 0 where
  pub registers : List ℕ
  pub flags : ℕ
  pub segment : List ℕ

-- where its words lie: its row of the task table, the base and the length of its segment
pub record Lies : Type 0 where
  pub row : ℕ
  pub base : ℕ
  pub length : ℕ

-- the machine whose words lie there, and the words with a machine put back there
unfoldable pub machine : Lies → List ℕ → Machine
machine g l =
    record {
      registers = words_at l g.row 8;
      flags = get_or l (g.row + 8) 0;
      segment = words_at l g.base g.length;
    }

unfoldable pub put_back : Lies → List ℕ → Machine → List ℕ
put_back g l m = over (over l g.row (m.registers ++ (m.flags ∷ []))) g.base m.segment

-- of task i
abbrev pub lies : Shape → List ℕ → Task → Lies
lies s im i = record { row = (place s (reg i 0)).0; base = at s im (base i); length = at s im (len i) }

abbrev pub own : Shape → List ℕ → Task → Machine
own s im i = machine (lies s im i) im

abbrev pub with_own : Shape → List ℕ → Task → Machine → List ℕ
with_own s im i m = put_back (lies s im i) im m
