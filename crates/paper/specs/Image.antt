-- "Image": the header, the parts and where they lie, and the words by their names.
use Rattle.std.specs.Prelude.{List, [], ◌∷◌, ◌++◌, map, ℕ, zero, suc, ◌+◌, ◌-◌, ◌*◌, ◌<◌, get_or, set}
use Rattle.paper.specs.declared.Task.{Task}
use Rattle.paper.specs.declared.Address.{Address}
use Rattle.paper.specs.declared.Place.{Place}
use Rattle.paper.specs.declared.Shape.{Shape}
use Rattle.paper.specs.declared.Cell.{Cell}
use Rattle.paper.specs.declared.Part.{Part}

-- a word as a task number, as an address in a segment, as a place in the image
abbrev pub task : ℕ → Task
task w = record { 0 = w }

abbrev pub address : ℕ → Address
address w = record { 0 = w }

abbrev pub place_at : ℕ → Place
place_at w = record { 0 = w }

-- an image is a list of words
abbrev pub word : List ℕ → Place → ℕ
word im p = get_or im p.0 0

-- header, 18 words
abbrev pub header_words : ℕ
header_words = 18

-- words 0 and 1: mark 19284, edition 1
abbrev pub mark : ℕ
mark = 19284

abbrev pub edition : ℕ
edition = 1

-- N is 1..16, S is 1..65535, each capacity is 1..32, T is at most 32768
abbrev pub most_tasks : ℕ
most_tasks = 16

abbrev pub most_slice : ℕ
most_slice = 65535

abbrev pub most_capacity : ℕ
most_capacity = 32

abbrev pub most_words : ℕ
most_words = 32768

-- a character is at most 255
abbrev pub most_character : ℕ
most_character = 255

-- the parts follow one another in this order
abbrev pub parts : List Part
parts =
    Part.Header ∷ Part.TaskTable ∷ Part.ReadyQueue ∷ Part.StatusTable ∷ Part.InputBuffers ∷ Part.OutputBuffers ∷
    Part.MessageBuffers ∷ Part.Ports ∷ Part.SegmentTable ∷ Part.Segments ∷ []

-- the place of a part in that order
abbrev pub ord : Part → ℕ
ord Part.Header = 0
ord Part.TaskTable = 1
ord Part.ReadyQueue = 2
ord Part.StatusTable = 3
ord Part.InputBuffers = 4
ord Part.OutputBuffers = 5
ord Part.MessageBuffers = 6
ord Part.Ports = 7
ord Part.SegmentTable = 8
ord Part.Segments = 9

-- a queue starts with four words: head, tail, length, capacity
abbrev pub lead : ℕ
lead = 4

-- each part is a table: how many rows it has
abbrev pub rows : Shape → Part → ℕ
rows s Part.Header = 1
rows s Part.TaskTable = s.n
rows s Part.ReadyQueue = 1
rows s Part.StatusTable = s.n
rows s Part.InputBuffers = s.n
rows s Part.OutputBuffers = s.n
rows s Part.MessageBuffers = s.n * s.n
rows s Part.Ports = s.n
rows s Part.SegmentTable = s.n
rows s Part.Segments = 1

-- and how many words each of its rows has
abbrev pub width : Shape → Part → ℕ
width s Part.Header = header_words
width s Part.TaskTable = 9
width s Part.ReadyQueue = lead + s.n
width s Part.StatusTable = 2
width s Part.InputBuffers = lead + s.ci
width s Part.OutputBuffers = lead + s.co
width s Part.MessageBuffers = lead + s.cm
width s Part.Ports = 2
width s Part.SegmentTable = 2
width s Part.Segments = s.words

-- without gaps: part k starts where the parts before it end
abbrev pub size : Shape → Part → ℕ
size s p = rows s p * width s p

abbrev pub begin : Shape → ℕ → ℕ
begin s zero = 0
begin s (suc k) = begin s k + size s (get_or parts k Part.Segments)

abbrev pub start : Shape → Part → ℕ
start s p = begin s (ord p)

-- words 7..15: the offsets of the nine parts after the header
abbrev pub offset_words : List ℕ
offset_words = 7 ∷ 8 ∷ 9 ∷ 10 ∷ 11 ∷ 12 ∷ 13 ∷ 14 ∷ 15 ∷ []

abbrev pub offsets : Shape → List ℕ
offsets s =
    start s Part.TaskTable ∷ start s Part.ReadyQueue ∷ start s Part.StatusTable ∷ start s Part.InputBuffers ∷
    start s Part.OutputBuffers ∷ start s Part.MessageBuffers ∷ start s Part.Ports ∷ start s Part.SegmentTable ∷
    start s Part.Segments ∷ []

-- T, the total words
unfoldable pub total : Shape → ℕ
total s = begin s 10

-- the header's words before the last, which is the clock
abbrev pub header : Shape → List ℕ
header s =
    mark ∷ edition ∷ s.n ∷ s.slice ∷ s.ci ∷ s.co ∷ s.cm ∷ (offsets s ++ (total s ∷ []))

-- the shape that an image's header gives
abbrev pub header_word : List ℕ → ℕ → ℕ
header_word im k = word im (place_at k)

unfoldable pub shape_of : List ℕ → Shape
shape_of im =
    record {
      n = header_word im 2;
      slice = header_word im 3;
      ci = header_word im 4;
      co = header_word im 5;
      cm = header_word im 6;
      starts = map (header_word im) offset_words;
      words = header_word im 16 - header_word im 15;
    }

-- a word by its name: its part, its row, its column
abbrev pub cell : Part → ℕ → ℕ → Cell
cell p i k = record { part = p; row = i; column = k }

abbrev pub Valid : Shape → Cell → Type 0
Valid s c = (c.row < rows s c.part) × (c.column < width s c.part)

unfoldable pub place : Shape → Cell → Place
place s c = place_at (start s c.part + (c.row * width s c.part + c.column))

-- what a cell holds, and the image with a cell changed
unfoldable pub at : Shape → List ℕ → Cell → ℕ
at s im c = word im (place s c)

unfoldable pub put : Shape → List ℕ → Cell → ℕ → List ℕ
put s im c v = set im (place s c).0 v

-- word 17: the clock
abbrev pub clock : Cell
clock = cell Part.Header 0 17

-- the task table: R0..R7, flags
abbrev pub reg : Task → ℕ → Cell
reg i r = cell Part.TaskTable i.0 r

abbrev pub flags : Task → Cell
flags i = cell Part.TaskTable i.0 8

-- the status table: flag, peer
abbrev pub status : Task → Cell
status i = cell Part.StatusTable i.0 0

abbrev pub peer : Task → Cell
peer i = cell Part.StatusTable i.0 1

-- the ports: busy, character
abbrev pub busy : Task → Cell
busy i = cell Part.Ports i.0 0

abbrev pub character : Task → Cell
character i = cell Part.Ports i.0 1

-- the segment table: base as a place in the image, length
abbrev pub base : Task → Cell
base i = cell Part.SegmentTable i.0 0

abbrev pub len : Task → Cell
len i = cell Part.SegmentTable i.0 1

-- segments in task order: where the segment of task k starts, or for k = N where the last one ends
abbrev pub segment_start : Shape → List ℕ → ℕ → ℕ
segment_start s im zero = start s Part.Segments
segment_start s im (suc k) = segment_start s im k + at s im (len (task k))
