-- "Image", the queues: head, tail, length, capacity, then the slots.
use Rattle.std.specs.Prelude.{Bool, cond, List, [], ◌∷◌, ℕ, zero, suc, ◌+◌, ◌-◌, ◌*◌, ◌<◌, eqb, ltb}
use Rattle.paper.specs.Image.{lead, cell, at, put}
use Rattle.paper.specs.declared.Shape.{Shape}
use Rattle.paper.specs.declared.Cell.{Cell}
use Rattle.paper.specs.declared.Part.{Part}
use Rattle.paper.specs.declared.Queue.{Queue}

-- each queue is a row of its part
abbrev pub part_of : Queue → Part
part_of Queue.Ready = Part.ReadyQueue
part_of (Queue.Input i) = Part.InputBuffers
part_of (Queue.Output i) = Part.OutputBuffers
part_of (Queue.Message i j) = Part.MessageBuffers

-- the message buffer from i to j is at index iN+j
abbrev pub row_of : Shape → Queue → ℕ
row_of s Queue.Ready = 0
row_of s (Queue.Input i) = i.0
row_of s (Queue.Output i) = i.0
row_of s (Queue.Message i j) = i.0 * s.n + j.0

-- the queue is one of tasks of this image
abbrev pub Has : Shape → Queue → Type 0
Has s Queue.Ready = Unit {0}
Has s (Queue.Input i) = i.0 < s.n
Has s (Queue.Output i) = i.0 < s.n
Has s (Queue.Message i j) = (i.0 < s.n) × (j.0 < s.n)

-- the capacity that the header gives: N for the ready queue
abbrev pub header_capacity : Shape → Queue → ℕ
header_capacity s Queue.Ready = s.n
header_capacity s (Queue.Input i) = s.ci
header_capacity s (Queue.Output i) = s.co
header_capacity s (Queue.Message i j) = s.cm

-- head, tail, length, capacity, then its slots
abbrev pub queue_word : Shape → Queue → ℕ → Cell
queue_word s q k = cell (part_of q) (row_of s q) k

abbrev pub head : Shape → Queue → Cell
head s q = queue_word s q 0

abbrev pub tail : Shape → Queue → Cell
tail s q = queue_word s q 1

abbrev pub count : Shape → Queue → Cell
count s q = queue_word s q 2

abbrev pub capacity : Shape → Queue → Cell
capacity s q = queue_word s q 3

abbrev pub slot : Shape → Queue → ℕ → Cell
slot s q k = queue_word s q (lead + k)

-- a step goes to 0 after capacity-1
unfoldable pub step : ℕ → ℕ → ℕ
step k c = cond (ltb (k + 1) c) (k + 1) 0

-- appending stores at tail and steps tail; length counts the words held
unfoldable pub appended : Shape → List ℕ → Queue → ℕ → List ℕ
appended s im q v =
    put s
    (put s (put s im (slot s q (at s im (tail s q))) v) (tail s q) (step (at s im (tail s q)) (at s im (capacity s q))))
    (count s q)
    (at s im (count s q) + 1)

-- taking reads at head
unfoldable pub first : Shape → List ℕ → Queue → ℕ
first s im q = at s im (slot s q (at s im (head s q)))

-- sets the slot to 0 and steps head
unfoldable pub taken : Shape → List ℕ → Queue → List ℕ
taken s im q =
    put s
    (put s (put s im (slot s q (at s im (head s q))) 0) (head s q) (step (at s im (head s q)) (at s im (capacity s q))))
    (count s q)
    (at s im (count s q) - 1)

-- n words from slot h on
abbrev pub words_from : Shape → List ℕ → Queue → ℕ → ℕ → List ℕ
words_from s im q h zero = []
words_from s im q h (suc n) = at s im (slot s q h) ∷ words_from s im q (step h (at s im (capacity s q))) n

-- the words held, from the first to the last
unfoldable pub held : Shape → List ℕ → Queue → List ℕ
held s im q = words_from s im q (at s im (head s q)) (at s im (count s q))

-- the words of the free slots, from the tail on
unfoldable pub free : Shape → List ℕ → Queue → List ℕ
free s im q = words_from s im q (at s im (tail s q)) (at s im (capacity s q) - at s im (count s q))

-- head = tail means empty or full; the length tells which
unfoldable pub empty : Shape → List ℕ → Queue → Bool
empty s im q = eqb (at s im (count s q)) 0

unfoldable pub full : Shape → List ℕ → Queue → Bool
full s im q = eqb (at s im (count s q)) (at s im (capacity s q))
