-- Where cells lie: each below T, and two different cells apart. Assumes nothing.
use Rattle.std.specs.Prelude.{◌≡◌, refl, ◌≢◌, ℕ, suc, ◌+◌, ◌*◌, ◌<◌, ◌≤◌, get_or}
use Rattle.std.proofs.Common.{sym, ap, mul-le-mul_right, arith}
use Rattle.paper.specs.Image.{most_words, parts, ord, width, size, begin, start, total, cell, Valid, place}
use Rattle.paper.specs.Rules.{Fit}
use Rattle.paper.specs.declared.Shape.{Shape}
use Rattle.paper.specs.declared.Cell.{Cell}
use Rattle.paper.specs.declared.Part.{Part}
use Rattle.laws.specs.Consecutive.{rising}

-- a row and a column within a table of rows of width w
pub row_below : (w : ℕ) {i m k : ℕ} → i < m → k < w → i * w + k < m * w
row_below w {i} {m} {k} hi hk = omega (arith, mul-le-mul_right w hi)

row_before : (w i j k l : ℕ) → i < j → k < w → i * w + k ≡ j * w + l → ⊥
row_before w i j k l h hk e = omega (arith, mul-le-mul_right w h)

-- a place in a table has one row and one column
pub row_same : (w i j k l : ℕ) → k < w → l < w → i * w + k ≡ j * w + l → i ≡ j
row_same w i j k l hk hl e =
    let a : ¬ (i < j) = λ h. row_before w i j k l h hk e in
    let b : ¬ (j < i) = λ h. row_before w j i l k h hl (sym e) in
    omega arith

pub column_same : (w i j k l : ℕ) → k < w → l < w → i * w + k ≡ j * w + l → k ≡ l
column_same w i j k l hk hl e =
    let r : i * w ≡ j * w = ap (λ (x : ℕ). x * w) (row_same w i j k l hk hl e) in
    omega arith

-- the list of parts and their order agree
pub part_at : (p : Part) → get_or parts (ord p) Part.Segments ≡ p
part_at Part.Header = refl
part_at Part.TaskTable = refl
part_at Part.ReadyQueue = refl
part_at Part.StatusTable = refl
part_at Part.InputBuffers = refl
part_at Part.OutputBuffers = refl
part_at Part.MessageBuffers = refl
part_at Part.Ports = refl
part_at Part.SegmentTable = refl
part_at Part.Segments = refl

pub ord_below : (p : Part) → ord p < 10
ord_below Part.Header = omega arith
ord_below Part.TaskTable = omega arith
ord_below Part.ReadyQueue = omega arith
ord_below Part.StatusTable = omega arith
ord_below Part.InputBuffers = omega arith
ord_below Part.OutputBuffers = omega arith
ord_below Part.MessageBuffers = omega arith
ord_below Part.Ports = omega arith
ord_below Part.SegmentTable = omega arith
ord_below Part.Segments = omega arith

-- a part ends where the next begins, and so before each later one
part_ends : (s : Shape) (p : Part) → start s p + size s p ≡ begin s (suc (ord p))
part_ends s p = rw part_at

pub begins_later : (s : Shape) (a b : ℕ) → a ≤ b → begin s a ≤ begin s b
begins_later s a b h = rising (begin s) (λ k. omega arith) a b h

-- a cell lies in its part
pub from_start : (s : Shape) (c : Cell) → start s c.part ≤ (place s c).0
unfolding place
from_start s c = omega arith

pub before_next : (s : Shape) (c : Cell) → Valid s c → (place s c).0 < begin s (suc (ord c.part))
unfolding place
before_next s c h = omega (arith, row_below (width s c.part) h.0 h.1, part_ends s c.part)

-- every valid cell lies below T
pub below : (s : Shape) (c : Cell) → Valid s c → (place s c).0 < total s
unfolding total
below s c h = omega (arith, before_next s c h, begins_later s (suc (ord c.part)) 10 (ord_below c.part))

-- a cell of an earlier part lies before one of a later part
pub before_part : (s : Shape) (c d : Cell) → Valid s c → ord c.part < ord d.part → (place s c).0 < (place s d).0
before_part s c d hc h =
    omega (arith, before_next s c hc, begins_later s (suc (ord c.part)) (ord d.part) h, from_start s d)

-- a place has one part, one row and one column
same_part : (s : Shape) (c d : Cell) → Valid s c → Valid s d → (place s c).0 ≡ (place s d).0 → c.part ≡ d.part
same_part s c d hc hd e =
    let a : ¬ (ord c.part < ord d.part) = λ h. omega (arith, before_part s c d hc h) in
    let b : ¬ (ord d.part < ord c.part) = λ h. omega (arith, before_part s d c hd h) in
    let o : ord c.part ≡ ord d.part = omega arith in
    cc (o, part_at c.part, part_at d.part)

same_cell : (s : Shape) (p q : Part) (i j k l : ℕ) → p ≡ q → k < width s p → l < width s q
    → (place s (cell p i k)).0 ≡ (place s (cell q j l)).0 → (i ≡ j) × (k ≡ l)
unfolding place
same_cell s p q i j k l pq hk hl e =
    let hl' : l < width s p = rw pq hl in
    let e' : start s p + (i * width s p + k) ≡ start s p + (j * width s p + l) = rw (← pq) at e in
    let f : i * width s p + k ≡ j * width s p + l = omega arith in
    (row_same (width s p) i j k l hk hl' f, column_same (width s p) i j k l hk hl' f)

pub one_cell : (s : Shape) (c d : Cell) → Valid s c → Valid s d → (place s c).0 ≡ (place s d).0 → c ≡ d
one_cell s c d hc hd e =
    let pq = same_part s c d hc hd e in
    let r = same_cell s c.part d.part c.row d.row c.column d.column pq hc.1 hd.1 e in
    let f : cell c.part c.row c.column ≡ cell d.part d.row d.column = cc (pq, r.0, r.1) in
    f

-- two different cells lie apart
pub apart : (s : Shape) (c d : Cell) → Valid s c → Valid s d → c ≢ d → (place s c).0 ≢ (place s d).0
apart s c d hc hd ne e = ne (one_cell s c d hc hd e)

-- what code adds up to find a cell is its place, and small
pub placed : (s : Shape) (c : Cell) (from row : ℕ) → Fit s → Valid s c → from ≡ start s c.part → row ≡ width s c.part
    → (from + (c.row * row + c.column) ≡ (place s c).0) × ((place s c).0 < most_words)
unfolding place
placed s c from row fit v ef er = (rw (ef, er), omega (arith, below s c v, fit.words))
