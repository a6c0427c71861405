-- The bytes of words, the low byte first. Assumes nothing.
use Rattle.std.specs.Prelude.{◌≡◌, true, List, [], ◌∷◌, Option, Some, None, ℕ, ◌*◌, ◌/◌, ◌%◌, ◌≤◌, length, take}
use Rattle.disk.specs.declared.reading.Start.{Start}

-- the words that are written at a time
abbrev pub chunk : ℕ
chunk = 32768

abbrev pub chunk_bytes : ℕ
chunk_bytes = 65536

-- the bytes that a path beside another has more
abbrev pub beside_bytes : ℕ
beside_bytes = 7

unfoldable pub bytes_of : List ℕ → List ℕ
bytes_of [] = []
bytes_of (w ∷ ws) = w % 256 ∷ (w / 256 ∷ bytes_of ws)

-- a file that was read lies in its buffer
abbrev pub Loads : List ℕ → Option ℕ → Type 0
Loads b (Some n) = (n ≤ length b) × (n ≡ length (take n b))
Loads b None = Unit {0}

-- the start of a file lies in its buffer; nothing follows where the buffer is not full
abbrev pub Starts : List ℕ → Option Start → Type 0
Starts b (Some s) = (s.bytes ≤ length b) × ((s.bytes ≡ length (take s.bytes b)) × (s.odd ≡ true → length b ≤ s.bytes))
Starts b None = Unit {0}

-- the words of a file of at most so many bytes lie at the start of their target
abbrev pub LoadsWords : ℕ → List ℕ → Option ℕ → Type 0
LoadsWords most target (Some n) = (2 * n ≤ most) × ((n ≤ length target) × (n ≡ length (take n target)))
LoadsWords most target None = Unit {0}
