-- The table of names and labels as its arrays hold it, and what makes it fit to search.
use Rattle.std.specs.Prelude.{◌≡◌, true, false, List, [], ◌∷◌, ℕ, zero, suc, ◌+◌, ◌*◌, ◌/◌, ◌%◌, ◌<◌, ◌≤◌, eqb, ltb, length, get_or, take, drop}
use Rattle.grammar.specs.Sums.{Entry}

-- how many entries there may be; no entry has this number, which ends a chain
abbrev pub most : ℕ
most = 8192

-- the two texts, how many of the entries stand in the names, and for each entry its first byte, its count of bytes, its value, and the entry that follows it in its chain
pub record Table : Type 0 where
  pub names : List ℕ
  pub script : List ℕ
  pub split : ℕ
  pub froms : List ℕ
  pub counts : List ℕ
  pub values : List ℕ
  pub nexts : List ℕ

abbrev pub table : List ℕ → List ℕ → ℕ → List ℕ → List ℕ → List ℕ → List ℕ → Table
table names script split froms counts values nexts =
    record { names = names; script = script; split = split; froms = froms; counts = counts; values = values; nexts = nexts }

-- the text that an entry stands in
abbrev pub text_at : List ℕ → List ℕ → ℕ → ℕ → List ℕ
text_at names script split k = elim (ltb k split) [ true ↦ names | false ↦ script ]

abbrev pub text_of : Table → ℕ → List ℕ
text_of t k = text_at t.names t.script t.split k

abbrev pub entry_word : Table → ℕ → List ℕ
entry_word t k = take (get_or t.counts k 0) (drop (get_or t.froms k 0) (text_of t k))

abbrev pub entry : Table → ℕ → Entry
entry t k = record { spelt = entry_word t k; value = get_or t.values k 0 }

-- the first n entries, the latest first
unfoldable pub entries : Table → ℕ → List Entry
entries t zero = []
entries t (suc k) = entry t k ∷ entries t k

-- a word's bucket
unfoldable pub mixed : ℕ → List ℕ → ℕ
mixed n [] = n
mixed n (b ∷ w) = mixed ((n + b) * 2654435761 % 4294967296) w

unfoldable pub bucket : List ℕ → ℕ
bucket w = mixed 0 w / 524288

-- the latest of the first n entries whose word has a bucket
unfoldable pub latest : Table → ℕ → ℕ → ℕ
latest t zero h = most
latest t (suc k) h = elim (eqb (bucket (entry_word t k)) h) [ true ↦ k | false ↦ latest t k h ]

-- each list has a place for each entry that there may be
pub record Long (froms counts values nexts : List ℕ) : Type 0 where
  pub froms_long : length froms ≡ most
  pub counts_long : length counts ≡ most
  pub values_long : length values ≡ most
  pub nexts_long : length nexts ≡ most

-- the first n entries stand in their texts, and each is followed by the latest before it with its bucket
pub record Linked (t : Table) (n : ℕ) : Type 0 where
  pub few : n ≤ most
  pub long : Long t.froms t.counts t.values t.nexts
  pub inside : (k : ℕ) → k < n → get_or t.froms k 0 + get_or t.counts k 0 ≤ length (text_of t k)
  pub follows : (k : ℕ) → k < n → get_or t.nexts k 0 ≡ latest t k (bucket (entry_word t k))

unfoldable pub Chained : Table → ℕ → Type 0
Chained t n = Linked t n

-- each bucket has a head, its latest entry
pub record Heading (t : Table) (n : ℕ) (heads : List ℕ) : Type 0 where
  pub heads_long : length heads ≡ most
  pub heads_latest : (h : ℕ) → h < most → get_or heads h 0 ≡ latest t n h

unfoldable pub Headed : Table → ℕ → List ℕ → Type 0
Headed t n heads = Heading t n heads

-- a chain to be searched for a word has its bucket
unfoldable pub Links : Table → ℕ → List ℕ → ℕ → Type 0
Links t n w k = k < n → bucket (entry_word t k) ≡ bucket w

-- how many entries there are up to the first of a chain
abbrev pub above : ℕ → ℕ → ℕ
above n k = elim (ltb k n) [ true ↦ suc k | false ↦ 0 ]

-- an entry put after the others
pub record Added (t u : Table) (n : ℕ) (heads : List ℕ) (w : List ℕ) (v : ℕ) : Type 0 where
  pub more : entries u (n + 1) ≡ record { spelt = w; value = v } ∷ entries t n
  pub chained : Chained u (n + 1)
  pub headed : Headed u (n + 1) heads
