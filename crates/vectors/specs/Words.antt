-- Words with changes made in them, and words that are as salted. Assumes nothing.
use Rattle.std.specs.Prelude.{◌≡◌, List, [], ◌∷◌, ℕ, ◌+◌, ◌*◌, ◌%◌, ◌<◌, ◌≤◌, Some, length, set, slice_get}
use Rattle.vectors.specs.declared.changes.Change.{Change}

-- words with changes made in them, the last one first
unfoldable pub with_changes : List ℕ → List (Change ℕ) → List ℕ
with_changes words [] = words
with_changes words (c ∷ cs) = set (with_changes words cs) c.place c.item

-- the word at a place of a salted target
abbrev pub salted_word : ℕ → ℕ → ℕ
salted_word place salt = (place % 65536 * 31 + salt) % 65536

-- the byte at a place of a salted target
abbrev pub salted_byte : ℕ → ℕ → ℕ
salted_byte place salt = (place % 256 * 31 + salt) % 256

-- from a place on and up to another, items are what a function of their places gives
abbrev pub FilledTo : {A : Type 0} → (ℕ → A) → ℕ → List A → ℕ → Type 0
FilledTo f from items end = (k : ℕ) → from ≤ k → k < end → slice_get items k ≡ Some (f k)

-- the items from a place on are those of a salted target
abbrev pub AsSalted : {A : Type 0} → (ℕ → ℕ → A) → ℕ → ℕ → List A → Type 0
AsSalted item from salt items = FilledTo (λ (k : ℕ). item k salt) from items (length items)
