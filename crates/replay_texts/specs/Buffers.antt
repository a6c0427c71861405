-- Bytes that are a part again and again. Assumes nothing.
use Rattle.std.specs.Prelude.{◌≡◌, List, ℕ, ◌-◌, ◌<◌, ◌≤◌, length, get_or}

-- each byte past a first part is the one that stands as many before it as the part has
abbrev pub Again : ℕ → List ℕ → Type 0
Again part bytes = (k : ℕ) → part ≤ k → k < length bytes → get_or bytes k 0 ≡ get_or bytes (k - part) 0
