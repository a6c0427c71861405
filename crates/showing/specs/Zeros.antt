-- The buffer for the text of a segment, and the lines `0` that end one. Assumes nothing.
use Rattle.std.specs.Prelude.{◌≡◌, Bool, true, false, ◌&&◌, List, ℕ, zero, suc, ◌+◌, ◌-◌, ◌*◌, ◌≤◌, eqb, length, get_or}
use Rattle.paper.specs.Tests.{every}

-- the bytes of the buffer: 16 for each word of the longest segment
abbrev pub text_bytes : ℕ
text_bytes = 523440

-- whether a line starts at a place
abbrev pub starts_line : List ℕ → ℕ → Bool
starts_line text zero = true
starts_line text (suc k) = eqb (get_or text k 0) 10

-- whether a line `0` stands at a place
abbrev pub is_zero_line : List ℕ → ℕ → Bool
is_zero_line text at = (eqb (get_or text at 0) 48 && eqb (get_or text (at + 1) 0) 10) && starts_line text at

-- so many lines `0` end a text, and no more
pub record ZeroLines (text : List ℕ) (n : ℕ) : Type 0 where
  pub inside : 2 * n ≤ length text
  pub each : every n (λ k. is_zero_line text (length text - 2 * (k + 1))) ≡ true
  pub last : 2 * (n + 1) ≤ length text → is_zero_line text (length text - 2 * (n + 1)) ≡ false
