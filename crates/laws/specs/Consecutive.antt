-- Lists one after another: where each of them lies, rows of one width, and the numbers 0..n-1. Assumes nothing.
use Rattle.std.specs.Prelude.{◌≡◌, refl, List, [], ◌∷◌, ◌++◌, ℕ, zero, suc, ◌+◌, ◌*◌, ◌<◌, ◌≤◌, length, get_or}
use Rattle.std.proofs.Common.{sym, ◌∙◌, le_refl, le_trans, zero-mul, suc-mul, arith, eq-eqb, ne_eqb, length-append, get_or-append-add}
use Rattle.std.proofs.Math.Logic.{dite}
use Rattle.std.proofs.Math.Decide.{ℕ_discrete, le_ind}
use Rattle.std.proofs.Math.ListN.{get_or-append}
use Rattle.paper.specs.Rules.{times}
use Rattle.paper.specs.Plans.{joined}

-- what no step lowers, several steps do not
pub rising : (f : ℕ → ℕ) → ((k : ℕ) → f k ≤ f (suc k)) → (a b : ℕ) → a ≤ b → f a ≤ f b
rising f up a b h = le_ind (λ m. f a ≤ f m) (le_refl _) (λ m _ ih. le_trans ih (up m)) b h

-- word k of list i stands after the words of the lists before it
abbrev Stays : (ℕ → List ℕ) → ℕ → ℕ → ℕ → Type 0
Stays f i k n = (length (joined i f) + k < length (joined n f)) × (get_or (joined n f) (length (joined i f) + k) 0 ≡ get_or (f i) k 0)

-- and stays there when more lists follow
stays : (f : ℕ → List ℕ) (i k n : ℕ) → k < length (f i) → i < n → Stays f i k n
stays f i k n h l =
    le_ind (Stays f i k) (rw length-append (omega arith), get_or-append-add (joined i f) (f i) k 0)
    (λ m _ ih. (rw length-append (omega arith), get_or-append (joined m f) (f m) 0 _ ih.0 ∙ ih.1))
    n l

-- lists whose starts add up
module _ (f : ℕ → List ℕ) (from : ℕ → ℕ) (n : ℕ) (none : from 0 ≡ 0)
    (next : (i : ℕ) → i < n → from (suc i) ≡ from i + length (f i)) where
  -- the first i of them end where the next one starts
  pub joined_ends : (i : ℕ) → i ≤ n → length (joined i f) ≡ from i
  joined_ends zero h = sym none
  joined_ends (suc i) h = rw length-append (omega (arith, joined_ends i (omega arith), next i h))

  -- a word by its list and its place there
  pub joined_at : (i k : ℕ) → i < n → k < length (f i) → get_or (joined n f) (from i + k) 0 ≡ get_or (f i) k 0
  joined_at i k h l = rw (joined_ends i (omega arith)) at (stays f i k n l h).1

-- n rows of width w
module _ (n w : ℕ) (f : ℕ → List ℕ) (wide : (i : ℕ) → i < n → length (f i) ≡ w) where
  -- each starts where the one before it ends
  row_next : (i : ℕ) → i < n → suc i * w ≡ i * w + length (f i)
  row_next i h = rw (wide i h, suc-mul)

  -- they are n * w words
  pub joined_length : length (joined n f) ≡ n * w
  joined_length = joined_ends f (λ i. i * w) n (zero-mul w) row_next n (le_refl n)

  -- a word by its row and column
  pub joined_row : (i k : ℕ) → i < n → k < w → get_or (joined n f) (i * w + k) 0 ≡ get_or (f i) k 0
  joined_row i k h l = joined_at f (λ j. j * w) n (zero-mul w) row_next i k h (rw (wide i h) l)

-- 0..n-1, one after another
abbrev pub numbers : ℕ → List ℕ
numbers n = joined n (λ k. k ∷ [])

-- they are n, and number k is k
pub numbers_length : (n : ℕ) → length (numbers n) ≡ n
numbers_length n = omega (arith, joined_length n 1 (λ k. k ∷ []) (λ _ _. refl))

pub numbers_at : (n k : ℕ) → k < n → get_or (numbers n) k 0 ≡ k
numbers_at n k h =
    let e : k * 1 + 0 ≡ k = omega arith in
    rw e at (joined_row n 1 (λ j. j ∷ []) (λ _ _. refl) k 0 h (omega arith))

-- a word is in two lists as often as in the first and in the second
pub times_append : (x : ℕ) (l m : List ℕ) → times x (l ++ m) ≡ times x l + times x m
times_append x [] m = omega arith
times_append x (w ∷ ws) m = omega (arith, times_append x ws m)

-- they hold each number below n once, and no other
pub numbers_once : (x n : ℕ) → (x < n → times x (numbers n) ≡ 1) × (n ≤ x → times x (numbers n) ≡ 0)
numbers_once x zero = (λ h. absurd (omega arith), λ h. refl)
numbers_once x (suc n) =
    let before = numbers_once x n in
    rw times_append
    (dite (ℕ_discrete x n) (λ e. rw (eq-eqb x n e) (λ h. omega (arith, before.1 (omega arith)), λ h. omega arith))
    (λ ne. rw (ne_eqb x n ne) (λ h. omega (arith, before.0 (omega arith)), λ h. omega (arith, before.1 (omega arith)))))
