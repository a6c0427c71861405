-- A plan's file of which only the first bytes are at hand: what is promised of it.
use Rattle.std.specs.Prelude.{◌≡◌, List, [], ◌++◌, Bool, not, ℕ, ◌+◌, ◌*◌, ◌%◌, ◌<◌, ◌≤◌, eqb, length, take, Ok, Result, ⊤}
use Rattle.paper.specs.Numbers.{check_plan}
use Rattle.paper.specs.Runner.{words_of, check_file}
use Rattle.writes.specs.Written.{written}
use Rattle.paper.specs.Image.{most_tasks, most_words}
use Rattle.paper.specs.declared.Refusal.{Refusal}

-- an accepted plan has at most so many words
abbrev pub longest : ℕ
longest = 5 + 2 * most_tasks + most_words

-- as many bytes as tell a plan that is too long
abbrev pub enough : ℕ
enough = 2 * longest + 2

-- a count is odd
abbrev pub odd : ℕ → Bool
odd n = not (eqb (n % 2) 0)

-- whether a count is odd, with so many more, where it was odd before or not
abbrev pub OddAfter : Bool → ℕ → Bool → Type 0
OddAfter before k after = (m : ℕ) → odd m ≡ before → odd (m + k) ≡ after

-- what follows the first bytes of a file, of which so many were asked for: an odd count of bytes or not, and none where fewer were found
pub record Rest (asked : ℕ) (bytes rest : List ℕ) (is_odd : Bool) : Type 0 where
  pub parity : odd (length rest) ≡ is_odd
  pub ended : length bytes < asked → rest ≡ []

-- the verdict on every file that begins with these bytes
abbrev pub Decides : ℕ → List ℕ → Bool → Result ⊤ Refusal → Type 0
Decides asked bytes is_odd v = (rest : List ℕ) → Rest asked bytes rest is_odd → v ≡ check_file (bytes ++ rest)

-- what is promised of a plan's file: its first words, at the start of the target, and the verdict on all of it
pub record ReadsPlan (asked : ℕ) (bytes : List ℕ) (is_odd : Bool) (target after : List ℕ) (count : ℕ) (v : Result ⊤ Refusal) : Type 0 where
  pub counted : count ≡ length (words_of bytes)
  pub made : after ≡ written target 0 (words_of bytes)
  pub decides : Decides asked bytes is_odd v
  pub inside : count ≤ length after
  -- where it is accepted, these words are a plan, and the whole file
  pub passes : v ≡ Ok tt → check_plan (take count after) ≡ Ok tt
  pub whole : v ≡ Ok tt → (rest : List ℕ) → Rest asked bytes rest is_odd → rest ≡ []
