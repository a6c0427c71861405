-- A queue whose first word is word p of a list: as code sees it.
use Rattle.std.specs.Prelude.{List, ℕ, ◌+◌, ◌-◌, ◌<◌, ◌≤◌, get_or, set, length}
use Rattle.paper.specs.Queues.{step}

-- it lies within the list, and its head, tail and length are in range
pub record Ring (im : List ℕ) (p : ℕ) : Type 0 where
  pub within : p + 4 + get_or im (p + 3) 0 ≤ length im
  pub headed : get_or im p 0 < get_or im (p + 3) 0
  pub tailed : get_or im (p + 1) 0 < get_or im (p + 3) 0
  pub counted : get_or im (p + 2) 0 ≤ get_or im (p + 3) 0

unfoldable pub append_at : List ℕ → ℕ → ℕ → List ℕ
append_at im p v =
    set (set (set im (p + 4 + get_or im (p + 1) 0) v) (p + 1) (step (get_or im (p + 1) 0) (get_or im (p + 3) 0))) (p + 2) (get_or im (p + 2) 0 + 1)

unfoldable pub first_at : List ℕ → ℕ → ℕ
first_at im p = get_or im (p + 4 + get_or im p 0) 0

unfoldable pub take_at : List ℕ → ℕ → List ℕ
take_at im p =
    set (set (set im (p + 4 + get_or im p 0) 0) p (step (get_or im p 0) (get_or im (p + 3) 0))) (p + 2) (get_or im (p + 2) 0 - 1)
