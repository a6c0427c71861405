-- What is noted of orders in a row, and the counts that are lent; shut, as contracts say it.
use Rattle.std.specs.Prelude.{◌≡◌, List, Bool, true, false, ◌≢◌, ℕ, ◌-◌, length}
use Rattle.paper.specs.Counts.{all_counts, count_place, grown}
use Rattle.paper.specs.declared.Task.{Task}
use Rattle.paper.specs.declared.Heading.{Heading}

-- the counts after so many orders of a task, the last of which may have faulted
unfoldable pub orders_counted : List ℕ → Task → ℕ → Bool → List ℕ
orders_counted counts i n true = grown (grown counts (count_place i Heading.Orders) (n - 1)) (count_place i Heading.Faults) 1
orders_counted counts i n false = grown counts (count_place i Heading.Orders) n

-- where there are counts, there are all
unfoldable pub Ledger : List ℕ → Type 0
Ledger counts = length counts ≢ 0 → length counts ≡ all_counts
