-- That a list is the table of orders has one proof at most. Assumes nothing.
use Rattle.std.specs.Prelude.{List, ℕ}
use Rattle.std.specs.Coded.{Π_prop, Coded-set, coded_ℕ}
use Rattle.order_table.specs.Entries.{OrderTable}

pub OrderTable-prop : (t : List ℕ) → IsProp (OrderTable t)
unfolding OrderTable
OrderTable-prop t = Π_prop (λ op. Π_prop (λ _. Coded-set coded_ℕ _ _))
