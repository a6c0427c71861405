-- Laws of lent counts, all of them or none. Assumes nothing.
use Rattle.std.specs.Prelude.{◌≡◌, List, Bool, true, false, ℕ, ◌+◌, ◌-◌, ◌*◌, ◌<◌, length}
use Rattle.std.proofs.Common.{sym, ap, ◌∙◌, arith}
use Rattle.paper.specs.Image.{most_tasks}
use Rattle.paper.specs.Counts.{headings, all_counts, count_place, grown}
use Rattle.paper.specs.declared.Task.{Task}
use Rattle.paper.specs.declared.Heading.{Heading}
use Rattle.counting.specs.Growing.{grown_out}
use Rattle.noting.specs.Noted.{orders_counted, Ledger}

-- all of them, or none
pub all_ledger : (counts : List ℕ) → length counts ≡ all_counts → Ledger counts
unfolding Ledger
all_ledger counts all some = all

pub none_ledger : (counts : List ℕ) → length counts ≡ 0 → Ledger counts
unfolding Ledger
none_ledger counts none some = absurd (some none)

pub ledger_kept : (counts more : List ℕ) → Ledger counts → length more ≡ length counts → Ledger more
unfolding Ledger
ledger_kept counts more l e ne = e ∙ l (λ z. ne (e ∙ z))

-- where there are none, none grow
pub none_grown : (counts : List ℕ) (k n : ℕ) → length counts ≡ 0 → counts ≡ grown counts k n
none_grown counts k n z = sym (grown_out counts k n (omega arith))

pub none_orders : (counts : List ℕ) (i : Task) (n : ℕ) (b : Bool) → length counts ≡ 0 → counts ≡ orders_counted counts i n b
unfolding orders_counted
none_orders counts i n true z =
    let e = none_grown counts (count_place i Heading.Orders) (n - 1) z in
    e ∙ none_grown _ (count_place i Heading.Faults) 1 (ap length (sym e) ∙ z)
none_orders counts i n false z = none_grown counts (count_place i Heading.Orders) n z

-- a place of a task's row is one of all
pub row_place : (i : Task) (c k : ℕ) → k ≡ headings * i.0 + c → c < headings → i.0 < most_tasks → k < all_counts
row_place i c k ek few l = omega (arith, ek)
