-- The rule of a table of orders, proved over all of its entries by one test that antt computes; what an entry stands for. Assumes nothing.
use mathlib.Core.Path.{◌≡◌, refl}
use mathlib.Core.Bool.{So}
use mathlib.Core.List.{List}
use Prim.Native.Nat.{ℕ, ◌<◌}
use borrow.Author.Tests.{eqb-true}
use lib.Dec.{eqb}
use lib.ListN.{get_or}
use Rattle.paper.specs.Orders.{order_of, shape_of_order}
use Rattle.paper.specs.declared.Op.{Op}
use Rattle.order_table.specs.Entries.{encoded, decoded, OrderTable}
use Rattle.order_table.specs.Reading.{all_below, all_below_at}

-- a table that passes the test at each of the 256 high bytes has the rule
pub table_right : (t : List ℕ) → So (all_below 256 (λ op. eqb (get_or t op 0) (encoded (order_of op)))) → OrderTable t
unfolding OrderTable
table_right t right op h = eqb-true _ _ (all_below_at 256 (λ k. eqb (get_or t k 0) (encoded (order_of k))) right op h)

-- the entry of an order gives back its shape
read_back : (o : Op) → decoded (encoded o) ≡ shape_of_order o
unfolding decoded
read_back Op.Unknown = refl
read_back Op.Load = refl
read_back Op.Copy = refl
read_back Op.Fetch = refl
read_back Op.Store = refl
read_back Op.Add = refl
read_back Op.Subtract = refl
read_back Op.Multiply = refl
read_back Op.Quotient = refl
read_back Op.Remainder = refl
read_back Op.And = refl
read_back Op.Or = refl
read_back Op.ExclusiveOr = refl
read_back Op.Compare = refl
read_back Op.Jump = refl
read_back Op.JumpIf = refl
read_back Op.Call = refl
read_back Op.Return = refl
read_back Op.Service = refl

-- the entry of an op, and the shape that it says
module _ (t : List ℕ) (op : ℕ) (h : OrderTable t) (l : op < 256) where
  pub entry_read : get_or t op 0 ≡ encoded (order_of op)
  unfolding OrderTable
  entry_read = h op l

  pub shape_read : decoded (get_or t op 0) ≡ shape_of_order (order_of op)
  shape_read = rw entry_read (read_back (order_of op))
