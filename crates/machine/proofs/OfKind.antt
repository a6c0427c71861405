-- An order by its kind: it has two registers, or is a jump. Assumes nothing.
use mathlib.Core.Path.{◌≡◌, sym, ap, ◌∙◌}
use mathlib.Core.Bool.{So}
use Prim.Native.Nat.{ℕ, ◌/◌}
use native.Mathlib.Omega.{arith}
use Rattle.paper.specs.Orders.{two_registers}
use Rattle.paper.specs.declared.Op.{Op}
use Rattle.order_table.specs.Entries.{kind_of_order, entry_of, kind_of, decoded}
use Rattle.order_table.specs.Reading.{NoneOf, past_them, kind_few, two_kind, two_shape}

-- the kind is read from the entry
pub kind_is : (w e : ℕ) → e ≡ entry_of w → kind_of w ≡ e / 4096
unfolding kind_of
kind_is w e h = sym (ap (λ (k : ℕ). k / 4096) h)

module _ (w k : ℕ) (ek : kind_of w ≡ k) where
  pub is_two : (j : ℕ) → k ≡ j → So (two_kind j) → decoded (entry_of w) ≡ two_registers
  is_two j e t = two_shape w (rw (ek ∙ e) t)

  pub is_jump : NoneOf 0 15 k → kind_of w ≡ kind_of_order Op.Jump
  is_jump none = omega (arith, ek, kind_few w, past_them 0 15 k none (omega arith))
