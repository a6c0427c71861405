-- What an order of two registers does, by its kind. Assumes nothing.
use Rattle.std.specs.Prelude.{Ok}
use mathlib.Core.Path.{◌≡◌, refl, ◌∙◌}
use mathlib.Core.List.{List}
use mathlib.Core.Bool.{Bool, true, false, cond}
use mathlib.Core.Logic.{◌≢◌, dite}
use Prim.Native.Nat.{ℕ, ◌+◌, ◌-◌, ◌*◌, ◌/◌, ◌%◌, ◌<◌, min, max}
use native.Mathlib.Decide.{ℕ_discrete}
use native.Mathlib.Omega.{arith}
use lib.Dec.{eqb, ltb}
use lib.ListN.{set}
use Rattle.paper.specs.Image.{address}
use Rattle.paper.specs.Machines.{Machine}
use Rattle.paper.specs.Orders.{op_of, order_of, two_registers, mod_word, found, reading, storing, sets, unless_zero, on_bits, compared, effect, decided}
use Rattle.paper.specs.declared.Op.{Op}
use Rattle.paper.specs.declared.Change.{Change}
use Rattle.order_table.specs.Entries.{kind_of_order, entry_of, kind_of, decoded}
use Rattle.order_table.specs.Reading.{Among, only, one_of_two, NoneOf, past_them, last_two}
use Rattle.effects.specs.Parts.{address_of, machine_of}
use Rattle.effects.specs.Worked.{InHand, Done}
use Rattle.effects.specs.Carrying.{compare_went}
use Rattle.effects.specs.declared.Aim.{Aim}
use Rattle.effects.specs.declared.Segment.{Segment}
use Rattle.effects.specs.declared.Went.{Went}

-- what an order of that kind does, x and y the words of its registers
module _ (m : Machine) (next w k a x y : ℕ) (ek : kind_of w ≡ k) (ed : decided m ≡ effect (order_of (op_of w)) m next a x y) where
  acts : (n : ℕ) → Among (λ j. eqb j n) (kind_of_order (order_of n)) → k ≡ kind_of_order (order_of n) → decided m ≡ effect (order_of n) m next a x y
  acts n one e = rw (only n one w (ek ∙ e)) at ed

  pub by_copy : k ≡ kind_of_order Op.Copy → decided m ≡ sets next a y
  by_copy e = acts 2 refl e

  pub by_fetch : k ≡ kind_of_order Op.Fetch → decided m ≡ reading (found m y) (sets next a)
  by_fetch e = acts 3 refl e

  pub by_store : k ≡ kind_of_order Op.Store → decided m ≡ storing m y (Ok (next, Change.Store (address y) x))
  by_store e = acts 4 refl e

  -- quotient or remainder, told by the op
  pub by_divide : k ≡ kind_of_order Op.Quotient → decided m ≡ unless_zero y (sets next a (cond (eqb (w / 256) 8) (x / y) (x % y)))
  by_divide e = dite (ℕ_discrete (op_of w) 8) (λ h. rw h (rw h at ed)) other
    where
      other : op_of w ≢ 8 → decided m ≡ unless_zero y (sets next a (cond (eqb (w / 256) 8) (x / y) (x % y)))
      other ne = let h : op_of w ≡ 9 = one_of_two 8 9 refl w (ek ∙ e) ne in rw h (rw h at ed)

  -- r is what the order makes of the words
  module _ (r : ℕ) where
    pub by_sum : k ≡ kind_of_order Op.Add → r ≡ mod_word (x + y) → decided m ≡ sets next a r
    by_sum e er = rw er (acts 5 refl e)

    pub by_difference : k ≡ kind_of_order Op.Subtract → r ≡ mod_word (x + 65536 - y) → decided m ≡ sets next a r
    by_difference e er = rw er (acts 6 refl e)

    pub by_product : k ≡ kind_of_order Op.Multiply → r ≡ mod_word (x * y) → decided m ≡ sets next a r
    by_product e er = rw er (acts 7 refl e)

    pub by_and : k ≡ kind_of_order Op.And → r ≡ on_bits min x y → decided m ≡ sets next a r
    by_and e er = rw er (acts 10 refl e)

    pub by_or : k ≡ kind_of_order Op.Or → r ≡ on_bits max x y → decided m ≡ sets next a r
    by_or e er = rw er (acts 11 refl e)

    pub by_exclusive_or : k ≡ kind_of_order Op.ExclusiveOr → r ≡ on_bits (λ i j. (i + j) % 2) x y → decided m ≡ sets next a r
    by_exclusive_or e er = rw er (acts 12 refl e)

small : (x y : ℕ) → compared x y < 4
small x y = go (eqb x y) (ltb x y)
  where
    go : (s t : Bool) → cond s 0 (cond t 1 2) < 4
    go true t = omega arith
    go false true = omega arith
    go false false = omega arith

pub compare_next : (g : Segment) (p out : List ℕ) (at : Aim) (w k a x y : ℕ) (r : Went) → InHand g p at → at.0 < g.to
    → kind_of w ≡ k → decoded (entry_of w) ≡ two_registers → NoneOf (kind_of_order Op.Copy) 10 k
    → decided (machine_of g p at) ≡ effect (order_of (op_of w)) (machine_of g p at) (address_of g at + 1) a x y
    → r ≡ Went.On (record { 0 = at.0 + 1 }) → out ≡ set p 8 (compared x y) → Done g p at r out
compare_next g p out at w k a x y r hand inside ek sh none ed er eo =
    let op : op_of w ≡ 13 = last_two w sh (λ h. omega (arith, past_them (kind_of_order Op.Copy) 10 k none (omega arith))) in
    rw er (compare_went g p at hand (record { 0 = at.0 + 1 }) inside refl x y out (small x y) (rw op at ed) eo)
