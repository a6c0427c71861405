-- How the table of orders writes an order as one number, and the rule of the table.
use Rattle.std.specs.Prelude.{List, cond, ◌||◌, ◌≡◌, ℕ, ◌+◌, ◌*◌, ◌/◌, ◌%◌, ◌<◌, min, eqb, leb, get_or, None, Option, Some}
use Rattle.paper.specs.Orders.{op_of, order_of, shape_of_order, on_bits}
use Rattle.paper.specs.declared.Op.{Op}
use Rattle.paper.specs.declared.Field.{Field}

-- the kind of an order, sixteen in all: three pairs share one
abbrev pub kind_of_order : Op → ℕ
kind_of_order Op.Unknown = 0
kind_of_order Op.Load = 1
kind_of_order Op.Copy = 2
kind_of_order Op.Fetch = 3
kind_of_order Op.Store = 4
kind_of_order Op.Add = 5
kind_of_order Op.Subtract = 6
kind_of_order Op.Multiply = 7
kind_of_order Op.Quotient = 8
kind_of_order Op.Remainder = 8
kind_of_order Op.And = 9
kind_of_order Op.Or = 10
kind_of_order Op.ExclusiveOr = 11
kind_of_order Op.Return = 12
kind_of_order Op.Compare = 13
kind_of_order Op.Call = 14
kind_of_order Op.Jump = 15
kind_of_order Op.JumpIf = 15
kind_of_order Op.Service = 0

-- the bits of a field, of four, that are 0 in an order
abbrev pub zeros : Field → ℕ
zeros Field.Unused = 15
zeros Field.Register = 8
zeros Field.Condition = 12
zeros Field.Service = 0

-- and of the low byte of an order
abbrev pub clear_bits : Option (ℕ × Field × Field) → ℕ
clear_bits None = 0
clear_bits (Some (n, a, b)) = 16 * zeros a + zeros b

-- the entry of an order: 4096 x its kind, and the bits that are 0 in its low byte
abbrev pub encoded : Op → ℕ
encoded o = 4096 * kind_of_order o + clear_bits (shape_of_order o)

-- the entry of the order with first word w, and its kind; shut, as contracts say it
abbrev pub entry_of : ℕ → ℕ
entry_of w = encoded (order_of (op_of w))

unfoldable pub kind_of : ℕ → ℕ
kind_of w = entry_of w / 4096

-- what an entry stands for: the count of words by its kind, a field by the bits that are 0 in it
abbrev pub words_of : ℕ → ℕ
words_of k = cond (eqb k 1 || leb 14 k) 2 1

abbrev field_of : ℕ → Field
field_of z = cond (eqb z 15) Field.Unused (cond (eqb z 8) Field.Register (cond (eqb z 12) Field.Condition Field.Service))

unfoldable pub decoded : ℕ → Option (ℕ × Field × Field)
decoded e = cond (eqb e 0) None (Some (words_of (e / 4096), field_of (e / 16 % 16), field_of (e % 16)))

-- the rule: the entry of each of the 256 high bytes is that of its order
unfoldable pub OrderTable : List ℕ → Type 0
OrderTable t = (op : ℕ) → op < 256 → get_or t op 0 ≡ encoded (order_of op)

-- a first word has no bit that its entry wants 0
unfoldable pub FitsEntry : ℕ → Type 0
FitsEntry w = on_bits min (entry_of w) w ≡ 0
