-- Against the paper: a word is spelt as an order exactly where the paper has an order for it. That it is so is proved in proofs/Orders.antt, and nothing is assumed.
use Rattle.std.specs.Prelude.{◌≡◌, true, ◌⊎◌, ◌↔◌, List, ℕ, Err, Option, Result, Some}
use Rattle.paper.specs.Machines.{Machine}
use Rattle.paper.specs.Orders.{op_of, a_of, b_of, order_of, shape_of_order, holds, serves, bad_order, bad_service, effect_of, checked}
use Rattle.paper.specs.declared.Field.{Field}
use Rattle.grammar.specs.Lines.{words_by}
use Rattle.grammar.specs.Printing.{Named, named_as}
use Rattle.grammar.specs.declared.Operands.{Operands}
use Rattle.paper.specs.declared.Change.{Change}

-- the shape that the paper gives a first word, and what it decides for it
abbrev pub shape_at : ℕ → Option (ℕ × Field × Field)
shape_at w = shape_of_order (order_of (op_of w))

abbrev pub decides : Machine → ℕ → Result (ℕ × Change) ℕ
decides m w = checked (shape_at w) m w

-- the paper has an order for a word: as many words as the operands say, fields and service pass, and what it does is left to the order
pub record Runs (m : Machine) (w : ℕ) (o : Operands) : Type 0 where
  pub a_field : Field
  pub b_field : Field
  pub shape : shape_at w ≡ Some (words_by o, a_field, b_field)
  pub a_holds : holds a_field (a_of w) ≡ true
  pub b_holds : holds b_field (b_of w) ≡ true
  pub is_served : serves a_field (a_of w) ≡ true
  pub does : decides m w ≡ effect_of m (op_of w) (words_by o) (a_of w) (b_of w)

pub record AsThePaper : Type 0 where
  -- a word is a number exactly where every machine faults at it with 2 or 3
  pub numbers : (m : Machine) (w : ℕ) → (named_as w ≡ Named.none) ↔ ((decides m w ≡ Err bad_order) ⊎ (decides m w ≡ Err bad_service))
  -- any other is the first of an order, which the paper has too
  pub orders_run : (m : Machine) (w : ℕ) (name : List ℕ) (o : Operands) → named_as w ≡ Named.order name o → Runs m w o
