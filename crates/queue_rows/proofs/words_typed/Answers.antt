-- As many from the head on as the length says.
use native.Mathlib.Omega.{arith}
use Rattle.queue_rows.proofs.Rows.{ends_in, untyped_implies, typed_implies}
use Rattle.queue_rows.proofs.words_typed.Goals as goal

pub returns-then-not-typed : goal.returns-then-not-typed
returns-then-not-typed c = search untyped_implies

pub slots_below-requires : goal.slots_below-requires
slots_below-requires c = record { from_lt_given = (omega (arith, c.from.ensures, ends_in _ _ _ c.requires.given_value), c.requires.given_le_most_capacity); given_in_bounds = c.requires.given_in_bounds }

pub returns : goal.returns
returns c = typed_implies _ _ _ c.args.typed _ _ _ c.if-not-typed.false c.from.ensures c.from-2.ensures c.slots_below.ensures
