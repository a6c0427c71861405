-- Where the condition holds R0 becomes the second word, else it is past the order, as the definitions of the two jumps say.
use mathlib.Core.Path.{refl}
use native.Mathlib.Omega.{arith}
use Rattle.effects.specs.Holding.{is_based, is_near, is_row, read_in, twice_fits}
use Rattle.machine.proofs.Deciding.{bad_condition, jump_outside}
use Rattle.machine.proofs.Choosing.{fell_after, jump_next, pass_next}
use borrow.Author.Rules.{rules}
use Rattle.machine.proofs.jumps.Goals as goal

pub fault-requires : goal.fault-requires
fault-requires c = record { in_hand = search rules; at_value = search bad_condition; e_nonzero = search rules }

pub returns-then-c-gt-MOST_CC : goal.returns-then-c-gt-MOST_CC
returns-then-c-gt-MOST_CC c = search fell_after

pub onward-requires : goal.onward-requires
onward-requires c = (search is_near, search rules)

pub fault-requires-in_default : goal.fault-requires-in_default
fault-requires-in_default c = record { in_hand = search rules; at_value = search jump_outside; e_nonzero = search rules }

pub returns-in_default : goal.returns-in_default
returns-in_default c = search fell_after

pub bounds-p-8 : goal.bounds-p-8
bounds-p-8 c = search is_row

pub offset_bounds-p-k : goal.offset_bounds-p-k
offset_bounds-p-k c = search twice_fits

pub bounds-p-k : goal.bounds-p-k
bounds-p-k c = search read_in

pub aimed-requires : goal.aimed-requires
aimed-requires c = search is_based

pub returns-then-either : goal.returns-then-either
returns-then-either c = jump_next _ _ _ _ c.requires.in_hand c.requires.fetched c.requires.w_value c.if-c-gt-MOST_CC.false _ _ c.onward.ensures c.reached.ensures _ c.in-Some.is _ c.either.ensures _ _ c.if-either.true refl c.aimed.ensures (omega (arith, c.type_inv.p c.in-Some.field-0.0))

pub onward-requires-2 : goal.onward-requires-2
onward-requires-2 c = (search is_near, search rules)

pub returns : goal.returns
returns c = search pass_next
