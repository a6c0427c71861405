-- Whether zeros are written over all words first or not, the segments come to the same words.
use mathlib.Core.Path.{sym}
use mathlib.Core.Bool.{true≢false}
use native.Mathlib.Omega.{arith}
use Rattle.fresh_parts.proofs.Making.{segments_long, zeros_room, zeros_there, segments_over}
use borrow.Author.Rules.{rules}
use Rattle.fresh_parts.proofs.put_segments.Goals as goal

pub put_zeros-requires : goal.put_zeros-requires
put_zeros-requires c = omega (arith, segments_long _ _ c.requires.plan)

pub put_programs-requires : goal.put_programs-requires
put_programs-requires c = record { plan = search rules; room_for = search zeros_room; zeroed = λ so. search zeros_there }

pub returns-then-plan-s : goal.returns-then-plan-s
returns-then-plan-s c = search segments_over

pub put_programs-requires-2 : goal.put_programs-requires-2
put_programs-requires-2 c = record { plan = search rules; room_for = search rules; zeroed = λ so. absurd (true≢false (sym so)) }
