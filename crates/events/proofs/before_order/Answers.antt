-- The flags and the clock tell which rule applies, as in the definition; with a service pending there is no error.
use Rattle.events.proofs.Branches.{comes_to_stop, comes_to_turn, service_known, comes_to_serve}
use native.Mathlib.Omega.{arith}
use borrow.Author.Rules.{rules}
use Rattle.events.proofs.before_order.Goals as goal

pub returns-then-flags-lt-PENDING : goal.returns-then-flags-lt-PENDING
returns-then-flags-lt-PENDING c = record { im_after = search comes_to_stop; sound_2 = search rules }

pub returns-then-clock-eq0 : goal.returns-then-clock-eq0
returns-then-clock-eq0 c = record { im_after = search comes_to_turn; sound_2 = search rules }

pub service-requires : goal.service-requires
service-requires c = record { sound = search rules; rowed = search rules; roomy = search rules; im_value = search rules; clock_value = search rules; clock_nonzero = omega arith; le_pending = (search rules, search service_known) }

pub returns : goal.returns
returns c = record { im_after = search comes_to_serve; sound_2 = search rules }
