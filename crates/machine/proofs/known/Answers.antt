-- A bit that the order's entry wants 0 makes it a bad order; else the entry's kind is the order's.
use Rattle.machine.proofs.Deciding.{bad_fields, is_fetched}
use Rattle.machine.proofs.Choosing.{fell_after}
use Rattle.machine.proofs.OfKind.{kind_is}
use borrow.Author.Rules.{rules}
use Rattle.machine.proofs.known.Goals as goal

pub fault-requires : goal.fault-requires
fault-requires c = record { in_hand = search rules; at_value = search bad_fields; e_nonzero = search rules }

pub returns-then-both_bits-ne0 : goal.returns-then-both_bits-ne0
returns-then-both_bits-ne0 c = search fell_after

pub by_kind-requires : goal.by_kind-requires
by_kind-requires c = record { in_hand = search rules; fetched = search is_fetched; w_value = search kind_is }
