-- By the answer: after a service that is done or faulted the first task is first still, and so after an order.
use Rattle.std.specs.Prelude.{Option, Some}
use mathlib.Core.Path.{◌≡◌, refl}
use mathlib.Core.Bool.{true, false}
use mathlib.Core.Logic.{◌⊎◌, inl, inr}
use Rattle.paper.specs.declared.Answer.{Answer}
use Rattle.paper.specs.declared.Task.{Task}
use Rattle.ticks.specs.Rounds.{stays_of}
use borrow.Author.Rules.{rules}
use Rattle.ticks.proofs.stays.Goals as goal

-- what the last arm says: an answer that tells of no service done or faulted
no_service : (a : Answer) → ((i : Task) → a ≡ Answer.ServiceDone i → ⊥) → ((i : Task) → a ≡ Answer.ServiceFaulted i → ⊥) → (c : Option Answer) → c ≡ Some a → false ≡ stays_of c
unfolding stays_of
no_service Answer.Idle d f c ec = rw ec
no_service (Answer.ErrorStop i) d f c ec = rw ec
no_service (Answer.TurnPassed i) d f c ec = rw ec
no_service (Answer.ServiceDone i) d f c ec = absurd (d i refl)
no_service (Answer.ServiceWaits i) d f c ec = rw ec
no_service (Answer.ServiceFaulted i) d f c ec = absurd (f i refl)
no_service (Answer.OrderDone i) d f c ec = rw ec
no_service (Answer.OrderFaulted i) d f c ec = rw ec
no_service (Answer.Input i) d f c ec = rw ec
no_service (Answer.OutputDone i) d f c ec = rw ec

pub returns-in-None : goal.returns-in-None
unfolding stays_of
returns-in-None c = search rules

-- and what the arm before says
service : (a : Answer) → ((i : Task) × (a ≡ Answer.ServiceDone i)) ⊎ ((i : Task) × (a ≡ Answer.ServiceFaulted i)) → (c : Option Answer) → c ≡ Some a → true ≡ stays_of c
unfolding stays_of
service a (inl d) c ec = rw (ec, d.1)
service a (inr f) c ec = rw (ec, f.1)

pub returns-in-ServiceDone : goal.returns-in-ServiceDone
returns-in-ServiceDone c = service _ c.in-ServiceDone.is _ c.in-Some.is

pub returns-in_default : goal.returns-in_default
returns-in_default c = no_service _ c.in_default.not-ServiceDone c.in_default.not-ServiceFaulted _ c.in-Some.is
