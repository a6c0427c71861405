-- The image that a service begins from, and the tick's: what is wrong, what stops it and whom it wakes are the same. Assumes nothing.
use Rattle.std.specs.Prelude.{◌≡◌, List, ℕ, ◌<◌, None}
use Rattle.std.proofs.Math.Path.{refl}
use Rattle.std.proofs.Common.{arith, leb-false}
use Rattle.paper.specs.Image.{at, reg}
use Rattle.paper.specs.Services.{other, fault_of, blocked, waits_for, wakes}
use Rattle.paper.specs.declared.Task.{Task}
use Rattle.paper.specs.declared.Shape.{Shape}
use Rattle.paper.specs.declared.Queue.{Queue}
use Rattle.paper.specs.declared.Service.{Service}
use Rattle.laws.specs.Frame.{Apart, kept, kept_status, kept_peer, kept_empty, kept_full}
use Rattle.laws.specs.Changes.{header_part, error_none, buffer_has}
use Rattle.event_laws.specs.Own.{clock_apart}
use Rattle.event_laws.specs.Turns.{Leads, leads_in}
use Rattle.event_laws.specs.Walk.{Begins}

module _ {s : Shape} {im m : List ℕ} {i : Task} (l : Leads s im i) (b : Begins s im m) where
  pub clock_only : Apart s header_part im m
  clock_only = clock_apart b.but_clock

  pub reg_same : (r : ℕ) → r < 9 → at s m (reg i r) ≡ at s im (reg i r)
  reg_same r hr = kept header_part clock_only (reg i r) (leads_in l, hr) refl

  pub fault_same : (v : Service) → fault_of s m i v ≡ fault_of s im i v
  fault_same Service.Send = rw (reg_same 2 (omega arith))
  fault_same Service.Receive = rw (reg_same 2 (omega arith))
  fault_same Service.Input = refl
  fault_same Service.Output = rw (reg_same 3 (omega arith))

  pub blocked_same : (v : Service) → fault_of s im i v ≡ None → blocked s m i v ≡ blocked s im i v
  blocked_same Service.Send right =
      rw (reg_same 2 (omega arith)) (kept_full header_part clock_only (Queue.Message i (other s im i)) (buffer_has s im i (leads_in l) Service.Send right) refl)
  blocked_same Service.Receive right =
      rw (reg_same 2 (omega arith)) (kept_empty header_part clock_only (Queue.Message (other s im i) i) (buffer_has s im i (leads_in l) Service.Receive right) refl)
  blocked_same Service.Input right = kept_empty header_part clock_only (Queue.Input i) (leads_in l) refl
  blocked_same Service.Output right = kept_full header_part clock_only (Queue.Output i) (leads_in l) refl

  other_waits : (u : Service) → (other s im i).0 < s.n → waits_for s m (other s im i) u i ≡ waits_for s im (other s im i) u i
  unfolding waits_for
  other_waits u h = rw (kept_status header_part clock_only refl (other s im i) h, kept_peer header_part clock_only refl (other s im i) h)

  pub wakes_same : (v : Service) → fault_of s im i v ≡ None → wakes s m i v ≡ wakes s im i v
  wakes_same Service.Send right = rw (reg_same 2 (omega arith), other_waits Service.Receive (leb-false s.n _ (error_none _ 5 right)))
  wakes_same Service.Receive right = rw (reg_same 2 (omega arith), other_waits Service.Send (leb-false s.n _ (error_none _ 5 right)))
  wakes_same Service.Input right = refl
  wakes_same Service.Output right = refl
