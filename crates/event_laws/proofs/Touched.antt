-- Which cells a tick changes: of the task table and the segments those of the first task alone, of the segment table none. Assumes nothing.
use Rattle.std.specs.Prelude.{◌≡◌, refl, List, ℕ, ◌<◌, None}
use Rattle.std.proofs.Common.{ap, arith}
use Rattle.std.proofs.Math.Bool.{false}
use Rattle.std.proofs.Math.Logic.{inl, inr}
use Rattle.paper.specs.Image.{flags}
use Rattle.paper.specs.Flags.{waits}
use Rattle.paper.specs.Services.{fault_of, service_faulted, blocked, awaited, waiting, served}
use Rattle.paper.specs.Events.{running, tick}
use Rattle.paper.specs.Rules.{Good}
use Rattle.paper.specs.declared.Task.{Task}
use Rattle.paper.specs.declared.Shape.{Shape}
use Rattle.paper.specs.declared.Cell.{Cell}
use Rattle.paper.specs.declared.Service.{Service}
use Rattle.laws.specs.Frame.{Frame, frame_none, frame_more, frame_put}
use Rattle.laws.specs.Changes.{status_sound, frame_status, frame_left, frame_woken, frame_served}
use Rattle.event_laws.specs.Turns.{Leads, leads_sound, leads_in, turned_frame}
use Rattle.event_laws.specs.Serving.{served_nearly, wakes_whom}
use Rattle.event_laws.specs.Walk.{ServiceCases, Begins}
use Rattle.event_laws.proofs.Walk.{tick_any}
use Rattle.event_laws.proofs.Stays.{begins_leads, stopped_is, order_frame, first_leads}
use Rattle.event_laws.specs.Touched.{event_parts, TickCell}

module _ {s : Shape} {im m : List ℕ} {i : Task} (l : Leads s m i) (b : Begins s im m) where
  hi : i.0 < s.n
  hi = leads_in l

  begun : Frame s (TickCell s im i) im m
  begun = frame_more b.but_clock (λ c e. inl (ap (λ (x : Cell). event_parts x.part) e))

  service_frame : (v : Service) → ServiceCases s m i v (λ o. Frame s (TickCell s im i) im o.image)
  unfolding service_faulted waiting
  service_frame v =
      record {
        faults = λ e f. frame_put begun (flags i) _ (hi, omega arith) (inr (inl (refl, refl)));
        stuck = λ right stuck.
            frame_left (frame_status begun i hi _ _ (λ r. inl refl)) (status_sound s m i hi (leads_sound l) (waits v) (awaited s m i v)) (λ r. inl refl) (inl refl);
        alone = λ right clear none. moves right clear;
        woke = λ k right clear one.
            frame_woken (moves right clear) (served_nearly l v right clear).lies (λ r. inl refl) (inl refl) k (wakes_whom l v right k one).0 (λ r. inl refl);
      }
    where
      moves : fault_of s m i v ≡ None → blocked s m i v ≡ false → Frame s (TickCell s im i) im (served s m i v)
      moves right clear = frame_served begun (leads_sound l) i hi (λ c t. inl (rw t)) (λ r. inr (inl (refl, refl))) v right clear

module _ (s : Shape) (im : List ℕ) (g : Good s im) where
  pub tick_frame : Frame s (TickCell s im (running s im)) im (tick s im).image
  tick_frame =
      tick_any (λ o. Frame s (TickCell s im (running s im)) im o.image)
      record {
        idle = λ _. frame_none;
        stops = λ some _.
            let l = first_leads s im g some in
            rw (stopped_is l)
            (frame_left (frame_status frame_none (running s im) (leads_in l) _ _ (λ r. inl refl)) (status_sound s im (running s im) (leads_in l) (leads_sound l) _ _) (λ r. inl refl) (inl refl));
        turns = λ some _ _. turned_frame (first_leads s im g some) (λ r. inl refl) (inl refl);
        serves = λ some _ _ v _ m b. service_frame (begins_leads (first_leads s im g some) b) b v;
        orders = λ some _ _ _ m b.
            let k : Frame s (TickCell s im (running s im)) im m = order_frame (first_leads s im g some) b (λ c own. inr own) (inl refl) in
            record { does = λ _ _ _. k; faults = λ _ _. k };
      }
