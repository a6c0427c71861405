-- What becomes of a service that the first task asks for and that is not wrong: it waits where its buffer stops it, and else it is done. Assumes nothing.
use Rattle.std.specs.Prelude.{◌≡◌, List, ◌∷◌, true, false, ◌≢◌, ℕ, ◌<◌, None, Some}
use Rattle.std.proofs.Math.Path.{refl, sym, ap}
use Rattle.std.proofs.Common.{◌∙◌, true≢false, arith}
use Rattle.std.proofs.Math.Logic.{dite}
use Rattle.std.proofs.Math.Decide.{ℕ_discrete}
use Rattle.paper.specs.Image.{at, clock, reg, status, peer}
use Rattle.paper.specs.Queues.{held, empty}
use Rattle.paper.specs.Flags.{error, pending, waits}
use Rattle.paper.specs.Services.{fault_of, blocked, awaited, waiting}
use Rattle.paper.specs.Events.{running, tick}
use Rattle.paper.specs.Rules.{Good}
use Rattle.paper.specs.declared.Task.{Task}
use Rattle.paper.specs.declared.Shape.{Shape}
use Rattle.paper.specs.declared.Cell.{Cell}
use Rattle.paper.specs.declared.Queue.{Queue}
use Rattle.paper.specs.declared.Service.{Service}
use Rattle.paper.specs.declared.Answer.{Answer}
use Rattle.laws.specs.Frame.{Apart, frame_more, kept, kept_status, kept_peer}
use Rattle.laws.specs.Changes.{dispatch_parts, turn_parts, status_is, peer_is, status_sound, frame_status, frame_left}
use Rattle.laws.specs.Room.{waits_not}
use Rattle.event_laws.specs.Turns.{Leads, leads_sound, leads_in, left_list, left_late}
use Rattle.event_laws.specs.Walk.{Begins}
use Rattle.event_laws.proofs.Walk.{serves_any}
use Rattle.event_laws.proofs.Stays.{begins_leads, first_leads, first_task}
use Rattle.event_laws.proofs.First.{begins_held}
use Rattle.event_laws.specs.Begun.{reg_same, fault_same, blocked_same}

-- task i has begun to wait with service v, which made im into m: its status and peer say so, it has left the ready queue,
-- and no register and no flags of any task have changed
pub record BeginsToWait (s : Shape) (im : List ℕ) (i : Task) (v : Service) (m : List ℕ) : Type 0 where
  pub status_set : at s m (status i) ≡ waits v
  pub peer_set : at s m (peer i) ≡ awaited s im i v
  pub left : held s im Queue.Ready ≡ i.0 ∷ held s m Queue.Ready
  pub untouched : (j : Task) (r : ℕ) → j.0 < s.n → r < 9 → at s m (reg j r) ≡ at s im (reg j r)

module _ {s : Shape} {im m : List ℕ} {i : Task} (l : Leads s im i) (b : Begins s im m) where
  here : Leads s m i
  here = begins_leads l b

  awaited_same : (v : Service) → awaited s m i v ≡ awaited s im i v
  awaited_same Service.Send = reg_same l b 2 (omega arith)
  awaited_same Service.Receive = reg_same l b 2 (omega arith)
  awaited_same Service.Input = refl
  awaited_same Service.Output = refl

  waited : (v : Service) → BeginsToWait s im i v (waiting s m i v)
  unfolding waiting
  waited v =
      let hi = leads_in l in
      let late = left_late here (waits v) (awaited s m i v) in
      let begun : Apart s turn_parts im m = frame_more b.but_clock (λ c e. ap (λ (x : Cell). turn_parts x.part) e) in
      let turn = frame_left (frame_status begun i hi (waits v) (awaited s m i v) (λ r. refl)) (status_sound s m i hi (leads_sound here) _ _) (λ r. refl) refl in
      record {
        status_set = kept_status dispatch_parts late refl i hi ∙ status_is s m i hi (leads_sound here) _ _;
        peer_set = kept_peer dispatch_parts late refl i hi ∙ peer_is s m i hi (leads_sound here) _ _ ∙ awaited_same v;
        left = sym (begins_held b (leads_sound l)) ∙ left_list here (waits v) (awaited s m i v);
        untouched = λ j r hj hr. kept turn_parts turn (reg j r) (hj, hr) refl;
      }

-- a tick of a good image whose first task has a service pending that is not wrong, the clock not 0
module _ (s : Shape) (im : List ℕ) (g : Good s im) (some : empty s im Queue.Ready ≡ false) (runs : at s im clock ≢ 0) (v : Service)
    (asks : pending s im (running s im) ≡ waits v) (right : fault_of s im (running s im) v ≡ None) where
  l : Leads s im (running s im)
  l = first_leads s im g some

  calm : error s im (running s im) ≡ 0
  calm =
      dite (ℕ_discrete (error s im (running s im)) 0) (λ e. e) (λ ne. absurd (waits_not v (sym ((g.flags (running s im) (first_task s im g some)).never_both ne) ∙ asks)))

  not_wrong : {m : List ℕ} → Begins s im m → (e : ℕ) → fault_of s m (running s im) v ≢ Some e
  not_wrong b e wrong = let n = fault_same l b v ∙ right in let z : ◌≡◌ {A = ℕ} 0 1 = cc in omega arith

  -- it waits where its buffer stops it
  pub asked_waits : blocked s im (running s im) v ≡ true → ((tick s im).answer ≡ Answer.ServiceWaits (running s im)) × BeginsToWait s im (running s im) v (tick s im).image
  asked_waits stuck =
      serves_any s im some calm runs v asks (λ t. (t.answer ≡ Answer.ServiceWaits (running s im)) × BeginsToWait s im (running s im) v t.image) (λ m b.
      let same = blocked_same l b v right in
      record {
        faults = λ e wrong. absurd (not_wrong b e wrong);
        stuck = λ _ _. (refl, waited l b v);
        alone = λ _ free _. absurd (true≢false (sym stuck ∙ sym same ∙ free));
        woke = λ _ _ free _. absurd (true≢false (sym stuck ∙ sym same ∙ free));
      })

  -- and else it is done
  pub asked_done : blocked s im (running s im) v ≡ false → (tick s im).answer ≡ Answer.ServiceDone (running s im)
  asked_done clear =
      serves_any s im some calm runs v asks (λ t. t.answer ≡ Answer.ServiceDone (running s im)) (λ m b.
      record {
        faults = λ e wrong. absurd (not_wrong b e wrong);
        stuck = λ _ stuck. absurd (true≢false (sym stuck ∙ blocked_same l b v right ∙ clear));
        alone = λ _ _ _. refl;
        woke = λ _ _ _ _. refl;
      })
