-- A good image stays good, whatever event comes. Assumes nothing.
use Rattle.std.proofs.Math.Path.{◌≡◌, ap}
use Rattle.std.specs.Prelude.{refl, List, false, ◌≢◌, ℕ, ◌-◌, ◌<◌, ◌≤◌, None, Option, Some}
use Rattle.std.proofs.Common.{sym, subst, ◌∙◌, arith}
use Rattle.paper.specs.Image.{most_character, at, put, clock, flags, status, peer}
use Rattle.paper.specs.Queues.{appended, empty, full}
use Rattle.paper.specs.Flags.{error, pending, is_ready, waits, is_stopped}
use Rattle.paper.specs.Waking.{with_status, woken, left}
use Rattle.paper.specs.Services.{fault_of, blocked, served}
use Rattle.paper.specs.Orders.{order, after_order}
use Rattle.paper.specs.Events.{event_of, running, stopped, tick, input, port_next, output_done, happening}
use Rattle.paper.specs.Numbers.{answer_task}
use Rattle.paper.specs.Rules.{Good}
use Rattle.paper.specs.declared.Task.{Task}
use Rattle.paper.specs.declared.Shape.{Shape}
use Rattle.paper.specs.declared.Cell.{Cell}
use Rattle.paper.specs.declared.Queue.{Queue}
use Rattle.paper.specs.declared.Service.{Service}
use Rattle.paper.specs.declared.Event.{Event}
use Rattle.laws.specs.Cells.{at_other, put_held}
use Rattle.laws.specs.Sound.{sound}
use Rattle.laws.specs.Checked.{good_sound}
use Rattle.laws.specs.Events.{Formed, event_formed}
use Rattle.laws.specs.Frame.{Frame, Apart, frame_none, frame_more, frame_then, frame_appended, kept, kept_status, kept_empty, kept_first}
use Rattle.laws.specs.Room.{waits_not, waits_on}
use Rattle.laws.specs.Changes.{header_part, moved_parts, small_error, status_is, peer_is, frame_next, frame_served}
use Rattle.laws.specs.Orders.{OwnCell, Keeps, order_keeps, not_own, keeps_sound, order_flagged}
use Rattle.event_laws.specs.Standing.{make_stands}
use Rattle.event_laws.specs.Kept.{Spared, Nearly, good_nearly, nearly_good}
use Rattle.event_laws.specs.Own.{own_nearly, clock_apart, clock_nearly}
use Rattle.event_laws.specs.Turns.{status_part, entry_apart, woken_nearly, Leads, leads_sound, leads_in, leads_ready, leads_peer, left_good, turned_good}
use Rattle.event_laws.specs.Moving.{free_input, free_output, append_nearly, appended_chars, next_nearly}
use Rattle.event_laws.specs.Serving.{faulted_good, waiting_good, served_nearly, wakes_whom}
use Rattle.event_laws.specs.Walk.{asked_nothing, ServiceCases, Begins, Spends, input_any, done_any, event_any}
use Rattle.event_laws.proofs.Walk.{tick_any}

-- an image good but for a task that waits, with that task woken
module _ {s : Shape} {im m : List ℕ} (a : Apart s moved_parts im m) (k : Task) (hk : k.0 < s.n) (waited : at s im (status k) ≢ is_ready) where
  woke_good : Nearly s m (Some k) → Good s (woken s m k)
  woke_good h = nearly_good (woken_nearly k hk h (λ z. waited (sym (kept_status moved_parts a refl k hk) ∙ z)))

module _ {s : Shape} {im : List ℕ} {i : Task} (l : Leads s im i) where
  hi : i.0 < s.n
  hi = leads_in l

  -- the image that a service begins from
  pub begins_leads : {m : List ℕ} → Begins s im m → Leads s m i
  begins_leads {m} b =
      let a = clock_apart b.but_clock in
      let c = b.clock_is (leads_sound l) in
      let g = l.rules in
      record {
        rules = nearly_good (clock_nearly b.but_clock (good_nearly g) (omega (arith, g.clock_range)) (λ e. omega (arith, g.clock_idle e)));
        some = kept_empty header_part a Queue.Ready tt refl ∙ l.some;
        named = kept_first header_part a Queue.Ready tt refl (leads_sound l) ∙ l.named;
      }

  pub begins_pending : {m : List ℕ} → Begins s im m → pending s m i ≡ pending s im i
  begins_pending b = rw (kept header_part (clock_apart b.but_clock) (flags i) (hi, omega arith) refl)

  -- what a service leaves
  pub served_apart : (v : Service) → fault_of s im i v ≡ None → blocked s im i v ≡ false → Apart s moved_parts im (served s im i v)
  served_apart v right clear = frame_served frame_none (leads_sound l) i hi (λ c t. rw t) (λ r. refl) v right clear

  service_good : (v : Service) → pending s im i ≡ waits v → ServiceCases s im i v (λ o. Good s o.image)
  service_good v asks =
      record {
        faults = λ e f. faulted_good l e (small_error s im i v e f).1;
        stuck = waiting_good l v asks;
        alone = λ right clear none. nearly_good (rw none at (served_nearly l v right clear));
        woke = λ k right clear one.
            let w = wakes_whom l v right k one in
            woke_good (served_apart v right clear) k w.0 w.1 (rw one at (served_nearly l v right clear));
      }

  -- rule 2: stopped by an error
  pub stopped_is : stopped s im i ≡ left s (with_status s im i is_stopped 0)
  unfolding stopped with_status
  stopped_is =
      let m = put s im (status i) is_stopped in
      let e : at s m (peer i) ≡ 0 = at_other s im (status i) (peer i) is_stopped (hi, omega arith) (hi, omega arith)
      (λ z. absurd (let y : ◌≡◌ {A = ℕ} 1 0 = ap (λ (c : Cell). c.column) z in omega arith)) ∙ leads_peer l in
      ap (left s) (sym (put_held s m (peer i) 0 e))

  stopped_good : error s im i ≢ 0 → Good s (stopped s im i)
  stopped_good ne =
      let st = status_is s im i hi (leads_sound l) is_stopped 0 in
      let f = kept status_part (entry_apart s im i hi (leads_sound l) is_stopped 0) (flags i) (hi, omega arith) refl in
      rw stopped_is
      (left_good l is_stopped 0 (λ z. absurd (let y : ◌≡◌ {A = ℕ} 5 0 = z in omega arith))
      (make_stands s _ i (rw st (omega arith)) (λ v e. absurd (waits_on v (sym st ∙ e))) (λ _. rw f ne) (λ _ _. peer_is s im i hi (leads_sound l) is_stopped 0)))

  -- rule 5: one order, which changes the task's own words, and the clock, which falls by 1
  own_alone : Keeps s im i (after_order s im i (order s im i))
  own_alone = order_keeps s im i hi (sound (leads_sound l)).laid

  module _ {m : List ℕ} (b : Spends s im i m) where
    pub order_frame : {E : Cell → Type 0} → ((c : Cell) → OwnCell s im i c → E c) → E clock → Frame s E im m
    order_frame {E} own time = frame_then (frame_more own_alone own) (frame_more b.but_clock (λ c e. subst E (sym e) time))

    pub order_clock : at s m clock ≡ at s im clock - 1
    order_clock = b.clock_is (keeps_sound s im i _ (leads_sound l) own_alone) ∙ rw (own_alone.others clock (omega arith, omega arith) (not_own s im i clock tt tt))

    ordered_good : error s im i ≡ 0 → pending s im i ≡ 0 → Good s m
    ordered_good calm idle =
        let h = own_nearly (good_nearly l.rules) i hi (leads_ready l) (leads_peer l) own_alone (order_flagged s im i hi (leads_sound l) (l.rules.flags i hi) calm idle) in
        nearly_good (clock_nearly b.but_clock h (omega (arith, order_clock, l.rules.clock_range)) (λ e. omega (arith, b.clock_is h.lies, h.clocked.1 e)))

module _ (s : Shape) (im : List ℕ) (g : Good s im) where
  -- the first task
  pub first_leads : empty s im Queue.Ready ≡ false → Leads s im (running s im)
  first_leads some = record { rules = g; some = some; named = refl }

  pub first_task : empty s im Queue.Ready ≡ false → (running s im).0 < s.n
  first_task some = leads_in (first_leads some)

  -- the task that a tick's answer names is one of the image
  pub tick_names : answer_task (tick s im).answer < s.n
  tick_names =
      tick_any (λ t. answer_task t.answer < s.n)
      record {
        idle = λ _. omega (arith, g.laid.fit.tasks);
        stops = λ some _. first_task some;
        turns = λ some _ _. first_task some;
        serves = λ some _ _ _ _ _ _.
            let hi = first_task some in
            record { faults = λ _ _. hi; stuck = λ _ _. hi; alone = λ _ _ _. hi; woke = λ _ _ _ _. hi };
        orders = λ some _ _ _ _ _. record { does = λ _ _ _. first_task some; faults = λ _ _. first_task some };
      }

  pub tick_good : Good s (tick s im).image
  tick_good =
      tick_any (λ o. Good s o.image)
      record {
        idle = λ _. g;
        stops = λ some. stopped_good (first_leads some);
        turns = λ some _ _. turned_good (first_leads some);
        serves = λ some _ _ v asks m b. service_good (begins_leads (first_leads some) b) v (begins_pending (first_leads some) b ∙ asks);
        orders = λ some calm runs none m b.
            let still = ordered_good (first_leads some) b calm (asked_nothing _ (g.flags (running s im) (first_task some)).pending_range none) in
            record { does = λ _ _ _. still; faults = λ _ _. still };
      }

  -- device events
  module _ (i : Task) (hi : i.0 < s.n) where
    pub input_apart : (c : ℕ) → Apart s moved_parts im (appended s im (Queue.Input i) c)
    input_apart c = frame_appended frame_none (Queue.Input i) hi (good_sound s im g) (λ r. refl) c

    input_nearly : (c : ℕ) → c ≤ most_character → full s im (Queue.Input i) ≡ false → (w : Option Task) → (at s im (status i) ≡ waits Service.Input → Spared w i)
        → Nearly s (appended s im (Queue.Input i) c) w
    input_nearly c low clear w sp =
        append_nearly (good_nearly g) (Queue.Input i) hi refl w (free_input s im i w sp) c clear
        (appended_chars s im (good_sound s im g) (Queue.Input i) hi c clear (g.inputs_held i hi) low)

    input_good : (c : ℕ) → c ≤ most_character → Good s (input s im i c).image
    input_good c low =
        input_any s im i (λ o. Good s o.image) c (λ _. g) (λ clear ne. nearly_good (input_nearly c low clear None ne))
        (λ clear waiting. woke_good (input_apart c) i hi (λ z. waits_not Service.Input (sym z ∙ waiting)) (input_nearly c low clear (Some i) (λ _. refl)))

    pub next_apart : Apart s moved_parts im (port_next s im i)
    next_apart = frame_next frame_none (good_sound s im g) i hi (λ r. refl) (λ r. refl)

    pub next_owner : (w : Option Task) → (at s im (status i) ≡ waits Service.Output → Spared w i) → Nearly s (port_next s im i) w
    next_owner w sp = next_nearly (good_nearly g) i hi w (free_output s im i w sp)

    output_done_good : Good s (output_done s im i).image
    output_done_good =
        done_any s im i (λ o. Good s o.image) (λ _. g) (λ _ ne. nearly_good (next_owner None ne))
        (λ _ waiting. woke_good next_apart i hi (λ z. waits_not Service.Output (sym z ∙ waiting)) (next_owner (Some i) (λ _. refl)))

-- whatever event comes, a good image stays good
pub happening_good : (s : Shape) (im : List ℕ) → Good s im → (e : Event) → Formed s e → Good s (happening s im e).image
unfolding Formed
happening_good s im g =
    event_any s im (λ e o. Formed s e → Good s o.image) (λ _. tick_good s im g) (λ i c f. input_good s im g i f.0 c f.1) (output_done_good s im g) (λ _. g)

-- so whatever three words come, a good image stays good
pub words_good : (s : Shape) (im : List ℕ) → Good s im → (k d c : ℕ) → Good s (happening s im (event_of s k d c)).image
words_good s im g k d c = happening_good s im g (event_of s k d c) (event_formed s k d c)
