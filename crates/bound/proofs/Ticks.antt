-- What an accepted event does to the ready queue and to what the first task can still use, whatever event comes. Assumes nothing.
use Rattle.std.specs.Prelude.{◌≡◌, false, ◌≢◌, ℕ, ◌<◌, ◌≤◌, Err, Ok}
use Rattle.std.proofs.Math.Path.{refl, sym}
use Rattle.std.proofs.Common.{ap, ◌∙◌, true≢false, inr}
use mathlib.Core.List.{List}
use native.Mathlib.Omega.{arith}
use Rattle.paper.specs.Image.{at, clock, flags, status}
use Rattle.paper.specs.Queues.{empty}
use Rattle.paper.specs.Flags.{error, is_ready}
use Rattle.paper.specs.Waking.{Outcome, woken}
use Rattle.paper.specs.Machines.{Machine, own}
use Rattle.paper.specs.Orders.{after, order, after_order}
use Rattle.paper.specs.Events.{event_of, running, tick, input, output_done, happening}
use Rattle.paper.specs.Rules.{Good}
use Rattle.paper.specs.Numbers.{kind}
use Rattle.paper.specs.declared.Task.{Task}
use Rattle.paper.specs.declared.Shape.{Shape}
use Rattle.paper.specs.declared.Queue.{Queue}
use Rattle.paper.specs.declared.Service.{Service}
use Rattle.paper.specs.declared.Event.{Event}
use Rattle.paper.specs.declared.Answer.{Answer}
use Rattle.laws.specs.Sound.{Sound, sound}
use Rattle.laws.specs.Effects.{error_after}
use Rattle.laws.specs.Orders.{own_flags}
use Rattle.laws.specs.Agree.{own_after}
use Rattle.laws.specs.Events.{Formed, event_formed}
use Rattle.laws.specs.Frame.{Apart, kept, kept_clock}
use Rattle.laws.specs.Room.{waits_not}
use Rattle.laws.specs.Changes.{header_part, moved_parts}
use Rattle.event_laws.specs.Own.{own_picked, clock_apart}
use Rattle.event_laws.specs.Turns.{Leads, leads_sound, leads_in}
use Rattle.event_laws.specs.Walk.{Spends, input_any, done_any, event_any}
use Rattle.event_laws.proofs.Walk.{tick_any}
use Rattle.event_laws.proofs.Stays.{stopped_is, order_frame, order_clock, first_leads, input_apart, next_apart}
use Rattle.event_laws.specs.Touched.{event_parts}
use Rattle.event_laws.proofs.First.{apart_keeps, woke_keeps}
use Rattle.bound.specs.Bound.{tick_count}
use Rattle.bound.specs.Line.{input_sound, next_sound, input_frame, done_frame}
use Rattle.bound.specs.Ticks.{Stays, Step, TickStep, order_parts, uses, uses_count, woke_clock, left_leaves, turned_leaves, service_steps}

-- an event on a good image, its ready queue not empty; i is the first task
module _ (s : Shape) (im : List ℕ) (g : Good s im) (some : empty s im Queue.Ready ≡ false) where
  abbrev i : Task
  i = running s im

  l : Leads s im i
  l = first_leads s im g some

  -- rule 5
  ordered_stays : at s im clock ≢ 0 → {m : List ℕ} → Spends s im i m → Stays s im m 1
  ordered_stays runs b =
      (apart_keeps order_parts (order_frame l b (λ c own. rw (own_picked s im i c own)) refl) refl (leads_sound l), omega (arith, runs, order_clock l b))

  ordered_error : error s im i ≡ 0 → {m : List ℕ} → Spends s im i m → (e : ℕ) → order s im i ≡ Err e → error s m i ≢ 0
  ordered_error calm {m} b e f z =
      let n = after_order s im i (order s im i) in
      let kept_flags : at s m (flags i) ≡ at s n (flags i) = kept header_part (clock_apart b.but_clock) (flags i) (leads_in l, omega arith) refl in
      let written : at s n (flags i) ≡ (after (own s im i) (order s im i)).flags =
      own_flags s n i ∙ ap (λ (x : Machine). x.flags) (own_after s im i (leads_in l) (sound (leads_sound l)).laid (order s im i)) in
      error_after (own s im i) (rw (own_flags s im i) at calm) e f (rw (kept_flags, written) at z)

  -- a tick uses one
  tick_steps : TickStep s im (tick s im)
  tick_steps =
      tick_any (TickStep s im)
      record {
        idle = λ none. absurd (true≢false (sym none ∙ some));
        stops = λ _ _. Step.stops (rw (stopped_is l) (left_leaves l _ _));
        turns = λ _ calm z. Step.passes calm z (turned_leaves l);
        serves = λ _ calm runs v _ m b. service_steps s im g some calm runs v m b;
        orders = λ _ calm runs _ m b.
            record {
              does = λ _ _ _. Step.does calm (inr refl) refl (ordered_stays runs b);
              faults = λ e f. Step.faults calm (inr refl) refl (ordered_stays runs b) (ordered_error calm b e f);
            };
      }

  -- device events use none: the first task keeps its place, the clock and its flags
  module _ (j : Task) (hj : j.0 < s.n) where
    alone_stays : {m : List ℕ} → Apart s moved_parts im m → Stays s im m 0
    alone_stays a = (apart_keeps moved_parts a refl (leads_sound l), omega (arith, kept_clock moved_parts a refl))

    woke_stays : {m : List ℕ} → Apart s moved_parts im m → Sound s m → at s im (status j) ≢ is_ready → Stays s im (woken s m j) 0
    woke_stays a h waited = (woke_keeps a g h j hj waited, omega (arith, woke_clock a h j hj some))

    device_steps : {m : List ℕ} {a : Answer} → 8 ≤ kind a → Stays s im m 0 → Apart s event_parts im m → Step s im 0 (Ok a) m
    device_steps d k u = Step.device d k (rw (kept event_parts u (flags i) (leads_in l, omega arith) refl))

    -- an outcome that changes no word of a task's
    abbrev StepApart : Outcome → Type 0
    StepApart o = Apart s event_parts im o.image → Step s im 0 o.reply o.image

    input_steps : (c : ℕ) → Step s im 0 (input s im j c).reply (input s im j c).image
    input_steps c =
        input_any s im j StepApart c (λ _ _. Step.refused _) (λ _ _. device_steps (omega arith) (alone_stays (input_apart s im g j hj c)))
        (λ clear w. device_steps (omega arith) (woke_stays (input_apart s im g j hj c) (input_sound s im g j hj c clear) (λ z. waits_not Service.Input (sym z ∙ w))))
        (input_frame s im g j hj c)

    output_steps : Step s im 0 (output_done s im j).reply (output_done s im j).image
    output_steps =
        done_any s im j StepApart (λ _ _. Step.refused _) (λ _ _. device_steps (omega arith) (alone_stays (next_apart s im g j hj)))
        (λ _ w. device_steps (omega arith) (woke_stays (next_apart s im g j hj) (next_sound s im g j hj) (λ z. waits_not Service.Output (sym z ∙ w))))
        (done_frame s im g j hj)

  -- whatever event comes
  steps : (e : Event) → Formed s e → Step s im (uses e) (happening s im e).reply (happening s im e).image
  unfolding Formed
  steps =
      event_any s im (λ e o. Formed s e → Step s im (uses e) o.reply o.image) (λ _. tick_steps) (λ i c f. input_steps i f.0 c) output_steps
      (λ _. Step.refused _)

  pub event_steps : (k d c : ℕ) → Step s im (tick_count k d c) (happening s im (event_of s k d c)).reply (happening s im (event_of s k d c)).image
  event_steps k d c = rw (uses_count s k d c) (steps (event_of s k d c) (event_formed s k d c))
