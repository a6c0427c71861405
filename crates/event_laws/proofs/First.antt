-- Whether the first task keeps its place in the ready queue, as the answer of a tick tells. Assumes nothing.
use Rattle.std.specs.Prelude.{◌≡◌, List, [], ◌∷◌, ◌++◌, Bool, true, false, ◌≢◌, get_or, None, Some}
use Rattle.std.proofs.Math.Path.{refl, ap}
use Rattle.std.proofs.Common.{sym, ◌∙◌, append-nil, true≢false, inl, inr, arith}
use Prim.Native.Nat.{ℕ, suc, ◌<◌}
use borrow.Author.Tests.{ne_eqb}
use Rattle.std.proofs.Math.ListN.{length}
use Rattle.paper.specs.Image.{ord, cell, at, flags, status}
use Rattle.paper.specs.Queues.{count, first, taken, held, empty}
use Rattle.paper.specs.Flags.{is_ready}
use Rattle.paper.specs.Waking.{Answered, woken}
use Rattle.paper.specs.Services.{fault_of, service_faulted, blocked, served, wakes}
use Rattle.paper.specs.Events.{running, tick}
use Rattle.paper.specs.Rules.{Good}
use Rattle.paper.specs.declared.Task.{Task}
use Rattle.paper.specs.declared.Shape.{Shape}
use Rattle.paper.specs.declared.Part.{Part}
use Rattle.paper.specs.declared.Queue.{Queue}
use Rattle.paper.specs.declared.Service.{Service}
use Rattle.laws.specs.Queues.{held_length, taken_held}
use Rattle.laws.specs.Sound.{Sound, sound, has_word}
use Rattle.laws.specs.Checked.{good_sound}
use Rattle.laws.specs.Frame.{Apart, frame_none, frame_put, kept_full, kept_held}
use Rattle.laws.specs.Room.{finds_room}
use Rattle.laws.proofs.Room.{good_roomy}
use Rattle.laws.specs.Changes.{header_part, moved_parts}
use Rattle.event_laws.specs.Own.{own_parts, clock_apart}
use Rattle.event_laws.specs.Turns.{woken_tail, Leads, leads_sound, leads_in, leads_list}
use Rattle.event_laws.specs.Serving.{served_nearly, wakes_whom}
use Rattle.event_laws.specs.Walk.{ServiceCases, Begins}
use Rattle.event_laws.proofs.Walk.{tick_any}
use Rattle.event_laws.proofs.Stays.{begins_leads, served_apart, first_leads, tick_good}
use Rattle.event_laws.specs.Touched.{TickCell}
use Rattle.event_laws.proofs.Touched.{tick_frame}
use Rattle.event_laws.specs.First.{KeepsPlace, stays_first}

-- a queue that holds a word is not empty, and that word is its first
module _ (s : Shape) (im : List ℕ) (x : ℕ) (l : List ℕ) (h : held s im Queue.Ready ≡ x ∷ l) where
  pub held_some : empty s im Queue.Ready ≡ false
  unfolding empty
  held_some =
      let n : length (held s im Queue.Ready) ≡ at s im (count s Queue.Ready) = held_length s im Queue.Ready in
      let e : length (held s im Queue.Ready) ≡ suc (length l) = ap length h in
      ne_eqb (at s im (count s Queue.Ready)) 0 (λ z. omega (arith, n, e, z))

  pub held_first : Sound s im → first s im Queue.Ready ≡ x
  held_first lies =
      let t = taken_held s im Queue.Ready tt (sound lies).laid.words ((sound lies).queues Queue.Ready tt) (has_word s im lies Queue.Ready tt held_some) in
      ap (λ (l : List ℕ). get_or l 0 0) (sym t ∙ h)

pub apart_keeps : {s : Shape} (P : Part → Bool) {im m : List ℕ} → Apart s P im m → P Part.ReadyQueue ≡ false → Sound s im → KeepsPlace s im m
apart_keeps P a f lies = record { joined = []; now = kept_held P a Queue.Ready tt f lies ∙ sym (append-nil _) }

pub woke_keeps : {s : Shape} {im m : List ℕ} → Apart s moved_parts im m → Good s im → Sound s m → (k : Task) → k.0 < s.n → at s im (status k) ≢ is_ready → KeepsPlace s im (woken s m k)
woke_keeps {s} {im} {m} a g h k hk waited =
    let room = finds_room s im (good_roomy g) k hk waited in
    record {
      joined = k.0 ∷ [];
      now = woken_tail s m k hk h (kept_full moved_parts a Queue.Ready tt refl ∙ room) ∙ rw (kept_held moved_parts a Queue.Ready tt refl (good_sound s im g));
    }

module _ {s : Shape} {im : List ℕ} {i : Task} (l : Leads s im i) where
  -- where it keeps its place it is first still
  module _ {m : List ℕ} (k : KeepsPlace s im m) where
    keeps_list : held s m Queue.Ready ≡ i.0 ∷ (held s (taken s im Queue.Ready) Queue.Ready ++ k.joined)
    keeps_list = k.now ∙ rw (leads_list l)

    pub keeps_some : empty s m Queue.Ready ≡ false
    keeps_some = held_some s m _ _ keeps_list

    pub keeps_first : Sound s m → first s m Queue.Ready ≡ i.0
    keeps_first h = held_first s m _ _ keeps_list h

  -- a service that does not wait
  pub faulted_keeps : (e : ℕ) → KeepsPlace s im (service_faulted s im i e)
  unfolding service_faulted
  faulted_keeps e = apart_keeps own_parts (frame_put frame_none (flags i) _ (leads_in l, omega arith) refl) refl (leads_sound l)

  module _ (v : Service) (right : fault_of s im i v ≡ None) (clear : blocked s im i v ≡ false) where
    pub served_keeps : KeepsPlace s im (served s im i v)
    served_keeps = apart_keeps moved_parts (served_apart l v right clear) refl (leads_sound l)

    pub served_woke : (k : Task) → wakes s im i v ≡ Some k → KeepsPlace s im (woken s (served s im i v) k)
    served_woke k one =
        let w = wakes_whom l v right k one in
        woke_keeps (served_apart l v right clear) l.rules (served_nearly l v right clear).lies k w.0 w.1

-- from the image that a service begins from
module _ {s : Shape} {im m : List ℕ} (b : Begins s im m) (lies : Sound s im) where
  pub begins_held : held s m Queue.Ready ≡ held s im Queue.Ready
  begins_held = kept_held header_part (clock_apart b.but_clock) Queue.Ready tt refl lies

  pub begins_keeps : {o : List ℕ} → KeepsPlace s m o → KeepsPlace s im o
  begins_keeps k = record { joined = k.joined; now = k.now ∙ rw begins_held }

module _ (s : Shape) (im : List ℕ) (g : Good s im) where
  -- what a tick comes to leaves the first task its place, where the answer tells so
  abbrev Keeping : Answered → Type 0
  Keeping t = stays_first t.answer ≡ true → KeepsPlace s im t.image

  service_stays : (some : empty s im Queue.Ready ≡ false) (v : Service) (m : List ℕ) → Begins s im m → ServiceCases s m (running s im) v Keeping
  service_stays some v m b =
      let l = begins_leads (first_leads s im g some) b in
      let h = good_sound s im g in
      record {
        faults = λ e f z. begins_keeps b h (faulted_keeps l e);
        stuck = λ _ _ z. absurd (true≢false (sym z));
        alone = λ right clear _ z. begins_keeps b h (served_keeps l v right clear);
        woke = λ k right clear one z. begins_keeps b h (served_woke l v right clear k one);
      }

  tick_keeps : Keeping (tick s im)
  tick_keeps =
      tick_any Keeping
      record {
        idle = λ _ z. absurd (true≢false (sym z));
        stops = λ _ _ z. absurd (true≢false (sym z));
        turns = λ _ _ _ z. absurd (true≢false (sym z));
        serves = λ some _ _ v _. service_stays some v;
        orders = λ _ _ _ _ _ _. record { does = λ _ _ _ z. absurd (true≢false (sym z)); faults = λ _ _ z. absurd (true≢false (sym z)) };
      }

  -- no cell of the segment table is one that a tick changes
  pub off_table : (i j : Task) (r : ℕ) → ¬ TickCell s im i (cell Part.SegmentTable j.0 r)
  off_table i j r (inl t) = true≢false (sym t)
  off_table i j r (inr (inl (p, _))) = absurd (let z : ◌≡◌ {A = ℕ} 8 1 = ap ord p in omega arith)
  off_table i j r (inr (inr (p, _))) = absurd (let z : ◌≡◌ {A = ℕ} 8 9 = ap ord p in omega arith)

  -- so after a tick that tells of a service done or faulted the first task is first still, and the segment table as it was
  pub tick_stays : empty s im Queue.Ready ≡ false → stays_first (tick s im).answer ≡ true
      → (empty s (tick s im).image Queue.Ready ≡ false) × (first s (tick s im).image Queue.Ready ≡ first s im Queue.Ready)
      × ((i : Task) (k : ℕ) → i.0 < s.n → k < 2 → at s (tick s im).image (cell Part.SegmentTable i.0 k) ≡ at s im (cell Part.SegmentTable i.0 k))
  tick_stays some f =
      let l = first_leads s im g some in
      let k = tick_keeps f in
      (keeps_some l k, keeps_first l k (good_sound s _ (tick_good s im g)), λ i r hi hr. (tick_frame s im g).others _ (hi, hr) (off_table (running s im) i r))
