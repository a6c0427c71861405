-- Request 2: call by call the first task keeps its place and uses up the clock, till it stops, passes its turn or waits. Assumes nothing.
use Rattle.std.specs.Prelude.{Result}
use mathlib.Core.Path.{◌≡◌, refl, sym, ◌∙◌}
use mathlib.Core.List.{List, [], ◌∷◌, ◌++◌, append-nil}
use mathlib.Core.Bool.{false}
use mathlib.Core.Logic.{◌≢◌, ◌⊎◌, inl, inr, ⊎_elim, dite}
use Prim.Native.Nat.{ℕ, zero, suc, ◌+◌, ◌<◌, ◌≤◌}
use native.Mathlib.Decide.{ℕ_discrete}
use native.Mathlib.Omega.{arith}
use Rattle.paper.specs.Image.{shape_of, at, clock}
use Rattle.paper.specs.Queues.{first, taken, held, empty}
use Rattle.paper.specs.Flags.{error}
use Rattle.paper.specs.Waking.{Outcome, accepting}
use Rattle.paper.specs.Events.{event_of, running, turned, happening}
use Rattle.paper.specs.Rules.{Good}
use Rattle.paper.specs.Numbers.{kind, reply_values}
use Rattle.paper.specs.Promises.{Checks, Happens}
use Rattle.paper.specs.declared.Task.{Task}
use Rattle.paper.specs.declared.Shape.{Shape}
use Rattle.paper.specs.declared.Queue.{Queue}
use Rattle.paper.specs.declared.Event.{Event}
use Rattle.laws.specs.Checked.{good_sound, check_zero}
use Rattle.event_laws.specs.Turns.{Leads, turned_list, turned_clock}
use Rattle.event_laws.specs.Walk.{input_any, done_any, event_any}
use Rattle.event_laws.proofs.Walk.{tick_any}
use Rattle.event_laws.proofs.Stays.{first_leads}
use Rattle.event_laws.proofs.First.{held_some, keeps_some, keeps_first}
use Rattle.user_laws.specs.Folded.{event_is}
use Rattle.user_laws.proofs.Balance.{calls_good}
use Rattle.bound.specs.Bound.{IsFirst, tick_count, if_accepted}
use Rattle.bound.specs.Ticks.{Stays, Step}
use Rattle.bound.proofs.Ticks.{event_steps}
use Rattle.demands.specs.Demands.{word_of, Tells, Calls, ticks_in, Quiet, Undisturbed, IsTick, Answered, UsesClock, UsesSlice, Request2}
use Rattle.paper.specs.declared.Answer.{Answer}
use Rattle.paper.specs.declared.Refusal.{Refusal}

-- kind k is that of a service or an order, done, or faulted, and then there is an error
abbrev DoneOrFaulted : Shape → List ℕ → Task → ℕ → Type 0
DoneOrFaulted s m i k = ((k ≡ 3) ⊎ (k ≡ 6)) ⊎ (((k ≡ 5) ⊎ (k ≡ 7)) × (error s m i ≢ 0))

kind_range : (s : Shape) (m : List ℕ) (i : Task) (k : ℕ) → DoneOrFaulted s m i k → (3 ≤ k) × (k ≤ 7)
kind_range s m i k (inl (inl e)) = (omega arith, omega arith)
kind_range s m i k (inl (inr e)) = (omega arith, omega arith)
kind_range s m i k (inr (inl e, _)) = (omega arith, omega arith)
kind_range s m i k (inr (inr e, _)) = (omega arith, omega arith)

-- what a step tells by its reply
module _ {s : Shape} {im : List ℕ} where
  quiet_stays : {m : List ℕ} {used : ℕ} {r : Result Answer Refusal} → Step s im used r m → Quiet r → Stays s im m (if_accepted r used)
  quiet_stays (Step.stops _) q = absurd (q.0 refl)
  quiet_stays (Step.passes _ _ _) q = absurd (q.1 refl)
  quiet_stays (Step.waits _ _ _) q = absurd (q.2 refl)
  quiet_stays (Step.does _ _ _ v) q = v
  quiet_stays (Step.faults _ _ _ v _) q = v
  quiet_stays (Step.device _ v _) q = v
  quiet_stays (Step.refused _) q = (record { joined = []; now = sym (append-nil _) }, omega arith)

  quiet_tick : {m : List ℕ} {used : ℕ} {r : Result Answer Refusal} → Step s im used r m → Quiet r → if_accepted r used ≡ 1
      → (k : ℕ) × (reply_values r ≡ k ∷ first s im Queue.Ready ∷ []) × DoneOrFaulted s m (running s im) k
  quiet_tick (Step.stops _) q t = absurd (q.0 refl)
  quiet_tick (Step.passes _ _ _) q t = absurd (q.1 refl)
  quiet_tick (Step.waits _ _ _) q t = absurd (q.2 refl)
  quiet_tick (Step.does {a = a} _ k e _) q t = (kind a, rw e, inl k)
  quiet_tick (Step.faults {a = a} _ k e _ w) q t = (kind a, rw e, inr (k, w))
  quiet_tick (Step.device _ _ _) q t = absurd (omega (arith, t))
  quiet_tick (Step.refused _) q t = absurd (omega (arith, t))

  -- a passed turn
  passes_told : {m : List ℕ} {used : ℕ} {r : Result Answer Refusal} → Step s im used r m → Tells r 2 → (error s im (running s im) ≡ 0) × (at s im clock ≡ 0) × (reply_values r ≡ 2 ∷ first s im Queue.Ready ∷ [])
  passes_told (Step.stops _) t = absurd (omega (arith, t))
  passes_told (Step.passes calm z _) t = (calm, z, refl)
  passes_told (Step.waits _ _ _) t = absurd (omega (arith, t))
  passes_told (Step.does _ k _ _) t = absurd (⊎_elim (λ e. omega (arith, e, t)) (λ e. omega (arith, e, t)) k)
  passes_told (Step.faults _ k _ _ _) t = absurd (⊎_elim (λ e. omega (arith, e, t)) (λ e. omega (arith, e, t)) k)
  passes_told (Step.device d _ _) t = absurd (omega (arith, d, t))
  passes_told (Step.refused _) t = absurd t

  -- a wait
  waits_told : {m : List ℕ} {used : ℕ} {r : Result Answer Refusal} → Step s im used r m → Tells r 4 → (if_accepted r used ≡ 1) × (at s im clock ≢ 0) × (reply_values r ≡ 4 ∷ first s im Queue.Ready ∷ [])
  waits_told (Step.stops _) t = absurd (omega (arith, t))
  waits_told (Step.passes _ _ _) t = absurd (omega (arith, t))
  waits_told (Step.waits _ runs _) t = (refl, runs, refl)
  waits_told (Step.does _ k _ _) t = absurd (⊎_elim (λ e. omega (arith, e, t)) (λ e. omega (arith, e, t)) k)
  waits_told (Step.faults _ k _ _ _) t = absurd (⊎_elim (λ e. omega (arith, e, t)) (λ e. omega (arith, e, t)) k)
  waits_told (Step.device d _ _) t = absurd (omega (arith, d, t))
  waits_told (Step.refused _) t = absurd t

  -- an error stays till the error stop
  error_stays : {m : List ℕ} {used : ℕ} {r : Result Answer Refusal} → Step s im used r m → error s im (running s im) ≢ 0 → ¬ Tells r 1 → error s m (running s im) ≢ 0
  error_stays (Step.stops _) ne n = absurd (n refl)
  error_stays (Step.passes calm _ _) ne n = absurd (ne calm)
  error_stays (Step.waits calm _ _) ne n = absurd (ne calm)
  error_stays (Step.does calm _ _ _) ne n = absurd (ne calm)
  error_stays (Step.faults calm _ _ _ _) ne n = absurd (ne calm)
  error_stays (Step.device _ _ kept) ne n = rw kept ne
  error_stays (Step.refused _) ne n = ne

-- after a passed turn a task is first, with a whole slice
module _ (s : Shape) (im : List ℕ) (g : Good s im) where
  abbrev Anew : Outcome → Type 0
  Anew o = Tells o.reply 2 → (empty s o.image Queue.Ready ≡ false) × (at s o.image clock ≡ s.slice)

  turned_some : (i : Task) → Leads s im i → empty s (turned s im i) Queue.Ready ≡ false
  turned_some i l = go (held s (taken s im Queue.Ready) Queue.Ready) refl
    where
      go : (rest : List ℕ) → held s (taken s im Queue.Ready) Queue.Ready ≡ rest → empty s (turned s im i) Queue.Ready ≡ false
      go [] e = held_some s _ i.0 [] (turned_list l ∙ rw e)
      go (x ∷ rest) e = held_some s _ x (rest ++ (i.0 ∷ [])) (turned_list l ∙ rw e)

  passed_anew : (e : Event) → Anew (happening s im e)
  passed_anew =
      event_any s im (λ _. Anew)
      (tick_any (λ t. Anew (accepting t))
      record {
        idle = λ _ t. absurd (omega (arith, t));
        stops = λ _ _ t. absurd (omega (arith, t));
        turns = λ some _ _ _. let l = first_leads s im g some in (turned_some (running s im) l, turned_clock l);
        serves = λ _ _ _ _ _ _ _.
            record {
              faults = λ _ _ t. absurd (omega (arith, t));
              stuck = λ _ _ t. absurd (omega (arith, t));
              alone = λ _ _ _ t. absurd (omega (arith, t));
              woke = λ _ _ _ _ t. absurd (omega (arith, t));
            };
        orders = λ _ _ _ _ _ _. record { does = λ _ _ _ t. absurd (omega (arith, t)); faults = λ _ _ t. absurd (omega (arith, t)) };
      })
      (λ i c. input_any s im i Anew c (λ _ t. absurd t) (λ _ _ t. absurd (omega (arith, t))) (λ _ _ t. absurd (omega (arith, t))))
      (λ i. done_any s im i Anew (λ _ t. absurd t) (λ _ _ t. absurd (omega (arith, t))) (λ _ _ t. absurd (omega (arith, t))))
      (λ t. absurd t)

-- a call on a good image
module _ (s : Shape) (im : List ℕ) (g : Good s im) (x y z : ℕ) (a : Result Answer Refusal) (m : List ℕ) (h : Happens im x y z a m) where
  call_steps : empty s im Queue.Ready ≡ false → Step s im (tick_count x y z) a m
  call_steps some = rw (h.answered, h.left, event_is s im g x y z) (event_steps s im g some x y z)

  call_anew : Tells a 2 → (empty s m Queue.Ready ≡ false) × (at s m clock ≡ s.slice)
  call_anew = rw (h.answered, h.left, event_is s im g x y z) (passed_anew s im g (event_of s x y z))

module _ (events : List ℕ) (count : ℕ) (c : Calls events count) (fine : Checks (c.image 0) 0) where
  abbrev s : Shape
  s = shape_of (c.image 0)

  good : (n : ℕ) → n ≤ count → Good s (c.image n)
  good = calls_good s c.image (word_of events) c.reply count ((check_zero (c.image 0)).0 (sym fine.answered)) c.kept

  abbrev ticked : ℕ → ℕ
  ticked n = tick_count (word_of events n 0) (word_of events n 1) (word_of events n 2)

  step : (n : ℕ) → n < count → empty s (c.image n) Queue.Ready ≡ false → Step s (c.image n) (ticked n) (c.reply n) (c.image (suc n))
  step n l some = call_steps s (c.image n) (good n (omega arith)) _ _ _ (c.reply n) (c.image (suc n)) (c.kept n l) some

  -- task i is first after m calls, with so much left on the clock; then it is after n, and the clock has fallen by the ticks between
  module _ (i : Task) (m left : ℕ) (starts : IsFirst s (c.image m) i) (clocked : at s (c.image m) clock ≡ left) where
    record Uses (n : ℕ) : Type 0 where
      first : IsFirst s (c.image n) i
      used : ticks_in c n + at s (c.image n) clock ≡ ticks_in c m + left

    start : (n : ℕ) → m ≡ n → Uses n
    start n e = rw (← e) record { first = starts; used = omega (arith, clocked) }

    one_more : (n : ℕ) → n < count → Quiet (c.reply n) → Uses n → Uses (suc n)
    one_more n l q u =
        let v = quiet_stays (step n l u.first.some) q in
        let leads = first_leads s (c.image n) (good n (omega arith)) u.first.some in
        record {
          first = record {
            some = keeps_some leads v.0;
            named = keeps_first leads v.0 (good_sound s (c.image (suc n)) (good (suc n) (omega arith))) ∙ u.first.named;
          };
          used = omega (arith, u.used, v.1);
        }

    uses : (n : ℕ) → m ≤ n → n ≤ count → Undisturbed c m n → Uses n
    uses zero l h q = start 0 (omega arith)
    uses (suc n) l h q =
        dite (ℕ_discrete m (suc n)) (start (suc n)) (λ ne.
        one_more n (omega arith) (q n (omega (arith, ne, l)) (omega arith)) (uses n (omega (arith, ne, l)) (omega arith) (λ j a b. q j a (omega arith))))

    -- a quiet tick is its own
    told : (n : ℕ) → Uses n → n < count → Quiet (c.reply n) → IsTick c n → (k : ℕ) × Answered c n k i × DoneOrFaulted s (c.image (suc n)) i k
    told n u l q t = rw u.first.named at (quiet_tick (step n l u.first.some) q t)

    -- an error of it stays till its error stop
    wrong : (j : ℕ) → m ≤ j → error s (c.image (suc j)) i ≢ 0 → (n : ℕ) → j < n → n ≤ count → Undisturbed c m n → error s (c.image n) i ≢ 0
    wrong j from ne zero l h q = absurd (omega (arith, l))
    wrong j from ne (suc n) l h q =
        let before : Undisturbed c m n = λ k a b. q k a (omega arith) in
        dite (ℕ_discrete j n) (λ e. rw e at ne) (λ nj.
        let u = uses n (omega (arith, from, l)) (omega arith) before in
        let r = u.first.named in
        rw r at (error_stays (step n (omega arith) u.first.some) (rw r (wrong j from ne n (omega (arith, l, nj)) (omega arith) before)) (q n (omega (arith, from, l)) (omega arith)).0))

    -- so where its turn passes it did not fault
    own_done : (n j : ℕ) → n < count → Undisturbed c m n → Tells (c.reply n) 2 → m ≤ j → j < n → IsTick c j → Answered c j 3 i ⊎ Answered c j 6 i
    own_done n j h q t from l tick =
        let u = uses j from (omega arith) (λ k a b. q k a (omega arith)) in
        let v = uses n (omega arith) (omega arith) q in
        let w = passes_told (step n h v.first.some) t in
        let k = told j u (omega arith) (q j from l) tick in
        ⊎_elim (λ d. ⊎_elim (λ e. inl (rw (← e) k.1)) (λ e. inr (rw (← e) k.1)) d)
        (λ d. absurd (wrong j from d.1 n l (omega arith) q (rw v.first.named at w.0))) k.2

  -- the first task uses up the clock
  clock_used : (i : Task) → IsFirst s (c.image 0) i → UsesClock c i (at s (c.image 0) clock)
  clock_used i starts =
      record {
        own = λ n j h q l t.
            let k = told i 0 _ starts refl j (u j (omega arith) (λ k a b. q k a (omega arith))) (omega arith) (q j (omega arith) l) t in
            let r = kind_range _ _ _ k.0 k.2 in
            (k.0, r.0, r.1, k.1);
        at_most = λ n h q. omega (arith, (u n h q).used);
        with_wait = λ n h q t.
            let v = u n (omega arith) q in
            let w = waits_told (step n h v.first.some) t in
            (omega (arith, v.used, w.0, w.1), rw (← v.first.named) w.2);
        exactly = λ n h q t.
            let v = u n (omega arith) q in
            let w = passes_told (step n h v.first.some) t in
            (omega (arith, v.used, w.1), rw (← v.first.named) w.2);
      }
    where
      u : (n : ℕ) → n ≤ count → Undisturbed c 0 n → Uses i 0 (at s (c.image 0) clock) starts refl n
      u n h q = uses i 0 (at s (c.image 0) clock) starts refl n (omega arith) h q

  -- after a passed turn a whole slice
  slice_used : (m n : ℕ) → m < n → n < count → Tells (c.reply m) 2 → Undisturbed c (suc m) n → Tells (c.reply n) 2 → UsesSlice c m n
  slice_used m n l h t q e =
      let anew = call_anew s (c.image m) (good m (omega arith)) _ _ _ (c.reply m) (c.image (suc m)) (c.kept m (omega arith)) t in
      let i = running s (c.image (suc m)) in
      let starts : IsFirst s (c.image (suc m)) i = record { some = anew.0; named = refl } in
      let v = uses i (suc m) s.slice starts anew.1 n (omega arith) (omega arith) q in
      let w = passes_told (step n h v.first.some) e in
      record {
        task = i;
        passes = rw (← v.first.named) w.2;
        exactly = omega (arith, v.used, w.1);
        own = λ j from to tick. own_done i (suc m) s.slice starts anew.1 n j h q e (omega arith) to tick;
      }

pub request2 : Request2
request2 = record { clock_used = λ events count c i fine. clock_used events count c fine i; slice_used = slice_used }
