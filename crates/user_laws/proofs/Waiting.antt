-- A task that waits stays as it is until a word comes for it. Assumes nothing.
use Rattle.std.specs.Prelude.{◌≡◌, Bool, true, cond, ◌||◌, ◌≢◌, ℕ, zero, suc, ◌<◌, ◌≤◌, eqb, length, None, Ok, Option, Result, Some}
use Rattle.std.proofs.Math.Path.{refl}
use Rattle.std.proofs.Common.{sym, ap, ◌∙◌, true≢false, arith}
use mathlib.Core.List.{List, [], ◌∷◌, ◌++◌}
use Rattle.std.proofs.Math.Bool.{false, and-eq-true_iff}
use borrow.Author.Tests.{eqb-true, eqb-false, eq-eqb, ne_eqb}
use Rattle.paper.specs.Image.{task, at, clock, status, peer, character}
use Rattle.paper.specs.Queues.{empty}
use Rattle.paper.specs.Flags.{pending, waits}
use Rattle.paper.specs.Waking.{woken, one_if}
use Rattle.paper.specs.Services.{asked, fault_of, blocked, waits_for, wakes}
use Rattle.paper.specs.Events.{event_of, running, tick, input, port_next, output_done, happening}
use Rattle.paper.specs.Rules.{Empty, Good}
use Rattle.paper.specs.declared.Task.{Task}
use Rattle.paper.specs.declared.Shape.{Shape}
use Rattle.paper.specs.declared.Queue.{Queue}
use Rattle.paper.specs.declared.Service.{Service}
use Rattle.paper.specs.declared.Event.{Event}
use Rattle.paper.specs.Promises.{Happens}
use Rattle.laws.specs.Events.{words_any, event_formed}
use Rattle.laws.specs.Room.{waits_not}
use Rattle.event_laws.specs.Standing.{awaits, waits_one}
use Rattle.event_laws.specs.Serving.{one_is}
use Rattle.event_laws.specs.Walk.{asked_for, input_any, done_any}
use Rattle.event_laws.specs.Whom.{woken_unless, asked_wakes, whom, Unmoved}
use Rattle.event_laws.proofs.Wakes.{some_capacity, is_full, wakes_only}
use Rattle.user_laws.specs.Folded.{event_is}
use Rattle.user_laws.specs.Words.{served_reply, done, sent, got, all_sent, all_got, for_it}
use Rattle.user_laws.proofs.Balance.{send_told, receive_told, calls_good}
use Rattle.user_laws.specs.Asked.{asked_done}
use Rattle.paper.specs.declared.Answer.{Answer}
use Rattle.paper.specs.declared.Refusal.{Refusal}

-- a test that wakes somebody, and what it tells
module _ (j : Task) where
  nobody : ¬ (None ≡ Some j)
  nobody e = let z : ◌≡◌ {A = ℕ} 0 1 = cc in omega arith

  cond_one : (b : Bool) (w : Option Task) → cond b None w ≡ Some j → (b ≡ false) × (w ≡ Some j)
  cond_one true w e = absurd (nobody e)
  cond_one false w e = (refl, e)

  unless_one : (f : Option ℕ) (b : Bool) (w : Option Task) → woken_unless f b w ≡ Some j → (f ≡ None) × (b ≡ false) × (w ≡ Some j)
  unless_one (Some e) b w z = absurd (nobody z)
  unless_one None b w z = let (clear, one) = cond_one b w z in (refl, clear, one)

none_of : (a b c : Bool) → (a || b || c) ≡ false → (a ≡ false) × (b ≡ false) × (c ≡ false)
none_of false false c e = (refl, refl, e)
none_of false true c e = absurd (true≢false e)
none_of true b c e = absurd (true≢false e)

-- a tick that wakes a task is by rule 4, of a service that is done
record WakesBy (s : Shape) (im : List ℕ) (j : Task) : Type 0 where
  service : Service
  some : empty s im Queue.Ready ≡ false
  runs : at s im clock ≢ 0
  asks : pending s im (running s im) ≡ waits service
  right : fault_of s im (running s im) service ≡ None
  clear : blocked s im (running s im) service ≡ false
  one : wakes s im (running s im) service ≡ Some j

wakes_by : (s : Shape) (im : List ℕ) (j : Task) → whom s im Event.Tick ≡ Some j → WakesBy s im j
wakes_by s im j e =
    let i = running s im in
    let (before, rule) = cond_one j _ _ e in
    let (some, calm, runs) = none_of _ _ _ before in
    go (asked (pending s im i)) refl rule some (eqb-false _ 0 runs)
  where
    go : (x : Option Service) → asked (pending s im (running s im)) ≡ x → asked_wakes s im (running s im) x ≡ Some j → empty s im Queue.Ready ≡ false → at s im clock ≢ 0 → WakesBy s im j
    go None a z some runs = absurd (nobody j z)
    go (Some v) a z some runs =
        let (right, clear, one) = unless_one j _ _ _ z in
        record { service = v; some = some; runs = runs; asks = asked_for _ v a; right = right; clear = clear; one = one }

-- whom a service wakes waits for the task that it serves
waits_told : (s : Shape) (im : List ℕ) (k : Task) (u : Service) (i : Task) → waits_for s im k u i ≡ true → (at s im (status k) ≡ waits u) × (at s im (peer k) ≡ i.0)
unfolding waits_for
waits_told s im k u i e =
    let b = (and-eq-true_iff _ _).0 e in
    (eqb-true _ _ b.0, eqb-true _ _ b.1)

some_word : (w : ℕ) (m l : List ℕ) → l ≡ w ∷ m → l ≢ []
some_word w m l e z = let n : suc (length m) ≡ 0 = ap length (sym e ∙ z) in omega (arith, n)

-- a task that waits with service v, and the buffer that it waits on
module _ (s : Shape) (im : List ℕ) (g : Good s im) (j : Task) (hj : j.0 < s.n) (v : Service) (waiting : at s im (status j) ≡ waits v) where
  -- a word of an event comes for it
  abbrev Comes : ℕ → Result Answer Refusal → List ℕ → Type 0
  Comes c r after = for_it v (sent s im c r (awaits s im j v)) (got s im r after (awaits s im j v)) ≢ []

  -- a service that wakes it moves a word for it
  module _ (c : ℕ) (after : List ℕ) (i : Task) where
    waits_as : (u : Service) → waits_for s im j u i ≡ true → (u ≡ v) × (task (at s im (peer j)) ≡ i)
    waits_as u e =
        let w = waits_told s im j u i e in
        (waits_one u v (sym w.0 ∙ waiting), ap task w.1)

    service_comes : (u : Service) → pending s im i ≡ waits u → wakes s im i u ≡ Some j → Comes c (served_reply i) after
    service_comes Service.Send asks one =
        let w = one_is _ _ j one in
        let (same, from) = waits_as Service.Receive (rw w.1 w.0) in
        rw (← same, from) (some_word _ [] _ (send_told s im c after i j (ap (λ (x : Task). x.0) (sym w.1)) asks).0)
    service_comes Service.Receive asks one =
        let w = one_is _ _ j one in
        let (same, from) = waits_as Service.Send (rw w.1 w.0) in
        rw (← same, from) (some_word _ [] _ (receive_told s im c after i j (ap (λ (x : Task). x.0) (sym w.1)) asks).1)
    service_comes Service.Input asks one = absurd (nobody j one)
    service_comes Service.Output asks one = absurd (nobody j one)

  tick_comes : (c : ℕ) → whom s im Event.Tick ≡ Some j → Comes c (Ok (tick s im).answer) (tick s im).image
  tick_comes c e =
      let w = wakes_by s im j e in
      rw (asked_done s im g w.some w.runs w.service w.asks w.right w.clear) (service_comes c _ (running s im) w.service w.asks w.one)

  -- an event of its own device does so too
  owner_waits : (i : Task) (u : Service) → one_if (eqb (at s im (status i)) (waits u)) i ≡ Some j → (u ≡ v) × (j ≡ i) × (at s im (status i) ≡ waits u)
  owner_waits i u e =
      let w = one_is _ i j e in
      let st = eqb-true _ _ w.0 in
      let same : at s im (status i) ≡ waits v = rw w.1 at waiting in
      (waits_one u v (sym st ∙ same), w.1, st)

  input_comes : (i : Task) (c : ℕ) → whom s im (Event.Input i c) ≡ Some j → Comes c (input s im i c).reply (input s im i c).image
  unfolding sent
  input_comes i c e =
      let (same, it, st) = owner_waits i Service.Input e in
      let hi : i.0 < s.n = rw it at hj in
      let q = Queue.Input i in
      rw (← same, it)
      (input_any s im i (λ o. sent s im c o.reply q ≢ []) c
      (λ stopped. absurd (some_capacity s im g q hi g.laid.fit.inputs.0 ((g.statuses i hi).inputs st).1 (is_full s im g q stopped)))
      (λ _ ne. absurd (ne st)) (λ _ _. some_word c [] _ (rw (eq-eqb i.0 i.0 refl))))

  holds_some : (q : Queue) → ¬ Empty s im q → empty s im q ≡ false
  unfolding empty
  holds_some q none = ne_eqb _ 0 none

  done_comes : (i : Task) (c : ℕ) → whom s im (Event.OutputDone i) ≡ Some j → Comes c (output_done s im i).reply (output_done s im i).image
  unfolding got done
  done_comes i c e =
      let (same, it, st) = owner_waits i Service.Output e in
      let hi : i.0 < s.n = rw it at hj in
      let q = Queue.Output i in
      let all = ((g.statuses i hi).outputs st).2 in
      let some : empty s im q ≡ false = holds_some q (λ none. some_capacity s im g q hi g.laid.fit.outputs.0 none all) in
      rw (← same, it)
      (done_any s im i (λ o. got s im o.reply o.image q ≢ [])
      (λ idle. absurd (some_capacity s im g q hi g.laid.fit.outputs.0 ((g.ports i hi).idle idle).1 all))
      (λ _ ne. absurd (ne st)) (λ _ _. some_word (at s (woken s (port_next s im i) i) (character i)) [] _ (rw (eq-eqb i.0 i.0 refl, some))))

  -- so where no word comes for it, it stays as it is
  pub event_stays : (k d c : ℕ) → ¬ Comes c (happening s im (event_of s k d c)).reply (happening s im (event_of s k d c)).image
      → Unmoved s im (happening s im (event_of s k d c)).image j
  unfolding happening
  event_stays k d c none =
      (wakes_only s im g (event_of s k d c) (event_formed s k d c)).stays j hj (λ z. waits_not v (sym z ∙ waiting)) (λ one.
      none (words_any s k d c (λ e. whom s im e ≡ Some j → Comes c (happening s im e).reply (happening s im e).image) (λ _. tick_comes c) (λ _ _ _. input_comes (task d) c)
      (λ _ _. done_comes (task d) c) (λ _ z. absurd (nobody j z)) one))

  -- of a call of event too
  pub call_stays : (x y z : ℕ) (r : Result Answer Refusal) (after : List ℕ) → Happens im x y z r after → ¬ Comes z r after → Unmoved s im after j
  call_stays x y z r after h =
      rw (h.answered, h.left, event_is s im g x y z) (event_stays x y z)

-- the buffer that a task waits on is the same where its peer is
awaits_same : (s : Shape) (im m : List ℕ) (j : Task) (v : Service) → at s m (peer j) ≡ at s im (peer j) → awaits s m j v ≡ awaits s im j v
awaits_same s im m j Service.Send e = rw e
awaits_same s im m j Service.Receive e = rw e
awaits_same s im m j Service.Input e = refl
awaits_same s im m j Service.Output e = refl

-- no word comes for a task in lists one after another where none comes in either
for_both : (v : Service) (a b c d : List ℕ) → for_it v (a ++ b) (c ++ d) ≡ for_it v a c ++ for_it v b d
for_both Service.Send a b c d = refl
for_both Service.Receive a b c d = refl
for_both Service.Input a b c d = refl
for_both Service.Output a b c d = refl

neither : (a b : List ℕ) → a ++ b ≡ [] → (a ≡ []) × (b ≡ [])
neither [] b e = (refl, e)
neither (x ∷ a) b e = absurd (some_word x (a ++ b) _ refl e)

-- of calls of event one after another: the task stays as it was at the start until a word comes for it
module _ (s : Shape) (image : ℕ → List ℕ) (word : ℕ → ℕ → ℕ) (reply : ℕ → Result Answer Refusal) (count : ℕ) (start : Good s (image 0))
    (calls : (n : ℕ) → n < count → Happens (image n) (word n 0) (word n 1) (word n 2) (reply n) (image (suc n)))
    (j : Task) (hj : j.0 < s.n) (v : Service) (waiting : at s (image 0) (status j) ≡ waits v) where
  -- the words that came for it in the first n calls
  abbrev pub came : ℕ → List ℕ
  came n = for_it v (all_sent s image word reply (awaits s (image 0) j v) n) (all_got s image word reply (awaits s (image 0) j v) n)

  step_stays : (n : ℕ) → n < count → Unmoved s (image 0) (image n) j → came (suc n) ≡ [] → Unmoved s (image 0) (image (suc n)) j
  step_stays n h u none =
      let g = calls_good s image word reply count start calls n (omega arith) in
      let now = (neither (came n) _ (sym (for_both v _ _ _ _) ∙ none)).1 in
      let e = call_stays s (image n) g j hj v (u.status ∙ waiting) (word n 0) (word n 1) (word n 2) (reply n) (image (suc n)) (calls n h) (λ some. some (rw (awaits_same s (image 0) (image n) j v u.peer) now)) in
      record {
        status = e.status ∙ u.status;
        peer = e.peer ∙ u.peer;
        words = λ r hr. e.words r hr ∙ u.words r hr;
      }

  pub calls_stay : (n : ℕ) → n ≤ count → came n ≡ [] → Unmoved s (image 0) (image n) j
  calls_stay zero h none = record { status = refl; peer = refl; words = λ r hr. refl }
  calls_stay (suc n) h none = step_stays n (omega arith) (calls_stay n (omega arith) (neither (came n) _ (sym (for_both v _ _ _ _) ∙ none)).0) none
