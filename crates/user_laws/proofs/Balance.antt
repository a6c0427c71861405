-- What a buffer held and then what was sent to it is what was got from it and then what it holds, in order. Assumes nothing.
use Rattle.std.proofs.Math.Path.{◌≡◌, refl, ap}
use Rattle.std.proofs.Common.{sym, ◌∙◌, true≢false, inr, arith, None, Ok, Result, Some}
use mathlib.Core.List.{List, [], ◌∷◌, ◌++◌, append-nil, append_assoc}
use Rattle.std.specs.Prelude.{Bool, true, false, not, ◌||◌, ◌≢◌, ◌⊎◌, ℕ, zero, suc, ◌<◌, ◌≤◌, eqb}
use Rattle.std.proofs.Math.Bool.{and-eq-true_iff}
use Rattle.std.proofs.Math.Logic.{inl, ⊎_elim}
use borrow.Author.Tests.{eqb-true, eq-eqb}
use Rattle.paper.specs.Image.{task, ord, cell, Valid, at, clock, reg, flags, busy, character}
use Rattle.paper.specs.Queues.{part_of, row_of, Has, queue_word, appended, first, taken, held, empty, full}
use Rattle.paper.specs.Flags.{pending, waits}
use Rattle.paper.specs.Waking.{with_status, woken, left}
use Rattle.paper.specs.Services.{fault_of, service_faulted, buffer, blocked, waiting, delivered, printing, printing_if_idle, moved, served}
use Rattle.paper.specs.Events.{event_of, running, stopped, tick, input, port_next, output_done, happening}
use Rattle.paper.specs.Promises.{Happens}
use Rattle.paper.specs.Rules.{Good}
use Rattle.paper.specs.declared.Task.{Task}
use Rattle.paper.specs.declared.Shape.{Shape}
use Rattle.paper.specs.declared.Cell.{Cell}
use Rattle.paper.specs.declared.Part.{Part}
use Rattle.paper.specs.declared.Queue.{Queue}
use Rattle.paper.specs.declared.Service.{Service}
use Rattle.paper.specs.declared.Answer.{Answer}
use Rattle.laws.specs.Cases.{when}
use Rattle.laws.specs.Cells.{at_same, length_put}
use Rattle.laws.specs.Queues.{Off, same_task, same_queue, word_valid, held_frame, appended_held, taken_held}
use Rattle.laws.specs.Sound.{Sound, sound, taken_sound, appended_sound, appended_some, has_space, has_word}
use Rattle.laws.specs.Checked.{good_sound}
use Rattle.laws.specs.Events.{words_any}
use Rattle.laws.specs.Frame.{Frame, Apart, frame_none, frame_more, frame_then, frame_put, frame_appended, frame_taken, kept}
use Rattle.laws.specs.Orders.{OwnCell}
use Rattle.laws.specs.Changes.{header_part, turn_parts, buffer_has, out_sound, status_sound, frame_status, frame_left, frame_woken, frame_printing, frame_next}
use Rattle.event_laws.specs.Standing.{waits_one}
use Rattle.event_laws.specs.Turns.{Leads, leads_sound, leads_in, turned_frame}
use Rattle.event_laws.specs.Serving.{served_nearly, wakes_whom}
use Rattle.event_laws.specs.Walk.{ServiceCases, Begins, input_any, done_any}
use Rattle.event_laws.proofs.Walk.{tick_any}
use Rattle.event_laws.specs.Begun.{clock_only, reg_same}
use Rattle.event_laws.proofs.Stays.{begins_leads, stopped_is, order_frame, first_leads, tick_good, next_owner, words_good}
use Rattle.user_laws.specs.Folded.{event_is}
use Rattle.user_laws.specs.Words.{served_reply, told, done, word_if, sent, got, Balanced, all_sent, all_got}
use Rattle.paper.specs.declared.Refusal.{Refusal}

-- a test that cannot hold
is_false : (b : Bool) → ¬ (b ≡ true) → b ≡ false
is_false true f = absurd (f refl)
is_false false f = refl

no_word : (b : Bool) (w : ℕ) → ¬ (b ≡ true) → word_if b w ≡ []
no_word b w f = rw (is_false b f)

-- a reply that tells of no word of queue q
record Elsewhere (s : Shape) (im : List ℕ) (r : Result Answer Refusal) (q : Queue) : Type 0 where
  services : (i : Task) (v : Service) → done s im r i v ≡ true → buffer s im i v ≢ q
  inputs : (i : Task) → told r 8 i ≡ true → Queue.Input i ≢ q
  outputs : (i : Task) → told r 9 i ≡ true → Queue.Output i ≢ q

module _ (s : Shape) (im : List ℕ) (r : Result Answer Refusal) where
  none_sent : (c : ℕ) (q : Queue) → Elsewhere s im r q → sent s im c r q ≡ []
  unfolding sent
  none_sent c Queue.Ready x = refl
  none_sent c (Queue.Input i) x = no_word _ _ (λ e. x.inputs i e refl)
  none_sent c (Queue.Output i) x = no_word _ _ (λ e. x.services i Service.Output e refl)
  none_sent c (Queue.Message i j) x =
      no_word _ _ (λ e.
      let b = (and-eq-true_iff (done s im r i Service.Send) (eqb (at s im (reg i 2)) j.0)).0 e in
      x.services i Service.Send b.0 (ap (Queue.Message i) (same_task _ j (eqb-true _ _ b.1))))

  none_got : (after : List ℕ) (q : Queue) → Elsewhere s im r q → got s im r after q ≡ []
  unfolding got
  none_got after Queue.Ready x = refl
  none_got after (Queue.Input i) x = no_word _ _ (λ e. x.services i Service.Input e refl)
  none_got after (Queue.Output i) x =
      let a = is_false (done s im r i Service.Output) (λ e. x.services i Service.Output e refl) in
      let b = is_false (told r 9 i) (λ e. x.outputs i e refl) in
      rw (a, b)
  none_got after (Queue.Message i j) x =
      no_word _ _ (λ e.
      let b = (and-eq-true_iff (done s im r j Service.Receive) (eqb (at s im (reg j 2)) i.0)).0 e in
      x.services j Service.Receive b.0 (ap (λ t. Queue.Message t j) (same_task _ i (eqb-true _ _ b.1))))

-- the parts that hold no buffer and may change
abbrev around : Part → Bool
around p = turn_parts p || eqb (ord p) 1 || eqb (ord p) 7 || eqb (ord p) 9

-- a buffer of this image
record Buffered (s : Shape) (q : Queue) : Type 0 where
  has : Has s q
  apart : around (part_of q) ≡ false

buffered : (s : Shape) (q : Queue) → Has s q → q ≢ Queue.Ready → Buffered s q
buffered s Queue.Ready h f = absurd (f refl)
buffered s (Queue.Input i) h f = record { has = h; apart = refl }
buffered s (Queue.Output i) h f = record { has = h; apart = refl }
buffered s (Queue.Message i j) h f = record { has = h; apart = refl }

module _ {s : Shape} {q : Queue} (p : Buffered s q) where
  -- cells, changes and queues that are off its row
  off : (c : Cell) → around c.part ≡ true → Off s q c
  off c t part row = true≢false (sym t ∙ ap around part ∙ p.apart)

  off_is : (b c : Cell) → c ≡ b → around b.part ≡ true → Off s q c
  off_is b c e t = off c (ap (λ (x : Cell). around x.part) e ∙ t)

  off_own : (im : List ℕ) (i : Task) (c : Cell) → OwnCell s im i c → Off s q c
  off_own im i c (inl (e, _)) = off c (ap around e)
  off_own im i c (inr (e, _)) = off c (ap around e)

  off_turn : {m out : List ℕ} → Apart s turn_parts m out → Frame s (Off s q) m out
  off_turn k = frame_more k (λ c t. off c (rw t))

  off_left : {im m : List ℕ} → Frame s (Off s q) im m → Sound s m → (i : Task) → i.0 < s.n → (a b : ℕ) → Frame s (Off s q) im (left s (with_status s m i a b))
  off_left {im} {m} k h i hi a b =
      frame_left (frame_status k i hi a b (λ r. off (cell Part.StatusTable i.0 r) refl)) (status_sound s m i hi h a b) (λ r. off (queue_word s Queue.Ready r) refl) (off clock refl)

  off_not : (b : Queue) → ((k : ℕ) → Off s q (queue_word s b k)) → b ≢ q
  off_not b o e = o 0 (ap part_of e) (ap (row_of s) e)

  -- what leaves its row as it is leaves the words that it holds
  spared : {im m : List ℕ} → Frame s (Off s q) im m → Sound s m → held s m q ≡ held s im q
  spared {im} {m} k h =
      sym (held_frame s m im q ((sound h).queues q p.has) (λ j hj. sym (k.others (queue_word s q j) (word_valid s q j p.has hj) (λ o. o refl refl))))

  -- a word is put in, or taken out, and then its row is left as it is
  module _ (m : List ℕ) {out : List ℕ} (w : ℕ) (h : Sound s m) where
    put_in : full s m q ≡ false → Frame s (Off s q) (appended s m q w) out → Sound s out → held s m q ++ (w ∷ []) ≡ held s out q
    put_in clear k l =
        sym (spared k l ∙ appended_held s m q p.has (sound h).laid.words ((sound h).queues q p.has) w (has_space s m h q p.has clear))

    take_out : empty s m q ≡ false → Frame s (Off s q) (taken s m q) out → Sound s out → w ≡ first s m q → held s m q ≡ w ∷ held s out q
    take_out clear k l e =
        taken_held s m q p.has (sound h).laid.words ((sound h).queues q p.has) (has_word s m h q p.has clear) ∙ rw (e, spared k l)

  -- an event that tells of no word of it, and leaves its row as it is
  module _ {im out : List ℕ} (c : ℕ) (r : Result Answer Refusal) (k : Frame s (Off s q) im out) (g : Good s out) where
    elsewhere : Elsewhere s im r q → Balanced s im c r out q
    elsewhere x = rw (none_sent s im r c q x, none_got s im r out q x) (append-nil (held s im q) ∙ sym (spared k (good_sound s out g)))

    -- as one does that is answered neither 3 nor 8 nor 9
    still : ((i : Task) → (told r 3 i ≡ false) × (told r 8 i ≡ false) × (told r 9 i ≡ false)) → Balanced s im c r out q
    unfolding done
    still f =
        elsewhere record {
          services = λ i v e. absurd (true≢false (sym ((and-eq-true_iff (told r 3 i) (eqb (pending s im i) (waits v))).0 e).0 ∙ (f i).0));
          inputs = λ i e. absurd (true≢false (sym e ∙ (f i).1));
          outputs = λ i e. absurd (true≢false (sym e ∙ (f i).2));
        }

-- the first word of an output buffer goes to the port, and then both are left as they are
module _ {s : Shape} (m : List ℕ) {out : List ℕ} (i : Task) (hi : i.0 < s.n) (h : Sound s m) (some : empty s m (Queue.Output i) ≡ false) where
  printed : Frame s (Off s (Queue.Output i)) (printing s m i) out → Sound s out → at s out (character i) ≡ at s (printing s m i) (character i)
      → held s m (Queue.Output i) ≡ at s out (character i) ∷ held s out (Queue.Output i)
  unfolding printing
  printed k l e =
      let p : Buffered s (Queue.Output i) = record { has = hi; apart = refl } in
      let f : Frame s (Off s (Queue.Output i)) (taken s m (Queue.Output i)) (printing s m i) =
      frame_put (frame_put frame_none (busy i) 1 (hi, omega arith) (off p (busy i) refl)) (character i) _ (hi, omega arith) (off p (character i) refl) in
      let took = taken_sound s m (Queue.Output i) hi h (has_word s m h (Queue.Output i) hi some) in
      take_out p m _ h some (frame_then f k) l (e ∙ at_same s _ (character i) _ (hi, omega arith) (length_put s _ (busy i) 1 ∙ (sound took).laid.words))

-- the service that task i asked for, v, is done, and no other
module _ (s : Shape) (im : List ℕ) (i : Task) (v : Service) (asks : pending s im i ≡ waits v) where
  done_now : done s im (served_reply i) i v ≡ true
  unfolding done
  done_now = rw (eq-eqb i.0 i.0 refl, eq-eqb _ _ asks)

  done_only : (k : Task) (u : Service) → done s im (served_reply i) k u ≡ true → (i ≡ k) × (v ≡ u)
  unfolding done
  done_only k u e =
      let b = (and-eq-true_iff (eqb i.0 k.0) (eqb (pending s im k) (waits u))).0 e in
      let a : i ≡ k = same_task i k (eqb-true _ _ b.0) in
      (a, waits_one v u (sym asks ∙ rw a (eqb-true _ _ b.1)))

-- so a send to task j puts R3 into its buffer, and a receive from task j takes out what is in R3 then
module _ (s : Shape) (im : List ℕ) (c : ℕ) (after : List ℕ) (i j : Task) (named : at s im (reg i 2) ≡ j.0) where
  pub send_told : pending s im i ≡ waits Service.Send
      → (sent s im c (served_reply i) (Queue.Message i j) ≡ at s im (reg i 3) ∷ []) × (got s im (served_reply i) after (Queue.Message i j) ≡ [])
  unfolding sent got
  send_told asks =
      let none = is_false (done s im (served_reply i) j Service.Receive) (λ e. let z = (done_only s im i Service.Send asks j Service.Receive e).1 in let y : ◌≡◌ {A = ℕ} 0 1 = cc in omega arith) in
      (rw (done_now s im i Service.Send asks, eq-eqb _ _ named), rw none)

  pub receive_told : pending s im i ≡ waits Service.Receive
      → (sent s im c (served_reply i) (Queue.Message j i) ≡ []) × (got s im (served_reply i) after (Queue.Message j i) ≡ at s after (reg i 3) ∷ [])
  unfolding sent got
  receive_told asks =
      let none = is_false (done s im (served_reply i) j Service.Send) (λ e. let z = (done_only s im i Service.Receive asks j Service.Send e).1 in let y : ◌≡◌ {A = ℕ} 0 1 = cc in omega arith) in
      (rw none, rw (done_now s im i Service.Receive asks, eq-eqb _ _ named))

-- the cells that may change after the word of a service of task i has moved
abbrev Later : Task → Cell → Type 0
Later i c = (turn_parts c.part ≡ true) ⊎ (c ≡ flags i)

-- a service of the first task, i, begins from image m
module _ {s : Shape} {im m : List ℕ} {i : Task} (l : Leads s im i) (b : Begins s im m) (c : ℕ) where
  hi : i.0 < s.n
  hi = leads_in l

  here : Sound s m
  here = leads_sound (begins_leads l b)

  -- of which it reads what stands in im
  two : at s m (reg i 2) ≡ at s im (reg i 2)
  two = reg_same l b 2 (omega arith)

  three : at s m (reg i 3) ≡ at s im (reg i 3)
  three = reg_same l b 3 (omega arith)

  same_buffer : (v : Service) → buffer s m i v ≡ buffer s im i v
  same_buffer Service.Send = rw two
  same_buffer Service.Receive = rw two
  same_buffer Service.Input = refl
  same_buffer Service.Output = refl

  begins : {q : Queue} → Buffered s q → Frame s (Off s q) im m
  begins p = frame_more b.but_clock (λ a e. off_is p clock a e refl)

  begun : {q : Queue} → Buffered s q → held s m q ≡ held s im q
  begun p = spared p (begins p) here

  -- its word moves off the row of another buffer
  moved_off : {q : Queue} → Buffered s q → (v : Service) → fault_of s m i v ≡ None → blocked s m i v ≡ false
      → ((j : ℕ) → Off s q (queue_word s (buffer s m i v) j)) → Frame s (Off s q) m (moved s m i v)
  unfolding delivered printing_if_idle
  moved_off p Service.Send right clear o = frame_appended frame_none (buffer s m i Service.Send) (buffer_has s m i hi Service.Send right) here o _
  moved_off p Service.Receive right clear o =
      frame_put (frame_taken frame_none (buffer s m i Service.Receive) (buffer_has s m i hi Service.Receive right) here o) (reg i 3) _ (hi, omega arith) (off p (reg i 3) refl)
  moved_off p Service.Input right clear o = frame_put (frame_taken frame_none (Queue.Input i) hi here o) (reg i 3) _ (hi, omega arith) (off p (reg i 3) refl)
  moved_off {q} p Service.Output right clear o =
      let w = at s m (reg i 3) in
      let k : Frame s (Off s q) m (appended s m (Queue.Output i) w) = frame_appended frame_none (Queue.Output i) hi here o w in
      when (Frame s (Off s q) m) (eqb (at s (appended s m (Queue.Output i) w) (busy i)) 0)
      (λ _. frame_printing k (out_sound s m i hi here w clear) i hi o (λ r. off p (cell Part.Ports i.0 r) refl)) (λ _. k)

  -- out is the image after it
  module _ {out : List ℕ} (g : Good s out) where
    after : Sound s out
    after = good_sound s out g

    later : {q : Queue} {n : List ℕ} → Buffered s q → Frame s (Later i) n out → Frame s (Off s q) n out
    later {q} p k = frame_more k go
      where
        go : (a : Cell) → Later i a → Off s q a
        go a (inl t) = off p a (rw t)
        go a (inr e) = off_is p (flags i) a e refl

    last : {n : List ℕ} → Frame s (Later i) n out → (a : Cell) → Valid s a → turn_parts a.part ≡ false → a ≢ flags i → at s out a ≡ at s n a
    last k a ha f e = k.others a ha (⊎_elim (λ t. true≢false (sym t ∙ f)) e)

    -- a word taken from q has arrived in R3
    took : {q : Queue} → Buffered s q → empty s m q ≡ false → Frame s (Later i) (delivered s m i q) out → held s m q ≡ at s out (reg i 3) ∷ held s out q
    unfolding delivered
    took {q} p clear k =
        let f : Frame s (Off s q) (taken s m q) (delivered s m i q) = frame_put frame_none (reg i 3) (first s m q) (hi, omega arith) (off p (reg i 3) refl) in
        take_out p m _ here clear (frame_then f (later p k)) after
        (last k (reg i 3) (hi, omega arith) refl (λ e. absurd (let z : ◌≡◌ {A = ℕ} 3 8 = ap (λ (a : Cell). a.column) e in omega arith)) ∙
        at_same s _ (reg i 3) _ (hi, omega arith) (sound (taken_sound s m q p.has here (has_word s m here q p.has clear))).laid.words)

    -- the buffer of the service
    own : (v : Service) → pending s im i ≡ waits v → fault_of s m i v ≡ None → blocked s m i v ≡ false → Frame s (Later i) (moved s m i v) out
        → Balanced s im c (served_reply i) out (buffer s m i v)
    unfolding sent got printing_if_idle
    own Service.Send asks right clear k =
        let p : Buffered s (buffer s m i Service.Send) = record { has = buffer_has s m i hi Service.Send right; apart = refl } in
        let words = send_told s im c out i (task (at s m (reg i 2))) (sym two) asks in
        rw (words.0, words.1, ← three, ← begun p) (put_in p m _ here clear (later p k) after)
    own Service.Receive asks right clear k =
        let p : Buffered s (buffer s m i Service.Receive) = record { has = buffer_has s m i hi Service.Receive right; apart = refl } in
        let words = receive_told s im c out i (task (at s m (reg i 2))) (sym two) asks in
        rw (words.0, words.1, ← begun p) (append-nil (held s m (buffer s m i Service.Receive)) ∙ took p clear k)
    own Service.Input asks right clear k =
        let p : Buffered s (Queue.Input i) = record { has = hi; apart = refl } in
        rw (done_now s im i Service.Input asks, ← begun p) (append-nil (held s m (Queue.Input i)) ∙ took p clear k)
    own Service.Output asks right clear k =
        let p : Buffered s (Queue.Output i) = record { has = hi; apart = refl } in
        let w = at s m (reg i 3) in
        let a = appended s m (Queue.Output i) w in
        let lies : Sound s a = out_sound s m i hi here w clear in
        let f : Frame s (λ x. x.part ≡ Part.OutputBuffers) m a = frame_appended frame_none (Queue.Output i) hi here (λ r. refl) w in
        let idle : at s a (busy i) ≡ at s im (busy i) =
        f.others (busy i) (hi, omega arith) (λ e. absurd (let z : ◌≡◌ {A = ℕ} 7 5 = ap ord e in omega arith)) ∙ kept header_part (clock_only l b) (busy i) (hi, omega arith) refl in
        rw (done_now s im i Service.Output asks, ← begun p, ← three, ← idle)
        (when (λ n. Frame s (Later i) n out
        → held s m (Queue.Output i) ++ (w ∷ []) ≡ word_if (eqb (at s a (busy i)) 0 || false) (at s out (character i)) ++ held s out (Queue.Output i))
        (eqb (at s a (busy i)) 0)
        (λ e k.
        rw e (put_in p m w here clear frame_none lies ∙ printed a i hi lies (appended_some s m here (Queue.Output i) hi w) (later p k) after
        (last k (character i) (hi, omega arith) refl (λ e. absurd (let z : ◌≡◌ {A = ℕ} 7 1 = ap (λ (x : Cell). ord x.part) e in omega arith)))))
        (λ e k. rw e (put_in p m w here clear (later p k) after)) k)

    -- any buffer
    done_words : {q : Queue} → Buffered s q → (v : Service) → pending s im i ≡ waits v → fault_of s m i v ≡ None → blocked s m i v ≡ false
        → Frame s (Later i) (moved s m i v) out → Balanced s im c (served_reply i) out q
    done_words {q} p v asks right clear k =
        ⊎_elim (λ e. rw (← e) (own v asks right clear k))
        (λ o.
        elsewhere p c (served_reply i) (frame_then (begins p) (frame_then (moved_off p v right clear o) (later p k))) g
        record {
          services = λ j u e z.
              let only = done_only s im i v asks j u e in
              off_not p (buffer s m i v) o (same_buffer v ∙ rw (only.0, only.1) z);
          inputs = λ j e. absurd (true≢false (sym e));
          outputs = λ j e. absurd (true≢false (sym e));
        })
        (same_queue s (buffer s m i v) q (buffer_has s m i hi v right) p.has)

  -- so however a service ends
  service_words : {q : Queue} → Buffered s q → (v : Service) → pending s im i ≡ waits v
      → ServiceCases s m i v (λ a. Good s a.image → Balanced s im c (Ok a.answer) a.image q)
  unfolding service_faulted waiting served
  service_words p v asks =
      record {
        faults = λ e f g. still p c _ (frame_put (begins p) (flags i) _ (hi, omega arith) (off p (flags i) refl)) g (λ j. (refl, refl, refl));
        stuck = λ right stuck g. still p c _ (off_left p (begins p) here i hi _ _) g (λ j. (refl, refl, refl));
        alone = λ right clear none g. done_words g p v asks right clear flagged;
        woke = λ k right clear one g.
            let now = begins_leads l b in
            done_words g p v asks right clear
            (frame_woken flagged (served_nearly now v right clear).lies (λ r. inl refl) (inl refl) k (wakes_whom now v right k one).0 (λ r. inl refl));
      }
    where
      flagged : Frame s (Later i) (moved s m i v) (served s m i v)
      flagged = frame_put frame_none (flags i) _ (hi, omega arith) (inr refl)

module _ (s : Shape) (im : List ℕ) (g : Good s im) {q : Queue} (p : Buffered s q) (c : ℕ) where
  h : Sound s im
  h = good_sound s im g

  tick_words : Balanced s im c (Ok (tick s im).answer) (tick s im).image q
  tick_words =
      tick_any (λ a. Good s a.image → Balanced s im c (Ok a.answer) a.image q)
      record {
        idle = λ _ o. still p c _ frame_none o (λ j. (refl, refl, refl));
        stops = λ some _ o.
            let l = first_leads s im g some in
            let k : Frame s (Off s q) im (stopped s im (running s im)) = rw (stopped_is l) (off_left p frame_none h (running s im) (leads_in l) _ _) in
            still p c _ k o (λ j. (refl, refl, refl));
        turns = λ some _ _ o.
            still p c _ (turned_frame (first_leads s im g some) (λ r. off p (queue_word s Queue.Ready r) refl) (off p clock refl)) o (λ j. (refl, refl, refl));
        serves = λ some _ _ v asks m b. service_words (first_leads s im g some) b c p v asks;
        orders = λ some _ _ _ m b.
            let k : Frame s (Off s q) im m = order_frame (first_leads s im g some) b (off_own p im (running s im)) (off p clock refl) in
            record { does = λ _ _ _ o. still p c _ k o (λ j. (refl, refl, refl)); faults = λ _ _ o. still p c _ k o (λ j. (refl, refl, refl)) };
      }
      (tick_good s im g)

  -- an event of device i: a wake may follow
  module _ (i : Task) (hi : i.0 < s.n) where
    wakes : {m : List ℕ} → Sound s m → Apart s turn_parts m (woken s m i)
    wakes l = frame_woken frame_none l (λ r. refl) refl i hi (λ r. refl)

    entered : {out : List ℕ} → full s im (Queue.Input i) ≡ false → Apart s turn_parts (appended s im (Queue.Input i) c) out → Good s out
        → Balanced s im c (Ok (Answer.Input i)) out q
    unfolding sent got done
    entered clear k o =
        let b : Buffered s (Queue.Input i) = record { has = hi; apart = refl } in
        ⊎_elim (λ e. rw (← e, eq-eqb i.0 i.0 refl) (put_in b im c h clear (off_turn b k) (good_sound s _ o)))
        (λ f.
        elsewhere p c (Ok (Answer.Input i)) (frame_then (frame_appended frame_none (Queue.Input i) hi h f c) (off_turn p k)) o
        record {
          services = λ j v e. absurd (true≢false (sym e));
          inputs = λ j e z. off_not p (Queue.Input i) f (ap Queue.Input (same_task i j (eqb-true _ _ e)) ∙ z);
          outputs = λ j e. absurd (true≢false (sym e));
        })
        (same_queue s (Queue.Input i) q hi p.has)

    input_words : Good s (input s im i c).image → Balanced s im c (input s im i c).reply (input s im i c).image q
    input_words =
        input_any s im i (λ o. Good s o.image → Balanced s im c o.reply o.image q) c (λ _ o. still p c _ frame_none o (λ j. (refl, refl, refl)))
        (λ clear _. entered clear frame_none)
        (λ clear _. entered clear (wakes (appended_sound s im (Queue.Input i) hi h c (has_space s im h (Queue.Input i) hi clear))))

    went_on : {out : List ℕ} → Apart s turn_parts (port_next s im i) out → Good s out → Balanced s im c (Ok (Answer.OutputDone i)) out q
    unfolding sent got done port_next
    went_on {out} k o =
        let b : Buffered s (Queue.Output i) = record { has = hi; apart = refl } in
        let l = good_sound s out o in
        ⊎_elim (λ e.
        rw (← e, eq-eqb i.0 i.0 refl, append-nil (held s im (Queue.Output i)))
        (when (λ n. Apart s turn_parts n out
        → held s im (Queue.Output i) ≡ word_if (not (empty s im (Queue.Output i))) (at s out (character i)) ++ held s out (Queue.Output i))
        (empty s im (Queue.Output i))
        (λ e k.
        let rests = frame_put (frame_put frame_none (busy i) 0 (hi, omega arith) (off b (busy i) refl)) (character i) 0 (hi, omega arith) (off b (character i) refl) in
        rw e (sym (spared b (frame_then rests (off_turn b k)) l)))
        (λ e k. rw e (printed im i hi h e (off_turn b k) l (kept turn_parts k (character i) (hi, omega arith) refl))) k))
        (λ f.
        elsewhere p c (Ok (Answer.OutputDone i)) (frame_then (frame_next frame_none h i hi f (λ r. off p (cell Part.Ports i.0 r) refl)) (off_turn p k)) o
        record {
          services = λ j v e. absurd (true≢false (sym e));
          inputs = λ j e. absurd (true≢false (sym e));
          outputs = λ j e z. off_not p (Queue.Output i) f (ap Queue.Output (same_task i j (eqb-true _ _ e)) ∙ z);
        })
        (same_queue s (Queue.Output i) q hi p.has)

    output_done_words : Good s (output_done s im i).image → Balanced s im c (output_done s im i).reply (output_done s im i).image q
    output_done_words =
        done_any s im i (λ o. Good s o.image → Balanced s im c o.reply o.image q) (λ _ o. still p c _ frame_none o (λ j. (refl, refl, refl)))
        (λ _ _. went_on frame_none) (λ _ _. went_on (wakes (next_owner s im g i hi (Some i) (λ _. refl)).lies))

-- whatever event comes, every buffer is balanced
pub event_words : (s : Shape) (im : List ℕ) → Good s im → (q : Queue) → Has s q → q ≢ Queue.Ready → (k d c : ℕ)
    → Balanced s im c (happening s im (event_of s k d c)).reply (happening s im (event_of s k d c)).image q
unfolding happening
event_words s im g q hq ne k d c =
    let p = buffered s q hq ne in
    words_any s k d c (λ e. Good s (happening s im e).image → Balanced s im c (happening s im e).reply (happening s im e).image q) (λ _ _. tick_words s im g p c)
    (λ _ hd _. input_words s im g p c (task d) hd) (λ _ hd. output_done_words s im g p c (task d) hd) (λ _ o. still p c _ frame_none o (λ j. (refl, refl, refl))) (words_good s im g k d c)

-- so of a call of event
module _ (s : Shape) (im : List ℕ) (g : Good s im) (x y z : ℕ) (r : Result Answer Refusal) (after : List ℕ) (h : Happens im x y z r after) where
  pub call_good : Good s after
  call_good = rw (h.left, event_is s im g x y z) (words_good s im g x y z)

  pub call_words : (q : Queue) → Has s q → q ≢ Queue.Ready → Balanced s im z r after q
  call_words q hq ne = rw (h.answered, h.left, event_is s im g x y z) (event_words s im g q hq ne x y z)

-- and of calls one after another, refused ones among them: what a buffer held at the start and then all words sent to it
-- is all words got from it and then what it holds at the end
module _ (s : Shape) (image : ℕ → List ℕ) (word : ℕ → ℕ → ℕ) (reply : ℕ → Result Answer Refusal) (count : ℕ) (start : Good s (image 0))
    (calls : (n : ℕ) → n < count → Happens (image n) (word n 0) (word n 1) (word n 2) (reply n) (image (suc n))) where
  pub calls_good : (n : ℕ) → n ≤ count → Good s (image n)
  calls_good zero h = start
  calls_good (suc n) h = call_good s (image n) (calls_good n (omega arith)) (word n 0) (word n 1) (word n 2) (reply n) (image (suc n)) (calls n (omega arith))

  pub calls_words : (q : Queue) → Has s q → q ≢ Queue.Ready → (n : ℕ) → n ≤ count
      → held s (image 0) q ++ all_sent s image word reply q n ≡ all_got s image word reply q n ++ held s (image n) q
  calls_words q hq ne zero h = append-nil (held s (image 0) q)
  calls_words q hq ne (suc n) h =
      let now = call_words s (image n) (calls_good n (omega arith)) (word n 0) (word n 1) (word n 2) (reply n) (image (suc n)) (calls n (omega arith)) q hq ne in
      let got_before = all_got s image word reply q n in
      rw (append_assoc got_before, ← now, ← append_assoc got_before, ← calls_words q hq ne n (omega arith), append_assoc (held s (image 0) q))
