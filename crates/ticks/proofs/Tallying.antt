-- Laws of the counts after ticks. Assumes nothing.
use mathlib.Core.Path.{◌≡◌, refl, sym, ap, ◌∙◌}
use mathlib.Core.List.{List}
use mathlib.Core.Bool.{Bool, true, false, not, cond}
use Prim.Native.Nat.{ℕ, zero, suc, ◌+◌, ◌-◌, ◌<◌, ◌≤◌}
use native.Mathlib.Omega.{arith}
use lib.Dec.{eqb}
use lib.ListN.{length}
use Rattle.paper.specs.Image.{most_tasks}
use Rattle.paper.specs.Queues.{empty}
use Rattle.paper.specs.Flags.{error_of}
use Rattle.paper.specs.Events.{tick}
use Rattle.paper.specs.Numbers.{answer_task}
use Rattle.paper.specs.Counts.{tally, idle_count, count_place, grown, counted}
use Rattle.paper.specs.declared.Task.{Task}
use Rattle.paper.specs.declared.Shape.{Shape}
use Rattle.paper.specs.declared.Queue.{Queue}
use Rattle.paper.specs.declared.Heading.{Heading}
use Rattle.paper.specs.declared.Answer.{Answer}
use Rattle.laws.specs.Sound.{sound}
use Rattle.laws.specs.Checked.{good_sound}
use Rattle.laws.specs.Events.{Lawful, good}
use Rattle.counting.specs.Room.{Room}
use Rattle.counting.specs.Growing.{grown_none, grown_twice, room_less, counted_length, counted_room}
use Rattle.event_laws.proofs.Stays.{tick_names}
use Rattle.noting.specs.Noted.{orders_counted, Ledger}
use Rattle.noting.specs.Ledgers.{ledger_kept}
use Rattle.ticks.specs.Ticks.{ticked}
use Rattle.ticks.specs.Rounds.{by_flags}
use Rattle.ticks.specs.Tallied.{tallied, faulted_by, RowCounted}
use Rattle.ticks.proofs.Ticked.{ticked_joined, idle_tick, ticked_idle}

-- orders but the last are done; the flags after it tell of that
pub last_counted : (counts : List ℕ) (i : Task) (n f : ℕ) → 0 < n
    → counted (grown counts (count_place i Heading.Orders) (n - 1)) (tally (by_flags f i)) ≡ orders_counted counts i n (faulted_by f)
unfolding orders_counted
last_counted counts i n f some = go (eqb (error_of f) 0)
  where
    go : (b : Bool) → counted (grown counts (count_place i Heading.Orders) (n - 1)) (tally (cond b (Answer.OrderDone i) (Answer.OrderFaulted i))) ≡ orders_counted counts i n (not b)
    go true =
        let e : n - 1 + 1 ≡ n = omega arith in
        grown_twice counts (count_place i Heading.Orders) (n - 1) 1 ∙ ap (grown counts (count_place i Heading.Orders)) e
    go false = refl

-- the task that a tick's answer names has a row of counts
module _ (s : Shape) (im : List ℕ) (h : Lawful s im) where
  pub task_few : (t : ℕ) → t < s.n → t < most_tasks
  task_few t l = omega (arith, (sound (good_sound s im (good h))).laid.fit.tasks)

  pub tick_few : answer_task (tick s im).answer < most_tasks
  tick_few = task_few _ (tick_names s im (good h))

-- the counts after ticks
module _ (s : Shape) (im : List ℕ) where
  pub tallied_length : (counts : List ℕ) (n : ℕ) → length (tallied s im n counts) ≡ length counts
  unfolding tallied
  tallied_length counts zero = refl
  tallied_length counts (suc n) = counted_length (tallied s im n counts) (tally (tick s (ticked s im n)).answer) ∙ tallied_length counts n

  pub tallied_room : (counts : List ℕ) (n k : ℕ) → Room counts (n + k) → Room (tallied s im n counts) k
  unfolding tallied
  tallied_room counts zero k h = room_less counts k (0 + k) h (omega arith)
  tallied_room counts (suc n) k h =
      counted_room (tallied s im n counts) k (tallied_room counts n (1 + k) (room_less counts (n + (1 + k)) (suc n + k) h (omega arith))) (tally (tick s (ticked s im n)).answer)

  -- ticks after ticks
  pub tallied_joined : (m counts : List ℕ) (n k : ℕ) → m ≡ ticked s im n → tallied s im (n + k) counts ≡ tallied s m k (tallied s im n counts)
  unfolding tallied
  tallied_joined m counts n zero e =
      let z : n + 0 ≡ n = omega arith in
      ap (λ (j : ℕ). tallied s im j counts) z
  tallied_joined m counts n (suc k) e =
      let z : n + suc k ≡ suc (n + k) = omega arith in
      let so : ticked s im (n + k) ≡ ticked s m k = ticked_joined s im n k ∙ ap (λ (x : List ℕ). ticked s x k) (sym e) in
      ap (λ (j : ℕ). tallied s im j counts) z ∙
      ap (λ (l : List ℕ). counted l (tally (tick s (ticked s im (n + k))).answer)) (tallied_joined m counts n k e) ∙
      ap (λ (x : List ℕ). counted (tallied s m k (tallied s im n counts)) (tally (tick s x).answer)) so

  -- idle ticks
  pub tallied_idle : empty s im Queue.Ready ≡ true → (counts : List ℕ) (n : ℕ) → tallied s im n counts ≡ grown counts idle_count n
  unfolding tallied
  tallied_idle none counts zero = sym (grown_none counts idle_count)
  tallied_idle none counts (suc n) =
      let z : n + 1 ≡ suc n = omega arith in
      let before = tallied s im n counts in
      ap (λ (x : List ℕ). counted before (tally (tick s x).answer)) (ticked_idle s im none n) ∙
      ap (λ t. counted before (tally t.answer)) (idle_tick s im none) ∙
      ap (λ (l : List ℕ). grown l idle_count 1) (tallied_idle none counts n) ∙ grown_twice counts idle_count n 1 ∙ ap (grown counts idle_count) z

-- a row is counted as its flags tell
pub row_by_flags : (counts out : List ℕ) (i : Task) (n f e g : ℕ) → f ≡ g → e ≡ error_of f → out ≡ orders_counted counts i n (not (eqb e 0)) → out ≡ orders_counted counts i n (faulted_by g)
row_by_flags counts out i n f e g ef ee eo = rw (← ef, ← ee) eo

pub row_tallied : (s : Shape) (im : List ℕ) (n : ℕ) (i : Task) (f : ℕ) (counts more : List ℕ) → RowCounted s im n i f → more ≡ orders_counted counts i n (faulted_by f) → more ≡ tallied s im n counts
unfolding RowCounted
row_tallied s im n i f counts more h e = e ∙ sym (h counts)

-- with nobody ready all ticks are idle
pub idle_counted : (s : Shape) (im : List ℕ) → empty s im Queue.Ready ≡ true → (counts more : List ℕ) (n : ℕ) → more ≡ grown counts idle_count n → more ≡ tallied s im n counts
idle_counted s im none counts more n em = em ∙ sym (tallied_idle s im none counts n)

-- the counts in hand after ticks, and after more of them
module _ (s : Shape) (im : List ℕ) (n : ℕ) (start counts : List ℕ) (e : counts ≡ tallied s im n start) where
  pub now_long : length counts ≡ length start
  now_long = ap length e ∙ tallied_length s im start n

  pub now_ledger : Ledger start → Ledger counts
  now_ledger l = ledger_kept start counts l now_long

  pub now_room : (most : ℕ) → Room start most → n ≤ most → Room counts (most - n)
  now_room most h l = rw e (tallied_room s im start n (most - n) (room_less start (n + (most - n)) most h (omega arith)))

  pub now_more : (m more : List ℕ) (k : ℕ) → m ≡ ticked s im n → more ≡ tallied s m k counts → more ≡ tallied s im (n + k) start
  now_more m more k em ec = ec ∙ ap (tallied s m k) e ∙ sym (tallied_joined s im m start n k em)
