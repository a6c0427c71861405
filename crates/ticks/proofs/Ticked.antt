-- Laws of ticks one after another; orders of the first task in a row are such. Assumes nothing.
use mathlib.Core.Path.{◌≡◌, refl, sym, ap, ◌∙◌}
use mathlib.Core.List.{List}
use mathlib.Core.Bool.{true, false, not}
use Prim.Native.Nat.{ℕ, zero, suc, ◌+◌, ◌-◌, ◌<◌, ◌≤◌}
use native.Mathlib.Omega.{arith}
use borrow.Author.Tests.{ne_eqb}
use lib.Dec.{T, T_not, eqb}
use lib.Seq.{set-set}
use Rattle.paper.specs.Image.{ord, Valid, place, at, put, clock, flags}
use Rattle.paper.specs.Queues.{head, count, slot, first, empty}
use Rattle.paper.specs.Flags.{error, pending}
use Rattle.paper.specs.Waking.{answered}
use Rattle.paper.specs.Orders.{order, order_answer}
use Rattle.paper.specs.Events.{spent, ordered, turn_of, tick}
use Rattle.paper.specs.declared.Task.{Task}
use Rattle.paper.specs.declared.Shape.{Shape}
use Rattle.paper.specs.declared.Cell.{Cell}
use Rattle.paper.specs.declared.Queue.{Queue}
use Rattle.paper.specs.declared.Answer.{Answer}
use Rattle.laws.specs.Cells.{at_same, at_other, put_held}
use Rattle.laws.specs.Queues.{word_valid}
use Rattle.laws.specs.Sound.{Sound, sound}
use Rattle.laws.specs.Agree.{own_clock, order_agrees, after_clock}
use Rattle.laws.specs.Events.{Lawful, lawful, good}
use Rattle.event_laws.proofs.Stays.{tick_good}
use Rattle.ticks.proofs.Row.{in_a_row, row_sound, row_empty, row_first}
use Rattle.ticks.specs.Ticks.{ticked}

-- ticks after ticks
pub ticked_joined : (s : Shape) (im : List ℕ) (n k : ℕ) → ticked s im (n + k) ≡ ticked s (ticked s im n) k
ticked_joined s im n zero =
    let e : n + 0 ≡ n = omega arith in
    ap (ticked s im) e
ticked_joined s im n (suc k) =
    let e : n + suc k ≡ suc (n + k) = omega arith in
    ap (ticked s im) e ∙ ap (λ m. (tick s m).image) (ticked_joined s im n k)

module _ (s : Shape) (im : List ℕ) (none : empty s im Queue.Ready ≡ true) where
  -- a tick of nobody changes nothing
  pub idle_tick : tick s im ≡ answered Answer.Idle im
  unfolding tick
  idle_tick = rw none

  -- nor do more of them
  pub ticked_idle : (n : ℕ) → ticked s im n ≡ im
  ticked_idle zero = refl
  ticked_idle (suc n) = ap (λ (m : List ℕ). (tick s m).image) (ticked_idle n) ∙ ap (λ t. t.image) idle_tick

-- a lawful image stays lawful after so many ticks
pub ticked_lawful : (s : Shape) (im : List ℕ) → Lawful s im → (n : ℕ) → Lawful s (ticked s im n)
ticked_lawful s im h zero = h
ticked_lawful s im h (suc n) = lawful (tick_good s (ticked s im n) (good (ticked_lawful s im h n)))

-- whatever the clock says, a cell of another part holds what it held
module _ (s : Shape) (m : List ℕ) (d : ℕ) where
  pub past_clock : (c : Cell) → Valid s c → T (not (eqb (ord c.part) 0)) → at s (put s m clock d) c ≡ at s m c
  past_clock c hc t = at_other s m clock c d (omega arith, omega arith) hc (λ e. T_not (eqb (ord c.part) 0) t (rw e tt))

  -- the ready queue is empty or not as it was
  clock_empty : empty s (put s m clock d) Queue.Ready ≡ empty s m Queue.Ready
  unfolding empty
  clock_empty = rw (past_clock (count s Queue.Ready) (word_valid s Queue.Ready 2 tt (omega arith)) tt)

  -- and its first task is the same
  clock_first : Sound s m → first s (put s m clock d) Queue.Ready ≡ first s m Queue.Ready
  unfolding first
  clock_first h =
      let q = (sound h).queues Queue.Ready tt in
      rw (past_clock (head s Queue.Ready) (word_valid s Queue.Ready 0 tt (omega arith)) tt)
      (past_clock (slot s Queue.Ready (at s m (head s Queue.Ready))) (word_valid s Queue.Ready _ tt (omega (arith, q.headed, q.sized))) tt)

  -- the clock written twice is written once
  clock_twice : (b : ℕ) → put s (put s m clock b) clock d ≡ put s m clock d
  unfolding put
  clock_twice b = set-set m (place s clock).0 b d

-- a tick of the first task, with time left, no error and nothing pending, is one order
order_tick : (s : Shape) (im : List ℕ) (i : Task) → empty s im Queue.Ready ≡ false → first s im Queue.Ready ≡ i.0 → 0 < at s im clock → at s im (flags i) < 4
    → tick s im ≡ ordered s im i (order s im i)
unfolding tick turn_of
order_tick s im i some e time calm =
    let none : error s im i ≡ 0 = omega arith in
    let idle : pending s im i ≡ 0 = omega arith in
    let runs = ne_eqb (at s im clock) 0 (λ z. omega arith) in
    rw (some, e, none, runs, idle)

-- orders of the first task in a row are ticks
module _ (s : Shape) (im : List ℕ) (i : Task) (h : Sound s im) (hi : i.0 < s.n) (some : empty s im Queue.Ready ≡ false)
    (e : first s im Queue.Ready ≡ i.0) where
  -- the image after k orders with the clock at d
  abbrev row_at : ℕ → ℕ → List ℕ
  row_at k d = put s (in_a_row s im i k) clock d

  row_clock : (k d : ℕ) → at s (row_at k d) clock ≡ d
  row_clock k d = at_same s (in_a_row s im i k) clock d (omega arith, omega arith) (sound (row_sound s im i h hi k)).laid.words

  -- afterwards the task is still the first
  pub row_held : (k d : ℕ) → empty s (row_at k d) Queue.Ready ≡ false
  row_held k d = clock_empty s (in_a_row s im i k) d ∙ row_empty s im i h hi k ∙ some

  pub row_leads : (k d : ℕ) → first s (row_at k d) Queue.Ready ≡ i.0
  row_leads k d = clock_first s (in_a_row s im i k) d (row_sound s im i h hi k) ∙ row_first s im i h hi k ∙ e

  -- one more order
  row_tick : (k d : ℕ) → 0 < d → at s (in_a_row s im i k) (flags i) < 4
      → tick s (row_at k d) ≡ answered (order_answer i (order s (in_a_row s im i k) i)) (row_at (suc k) (d - 1))
  unfolding ordered spent
  row_tick k d time calm =
      let m = in_a_row s im i k in
      let lies = (sound (row_sound s im i h hi k)).laid in
      let one = order_tick s (row_at k d) i (row_held k d) (row_leads k d) (rw (row_clock k d) time)
      (rw (past_clock s m d (flags i) (hi, omega arith) tt) calm) in
      let same : order s (row_at k d) i ≡ order s m i = order_agrees s (row_at k d) m i (own_clock s m i hi lies d) in
      one ∙ rw (same, after_clock s m i hi lies d (order s m i), row_clock (suc k) d, clock_twice s (in_a_row s im i (suc k)) (d - 1) d)

  module _ (c : ℕ) (ec : c ≡ at s im clock) where
    -- n orders are n ticks, and the clock falls by n
    pub ticks_row : (n : ℕ) → n ≤ c → ((k : ℕ) → k < n → at s (in_a_row s im i k) (flags i) < 4) → ticked s im n ≡ row_at n (c - n)
    ticks_row zero l calm = sym (put_held s im clock (c - 0) (omega arith))
    ticks_row (suc n) l calm =
        let b : c - n - 1 ≡ c - suc n = omega arith in
        ap (λ (m : List ℕ). (tick s m).image) (ticks_row n (omega arith) (λ k hk. calm k (omega arith))) ∙
        ap (λ t. t.image) (row_tick n (c - n) (omega arith) (calm n (omega arith))) ∙ ap (row_at (suc n)) b

    -- and the last of them tells what the last order does
    pub row_told : (n : ℕ) → n < c → ((k : ℕ) → k < suc n → at s (in_a_row s im i k) (flags i) < 4)
        → (tick s (ticked s im n)).answer ≡ order_answer i (order s (in_a_row s im i n) i)
    row_told n l calm =
        rw (ticks_row n (omega arith) (λ k hk. calm k (omega arith))) (ap (λ t. t.answer) (row_tick n (c - n) (omega arith) (calm n (omega arith))))
