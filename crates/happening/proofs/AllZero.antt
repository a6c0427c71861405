-- Events whose words are all 0 are ticks, and no others are. Assumes nothing.
use mathlib.Core.Path.{◌≡◌, refl, sym, ◌∙◌}
use mathlib.Core.List.{List}
use mathlib.Core.Bool.{Bool, true, false, not, ◌&&◌, and-eq-true_iff, true≢false}
use mathlib.Core.Logic.{◌≢◌}
use Prim.Native.Nat.{ℕ, zero, suc, ◌+◌, ◌-◌, ◌*◌, ◌<◌, ◌≤◌}
use native.Mathlib.Decide.{ℕ_discrete}
use native.Mathlib.Numerals.{add-one}
use native.Mathlib.Omega.{arith}
use borrow.Author.Tests.{eqb-true, ltb-true, ltb-false, not-true, not-false}
use lib.Dec.{eqb, ltb}
use lib.ListN.{get_or}
use Rattle.paper.specs.Events.{is_tick, event_of}
use Rattle.paper.specs.declared.Shape.{Shape}
use Rattle.paper.specs.declared.Event.{Event}
use Rattle.laws.specs.Events.{words_any}
use Rattle.happening.specs.Lists.{nth_event}
use Rattle.happening.specs.Ahead.{zeros_at, Ahead, Stops}

pub zeros_none : (l : List ℕ) (from : ℕ) → true ≡ zeros_at l from 0
unfolding zeros_at
zeros_none l from = refl

pub zeros_more : (l : List ℕ) (from n : ℕ) (t : Bool) → t ≡ zeros_at l from n → (t && eqb (get_or l (from + n) 0) 0) ≡ zeros_at l from (n + 1)
unfolding zeros_at
zeros_more l from n t et = rw (add-one, ← et)

pub zeros_done : (l : List ℕ) (from n k : ℕ) (t : Bool) → t ≡ zeros_at l from k → k ≤ n → n ≤ k → t ≡ zeros_at l from n
zeros_done l from n k t e low high = let z : n ≡ k = omega arith in rw z e

zeros_are : (l : List ℕ) (from n : ℕ) → zeros_at l from n ≡ true → (k : ℕ) → k < n → get_or l (from + k) 0 ≡ 0
unfolding zeros_at
zeros_are l from zero t k h = absurd (omega arith)
zeros_are l from (suc n) t k h =
    let both = (and-eq-true_iff (zeros_at l from n) (eqb (get_or l (from + n) 0) 0)).0 t in
    go both.1 (zeros_are l from n both.0 k) (ℕ_discrete k n)
  where
    go : eqb (get_or l (from + n) 0) 0 ≡ true → (k < n → get_or l (from + k) 0 ≡ 0) → Dec (k ≡ n) → get_or l (from + k) 0 ≡ 0
    go last before (yes z) = rw z (eqb-true (get_or l (from + n) 0) 0 last)
    go last before (no z) = before (omega arith)

pub ahead_none : (l : List ℕ) (from : ℕ) → Ahead l from from
unfolding Ahead
ahead_none l from k h g = absurd (omega arith)

-- events that follow
-- where no event is left, they are ticks to the end
pub ahead_all : (l : List ℕ) (from to count : ℕ) → Ahead l from to → to ≤ count → count ≤ to → Ahead l from count
ahead_all l from to count h low high = let e : count ≡ to = omega arith in rw e h

module _ (l : List ℕ) (from to : ℕ) (h : Ahead l from to) (r : Bool) (ok : not r ≡ false) where
  ahead_more : (n : ℕ) → r ≡ zeros_at l (3 * to) (3 * n) → Ahead l from (to + n)
  unfolding Ahead
  ahead_more n er k low high = go (ltb k (3 * to)) refl
    where
      go : (b : Bool) → ltb k (3 * to) ≡ b → get_or l k 0 ≡ 0
      go true z = h k low (ltb-true k (3 * to) z)
      go false z =
          let past = ltb-false k (3 * to) z in
          let e : 3 * to + (k - 3 * to) ≡ k = omega arith in
          rw e at (zeros_are l (3 * to) (3 * n) (sym er ∙ not-false r ok) (k - 3 * to) (omega arith))

  pub ahead_eight : r ≡ zeros_at l (3 * to) 24 → Ahead l from (to + 8)
  ahead_eight er = ahead_more 8 er

  pub ahead_one : r ≡ zeros_at l (3 * to) 3 → Ahead l from (to + 1)
  ahead_one er = ahead_more 1 er

-- the first of them
pub ahead_four : (l : List ℕ) (from : ℕ) (r : Bool) → not r ≡ false → r ≡ zeros_at l (3 * from) 12 → Ahead l from (from + 4)
ahead_four l from r ok er = ahead_more l from from (ahead_none l from) r ok 4 er

-- they are ticks
pub ahead_ticks : (s : Shape) (l : List ℕ) (from to : ℕ) → Ahead l from to → (j : ℕ) → from + j < to → nth_event s l (from + j) ≡ Event.Tick
unfolding Ahead nth_event event_of
ahead_ticks s l from to h j low =
    rw (h (3 * (from + j)) (omega arith) (omega arith), h (3 * (from + j) + 1) (omega arith) (omega arith), h (3 * (from + j) + 2) (omega arith) (omega arith))

-- where they end
module _ (l : List ℕ) (to count : ℕ) where
  pub stops_here : (r : Bool) → r ≡ zeros_at l (3 * to) 3 → not r ≡ true → Stops l to count
  unfolding Stops
  stops_here r er t _ = sym er ∙ not-true r t

  pub stops_last : count ≤ to → Stops l to count
  unfolding Stops
  stops_last all h = absurd (omega arith)

  pub stopped : Stops l to count → (k : ℕ) → k ≡ to → k < count → zeros_at l (3 * k) 3 ≡ false
  unfolding Stops
  stopped s k e h = rw e (s (omega arith))

-- three words that are 0 are a tick
zeros_tick : (l : List ℕ) (k : ℕ) → zeros_at l (3 * k) 3 ≡ is_tick (get_or l (3 * k) 0) (get_or l (3 * k + 1) 0) (get_or l (3 * k + 2) 0)
unfolding zeros_at
zeros_tick l k =
    let z : 3 * k + 0 ≡ 3 * k = omega arith in
    rw z (joined (eqb (get_or l (3 * k) 0) 0) (eqb (get_or l (3 * k + 1) 0) 0) (eqb (get_or l (3 * k + 2) 0) 0))
  where
    joined : (a b c : Bool) → (((true && a) && b) && c) ≡ (a && b && c)
    joined true b c = refl
    joined false b c = refl

-- and no others are
no_tick : (s : Shape) (k d c : ℕ) → is_tick k d c ≡ false → event_of s k d c ≢ Event.Tick
no_tick s k d c f =
    words_any s k d c (λ e. e ≢ Event.Tick) (λ t. absurd (true≢false (sym t ∙ f))) (λ _ _ _ z. let y : ◌≡◌ {A = ℕ} 0 1 = cc in omega arith)
    (λ _ _ z. let y : ◌≡◌ {A = ℕ} 0 1 = cc in omega arith) (λ _ z. let y : ◌≡◌ {A = ℕ} 0 1 = cc in omega arith)

pub words_no_tick : (s : Shape) (l : List ℕ) (k : ℕ) (e : Event) → e ≡ event_of s (get_or l (3 * k) 0) (get_or l (3 * k + 1) 0) (get_or l (3 * k + 2) 0)
    → zeros_at l (3 * k) 3 ≡ false → e ≢ Event.Tick
words_no_tick s l k e ee f = rw ee (no_tick s _ _ _ (sym (zeros_tick l k) ∙ f))
