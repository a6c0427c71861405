-- The ready queue gone over once: how often each task was found. Assumes nothing.
use mathlib.Core.Path.{◌≡◌, refl, sym, ◌∙◌}
use mathlib.Core.List.{List, ◌∷◌}
use mathlib.Core.Bool.{true, cond}
use mathlib.Core.Logic.{dite}
use Prim.Native.Nat.{ℕ, ◌+◌, ◌-◌, ◌%◌, ◌<◌, ◌≤◌}
use native.Mathlib.Decide.{ℕ_discrete}
use native.Mathlib.Omega.{arith}
use borrow.Author.Tests.{eq-eqb, ne_eqb}
use lib.Dec.{eqb}
use lib.ListN.{get_or, set, length, length-set}
use lib.Seq.{get_or-set_same, get_or-set_other}
use Rattle.paper.specs.Image.{most_tasks, at}
use Rattle.paper.specs.Queues.{head, count, slot, words_from, held}
use Rattle.paper.specs.Rules.{Queued, times}
use Rattle.paper.specs.Tests.{all_below, queued}
use Rattle.paper.specs.declared.Shape.{Shape}
use Rattle.paper.specs.declared.Queue.{Queue}
use Rattle.laws.specs.Sound.{Sized, sized_few}
use Rattle.laws.specs.Checked.{queued_is}
use Rattle.queue_rules.specs.ReadyCounts.{NoneFound, AllFound}
use Rattle.queue_rules.proofs.Held.{next_step, held_from, held_next, held_none}

-- each task found so far, and those left to find, are all
unfoldable pub FoundSoFar : List ℕ → List ℕ → List ℕ → Type 0
FoundSoFar found left all = (k : ℕ) → k < most_tasks → get_or found k 0 + times k left ≡ times k all

-- no count and what is left to count is over what the ready queue can hold
unfoldable pub Small : List ℕ → ℕ → Type 0
Small found left = (length found ≡ most_tasks) × ((k : ℕ) → k < most_tasks → get_or found k 0 + left ≤ most_tasks)

pub small_at : (found : List ℕ) (left k : ℕ) → Small found left → k < most_tasks → get_or found k 0 + left ≤ most_tasks
unfolding Small
small_at found left k h l = h.1 k l

-- one more word is counted
module _ (found : List ℕ) (left t : ℕ) (some : 0 < left) (low : t < most_tasks) (small : Small found left) where
  count_one : (k : ℕ) → get_or (set found t (get_or found t 0 + 1)) k 0 ≡ cond (eqb k t) 1 0 + get_or found k 0
  unfolding Small
  count_one k =
      dite (ℕ_discrete k t)
      (λ e. rw (e, eq-eqb t t refl) (get_or-set_same found t (get_or found t 0 + 1) 0 (omega (arith, small.0)) ∙ omega arith))
      (λ ne. rw (ne_eqb k t ne) (get_or-set_other found t k (get_or found t 0 + 1) 0 ne ∙ omega arith))

  pub small_more : Small (set found t (get_or found t 0 + 1)) (left - 1)
  unfolding Small
  small_more = (
    length-set found t _ ∙ small.0,
    λ k l.
        let c = count_one k in
        dite (ℕ_discrete k t) (λ e. let z = rw (eq-eqb k t e) at c in omega (arith, small.1 k l)) (λ ne. let z = rw (ne_eqb k t ne) at c in omega (arith, small.1 k l)),
  )

  pub found_more : (w : ℕ) (ws all : List ℕ) → w ≡ t → FoundSoFar found (w ∷ ws) all → FoundSoFar (set found t (get_or found t 0 + 1)) ws all
  unfolding FoundSoFar
  found_more w ws all e f k l = let c = count_one k in let z = rw e at (f k l) in omega arith

-- the words of the ready queue
module _ (s : Shape) (im : List ℕ) (z : Sized s im) (ok : queued s im Queue.Ready ≡ true) where
  rules : Queued s im Queue.Ready
  rules = (queued_is s im Queue.Ready).0 ok

  module _ (found : List ℕ) (a h n : ℕ) (ea : a ≡ h) (eh : h ≡ at s im (head s Queue.Ready)) (en : n ≡ at s im (count s Queue.Ready)) where
    pub start_rest : all_below s.n (words_from s im Queue.Ready a n) ≡ all_below s.n (held s im Queue.Ready)
    start_rest = rw (held_from s im Queue.Ready a n (ea ∙ eh) en)

    pub start_found : NoneFound found → FoundSoFar found (words_from s im Queue.Ready a n) (held s im Queue.Ready)
    unfolding FoundSoFar NoneFound
    start_found none k l = rw (held_from s im Queue.Ready a n (ea ∙ eh) en) (omega (arith, none.1 k l))

    pub start_small : NoneFound found → Small found n
    unfolding Small NoneFound
    start_small none = (none.0, λ k l. omega (arith, none.1 k l, rules.counted, rules.sized, sized_few s im z))

  -- the next of them, in slot a
  module _ (a n : ℕ) (some : 0 < n) (inside : a < s.n) where
    pub next_found : (found : List ℕ) (v t b n' : ℕ) → v ≡ at s im (slot s Queue.Ready a) → t ≡ v → t < s.n → Small found n → b ≡ (a + 1) % s.n → n' ≡ n - 1
        → FoundSoFar found (words_from s im Queue.Ready a n) (held s im Queue.Ready)
        → FoundSoFar (set found t (get_or found t 0 + 1)) (words_from s im Queue.Ready b n') (held s im Queue.Ready)
    next_found found v t b n' ev et l small eb en f =
        let low : t < most_tasks = omega (arith, sized_few s im z) in
        rw (next_step s im Queue.Ready ok a inside s.n b refl eb, en)
        (found_more found n t some low small _ _ _ (sym (et ∙ ev)) (rw (held_next s im Queue.Ready a n some) at f))

    pub next_small : (found : List ℕ) (t n' : ℕ) → t < s.n → n' ≡ n - 1 → Small found n → Small (set found t (get_or found t 0 + 1)) n'
    next_small found t n' l en small = rw en (small_more found n t some (omega (arith, sized_few s im z)) small)

pub found_all : (s : Shape) (im found : List ℕ) (a n : ℕ) → n ≤ 0 → FoundSoFar found (words_from s im Queue.Ready a n) (held s im Queue.Ready)
    → AllFound found (held s im Queue.Ready)
unfolding FoundSoFar AllFound
found_all s im found a n h f k l = let g = rw (held_none s im Queue.Ready a n h) at (f k l) in omega arith
