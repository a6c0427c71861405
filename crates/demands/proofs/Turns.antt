-- Demand 3: call by call a task comes nearer to its turn, untouched, till it stands first. Assumes nothing.
use Rattle.std.specs.Prelude.{Result}
use mathlib.Core.Path.{◌≡◌, refl, sym, ◌∙◌}
use mathlib.Core.List.{List}
use mathlib.Core.Bool.{Bool, true, false}
use mathlib.Core.Logic.{◌⊎◌, inl, inr, ⊎_elim}
use Prim.Native.Nat.{ℕ, zero, suc, ◌+◌, ◌<◌, ◌≤◌}
use native.Mathlib.Decide.{ℕ_discrete}
use native.Mathlib.Omega.{arith}
use Rattle.paper.specs.Image.{shape_of}
use Rattle.paper.specs.Queues.{first, empty}
use Rattle.paper.specs.Rules.{Good}
use Rattle.paper.specs.Promises.{Happens}
use Rattle.paper.specs.declared.Task.{Task}
use Rattle.paper.specs.declared.Shape.{Shape}
use Rattle.paper.specs.declared.Queue.{Queue}
use Rattle.laws.specs.Checked.{check_zero}
use Rattle.event_laws.proofs.Stays.{words_good}
use Rattle.user_laws.specs.Folded.{event_is}
use Rattle.bound.specs.Bound.{Behind, most_ticks, IsFirst, Untouched, tick_count, if_accepted}
use Rattle.bound.specs.Measure.{measure, Nears}
use Rattle.bound.specs.Line.{behind_first}
use Rattle.bound.proofs.Falls.{event_nears, event_untouched}
use Rattle.demands.specs.Demands.{Calls, ReadyBehind, ticks_in, FirstAfter, NotBefore, TurnComes}
use Rattle.paper.specs.declared.Answer.{Answer}
use Rattle.paper.specs.declared.Refusal.{Refusal}

-- what a call on a good image does to a task with others ahead of it
record Nearer (s : Shape) (im m : List ℕ) (i : Task) (k spent : ℕ) : Type 0 where
  good : Good s m
  nears : Nears s im m i k spent
  untouched : Untouched s im m i

-- whoever makes it, and keeps the promise
nearer : (s : Shape) (im : List ℕ) (g : Good s im) (x y z : ℕ) (i : Task) (k : ℕ) (b : Behind s im i (suc k)) (a : Result Answer Refusal) (m : List ℕ) → Happens im x y z a m
    → Nearer s im m i (suc k) (if_accepted a (tick_count x y z))
nearer s im g x y z i k b a m h =
    rw (h.answered, h.left, event_is s im g x y z)
    record { good = words_good s im g x y z; nears = event_nears s im g i k b x y z; untouched = event_untouched s im g i k b x y z }

-- a task is first, or it is not
first_or_not : (s : Shape) (im : List ℕ) (i : Task) → Dec (IsFirst s im i)
first_or_not s im i = go (empty s im Queue.Ready) refl (ℕ_discrete (first s im Queue.Ready) i.0)
  where
    go : (b : Bool) → empty s im Queue.Ready ≡ b → Dec (first s im Queue.Ready ≡ i.0) → Dec (IsFirst s im i)
    go true e d = no (λ h. let z : true ≡ false = sym e ∙ h.some in let y : ◌≡◌ {A = ℕ} 0 1 = cc in omega arith)
    go false e (yes f) = yes record { some = e; named = f }
    go false e (no n) = no (λ h. n h.named)

-- what can be waited is within the bound
measure_most : (s : Shape) (im : List ℕ) (k : ℕ) → measure s im k ≤ most_ticks s im k
measure_most s im zero = omega arith
measure_most s im (suc k) = omega arith

-- none is ahead where no tick is left to wait
ahead_none : (s : Shape) (im : List ℕ) (k : ℕ) → measure s im k ≤ 0 → k ≡ 0
ahead_none s im zero h = refl
ahead_none s im (suc k) h = absurd (omega (arith, h))

module _ (events : List ℕ) (count : ℕ) (c : Calls events count) (i : Task) (k : ℕ) (w : ReadyBehind (c.image 0) i k) where
  abbrev s : Shape
  s = shape_of (c.image 0)

  -- where the task stands after n calls, if it was not first before
  record Standing (n : ℕ) : Type 0 where
    good : Good s (c.image n)
    ahead : ℕ
    stands : Behind s (c.image n) i ahead
    spent : ticks_in c n + measure s (c.image n) ahead ≤ measure s (c.image 0) k
    untouched : Untouched s (c.image 0) (c.image n) i

  at_first : Standing 0
  at_first = record {
    good = (check_zero (c.image 0)).0 (sym w.passes.answered);
    ahead = k;
    stands = w.behind;
    spent = omega arith;
    untouched = record { lies_kept = refl; own_kept = refl };
  }

  after_one : (n : ℕ) → n < count → Standing n → ¬ FirstAfter c i n → Standing (suc n)
  after_one n l t not = go t.ahead t.stands t.spent
    where
      go : (a : ℕ) → Behind s (c.image n) i a → ticks_in c n + measure s (c.image n) a ≤ measure s (c.image 0) k → Standing (suc n)
      go zero b h = absurd (not (behind_first s (c.image n) t.good i b))
      go (suc a) b h =
          let x = nearer s (c.image n) t.good _ _ _ i a b (c.reply n) (c.image (suc n)) (c.kept n l) in
          record {
            good = x.good;
            ahead = x.nears.ahead;
            stands = x.nears.stands;
            spent = omega (arith, x.nears.falls, h);
            untouched = record {
              lies_kept = x.untouched.lies_kept ∙ t.untouched.lies_kept;
              own_kept = x.untouched.own_kept ∙ t.untouched.own_kept;
            };
          }

  after : (n : ℕ) → n ≤ count → NotBefore c i n → Standing n
  after zero l not = at_first
  after (suc n) l not = after_one n (omega arith) (after n (omega arith) (λ m h. not m (omega arith))) (not n (omega arith))

  -- the least number of calls after which it is first, if there is one
  abbrev Least : ℕ → Type 0
  Least n = ((m : ℕ) × (m ≤ n) × FirstAfter c i m × NotBefore c i m) ⊎ NotBefore c i (suc n)

  one_more : (n : ℕ) → NotBefore c i n → Least n
  one_more n h = go (first_or_not s (c.image n) i)
    where
      go : Dec (FirstAfter c i n) → Least n
      go (yes f) = inl (n, omega arith, f, h)
      go (no f) = inr (λ m l. either m (ℕ_discrete m n) l)
        where
          either : (m : ℕ) → Dec (m ≡ n) → m < suc n → ¬ FirstAfter c i m
          either m (yes e) l = rw e f
          either m (no ne) l = h m (omega (arith, ne, l))

  least : (n : ℕ) → Least n
  least zero = one_more 0 (λ m l. absurd (omega arith))
  least (suc n) = ⊎_elim (λ h. inl (h.0, omega (arith, h.1), h.2, h.3)) (one_more (suc n)) (least n)

  -- with no tick left to wait it is first
  waited_out : (n : ℕ) (t : Standing n) → measure s (c.image n) t.ahead ≤ 0 → FirstAfter c i n
  waited_out n t h = behind_first s (c.image n) t.good i (rw (ahead_none s (c.image n) t.ahead h) at t.stands)

  pub turn : TurnComes c i k
  turn =
      let most = measure_most s (c.image 0) k in
      record {
        first = λ enough. ⊎_elim
            (λ h. (h.0, h.1, omega (arith, (after h.0 h.1 h.3).spent, most), h.2, h.3))
            (λ h. let t = after count (omega arith) (λ m l. h m (omega arith)) in
            absurd (h count (omega arith) (waited_out count t (omega (arith, t.spent, most, enough)))))
            (least count);
        untouched = λ n l h. (after n l h).untouched;
      }
