-- Laws of ticks that are told of, and what a loop of them keeps. Assumes nothing.
use Rattle.std.specs.Prelude.{Option, Some, None}
use mathlib.Core.Path.{◌≡◌, refl, sym, ap, ◌∙◌}
use mathlib.Core.List.{List}
use mathlib.Core.Bool.{Bool, true, false, not, true≢false}
use Prim.Native.Nat.{ℕ, suc, ◌+◌, ◌-◌, ◌<◌, ◌≤◌}
use native.Mathlib.Omega.{arith}
use borrow.Author.Tests.{not-true}
use lib.ListN.{length}
use Rattle.paper.specs.Queues.{empty}
use Rattle.paper.specs.Events.{tick}
use Rattle.paper.specs.Counts.{idle_count, grown}
use Rattle.paper.specs.declared.Shape.{Shape}
use Rattle.paper.specs.declared.Queue.{Queue}
use Rattle.paper.specs.declared.Answer.{Answer}
use Rattle.laws.specs.Events.{Lawful}
use Rattle.ticks.specs.Ticks.{ticked, Told}
use Rattle.ticks.specs.Rounds.{answer_of, stays_of}
use Rattle.ticks.specs.Tallied.{tallied}
use Rattle.ticks.specs.declared.Seat.{Seat}
use Rattle.ticks.proofs.Ticked.{ticked_joined, idle_tick, ticked_idle, ticked_lawful}
use Rattle.ticks.proofs.Tallying.{now_more, idle_counted}
use Rattle.ticks.proofs.Needs.{lawful_sound, sound_long}

-- ticks that are told of: there is one at least, they lead to the image after so many, and a good image stays good
module _ (s : Shape) (im out : List ℕ) (n : ℕ) (a : Answer) (t : Told s im n a out) where
  pub told_some : 0 < n
  unfolding Told
  told_some = t.0

  pub told_ticked : out ≡ ticked s im n
  unfolding Told
  told_ticked =
      let e : suc (n - 1) ≡ n = omega (arith, t.0) in
      ap (λ o. o.image) t.1 ∙ ap (ticked s im) e

  pub told_lawful : Lawful s im → Lawful s out
  told_lawful h = rw told_ticked (ticked_lawful s im h n)

-- ticks, and then those told of
told_joined : (s : Shape) (im m out : List ℕ) (n k : ℕ) (a : Answer) → m ≡ ticked s im n → Told s m k a out → Told s im (n + k) a out
unfolding Told
told_joined s im m out n k a em (some, e) =
    let last : n + k - 1 ≡ n + (k - 1) = omega arith in
    (omega arith, e ∙ ap (tick s) (ap (λ (x : List ℕ). ticked s x (k - 1)) em ∙ sym (ap (ticked s im) last ∙ ticked_joined s im n (k - 1))))

-- with nobody ready every tick is idle
pub told_idle : (s : Shape) (im : List ℕ) (n : ℕ) → empty s im Queue.Ready ≡ true → 0 < n → Told s im n Answer.Idle im
unfolding Told
told_idle s im n none some = (some, rw (ticked_idle s im none (n - 1)) (sym (idle_tick s im none)))

-- where the first task left, its seat tells nothing of the answer
module _ (s : Shape) (out : List ℕ) (x : Seat) where
  left_as : (y : Seat) (c : Option Answer) → stays_of c ≡ false → answer_of s out y c ≡ answer_of s out x c
  unfolding answer_of stays_of
  left_as y None e = absurd (true≢false e)
  left_as y (Some a) e = refl

  pub left_answer : (y : Seat) (c : Option Answer) (b : Bool) → b ≡ stays_of c → not b ≡ true → answer_of s out y c ≡ answer_of s out x c
  left_answer y c b eb e = left_as y c (sym eb ∙ not-true b e)

-- n of most ticks have passed, from im and the counts in start to m and the counts in hand
pub record Goes (s : Shape) (im start : List ℕ) (most n : ℕ) (a : Answer) (m counts : List ℕ) : Type 0 where
  pub law : Lawful s m
  pub long : length m ≡ length im
  pub few : n ≤ most
  pub reached : m ≡ ticked s im n
  pub told : 0 < n → Told s im n a m
  pub counted : counts ≡ tallied s im n start

pub goes_none : (s : Shape) (im start : List ℕ) (most : ℕ) (a : Answer) → Lawful s im → Goes s im start most 0 a im start
unfolding tallied
goes_none s im start most a h = record { law = h; long = refl; few = omega arith; reached = refl; told = λ z. absurd (omega arith); counted = refl }

module _ (s : Shape) (im start : List ℕ) (most n : ℕ) (a : Answer) (m counts : List ℕ) (g : Goes s im start most n a m counts) where
  pub goes_as : (b : Answer) → b ≡ a → Goes s im start most n b m counts
  goes_as b e = rw e g

  -- one tick or orders in a row follow
  pub goes_on : (k : ℕ) (b : Answer) (out more : List ℕ) → Told s m k b out → k ≤ most - n → more ≡ tallied s m k counts → Goes s im start most (n + k) b out more
  goes_on k b out more t l e =
      let all = told_joined s im m out n k b g.reached t in
      let law = told_lawful s m out k b t g.law in
      record {
        law = law;
        long = sound_long s out m (lawful_sound s out law) (lawful_sound s m g.law) ∙ g.long;
        few = omega (arith, g.few);
        reached = told_ticked s im out (n + k) b all;
        told = λ z. all;
        counted = now_more s im n start counts g.counted m more k g.reached e;
      }

  -- all have passed
  pub goes_all : 0 < most → most ≤ n → (b : Answer) → b ≡ a → (counts ≡ tallied s im most start) × Told s im most b m
  goes_all some all b eb =
      let e : n ≡ most = omega (arith, g.few) in
      (g.counted ∙ ap (λ (i : ℕ). tallied s im i start) e, rw (eb, ← e) (g.told (omega arith)))

  -- or nobody is ready any more
  pub goes_idle : n < most → (b : Bool) → b ≡ empty s m Queue.Ready → b ≡ true → (more : List ℕ) → more ≡ grown counts idle_count (most - n)
      → (more ≡ tallied s im most start) × Told s im most Answer.Idle m
  goes_idle low b eb z more em =
      let e : n + (most - n) ≡ most = omega arith in
      let none = sym eb ∙ z in (
        now_more s im n start counts g.counted m more (most - n) g.reached (idle_counted s m none counts more (most - n) em) ∙ ap (λ (i : ℕ). tallied s im i start) e,
        rw e at (told_joined s im m m n (most - n) Answer.Idle g.reached (told_idle s m (most - n) none (omega arith))),
      )
