-- The words of a queue: where they lie, and those that it holds, one after another. Assumes nothing.
use mathlib.Core.Path.{◌≡◌, sym, ap, ◌∙◌}
use mathlib.Core.List.{List, [], ◌∷◌}
use mathlib.Core.Bool.{Bool, true, false, ◌&&◌}
use Prim.Native.Nat.{ℕ, suc, ◌+◌, ◌-◌, ◌%◌, ◌<◌, ◌≤◌}
use native.Mathlib.Nat.{mod-lt}
use native.Mathlib.Omega.{arith}
use borrow.Author.Tests.{lt-ltb, le-ltb}
use lib.Dec.{eqb, leb, ltb}
use Rattle.paper.specs.Image.{lead, most_capacity, cell, Valid, place, at}
use Rattle.paper.specs.Queues.{Has, header_capacity, queue_word, head, tail, count, capacity, slot, step, words_from, held, free}
use Rattle.paper.specs.Rules.{Queued}
use Rattle.paper.specs.Tests.{all_below, queued, cleared}
use Rattle.paper.specs.declared.Shape.{Shape}
use Rattle.paper.specs.declared.Place.{Place}
use Rattle.paper.specs.declared.Cell.{Cell}
use Rattle.paper.specs.declared.Queue.{Queue}
use Rattle.laws.specs.Sound.{Sized, sized_fit}
use Rattle.laws.specs.Steps.{step_mod}
use Rattle.laws.specs.Queues.{word_valid}
use Rattle.laws.specs.Checked.{queued_is}

-- word k of a queue, in the row of its first word
module _ (s : Shape) (im : List ℕ) (q : Queue) (c : Cell) (k : ℕ) (e : c ≡ head s q) where
  pub word_found : Has s q → k < lead + header_capacity s q → Valid s (cell c.part c.row k)
  word_found h l = rw e (word_valid s q k h l)

  pub word_got : (r : ℕ) → r ≡ at s im (cell c.part c.row k) → r ≡ at s im (queue_word s q k)
  word_got r er = rw (er, e)

-- the first word of a queue, and where it lies
pub head_found : (s : Shape) (q : Queue) (c : Cell) → c ≡ head s q → Has s q → Valid s c
head_found s q c e h = rw e (word_valid s q 0 h (omega arith))

pub head_placed : (s : Shape) (q : Queue) (c : Cell) (p : Place) → c ≡ head s q → p ≡ place s c → p.0 ≡ (place s (head s q)).0
head_placed s q c p ec ep = rw (ep, ec)

-- the leading words as they are tested
pub queued_tested : (s : Shape) (im : List ℕ) (q : Queue) (given h t n c : ℕ) (r : Bool) → h ≡ at s im (head s q) → t ≡ at s im (tail s q)
    → n ≡ at s im (count s q) → c ≡ at s im (capacity s q) → given ≡ header_capacity s q
    → r ≡ (eqb c given && ltb h c && ltb t c && leb n c && eqb ((h + n) % c) t) → r ≡ queued s im q
unfolding queued
queued_tested s im q given h t n c r eh et en ec eg er = rw (er, eh, et, en, ec, eg)

-- the capacity that the header gives is in range
pub given_fits : (s : Shape) (im : List ℕ) (q : Queue) (g : ℕ) → Sized s im → g ≡ header_capacity s q → (0 < g) × (g ≤ most_capacity)
given_fits s im Queue.Ready g z e = let r = (sized_fit s im z).tasks in (omega arith, omega arith)
given_fits s im (Queue.Input i) g z e = let r = (sized_fit s im z).inputs in (omega arith, omega arith)
given_fits s im (Queue.Output i) g z e = let r = (sized_fit s im z).outputs in (omega arith, omega arith)
given_fits s im (Queue.Message i j) g z e = let r = (sized_fit s im z).messages in (omega arith, omega arith)

-- the words that a queue holds, one after another: a is the slot of the next, n how many are left, g the capacity given
module _ (s : Shape) (im : List ℕ) (q : Queue) (ok : queued s im q ≡ true) where
  rules : Queued s im q
  rules = (queued_is s im q).0 ok

  pub head_inside : (a h : ℕ) → a ≡ h → h ≡ at s im (head s q) → a < header_capacity s q
  head_inside a h ea eh = omega (arith, rules.headed, rules.sized)

  pub tail_inside : (a t : ℕ) → a ≡ t → t ≡ at s im (tail s q) → a < header_capacity s q
  tail_inside a t ea et = omega (arith, rules.tailed, rules.sized)

  -- no more words are held than there are slots
  pub count_inside : (a n g : ℕ) → a ≡ n → n ≡ at s im (count s q) → g ≡ header_capacity s q → a ≤ g
  count_inside a n g ea en eg = omega (arith, rules.counted, rules.sized)

  module _ (a : ℕ) (inside : a < header_capacity s q) (g b : ℕ) (eg : g ≡ header_capacity s q) (eb : b ≡ (a + 1) % g) where
    pub next_step : b ≡ step a (at s im (capacity s q))
    next_step = eb ∙ rw (eg, rules.sized) (sym (step_mod a (header_capacity s q) inside))

    pub next_inside : b < header_capacity s q
    next_inside = rw (eb, eg) (mod-lt (a + 1) (omega arith))

pub held_from : (s : Shape) (im : List ℕ) (q : Queue) (a n : ℕ) → a ≡ at s im (head s q) → n ≡ at s im (count s q) → words_from s im q a n ≡ held s im q
unfolding held
held_from s im q a n ea en = rw (ea, en)

pub held_next : (s : Shape) (im : List ℕ) (q : Queue) (a n : ℕ) → 0 < n
    → words_from s im q a n ≡ at s im (slot s q a) ∷ words_from s im q (step a (at s im (capacity s q))) (n - 1)
held_next s im q a n h =
    let e : n ≡ suc (n - 1) = omega arith in
    ap (words_from s im q a) e

pub held_none : (s : Shape) (im : List ℕ) (q : Queue) (a n : ℕ) → n ≤ 0 → words_from s im q a n ≡ []
held_none s im q a n h = let e : n ≡ 0 = omega arith in rw e

module _ (s : Shape) (im : List ℕ) (q : Queue) (m a n : ℕ) where
  module _ (all : Bool) (so_far : all_below m (words_from s im q a n) ≡ all) where
    pub below_fails : (v r w : ℕ) → 0 < n → v ≡ a → r ≡ at s im (slot s q v) → w ≡ r → m ≤ w → false ≡ all
    below_fails v r w h ev er ew l =
        let e : w ≡ at s im (slot s q a) = rw (ew, er, ev) in
        rw (held_next s im q a n h, ← e, le-ltb w m l) at so_far

    pub below_more : (v r w b c n' : ℕ) → 0 < n → v ≡ a → r ≡ at s im (slot s q v) → w ≡ r → w < m → c ≡ at s im (capacity s q) → b ≡ step a c
        → n' ≡ n - 1 → all_below m (words_from s im q b n') ≡ all
    below_more v r w b c n' h ev er ew l ec eb en =
        let e : w ≡ at s im (slot s q a) = rw (ew, er, ev) in
        rw (eb, ec, en) (rw (held_next s im q a n h, ← e, lt-ltb w m l) at so_far)

    pub below_done : n ≤ 0 → true ≡ all
    below_done h = rw (held_none s im q a n h) at so_far

-- the words held, and those of the free slots
module _ (s : Shape) (im : List ℕ) (q : Queue) (o : Bool) where
  pub held_tested : (a h m c n : ℕ) → h ≡ at s im (head s q) → a ≡ h → c ≡ at s im (count s q) → n ≡ c → o ≡ all_below m (words_from s im q a n)
      → o ≡ all_below m (held s im q)
  held_tested a h m c n eh ea ec en eo = eo ∙ rw (held_from s im q a n (ea ∙ eh) (en ∙ ec))

  pub cleared_tested : queued s im q ≡ true → (a t c n g : ℕ) → t ≡ at s im (tail s q) → a ≡ t → c ≡ at s im (count s q) → n ≡ c → g ≡ header_capacity s q
      → o ≡ all_below 1 (words_from s im q a (g - n)) → o ≡ cleared s im q
  unfolding cleared free
  cleared_tested ok a t c n g et ea ec en eg eo = let e = (rules s im q ok).sized in rw (eo, ea, et, en, ec, eg, e)
