-- The queue that numbers name, and the words that it holds, each by its place from the head. Assumes nothing.
use Rattle.std.specs.Prelude.{Option, Some, None}
use mathlib.Core.Path.{◌≡◌, refl, sym, ap, ◌∙◌}
use mathlib.Core.Bool.{Bool, true, false, ◌&&◌, and-eq-true_iff}
use mathlib.Core.List.{List}
use Prim.Native.Nat.{ℕ, zero, suc, ◌+◌, ◌%◌, ◌<◌, ◌≤◌}
use native.Mathlib.Nat.{mod-lt}
use native.Mathlib.Omega.{arith}
use borrow.Author.Tests.{ltb-true}
use lib.Dec.{eqb, ltb}
use Rattle.paper.specs.Image.{task, lead, at}
use Rattle.paper.specs.Queues.{Has, header_capacity, queue_word, head, count, capacity, slot, step, first, words_from, held}
use Rattle.paper.specs.Rules.{Queued}
use Rattle.paper.specs.declared.Shape.{Shape}
use Rattle.paper.specs.declared.Queue.{Queue}
use Rattle.laws.specs.Cases.{when}
use Rattle.laws.specs.Sound.{Sound, sound, sound_sized}
use Rattle.laws.specs.Steps.{steps, steps_mod}
use Rattle.queue_rules.proofs.Held.{given_fits}
use Rattle.views.specs.Looks.{queue_if, named_queue, word_in}

-- the word k places after slot h, of n words from there on
words_at : (s : Shape) (im : List ℕ) (q : Queue) (h n k : ℕ) → k < n
    → word_in (words_from s im q h n) k ≡ Some (at s im (slot s q (steps h k (at s im (capacity s q)))))
words_at s im q h zero k l = absurd (omega arith)
words_at s im q h (suc n) zero l = refl
words_at s im q h (suc n) (suc k) l = words_at s im q (step h (at s im (capacity s q))) n k (omega arith)

words_past : (s : Shape) (im : List ℕ) (q : Queue) (h n k : ℕ) → n ≤ k → word_in (words_from s im q h n) k ≡ None
words_past s im q h zero k l = refl
words_past s im q h (suc n) zero l = absurd (omega arith)
words_past s im q h (suc n) (suc k) l = words_past s im q (step h (at s im (capacity s q))) n k (omega arith)

module _ (s : Shape) (im : List ℕ) (q : Queue) (k : ℕ) where
  -- a queue holds no word at its length or after
  pub past_held : at s im (count s q) ≤ k → word_in (held s im q) k ≡ None
  unfolding held
  past_held l = words_past s im q (at s im (head s q)) (at s im (count s q)) k l

  -- before, the word in slot (head + k) mod capacity
  pub held_slot : Queued s im q → k < at s im (count s q)
      → word_in (held s im q) k ≡ Some (at s im (slot s q ((at s im (head s q) + k) % at s im (capacity s q))))
  unfolding held
  held_slot r l =
      words_at s im q (at s im (head s q)) (at s im (count s q)) k l ∙
      ap (λ x. Some (at s im (slot s q x))) (steps_mod (at s im (head s q)) k (at s im (capacity s q)) r.headed)

-- the first of them is the word that is taken next
pub first_held : (s : Shape) (im : List ℕ) (q : Queue) → 0 < at s im (count s q) → word_in (held s im q) 0 ≡ Some (first s im q)
unfolding held first
first_held s im q l = words_at s im q (at s im (head s q)) (at s im (count s q)) 0 l

-- as code reads them: n is the length, c the capacity
module _ (s : Shape) (im : List ℕ) (q : Queue) (h : Sound s im) (hq : Has s q) where
  rules : Queued s im q
  rules = (sound h).queues q hq

  pub none_held : (k n : ℕ) → n ≡ at s im (count s q) → n ≤ k → None ≡ word_in (held s im q) k
  none_held k n en l = sym (past_held s im q k (omega arith))

  module _ (c d : ℕ) (ec : c ≡ at s im (capacity s q)) (ed : d ≡ c) where
    pub some_slots : 0 < d
    some_slots = omega (arith, rules.headed)

    pub slot_there : (x : ℕ) → lead + x % d < lead + header_capacity s q
    slot_there x = omega (arith, mod-lt x some_slots, rules.sized)

    pub slot_low : (x : ℕ) → 4 + x % d < 37
    slot_low x = omega (arith, mod-lt x some_slots, rules.sized, given_fits s im q (header_capacity s q) (sound_sized s im h) refl)

    pub word_held : (k n a b y w : ℕ) → n ≡ at s im (count s q) → k < n → a ≡ at s im (head s q) → b ≡ a → y ≡ k
        → w ≡ at s im (queue_word s q (4 + (b + y) % d)) → Some w ≡ word_in (held s im q) k
    word_held k n a b y w en l ea eb ey ew = rw (ew, ed, ec, eb, ea, ey) (sym (held_slot s im q k rules (omega arith)))

-- a named queue is one of the image's
module _ (s : Shape) (x : Queue) where
  if_has : (b : Bool) (q : Queue) → (b ≡ true → Has s q) → queue_if b q ≡ Some x → Has s x
  if_has true q f e = let same : q ≡ x = cc in rw (← same) (f refl)
  if_has false q f e = absurd (let z : ◌≡◌ {A = ℕ} 0 1 = cc in omega arith)

  -- the tests of the tasks
  one_task : (i : ℕ) (b : Bool) → (ltb i s.n && b) ≡ true → i < s.n
  one_task i b e = ltb-true i s.n ((and-eq-true_iff (ltb i s.n) b).0 e).0

  two_tasks : (i j : ℕ) → (ltb i s.n && ltb j s.n) ≡ true → (i < s.n) × (j < s.n)
  two_tasks i j e =
      let b = (and-eq-true_iff (ltb i s.n) (ltb j s.n)).0 e in
      (ltb-true i s.n b.0, ltb-true j s.n b.1)

  pub named_has : (q i j : ℕ) → named_queue s q i j ≡ Some x → Has s x
  unfolding named_queue
  named_has q i j =
      let Sane : Option Queue → Type 0 = λ n. n ≡ Some x → Has s x in
      when Sane (eqb q 0) (λ _. if_has (eqb i 0 && eqb j 0) Queue.Ready (λ _. tt))
      (λ _. when Sane (eqb q 1) (λ _. if_has (ltb i s.n && eqb j 0) (Queue.Input (task i)) (one_task i (eqb j 0)))
      (λ _. when Sane (eqb q 2) (λ _. if_has (ltb i s.n && eqb j 0) (Queue.Output (task i)) (one_task i (eqb j 0)))
      (λ _. when Sane (eqb q 3) (λ _. if_has (ltb i s.n && ltb j s.n) (Queue.Message (task i) (task j)) (two_tasks i j))
      (λ _ e. absurd (let z : ◌≡◌ {A = ℕ} 0 1 = cc in omega arith)))))
