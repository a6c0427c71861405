-- What the slots of a queue hold, in a good image: words that the queue holds, and else 0. Assumes nothing.
use Rattle.std.specs.Prelude.{◌≡◌, refl, List, ◌≢◌, ℕ, zero, suc, ◌+◌, ◌-◌, ◌<◌, ◌≤◌}
use Rattle.std.proofs.Common.{sym, ap, ◌∙◌, arith, eq-eqb}
use Rattle.std.proofs.Math.Logic.{dite}
use Rattle.std.proofs.Math.Decide.{dec_lt}
use Rattle.paper.specs.Image.{at}
use Rattle.paper.specs.Queues.{Has, header_capacity, head, tail, count, capacity, slot, step, words_from, held, free}
use Rattle.paper.specs.Rules.{times, Good}
use Rattle.paper.specs.declared.Shape.{Shape}
use Rattle.paper.specs.declared.Queue.{Queue}
use Rattle.laws.specs.Steps.{steps, steps_add, steps_to}
use Rattle.laws.specs.Queues.{zero_among, round_steps}

-- a list holds a word
abbrev pub Holds : List ℕ → ℕ → Type 0
Holds ws w = 1 ≤ times w ws

-- no slot of a queue holds a word unless the queue holds it
abbrev pub OnlyHeld : Shape → List ℕ → Queue → ℕ → Type 0
OnlyHeld s im q w = (k : ℕ) → k < header_capacity s q → at s im (slot s q k) ≡ w → Holds (held s im q) w

module _ (s : Shape) (im : List ℕ) (q : Queue) where
  -- among n words from slot h on is that of each of the n slots
  among : (h n j : ℕ) → j < n → Holds (words_from s im q h n) (at s im (slot s q (steps h j (at s im (capacity s q)))))
  among h zero j l = absurd (omega arith)
  among h (suc n) zero l = let x = at s im (slot s q h) in rw (eq-eqb x x refl) (omega arith)
  among h (suc n) (suc j) l = omega (arith, among (step h (at s im (capacity s q))) n j (omega arith))

-- THE SLOTS: each word of a queue's slots that is not 0 is a word that the queue holds
pub slots_held : (s : Shape) (im : List ℕ) → Good s im → (q : Queue) → Has s q → (w : ℕ) → w ≢ 0 → OnlyHeld s im q w
unfolding held free
slots_held s im g q has w ne k l e =
    let r = g.queues q has in
    let h = at s im (head s q) in
    let n = at s im (count s q) in
    let c = at s im (capacity s q) in
    let t = at s im (tail s q) in
    let way = steps_to h k c r.headed (omega (arith, r.sized)) in
    let j = way.0 in
    let here : at s im (slot s q (steps h j c)) ≡ w = ap (λ (x : ℕ). at s im (slot s q x)) way.2 ∙ e in
    dite (dec_lt j n) (λ in_held. rw (← here) (among s im q h n j in_held))
    (λ past.
    let parts : n + (j - n) ≡ j = omega arith in
    let from : steps h j c ≡ steps t (j - n) c =
    ap (λ (x : ℕ). steps h x c) (sym parts) ∙ steps_add h n (j - n) c ∙ ap (λ (x : ℕ). steps x (j - n) c) (round_steps s im q has g.laid.words r) in
    absurd (ne (sym here ∙ ap (λ (x : ℕ). at s im (slot s q x)) from ∙ zero_among s im q t (c - n) (j - n) (omega (arith, way.1)) (g.cleared q has))))
