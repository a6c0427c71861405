-- What the functions that carry out orders ask and answer, as laws over values. Assumes nothing.
use Rattle.std.specs.Prelude.{Err, Ok, Result, ℕ, Option, Some, None}
use mathlib.Core.Path.{◌≡◌, refl, ap, ◌∙◌}
use mathlib.Core.List.{List}
use mathlib.Core.Bool.{cond}
use mathlib.Core.Logic.{◌≢◌, inl}
use Prim.Native.Nat.{ℕ, ◌+◌, ◌*◌, ◌/◌, ◌%◌, ◌<◌, ◌≤◌}
use native.Mathlib.Omega.{arith}
use borrow.Author.Tests.{eq-eqb, ne_eqb}
use lib.Dec.{eqb}
use lib.ListN.{length, get_or, set, length-set}
use lib.Seq.{get_or-set_other}
use Rattle.paper.specs.Image.{address}
use Rattle.paper.specs.Orders.{outside, zero_divisor, mod_word, stack, found, reading, storing, sets, unless_zero, calls, decided}
use Rattle.paper.specs.declared.Change.{Change}
use Rattle.effects.specs.Parts.{reach_of, address_of, stood_at, machine_of}
use Rattle.effects.specs.Worked.{InHand, Fell, Done, Worked}
use Rattle.effects.specs.Holding.{past_end, place_is, within, register_held, inside_held, past_held, word_held, outside_held, is_lent, is_quiet, is_from, is_row, stack_in}
use Rattle.effects.specs.Carrying.{set_went, store_went, call_went}
use Rattle.effects.specs.declared.Aim.{Aim}
use Rattle.effects.specs.declared.PartPlace.{PartPlace}
use Rattle.effects.specs.declared.Segment.{Segment}
use Rattle.effects.specs.declared.Went.{Went}

-- R0 written
pub stood : (g : Segment) (p out : List ℕ) (x : Aim) (v : ℕ) → v ≡ address_of g x → out ≡ set p 0 v → out ≡ stood_at g p x
stood g p out x v ev eo = eo ∙ ap (λ (k : ℕ). set p 0 k) ev

-- a register written: where it is R0 the row ends
module _ (a : ℕ) (next : Aim) where
  pub set_off : a ≡ 0 → Went.Off ≡ cond (eqb a 0) Went.Off (Went.On next)
  set_off e = rw (eq-eqb a 0 e) refl

  pub set_on : a ≢ 0 → Went.On next ≡ cond (eqb a 0) Went.Off (Went.On next)
  set_on ne = rw (ne_eqb a 0 ne) refl

-- an answer by its number, a word by its value
pub on_at : (y : Aim) (k : ℕ) → y.0 ≡ k → Went.On y ≡ Went.On (record { 0 = k })
on_at y k e = ap (λ (j : ℕ). Went.On (record { 0 = j })) e

pub written : (p out : List ℕ) (k v w : ℕ) → v ≡ w → out ≡ set p k v → out ≡ set p k w
written p out k v w e eo = eo ∙ ap (λ (x : ℕ). set p k x) e

-- an order that faults
module _ (g : Segment) (p m : List ℕ) (at : Aim) (hand : InHand g p at) (em : m ≡ stood_at g p at) where
  pub held_row : (k : ℕ) → k ≤ 8 → k < length m
  held_row k h = rw em (omega (arith, is_row g p at hand, length-set p 0 (address_of g at)))

  pub held_room : (e : ℕ) → e < 8 → get_or m 8 0 + 4 * e < 65536
  held_room e h = rw em (omega (arith, is_quiet g p at hand, get_or-set_other p 0 8 (address_of g at) 0 (λ z. omega arith)))

-- what faults, and what writes no register that a field names, is among what an order comes to
module _ (g : Segment) (p : List ℕ) (at : Aim) (r : Went) (out : List ℕ) where
  pub fell_done : Fell g p at r out → Done g p at r out
  unfolding Fell Done
  fell_done f = rw f.0 (f.1, f.2)

  pub done_worked : (a : ℕ) → Done g p at r out → Worked g p at a r out
  unfolding Done Worked
  done_worked a h = go r h
    where
      go : (z : Went) → Done g p at z out → Worked g p at a z out
      go (Went.On y) h = h
      go Went.Off h = (h.0, inl h.1)
      go (Went.Left w) h = h

  pub fell_worked : (a : ℕ) → Fell g p at r out → Worked g p at a r out
  fell_worked a f = done_worked a (fell_done f)

-- an order whose next one follows right after it
pub set_next : (g : Segment) (p : List ℕ) (at next : Aim) (a v : ℕ) (r : Went) (out : List ℕ) → InHand g p at → at.0 < g.to → a < 8
    → decided (machine_of g p at) ≡ sets (address_of g at + 1) a v → next.0 ≡ at.0 + 1
    → r ≡ cond (eqb a 0) Went.Off (Went.On next) → out ≡ set p a v → Worked g p at a r out
set_next g p at next a v r out hand inside h ed en er eo = set_went g p at hand 1 next inside en (omega arith) a v r out h ed er eo

-- what address y reaches
module _ (g : Segment) (p : List ℕ) (at x : Aim) (y : ℕ) (r : Option PartPlace) (hand : InHand g p at) (ex : x.0 ≡ g.from + y) (er : r ≡ reach_of g x) where
  -- none
  module _ (out : r ≡ None) where
    pub fetch_outside : (f : ℕ → Result (ℕ × Change) ℕ) → decided (machine_of g p at) ≡ reading (found (machine_of g p at) y) f → decided (machine_of g p at) ≡ Err outside
    fetch_outside f e = rw (outside_held g p at y x.0 ex (past_end g x r er out)) at e

    pub store_outside : (e : Result (ℕ × Change) ℕ) → decided (machine_of g p at) ≡ storing (machine_of g p at) y e → decided (machine_of g p at) ≡ Err outside
    store_outside e ed = rw (past_held g p at y x.0 ex (past_end g x r er out)) at ed

  -- a word
  module _ (k : PartPlace) (ek : r ≡ Some k) where
    pub fetch_next : (next : Aim) (a v : ℕ) (z : Went) (out : List ℕ) → at.0 < g.to → a < 8
        → decided (machine_of g p at) ≡ reading (found (machine_of g p at) y) (sets (address_of g at + 1) a) → v ≡ get_or p k.0 0 → next.0 ≡ at.0 + 1
        → z ≡ cond (eqb a 0) Went.Off (Went.On next) → out ≡ set p a v → Worked g p at a z out
    fetch_next next a v z out inside h ed ev en ez eo =
        let word = rw (word_held g p at y x.0 ex (is_lent g p at hand) (within g x r er k ek)) at ed in
        set_next g p at next a v z out hand inside h (rw (ev, place_is g x r er k ek) word) en ez eo

    store_inside : (e : Result (ℕ × Change) ℕ) → decided (machine_of g p at) ≡ storing (machine_of g p at) y e → decided (machine_of g p at) ≡ e
    store_inside e ed = rw (inside_held g p at y x.0 ex (is_lent g p at hand) (within g x r er k ek)) at ed

    pub store_next : (next : Aim) (v : ℕ) (out : List ℕ) → at.0 < g.to
        → decided (machine_of g p at) ≡ storing (machine_of g p at) y (Ok (address_of g at + 1, Change.Store (address y) v)) → next.0 ≡ at.0 + 1
        → out ≡ set p k.0 v → Done g p at (Went.On next) out
    store_next next v out inside ed en eo =
        let e = place_is g x r er k ek in
        store_went g p at hand next inside en y v k.0 out (store_inside (Ok (address_of g at + 1, Change.Store (address y) v)) ed)
        (e ∙ ex) (omega (arith, within g x r er k ek)) eo

-- a division
module _ (o : Result (ℕ × Change) ℕ) (next a op v y : ℕ) (eo : o ≡ unless_zero y (sets next a (cond (eqb op 8) (v / y) (v % y)))) where
  pub divisor_zero : y ≡ 0 → o ≡ Err zero_divisor
  divisor_zero e = rw (eq-eqb y 0 e) at eo

  module _ (ne : y ≢ 0) where
    pub quotient_is : op ≡ 8 → o ≡ sets next a (v / y)
    quotient_is e = rw (ne_eqb y 0 ne, eq-eqb op 8 e) at eo

    pub remainder_is : op ≢ 8 → o ≡ sets next a (v % y)
    remainder_is e = rw (ne_eqb y 0 ne, ne_eqb op 8 e) at eo

-- a call of n: top is the new stack pointer, the place that it leads to is within the segment
module _ (g : Segment) (p : List ℕ) (at : Aim) (v top n : ℕ) (hand : InHand g p at) (ev : v ≡ get_or p 1 0) (etop : top ≡ mod_word (v + 65535))
    (ed : decided (machine_of g p at) ≡ calls (machine_of g p at) (address_of g at + 2) (mod_word (stack (machine_of g p at) + 65535)) n) where
  call_storing : decided (machine_of g p at) ≡ calls (machine_of g p at) (address_of g at + 2) top n
  call_storing = rw (register_held g p at 1 (omega arith) (omega arith), ← ev, ← etop) at ed

  module _ (x : Aim) (r : Option PartPlace) (ex : x.0 ≡ g.from + top) (er : r ≡ reach_of g x) where
    pub call_outside : r ≡ None → decided (machine_of g p at) ≡ Err outside
    call_outside out =
        store_outside g p at x top r hand ex er out (Ok (address_of g at + 2, Change.Call (address top) n)) call_storing

    pub call_next : (k : PartPlace) (next y : Aim) (w : ℕ) (out : List ℕ) → r ≡ Some k → next.0 ≡ at.0 + 2 → w ≡ address_of g next
        → out ≡ set (set p k.0 w) 1 top → y.0 ≡ g.from + n → n < 65536 → Done g p at (Went.On y) out
    call_next k next y w out ek en ew eo ey low =
        let past : w ≡ address_of g at + 2 = omega (arith, ew, en, is_from g p at hand) in
        let e = place_is g x r er k ek in
        call_went g p at hand (address_of g at + 2) top n k.0 y out
        (store_inside g p at x top r hand ex er k ek (Ok (address_of g at + 2, Change.Call (address top) n)) call_storing)
        (e ∙ ex) (omega (arith, within g x r er k ek)) (eo ∙ ap (λ (j : ℕ). set (set p k.0 j) 1 top) past) ey low

-- R1 is a word of the part, whatever was written
pub stack_room : (g : Segment) (p : List ℕ) (at : Aim) (j w : ℕ) → InHand g p at → 1 < length (set p j w)
stack_room g p at j w hand = omega (arith, stack_in g p at hand, length-set p j w)
