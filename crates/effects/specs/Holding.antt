-- The machine in a lent part, R0 of it in hand: what its words are, and what is reached. Assumes nothing.
use Rattle.std.specs.Prelude.{◌≡◌, refl, List, Bool, true, false, ℕ, ◌+◌, ◌-◌, ◌*◌, ◌<◌, ◌≤◌, ltb, length, None, Some, Option}
use Rattle.std.proofs.Common.{sym, ◌∙◌, arith, lt-ltb, le-ltb, ltb-true, ltb-false}
use Rattle.std.proofs.Math.Path.{ap}
use Rattle.std.proofs.Math.ListN.{get_or}
use Rattle.std.proofs.Math.Seq.{get_or-set_same, get_or-set_other}
use Rattle.paper.specs.Orders.{register, with_register, operand, inside, found}
use Rattle.own.specs.Machines.{machine_fits, machine_register, machine_flags, found_word, found_outside}
use Rattle.effects.specs.Parts.{Lent, lies_of, reach_of, address_of, stood_at, machine_of}
use Rattle.effects.specs.Worked.{InHand}
use Rattle.effects.specs.declared.Aim.{Aim}
use Rattle.effects.specs.declared.PartPlace.{PartPlace}
use Rattle.effects.specs.declared.Segment.{Segment}

-- where an address leads tells what is reached
module _ (g : Segment) (x : Aim) where
  pub reach_at : x.0 < g.to → Some (record { 0 = x.0 }) ≡ reach_of g x
  reach_at h = rw (lt-ltb x.0 g.to h)

  pub reach_past : g.to ≤ x.0 → None ≡ reach_of g x
  reach_past h = rw (le-ltb x.0 g.to h)

-- and the other way round
module _ (g : Segment) (x : Aim) (r : Option PartPlace) (er : r ≡ reach_of g x) where
  told : (b : Bool) → ltb x.0 g.to ≡ b → (r ≡ None → g.to ≤ x.0) × ((k : PartPlace) → r ≡ Some k → (k.0 ≡ x.0) × (x.0 < g.to))
  told true e =
      let is : r ≡ Some (record { 0 = x.0 }) = rw e at er in (
        λ o.
            let z : ◌≡◌ {A = ℕ} 0 1 = cc in
            absurd (omega arith),
        λ k q.
            let same : k ≡ record { 0 = x.0 } = cc in
            (ap (λ (j : PartPlace). j.0) same, ltb-true x.0 g.to e),
      )
  told false e =
      let is : r ≡ None = rw e at er in (
        λ o. ltb-false x.0 g.to e,
        λ k q.
            let z : ◌≡◌ {A = ℕ} 0 1 = cc in
            absurd (omega arith),
      )

  pub past_end : r ≡ None → g.to ≤ x.0
  past_end e = (told (ltb x.0 g.to) refl).0 e

  module _ (k : PartPlace) (ek : r ≡ Some k) where
    pub place_is : k.0 ≡ x.0
    place_is = ((told (ltb x.0 g.to) refl).1 k ek).0

    pub within : x.0 < g.to
    within = ((told (ltb x.0 g.to) refl).1 k ek).1

module _ (g : Segment) (p : List ℕ) (at : Aim) where
  -- a word of the part other than R0 is as it was
  kept : (j : ℕ) → 0 < j → get_or (stood_at g p at) j 0 ≡ get_or p j 0
  kept j h = get_or-set_other p 0 j (address_of g at) 0 (λ e. omega arith)

  -- R0 is the address of the place, the other registers and the flags are the words of the part
  pub next_held : Lent g p → register (machine_of g p at) 0 ≡ address_of g at
  unfolding Lent
  next_held lent =
      machine_register (lies_of g) (stood_at g p at) 0 (omega arith) ∙ get_or-set_same p 0 (address_of g at) 0 (omega (arith, lent))

  pub register_held : (r : ℕ) → 0 < r → r < 8 → register (machine_of g p at) r ≡ get_or p r 0
  register_held r h k =
      let e : 0 + r ≡ r = omega arith in
      machine_register (lies_of g) (stood_at g p at) r k ∙ ap (λ (j : ℕ). get_or (stood_at g p at) j 0) e ∙ kept r h

  pub flags_held : (machine_of g p at).flags ≡ get_or p 8 0
  flags_held = machine_flags (lies_of g) (stood_at g p at) ∙ kept 8 (omega arith)

  -- operands, read when R0 is moved past the order
  pub operand_next : (next : ℕ) → operand (machine_of g p at) next 0 ≡ next
  unfolding operand with_register
  operand_next next =
      get_or-set_same (machine_of g p at).registers 0 next 0 (omega (arith, (machine_fits (lies_of g) (stood_at g p at)).0))

  pub operand_held : (next r : ℕ) → 0 < r → r < 8 → operand (machine_of g p at) next r ≡ get_or p r 0
  unfolding operand with_register
  operand_held next r h k =
      get_or-set_other (machine_of g p at).registers 0 r next 0 (λ e. omega arith) ∙ register_held r h k

  -- address a of the segment is place k of the part, within the segment or past it
  module _ (a k : ℕ) (e : k ≡ g.from + a) where
    pub inside_held : Lent g p → k < g.to → inside (machine_of g p at) a ≡ true
    unfolding Lent
    inside_held lent h =
        rw (machine_fits (lies_of g) (stood_at g p at)).1 (lt-ltb a (g.to - g.from) (omega (arith, lent)))

    pub past_held : g.to ≤ k → inside (machine_of g p at) a ≡ false
    past_held h =
        rw (machine_fits (lies_of g) (stood_at g p at)).1 (le-ltb a (g.to - g.from) (omega arith))

    pub word_held : Lent g p → k < g.to → found (machine_of g p at) a ≡ Some (get_or p k 0)
    unfolding Lent
    word_held lent h =
        found_word (lies_of g) (stood_at g p at) a (omega (arith, lent)) ∙
        ap (λ (w : ℕ). Some w) (ap (λ (j : ℕ). get_or (stood_at g p at) j 0) (sym e) ∙ kept k (omega (arith, lent)))

    pub outside_held : g.to ≤ k → found (machine_of g p at) a ≡ None
    outside_held h = found_outside (lies_of g) (stood_at g p at) a (omega arith)

-- what R0 in hand says
module _ (g : Segment) (p : List ℕ) (at : Aim) (hand : InHand g p at) where
  pub is_lent : Lent g p
  unfolding InHand
  is_lent = hand.0

  pub is_quiet : get_or p 8 0 < 4
  unfolding InHand
  is_quiet = hand.1

  pub is_based : g.from < 65536
  unfolding Lent
  is_based = omega (arith, is_lent)

  pub is_from : g.from ≤ at.0
  unfolding InHand
  is_from = hand.2

  pub is_low : address_of g at < 65536
  unfolding InHand
  is_low = omega (arith, hand.3, is_from)

  pub is_near : at.0 < 131072
  unfolding InHand
  is_near = omega (arith, hand.3, is_based)

  -- a word of the row is a word of the part, and so is one of the segment
  pub is_some : 0 < length p
  unfolding Lent
  is_some = omega (arith, is_lent)

  pub is_row : 8 < length p
  unfolding Lent
  is_row = omega (arith, is_lent)

  pub stack_in : 1 < length p
  stack_in = omega (arith, is_row)

  pub register_in : (r : ℕ) → r < 8 → r < length p
  register_in r h = omega (arith, is_row)

  segment_in : (k : ℕ) → k < g.to → k < length p
  unfolding Lent
  segment_in k h = omega (arith, is_lent)

-- a word of the segment is a word of the part
module _ (g : Segment) (p : List ℕ) (at x : Aim) (r : Option PartPlace) (k : PartPlace) (hand : InHand g p at) (er : r ≡ reach_of g x) (ek : r ≡ Some k) where
  pub read_in : k.0 < length p
  read_in = segment_in g p at hand k.0 (omega (arith, place_is g x r er k ek, within g x r er k ek))

  pub twice_fits : k.0 * 2 < 18446744073709551616
  unfolding Lent
  twice_fits = omega (arith, place_is g x r er k ek, within g x r er k ek, is_lent g p at hand)

-- the place past an order has an address
module _ (g : Segment) (p : List ℕ) (at next : Aim) (k : ℕ) (hand : InHand g p at) (en : next.0 ≡ at.0 + k) where
  pub past_from : g.from ≤ next.0
  past_from = omega (arith, is_from g p at hand)

  pub past_low : at.0 < g.to → k ≤ 2 → address_of g next < 65536
  unfolding Lent
  past_low h two = omega (arith, is_lent g p at hand)
