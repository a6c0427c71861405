-- What the calls of this crate ask and make, as laws over values. Assumes nothing.
use mathlib.Core.Path.{◌≡◌, ap, ◌∙◌}
use mathlib.Core.List.{List}
use mathlib.Core.Bool.{Bool, false}
use Prim.Native.Nat.{ℕ, ◌+◌, ◌<◌, ◌≤◌}
use native.Mathlib.Omega.{arith}
use lib.Dec.{eqb}
use lib.ListN.{get_or, set, length}
use Rattle.paper.specs.Image.{most_words, lead, cell, Valid, place, at, put}
use Rattle.paper.specs.Queues.{Has, header_capacity, queue_word, head, count, slot, appended, first, taken, empty, full}
use Rattle.paper.specs.declared.Place.{Place}
use Rattle.paper.specs.declared.Shape.{Shape}
use Rattle.paper.specs.declared.Cell.{Cell}
use Rattle.paper.specs.declared.Part.{Part}
use Rattle.paper.specs.declared.Queue.{Queue}
use Rattle.laws.specs.Places.{below}
use Rattle.laws.specs.Queues.{word_valid}
use Rattle.laws.specs.Sound.{Sound, sound, has_space, has_word, fixed, put_sound, appended_sound, taken_sound}
use Rattle.rings.specs.Ring.{Ring, append_at, first_at, take_at}
use Rattle.words.specs.Spots.{spot_cell, HasSpot, Rowed}
use Rattle.words.specs.declared.Spot.{Spot}
use Rattle.words.specs.declared.Row.{Row}

-- a spot is a cell of the image, past the fixed words of its row
pub spot_valid : (s : Shape) (x : Spot) → HasSpot s x → Valid s (spot_cell x)
spot_valid s Spot.Clock h = omega arith
spot_valid s (Spot.Status i) h = omega arith
spot_valid s (Spot.Peer i) h = omega arith
spot_valid s (Spot.Busy i) h = omega arith
spot_valid s (Spot.Character i) h = omega arith

spot_free : (x : Spot) → fixed (spot_cell x).part ≤ (spot_cell x).column
spot_free Spot.Clock = omega arith
spot_free (Spot.Status i) = omega arith
spot_free (Spot.Peer i) = omega arith
spot_free (Spot.Busy i) = omega arith
spot_free (Spot.Character i) = omega arith

-- the cell that code finds for a spot
pub found_valid : (s : Shape) (x : Spot) (c : Cell) → c ≡ spot_cell x → HasSpot s x → Valid s c
found_valid s x c e n = rw e (spot_valid s x n)

-- the word read at a spot
pub got : (s : Shape) (im : List ℕ) (x : Spot) (c : Cell) (r : ℕ) → c ≡ spot_cell x → r ≡ at s im c → r ≡ at s im (spot_cell x)
got s im x c r ec er = rw (er, ec)

-- a place that code finds for a cell lies in the image
pub place_inside : (s : Shape) (im : List ℕ) (c : Cell) (p : Place) → p ≡ place s c → Sound s im → Valid s c → p.0 < length im
place_inside s im c p e h v = omega (arith, ap (λ (x : Place). x.0) e, below s c v, (sound h).laid.words)

module _ (s : Shape) (im out : List ℕ) (x : Spot) (c : Cell) (p : Place) (v : ℕ) (ec : c ≡ spot_cell x) (ep : p ≡ place s c) (eo : out ≡ set im p.0 v) where
  pub spot_put : out ≡ put s im (spot_cell x) v
  unfolding put
  spot_put = rw (eo, ep, ec)

  pub spot_put_sound : Sound s im → HasSpot s x → Sound s out
  spot_put_sound h n = rw spot_put (put_sound s im (spot_cell x) v (spot_valid s x n) (spot_free x) h)

-- a word of a task's row, as it lies from the row's place on
abbrev own_cell : Row → ℕ → Cell
own_cell x k = cell Part.TaskTable x.task.0 k

module _ (s : Shape) (im : List ℕ) (x : Row) (k : ℕ) (h : Sound s im) (r : Rowed s x) (hk : k < 9) where
  own_along : (place s (own_cell x k)).0 ≡ x.place.0 + k
  unfolding place
  own_along = omega (arith, ap (λ (p : Place). p.0) r.placed)

  own_valid : Valid s (own_cell x k)
  own_valid = (r.known, hk)

  pub own_inside : x.place.0 + k < length im
  own_inside = omega (arith, own_along, below s (own_cell x k) own_valid, (sound h).laid.words)

  pub own_small : x.place.0 + k < most_words
  own_small = omega (arith, own_inside, (sound h).laid.words, (sound h).laid.fit.words)

  pub own_is : (w : ℕ) → w ≡ get_or im (x.place.0 + k) 0 → w ≡ at s im (own_cell x k)
  unfolding at
  own_is w e = rw own_along e

  pub own_put : (v : ℕ) → set im (x.place.0 + k) v ≡ put s im (own_cell x k) v
  unfolding put
  own_put v = rw own_along

  pub own_put_sound : (v : ℕ) → Sound s (set im (x.place.0 + k) v)
  own_put_sound v = rw (own_put v) (put_sound s im (own_cell x k) v own_valid (omega arith) h)

-- the head of a queue is a cell of the image
pub head_valid : (s : Shape) (q : Queue) (c : Cell) → c ≡ head s q → Has s q → Valid s c
head_valid s q c e h = rw e (word_valid s q 0 h (omega arith))

-- the words of a queue as they lie from its place on
along : (s : Shape) (q : Queue) (k : ℕ) → (place s (queue_word s q k)).0 ≡ (place s (head s q)).0 + k
unfolding place
along s q k = omega arith

slot_along : (s : Shape) (q : Queue) (k : ℕ) → (place s (slot s q k)).0 ≡ (place s (head s q)).0 + 4 + k
slot_along s q k = omega (arith, along s q (lead + k))

module _ (s : Shape) (im : List ℕ) (q : Queue) (p : Place) (e : p ≡ place s (head s q)) where
  word_is : (k : ℕ) → get_or im (p.0 + k) 0 ≡ at s im (queue_word s q k)
  unfolding at
  word_is k = rw (e, along s q k)

  head_is : get_or im p.0 0 ≡ at s im (head s q)
  unfolding at
  head_is = rw e

  pub count_is : (r : ℕ) → r ≡ get_or im (p.0 + 2) 0 → r ≡ at s im (count s q)
  count_is r er = er ∙ word_is 2

  pub full_is : (r : Bool) → r ≡ eqb (get_or im (p.0 + 2) 0) (get_or im (p.0 + 3) 0) → r ≡ full s im q
  unfolding full
  full_is r er = er ∙ rw (word_is 2, word_is 3)

  pub first_is : (r : ℕ) → r ≡ first_at im p.0 → r ≡ first s im q
  unfolding first_at first at
  first_is r er = er ∙ rw (e, slot_along)

  append_is : (v : ℕ) → append_at im p.0 v ≡ appended s im q v
  unfolding append_at appended put at
  append_is v = rw e (simp (slot_along, along s q 1, along s q 2, along s q 3))

  take_is : take_at im p.0 ≡ taken s im q
  unfolding take_at taken put at
  take_is = rw e (simp (slot_along, along s q 2, along s q 3))

  module _ (h : Sound s im) (hq : Has s q) where
    pub ring_is : Ring im p.0
    ring_is =
        let r = (sound h).queues q hq in
        let last = below s (queue_word s q (3 + header_capacity s q)) (word_valid s q (3 + header_capacity s q) hq (omega arith)) in
        record {
          within = rw (word_is 3, r.sized, e) (omega (arith, along s q (3 + header_capacity s q), (sound h).laid.words));
          headed = rw (head_is, word_is 3) r.headed;
          tailed = rw (word_is 1, word_is 3) r.tailed;
          counted = rw (word_is 2, word_is 3) r.counted;
        }

    pub room_is : full s im q ≡ false → get_or im (p.0 + 2) 0 < get_or im (p.0 + 3) 0
    room_is f = rw (word_is 2, word_is 3) (has_space s im h q hq f)

    pub some_is : empty s im q ≡ false → 0 < get_or im (p.0 + 2) 0
    some_is f = rw (word_is 2) (has_word s im h q hq f)

    module _ (out : List ℕ) where
      pub appended_is : (v : ℕ) → out ≡ append_at im p.0 v → out ≡ appended s im q v
      appended_is v eo = eo ∙ append_is v

      pub appended_keeps : (v : ℕ) → out ≡ append_at im p.0 v → full s im q ≡ false → Sound s out
      appended_keeps v eo f = rw (appended_is v eo) (appended_sound s im q hq h v (has_space s im h q hq f))

      pub taken_is : out ≡ take_at im p.0 → out ≡ taken s im q
      taken_is eo = eo ∙ take_is

      pub taken_keeps : out ≡ take_at im p.0 → empty s im q ≡ false → Sound s out
      taken_keeps eo f = rw (taken_is eo) (taken_sound s im q hq h (has_word s im h q hq f))

-- an empty queue holds no word
pub empty_is : (s : Shape) (im : List ℕ) (q : Queue) (n : ℕ) → n ≡ at s im (count s q) → eqb n 0 ≡ empty s im q
unfolding empty
empty_is s im q n e = rw e
