-- The shape as it is read, and the tests of numbers 3, 4 and 5 as they are made. Assumes nothing.
use mathlib.Core.Path.{◌≡◌, refl, sym, ap, ◌∙◌}
use mathlib.Core.List.{List, [], ◌∷◌, map}
use mathlib.Core.Bool.{Bool, true, false, not, ◌&&◌, false≢true}
use Prim.Native.Nat.{ℕ, ◌+◌, ◌-◌, ◌*◌, ◌<◌, ◌≤◌}
use native.Mathlib.Nat.{mul-le-mul_left, mul-le-mul_right, le_trans}
use native.Mathlib.Numerals.{add-one}
use native.Mathlib.Omega.{arith}
use mathlib.Core.Logic.{◌≢◌}
use borrow.Author.Tests.{eq-eqb, ne_eqb, le-leb, lt-leb}
use lib.Dec.{eqb}
use lib.Pointwise.{pointwise, bytes_decides}
use lib.ListN.{get_or, length}
use Rattle.paper.specs.Image.{lead, most_words, offset_words, offsets, header_word, shape_of, task, total, start, segment_start, at, len}
use Rattle.paper.specs.Tests.{every, every_task}
use Rattle.paper.specs.Numbers.{not_packed, segment_right, wrong_segments}
use Rattle.paper.specs.declared.Shape.{Shape}
use Rattle.paper.specs.declared.Part.{Part}
use Rattle.laws.specs.Layout.{Ranged, fit_ranged, largest_offset, total_is}
use Rattle.laws.specs.Every.{every_fails, every_done}
use Rattle.laws.specs.Sound.{Sized, sized_fit, sized_words}
use Rattle.laws.specs.Checked.{packed_is}
use Rattle.headers.specs.Shaped.{shaped, sized_by}

-- the shape as it is read
pub shape_read : (im : List ℕ) (n slice ci co cm total first words : ℕ) (starts : List ℕ) → starts ≡ map (header_word im) offset_words
    → n ≡ header_word im 2 → slice ≡ header_word im 3 → ci ≡ header_word im 4 → co ≡ header_word im 5 → cm ≡ header_word im 6
    → total ≡ header_word im 16 → first ≡ header_word im 15 → words ≡ total - first
    → shaped n slice ci co cm starts words ≡ shape_of im
unfolding shape_of
shape_read im n slice ci co cm total first words starts es en el ei eo em et ef ew = rw (en, el, ei, eo, em, es, ew, et, ef)

-- a part is at most 256 rows of 36 words
pub part_small : (rows width : ℕ) → rows ≤ 256 → width ≤ 36 → rows * width ≤ 9216
part_small rows width hr hw = le_trans (mul-le-mul_right width hr) (mul-le-mul_left 256 hw)

-- the packed offsets as they are added up
pub offsets_made : (s : Shape) (ready status inputs outputs messages ports table segments : ℕ)
    → ready ≡ 18 + s.n * 9 → status ≡ ready + 1 * (lead + s.n) → inputs ≡ status + s.n * 2 → outputs ≡ inputs + s.n * (lead + s.ci)
    → messages ≡ outputs + s.n * (lead + s.co) → ports ≡ messages + s.n * s.n * (lead + s.cm) → table ≡ ports + s.n * 2
    → segments ≡ table + s.n * 2
    → 18 ∷ ready ∷ status ∷ inputs ∷ outputs ∷ messages ∷ ports ∷ table ∷ segments ∷ [] ≡ offsets s
offsets_made s ready status inputs outputs messages ports table segments er es ei eo em ep et eg =
    rw (eg, et, ep, em, eo, ei, es, er)

-- a test that holds just where another fails
opposite : (b c : Bool) → (b ≡ true → c ≡ false) → (c ≡ false → b ≡ true) → not b ≡ c
opposite true c f g = sym (f refl)
opposite false true f g = refl
opposite false false f g = absurd (false≢true (g refl))

-- the test of the offsets
pub packed_tested : (s : Shape) (l : List ℕ) → length s.starts ≡ 9 → l ≡ offsets s → not (pointwise eqb s.starts l) ≡ not_packed s
packed_tested s l nine el =
    let d = bytes_decides s.starts (offsets s) in
    rw el (opposite (pointwise eqb s.starts (offsets s)) (not_packed s) (λ e. (packed_is s nine).1 (d.0 e)) (λ e. d.1 ((packed_is s nine).0 e)))

-- the segments, one after another
module _ (s : Shape) (im : List ℕ) (h : Sized s im) where
  pub first_small : (p : ℕ) → p ≡ start s Part.Segments → p ≤ 10646
  first_small p e = omega (arith, largest_offset s (fit_ranged s (sized_fit s im h)))

  pub next_start : (end k l w : ℕ) → end ≡ segment_start s im k → l ≡ at s im (len (task k)) → w ≡ l → end + w ≡ segment_start s im (k + 1)
  next_start end k l w ee el ew = rw (ee, ew, el, add-one)

  pub segment_fails : (k : ℕ) (r : Bool) → k < s.n → r ≡ segment_right s im (task k) → r ≡ false
      → false ≡ (every_task s (segment_right s im) && eqb (segment_start s im s.n) (total s))
  segment_fails k r hk er nr = rw (every_fails s.n k _ hk (sym er ∙ nr))

  pub segments_end : (k end : ℕ) → every k (λ j. segment_right s im (task j)) ≡ true → s.n ≤ k → k ≤ s.n → end ≡ segment_start s im k
      → eqb end (length im) ≡ (every_task s (segment_right s im) && eqb (segment_start s im s.n) (total s))
  segments_end k end e h1 h2 ee =
      let n : k ≡ s.n = omega arith in
      let z : segment_start s im k ≡ segment_start s im s.n = ap (segment_start s im) n in
      rw (every_done s.n k _ e h1 h2, ← sized_words s im h, ← z, ee)

-- the tests of T, where the offsets are packed
module _ (s : Shape) (im : List ℕ) (e : s ≡ shape_of im) (np : not_packed s ≡ false) (t f : ℕ) (et : t ≡ header_word im 16) (ef : f ≡ header_word im 15) where
  packed : s.starts ≡ offsets s
  unfolding shape_of
  packed = (packed_is s (rw e refl)).0 np

  first_is : start s Part.Segments ≡ f
  unfolding shape_of
  first_is =
      let a : get_or s.starts 8 0 ≡ f = rw (e, ef) in
      let b : get_or s.starts 8 0 ≡ start s Part.Segments = rw packed in
      sym b ∙ a

  words_are : s.words ≡ t - f
  unfolding shape_of
  words_are = rw (e, et, ef)

  total_given : f ≤ t → total s ≡ t
  total_given h = omega (arith, total_is s, first_is, words_are)

  pub before_first : t < f → true ≡ wrong_segments s im
  unfolding wrong_segments
  before_first h = rw (← et, ne_eqb t (total s) (λ z. omega (arith, total_is s, first_is)))

  pub too_large : f ≤ t → most_words < t → true ≡ wrong_segments s im
  unfolding wrong_segments
  too_large h l = rw (← et, total_given h, eq-eqb t t refl, lt-leb t most_words l)

  pub not_its_length : f ≤ t → t ≤ most_words → length im ≢ t → true ≡ wrong_segments s im
  unfolding wrong_segments
  not_its_length h l ne = rw (← et, total_given h, eq-eqb t t refl, le-leb t most_words l, ne_eqb (length im) t ne)

  module _ (h : f ≤ t) (l : t ≤ most_words) (long : length im ≡ t) where
    pub has_size : Ranged s → Sized s im
    has_size r = sized_by s im r packed (omega (arith, total_given h)) (long ∙ sym (total_given h))

    pub segments_tested : (r : Bool) → r ≡ (every_task s (segment_right s im) && eqb (segment_start s im s.n) (total s))
        → not r ≡ wrong_segments s im
    unfolding wrong_segments
    segments_tested r er =
        rw (er, ← et, total_given h, eq-eqb t t refl, le-leb t most_words l, eq-eqb (length im) t long)
