-- An image grows part by part, from zeros to the whole. Assumes nothing.
use mathlib.Core.Path.{◌≡◌, refl, sym, ap, ◌∙◌}
use mathlib.Core.List.{List}
use Prim.Native.Nat.{ℕ, zero, suc, ◌+◌, ◌*◌, ◌<◌, ◌≤◌}
use native.Mathlib.Nat.{suc-mul, zero-mul}
use native.Mathlib.Omega.{arith}
use lib.ListN.{length, get_or, replicate, length-append, length-replicate, replicate-append-replicate}
use Rattle.paper.specs.Image.{parts, begin, total}
use Rattle.paper.specs.Plans.{joined, fresh}
use Rattle.paper.specs.declared.Shape.{Shape}
use Rattle.paper.specs.declared.Part.{Part}
use Rattle.laws.specs.Places.{begins_later}
use Rattle.laws.specs.Layout.{total_is}
use Rattle.plans.specs.Sizes.{Packed, first_is}
use Rattle.writes.specs.Written.{written, written_none, written_all, written_over, then_on, kept_length}
use Rattle.writes.specs.Zeroed.{Zeroed, zeros_zeroed, part_zeroed, later_zeroed, zeroed_kept}
use Rattle.fresh_parts.specs.Accepted.{Plan, part_size}
use Rattle.builds.specs.Stages.{fresh_at, BuiltUpto}

-- rows of zeros
pub zero_rows : (n w : ℕ) → replicate (n * w) 0 ≡ joined n (λ i. replicate w 0)
zero_rows zero w = rw (zero-mul w)
zero_rows (suc n) w = rw (suc-mul n w, ← zero_rows n w) (sym (replicate-append-replicate (n * w) w 0))

-- zeros before the segments
module _ (s : Shape) (p : Packed s) (o : List ℕ) (long : length o ≡ total s) where
  pub first_room : 0 + get_or s.starts 8 0 ≤ length o
  first_room = omega (arith, first_is s s.starts p.packed, total_is s)

  pub nothing_built : (plan out : List ℕ) → out ≡ written o 0 (replicate (get_or s.starts 8 0) 0) → BuiltUpto s plan 0 out out 0
  nothing_built plan out e =
      record {
        here = refl;
        made = sym (written_none out 0);
        blank = part_zeroed out 0 (get_or s.starts 8 0) 0 _ (zeros_zeroed o out 0 _ e) (omega arith) (omega (arith, first_is s s.starts p.packed));
        long = kept_length o out 0 _ e ∙ long;
      }

-- what is written stays: written again it changes nothing
pub built_again : (s : Shape) (plan : List ℕ) (k : ℕ) (o out : List ℕ) (at : ℕ) → BuiltUpto s plan k o out at → BuiltUpto s plan k out out at
built_again s plan k o out at b =
    let w = joined k (fresh_at s plan) in
    let again : written out 0 w ≡ out = ap (λ (x : List ℕ). written x 0 w) b.made ∙ written_over o 0 w w refl ∙ sym b.made in
    record { here = b.here; made = sym again; blank = b.blank; long = b.long }

module _ (s : Shape) (plan : List ℕ) (p : Plan s plan) where
  -- the parts before part k reach to where it begins
  reach : (k : ℕ) → length (joined k (fresh_at s plan)) ≡ begin s k
  reach zero = refl
  reach (suc k) = omega (arith, reach k, length-append (joined k (fresh_at s plan)) (fresh_at s plan k), part_size s plan p (get_or parts k Part.Segments))

  module _ (k : ℕ) (o out : List ℕ) (at : ℕ) (b : BuiltUpto s plan k o out at) where
    -- what the call that writes part k asks
    pub part_room : k < 10 → at + length (fresh_at s plan k) ≤ length out
    unfolding total
    part_room h = omega (arith, b.here, b.long, part_size s plan p (get_or parts k Part.Segments), begins_later s (suc k) 10 h)

    pub part_asks : k < 9 → (at + length (fresh_at s plan k) ≤ length out) × Zeroed out at (length (fresh_at s plan k))
    part_asks h = (
      part_room (omega arith),
      part_zeroed out at _ at _ b.blank (omega arith)
          (omega (arith, b.here, part_size s plan p (get_or parts k Part.Segments), begins_later s (suc k) 9 h)),
    )

    -- what it leaves
    one_further : (out' : List ℕ) → out' ≡ written out at (fresh_at s plan k) → out' ≡ written o 0 (joined (suc k) (fresh_at s plan))
    one_further out' eo = then_on o out out' 0 at _ (fresh_at s plan k) b.made (omega (arith, b.here, reach k)) eo

    pub part_built : (out' : List ℕ) (next : ℕ) → (next ≡ at + length (fresh_at s plan k)) × (out' ≡ written out at (fresh_at s plan k)) → k < 9
        → BuiltUpto s plan (suc k) o out' next
    part_built out' next w h =
        let here : next ≡ begin s (suc k) = omega (arith, b.here, w.0, part_size s plan p (get_or parts k Part.Segments)) in
        record {
          here = here;
          made = one_further out' w.1;
          blank =
              later_zeroed out out' at _ at _ next _ w.1 (omega (arith, w.0)) b.blank (omega (arith, w.0))
              (omega (arith, begins_later s (suc k) 9 h));
          long = kept_length out out' at _ w.1 ∙ b.long;
        }

    -- a part of zeros is there already
    pub zeros_built : joined s.n (λ i. replicate 2 0) ≡ fresh_at s plan k → k < 9 → BuiltUpto s plan (suc k) o out (at + s.n * 2)
    zeros_built e h =
        let zeros : replicate (s.n * 2) 0 ≡ fresh_at s plan k = zero_rows s.n 2 ∙ e in
        let size : s.n * 2 ≡ length (fresh_at s plan k) = sym (length-replicate (s.n * 2) 0) ∙ ap length zeros in
        let there : Zeroed out at (s.n * 2) = rw size (part_asks h).1 in
        part_built out (at + s.n * 2) (omega arith, sym (ap (written out at) (sym zeros) ∙ zeroed_kept (s.n * 2) out at there)) h

  -- with the segments, the last part, it is the fresh image
  pub image_built : (o out : List ℕ) (at : ℕ) → BuiltUpto s plan 9 o out at → (out' : List ℕ) → out' ≡ written out at (fresh_at s plan 9) → out' ≡ fresh plan
  unfolding fresh total
  image_built o out at b out' eo =
      one_further 9 o out at b out' eo ∙
      written_all o (joined 10 (fresh_at s plan)) (sym (kept_length o out 0 _ b.made) ∙ b.long ∙ sym (reach 10)) ∙
      ap (λ (x : Shape). joined 10 (fresh_at x plan)) p.shape
