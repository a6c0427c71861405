-- The segments of a sound image and their texts. Assumes nothing.
use Rattle.std.specs.Prelude.{Err, Ok, Result}
use mathlib.Core.Path.{◌≡◌, sym, ◌∙◌}
use mathlib.Core.List.{List, ◌++◌}
use Prim.Native.Nat.{ℕ, ◌+◌, ◌-◌, ◌*◌, ◌<◌, ◌≤◌}
use native.Mathlib.Nat.{mul-le-mul_right, min-le_left}
use native.Mathlib.Omega.{arith}
use lib.ListN.{length, take, drop, length-append, length-take}
use lib.Seq.{take_at}
use Rattle.paper.specs.Image.{start, at, base, len}
use Rattle.paper.specs.Rules.{Fit}
use Rattle.paper.specs.declared.Task.{Task}
use Rattle.paper.specs.declared.Shape.{Shape}
use Rattle.paper.specs.declared.Part.{Part}
use Rattle.laws.specs.Segments.{segment_from, segment_upto}
use Rattle.laws.specs.Sound.{Sound, sound, sound_fit}
use Rattle.grammar.specs.Printing.{printed, most_printed}
use Rattle.grammar.specs.Promises.{Prints}
use Rattle.grammar.specs.declared.Refusal.{Refusal}
use Rattle.print_laws.specs.RoundTrip.{Words}
use Rattle.print_laws.proofs.Proved.{request_3}
use Rattle.print_laws.proofs.Back.{printed_spells}
use Rattle.showing.specs.Zeros.{text_bytes}

-- the first segment starts at 53 at least
first_segment : (s : Shape) → Fit s → 53 ≤ start s Part.Segments
first_segment s f =
    let some = f.tasks.0 in
    omega (
      arith,
      mul-le-mul_right (4 + s.ci) some,
      mul-le-mul_right (4 + s.co) some,
      mul-le-mul_right (4 + s.cm) (mul-le-mul_right s.n some),
      mul-le-mul_right s.n some,
      mul-le-mul_right (4 + s.cm) some,
    )

-- a segment lies in its image, and is not too long to print
module _ (s : Shape) (im : List ℕ) (i : Task) (h : Sound s im) (hi : i.0 < s.n) where
  pub segment_in : (from count : ℕ) → from ≡ at s im (base i) → count ≡ at s im (len i) → from + count ≤ length im
  segment_in from count ef ec = omega (arith, (sound h).laid.words, segment_upto s im (sound h).laid i hi)

  segment_short : at s im (len i) ≤ most_printed
  segment_short =
      omega (
        arith,
        first_segment s (sound_fit s im h),
        segment_from s im (sound h).laid i hi,
        segment_upto s im (sound h).laid i hi,
        (sound_fit s im h).words,
      )

  pub segment_few : (from count : ℕ) → count ≡ at s im (len i) → length (take (from + count - from) (drop from im)) ≤ most_printed
  segment_few from count e = omega (arith, length-take (from + count - from) (drop from im), min-le_left (from + count - from) (length (drop from im)), segment_short)

-- the text of a segment fits its buffer
module _ (ws buffer after : List ℕ) (told : Result ℕ Refusal) (w : Words ws) (few : length ws ≤ most_printed) (room : length buffer ≡ text_bytes) (p : Prints ws buffer told after) where
  segment_told : told ≡ Ok (length (printed ws))
  segment_told = (request_3.accepted_print ws buffer after told p).1 (few, omega (arith, (printed_spells ws w).short))

  left_is : after ≡ printed ws ++ drop (length (printed ws)) buffer
  left_is = rw (p.left, ← p.answers, segment_told)

  -- so it is never refused, and the buffer holds it
  pub segment_text : (n : ℕ) → told ≡ Ok n → (n ≤ length after) × (take n after ≡ printed ws)
  segment_text n e =
      let q : Ok n ≡ Ok (length (printed ws)) = sym e ∙ segment_told in
      let k : n ≡ length (printed ws) = cc in
      (rw (left_is, length-append) (omega (arith, k)), rw left_is (take_at (printed ws) (drop (length (printed ws)) buffer) n (sym k)))

  pub segment_refused : (r : Refusal) → told ≡ Err r → (0 ≤ length after) × (take 0 after ≡ printed ws)
  segment_refused r e = absurd (let z : ◌≡◌ {A = ℕ} 0 1 = never (sym e ∙ segment_told) in omega arith)
    where
      never : Err r ≡ Ok (length (printed ws)) → ◌≡◌ {A = ℕ} 0 1
      never q = cc
