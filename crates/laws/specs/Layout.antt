-- What the layout of an image fixes: its shape, and the paper's largest offset and smallest T. Assumes nothing.
use Rattle.std.specs.Prelude.{◌≡◌, List, map, ℕ, ◌+◌, ◌-◌, ◌≤◌}
use Rattle.std.proofs.Common.{mul-le-mul_right, arith, lit<}
use Rattle.paper.specs.Image.{most_tasks, most_slice, most_capacity, task, start, total, offset_words, header_word, shape_of}
use Rattle.paper.specs.Rules.{Within, Fit, Laid}
use Rattle.paper.specs.declared.Shape.{Shape}
use Rattle.paper.specs.declared.Part.{Part}
use Rattle.laws.specs.Segments.{starts_later}

abbrev shaped : ℕ → ℕ → ℕ → ℕ → ℕ → List ℕ → ℕ → Shape
shaped n slice ci co cm starts words =
    record { n = n; slice = slice; ci = ci; co = co; cm = cm; starts = starts; words = words }

-- T is the first segment's offset and the words of the segments
pub total_is : (s : Shape) → total s ≡ start s Part.Segments + s.words
unfolding total
total_is s = omega arith

-- an image of a shape has that shape in its header
pub shape_is : (s : Shape) (im : List ℕ) → Laid s im → shape_of im ≡ s
unfolding shape_of
shape_is s im laid =
    let h = laid.headed in
    let n : header_word im 2 ≡ s.n = h 2 (lit< tt) in
    let slice : header_word im 3 ≡ s.slice = h 3 (lit< tt) in
    let ci : header_word im 4 ≡ s.ci = h 4 (lit< tt) in
    let co : header_word im 5 ≡ s.co = h 5 (lit< tt) in
    let cm : header_word im 6 ≡ s.cm = h 6 (lit< tt) in
    let last : header_word im 15 ≡ start s Part.Segments = h 15 (lit< tt) in
    let starts : map (header_word im) offset_words ≡ s.starts =
    rw (laid.fit.packed, h 7 (lit< tt), h 8 (lit< tt), h 9 (lit< tt), h 10 (lit< tt), h 11 (lit< tt), h 12 (lit< tt), h 13 (lit< tt), h 14 (lit< tt), last) in
    let words : header_word im 16 - header_word im 15 ≡ s.words = omega (arith, h 16 (lit< tt), last, total_is s) in
    let e :
    shaped (header_word im 2) (header_word im 3) (header_word im 4) (header_word im 5) (header_word im 6) (map (header_word im) offset_words)
    (header_word im 16 - header_word im 15) ≡ shaped s.n s.slice s.ci s.co s.cm s.starts s.words =
    cc (n, slice, ci, co, cm, starts, words) in
    e

-- N, S and the capacities are in range
pub record Ranged (s : Shape) : Type 0 where
  pub tasks : Within 1 most_tasks s.n
  pub slice : Within 1 most_slice s.slice
  pub inputs : Within 1 most_capacity s.ci
  pub outputs : Within 1 most_capacity s.co
  pub messages : Within 1 most_capacity s.cm

pub fit_ranged : (s : Shape) → Fit s → Ranged s
fit_ranged s f =
    record { tasks = f.tasks; slice = f.slice; inputs = f.inputs; outputs = f.outputs; messages = f.messages }

-- the largest offset of the first segment is 10646
pub largest_offset : (s : Shape) → Ranged s → start s Part.Segments ≤ 10646
largest_offset s r =
    let most = r.tasks.1 in
    omega (
      arith,
      mul-le-mul_right s.ci most,
      mul-le-mul_right s.co most,
      mul-le-mul_right s.n most,
      mul-le-mul_right s.cm (mul-le-mul_right s.n most),
      mul-le-mul_right s.cm most,
      r.inputs,
      r.outputs,
      r.messages,
    )

-- the smallest T is 54
pub smallest_total : (s : Shape) (im : List ℕ) → Laid s im → 54 ≤ total s
smallest_total s im laid =
    let some = laid.fit.tasks.0 in
    let first = laid.lengths (task 0) some in
    omega (
      arith,
      starts_later s im 1 s.n some,
      laid.ends,
      mul-le-mul_right (4 + s.ci) some,
      mul-le-mul_right (4 + s.co) some,
      mul-le-mul_right (4 + s.cm) (mul-le-mul_right s.n some),
      mul-le-mul_right s.n some,
      mul-le-mul_right (4 + s.cm) some,
    )
