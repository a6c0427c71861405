-- Laws of Bytes. Assumes nothing.
use mathlib.Core.Path.{◌≡◌, refl, sym, ap, ◌∙◌}
use mathlib.Core.Bool.{true}
use mathlib.Core.List.{List, [], ◌∷◌, ◌++◌, append_assoc}
use Prim.Native.Nat.{ℕ, suc, ◌+◌, ◌*◌, ◌/◌, ◌%◌, ◌<◌, ◌≤◌}
use native.Mathlib.Numerals.{add-one}
use native.Mathlib.Nat.{min-le_right}
use native.Mathlib.Omega.{arith}
use lib.ListN.{length, get_or, take, set, length-set, length-take}
use lib.Seq.{take-suc, take-suc-set, take_all, length-take-le}
use Rattle.paper.specs.Runner.{words_of}
use Rattle.writes.specs.Written.{written, kept_length}
use Rattle.files.specs.Bytes.{words_length}
use Rattle.std.specs.Prelude.{Option, Some, None}
use Rattle.std.specs.Int.{to_le_bytes, w16}
use Rattle.disk.specs.declared.reading.Start.{Start}
use Rattle.disk.specs.Bytes.{Loads, Starts, LoadsWords, bytes_of, chunk, chunk_bytes}

bytes_more : (ws : List ℕ) (w : ℕ) → bytes_of (ws ++ (w ∷ [])) ≡ bytes_of ws ++ (w % 256 ∷ (w / 256 ∷ []))
unfolding bytes_of
bytes_more [] w = refl
bytes_more (v ∷ ws) w = rw (bytes_more ws w)

-- the bytes of the first k words are put
pub record Put (words bytes : List ℕ) (k : ℕ) : Type 0 where
  pub upto : k ≤ length words
  pub long : length bytes ≡ chunk_bytes
  pub made : take (2 * k) bytes ≡ bytes_of (take k words)

pub put_none : (words bytes : List ℕ) → length bytes ≡ chunk_bytes → Put words bytes 0
unfolding bytes_of
put_none words bytes e = record { upto = omega arith; long = e; made = refl }

two_stores : (b : List ℕ) (j x y : ℕ) → j + 1 < length b → take (suc (suc j)) (set (set b j x) (j + 1) y) ≡ take j b ++ (x ∷ (y ∷ []))
two_stores b j x y h =
    let l : suc j < length (set b j x) = rw length-set (omega arith) in
    let h' : j < length b = omega arith in
    rw (add-one j, take-suc-set (set b j x) (suc j) y l, take-suc-set b j x h', append_assoc)

twice_more : (k : ℕ) → 2 * (k + 1) ≡ suc (suc (2 * k))
twice_more k = omega arith

pub put_more : (words b : List ℕ) (k : ℕ) → Put words b k → k < length words → length words ≤ chunk
    → Put words (set (set b (2 * k) (get_or words k 0 % 256)) (2 * k + 1) (get_or words k 0 / 256)) (k + 1)
put_more words b k p h m =
    let l : 2 * k + 1 < length b = omega (arith, p.long) in
    record {
      upto = omega arith;
      long = rw (length-set, length-set) p.long;
      made =
          rw (
            twice_more k,
            two_stores b (2 * k) (get_or words k 0 % 256) (get_or words k 0 / 256) l,
            p.made,
            add-one k,
            take-suc words k 0 h,
            bytes_more (take k words) (get_or words k 0),
          );
    }

-- the two bytes of a word are put as they are made
pub put_pair : (words b two : List ℕ) (k : ℕ) → Put words b k → k < length words → length words ≤ chunk → get_or words k 0 < 65536
    → two ≡ to_le_bytes w16 (get_or words k 0) → Put words (set (set b (2 * k) (get_or two 0 0)) (2 * k + 1) (get_or two 1 0)) (k + 1)
put_pair words b two k p h m small e =
    let w = get_or words k 0 in
    let low : get_or two 0 0 ≡ w % 256 = ap (λ t. get_or t 0 0) e in
    let small-high : w / 256 % 256 ≡ w / 256 = omega (arith, small) in
    let high : get_or two 1 0 ≡ w / 256 = ap (λ t. get_or t 1 0) e ∙ small-high in
    rw (low, high) (put_more words b k p h m)

pub put_all : (words b : List ℕ) (k : ℕ) → Put words b k → length words ≤ k → take (2 * length words) b ≡ bytes_of words
put_all words b k p h =
    let e : k ≡ length words = omega (arith, p.upto) in
    rw (take_all k words h, e) at p.made

-- a file that was read ends in its buffer
module _ (b : List ℕ) (r : Option ℕ) (n : ℕ) (e : r ≡ Some n) (h : Loads b r) where
  pub loaded_end : n ≤ length b
  loaded_end = (rw e at h).0

  pub loaded_count : n ≡ length (take n b)
  loaded_count = (rw e at h).1

-- so does the start of a file
module _ (b : List ℕ) (r : Option Start) (s : Start) (e : r ≡ Some s) (h : Starts b r) where
  pub started_end : s.bytes ≤ length b
  started_end = (rw e at h).0

  pub started_count : s.bytes ≡ length (take s.bytes b)
  started_count = (rw e at h).1.0

  pub started_full : s.odd ≡ true → length b ≤ s.bytes
  started_full = (rw e at h).1.1

-- what was put lies in its target
pub counted : (b : List ℕ) (n : ℕ) → n ≤ length b → (n ≤ length b) × (n ≡ length (take n b))
counted b n h = (h, sym (length-take-le n b h))

-- a part of a buffer is no longer
pub part_short : (n : ℕ) (b : List ℕ) (m : ℕ) → length b ≡ m → length (take n b) ≤ m
part_short n b m e = rw (length-take, e) (min-le_right n m)

-- the words of a file lie in their target
pub words_loaded : (bytes words out : List ℕ) (n : ℕ) → length bytes < 2 * length words + 2 → n ≡ length (words_of bytes)
    → out ≡ written words 0 (words_of bytes) → LoadsWords (length bytes) out (Some n)
words_loaded bytes words out n room e w =
    let two = words_length bytes in
    let in-target : n ≤ length out = omega (arith, kept_length words out 0 (words_of bytes) w) in
    (omega arith, (in-target, sym (length-take-le n out in-target)))

-- also where its bytes are a part of a buffer
module _ (buffer b : List ℕ) (found : ℕ) (kept : length b ≡ length buffer) where
  pub words_room : (words : List ℕ) → length buffer < 2 * length words + 2 → length (take found b) < 2 * length words + 2
  words_room words room = omega (arith, part_short found b (length buffer) kept)

  pub words_in_buffer : (out : List ℕ) (r : Option ℕ) → LoadsWords (length (take found b)) out r → LoadsWords (length buffer) out r
  words_in_buffer out (Some n) h = (omega (arith, h.0, part_short found b (length buffer) kept), h.1)
  words_in_buffer out None h = tt

-- the words that were read
module _ (most : ℕ) (target : List ℕ) (r : Option ℕ) (n : ℕ) (e : r ≡ Some n) (h : LoadsWords most target r) where
  pub words_few : 2 * n ≤ most
  words_few = (rw e at h).0

  pub words_end : n ≤ length target
  words_end = (rw e at h).1.0

  pub words_count : n ≡ length (take n target)
  words_count = (rw e at h).1.1
