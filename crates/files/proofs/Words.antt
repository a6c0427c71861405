-- The words of bytes, and those that are written so far. Assumes nothing.
use mathlib.Core.Path.{◌≡◌, refl, sym, ap, ◌∙◌}
use mathlib.Core.List.{List, [], ◌∷◌, ◌++◌}
use Prim.Native.Nat.{ℕ, ◌+◌, ◌*◌, ◌<◌, ◌≤◌}
use native.Mathlib.Omega.{arith}
use lib.ListN.{length, get_or, length-append, set, length-set}
use Rattle.paper.specs.Runner.{word, words_of}
use Rattle.writes.specs.Written.{written, written_none, written_one, written_on}

-- two bytes are a word, fewer are none
pub words_step : (pair rest : List ℕ) → length pair ≡ 2 → words_of (pair ++ rest) ≡ word (get_or pair 0 0) (get_or pair 1 0) ∷ words_of rest
unfolding words_of
words_step [] rest h = absurd (omega arith)
words_step (b ∷ []) rest h = absurd (omega arith)
words_step (b ∷ c ∷ []) rest h = refl
words_step (b ∷ c ∷ d ∷ l) rest h = absurd (omega arith)

words_end : (l : List ℕ) → length l < 2 → words_of l ≡ []
unfolding words_of
words_end [] h = refl
words_end (b ∷ []) h = refl
words_end (b ∷ c ∷ l) h = absurd (omega arith)

-- k words are written; what is left to write, of the rest of the bytes, makes the whole
pub record Words (o bytes out : List ℕ) (k : ℕ) (rest : List ℕ) : Type 0 where
  pub made : written out k (words_of rest) ≡ written o 0 (words_of bytes)
  pub counted : k + length (words_of rest) ≡ length (words_of bytes)
  pub kept : length out ≡ length o
  pub place : length bytes ≡ 2 * k + length rest

module _ (o bytes : List ℕ) where
  pub no_words : Words o bytes o 0 bytes
  no_words = record { made = refl; counted = omega arith; kept = refl; place = omega arith }

  module _ (out : List ℕ) (k : ℕ) (rest : List ℕ) (w : Words o bytes out k rest) where
    pub words_done : length rest < 2 → (k ≡ length (words_of bytes)) × (out ≡ written o 0 (words_of bytes))
    words_done h =
        let s = words_end rest h in
        (omega (arith, w.counted, ap length s), sym (written_none out k) ∙ ap (written out k) (sym s) ∙ w.made)

    -- one word more
    module _ (pair after : List ℕ) (e : rest ≡ pair ++ after) (two : length pair ≡ 2) where
      pub word_room : length bytes < 2 * length o + 2 → k < length out
      word_room h = omega (arith, w.kept, w.place, ap length e, length-append pair after)

      pub word_more : (v : ℕ) → v ≡ word (get_or pair 0 0) (get_or pair 1 0) → Words o bytes (set out k v) (k + 1) after
      word_more v h =
          let s : words_of rest ≡ word (get_or pair 0 0) (get_or pair 1 0) ∷ words_of after = ap words_of e ∙ words_step pair after two in
          record {
            made =
                rw (written_one out k v) (written_on out k (v ∷ []) (words_of after) ∙
                ap (written out k) (ap (λ (x : ℕ). x ∷ words_of after) h ∙ sym s) ∙ w.made);
            counted = omega (arith, w.counted, ap length s);
            kept = length-set out k v ∙ w.kept;
            place = omega (arith, w.place, ap length e, length-append pair after);
          }
