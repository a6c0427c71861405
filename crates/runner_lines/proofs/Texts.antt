-- The parts of a line as they are written one after another. Assumes nothing.
use Rattle.std.specs.Prelude.{Err, Ok, Result}
use mathlib.Core.Path.{◌≡◌, refl, sym, ap, ◌∙◌}
use mathlib.Core.List.{List, ◌++◌, append_assoc}
use Prim.Native.Nat.{ℕ, ◌+◌, ◌<◌, ◌≤◌}
use native.Mathlib.Omega.{arith}
use lib.ListN.{length, take, drop, length-append}
use lib.Seq.{take_all}
use borrow.Rule.Slice.PartMut.{put_mid}
use Rattle.std.proofs.lemmas.List.Edits.{sets-eq}
use Rattle.std.proofs.lemmas.Slice.{put_mid-paste}
use Rattle.paper.specs.Numbers.{number, kind, answer_task}
use Rattle.paper.specs.Runner.{decimal, space, newline, refused_word, line}
use Rattle.paper.specs.declared.Answer.{Answer}
use Rattle.paper.specs.declared.Refusal.{Refusal}
use Rattle.writes.specs.Written.{written, then_on}
use Rattle.runner_lines.specs.Lines.{answer_text, refusal_text}

pub accepted_line : (n : ℕ) (a : Answer) → decimal n ++ answer_text a ≡ line n (Ok a)
unfolding line answer_text
accepted_line n a = simp append_assoc

pub refused_line : (n : ℕ) (r : Refusal) → decimal n ++ refusal_text r ≡ line n (Err r)
unfolding line refusal_text
refused_line n r = simp append_assoc

-- a text copied into its place
pub text_copied : (o copied text : List ℕ) (at k : ℕ) → at + length text ≤ length o → k ≡ length text → copied ≡ text
    → put_mid at k o copied ≡ written o at text
unfolding written
text_copied o copied text at k room ek e =
    let whole : take (length text) text ≡ text = take_all (length text) text (omega arith) in
    put_mid-paste at k o copied text (length text) e (sym ek) refl ∙ (ap (λ t. take at o ++ t ++ drop (at + length text) o) whole ∙ sym (sets-eq text o at room))

-- texts written one after another
module _ (o a b : List ℕ) (at p q : ℕ) (x y : List ℕ) (ea : a ≡ written o at x) (ep : p ≡ at + length x) (eb : b ≡ written a p y) (eq : q ≡ p + length y) where
  pub two_made : (q ≡ at + length (x ++ y)) × (b ≡ written o at (x ++ y))
  two_made = (rw length-append (omega arith), then_on o a b at p x y ea ep eb)

module _ (o a b c : List ℕ) (at p q r k t : ℕ) (ea : a ≡ written o at (space ++ decimal k)) (ep : p ≡ at + length (space ++ decimal k))
    (eb : b ≡ written a p (space ++ decimal t)) (eq : q ≡ p + length (space ++ decimal t)) (ec : c ≡ written b q newline) (er : r ≡ q + 1) (x : Answer)
    (ek : k ≡ kind x) (et : t ≡ answer_task x) where
  pub answer_made : (r ≡ at + length (answer_text x)) × (c ≡ written o at (answer_text x))
  unfolding answer_text
  answer_made =
      let m = two_made o a b at p q (space ++ decimal k) (space ++ decimal t) ea ep eb eq in
      rw (← ek, ← et) (two_made o b c at q r _ newline m.1 m.0 ec er)

module _ (o a b c : List ℕ) (at p q r k : ℕ) (ea : a ≡ written o at (space ++ refused_word)) (ep : p ≡ at + length (space ++ refused_word))
    (eb : b ≡ written a p (space ++ decimal k)) (eq : q ≡ p + length (space ++ decimal k)) (ec : c ≡ written b q newline) (er : r ≡ q + 1) (x : Refusal)
    (ek : k ≡ number x) where
  pub refusal_made : (r ≡ at + length (refusal_text x)) × (c ≡ written o at (refusal_text x))
  unfolding refusal_text
  refusal_made =
      let m = two_made o a b at p q (space ++ refused_word) (space ++ decimal k) ea ep eb eq in
      rw (← ek) (two_made o b c at q r _ newline m.1 m.0 ec er)

-- a line as it is written
module _ (o a b : List ℕ) (at p q n : ℕ) (reply : Result Answer Refusal) (ea : a ≡ written o at (decimal n)) (ep : p ≡ at + length (decimal n)) where
  pub accepted_made : (x : Answer) → reply ≡ Ok x → q ≡ p + length (answer_text x) → b ≡ written a p (answer_text x)
      → (q ≡ at + length (line n reply)) × (b ≡ written o at (line n reply))
  accepted_made x e eq eb = rw (e, ← accepted_line n x) (two_made o a b at p q (decimal n) (answer_text x) ea ep eb eq)

  pub refused_made : (x : Refusal) → reply ≡ Err x → q ≡ p + length (refusal_text x) → b ≡ written a p (refusal_text x)
      → (q ≡ at + length (line n reply)) × (b ≡ written o at (line n reply))
  refused_made x e eq eb = rw (e, ← refused_line n x) (two_made o a b at p q (decimal n) (refusal_text x) ea ep eb eq)
