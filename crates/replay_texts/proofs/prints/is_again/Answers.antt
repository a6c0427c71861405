-- What stands past the first part is the bytes from the first one on.
use Rattle.std.proofs.Common.{◌≡◌, sym, ◌∙◌, ap, List, ℕ, ◌+◌, ◌-◌, ◌<◌, ◌≤◌, length, take, drop, get_or, arith}
use Rattle.std.proofs.lemmas.List.{get_or-drop, get_or-take}
use Rattle.std.specs.Cmp.Lexicographic.{same_text}
use Rattle.replay_texts.proofs.prints.is_again.Goals as goal

-- a byte that many past another is the same
again : (part n : ℕ) (bytes : List ℕ) → take n (drop part bytes) ≡ take n bytes → n + part ≡ length bytes → (k : ℕ) → part ≤ k → k < length bytes → get_or bytes k 0 ≡ get_or bytes (k - part) 0
again part n bytes e l k a b =
    let at : k ≡ part + (k - part) = omega (arith, a) in
    let low : k - part < n = omega (arith, a, b, l) in
    ap (λ (i : ℕ). get_or bytes i 0) at ∙ sym (get_or-drop part bytes (k - part) 0) ∙ sym (get_or-take n (drop part bytes) (k - part) 0 low)
    ∙ ap (λ (xs : List ℕ). get_or xs (k - part) 0) e ∙ get_or-take n bytes (k - part) 0 low

pub returns-else-part-len : goal.returns-else-part-len
returns-else-part-len c = λ h. again c.args.part (length c.args.bytes.now - c.args.part) c.args.bytes.now (same_text _ _ (sym h ∙ c.eq.ensures)) (omega arith)
