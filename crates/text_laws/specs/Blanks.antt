-- A comment gives no token, and neither do blanks before, behind or between tokens. Assumes nothing.
use Rattle.std.specs.Prelude.{◌≡◌, refl, Bool, true, false, ◌||◌, ℕ, eqb}
use Rattle.std.proofs.Math.Path.{ap, sym}
use Rattle.std.proofs.Common.{ap₂, ◌∙◌, arith, eqb-true}
use mathlib.Core.List.{List, [], ◌∷◌, ◌++◌, append-nil}
use Rattle.grammar.specs.Tokens.{comment, blank, Token, Open, goes_on, longer, ended, begun, alone, tokens_on, tokens}

-- bytes at the end of a line that come to the same as others after whatever is open
same_end : (m n l : List ℕ) (o : Open) → ((p : Open) → tokens_on p m ≡ tokens_on p n) → tokens_on o (l ++ m) ≡ tokens_on o (l ++ n)
unfolding tokens_on
same_end m n [] o h = h o
same_end m n (b ∷ l) o h =
    ap₂ (λ x y. elim (eqb b comment) as (λ _. List Token) [ true ↦ ended o | false ↦ elim (goes_on o b) [ true ↦ x | false ↦ ended o ++ (alone b ++ y) ] ])
    (same_end m n l (longer o b) h) (same_end m n l (begun b) h)

-- a blank ends what is open
abbrev Ends : ℕ → List ℕ → Open → Type 0
Ends b m o = tokens_on o (b ∷ m) ≡ ended o ++ tokens_on Open.none m

each_ends : (m : List ℕ) (o : Open) → Ends 32 m o × Ends 9 m o × Ends 13 m o
unfolding tokens_on
each_ends m Open.none = (refl, refl, refl)
each_ends m (Open.in_number ds) = (refl, refl, refl)
each_ends m (Open.in_word w) = (refl, refl, refl)

blank_ends : (b : ℕ) → blank b ≡ true → (m : List ℕ) (o : Open) → Ends b m o
blank_ends b e m o = go (eqb b 32) (eqb b 9) (eqb b 13) refl refl refl e
  where
    go : (x y z : Bool) → eqb b 32 ≡ x → eqb b 9 ≡ y → eqb b 13 ≡ z → (x || (y || z)) ≡ true → Ends b m o
    go true y z i j k h = rw (eqb-true b 32 i) (each_ends m o).0
    go false true z i j k h = rw (eqb-true b 9 j) (each_ends m o).1
    go false false true i j k h = rw (eqb-true b 13 k) (each_ends m o).2
    go false false false i j k h = absurd (let z : ◌≡◌ {A = ℕ} 0 1 = cc in omega arith)

module _ (b : ℕ) (e : blank b ≡ true) where
  -- before the first token
  pub blank_before : (l : List ℕ) → tokens (b ∷ l) ≡ tokens l
  unfolding tokens
  blank_before l = blank_ends b e l Open.none

  -- behind the last
  pub blank_behind : (l : List ℕ) → tokens (l ++ (b ∷ [])) ≡ tokens l
  unfolding tokens tokens_on
  blank_behind l = same_end (b ∷ []) [] l Open.none (λ p. blank_ends b e [] p ∙ append-nil (ended p)) ∙ rw (append-nil l)

  -- and behind a blank
  pub blank_again : (c : ℕ) → blank c ≡ true → (l m : List ℕ) → tokens (l ++ (c ∷ (b ∷ m))) ≡ tokens (l ++ (c ∷ m))
  unfolding tokens
  blank_again c h l m =
      same_end (c ∷ (b ∷ m)) (c ∷ m) l Open.none
      (λ p. blank_ends c h (b ∷ m) p ∙ ap (λ ts. ended p ++ ts) (blank_ends b e m Open.none) ∙ sym (blank_ends c h m p))

-- a comment
pub comment_gives_nothing : (l c : List ℕ) → tokens (l ++ (comment ∷ c)) ≡ tokens l
unfolding tokens tokens_on
comment_gives_nothing l c = same_end (comment ∷ c) [] l Open.none (λ p. refl) ∙ rw (append-nil l)
