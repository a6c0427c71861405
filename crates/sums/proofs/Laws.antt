-- The three readers, a step at a time, for any count of steps that is enough. Assumes nothing.
use Rattle.std.specs.Prelude.{None, Ok, Option, Result, Some, ℕ}
use mathlib.Core.Path.{◌≡◌, refl, ap}
use mathlib.Core.Bool.{Bool, true, false}
use mathlib.Core.List.{List, [], ◌∷◌}
use Prim.Native.Nat.{ℕ, zero, suc, ◌+◌, ◌*◌, ◌<◌, ◌≤◌}
use native.Mathlib.Omega.{arith}
use borrow.Author.Tests.{ne_eqb}
use lib.ListN.{length, drop}
use Rattle.grammar.specs.Tokens as Tokens
use Rattle.grammar.specs.Tokens.{tokens, begins, rest, plus_mark, minus_mark, times_mark, close_mark}
use Rattle.grammar.specs.Kept.{kept_as}
use Rattle.grammar.specs.Sums as Sums
use Rattle.grammar.specs.Sums.{Entry, outside, read, sum, product, term, joins, both, times, value_of, in_range, decimal}
use Rattle.grammar.specs.declared.Kept.{Kept}
use Rattle.grammar.specs.declared.NoValue.{NoValue}
use Rattle.grammar.specs.declared.Sign.{Sign}
use Rattle.tokens.specs.Shown.{shown, marks}
use Rattle.tokens.specs.declared.Token.{Token}
use Rattle.sums.specs.Told.{ToldInside}

-- a mark that stands next, and what is left after it; or that none does
at_if : (t : Bool) (to k : ℕ) → (elim t as (λ _. Option ℕ) [ true ↦ Some to | false ↦ None ]) ≡ Some k → (t ≡ true) × (to ≡ k)
at_if true to k e = (refl, cc)
at_if false to k e = absurd (let z : ◌≡◌ {A = ℕ} 0 1 = cc in omega arith)

no_if : (t : Bool) (to : ℕ) → (elim t as (λ _. Option ℕ) [ true ↦ Some to | false ↦ None ]) ≡ None → t ≡ false
no_if true to e = absurd (let z : ◌≡◌ {A = ℕ} 0 1 = cc in omega arith)
no_if false to e = refl

not_at : {A : Type 0} (to : ℕ) → None ≡ Some to → A
not_at to e = absurd (let z : ◌≡◌ {A = ℕ} 0 1 = cc in omega arith)

pub marked_at : (b to : ℕ) (l : List ℕ) (t : Token) → marks b t ≡ Some to
    → (begins b (shown l t) ≡ true) × ((rest (shown l t) ≡ tokens (drop to l)) × (length (shown l t) ≡ suc (length (tokens (drop to l)))))
marked_at b to l Token.End e = not_at to e
marked_at b to l (Token.Number x y) e = not_at to e
marked_at b to l (Token.Word x y) e = not_at to e
marked_at b to l (Token.Mark c k) e =
    let f = at_if (lib.Dec.eqb c b) k to e in
    (f.0, (ap (λ (i : ℕ). tokens (drop i l)) f.1, ap (λ (i : ℕ). suc (length (tokens (drop i l)))) f.1))
marked_at b to l (Token.Stray x) e = not_at to e

pub not_marked : (b : ℕ) (l : List ℕ) (t : Token) → marks b t ≡ None → begins b (shown l t) ≡ false
not_marked b l Token.End e = refl
not_marked b l (Token.Number x y) e = refl
not_marked b l (Token.Word x y) e = refl
not_marked b l (Token.Mark c k) e = no_if (lib.Dec.eqb c b) k e
not_marked b l (Token.Stray x) e = refl

-- a reading whose token is inside a row is inside any longer row
pub still_inside : (l : List ℕ) (a b : Token) (r : Option (Result ℕ NoValue × Token)) → ToldInside l a r → length (shown l a) ≤ length (shown l b) → ToldInside l b r
still_inside l a b None h k = tt
still_inside l a b (Some (v, t)) h k = (h.0, omega arith)

-- what comes of every count of steps that is enough
abbrev pub Enough : ℕ → (ℕ → Sums.Reading) → Sums.Reading → Type 0
Enough least f r = (n : ℕ) → least ≤ n → f n ≡ r

-- a sum: its product, and how it goes on
module _ (es : List Entry) (d : ℕ) (s : Sign) (v : Result ℕ NoValue) (ts : List Tokens.Token) where
  pub sum_outside : Enough (3 * length ts + 2) (λ n. product n es d (Ok 1) ts) outside → Enough (3 * length ts + 3) (λ n. sum n es d s v ts) outside
  unfolding sum
  sum_outside h zero k = refl
  sum_outside h (suc n) k = rw (h n (omega arith))

  module _ (p : Result ℕ NoValue) (us : List Tokens.Token) (h : Enough (3 * length ts + 2) (λ n. product n es d (Ok 1) ts) (read p us)) where
    pub sum_ends : begins plus_mark us ≡ false → begins minus_mark us ≡ false → Enough (3 * length ts + 3) (λ n. sum n es d s v ts) (read (joins s v p) us)
    unfolding sum
    sum_ends e f zero k = absurd (omega arith)
    sum_ends e f (suc n) k = rw (h n (omega arith)) (rw (e, Sums.sum_goes) (rw (f, Sums.sum_goes) refl))

    module _ (r : Sums.Reading) (us' : List Tokens.Token) (left : rest us ≡ us') (few : length us ≡ suc (length us')) (fewer : length us < length ts) where
      pub sum_plus : begins plus_mark us ≡ true → Enough (3 * length us' + 3) (λ n. sum n es d Sign.Plus (joins s v p) us') r
          → Enough (3 * length ts + 3) (λ n. sum n es d s v ts) r
      unfolding sum
      sum_plus e g zero k = absurd (omega arith)
      sum_plus e g (suc n) k = rw (h n (omega arith)) (rw (e, Sums.sum_goes) (rw left (g n (omega arith))))

      pub sum_minus : begins plus_mark us ≡ false → begins minus_mark us ≡ true → Enough (3 * length us' + 3) (λ n. sum n es d Sign.Minus (joins s v p) us') r
          → Enough (3 * length ts + 3) (λ n. sum n es d s v ts) r
      unfolding sum
      sum_minus e f g zero k = absurd (omega arith)
      sum_minus e f g (suc n) k = rw (h n (omega arith)) (rw (e, Sums.sum_goes) (rw f (rw left (g n (omega arith)))))

-- a product: its term, and how it goes on
module _ (es : List Entry) (d : ℕ) (v : Result ℕ NoValue) (ts : List Tokens.Token) where
  pub product_outside : Enough (3 * length ts + 1) (λ n. term n es d ts) outside → Enough (3 * length ts + 2) (λ n. product n es d v ts) outside
  unfolding product
  product_outside h zero k = refl
  product_outside h (suc n) k = rw (h n (omega arith))

  module _ (p : Result ℕ NoValue) (us : List Tokens.Token) (h : Enough (3 * length ts + 1) (λ n. term n es d ts) (read p us)) where
    pub product_ends : begins times_mark us ≡ false → Enough (3 * length ts + 2) (λ n. product n es d v ts) (read (both times v p) us)
    unfolding product
    product_ends e zero k = absurd (omega arith)
    product_ends e (suc n) k = rw (h n (omega arith)) (rw (e, Sums.product_goes) refl)

    pub product_times : (r : Sums.Reading) (us' : List Tokens.Token) → rest us ≡ us' → length us ≡ suc (length us') → length us < length ts
        → begins times_mark us ≡ true → Enough (3 * length us' + 2) (λ n. product n es d (both times v p) us') r
        → Enough (3 * length ts + 2) (λ n. product n es d v ts) r
    unfolding product
    product_times r us' left few fewer e g zero k = absurd (omega arith)
    product_times r us' left few fewer e g (suc n) k = rw (h n (omega arith)) (rw (e, Sums.product_goes) (rw left (g n (omega arith))))

-- a term, by its first token
module _ (es : List Entry) (d : ℕ) (ts : List Tokens.Token) where
  pub term_end : Enough 1 (λ n. term n es d []) outside
  unfolding term
  term_end zero k = refl
  term_end (suc n) k = refl

  pub term_number : (ds : List ℕ) → Enough 1 (λ n. term n es d (Tokens.Token.number ds ∷ ts)) (read (in_range (decimal 0 ds)) ts)
  unfolding term
  term_number ds zero k = absurd (omega arith)
  term_number ds (suc n) k = refl

  pub term_name : (w : List ℕ) → kept_as w ≡ Kept.Free → Enough 1 (λ n. term n es d (Tokens.Token.word w ∷ ts)) (read (value_of es w) ts)
  unfolding term
  term_name w e zero k = absurd (omega arith)
  term_name w e (suc n) k = rw e

  pub term_stray : Enough 1 (λ n. term n es d (Tokens.Token.stray ∷ ts)) outside
  unfolding term
  term_stray zero k = refl
  term_stray (suc n) k = refl

  pub term_mark : (b : ℕ) → (b ≡ 40 → ⊥) → Enough 1 (λ n. term n es d (Tokens.Token.mark b ∷ ts)) outside
  unfolding term
  term_mark b h zero k = refl
  term_mark b h (suc n) k = rw (ne_eqb b 40 h, Sums.term_goes) refl

kept_outside : (k : Kept) (v : Result ℕ NoValue) (ts : List Tokens.Token) → (k ≡ Kept.Free → ⊥) → Sums.named k v ts ≡ outside
kept_outside Kept.Free v ts h = absurd (h refl)
kept_outside (Kept.Register a) v ts h = refl
kept_outside (Kept.Order o f) v ts h = refl
kept_outside Kept.Later v ts h = refl

pub term_kept : (es : List Entry) (d : ℕ) (ts : List Tokens.Token) (w : List ℕ) → (kept_as w ≡ Kept.Free → ⊥)
    → Enough 1 (λ n. term n es d (Tokens.Token.word w ∷ ts)) outside
unfolding term
term_kept es d ts w h zero k = refl
term_kept es d ts w h (suc n) k = kept_outside (kept_as w) (value_of es w) ts h

-- a bracket: none may be opened; or a sum, and whether it is closed
pub bracket_deep : (es : List Entry) (d : ℕ) (ts : List Tokens.Token) (b : ℕ) → b ≡ 40 → d ≡ 0 → Enough 1 (λ n. term n es d (Tokens.Token.mark b ∷ ts)) outside
unfolding term
bracket_deep es d ts b e z zero k = refl
bracket_deep es d ts b e z (suc n) k = rw (e, z)

module _ (es : List Entry) (d c : ℕ) (ts : List Tokens.Token) (b : ℕ) (e : b ≡ 40) (z : d ≡ suc c) where
  pub bracket_outside : Enough (3 * length ts + 3) (λ n. sum n es c Sign.Plus (Ok 0) ts) outside
      → Enough (3 * suc (length ts) + 1) (λ n. term n es d (Tokens.Token.mark b ∷ ts)) outside
  unfolding term
  bracket_outside h zero k = refl
  bracket_outside h (suc n) k = rw (e, z, h n (omega arith))

  module _ (v : Result ℕ NoValue) (us : List Tokens.Token) (h : Enough (3 * length ts + 3) (λ n. sum n es c Sign.Plus (Ok 0) ts) (read v us)) where
    pub bracket_open : begins close_mark us ≡ false → Enough (3 * suc (length ts) + 1) (λ n. term n es d (Tokens.Token.mark b ∷ ts)) outside
    unfolding term
    bracket_open f zero k = refl
    bracket_open f (suc n) k = rw (e, z, h n (omega arith)) (rw (f, Sums.closed) refl)

    pub bracket_closed : (us' : List Tokens.Token) → begins close_mark us ≡ true → rest us ≡ us'
        → Enough (3 * suc (length ts) + 1) (λ n. term n es d (Tokens.Token.mark b ∷ ts)) (read v us')
    unfolding term
    bracket_closed us' f left zero k = absurd (omega arith)
    bracket_closed us' f left (suc n) k = rw (e, z, h n (omega arith)) (rw (f, Sums.closed) (rw left refl))
