-- The ways through the readers' code, each from what its calls come to. Assumes nothing.
use Rattle.std.specs.Prelude.{None, Ok, Option, Result, Some, ℕ}
use Rattle.std.specs.Bool.{then_some}
use mathlib.Core.Path.{◌≡◌, refl, sym, ap, ◌∙◌}
use mathlib.Core.Bool.{Bool, true, false}
use mathlib.Core.List.{List, []}
use Prim.Native.Nat.{ℕ, suc, ◌+◌, ◌-◌, ◌*◌, ◌<◌, ◌≤◌}
use native.Mathlib.Omega.{arith}
use lib.ListN.{length, drop}
use Rattle.grammar.specs.Tokens.{tokens, begins, rest, plus_mark, minus_mark, times_mark, close_mark}
use Rattle.grammar.specs.Kept.{kept_as}
use Rattle.grammar.specs.Sums as Sums
use Rattle.grammar.specs.Sums.{Entry, outside, read, sum, product, term, joins, both, times, sum_of, whole, deepest, value_of, in_range, decimal, found_as, find}
use Rattle.grammar.specs.declared.Kept.{Kept}
use Rattle.grammar.specs.declared.NoValue.{NoValue}
use Rattle.grammar.specs.declared.Sign.{Sign}
use Rattle.tokens.specs.Shown.{shown, part, Inside, marks, is_end}
use Rattle.tokens.specs.declared.Token.{Token}
use Rattle.sums.specs.Told.{told, total, ToldInside}
use Rattle.sums.proofs.Laws.{sum_ends, sum_plus, sum_minus, product_ends, product_times, bracket_open, bracket_closed, Enough, marked_at, not_marked, still_inside, sum_outside, product_outside, term_end, term_number, term_name, term_stray, term_mark, term_kept, bracket_deep, bracket_outside}

-- a token that stands in a line, by what it is
pub inside_as : (l : List ℕ) (a b : Token) → a ≡ b → Inside l a → Inside l b
inside_as l a b e i = rw e at i

-- what a reader comes to at a token
abbrev pub Reads : ℕ → (ℕ → Sums.Reading) → List ℕ → Token → Option (Result ℕ NoValue × Token) → Type 0
Reads least f l next r = Enough least f (told l r) × ToldInside l next r

-- the row after a mark that stands next
after : (b to : ℕ) (l : List ℕ) (t u : Token) (m : Option ℕ) → m ≡ marks b t → m ≡ Some to → tokens (drop to l) ≡ shown l u
    → (begins b (shown l t) ≡ true) × ((rest (shown l t) ≡ shown l u) × (length (shown l t) ≡ suc (length (shown l u))))
after b to l t u m f o g =
    let h = marked_at b to l t (sym f ∙ o) in
    (h.0, (h.1.0 ∙ g, rw g at h.1.1))

pub fewer : (b to : ℕ) (l : List ℕ) (next t u : Token) (v : Result ℕ NoValue) (r : Option (Result ℕ NoValue × Token)) (m : Option ℕ) → r ≡ Some (v, t) → ToldInside l next r
    → m ≡ marks b t → m ≡ Some to → tokens (drop to l) ≡ shown l u → suc (length (shown l u)) < length (shown l next)
fewer b to l next t u v r m e h f o g =
    let i : ToldInside l next (Some (v, t)) = rw e at h in
    omega (arith, i.1, (after b to l t u m f o g).1.1)

pub inner_fewer : (b to : ℕ) (l : List ℕ) (next u : Token) → next ≡ Token.Mark b to → tokens (drop to l) ≡ shown l u → length (shown l next) ≡ suc (length (shown l u))
inner_fewer b to l next u e g = rw (e, ← g) refl

module _ (es : List Entry) (d : ℕ) (l : List ℕ) (next : Token) where
  -- a product: its term, and what stands after it
  module _ (v : Result ℕ NoValue) (r : Option (Result ℕ NoValue × Token)) (h : Reads (3 * length (shown l next) + 1) (λ n. term n es d (shown l next)) l next r) where
    pub product_fails : r ≡ None → Reads (3 * length (shown l next) + 2) (λ n. product n es d v (shown l next)) l next None
    product_fails e = (product_outside es d v (shown l next) (rw e at h.0), tt)

    module _ (p w : Result ℕ NoValue) (t : Token) (m : Option ℕ) (e : r ≡ Some (p, t)) (k : w ≡ both times v p) (f : m ≡ marks times_mark t) where
      pub product_stops : m ≡ None → Reads (3 * length (shown l next) + 2) (λ n. product n es d v (shown l next)) l next (Some (w, t))
      product_stops o = (rw k (product_ends es d v (shown l next) p (shown l t) (rw e at h.0) (not_marked times_mark l t (sym f ∙ o))), rw e at h.1)

      pub product_goes_on : (to : ℕ) (u : Token) (q : Option (Result ℕ NoValue × Token)) → m ≡ Some to → tokens (drop to l) ≡ shown l u
          → Reads (3 * length (shown l u) + 2) (λ n. product n es d w (shown l u)) l u q
          → Reads (3 * length (shown l next) + 2) (λ n. product n es d v (shown l next)) l next q
      product_goes_on to u q o g i =
          let a = after times_mark to l t u m f o g in
          let s = fewer times_mark to l next t u p r m e h.1 f o g in (
            product_times es d v (shown l next) p (shown l t) (rw e at h.0) (told l q) (shown l u) a.1.0 a.1.1 (omega (arith, a.1.1)) a.0 (rw k at i.0),
            still_inside l u next q i.1 (omega arith),
          )

  -- a sum: its product, and what stands after it
  module _ (s : Sign) (v : Result ℕ NoValue) (r : Option (Result ℕ NoValue × Token)) (h : Reads (3 * length (shown l next) + 2) (λ n. product n es d (Ok 1) (shown l next)) l next r) where
    pub sum_fails : r ≡ None → Reads (3 * length (shown l next) + 3) (λ n. sum n es d s v (shown l next)) l next None
    sum_fails e = (sum_outside es d s v (shown l next) (rw e at h.0), tt)

    module _ (p w : Result ℕ NoValue) (t : Token) (m : Option ℕ) (e : r ≡ Some (p, t)) (k : w ≡ joins s v p) (f : m ≡ marks plus_mark t) where
      pub sum_goes_up : (to : ℕ) (u : Token) (q : Option (Result ℕ NoValue × Token)) → m ≡ Some to → tokens (drop to l) ≡ shown l u
          → Reads (3 * length (shown l u) + 3) (λ n. sum n es d Sign.Plus w (shown l u)) l u q
          → Reads (3 * length (shown l next) + 3) (λ n. sum n es d s v (shown l next)) l next q
      sum_goes_up to u q o g i =
          let a = after plus_mark to l t u m f o g in
          let c = fewer plus_mark to l next t u p r m e h.1 f o g in (
            sum_plus es d s v (shown l next) p (shown l t) (rw e at h.0) (told l q) (shown l u) a.1.0 a.1.1 (omega (arith, a.1.1)) a.0 (rw k at i.0),
            still_inside l u next q i.1 (omega arith),
          )

      module _ (j : Option ℕ) (no : m ≡ None) (b : j ≡ marks minus_mark t) where
        pub sum_goes_down : (to : ℕ) (u : Token) (q : Option (Result ℕ NoValue × Token)) → j ≡ Some to → tokens (drop to l) ≡ shown l u
            → Reads (3 * length (shown l u) + 3) (λ n. sum n es d Sign.Minus w (shown l u)) l u q
            → Reads (3 * length (shown l next) + 3) (λ n. sum n es d s v (shown l next)) l next q
        sum_goes_down to u q o g i =
            let a = after minus_mark to l t u j b o g in
            let c = fewer minus_mark to l next t u p r j e h.1 b o g in (
              sum_minus es d s v (shown l next) p (shown l t) (rw e at h.0) (told l q) (shown l u) a.1.0 a.1.1 (omega (arith, a.1.1)) (not_marked plus_mark l t (sym f ∙ no)) a.0 (rw k at i.0),
              still_inside l u next q i.1 (omega arith),
            )

        pub sum_stops : j ≡ None → Reads (3 * length (shown l next) + 3) (λ n. sum n es d s v (shown l next)) l next (Some (w, t))
        sum_stops o = (
          rw k (sum_ends es d s v (shown l next) p (shown l t) (rw e at h.0) (not_marked plus_mark l t (sym f ∙ no)) (not_marked minus_mark l t (sym b ∙ o))),
          rw e at h.1,
        )

-- a product or a sum that has come to a later token b, from a: what it comes to from there it comes to from the start
abbrev pub On : ℕ → (ℕ → Sums.Reading) → (ℕ → Sums.Reading) → List ℕ → Token → Token → Type 0
On k f g l a b =
    Inside l b ×
    ((length (shown l b) ≤ length (shown l a)) ×
    ((q : Option (Result ℕ NoValue × Token)) → Reads (3 * length (shown l b) + k) g l b q → Reads (3 * length (shown l a) + k) f l a q))

pub starts_on : (k : ℕ) (f : ℕ → Sums.Reading) (l : List ℕ) (a : Token) → Inside l a → On k f f l a a
starts_on k f l a i = (i, (omega arith, λ q h. h))

abbrev pub ProductOn : List Entry → ℕ → List ℕ → Result ℕ NoValue → Token → Result ℕ NoValue → Token → Type 0
ProductOn es d l v a w b = On 2 (λ n. product n es d v (shown l a)) (λ n. product n es d w (shown l b)) l a b

abbrev pub SumOn : List Entry → ℕ → List ℕ → Sign → Result ℕ NoValue → Token → Sign → Result ℕ NoValue → Token → Type 0
SumOn es d l s v a t w b = On 3 (λ n. sum n es d s v (shown l a)) (λ n. sum n es d t w (shown l b)) l a b

module _ (es : List Entry) (d : ℕ) (l : List ℕ) (b to : ℕ) (first t u : Token) (p : Result ℕ NoValue) (r : Option (Result ℕ NoValue × Token)) (m : Option ℕ) (e : r ≡ Some (p, t))
    (f : m ≡ marks b t) (o : m ≡ Some to) (g : tokens (drop to l) ≡ shown l u) (i : Inside l u) where
  -- one term more
  pub product_on : (a : Token) (v₀ v w : Result ℕ NoValue) → b ≡ times_mark → ProductOn es d l v₀ a v first
      → Reads (3 * length (shown l first) + 1) (λ n. term n es d (shown l first)) l first r → w ≡ both times v p → ProductOn es d l v₀ a w u
  product_on a v₀ v w z on h k =
      let c = fewer b to l first t u p r m e h.1 f o g in
      (i, (omega (arith, on.1.0), λ q x. on.1.1 q (product_goes_on es d l first v r h p w t m e k (rw z at f) to u q o g x)))

  -- one product more
  module _ (a : Token) (s₀ s : Sign) (v₀ v w : Result ℕ NoValue) (on : SumOn es d l s₀ v₀ a s v first)
      (h : Reads (3 * length (shown l first) + 2) (λ n. product n es d (Ok 1) (shown l first)) l first r) (k : w ≡ joins s v p) where
    pub sum_on_up : b ≡ plus_mark → SumOn es d l s₀ v₀ a Sign.Plus w u
    sum_on_up z =
        let c = fewer b to l first t u p r m e h.1 f o g in
        (i, (omega (arith, on.1.0), λ q x. on.1.1 q (sum_goes_up es d l first s v r h p w t m e k (rw z at f) to u q o g x)))

    pub sum_on_down : (j : Option ℕ) → j ≡ marks plus_mark t → j ≡ None → b ≡ minus_mark → SumOn es d l s₀ v₀ a Sign.Minus w u
    sum_on_down j y none z =
        let c = fewer b to l first t u p r m e h.1 f o g in
        (i, (omega (arith, on.1.0), λ q x. on.1.1 q (sum_goes_down es d l first s v r h p w t j e k y m none (rw z at f) to u q o g x)))

-- the last term, and the last product
module _ (es : List Entry) (d : ℕ) (l : List ℕ) (a first : Token) where
  pub product_done : (v₀ v w p : Result ℕ NoValue) (t : Token) (r : Option (Result ℕ NoValue × Token)) (m : Option ℕ) → ProductOn es d l v₀ a v first
      → Reads (3 * length (shown l first) + 1) (λ n. term n es d (shown l first)) l first r → r ≡ Some (p, t) → w ≡ both times v p
      → m ≡ marks times_mark t → m ≡ None → Reads (3 * length (shown l a) + 2) (λ n. product n es d v₀ (shown l a)) l a (Some (w, t))
  product_done v₀ v w p t r m on h e k f o = on.1.1 (Some (w, t)) (product_stops es d l first v r h p w t m e k f o)

  pub sum_done : (s₀ s : Sign) (v₀ v w p : Result ℕ NoValue) (t : Token) (r : Option (Result ℕ NoValue × Token)) (m j : Option ℕ) → SumOn es d l s₀ v₀ a s v first
      → Reads (3 * length (shown l first) + 2) (λ n. product n es d (Ok 1) (shown l first)) l first r → r ≡ Some (p, t) → w ≡ joins s v p
      → m ≡ marks plus_mark t → m ≡ None → j ≡ marks minus_mark t → j ≡ None
      → Reads (3 * length (shown l a) + 3) (λ n. sum n es d s₀ v₀ (shown l a)) l a (Some (w, t))
  sum_done s₀ s v₀ v w p t r m j on h e k f o b z = on.1.1 (Some (w, t)) (sum_stops es d l first s v r h p w t m e k f j o b z)

-- a term, by the token that stands next
abbrev Term : List Entry → ℕ → List ℕ → Token → Option (Result ℕ NoValue × Token) → Type 0
Term es d l next r = Reads (3 * length (shown l next) + 1) (λ n. term n es d (shown l next)) l next r

module _ (es : List Entry) (d : ℕ) (l : List ℕ) (next : Token) where
  pub end_read : next ≡ Token.End → Term es d l next None
  end_read e = rw e (term_end es d [], tt)

  pub stray_read : (to : ℕ) → next ≡ Token.Stray to → Term es d l next None
  stray_read to e = rw e ((λ n k. term_stray es d (tokens (drop to l)) n (omega arith)), tt)

  module _ (from to : ℕ) (v : Result ℕ NoValue) (u : Token) (g : tokens (drop to l) ≡ shown l u) (i : Inside l u) where
    pub number_read : next ≡ Token.Number from to → v ≡ in_range (decimal 0 (part l from to)) → Term es d l next (Some (v, u))
    number_read e k = rw (e, k, ← g) ((λ n h. term_number es d (tokens (drop to l)) (part l from to) n (omega arith)), (i, omega arith))

    pub name_read : (k : Kept) → next ≡ Token.Word from to → k ≡ kept_as (part l from to) → k ≡ Kept.Free → v ≡ value_of es (part l from to)
        → Term es d l next (Some (v, u))
    name_read k e f z w =
        rw (e, w, ← g) ((λ n h. term_name es d (tokens (drop to l)) (part l from to) (sym f ∙ z) n (omega arith)), (i, omega arith))

  pub kept_read : (from to : ℕ) (k : Kept) → next ≡ Token.Word from to → k ≡ kept_as (part l from to) → (k ≡ Kept.Free → ⊥) → Term es d l next None
  kept_read from to k e f z =
      rw e ((λ n h. term_kept es d (tokens (drop to l)) (part l from to) (λ o. z (f ∙ o)) n (omega arith)), tt)

  -- a mark: none but a bracket, and no bracket where none may be opened
  module _ (b to : ℕ) (e : next ≡ Token.Mark b to) where
    pub mark_read : (b ≡ 40 → ⊥) → Term es d l next None
    mark_read z = rw e ((λ n h. term_mark es d (tokens (drop to l)) b z n (omega arith)), tt)

    pub deep_read : b ≡ 40 → d ≡ 0 → Term es d l next None
    deep_read o z = rw e ((λ n h. bracket_deep es d (tokens (drop to l)) b o z n (omega arith)), tt)

    module _ (u : Token) (g : tokens (drop to l) ≡ shown l u) where
      module _ (o : b ≡ 40) (z : d ≡ 0 → ⊥) (r : Option (Result ℕ NoValue × Token)) (h : Reads (3 * length (shown l u) + 3) (λ n. sum n es (d - 1) Sign.Plus (Ok 0) (shown l u)) l u r) where
        pub bracket_fails : r ≡ None → Term es d l next None
        bracket_fails f = rw (e, g) (bracket_outside es d (d - 1) (shown l u) b o (omega arith) (rw f at h.0), tt)

        module _ (v : Result ℕ NoValue) (t : Token) (m : Option ℕ) (f : r ≡ Some (v, t)) (c : m ≡ marks close_mark t) where
          pub bracket_unclosed : m ≡ None → Term es d l next None
          bracket_unclosed k =
              rw (e, g) (bracket_open es d (d - 1) (shown l u) b o (omega arith) v (shown l t) (rw f at h.0) (not_marked close_mark l t (sym c ∙ k)), tt)

          pub bracket_read : (to' : ℕ) (x : Token) → m ≡ Some to' → tokens (drop to' l) ≡ shown l x → Inside l x → Term es d l next (Some (v, x))
          bracket_read to' x k y i =
              let a = after close_mark to' l t x m c k y in
              let s = fewer close_mark to' l u t x v r m f h.1 c k y in
              rw (e, g) (bracket_closed es d (d - 1) (shown l u) b o (omega arith) v (shown l t) (rw f at h.0) (shown l x) a.0 a.1.0, (i, omega arith))

-- a sum to the end of the line
ended : (l : List ℕ) (v : Result ℕ NoValue) (t : Token) → is_end t ≡ true → whole (read v (shown l t)) ≡ read v []
ended l v Token.End e = refl
ended l v (Token.Number x y) e = absurd (let z : ◌≡◌ {A = ℕ} 0 1 = cc in omega arith)
ended l v (Token.Word x y) e = absurd (let z : ◌≡◌ {A = ℕ} 0 1 = cc in omega arith)
ended l v (Token.Mark b x) e = absurd (let z : ◌≡◌ {A = ℕ} 0 1 = cc in omega arith)
ended l v (Token.Stray x) e = absurd (let z : ◌≡◌ {A = ℕ} 0 1 = cc in omega arith)

more_left : (l : List ℕ) (v : Result ℕ NoValue) (t : Token) → is_end t ≡ false → whole (read v (shown l t)) ≡ outside
more_left l v Token.End e = absurd (let z : ◌≡◌ {A = ℕ} 0 1 = cc in omega arith)
more_left l v (Token.Number x y) e = refl
more_left l v (Token.Word x y) e = refl
more_left l v (Token.Mark b x) e = refl
more_left l v (Token.Stray x) e = refl

module _ (es : List Entry) (l : List ℕ) (next : Token) (r : Option (Result ℕ NoValue × Token)) (h : Reads (3 * length (shown l next) + 3) (λ n. sum n es deepest Sign.Plus (Ok 0) (shown l next)) l next r) where
  whole_told : sum_of es (shown l next) ≡ whole (told l r)
  unfolding sum_of
  whole_told = ap whole (h.0 (3 * length (shown l next) + 3) (omega arith))

  pub total_fails : r ≡ None → sum_of es (shown l next) ≡ total None
  total_fails e = whole_told ∙ ap (λ (x : Option (Result ℕ NoValue × Token)). whole (told l x)) e

  module _ (v : Result ℕ NoValue) (t : Token) (b : Bool) (e : r ≡ Some (v, t)) (f : b ≡ is_end t) where
    total_comes : b ≡ true → sum_of es (shown l next) ≡ total (Some v)
    total_comes k = whole_told ∙ ap (λ (x : Option (Result ℕ NoValue × Token)). whole (told l x)) e ∙ ended l v t (sym f ∙ k)

    total_goes_on : b ≡ false → sum_of es (shown l next) ≡ total None
    total_goes_on k = whole_told ∙ ap (λ (x : Option (Result ℕ NoValue × Token)). whole (told l x)) e ∙ more_left l v t (sym f ∙ k)

    -- the value, where no token is left
    pub total_told : (x : Option (Result ℕ NoValue)) → x ≡ then_some b v → sum_of es (shown l next) ≡ total x
    total_told x k = rw k (go b refl)
      where
        go : (c : Bool) → b ≡ c → sum_of es (shown l next) ≡ total (then_some c v)
        go true h = total_comes h
        go false h = total_goes_on h
