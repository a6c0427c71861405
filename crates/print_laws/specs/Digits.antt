-- The decimal digits of a number are read as that number. Assumes nothing.
use Rattle.std.specs.Prelude.{◌≡◌, refl, Bool, true, false, cond, ◌&&◌, List, [], ◌∷◌, ◌++◌, ℕ, zero, suc, ◌+◌, ◌-◌, ◌*◌, ◌/◌, ◌%◌, ◌<◌, ◌≤◌, leb, ltb, eqb, length, Ok}
use Rattle.std.proofs.Common.{ap, ◌∙◌, append_assoc, append-nil, arith, ltb-true, ltb-false, leb-true, le-leb, lt-ltb, ne_eqb, length-append}
use Rattle.std.proofs.Math.Bool.{and-eq-true_iff}
use Rattle.std.proofs.lemmas.Bool.{lt-leb}
use Rattle.paper.specs.Runner.{digit as digit_of, last_digits, decimal}
use Rattle.grammar.specs.Tokens.{comment, letter, digit, Token, Open, begun, alone, tokens_on, tokens}
use Rattle.grammar.specs.Sums.{Reading, in_range, end_of_range, sum, product, term, sum_of, decimal as value}

-- what a test says of each byte
abbrev pub each : (ℕ → Bool) → List ℕ → Bool
each t [] = true
each t (b ∷ bs) = t b && each t bs

pub each_first : (t : ℕ → Bool) (b : ℕ) (bs : List ℕ) → each t (b ∷ bs) ≡ true → (t b ≡ true) × (each t bs ≡ true)
each_first t b bs e = (and-eq-true_iff (t b) (each t bs)).0 e

pub each_both : (t : ℕ → Bool) (l m : List ℕ) → each t l ≡ true → each t m ≡ true → each t (l ++ m) ≡ true
each_both t [] m el em = em
each_both t (b ∷ l) m el em = let h = each_first t b l el in rw h.0 (each_both t l m h.1 em)

pub each_so : (t u : ℕ → Bool) → ((b : ℕ) → t b ≡ true → u b ≡ true) → (l : List ℕ) → each t l ≡ true → each u l ≡ true
each_so t u f [] e = refl
each_so t u f (b ∷ l) e = let h = each_first t b l e in rw (f b h.0) (each_so t u f l h.1)

-- a digit begins no comment and is no letter
pub digit_low : (b : ℕ) → digit b ≡ true → 48 ≤ b
digit_low b e = leb-true 48 b ((and-eq-true_iff (leb 48 b) (leb b 57)).0 e).0

pub digit_high : (b : ℕ) → digit b ≡ true → b ≤ 57
digit_high b e = leb-true b 57 ((and-eq-true_iff (leb 48 b) (leb b 57)).0 e).1

no_comment : (b : ℕ) → digit b ≡ true → eqb b comment ≡ false
no_comment b e = ne_eqb b comment (λ z. omega (arith, digit_high b e))

no_letter : (b : ℕ) → digit b ≡ true → letter b ≡ false
no_letter b e = rw (lt-leb 97 b (omega (arith, digit_high b e)))

-- a row of digits is one number
more_digits : (ds es : List ℕ) → each digit es ≡ true → tokens_on (Open.in_number ds) es ≡ Token.number (ds ++ es) ∷ []
unfolding tokens_on
more_digits ds [] e = rw (append-nil ds)
more_digits ds (b ∷ es) e =
    let h = each_first digit b es e in
    rw (no_comment b h.0, h.0, tokens_on) (more_digits (ds ++ (b ∷ [])) es h.1 ∙ rw append_assoc)

pub number_token : (ds : List ℕ) → each digit ds ≡ true → 0 < length ds → tokens ds ≡ Token.number ds ∷ []
unfolding tokens tokens_on
number_token [] e n = absurd (omega arith)
number_token (b ∷ ds) e n =
    let h = each_first digit b ds e in
    let begins : begun b ≡ Open.in_number (b ∷ []) = rw (no_letter b h.0, h.0, begun) in
    let nothing : alone b ≡ [] = rw (no_letter b h.0, h.0, alone) in
    rw (no_comment b h.0, tokens, tokens_on) (ap (λ ts. ts ++ tokens_on (begun b) ds) nothing ∙ ap (λ o. tokens_on o ds) begins ∙ more_digits (b ∷ []) ds h.1)

-- the digits of a number are digits, there is one at least, and their value is the number
is_digit : (d : ℕ) → d < 10 → digit (digit_of d) ≡ true
is_digit d h = rw (le-leb 48 (48 + d) (omega arith), le-leb (48 + d) 57 (omega arith))

last_are_digits : (k n : ℕ) → each digit (last_digits k n) ≡ true
last_are_digits zero n = refl
last_are_digits (suc k) n = go (ltb n 10) refl (last_are_digits k (n / 10))
  where
    go : (t : Bool) → ltb n 10 ≡ t → each digit (last_digits k (n / 10)) ≡ true
        → each digit (cond t (digit_of n ∷ []) (last_digits k (n / 10) ++ (digit_of (n % 10) ∷ []))) ≡ true
    go true e h = rw (is_digit n (ltb-true n 10 e))
    go false e h = each_both digit (last_digits k (n / 10)) (digit_of (n % 10) ∷ []) h (rw (is_digit (n % 10) (omega arith)))

pub are_digits : (n : ℕ) → each digit (decimal n) ≡ true
unfolding decimal
are_digits n = last_are_digits (suc n) n

pub some_digit : (n : ℕ) → 0 < length (decimal n)
unfolding decimal
some_digit n = go (ltb n 10)
  where
    go : (t : Bool) → 0 < length (cond t (digit_of n ∷ []) (last_digits n (n / 10) ++ (digit_of (n % 10) ∷ [])))
    go true = omega arith
    go false = rw length-append (omega arith)

value_more : (m : ℕ) (ds : List ℕ) (d : ℕ) → value m (ds ++ (d ∷ [])) ≡ value m ds * 10 + (d - 48)
unfolding value
value_more m [] d = refl
value_more m (b ∷ ds) d = value_more (m * 10 + (b - 48)) ds d

last_value : (k n : ℕ) → n < k → value 0 (last_digits k n) ≡ n
unfolding value
last_value zero n h = absurd (omega arith)
last_value (suc k) n h = go (ltb n 10) refl (λ l. last_value k (n / 10) l)
  where
    go : (t : Bool) → ltb n 10 ≡ t → (n / 10 < k → value 0 (last_digits k (n / 10)) ≡ n / 10)
        → value 0 (cond t (digit_of n ∷ []) (last_digits k (n / 10) ++ (digit_of (n % 10) ∷ []))) ≡ n
    go true e later = omega arith
    go false e later =
        value_more 0 (last_digits k (n / 10)) (digit_of (n % 10))
        ∙ omega (arith, later (omega (arith, ltb-false n 10 e)))

pub value_back : (n : ℕ) → value 0 (decimal n) ≡ n
unfolding decimal
value_back n = last_value (suc n) n (omega arith)

-- a number in range as a sum
sum_of_number : (ds : List ℕ) (n : ℕ) → value 0 ds ≡ n → n < end_of_range → sum_of [] (Token.number ds ∷ []) ≡ Reading.read (Ok n) []
unfolding sum_of sum product term
sum_of_number ds n e h =
    let t : ltb n end_of_range ≡ true = lt-ltb n end_of_range h in
    let once : 1 * n ≡ n = omega arith in
    let nought : 0 + n ≡ n = omega arith in
    let is : in_range n ≡ Ok n = rw (t, in_range) in
    rw (e, is, once, is, nought, is)

pub sum_back : (n : ℕ) → n < end_of_range → sum_of [] (Token.number (decimal n) ∷ []) ≡ Reading.read (Ok n) []
sum_back n h = sum_of_number (decimal n) n (value_back n) h

pub token_back : (n : ℕ) → tokens (decimal n) ≡ Token.number (decimal n) ∷ []
token_back n = number_token (decimal n) (are_digits n) (some_digit n)
