-- The decimal digits of a number one by one, and how many there are. Assumes nothing.
use Rattle.std.specs.Prelude.{◌≡◌, refl, List, [], ◌∷◌, ◌++◌, Bool, true, false, cond, ℕ, zero, suc, ◌*◌, ◌/◌, ◌%◌, ◌<◌, ◌≤◌, ltb, length}
use Rattle.std.proofs.Common.{ap, arith, ltb-true, ltb-false, lt-ltb, le-ltb, length-append}
use Rattle.paper.specs.Runner.{digit, last_digits, decimal}

-- any count of steps that suffices gives the same digits
tenth : (n k : ℕ) → 10 ≤ n → n < suc k → n / 10 < k
tenth n k h l = omega arith

-- digits by whether the number is below ten
abbrev one_digit_if : Bool → ℕ → List ℕ → List ℕ
one_digit_if b n front = cond b (digit n ∷ []) (front ++ (digit (n % 10) ∷ []))

same_front : (b : Bool) (n : ℕ) (f g : List ℕ) → (b ≡ false → f ≡ g) → one_digit_if b n f ≡ one_digit_if b n g
same_front true n f g h = refl
same_front false n f g h = ap (λ (l : List ℕ). l ++ (digit (n % 10) ∷ [])) (h refl)

enough : (j k n : ℕ) → n < j → n < k → last_digits j n ≡ last_digits k n
enough zero k n h l = absurd (omega arith)
enough (suc j) zero n h l = absurd (omega arith)
enough (suc j) (suc k) n h l =
    same_front (ltb n 10) n (last_digits j (n / 10)) (last_digits k (n / 10))
    (λ e. enough j k (n / 10) (tenth n j (ltb-false n 10 e) h) (tenth n k (ltb-false n 10 e) l))

-- a number below ten is its digit; another is the digits of its tenth, and its last digit
pub decimal_one : (n : ℕ) → n < 10 → decimal n ≡ digit n ∷ []
unfolding decimal
decimal_one n h = rw (lt-ltb n 10 h)

pub decimal_more : (n : ℕ) → 10 ≤ n → decimal n ≡ decimal (n / 10) ++ (digit (n % 10) ∷ [])
unfolding decimal
decimal_more n h =
    rw (le-ltb n 10 h) (ap (λ (l : List ℕ). l ++ (digit (n % 10) ∷ [])) (enough n (suc (n / 10)) (n / 10) (tenth n n h (omega arith)) (omega arith)))

-- numbers below ten to the power of k + 1 have at most k + 1 digits
abbrev pub end_of : ℕ → ℕ
end_of zero = 10
end_of (suc k) = 10 * end_of k

pub decimal_short : (k n : ℕ) → n < end_of k → length (decimal n) ≤ suc k
decimal_short zero n h = rw (decimal_one n h) (omega arith)
decimal_short (suc k) n h = go (ltb n 10) refl (decimal_short k (n / 10) (omega arith))
  where
    go : (b : Bool) → ltb n 10 ≡ b → length (decimal (n / 10)) ≤ suc k → length (decimal n) ≤ suc (suc k)
    go true e s = rw (decimal_one n (ltb-true n 10 e)) (omega arith)
    go false e s = rw (decimal_more n (ltb-false n 10 e), length-append) (omega arith)

-- a word has at most five digits
pub word_short : (n c : ℕ) → n < 65536 → c ≡ length (decimal n) → c ≤ 5
word_short n c h e = rw e (decimal_short 4 n (omega arith))
