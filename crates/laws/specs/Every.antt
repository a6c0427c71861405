-- A test at each number below n, as a loop makes it. Assumes nothing.
use Rattle.std.specs.Prelude.{◌≡◌, refl, Bool, true, false, ℕ, zero, suc, ◌+◌, ◌<◌, ◌≤◌}
use Rattle.std.proofs.Math.Bool.{and-false}
use Rattle.std.proofs.Common.{⊎_elim, eq-or-lt_of_le, add-one, arith}
use Rattle.paper.specs.Tests.{every}

-- no number
pub every_none : (f : ℕ → Bool) → every 0 f ≡ true
unfolding every
every_none f = refl

-- one more number passes
pub every_more : (k : ℕ) (f : ℕ → Bool) → every k f ≡ true → f k ≡ true → every (k + 1) f ≡ true
unfolding every
every_more k f e t = rw (add-one, e, t)

-- one number fails
pub every_fails : (n k : ℕ) (f : ℕ → Bool) → k < n → f k ≡ false → every n f ≡ false
unfolding every
every_fails zero k f h e = absurd (omega arith)
every_fails (suc n) k f h e =
    ⊎_elim (λ z. rw (← z, e) (and-false (every k f))) (λ l. rw (every_fails n k f (omega arith) e))
    (eq-or-lt_of_le {n = k} {m = n} (omega arith))

-- all have passed
pub every_done : (n k : ℕ) (f : ℕ → Bool) → every k f ≡ true → n ≤ k → k ≤ n → every n f ≡ true
every_done n k f e h l = let z : n ≡ k = omega arith in rw z e
