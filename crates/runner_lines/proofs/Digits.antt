-- The decimal digits of a number as they are written, and how many a line's numbers have. Assumes nothing.
use mathlib.Core.Path.{◌≡◌}
use mathlib.Core.List.{List, [], ◌∷◌}
use Prim.Native.Nat.{ℕ, ◌+◌, ◌/◌, ◌%◌, ◌<◌, ◌≤◌}
use native.Mathlib.Omega.{arith}
use lib.ListN.{length, length-append}
use Rattle.paper.specs.Numbers.{number, kind}
use Rattle.paper.specs.Runner.{digit, decimal}
use Rattle.paper.specs.declared.Answer.{Answer}
use Rattle.paper.specs.declared.Refusal.{Refusal}
use Rattle.laws.specs.Decimal.{decimal_one, decimal_more, decimal_short}
use Rattle.writes.specs.Written.{written, written_on}

-- one digit, and a digit after others, as they are written
module _ (o out : List ℕ) (at n : ℕ) where
  pub one_made : n < 10 → out ≡ written o at ((48 + n) ∷ []) → out ≡ written o at (decimal n)
  one_made h e = rw (decimal_one n h) e

  pub more_made : (mid : List ℕ) (last : ℕ) → 10 ≤ n → mid ≡ written o at (decimal (n / 10)) → last ≡ at + length (decimal (n / 10))
      → out ≡ written mid last ((48 + n % 10) ∷ []) → out ≡ written o at (decimal n)
  more_made mid last h em el e = rw (decimal_more n h, e, em, el) (written_on o at (decimal (n / 10)) (digit (n % 10) ∷ []))

pub one_long : (n : ℕ) → n < 10 → length (decimal n) ≡ 1
one_long n h = rw (decimal_one n h)

pub more_long : (n : ℕ) → 10 ≤ n → length (decimal n) ≡ length (decimal (n / 10)) + 1
more_long n h = rw (decimal_more n h, length-append)

-- kinds have one digit, numbers of refusals at most two
pub kind_small : (a : Answer) → kind a < 10
kind_small Answer.Idle = omega arith
kind_small (Answer.ErrorStop i) = omega arith
kind_small (Answer.TurnPassed i) = omega arith
kind_small (Answer.ServiceDone i) = omega arith
kind_small (Answer.ServiceWaits i) = omega arith
kind_small (Answer.ServiceFaulted i) = omega arith
kind_small (Answer.OrderDone i) = omega arith
kind_small (Answer.OrderFaulted i) = omega arith
kind_small (Answer.Input i) = omega arith
kind_small (Answer.OutputDone i) = omega arith

pub number_small : (r : Refusal) → number r < 100
number_small Refusal.TooShort = omega arith
number_small Refusal.NotMarked = omega arith
number_small Refusal.OutOfRange = omega arith
number_small Refusal.NotPacked = omega arith
number_small Refusal.WrongSegments = omega arith
number_small Refusal.RuleBroken = omega arith
number_small Refusal.MalformedEvent = omega arith
number_small Refusal.InputFull = omega arith
number_small Refusal.PortIdle = omega arith
number_small Refusal.BadPlan = omega arith
number_small Refusal.WrongTarget = omega arith
number_small Refusal.CountFull = omega arith

pub kind_short : (a : Answer) (k : ℕ) → k ≡ kind a → length (decimal k) ≡ 1
kind_short a k e = rw e (one_long (kind a) (kind_small a))

pub number_short : (r : Refusal) (k : ℕ) → k ≡ number r → length (decimal k) ≤ 2
number_short r k e = rw e (decimal_short 1 (number r) (number_small r))

pub event_short : (n : ℕ) → n < 18446744073709551616 → length (decimal n) ≤ 20
event_short n h = decimal_short 19 n (omega arith)
