-- What an order does keeps to its task's own machine: a register it has, an address of its segment, flags in range. Assumes nothing.
use Rattle.std.specs.Prelude.{◌≡◌, refl, Bool, true, false, cond, ◌&&◌, ◌≢◌, ℕ, ◌+◌, ◌<◌, ◌≤◌, eqb, leb, ltb, length, Err, None, Ok, Option, Result, Some}
use Rattle.std.proofs.Common.{◌∙◌, ltb-true, leb-true, eq-eqb, ne_eqb}
use Rattle.std.proofs.Math.Bool.{and-eq-true_iff}
use native.Mathlib.Omega.{arith}
use Rattle.paper.specs.Image.{address}
use Rattle.paper.specs.Flags.{flags_of, cc_of, error_of, pending_of, most_cc}
use Rattle.paper.specs.Services.{services}
use Rattle.paper.specs.Machines.{Machine}
use Rattle.paper.specs.Orders.{op_of, a_of, b_of, order_of, shape_of_order, holds, serves, compared, next_order, stack, past, operand, inside, found, reading, storing, second, sets, cc as condition, error, pending, effect, effect_of, checked, decided, with_register, with_flags, with_word, changed, faulted, after, order_answer}
use Rattle.paper.specs.Rules.{Within}
use Rattle.paper.specs.declared.Task.{Task}
use Rattle.paper.specs.declared.Address.{Address}
use Rattle.paper.specs.declared.Op.{Op}
use Rattle.paper.specs.declared.Change.{Change}
use Rattle.paper.specs.declared.Answer.{Answer}
use Rattle.laws.specs.Cases.{when}
use Rattle.paper.specs.declared.Field.{Field}

-- flags that a machine may get: the error is as it was, and the rest in range where it was
pub record FineFlags (m : Machine) (f : ℕ) : Type 0 where
  pub error_kept : error_of f ≡ error m
  pub cc_fine : condition m ≤ most_cc → cc_of f ≤ most_cc
  pub pending_fine : pending m ≤ length services → pending_of f ≤ length services

-- an address of the segment
abbrev pub Inside : Machine → Address → Type 0
Inside m a = a.0 < length m.segment

-- a change of words that a machine has
abbrev OwnChange : Machine → Change → Type 0
OwnChange m (Change.Register a w) = a < 8
OwnChange m (Change.Store a w) = Inside m a
OwnChange m (Change.Flags f) = FineFlags m f
OwnChange m (Change.Call top n) = Inside m top
OwnChange m (Change.Return top w) = Unit {0}

-- and an effect; shut, as contracts say it
unfoldable pub Own : Machine → Result (ℕ × Change) ℕ → Type 0
Own m (Ok (next, c)) = OwnChange m c
Own m (Err e) = Within 1 4 e

-- an error's number
pub own_error : (m : Machine) (e : ℕ) → Own m (Err e) → Within 1 4 e
unfolding Own
own_error m e h = h

-- an order's field a as its shape allows it
abbrev Right : Option (ℕ × Field × Field) → ℕ → Type 0
Right None a = Unit {0}
Right (Some (n, fa, fb)) a = (holds fa a ≡ true) × (serves fa a ≡ true)

-- a compare and a service keep flags in range
condition_range : (p q : Bool) → cond p 0 (cond q 1 2) ≤ most_cc
condition_range true q = omega arith
condition_range false true = omega arith
condition_range false false = omega arith

pub fields : (c e p : ℕ) → c ≤ 3 → e ≤ 7 → (cc_of (flags_of c e p) ≡ c) × (error_of (flags_of c e p) ≡ e) × (pending_of (flags_of c e p) ≡ p)
fields c e p hc he = (omega arith, omega arith, omega arith)

module _ (m : Machine) where
  compare_fine : (x y : ℕ) → FineFlags m (flags_of (compared x y) (error m) (pending m))
  compare_fine x y =
      let low = condition_range (eqb x y) (ltb x y) in
      let f = fields (compared x y) (error m) (pending m) (omega (arith, low)) (omega arith) in
      record { error_kept = f.1; cc_fine = λ h. omega (arith, low, f.0); pending_fine = λ h. omega (arith, f.2) }

  service_fine : (a : ℕ) → a ≤ 4 → FineFlags m (flags_of (condition m) (error m) a)
  service_fine a ha =
      let f = fields (condition m) (error m) a (omega arith) (omega arith) in
      record { error_kept = f.1; cc_fine = λ h. omega (arith, f.0); pending_fine = λ h. omega (arith, f.2) }

-- the number of a known service
known_small : (x : ℕ) → (leb 1 x && leb x 4) ≡ true → x ≤ 4
known_small x h = leb-true x 4 ((and-eq-true_iff (leb 1 x) (leb x 4)).0 h).1

-- what each order does is its machine's own
module _ (m : Machine) where
  own_fault : (e : ℕ) → Within 1 4 e → Own m (Err e)
  unfolding Own
  own_fault e h = h

  own_change : (next : ℕ) (c : Change) → OwnChange m c → Own m (Ok (next, c))
  unfolding Own
  own_change next c h = h

  own_reading : (f : Option ℕ) (k : ℕ → Result (ℕ × Change) ℕ) → ((w : ℕ) → Own m (k w)) → Own m (reading f k)
  own_reading (Some w) k h = h w
  own_reading None k h = own_fault 1 (omega arith, omega arith)

  own_storing : (a : ℕ) (e : Result (ℕ × Change) ℕ) → (Inside m (address a) → Own m e) → Own m (storing m a e)
  own_storing a e h = when (Own m) (inside m a) (λ t. h (ltb-true a (length m.segment) t)) (λ _. own_fault 1 (omega arith, omega arith))

  own_divided : (z : Bool) (e : Result (ℕ × Change) ℕ) → Own m e → Own m (cond z (Err 4) e)
  own_divided z e h = when (Own m) z (λ _. own_fault 4 (omega arith, omega arith)) (λ _. h)

  own_sets : (next a w : ℕ) → a < 8 → Own m (sets next a w)
  own_sets next a w h = own_change next (Change.Register a w) h

  module _ (next a x y : ℕ) where
    own_second : (k : ℕ → Result (ℕ × Change) ℕ) → ((n : ℕ) → Own m (k n)) → Own m (second m k)
    own_second k h = own_reading (found m (next_order m + 1)) k h

    own_result : (h : ltb a 8 ≡ true) (w : ℕ) → Own m (sets next a w)
    own_result h w = own_sets next a w (ltb-true a 8 h)

    own_jump : (n : ℕ) → Own m (sets next 0 n)
    own_jump n = own_sets next 0 n (omega arith)

    own_effect : (o : Op) → Right (shape_of_order o) a → Own m (effect o m next a x y)
    own_effect Op.Unknown h = own_fault 2 (omega arith, omega arith)
    own_effect Op.Load h = own_second (sets next a) (own_result h.0)
    own_effect Op.Copy h = own_result h.0 y
    own_effect Op.Fetch h = own_reading (found m y) (sets next a) (own_result h.0)
    own_effect Op.Store h = own_storing y _ (own_change next (Change.Store (address y) x))
    own_effect Op.Add h = own_result h.0 _
    own_effect Op.Subtract h = own_result h.0 _
    own_effect Op.Multiply h = own_result h.0 _
    own_effect Op.Quotient h = own_divided (eqb y 0) _ (own_result h.0 _)
    own_effect Op.Remainder h = own_divided (eqb y 0) _ (own_result h.0 _)
    own_effect Op.And h = own_result h.0 _
    own_effect Op.Or h = own_result h.0 _
    own_effect Op.ExclusiveOr h = own_result h.0 _
    own_effect Op.Compare h = own_change next (Change.Flags _) (compare_fine m x y)
    own_effect Op.Jump h = own_second (sets next 0) own_jump
    own_effect Op.JumpIf h = own_second _ (λ n. own_jump _)
    own_effect Op.Call h = own_second _ (λ n. own_storing _ _ (own_change next (Change.Call _ n)))
    own_effect Op.Return h = own_reading (found m (stack m)) _ (λ w. own_change next (Change.Return _ w) tt)
    own_effect Op.Service h = own_change next (Change.Flags _) (service_fine m a (known_small a h.1))

  own_effect_of : (op n a b : ℕ) → Right (shape_of_order (order_of op)) a → Own m (effect_of m op n a b)
  unfolding effect_of
  own_effect_of op n a b h =
      let next = past m n in
      own_effect next a (operand m next a) (operand m next b) (order_of op) h

  own_checked : (w : ℕ) (sh : Option (ℕ × Field × Field)) → shape_of_order (order_of (op_of w)) ≡ sh → Own m (checked sh m w)
  unfolding checked
  own_checked w None e = own_fault 2 (omega arith, omega arith)
  own_checked w (Some (n, fa, fb)) e =
      when (Own m) (holds fa (a_of w) && holds fb (b_of w)) (λ hp.
      when (Own m) (serves fa (a_of w)) (λ hr. own_effect_of (op_of w) n (a_of w) (b_of w) (rw e (((and-eq-true_iff _ _).0 hp).0, hr)))
      (λ _. own_fault 3 (omega arith, omega arith))) (λ _. own_fault 2 (omega arith, omega arith))

  pub order_own : Own m (decided m)
  unfolding decided
  order_own = own_reading (found m (next_order m)) _ (λ w. own_checked w _ refl)

-- the flags after a change: those it writes, or as they were
abbrev flags_after : Machine → Change → ℕ
flags_after m (Change.Register a w) = m.flags
flags_after m (Change.Store a w) = m.flags
flags_after m (Change.Flags f) = f
flags_after m (Change.Call top n) = m.flags
flags_after m (Change.Return top w) = m.flags

changed_flags : (m : Machine) (next : ℕ) (c : Change) → (changed m next c).flags ≡ flags_after m c
unfolding changed with_register with_flags with_word
changed_flags m next (Change.Register a w) = refl
changed_flags m next (Change.Store a w) = refl
changed_flags m next (Change.Flags f) = refl
changed_flags m next (Change.Call top n) = refl
changed_flags m next (Change.Return top w) = refl

-- an order that does something keeps the error and leaves the rest in range
module _ (m : Machine) where
  as_they_were : FineFlags m m.flags
  as_they_were = record { error_kept = refl; cc_fine = λ h. h; pending_fine = λ h. h }

  fine_after : (next : ℕ) (c : Change) → Own m (Ok (next, c)) → FineFlags m (flags_after m c)
  unfolding Own
  fine_after next (Change.Register a w) h = as_they_were
  fine_after next (Change.Store a w) h = as_they_were
  fine_after next (Change.Flags f) h = h
  fine_after next (Change.Call top n) h = as_they_were
  fine_after next (Change.Return top w) h = as_they_were

  pub does_fine : (next : ℕ) (c : Change) → Own m (Ok (next, c)) → FineFlags m (changed m next c).flags
  does_fine next c h = rw (changed_flags m next c) (fine_after next c h)

  -- one that faults writes the error alone
  pub faulted_flags : (e : ℕ) → e ≤ 7
      → (condition (faulted m e) ≡ condition m) × (error (faulted m e) ≡ e) × (pending (faulted m e) ≡ pending m)
  unfolding faulted with_flags
  faulted_flags e h = fields (condition m) e (pending m) (omega arith) h

  -- so after an order of a machine without an error the flags tell whether it faulted
  module _ (none : error m ≡ 0) where
    pub calm_after : (next : ℕ) (c : Change) → decided m ≡ Ok (next, c) → error (after m (decided m)) ≡ 0
    calm_after next c e = rw e ((does_fine next c (rw e at (order_own m))).error_kept ∙ none)

    pub error_after : (e : ℕ) → decided m ≡ Err e → error (after m (decided m)) ≢ 0
    error_after e d z =
        let range = own_error m e (rw d at (order_own m)) in
        let is : error (faulted m e) ≡ 0 = rw d at z in
        omega (arith, range, is, (faulted_flags e (omega (arith, range))).1)

    pub answer_told : (i : Task) → order_answer i (decided m) ≡ cond (eqb (error (after m (decided m))) 0) (Answer.OrderDone i) (Answer.OrderFaulted i)
    answer_told i = go (decided m) refl
      where
        go : (e : Result (ℕ × Change) ℕ) → decided m ≡ e → order_answer i e ≡ cond (eqb (error (after m (decided m))) 0) (Answer.OrderDone i) (Answer.OrderFaulted i)
        go (Ok (next, c)) e = rw (eq-eqb _ 0 (calm_after next c e)) refl
        go (Err n) e = rw (ne_eqb _ 0 (error_after n e)) refl
