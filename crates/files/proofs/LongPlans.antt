-- A plan that is too long is refused by its first words; whether a file has an odd count of bytes. Assumes nothing.
use Rattle.std.specs.Prelude.{Err, Ok, Result, ⊤}
use mathlib.Core.Path.{◌≡◌, refl, sym, ap, ◌∙◌}
use mathlib.Core.List.{List, [], ◌∷◌, ◌++◌, append-nil}
use mathlib.Core.Bool.{Bool, true, false, not, beq}
use Prim.Native.Nat.{ℕ, zero, suc, ◌+◌, ◌*◌, ◌%◌, ◌<◌, ◌≤◌}
use native.Mathlib.Nat.{le_refl, add_comm}
use native.Mathlib.Omega.{arith}
use borrow.Author.Tests.{eqb-true, eqb-false, ltb-true, ltb-false, le-ltb}
use lib.Dec.{eqb, ltb}
use lib.ListN.{length, length-append, get_or-append}
use Rattle.paper.specs.Plans.{plan_tasks, segment_length, program_length, program_start, segment_words, plan_shape}
use Rattle.paper.specs.Numbers.{refused_if, out_of_range, plan_broken, check_plan}
use Rattle.paper.specs.Runner.{word, words_of, check_file}
use Rattle.paper.specs.declared.Refusal.{Refusal}
use Rattle.laws.specs.Layout.{total_is}
use Rattle.laws.specs.Fresh.{planned}
use Rattle.files.specs.Bytes.{words_length}
use Rattle.files.specs.PlanFiles.{longest, enough, odd, OddAfter, Rest, Decides}

-- the words of the first bytes come first
pub words_first : (a b : List ℕ) → (q : List ℕ) × (words_of (a ++ b) ≡ words_of a ++ q)
unfolding words_of
words_first [] b = (words_of b, refl)
words_first (x ∷ []) b = (words_of (x ∷ b), refl)
words_first (x ∷ y ∷ a) b = let r = words_first a b in (r.0, ap (λ (l : List ℕ). word x y ∷ l) r.1)

-- the words of programs are no more than those of their segments
programs_fit : (plan : List ℕ) (n : ℕ) → ((k : ℕ) → k < n → program_length plan k ≤ segment_length plan k)
    → program_start plan n ≤ 5 + 2 * plan_tasks plan + segment_words plan n
programs_fit plan zero h = omega arith
programs_fit plan (suc n) h = omega (arith, programs_fit plan n (λ k l. h k (omega arith)), h n (le_refl _))

pub accepted_length : (plan : List ℕ) → check_plan plan ≡ Ok tt → length plan ≤ longest
unfolding plan_shape
accepted_length plan e =
    let r = planned plan e in
    omega (arith, r.ends, programs_fit plan (plan_tasks plan) (λ k l. (r.pairs k l).1), r.fit.tasks, r.fit.words, total_is (plan_shape plan))

-- so a longer one is refused, by its first five words
long_refused : (p : List ℕ) → longest < length p
    → check_plan p ≡ refused_if (out_of_range (plan_shape p)) Refusal.OutOfRange (Err Refusal.BadPlan)
unfolding check_plan
long_refused p h =
    rw (le-ltb (length p) 5 (omega arith)) (go (out_of_range (plan_shape p)) refl (plan_broken p) refl)
  where
    fine : out_of_range (plan_shape p) ≡ false → plan_broken p ≡ false → check_plan p ≡ Ok tt
    fine e f = rw (le-ltb (length p) 5 (omega arith), e, f)

    go : (a : Bool) → out_of_range (plan_shape p) ≡ a → (b : Bool) → plan_broken p ≡ b
        → refused_if a Refusal.OutOfRange (refused_if b Refusal.BadPlan (Ok tt)) ≡ refused_if a Refusal.OutOfRange (Err Refusal.BadPlan)
    go true e b f = refl
    go false e true f = refl
    go false e false f = absurd (omega (arith, accepted_length p (fine e f)))

same_range : (p q : List ℕ) → 5 ≤ length p → out_of_range (plan_shape (p ++ q)) ≡ out_of_range (plan_shape p)
unfolding out_of_range plan_shape
same_range p q h =
    rw (get_or-append p q 0 0 (omega arith), get_or-append p q 0 1 (omega arith), get_or-append p q 0 2 (omega arith), get_or-append p q 0 3 (omega arith), get_or-append p q 0 4 (omega arith))

-- whatever follows the first words of a plan that is too long, the verdict is theirs
pub long_plan : (p q : List ℕ) → longest < length p → check_plan (p ++ q) ≡ check_plan p
long_plan p q h =
    let l : longest < length (p ++ q) = simp length-append (omega arith) in
    long_refused (p ++ q) l ∙ ap (λ (b : Bool). refused_if b Refusal.OutOfRange (Err Refusal.BadPlan)) (same_range p q (omega arith)) ∙
    sym (long_refused p h)

pub odd_after : (before : Bool) (k : ℕ) → OddAfter before k (not (beq (odd k) before))
odd_after before k m e = rw (← e) (go (eqb (m % 2) 0) refl (eqb (k % 2) 0) refl)
  where
    to_odd : (m + k) % 2 ≡ 1 → odd (m + k) ≡ true
    to_odd f = rw f

    to_even : (m + k) % 2 ≡ 0 → odd (m + k) ≡ false
    to_even f = rw f

    go : (a : Bool) → eqb (m % 2) 0 ≡ a → (b : Bool) → eqb (k % 2) 0 ≡ b → odd (m + k) ≡ not (beq (not b) (not a))
    go true p true q = to_even (omega (arith, eqb-true (m % 2) 0 p, eqb-true (k % 2) 0 q))
    go true p false q = to_odd (omega (arith, eqb-true (m % 2) 0 p, eqb-false (k % 2) 0 q))
    go false p true q = to_odd (omega (arith, eqb-false (m % 2) 0 p, eqb-true (k % 2) 0 q))
    go false p false q = to_even (omega (arith, eqb-false (m % 2) 0 p, eqb-false (k % 2) 0 q))

module _ (bytes : List ℕ) (is_odd all-odd : Bool) (h : OddAfter is_odd (length bytes) all-odd) where
  -- whether the whole file has an odd count of bytes
  file_odd : (rest : List ℕ) → Rest enough bytes rest is_odd → odd (length (bytes ++ rest)) ≡ all-odd
  file_odd rest r = rw (length-append, add_comm (length bytes) (length rest)) (h (length rest) r.parity)

  pub odd_file : all-odd ≡ true → Decides enough bytes is_odd (Err Refusal.BadPlan)
  unfolding check_file
  odd_file e rest r = rw (file_odd rest r, e)

  pub even_file : all-odd ≡ false → (v : Result ⊤ Refusal) → v ≡ check_plan (words_of bytes) → Decides enough bytes is_odd v
  unfolding check_file
  even_file e v ev rest r = rw (file_odd rest r, e) (ev ∙ go (ltb (length bytes) enough) refl)
    where
      go : (b : Bool) → ltb (length bytes) enough ≡ b → check_plan (words_of bytes) ≡ check_plan (words_of (bytes ++ rest))
      go true l = rw (r.ended (ltb-true (length bytes) enough l), append-nil bytes)
      go false l =
          let f = words_first bytes rest in
          rw f.1 (sym (long_plan (words_of bytes) f.0 (omega (arith, ltb-false (length bytes) enough l, words_length bytes))))

-- asking for more bytes decides as much
pub decides_more : (asked : ℕ) → enough ≤ asked → (bytes : List ℕ) (is_odd : Bool) (v : Result ⊤ Refusal) → Decides enough bytes is_odd v → Decides asked bytes is_odd v
decides_more asked h bytes is_odd v d rest r = d rest (record { parity = r.parity; ended = λ l. r.ended (omega arith) })
