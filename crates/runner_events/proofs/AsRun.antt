-- What is printed for whole events is of a run over their words. Assumes nothing.
use Rattle.std.specs.Prelude.{Err, Ok, Result}
use mathlib.Core.Path.{◌≡◌, refl, ap}
use mathlib.Core.List.{List, [], ◌∷◌}
use Prim.Native.Nat.{ℕ, suc, ◌+◌, ◌%◌}
use native.Mathlib.Omega.{arith}
use lib.ListN.{length}
use Rattle.paper.specs.Events.{event_of, happening}
use Rattle.paper.specs.Calls.{Ran, one_more, goes_on, run_from}
use Rattle.paper.specs.Runner.{word, words_of, Printed, prints_on, printed_from}
use Rattle.paper.specs.declared.Shape.{Shape}
use Rattle.paper.specs.declared.Answer.{Answer}
use Rattle.paper.specs.declared.Refusal.{Refusal}

-- what is printed, without the text
abbrev pub ran_of : Printed → Ran
ran_of p = record { taken = p.taken; stop = p.stop; image = p.image }

-- as many events are taken as by the run, it stops where the run stops, and the image is the run's
pub printed_ran : (s : Shape) (bytes im : List ℕ) (n : ℕ) → length bytes % 6 ≡ 0 → ran_of (printed_from s im n bytes) ≡ run_from s im (words_of bytes)
unfolding printed_from words_of
printed_ran s [] im n w = refl
printed_ran s (a ∷ []) im n w = absurd (let l : 1 % 6 ≡ 0 = w in omega arith)
printed_ran s (a ∷ b ∷ []) im n w = absurd (let l : 2 % 6 ≡ 0 = w in omega arith)
printed_ran s (a ∷ b ∷ c ∷ []) im n w = absurd (let l : 3 % 6 ≡ 0 = w in omega arith)
printed_ran s (a ∷ b ∷ c ∷ d ∷ []) im n w = absurd (let l : 4 % 6 ≡ 0 = w in omega arith)
printed_ran s (a ∷ b ∷ c ∷ d ∷ e ∷ []) im n w = absurd (let l : 5 % 6 ≡ 0 = w in omega arith)
printed_ran s (k ∷ k' ∷ d ∷ d' ∷ c ∷ c' ∷ later) im n w =
    let l : suc (suc (suc (suc (suc (suc (length later)))))) % 6 ≡ 0 = w in
    let o = happening s im (event_of s (word k k') (word d d') (word c c')) in
    go o.reply o.image (printed_ran s later o.image (1 + n) (omega arith))
  where
    go : (r : Result Answer Refusal) (m : List ℕ) → ran_of (printed_from s m (1 + n) later) ≡ run_from s m (words_of later)
        → ran_of (prints_on n r m (λ next. printed_from s next (1 + n) later)) ≡ goes_on r m (λ next. run_from s next (words_of later))
    go (Ok a) m h = ap one_more h
    go (Err r) m h = refl
