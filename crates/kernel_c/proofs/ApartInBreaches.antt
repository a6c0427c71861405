-- What is told of an image's rules is told apart: the number is the check's, a rule is told exactly where it is 6, and a queue that is told is the one
-- that the calls which look into an image have by its numbers. Assumes nothing.
use Rattle.std.specs.Prelude.{Some}
use mathlib.Core.Path.{◌≡◌, refl, sym, ap, ◌∙◌}
use mathlib.Core.List.{List}
use mathlib.Core.Logic.{◌≢◌, ◌↔◌, dite}
use Prim.Native.Nat.{ℕ, ◌≤◌}
use native.Mathlib.Decide.{ℕ_discrete}
use native.Mathlib.Omega.{arith}
use borrow.Author.Tests.{lt-ltb}
use Rattle.paper.specs.Queues.{Has}
use Rattle.paper.specs.Numbers.{verdict_number, check}
use Rattle.paper.specs.declared.Queue.{Queue}
use Rattle.paper.specs.declared.Shape.{Shape}
use Rattle.breaches.specs.Order.{number_of_rule}
use Rattle.breaches.specs.declared.Subject.{Subject}
use Rattle.breaches.proofs.Laws.{number_range, six_has_a_rule, told_else}
use Rattle.views.specs.Looks.{named_queue}
use Rattle.kernel_c.specs.Views.{not_there}
use Rattle.kernel_c.specs.Breaches.{queue_told, subject_told, no_rule, broken_numbers}
use Rattle.kernel_c.specs.Promises.{TellsBrokenC}
use Rattle.kernel_c.specs.declared.broken.BrokenNumbers.{BrokenNumbers}

-- whatever breaks a rule, the number is 6 and the rule its own
queue_numbers : (n : ℕ) (q : Queue) → ((queue_told n q).number ≡ 6) × ((queue_told n q).rule ≡ n)
queue_numbers n Queue.Ready = (refl, refl)
queue_numbers n (Queue.Input i) = (refl, refl)
queue_numbers n (Queue.Output i) = (refl, refl)
queue_numbers n (Queue.Message i j) = (refl, refl)

subject_numbers : (n : ℕ) (x : Subject) → ((subject_told n x).number ≡ 6) × ((subject_told n x).rule ≡ n)
subject_numbers n Subject.Clock = (refl, refl)
subject_numbers n (Subject.Task i) = (refl, refl)
subject_numbers n (Subject.Queue q) = queue_numbers n q

module _ (im : List ℕ) (a : BrokenNumbers) (p : TellsBrokenC im a) where
  pub six_told : verdict_number (check im) ≡ 6 → (a.number ≡ 6) × (1 ≤ a.rule) × (a.rule ≤ 21)
  six_told e =
      let t = six_has_a_rule im e in
      let u : a ≡ subject_told (number_of_rule t.of) t.by = p.told ∙ ap broken_numbers t.told in
      let v = subject_numbers (number_of_rule t.of) t.by in
      let r : a.rule ≡ number_of_rule t.of = ap (λ (x : BrokenNumbers). x.rule) u ∙ v.1 in
      let g = number_range t.of in
      (ap (λ (x : BrokenNumbers). x.number) u ∙ v.0, omega (arith, r, g.0), omega (arith, r, g.1))

  pub else_told : verdict_number (check im) ≢ 6 → a ≡ no_rule (verdict_number (check im))
  else_told n = p.told ∙ told_else im n (λ b k. broken_numbers b ≡ no_rule k) refl (λ r. refl)

  -- the number is the check's
  pub number_is : a.number ≡ verdict_number (check im)
  number_is =
      dite (ℕ_discrete (verdict_number (check im)) 6) (λ e. (six_told e).0 ∙ sym e) (λ n. ap (λ (x : BrokenNumbers). x.number) (else_told n))

  -- the rule is 65535 exactly where the number is not 6
  pub rule_apart : (a.rule ≡ not_there) ↔ (a.number ≢ 6)
  rule_apart = (
    λ e n. let r = (six_told (sym number_is ∙ n)).2 in omega (arith, r, e),
    λ n. ap (λ (x : BrokenNumbers). x.rule) (else_told (λ e. n (number_is ∙ e))),
  )

-- the numbers of a queue name it again
pub named_back : (s : Shape) (n : ℕ) (q : Queue) → Has s q → named_queue s (queue_told n q).queue (queue_told n q).i (queue_told n q).j ≡ Some q
unfolding named_queue
named_back s n Queue.Ready h = refl
named_back s n (Queue.Input i) h = rw (lt-ltb i.0 s.n h)
named_back s n (Queue.Output i) h = rw (lt-ltb i.0 s.n h)
named_back s n (Queue.Message i j) h = rw (lt-ltb i.0 s.n h.0, lt-ltb j.0 s.n h.1)
