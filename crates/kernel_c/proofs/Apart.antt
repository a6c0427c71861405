-- An accepted event's kind and task are the paper's two values, and not those of a refused one: the task is one of the image's. Assumes nothing.
use Rattle.std.specs.Prelude.{Err, Ok, Result, ⊤}
use mathlib.Core.Path.{◌≡◌, refl, ap}
use mathlib.Core.List.{List, [], ◌∷◌}
use Prim.Native.Nat.{ℕ, ◌<◌}
use native.Mathlib.Omega.{arith}
use Rattle.paper.specs.Image.{most_tasks, shape_of}
use Rattle.paper.specs.Rules.{Good}
use Rattle.paper.specs.Waking.{Outcome}
use Rattle.paper.specs.Events.{event_of, happening}
use Rattle.paper.specs.Numbers.{kind, answer_task, reply_values, check}
use Rattle.paper.specs.Calls.{event_if, event}
use Rattle.paper.specs.declared.Shape.{Shape}
use Rattle.paper.specs.declared.Event.{Event}
use Rattle.paper.specs.declared.Answer.{Answer}
use Rattle.laws.specs.Checked.{checked_good}
use Rattle.laws.specs.Events.{Formed, event_formed}
use Rattle.event_laws.specs.Walk.{input_any, done_any, event_any}
use Rattle.event_laws.proofs.Stays.{tick_names}
use Rattle.kernel_c.specs.Answers.{no_answer, told_kind, told_task}
use Rattle.paper.specs.declared.Refusal.{Refusal}

-- an accepted event's kind and task are the paper's two values
pub told_values : (a : Answer) → reply_values (Ok a) ≡ told_kind (Ok a) ∷ told_task (Ok a) ∷ []
told_values a = refl

-- no answer has that kind
kind_below : (a : Answer) → kind a < no_answer
kind_below Answer.Idle = omega arith
kind_below (Answer.ErrorStop i) = omega arith
kind_below (Answer.TurnPassed i) = omega arith
kind_below (Answer.ServiceDone i) = omega arith
kind_below (Answer.ServiceWaits i) = omega arith
kind_below (Answer.ServiceFaulted i) = omega arith
kind_below (Answer.OrderDone i) = omega arith
kind_below (Answer.OrderFaulted i) = omega arith
kind_below (Answer.Input i) = omega arith
kind_below (Answer.OutputDone i) = omega arith

-- the task that a reply names, 0 where it names none
abbrev named : Result Answer Refusal → ℕ
named (Ok a) = answer_task a
named (Err r) = 0

-- a reply that names a task of the image
abbrev InImage : Shape → Outcome → Type 0
InImage s o = named o.reply < s.n

happens : (s : Shape) (im : List ℕ) → 0 < s.n → Good s im → (e : Event) → Formed s e → InImage s (happening s im e)
unfolding Formed
happens s im some g =
    event_any s im (λ e o. Formed s e → InImage s o)
    (λ _. tick_names s im g)
    (λ i c f. input_any s im i (InImage s) c (λ _. some) (λ _ _. f.0) (λ _ _. f.0))
    (λ i f. done_any s im i (InImage s) (λ _. some) (λ _ _. f) (λ _ _. f)) (λ _. some)

names_below : (im : List ℕ) (k d c : ℕ) → named (event im k d c).reply < most_tasks
unfolding event
names_below im k d c = go (check im) refl
  where
    go : (v : Result ⊤ Refusal) → check im ≡ v → named (event_if v im k d c).reply < most_tasks
    go (Err r) e = omega arith
    go (Ok tt) e =
        let s : Shape = shape_of im in
        let g : Good s im = checked_good im e in
        let n = g.laid.fit.tasks in
        let h : InImage s (happening s im (event_of s k d c)) = happens s im (omega (arith, n)) g (event_of s k d c) (event_formed s k d c) in
        omega (arith, n, h)

-- whatever is lent, an accepted event's kind and task are not those of a refused one
pub told_apart : (im : List ℕ) (k d c : ℕ) (a : Answer) → (event im k d c).reply ≡ Ok a → (kind a < no_answer) × (answer_task a < no_answer)
told_apart im k d c a told =
    let e : named (event im k d c).reply ≡ answer_task a = ap named told in
    let h : named (event im k d c).reply < most_tasks = names_below im k d c in
    (kind_below a, omega (arith, e, h))
