-- What `kernel_event` promises, from what the call behind it answers. Assumes nothing.
use Rattle.std.specs.Prelude.{Err, Ok, Result}
use mathlib.Core.Path.{◌≡◌, ap, ◌∙◌}
use mathlib.Core.List.{List}
use Prim.Native.Nat.{ℕ}
use Rattle.paper.specs.Numbers.{number, kind, answer_task, reply_number}
use Rattle.paper.specs.Promises.{Happens}
use Rattle.paper.specs.declared.Answer.{Answer}
use Rattle.paper.specs.declared.Refusal.{Refusal}
use Rattle.kernel_c.specs.Answers.{no_answer, told_kind, told_task}
use Rattle.kernel_c.specs.Promises.{HappensC}
use Rattle.kernel_c.specs.declared.ReplyNumbers.{ReplyNumbers}

-- an accepted reply, in numbers
module _ (reply : Result Answer Refusal) (a : Answer) (e : reply ≡ Ok a) where
  pub accepted_number : 0 ≡ reply_number reply
  accepted_number = rw e

  pub accepted_kind : (k : ℕ) → k ≡ kind a → k ≡ told_kind reply
  accepted_kind k ek = rw e ek

  pub accepted_task : (t : ℕ) → t ≡ answer_task a → t ≡ told_task reply
  accepted_task t et = rw e et

-- a refused one
module _ (reply : Result Answer Refusal) (r : Refusal) (e : reply ≡ Err r) where
  pub refused_number : (n : ℕ) → n ≡ number r → n ≡ reply_number reply
  refused_number n en = rw e en

  pub refused_kind : no_answer ≡ told_kind reply
  refused_kind = rw e

  pub refused_task : no_answer ≡ told_task reply
  refused_task = rw e

-- one event
pub happens_is : (image : List ℕ) (k d c : ℕ) (reply : Result Answer Refusal) (answer : ReplyNumbers) (after : List ℕ) → Happens image k d c reply after
    → answer.number ≡ reply_number reply → answer.kind ≡ told_kind reply → answer.task ≡ told_task reply → HappensC image k d c answer after
happens_is image k d c reply answer after p en ek et =
    record {
      numbered = en ∙ p.numbered;
      kinded = ek ∙ ap told_kind p.answered;
      tasked = et ∙ ap told_task p.answered;
      left = p.left;
    }
