-- What each public call promises: its answer, what that is in the paper's numbers, and every word of each buffer that it is lent to write.
use Rattle.std.specs.Prelude.{◌≡◌, List, ℕ, Float, Option, Result}
use Rattle.paper.specs.Numbers.{verdict_number, reply_number, reply_values, check, check_build}
use Rattle.paper.specs.Calls.{plan_size, size_number, size_value, built, event, run}
use Rattle.paper.specs.Counts.{report, share}
use Rattle.paper.specs.declared.Ended.{Ended}
use Rattle.paper.specs.declared.Answer.{Answer}
use Rattle.paper.specs.declared.Refusal.{Refusal}

-- checking an image
pub record Checks (image : List ℕ) (answer : ℕ) : Type 0 where
  pub answered : answer ≡ verdict_number (check image)

-- the size of a plan
pub record Measures (plan : List ℕ) (answer : Result ℕ Refusal) : Type 0 where
  pub answered : answer ≡ plan_size plan
  pub numbered : size_number answer ≡ size_number (plan_size plan)
  pub valued : size_value answer ≡ size_value (plan_size plan)

-- building an image from a plan
pub record Builds (plan target : List ℕ) (answer : ℕ) (after : List ℕ) : Type 0 where
  pub answered : answer ≡ verdict_number (check_build plan target)
  pub left : after ≡ built plan target

-- one event
pub record Happens (image : List ℕ) (k d c : ℕ) (answer : Result Answer Refusal) (after : List ℕ) : Type 0 where
  pub answered : answer ≡ (event image k d c).reply
  pub numbered : reply_number answer ≡ reply_number (event image k d c).reply
  pub valued : reply_values answer ≡ reply_values (event image k d c).reply
  pub left : after ≡ (event image k d c).image

-- a run over a list of events
pub record Runs (image events : List ℕ) (answer : Ended) (after : List ℕ) : Type 0 where
  pub counted : answer.taken ≡ (run image events).taken
  pub stopped : answer.stop ≡ (run image events).stop
  pub numbered : verdict_number answer.stop ≡ verdict_number (run image events).stop
  pub left : after ≡ (run image events).image

-- a run that counts
pub record Reports (image events counts : List ℕ) (answer : Ended) (after more : List ℕ) : Type 0 where
  pub counted : answer.taken ≡ (report image events counts).taken
  pub stopped : answer.stop ≡ (report image events counts).stop
  pub numbered : verdict_number answer.stop ≡ verdict_number (report image events counts).stop
  pub left : after ≡ (report image events counts).image
  pub tallied : more ≡ (report image events counts).counts

-- a task's share of all ticks
pub record Shares (counts : List ℕ) (task : ℕ) (answer : Option Float) : Type 0 where
  pub answered : answer ≡ share counts task
