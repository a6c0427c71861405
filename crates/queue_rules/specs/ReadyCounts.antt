-- How often each task was found in the ready queue.
use Rattle.std.specs.Prelude.{◌≡◌, refl, List, ℕ, ◌<◌, get_or, length, replicate}
use Rattle.std.proofs.lemmas.List.{get_or-replicate}
use Rattle.paper.specs.Image.{most_tasks}
use Rattle.paper.specs.Rules.{times}

-- no task is found yet
unfoldable pub NoneFound : List ℕ → Type 0
NoneFound found = (length found ≡ most_tasks) × ((k : ℕ) → k < most_tasks → get_or found k 0 ≡ 0)

-- each task is found as often as a list of words has it
unfoldable pub AllFound : List ℕ → List ℕ → Type 0
AllFound found ws = (k : ℕ) → k < most_tasks → get_or found k 0 ≡ times k ws

-- so many zeros
pub none_found : NoneFound (replicate most_tasks 0)
unfolding NoneFound
none_found = (refl, λ k l. get_or-replicate most_tasks k 0 0 l)
