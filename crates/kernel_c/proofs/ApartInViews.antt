-- What is seen of an image and what is not are told apart: by the number always, and by each field that cannot be 65535. Assumes nothing.
use Rattle.std.specs.Prelude.{Ok, Err, Some, None}
use mathlib.Core.Path.{◌≡◌, refl}
use mathlib.Core.Logic.{◌↔◌}
use mathlib.Core.List.{List}
use Prim.Native.Nat.{ℕ, ◌<◌}
use native.Mathlib.Omega.{arith}
use lib.ListN.{length}
use Rattle.paper.specs.Numbers.{number}
use Rattle.paper.specs.Services.{services}
use Rattle.paper.specs.declared.Refusal.{Refusal}
use Rattle.views.specs.Looks.{View, task_view, port_view, length_view}
use Rattle.views.specs.declared.TaskState.{TaskState}
use Rattle.views.specs.declared.PortState.{PortState}
use Rattle.views.proofs.Ranges.{task_ranges, port_ranges, length_range}
use Rattle.kernel_c.specs.Views.{not_there, task_numbers, port_numbers, word_numbers}

-- no refusal has the number of what is there, nor that of what is not
pub number_between : (r : Refusal) → (0 < number r) × (number r < not_there)
number_between Refusal.TooShort = (omega arith, omega arith)
number_between Refusal.NotMarked = (omega arith, omega arith)
number_between Refusal.OutOfRange = (omega arith, omega arith)
number_between Refusal.NotPacked = (omega arith, omega arith)
number_between Refusal.WrongSegments = (omega arith, omega arith)
number_between Refusal.RuleBroken = (omega arith, omega arith)
number_between Refusal.MalformedEvent = (omega arith, omega arith)
number_between Refusal.InputFull = (omega arith, omega arith)
number_between Refusal.PortIdle = (omega arith, omega arith)
number_between Refusal.BadPlan = (omega arith, omega arith)
number_between Refusal.WrongTarget = (omega arith, omega arith)
number_between Refusal.CountFull = (omega arith, omega arith)

-- the number is 65535 exactly where a task, a port or a word is not there
pub task_not_there : (v : View TaskState) → ((task_numbers v).number ≡ not_there) ↔ (v ≡ Ok None)
task_not_there (Ok (Some x)) = (λ e. absurd (omega arith), λ e. absurd (let z : ◌≡◌ {A = ℕ} 0 1 = cc in omega arith))
task_not_there (Ok None) = (λ _. refl, λ _. refl)
task_not_there (Err r) =
    (λ e. absurd (omega (arith, (number_between r).1)), λ e. absurd (let z : ◌≡◌ {A = ℕ} 0 1 = cc in omega arith))

pub port_not_there : (v : View PortState) → ((port_numbers v).number ≡ not_there) ↔ (v ≡ Ok None)
port_not_there (Ok (Some x)) = (λ e. absurd (omega arith), λ e. absurd (let z : ◌≡◌ {A = ℕ} 0 1 = cc in omega arith))
port_not_there (Ok None) = (λ _. refl, λ _. refl)
port_not_there (Err r) =
    (λ e. absurd (omega (arith, (number_between r).1)), λ e. absurd (let z : ◌≡◌ {A = ℕ} 0 1 = cc in omega arith))

pub word_not_there : (v : View ℕ) → ((word_numbers v).number ≡ not_there) ↔ (v ≡ Ok None)
word_not_there (Ok (Some w)) = (λ e. absurd (omega arith), λ e. absurd (let z : ◌≡◌ {A = ℕ} 0 1 = cc in omega arith))
word_not_there (Ok None) = (λ _. refl, λ _. refl)
word_not_there (Err r) =
    (λ e. absurd (omega (arith, (number_between r).1)), λ e. absurd (let z : ◌≡◌ {A = ℕ} 0 1 = cc in omega arith))

-- a field that is seen is never 65535, but for a register or a word of a queue
module _ (im : List ℕ) where
  pub task_apart : (t : ℕ) (x : TaskState) → task_view im t ≡ Ok (Some x)
      → (x.status < not_there) × (x.peer < not_there) × (x.cc < not_there) × (x.error < not_there) × (x.pending < not_there)
  task_apart t x e =
      let r = task_ranges im t x e in
      let four : length services ≡ 4 = refl in
      (omega (arith, r.of_status), omega (arith, r.of_peer), omega (arith, r.of_cc), omega (arith, r.of_error), omega (arith, r.of_pending, four))

  pub port_apart : (d : ℕ) (x : PortState) → port_view im d ≡ Ok (Some x) → (x.busy < not_there) × (x.character < not_there)
  port_apart d x e = let r = port_ranges im d x e in (omega (arith, r.of_busy), omega (arith, r.of_character))

  pub length_apart : (q i j n : ℕ) → length_view im q i j ≡ Ok (Some n) → n < not_there
  length_apart q i j n e = omega (arith, length_range im q i j n e)
