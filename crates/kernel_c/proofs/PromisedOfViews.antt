-- What the exported functions that look into an image promise, from what the calls behind them answer. Assumes nothing.
use mathlib.Core.Path.{◌≡◌, ap, ◌∙◌}
use mathlib.Core.List.{List}
use Prim.Native.Nat.{ℕ}
use Rattle.paper.specs.Numbers.{number}
use Rattle.paper.specs.declared.Refusal.{Refusal}
use Rattle.views.specs.Looks.{View}
use Rattle.views.specs.Promises.{LooksAtTask, LooksAtPort, LooksAtRegister, LooksAtLength, LooksAtWord}
use Rattle.views.specs.declared.TaskState.{TaskState}
use Rattle.views.specs.declared.PortState.{PortState}
use Rattle.kernel_c.specs.Views.{not_there, unseen_task, task_numbers, unseen_port, port_numbers, unseen_word, word_numbers}
use Rattle.kernel_c.specs.Promises.{LooksAtTaskC, LooksAtPortC, LooksAtRegisterC, LooksAtLengthC, LooksAtWordC}
use Rattle.kernel_c.specs.declared.looks.TaskNumbers.{TaskNumbers}
use Rattle.kernel_c.specs.declared.looks.PortNumbers.{PortNumbers}
use Rattle.kernel_c.specs.declared.looks.WordNumbers.{WordNumbers}

-- the calls
module _ (image : List ℕ) where
  pub looks_at_task : (t : ℕ) (v : View TaskState) (a : TaskNumbers) → LooksAtTask image t v → a ≡ task_numbers v → LooksAtTaskC image t a
  looks_at_task t v a p e = record { told = e ∙ ap task_numbers p.answered }

  pub looks_at_port : (d : ℕ) (v : View PortState) (a : PortNumbers) → LooksAtPort image d v → a ≡ port_numbers v → LooksAtPortC image d a
  looks_at_port d v a p e = record { told = e ∙ ap port_numbers p.answered }

  module _ (v : View ℕ) (a : WordNumbers) (e : a ≡ word_numbers v) where
    pub looks_at_register : (t r : ℕ) → LooksAtRegister image t r v → LooksAtRegisterC image t r a
    looks_at_register t r p = record { told = e ∙ ap word_numbers p.answered }

    pub looks_at_length : (q i j : ℕ) → LooksAtLength image q i j v → LooksAtLengthC image q i j a
    looks_at_length q i j p = record { told = e ∙ ap word_numbers p.answered }

    pub looks_at_word : (q i j k : ℕ) → LooksAtWord image q i j k v → LooksAtWordC image q i j k a
    looks_at_word q i j k p = record { told = e ∙ ap word_numbers p.answered }
