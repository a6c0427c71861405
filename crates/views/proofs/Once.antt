-- Any two answers that a promise of this crate permits are equal. Assumes nothing.
use mathlib.Core.Path.{◌≡◌, sym, ◌∙◌}
use mathlib.Core.List.{List}
use Prim.Native.Nat.{ℕ}
use Rattle.views.specs.Looks.{View}
use Rattle.views.specs.Promises.{LooksAtTask, LooksAtPort, LooksAtRegister, LooksAtLength, LooksAtWord}
use Rattle.views.specs.declared.TaskState.{TaskState}
use Rattle.views.specs.declared.PortState.{PortState}

pub looks_at_task_once : (image : List ℕ) (t : ℕ) (a b : View TaskState) → LooksAtTask image t a → LooksAtTask image t b → a ≡ b
looks_at_task_once image t a b p q = p.answered ∙ sym q.answered

pub looks_at_port_once : (image : List ℕ) (d : ℕ) (a b : View PortState) → LooksAtPort image d a → LooksAtPort image d b → a ≡ b
looks_at_port_once image d a b p q = p.answered ∙ sym q.answered

pub looks_at_register_once : (image : List ℕ) (t r : ℕ) (a b : View ℕ) → LooksAtRegister image t r a → LooksAtRegister image t r b → a ≡ b
looks_at_register_once image t r a b p q = p.answered ∙ sym q.answered

pub looks_at_length_once : (image : List ℕ) (q i j : ℕ) (a b : View ℕ) → LooksAtLength image q i j a → LooksAtLength image q i j b → a ≡ b
looks_at_length_once image q i j a b x y = x.answered ∙ sym y.answered

pub looks_at_word_once : (image : List ℕ) (q i j k : ℕ) (a b : View ℕ) → LooksAtWord image q i j k a → LooksAtWord image q i j k b → a ≡ b
looks_at_word_once image q i j k a b x y = x.answered ∙ sym y.answered
