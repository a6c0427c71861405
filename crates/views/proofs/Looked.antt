-- What each call promises, from the inspection of the image and what is seen of it. Assumes nothing.
use Rattle.std.specs.Prelude.{Ok, Option}
use mathlib.Core.Path.{◌≡◌, refl}
use mathlib.Core.List.{List}
use Prim.Native.Nat.{ℕ}
use Rattle.paper.specs.Numbers.{check}
use Rattle.paper.specs.declared.Shape.{Shape}
use Rattle.laws.specs.Checked.{good_sound}
use Rattle.laws.specs.Events.{good, inspected_lawful}
use Rattle.laws.specs.Sound.{Sound}
use Rattle.inspect.specs.Inspects.{Inspects}
use Rattle.views.specs.Looks.{task_seen, port_seen, register_seen, length_seen, word_seen, named_queue, task_view, port_view, register_view, length_view, word_view}
use Rattle.views.specs.Promises.{LooksAtTask, LooksAtPort, LooksAtRegister, LooksAtLength, LooksAtWord}
use Rattle.views.specs.declared.TaskState.{TaskState}
use Rattle.views.specs.declared.PortState.{PortState}

-- of an image that is not refused: s is the shape that its header gives
module _ (im : List ℕ) (s : Shape) (h : Inspects im (Ok s)) where
  pub looked_sound : Sound s im
  looked_sound = good_sound s im (good (inspected_lawful s im (check im) refl h.1 h.0))

  pub task_looked : (t : ℕ) (x : Option TaskState) → x ≡ task_seen s im t → LooksAtTask im t (Ok x)
  unfolding task_view
  task_looked t x e = record { answered = rw (h.0, ← h.1, e) }

  pub port_looked : (d : ℕ) (x : Option PortState) → x ≡ port_seen s im d → LooksAtPort im d (Ok x)
  unfolding port_view
  port_looked d x e = record { answered = rw (h.0, ← h.1, e) }

  pub register_looked : (t r : ℕ) (x : Option ℕ) → x ≡ register_seen s im t r → LooksAtRegister im t r (Ok x)
  unfolding register_view
  register_looked t r x e = record { answered = rw (h.0, ← h.1, e) }

  pub length_looked : (q i j : ℕ) (x : Option ℕ) → x ≡ length_seen s im (named_queue s q i j) → LooksAtLength im q i j (Ok x)
  unfolding length_view
  length_looked q i j x e = record { answered = rw (h.0, ← h.1, e) }

  pub word_looked : (q i j k : ℕ) (x : Option ℕ) → x ≡ word_seen s im (named_queue s q i j) k → LooksAtWord im q i j k (Ok x)
  unfolding word_view
  word_looked q i j k x e = record { answered = rw (h.0, ← h.1, e) }
