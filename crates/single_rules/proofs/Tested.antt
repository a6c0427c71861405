-- The rules one by one, as they are tested. Assumes nothing.
use mathlib.Core.Path.{◌≡◌, sym, ◌∙◌}
use mathlib.Core.List.{List}
use mathlib.Core.Bool.{Bool, true}
use mathlib.Core.Logic.{◌≢◌}
use Prim.Native.Nat.{ℕ, ◌-◌, ◌*◌, ◌/◌, ◌%◌, ◌<◌, ◌≤◌}
use native.Mathlib.Nat.{mod-lt, div-lt_iff_lt-mul, mul-le-mul_right}
use native.Mathlib.Omega.{arith}
use borrow.Author.Tests.{lt-ltb, le-ltb, eq-eqb, ne_eqb}
use Rattle.paper.specs.Image.{most_tasks, task}
use Rattle.paper.specs.Queues.{Has, header_capacity}
use Rattle.paper.specs.Rules.{Fit}
use Rattle.paper.specs.Tests.{queued, cleared}
use Rattle.paper.specs.declared.Shape.{Shape}
use Rattle.paper.specs.declared.Queue.{Queue}
use Rattle.laws.specs.Sound.{Sized, sized_fit}
use Rattle.single_rules.specs.Each.{free_zeros, kind, queues, subjects, queue}
use Rattle.single_rules.specs.declared.Rule.{Rule}
use Rattle.single_rules.specs.declared.Kind.{Kind}

-- a test that was passed
pub passed_so : (b x : Bool) → b ≡ x → b ≡ true → x ≡ true
passed_so b x e n = sym e ∙ n

-- a queue has room
pub some_room : (s : Shape) (im : List ℕ) (q : Queue) (g : ℕ) → g ≡ header_capacity s q → Sized s im → 0 < g
some_room s im q g eg z = rw eg (go q)
  where
    f : Fit s
    f = sized_fit s im z

    go : (p : Queue) → 0 < header_capacity s p
    go Queue.Ready = f.tasks.0
    go (Queue.Input j) = f.inputs.0
    go (Queue.Output j) = f.outputs.0
    go (Queue.Message j k) = f.messages.0

-- the rules of a queue
module _ (s : Shape) (im : List ℕ) (q : Queue) where
  -- its free slots, where it obeys the rules of queues
  module _ (b : Bool) (eb : b ≡ queued s im q) where
    pub zeros_tested : b ≡ true → (o : Bool) → o ≡ cleared s im q → o ≡ free_zeros s im q
    unfolding free_zeros
    zeros_tested n o eo = let e = passed_so b _ eb n in rw (eo, e)

-- queue k
module _ (s : Shape) (f : Fit s) (k : ℕ) (l : k < queues s) where
  pub queue_ready : k ≡ 0 → (Queue.Ready ≡ queue s k) × Has s Queue.Ready
  unfolding queue
  queue_ready e = (rw (eq-eqb k 0 e), tt)

  module _ (n : k ≢ 0) where
    pub queue_input : k - 1 < s.n → (Queue.Input (task (k - 1)) ≡ queue s k) × (k - 1 < s.n)
    unfolding queue
    queue_input h = (rw (ne_eqb k 0 n, lt-ltb (k - 1) s.n h), h)

    module _ (a : s.n ≤ k - 1) where
      pub queue_output : k - 1 - s.n < s.n → (Queue.Output (task (k - 1 - s.n)) ≡ queue s k) × (k - 1 - s.n < s.n)
      unfolding queue
      queue_output h = (rw (ne_eqb k 0 n, le-ltb (k - 1) s.n a, lt-ltb (k - 1 - s.n) s.n h), h)

      module _ (b : s.n ≤ k - 1 - s.n) where
        -- the message buffer's index
        abbrev index : ℕ
        index = k - 1 - s.n - s.n

        pub from_below : index / s.n < s.n
        from_below = (div-lt_iff_lt-mul {k = s.n} {x = index} {y = s.n} (omega (arith, f.tasks.0))).1 (omega arith)

        pub to_below : index % s.n < s.n
        to_below = mod-lt index {m = s.n} (omega (arith, f.tasks.0))

        pub from_word : index / s.n < 65536
        from_word = omega (arith, from_below, f.tasks.1)

        pub to_word : index % s.n < 65536
        to_word = omega (arith, to_below, f.tasks.1)

        pub queue_message : (Queue.Message (task (index / s.n)) (task (index % s.n)) ≡ queue s k) × ((index / s.n < s.n) × (index % s.n < s.n))
        unfolding queue
        queue_message = (rw (ne_eqb k 0 n, le-ltb (k - 1) s.n a, le-ltb (k - 1 - s.n) s.n b), (from_below, to_below))

-- there are no more tasks than queues, and few queues
kind_few : (s : Shape) (κ : Kind) → 1 ≤ s.n → subjects s κ ≤ queues s
kind_few s Kind.Task h = omega arith
kind_few s Kind.Queue h = omega arith
kind_few s Kind.Clock h = omega arith

module _ (s : Shape) (im : List ℕ) (z : Sized s im) (rule : Rule) (k : ℕ) (l : k < subjects s (kind rule)) where
  pub queue_in : Fit s × (k < queues s)
  queue_in = let f = sized_fit s im z in (f, omega (arith, l, kind_few s (kind rule) f.tasks.0))

  pub few : k < 65536
  few =
      let f = sized_fit s im z in
      let h : s.n * s.n ≤ most_tasks * s.n = mul-le-mul_right s.n f.tasks.1 in
      omega (arith, queue_in.1, h, f.tasks.1)
