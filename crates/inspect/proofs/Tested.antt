-- All rules, in whatever order they are tested, and numbers 1 to 6, one after another. Assumes nothing.
use mathlib.Core.Path.{◌≡◌, refl, sym, ◌∙◌}
use mathlib.Core.List.{List}
use mathlib.Core.Bool.{Bool, true, false, ◌&&◌, and-eq-true_iff}
use Prim.Native.Nat.{ℕ, ◌<◌}
use Rattle.std.proofs.lemmas.Bool.{not_from_false}
use Rattle.paper.specs.Image.{shape_of, task}
use Rattle.paper.specs.Queues.{held}
use Rattle.paper.specs.Tests.{every_task, all_below, queued, queue_holds, buffers_hold, characters, readied_once, port_holds, flags_hold, task_holds, clock_holds, readied_tasks, rules_hold}
use Rattle.paper.specs.Numbers.{out_of_range, not_packed, wrong_segments}
use Rattle.paper.specs.declared.Task.{Task}
use Rattle.paper.specs.declared.Shape.{Shape}
use Rattle.paper.specs.declared.Queue.{Queue}
use Rattle.laws.specs.Every.{every_fails}
use Rattle.laws.specs.Checked.{every_is, ranged_is, packed_is, segments_are, queued_is, kept_is}
use Rattle.laws.specs.Sound.{Sized}
use Rattle.laws.specs.Layout.{Ranged}
use Rattle.headers.specs.Shaped.{sized_by}
use Rattle.connectives.specs.Failing.{part_fails}

-- the rules of a task, in whatever order they are tested
module _ (s : Shape) (im : List ℕ) (i : Task) where
  task_parts : task_holds s im i ≡ true → (buffers_hold s im i ≡ true) × (characters s im i ≡ true) × (readied_once s im i ≡ true) ×
      (port_holds s im i ≡ true) × (flags_hold s im i ≡ true)
  unfolding task_holds
  task_parts h = let p = simp and-eq-true_iff at h in (p.0.0.0.0.0, p.0.0.0.0.1, p.0.0.0.1, p.0.0.1, p.0.1)

-- what holds for every task holds for one
module _ (s : Shape) (im : List ℕ) (k : ℕ) (l : k < s.n) where
  pub each_buffers : every_task s (buffers_hold s im) ≡ true → buffers_hold s im (task k) ≡ true
  each_buffers h = (every_is s.n _).0 h k l

  pub each_characters : every_task s (characters s im) ≡ true → characters s im (task k) ≡ true
  each_characters h = (every_is s.n _).0 h k l

  each_task : every_task s (task_holds s im) ≡ true → (buffers_hold s im (task k) ≡ true) × (characters s im (task k) ≡ true)
  each_task h = let p = task_parts s im (task k) ((every_is s.n _).0 h k l) in (p.0, p.1)

-- one task after another
pub tasks_fail : (s : Shape) (im : List ℕ) (k : ℕ) (r : Bool) → k < s.n → r ≡ task_holds s im (task k) → r ≡ false
    → false ≡ every_task s (task_holds s im)
tasks_fail s im k r hk er nr = sym (every_fails s.n k _ hk (sym er ∙ nr))

-- all rules, in whatever order they are tested
module _ (s : Shape) (im : List ℕ) where
  parts : rules_hold s im ≡ true → (queue_holds s im Queue.Ready ≡ true) × (all_below s.n (held s im Queue.Ready) ≡ true) × (clock_holds s im ≡ true) ×
      (every_task s (task_holds s im) ≡ true)
  unfolding rules_hold readied_tasks
  parts h = let p = simp and-eq-true_iff at h in (p.0.0.0, p.0.0.1, p.0.1, p.1)

  pub ready_fails : (b : Bool) → b ≡ queue_holds s im Queue.Ready → b ≡ false → false ≡ rules_hold s im
  ready_fails b e n = part_fails _ _ b (λ h. (parts h).0) e (not_from_false b n)

  pub clock_fails : (b : Bool) → b ≡ clock_holds s im → b ≡ false → false ≡ rules_hold s im
  clock_fails b e n = part_fails _ _ b (λ h. (parts h).2) e (not_from_false b n)

  pub buffers_fail : (b : Bool) → b ≡ (every_task s (buffers_hold s im) && every_task s (characters s im)) → b ≡ false → false ≡ rules_hold s im
  buffers_fail b e n =
      part_fails _ _ b (λ h.
      (and-eq-true_iff _ _).1 ((every_is s.n _).1 (λ k l. (each_task s im k l (parts h).3).0), (every_is s.n _).1 (λ k l. (each_task s im k l (parts h).3).1))) e (not_from_false b n)

  pub others_fail : (b : Bool) → b ≡ all_below s.n (held s im Queue.Ready) → b ≡ false → false ≡ rules_hold s im
  others_fail b e n = part_fails _ _ b (λ h. (parts h).1) e (not_from_false b n)

  pub rules_tested : (q c h t : Bool) → q ≡ queue_holds s im Queue.Ready → q ≡ true → c ≡ clock_holds s im → c ≡ true
      → h ≡ all_below s.n (held s im Queue.Ready) → h ≡ true → t ≡ every_task s (task_holds s im) → t ≡ rules_hold s im
  unfolding rules_hold readied_tasks
  rules_tested q c h t eq nq ec nc eh nh et = rw (et, sym eq ∙ nq, sym ec ∙ nc, sym eh ∙ nh)

  -- the ready queue is one where it obeys the rules
  pub ready_queued : queue_holds s im Queue.Ready ≡ true → queued s im Queue.Ready ≡ true
  ready_queued h = (queued_is s im Queue.Ready).1 ((kept_is s im Queue.Ready).0 h).0

-- a test that was passed
pub passed_so : (b x : Bool) → b ≡ x → b ≡ true → x ≡ true
passed_so b x e n = sym e ∙ n

-- what the tests 3, 4 and 5 leave to the later ones
pub ranged_so : (s : Shape) (r : Bool) → r ≡ out_of_range s → r ≡ false → Ranged s
ranged_so s r er inside =
    let h = (ranged_is s).0 (sym er ∙ inside) in
    record { tasks = h.0; slice = h.1; inputs = h.2; outputs = h.3; messages = h.4 }

module _ (s : Shape) (im : List ℕ) (es : s ≡ shape_of im) (r p : Bool) (er : r ≡ out_of_range s) (inside : r ≡ false) (ep : p ≡ not_packed s)
    (packed : p ≡ false) where
  pub packed_so : (s ≡ shape_of im) × (Ranged s × (not_packed s ≡ false))
  packed_so = (es, (ranged_so s r er inside, sym ep ∙ packed))

  pub sized_so : (w : Bool) → w ≡ wrong_segments s im → w ≡ false → Sized s im
  unfolding shape_of
  sized_so w ew right =
      let h = (segments_are s im).0 (sym ew ∙ right) in
      sized_by s im (ranged_so s r er inside) ((packed_is s (rw es refl)).0 (sym ep ∙ packed)) h.1 h.2
