-- The numbers that the definitions give are the numbers of the page's tests. Assumes nothing.
use Rattle.std.specs.Prelude.{Err, Ok, Result, ⊤}
use mathlib.Core.Path.{◌≡◌, refl, sym, ap, ◌∙◌}
use mathlib.Core.List.{List, [], ◌∷◌, ◌++◌}
use mathlib.Core.Bool.{Bool, true, false, not, cond}
use mathlib.Core.Logic.{◌≢◌, ◌↔◌}
use Prim.Native.Nat.{ℕ, ◌%◌}
use native.Mathlib.Omega.{arith}
use borrow.Author.Tests.{eqb-true, eqb-false}
use lib.Dec.{eqb}
use lib.ListN.{length}
use Rattle.paper.specs.Image.{total, shape_of, at, busy}
use Rattle.paper.specs.Queues.{full}
use Rattle.paper.specs.Waking.{accepted, refused}
use Rattle.paper.specs.Events.{event_of, input, output_done, happening}
use Rattle.paper.specs.Plans.{plan_shape}
use Rattle.paper.specs.Tests.{rules_hold}
use Rattle.paper.specs.Numbers.{number, verdict_number, reply_number, refused_if, and_then, too_short, not_marked, out_of_range, not_packed, wrong_segments, check, plan_short, plan_broken, check_plan, check_build}
use Rattle.paper.specs.Calls.{event_if, event, check_run}
use Rattle.paper.specs.declared.Task.{Task}
use Rattle.paper.specs.declared.Shape.{Shape}
use Rattle.paper.specs.declared.Queue.{Queue}
use Rattle.paper.specs.declared.Event.{Event}
use Rattle.paper.specs.declared.Answer.{Answer}
use Rattle.paper.specs.declared.Refusal.{Refusal}
use Rattle.event_laws.specs.Walk.{input_any, done_any, event_any}
use Rattle.demands.specs.Demands.{due, image_tests, plan_tests, build_tests, event_tests, call_tests, run_tests, Malformed, InputFull, PortIdle, Exactly}

-- tests in their order, and then others
image_six : (a b c d e f : Bool) (later : Result ⊤ Refusal) (tests : List (ℕ × Bool)) → verdict_number later ≡ due tests
    → verdict_number (and_then (refused_if a Refusal.TooShort (refused_if b Refusal.NotMarked (refused_if c Refusal.OutOfRange
    (refused_if d Refusal.NotPacked (refused_if e Refusal.WrongSegments (refused_if f Refusal.RuleBroken (Ok tt))))))) later)
    ≡ due ((1, a) ∷ (2, b) ∷ (3, c) ∷ (4, d) ∷ (5, e) ∷ (6, f) ∷ tests)
image_six true b c d e f later tests h = refl
image_six false true c d e f later tests h = refl
image_six false false true d e f later tests h = refl
image_six false false false true e f later tests h = refl
image_six false false false false true f later tests h = refl
image_six false false false false false true later tests h = refl
image_six false false false false false false later tests h = h

check_due : (im : List ℕ) (later : Result ⊤ Refusal) (tests : List (ℕ × Bool)) → verdict_number later ≡ due tests
    → verdict_number (and_then (check im) later) ≡ due (image_tests im ++ tests)
unfolding check
check_due im =
    let s = shape_of im in
    image_six (too_short im) (not_marked im) (out_of_range s) (not_packed s) (wrong_segments s im) (not (rules_hold s im))

plan_three : (a b c : Bool) (later : Result ⊤ Refusal) (tests : List (ℕ × Bool)) → verdict_number later ≡ due tests
    → verdict_number (and_then (refused_if a Refusal.BadPlan (refused_if b Refusal.OutOfRange (refused_if c Refusal.BadPlan (Ok tt)))) later)
    ≡ due ((11, a) ∷ (3, b) ∷ (11, c) ∷ tests)
plan_three true b c later tests h = refl
plan_three false true c later tests h = refl
plan_three false false true later tests h = refl
plan_three false false false later tests h = h

plan_then_due : (plan : List ℕ) (later : Result ⊤ Refusal) (tests : List (ℕ × Bool)) → verdict_number later ≡ due tests
    → verdict_number (and_then (check_plan plan) later) ≡ due (plan_tests plan ++ tests)
unfolding check_plan
plan_then_due plan = plan_three (plan_short plan) (out_of_range (plan_shape plan)) (plan_broken plan)

-- and no others
then_none : (v : Result ⊤ Refusal) → and_then v (Ok tt) ≡ v
then_none (Ok tt) = refl
then_none (Err r) = refl

pub image_due : (im : List ℕ) → verdict_number (check im) ≡ due (image_tests im)
image_due im = ap verdict_number (sym (then_none (check im))) ∙ check_due im (Ok tt) [] refl

pub plan_due : (plan : List ℕ) → verdict_number (check_plan plan) ≡ due (plan_tests plan)
plan_due plan = ap verdict_number (sym (then_none (check_plan plan))) ∙ plan_then_due plan (Ok tt) [] refl

-- one test alone
last_due : (b : Bool) (r : Refusal) → verdict_number (refused_if b r (Ok tt)) ≡ due ((number r, b) ∷ [])
last_due true r = refl
last_due false r = refl

pub build_due : (plan target : List ℕ) → verdict_number (check_build plan target) ≡ due (build_tests plan target)
unfolding check_build
build_due plan target =
    let other = not (eqb (length target) (total (plan_shape plan))) in
    plan_then_due plan (refused_if other Refusal.WrongTarget (Ok tt)) ((12, other) ∷ []) (last_due other Refusal.WrongTarget)

pub run_due : (im events : List ℕ) → verdict_number (check_run im events) ≡ due (run_tests im events)
run_due im events =
    let broken = not (eqb (length events % 3) 0) in
    check_due im (refused_if broken Refusal.MalformedEvent (Ok tt)) ((7, broken) ∷ []) (last_due broken Refusal.MalformedEvent)

-- an event on the words of an image, whatever they are
module _ (s : Shape) (im : List ℕ) where
  -- one test, and then it is accepted
  one_due : (b : Bool) (r : Refusal) (a : Answer) (m : List ℕ) → reply_number (cond b (refused r im) (accepted a m)).reply ≡ due ((number r, b) ∷ [])
  one_due true r a m = refl
  one_due false r a m = refl

  event_due : (e : Event) → reply_number (happening s im e).reply ≡ due (event_tests s im e)
  unfolding happening input output_done
  event_due Event.Tick = refl
  event_due (Event.Input i c) = one_due (full s im (Queue.Input i)) Refusal.InputFull _ _
  event_due (Event.OutputDone i) = one_due (eqb (at s im (busy i)) 0) Refusal.PortIdle _ _
  event_due Event.Malformed = refl

-- two that hold, and two that do not
both : {A B : Type 0} → A → B → A ↔ B
both a b = (λ _. b, λ _. a)

neither : {A B : Type 0} → ¬ A → ¬ B → A ↔ B
neither a b = (λ x. absurd (a x), λ y. absurd (b y))

-- which event it is
abbrev which : Event → ℕ
which Event.Tick = 0
which (Event.Input i c) = 1
which (Event.OutputDone i) = 2
which Event.Malformed = 3

-- each number is given exactly where its row applies
module _ (s : Shape) (im : List ℕ) where
  no_row : (e : Event) (a : Answer) → ¬ Malformed e → ¬ InputFull s im e → ¬ PortIdle s im e → Exactly s im e (Ok a)
  no_row e a m f i =
      record {
        malformed = neither (λ z. omega (arith, z)) m;
        input_full = neither (λ z. omega (arith, z)) f;
        port_idle = neither (λ z. omega (arith, z)) i;
        accepted = both refl (m, f, i);
      }

  input_row : (i : Task) (c : ℕ) → Exactly s im (Event.Input i c) (input s im i c).reply
  unfolding full
  input_row i c =
      let formed : ¬ Malformed (Event.Input i c) = λ w. omega (arith, ap which w) in
      let no_port : ¬ PortIdle s im (Event.Input i c) = λ w. omega (arith, ap which w.1) in
      let free : full s im (Queue.Input i) ≡ false → ¬ InputFull s im (Event.Input i c) = λ room w.
      let e = w.2 in
      let same : w.0 ≡ i = cc in
      eqb-false _ _ room (rw same at w.3) in
      input_any s im i (λ o. Exactly s im (Event.Input i c) o.reply) c
      (λ none.
      let row : InputFull s im (Event.Input i c) = (i, c, refl, eqb-true _ _ none) in
      record {
        malformed = neither (λ z. omega (arith, z)) formed;
        input_full = both refl row;
        port_idle = neither (λ z. omega (arith, z)) no_port;
        accepted = neither (λ z. omega (arith, z)) (λ w. w.1 row);
      })
      (λ room _. no_row _ _ formed (free room) no_port) (λ room _. no_row _ _ formed (free room) no_port)

  output_row : (i : Task) → Exactly s im (Event.OutputDone i) (output_done s im i).reply
  output_row i =
      let formed : ¬ Malformed (Event.OutputDone i) = λ w. omega (arith, ap which w) in
      let no-input : ¬ InputFull s im (Event.OutputDone i) = λ w. omega (arith, ap which w.2) in
      let prints : at s im (busy i) ≢ 0 → ¬ PortIdle s im (Event.OutputDone i) = λ ne w.
      let e = w.1 in
      let same : w.0 ≡ i = cc in
      ne (rw same at w.2) in
      done_any s im i (λ o. Exactly s im (Event.OutputDone i) o.reply)
      (λ idle.
      let row : PortIdle s im (Event.OutputDone i) = (i, refl, idle) in
      record {
        malformed = neither (λ z. omega (arith, z)) formed;
        input_full = neither (λ z. omega (arith, z)) no-input;
        port_idle = both refl row;
        accepted = neither (λ z. omega (arith, z)) (λ w. w.2 row);
      })
      (λ ne _. no_row _ _ formed no-input (prints ne)) (λ ne _. no_row _ _ formed no-input (prints ne))

  pub exactly : (e : Event) → Exactly s im e (happening s im e).reply
  exactly =
      event_any s im (λ e o. Exactly s im e o.reply)
      (no_row Event.Tick _ (λ w. omega (arith, ap which w)) (λ w. omega (arith, ap which w.2)) (λ w. omega (arith, ap which w.1)))
      input_row output_row
      record {
        malformed = both refl refl;
        input_full = neither (λ z. omega (arith, z)) (λ w. omega (arith, ap which w.2));
        port_idle = neither (λ z. omega (arith, z)) (λ w. omega (arith, ap which w.1));
        accepted = neither (λ z. omega (arith, z)) (λ w. w.0 refl);
      }

-- a reply as a verdict
abbrev reply_verdict : Result Answer Refusal → Result ⊤ Refusal
reply_verdict (Ok a) = Ok tt
reply_verdict (Err r) = Err r

pub call_due : (im : List ℕ) (k d c : ℕ) → reply_number (event im k d c).reply ≡ due (call_tests im k d c)
unfolding event
call_due im k d c = go (check im) ∙ check_due im (reply_verdict r) (event_tests (shape_of im) im (event_of (shape_of im) k d c)) (told r ∙ event_due (shape_of im) im (event_of (shape_of im) k d c))
  where
    r : Result Answer Refusal
    r = (happening (shape_of im) im (event_of (shape_of im) k d c)).reply

    told : (x : Result Answer Refusal) → verdict_number (reply_verdict x) ≡ reply_number x
    told (Ok a) = refl
    told (Err q) = refl

    go : (v : Result ⊤ Refusal) → reply_number (event_if v im k d c).reply ≡ verdict_number (and_then v (reply_verdict r))
    go (Ok tt) = sym (told r)
    go (Err q) = refl
