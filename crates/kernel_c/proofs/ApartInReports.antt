-- What a report and a share answer tells which counts were lent: 97 or another number of them, with ticks among them or none. Assumes nothing.
use Rattle.std.specs.Prelude.{Err, Float, None, Ok, Option, Result, Some, ⊤}
use mathlib.Core.Path.{◌≡◌, refl, sym, ap, ◌∙◌, subst}
use mathlib.Core.Bool.{Bool, true, false, not, cond}
use mathlib.Core.List.{List, [], ◌∷◌}
use Prim.Native.Nat.{ℕ, ◌%◌, ◌<◌, ◌≤◌}
use native.Mathlib.Omega.{arith}
use lib.Dec.{eqb}
use lib.ListN.{length}
use lib.Ieee.{Float, binary64, round}
use Rattle.paper.specs.Image.{most_tasks, shape_of}
use Rattle.paper.specs.Tests.{rules_hold}
use Rattle.paper.specs.Events.{event_of, happening}
use Rattle.paper.specs.Numbers.{number, verdict_number, reply_number, refused_if, and_then, too_short, not_marked, out_of_range, not_packed, wrong_segments, check}
use Rattle.paper.specs.Calls.{check_run}
use Rattle.paper.specs.Counts.{Counted, counting, counted, counted_event, passes_end, tally, Reported, reports_on, report_from, report_if, report, all_counts, task_ticks, all_ticks}
use Rattle.paper.specs.declared.Shape.{Shape}
use Rattle.paper.specs.declared.Event.{Event}
use Rattle.paper.specs.declared.Refusal.{Refusal}
use Rattle.event_laws.specs.Walk.{input_any, done_any, event_any}
use Rattle.shares.proofs.Dividing.{share_none, share_rounded}
use Rattle.shares.proofs.WithoutLoss.{nothing, share_rowless}
use Rattle.kernel_c.specs.Counts.{share_on, share_number, share_cell}
use Rattle.kernel_c.specs.Promises.{ReportsC, SharesC}
use Rattle.kernel_c.specs.declared.RunNumbers.{RunNumbers}
use Rattle.kernel_c.proofs.PromisedOfReports.{report_whole, report_wrong, share_whole, share_wrong}
use Rattle.paper.specs.declared.Answer.{Answer}

-- counts of another length: 12, nothing is taken and nothing changes
pub counts_refused : (image events counts : List ℕ) (a : RunNumbers) (after more : List ℕ) → ReportsC image events counts a after more
    → ¬ (length counts ≡ all_counts) → (a.taken ≡ 0) × (a.number ≡ number Refusal.WrongTarget) × (after ≡ image) × (more ≡ counts)
counts_refused image events counts a after more p n =
    let e = report_wrong counts n image events in (
      p.counted ∙ ap (λ (r : Reported). r.taken) e,
      p.numbered ∙ ap (λ (r : Reported). verdict_number r.stop) e,
      p.left ∙ ap (λ (r : Reported). r.image) e,
      p.tallied ∙ ap (λ (r : Reported). r.counts) e,
    )

-- of 97 counts it is never 12: no test of an image or a list gives it, and no event
abbrev Other : ℕ → Type 0
Other n = ¬ (n ≡ number Refusal.WrongTarget)

tested : (b : Bool) (r : Refusal) (later : Result ⊤ Refusal) → Other (number r) → Other (verdict_number later) → Other (verdict_number (refused_if b r later))
tested true r later n l = n
tested false r later n l = l

then_tested : (first later : Result ⊤ Refusal) → Other (verdict_number first) → Other (verdict_number later) → Other (verdict_number (and_then first later))
then_tested (Ok tt) later n l = l
then_tested (Err r) later n l = n

check_other : (im events : List ℕ) → Other (verdict_number (check_run im events))
unfolding check
check_other im events =
    then_tested (check im) (refused_if (not (eqb (length events % 3) 0)) Refusal.MalformedEvent (Ok tt))
    (tested (too_short im) Refusal.TooShort _ (λ e. omega arith)
    (tested (not_marked im) Refusal.NotMarked _ (λ e. omega arith)
    (tested (out_of_range (shape_of im)) Refusal.OutOfRange _ (λ e. omega arith)
    (tested (not_packed (shape_of im)) Refusal.NotPacked _ (λ e. omega arith)
    (tested (wrong_segments (shape_of im) im) Refusal.WrongSegments _ (λ e. omega arith)
    (tested (not (rules_hold (shape_of im) im)) Refusal.RuleBroken (Ok tt) (λ e. omega arith) (λ e. omega arith)))))))
    (tested (not (eqb (length events % 3) 0)) Refusal.MalformedEvent (Ok tt) (λ e. omega arith) (λ e. omega arith))

event_other : (s : Shape) (im : List ℕ) (e : Event) → Other (reply_number (happening s im e).reply)
event_other s im =
    event_any s im (λ _ o. Other (reply_number o.reply))
    (λ e. omega arith) (λ i c. input_any s im i (λ o. Other (reply_number o.reply)) c (λ _ e. omega arith) (λ _ _ e. omega arith) (λ _ _ e. omega arith))
    (λ i. done_any s im i (λ o. Other (reply_number o.reply)) (λ _ e. omega arith) (λ _ _ e. omega arith) (λ _ _ e. omega arith))
    (λ e. omega arith)

-- a counted event, and a run of them
module _ (later : List ℕ → List ℕ → Reported) (l : (im counts : List ℕ) → Other (verdict_number (later im counts).stop)) where
  abbrev StopsOther : Counted → Type 0
  StopsOther o = Other (verdict_number (reports_on o.reply o.image o.counts later).stop)

  either : (b : Bool) (x y : Counted) → StopsOther x → StopsOther y → StopsOther (cond b x y)
  either true x y p q = p
  either false x y p q = q

  counting_other : (r : Result Answer Refusal) (im after counts : List ℕ) → Other (reply_number r) → StopsOther (counting r im after counts)
  counting_other (Ok a) im after counts n =
      either (passes_end counts (tally a)) (record { reply = Err Refusal.CountFull; image = im; counts = counts })
      (record { reply = Ok a; image = after; counts = counted counts (tally a) }) (λ e. omega arith) (l after (counted counts (tally a)))
  counting_other (Err r) im after counts n = n

from_other : (s : Shape) (im counts events : List ℕ) → Other (verdict_number (report_from s im counts events).stop)
unfolding counted_event
from_other s im counts [] = λ e. omega arith
from_other s im counts (k ∷ []) = λ e. omega arith
from_other s im counts (k ∷ d ∷ []) = λ e. omega arith
from_other s im counts (k ∷ d ∷ c ∷ events) =
    let e = event_of s k d c in
    counting_other (λ next more. report_from s next more events) (λ next more. from_other s next more events) (happening s im e).reply im
    (happening s im e).image counts (event_other s im e)

if_other : (v : Result ⊤ Refusal) (im events counts : List ℕ) → Other (verdict_number v) → Other (verdict_number (report_if v im events counts).stop)
if_other (Ok tt) im events counts n = from_other (shape_of im) im counts events
if_other (Err r) im events counts n = n

report_other : (im events counts : List ℕ) → Other (verdict_number (report im events counts).stop)
unfolding report
report_other im events counts = if_other (check_run im events) im events counts (check_other im events)

pub counts_taken : (image events counts : List ℕ) (a : RunNumbers) (after more : List ℕ) → ReportsC image events counts a after more
    → length counts ≡ all_counts → ¬ (a.number ≡ number Refusal.WrongTarget)
counts_taken image events counts a after more p e =
    subst Other (sym (p.numbered ∙ ap (λ (r : Reported). verdict_number r.stop) (report_whole counts e image events)))
    (report_other image events counts)

module _ (counts : List ℕ) (i : ℕ) (held : Float) (a : ℕ) (x : Float) (p : SharesC counts i held a x) where
  as_told : (s : Option Float) → share_on counts i ≡ s → (a ≡ share_number s) × (x ≡ share_cell s held)
  as_told s e = (p.numbered ∙ ap share_number e, p.left ∙ ap (λ (s : Option Float). share_cell s held) e)

  -- another length, or no ticks at all: 0, and the cell stays
  pub other_length : ¬ (length counts ≡ all_counts) → (a ≡ 0) × (x ≡ held)
  other_length n = as_told None (share_wrong counts n i)

  module _ (e : length counts ≡ all_counts) where
    pub no_ticks : all_ticks counts ≡ 0 → (a ≡ 0) × (x ≡ held)
    no_ticks z = as_told None (share_whole counts e i ∙ sym (share_none (all_ticks counts) i counts refl z))

    -- some ticks: 1, and the cell is the task's share; +0 where there cannot be such a task
    pub some_ticks : 0 < all_ticks counts → (a ≡ 1) × (x ≡ round binary64 false (task_ticks counts i) (all_ticks counts))
    some_ticks h =
        as_told (Some (round binary64 false (task_ticks counts i) (all_ticks counts)))
        (share_whole counts e i ∙ share_rounded i (all_ticks counts) counts h refl)

    pub no_such_task : 0 < all_ticks counts → most_tasks ≤ i → (a ≡ 1) × (x ≡ nothing)
    no_such_task h m = as_told (Some nothing) (share_whole counts e i ∙ share_rowless counts i h m)
