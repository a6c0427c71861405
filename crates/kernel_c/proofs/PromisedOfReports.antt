-- What the exported functions that count and tell shares promise, from what the calls behind them answer. Assumes nothing.
use Rattle.std.specs.Prelude.{Err, Float, None, Option, Some}
use mathlib.Core.Path.{◌≡◌, refl, sym, ap, ◌∙◌}
use mathlib.Core.List.{List}
use Prim.Native.Nat.{ℕ}
use lib.ListN.{length}
use lib.Ieee.{Float}
use borrow.Author.Tests.{eq-eqb, ne_eqb}
use Rattle.paper.specs.Numbers.{number, verdict_number}
use Rattle.paper.specs.Counts.{Reported, reported_at, report, share, all_counts}
use Rattle.paper.specs.Promises.{Reports, Shares}
use Rattle.paper.specs.declared.Ended.{Ended}
use Rattle.paper.specs.declared.Refusal.{Refusal}
use Rattle.kernel_c.specs.Counts.{report_on, share_on, share_number, share_cell}
use Rattle.kernel_c.specs.Promises.{ReportsC, SharesC}
use Rattle.kernel_c.specs.declared.RunNumbers.{RunNumbers}

-- 97 counts: a run that counts, and a share
module _ (counts : List ℕ) (e : length counts ≡ all_counts) where
  pub report_whole : (image events : List ℕ) → report_on image events counts ≡ report image events counts
  unfolding report_on
  report_whole image events = rw (eq-eqb (length counts) all_counts e) refl

  pub share_whole : (i : ℕ) → share_on counts i ≡ share counts i
  unfolding share_on
  share_whole i = rw (eq-eqb (length counts) all_counts e) refl

-- another number of them
module _ (counts : List ℕ) (n : ¬ (length counts ≡ all_counts)) where
  pub report_wrong : (image events : List ℕ) → report_on image events counts ≡ reported_at (Err Refusal.WrongTarget) image counts
  unfolding report_on
  report_wrong image events = rw (ne_eqb (length counts) all_counts n) refl

  pub share_wrong : (i : ℕ) → share_on counts i ≡ None
  unfolding share_on
  share_wrong i = rw (ne_eqb (length counts) all_counts n) refl

-- what is reported, in numbers
reports_as : (image events counts : List ℕ) (r : Reported) (answer : RunNumbers) (after more : List ℕ) → report_on image events counts ≡ r
    → answer.taken ≡ r.taken → answer.number ≡ verdict_number r.stop → after ≡ r.image → more ≡ r.counts → ReportsC image events counts answer after more
reports_as image events counts r answer after more e et en ei ec =
    record {
      counted = et ∙ sym (ap (λ (x : Reported). x.taken) e);
      numbered = en ∙ sym (ap (λ (x : Reported). verdict_number x.stop) e);
      left = ei ∙ sym (ap (λ (x : Reported). x.image) e);
      tallied = ec ∙ sym (ap (λ (x : Reported). x.counts) e);
    }

-- a run that counts: 97 counts, and another number of them
pub reports_is : (image events counts : List ℕ) (ended : Ended) (answer : RunNumbers) (after more : List ℕ) → length counts ≡ all_counts
    → Reports image events counts ended after more → answer.taken ≡ ended.taken → answer.number ≡ verdict_number ended.stop
    → ReportsC image events counts answer after more
reports_is image events counts ended answer after more e p et en =
    reports_as image events counts (report image events counts) answer after more (report_whole counts e image events) (et ∙ p.counted)
    (en ∙ p.numbered) p.left p.tallied

pub reports_refused : (image events counts : List ℕ) (answer : RunNumbers) → ¬ (length counts ≡ all_counts) → answer.taken ≡ 0
    → answer.number ≡ number Refusal.WrongTarget → ReportsC image events counts answer image counts
reports_refused image events counts answer n et en =
    reports_as image events counts (reported_at (Err Refusal.WrongTarget) image counts) answer image counts
    (report_wrong counts n image events) et en refl refl

-- a share: it is told and written; none is told, and the cell stays
shares_as : (counts : List ℕ) (i : ℕ) (held : Float) (s : Option Float) → share_on counts i ≡ s → SharesC counts i held (share_number s) (share_cell s held)
shares_as counts i held s e =
    record { numbered = ap share_number (sym e); left = ap (λ (x : Option Float). share_cell x held) (sym e) }

module _ (counts : List ℕ) (i : ℕ) (held : Float) (answer : Option Float) (e : length counts ≡ all_counts) (p : Shares counts i answer) where
  pub shares_told : (x : Float) → answer ≡ Some x → SharesC counts i held 1 x
  shares_told x t = shares_as counts i held (Some x) (share_whole counts e i ∙ sym p.answered ∙ t)

  pub shares_none : answer ≡ None → SharesC counts i held 0 held
  shares_none t = shares_as counts i held None (share_whole counts e i ∙ sym p.answered ∙ t)

pub shares_refused : (counts : List ℕ) (i : ℕ) (held : Float) → ¬ (length counts ≡ all_counts) → SharesC counts i held 0 held
shares_refused counts i held n = shares_as counts i held None (share_wrong counts n i)
