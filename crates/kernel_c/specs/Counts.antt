-- A run that counts and a task's share, on counts of any length: another length than 97 is refused, and no share is told of it.
use Rattle.std.specs.Prelude.{Bool, not, cond, List, ℕ, eqb, length, Float, Err, None, Option, Some}
use Rattle.paper.specs.Counts.{Reported, reported_at, report, share, all_counts}
use Rattle.paper.specs.declared.Refusal.{Refusal}

-- the counts have another length than 97
abbrev pub wrong_counts : List ℕ → Bool
wrong_counts counts = not (eqb (length counts) all_counts)

-- that is tested before all else: 12, no event is taken, and nothing changes
unfoldable pub report_on : List ℕ → List ℕ → List ℕ → Reported
report_on im events counts =
    cond (wrong_counts counts) (reported_at (Err Refusal.WrongTarget) im counts) (report im events counts)

-- a share, where there is one to tell
unfoldable pub share_on : List ℕ → ℕ → Option Float
share_on counts i = cond (wrong_counts counts) None (share counts i)

-- 1 where a share is told, and 0 where none is
abbrev pub share_number : Option Float → ℕ
share_number (Some x) = 1
share_number None = 0

-- the cell for it: the share, or what it held
abbrev pub share_cell : Option Float → Float → Float
share_cell (Some x) held = x
share_cell None held = held
