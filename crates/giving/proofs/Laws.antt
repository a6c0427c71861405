-- A name or label that is given: in a table with room, and in a full one. Assumes nothing.
use Rattle.std.specs.Prelude.{Option, Some}
use mathlib.Core.Path.{◌≡◌, refl}
use mathlib.Core.List.{List, ◌∷◌}
use Prim.Native.Nat.{ℕ, ◌+◌, ◌<◌, ◌≤◌}
use native.Mathlib.Nat.{le_refl}
use native.Mathlib.Numerals.{add-one}
use native.Mathlib.Omega.{arith}
use borrow.Author.Tests.{lt-ltb, le-ltb}
use lib.ListN.{take, drop}
use Rattle.grammar.specs.Sums.{Entry, find}
use Rattle.grammar.specs.Texts.{again_flaw, give, give_flaw}
use Rattle.grammar.specs.declared.Refusal.{Refusal}
use Rattle.tables.specs.Tables.{Table, most, text_of, entry, entries, Chained, Headed, Added}
use Rattle.tables.proofs.Laws.{entries_count}
use Rattle.giving.specs.Passes.{GiveMade}

-- a full table takes no more
pub full_flaw : (t : Table) (n : ℕ) (w : List ℕ) → most ≤ n → Some Refusal.OutsideGrammar ≡ give_flaw (entries t n) w
full_flaw t n w h = rw (give_flaw, entries_count t n, le-ltb n most h)

-- with room, what is wrong is what is found of the word
pub found_flaw : (t : Table) (n : ℕ) (w : List ℕ) {f : Option ℕ} {r : Option Refusal} → n < most → f ≡ find (entries t n) w → r ≡ again_flaw f → r ≡ give_flaw (entries t n) w
found_flaw t n w h found is = rw (give_flaw, entries_count t n, lt-ltb n most h, is, found)

-- the entries before the last one
before_last : (t u : Table) (n : ℕ) {e : Entry} → entries u (n + 1) ≡ e ∷ entries t n → entries u n ≡ entries t n
unfolding entries
before_last t u n e =
    let same : entry u n ∷ entries u n ≡ _ ∷ entries t n = rw add-one at e in
    cc

-- an entry put after the others gives the word
pub entry_gives : (t u : Table) (n : ℕ) (heads : List ℕ) (from count value : ℕ) → n < most →
    Added t u n heads (take count (drop from (text_of t n))) value → GiveMade t u n heads from count value (n + 1)
entry_gives t u n heads from count value h added =
    record {
      made = rw (give, entries_count t n, lt-ltb n most h) added.more;
      stay = before_last t u n added.more;
      grows = omega arith;
      chained = added.chained;
      headed = added.headed;
    }

-- a full table is left as it is
pub full_gives : (t : Table) (n : ℕ) (heads : List ℕ) (from count value : ℕ) → most ≤ n →
    Chained t n → Headed t n heads → GiveMade t t n heads from count value n
full_gives t n heads from count value h chained headed =
    record {
      made = rw (give, entries_count t n, le-ltb n most h);
      stay = refl;
      grows = le_refl n;
      chained = chained;
      headed = headed;
    }
