-- The text of a list gives the words that were printed. Assumes nothing.
use Rattle.std.specs.Prelude.{List, [], ◌∷◌, ℕ, suc}
use Rattle.std.proofs.Common.{arith}
use Rattle.grammar.specs.Printing.{named_as, spelling, printed}
use Rattle.print_laws.specs.RoundTrip.{Words}
use Rattle.print_laws.specs.Back.{Spells, nothing_spells, last_spells, first_spells}
use Rattle.print_laws.proofs.Spelt.{passed}

-- the text of a list, word by word
pub printed_spells : (ws : List ℕ) → Words ws → Spells (printed ws) ws
unfolding printed
printed_spells [] r = nothing_spells
printed_spells (w ∷ []) r = last_spells w (r 0 (omega arith)) (spelling (named_as w) w) (passed w)
printed_spells (w ∷ n ∷ ws) r =
    first_spells w (r 0 (omega arith)) (spelling (named_as w) w) n (printed (n ∷ ws)) (printed ws) ws (passed w) (r 1 (omega arith))
    (printed_spells (n ∷ ws) (λ k h. r (suc k) (omega arith)))
    (printed_spells ws (λ k h. r (suc (suc k)) (omega arith)))
