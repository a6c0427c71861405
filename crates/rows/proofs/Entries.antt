-- A table that passes a test at each of its entries has its rule. Assumes nothing.
use Rattle.std.proofs.Common.{◌≡◌, ℕ, suc, ◌*◌, ◌<◌, Bool, true, ◌&&◌, List, get_or, eqb, eqb-true}
use Rattle.std.proofs.Math.Bool.{So, and-eq-true_iff}
use Rattle.order_table.specs.Reading.{all_below, all_below_at}
use Rattle.rows.specs.Rows.{rows_end, sixteenths, row_of, front, tail, place, packed, form, Tells}
use Rattle.rows.specs.declared.tables.Parts.{Parts}

pub rows_right : (t : List ℕ) → So (all_below (suc sixteenths) (λ k. eqb (get_or t k 0) (row_of (16 * k)))) → (k : ℕ) → k < suc sixteenths
    → get_or t k 0 ≡ row_of (16 * k)
rows_right t right k h = eqb-true _ _ (all_below_at (suc sixteenths) (λ j. eqb (get_or t j 0) (row_of (16 * j))) right k h)

-- whether parts tell what stands in a row
abbrev pub told : ℕ → Parts → Bool
told r p =
    eqb p.form_word (form r) && (eqb p.front_bytes (packed (front r)) && (eqb p.tail_bytes (packed (tail r)) && eqb p.first_register (place r)))

tells : (r : ℕ) (p : Parts) → told r p ≡ true → Tells r p
tells r p e =
    let f = (and-eq-true_iff (eqb p.form_word (form r)) _).0 e in
    let g = (and-eq-true_iff (eqb p.front_bytes (packed (front r))) _).0 f.1 in
    let h = (and-eq-true_iff (eqb p.tail_bytes (packed (tail r))) _).0 g.1 in
    record {
      form_told = eqb-true _ _ f.0;
      front_told = eqb-true _ _ g.0;
      tail_told = eqb-true _ _ h.0;
      place_told = eqb-true _ _ h.1;
    }

pub parts_right : (t : List Parts) (d : Parts) → So (all_below rows_end (λ r. told r (get_or t r d))) → (r : ℕ) → r < rows_end → Tells r (get_or t r d)
parts_right t d right r h = tells r (get_or t r d) (all_below_at rows_end (λ k. told k (get_or t k d)) right r h)
