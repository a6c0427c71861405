-- What passes a test at the words that orders begin with, and past them, passes it at every word. Assumes nothing.
use Rattle.std.specs.Prelude.{◌≡◌, Bool, true, ℕ, ◌+◌, ◌*◌, ◌/◌, ◌%◌, ◌<◌, ◌≤◌}
use Rattle.std.proofs.Common.{arith}
use Rattle.std.proofs.Math.Bool.{So}
use Rattle.std.proofs.Math.Logic.{dite}
use Rattle.std.proofs.Math.Decide.{dec_lt}
use Rattle.order_table.specs.Reading.{all_below, all_below_at}
use Rattle.grammar.specs.Kept.{kept_words}
use Rattle.grammar.specs.Printing.{Named, named_as}
use Rattle.print_laws.specs.Sweep.{end_of_orders, not_in, before, each_order, same_named, named_same}

-- past the orders no word is the first of one
pub none_past : (w : ℕ) → end_of_orders ≤ w → named_as w ≡ Named.none
unfolding named_as
none_past w l = not_in kept_words w before l

-- one that passes there, and at the words past the orders, passes at any word
pub swept : (t : ℕ → Named → Bool) → So (each_order t) → ((w : ℕ) → end_of_orders ≤ w → t w Named.none ≡ true) → (w : ℕ) → t w (named_as w) ≡ true
swept t all past w = dite (dec_lt w end_of_orders) within (λ n. rw (none_past w (omega arith)) (past w (omega arith)))
  where
    within : w < end_of_orders → t w (named_as w) ≡ true
    within h =
        let row = all_below_at 19 (λ op. all_below 256 (λ low. t (256 * op + low) (named_as (256 * op + low)))) all (w / 256) (omega arith) in
        let is : 256 * (w / 256) + w % 256 ≡ w = omega arith in
        rw is at (all_below_at 256 (λ low. t (256 * (w / 256) + low) (named_as (256 * (w / 256) + low))) row (w % 256) (omega arith))

-- a function that says for each word what it is the first of
pub named_at : (f : ℕ → Named) → So (each_order (λ w n. same_named n (f w))) → ((w : ℕ) → end_of_orders ≤ w → f w ≡ Named.none) → (w : ℕ) → named_as w ≡ f w
named_at f all past w =
    named_same (named_as w) (f w) (swept (λ v n. same_named n (f v)) all (λ v l. rw (past v l)) w)
