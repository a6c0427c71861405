-- A test of each word and the order that it is the first of, tried at the words that orders begin with. Assumes nothing.
use Rattle.std.specs.Prelude.{◌≡◌, refl, Bool, true, false, ◌&&◌, List, [], ◌∷◌, ℕ, ◌+◌, ◌*◌, ◌<◌, ◌≤◌, eqb, ltb, get_or}
use Rattle.std.proofs.Common.{ap, sym, ◌∙◌, true≢false, arith, ltb-true, ne_eqb, eqb-true}
use Rattle.std.proofs.Math.Bool.{and-eq-true_iff}
use Rattle.paper.specs.Orders.{a_of, b_of}
use Rattle.order_table.specs.Reading.{all_below}
use Rattle.grammar.specs.Tokens.{same}
use Rattle.grammar.specs.Kept.{Row, kept_words}
use Rattle.grammar.specs.Printing.{is_register, is_first, Named, named_by, named_in, named_as}
use Rattle.grammar.specs.declared.Kept.{Kept}
use Rattle.grammar.specs.declared.Operands.{Operands}
use Rattle.text_laws.specs.Words.{same_is}

-- the words before this one have an op of 0 to 18
abbrev pub end_of_orders : ℕ
end_of_orders = 256 * 19

-- both registers of an order add at most 119 to its first word: no row of the table reaches the words past the orders
abbrev kept_before : Kept → Bool
kept_before Kept.Free = true
kept_before (Kept.Register a) = true
kept_before (Kept.Order o f) = ltb (f + 119) end_of_orders
kept_before Kept.Later = true

abbrev all_before : List Row → Bool
all_before [] = true
all_before (r ∷ rs) = kept_before r.kept && all_before rs

-- so a word past them is the first of no order
and_false : (a b : Bool) → (a ≡ true → b ≡ false) → (a && b) ≡ false
and_false true b h = h refl
and_false false b h = refl

not_first : (o : Operands) (f w : ℕ) → f + 119 < end_of_orders → end_of_orders ≤ w → is_first o f w ≡ false
not_first Operands.Nothing f w h l = ne_eqb w f (λ e. omega arith)
not_first Operands.Sum f w h l = ne_eqb w f (λ e. omega arith)
not_first Operands.RegisterSum f w h l =
    and_false (is_register (a_of w)) _ (λ ra. ne_eqb w _ (λ e. omega (arith, ltb-true (a_of w) 8 ra)))
not_first Operands.Registers f w h l =
    and_false (is_register (a_of w)) _
    (λ ra. and_false (is_register (b_of w)) _ (λ rb. ne_eqb w _ (λ e. omega (arith, ltb-true (a_of w) 8 ra, ltb-true (b_of w) 8 rb))))

not_by : (k : Kept) (name : List ℕ) (w : ℕ) (later : Named) → kept_before k ≡ true → end_of_orders ≤ w → later ≡ Named.none → named_by k name w later ≡ Named.none
not_by Kept.Free name w later t l e = e
not_by (Kept.Register a) name w later t l e = e
not_by (Kept.Order o f) name w later t l e = rw (not_first o f w (ltb-true _ _ t) l, named_by) e
not_by Kept.Later name w later t l e = e

pub not_in : (rs : List Row) (w : ℕ) → all_before rs ≡ true → end_of_orders ≤ w → named_in rs w ≡ Named.none
unfolding named_in
not_in [] w t l = refl
not_in (r ∷ rs) w t l =
    let both = (and-eq-true_iff (kept_before r.kept) (all_before rs)).0 t in
    not_by r.kept r.spelt w (named_in rs w) both.0 l (not_in rs w both.1 l)

pub before : all_before kept_words ≡ true
unfolding kept_words
before = refl

-- a test of a word and of what it is the first of, at each op and low byte of the orders
abbrev pub each_order : (ℕ → Named → Bool) → Bool
each_order t = all_below 19 (λ op. all_below 256 (λ low. t (256 * op + low) (named_as (256 * op + low))))

-- whether a word is named the same in two ways: operands are told apart by a number
abbrev all_operands : List Operands
all_operands = Operands.Nothing ∷ Operands.Sum ∷ Operands.RegisterSum ∷ Operands.Registers ∷ []

abbrev pub operands_number : Operands → ℕ
operands_number Operands.Nothing = 0
operands_number Operands.Sum = 1
operands_number Operands.RegisterSum = 2
operands_number Operands.Registers = 3

of_number : (o : Operands) → get_or all_operands (operands_number o) Operands.Nothing ≡ o
of_number Operands.Nothing = refl
of_number Operands.Sum = refl
of_number Operands.RegisterSum = refl
of_number Operands.Registers = refl

abbrev pub same_named : Named → Named → Bool
same_named Named.none Named.none = true
same_named Named.none (Named.order m p) = false
same_named (Named.order l o) Named.none = false
same_named (Named.order l o) (Named.order m p) = same l m && eqb (operands_number o) (operands_number p)

pub named_same : (x y : Named) → same_named x y ≡ true → x ≡ y
named_same Named.none Named.none e = refl
named_same Named.none (Named.order m p) e = absurd (true≢false (sym e))
named_same (Named.order l o) Named.none e = absurd (true≢false (sym e))
named_same (Named.order l o) (Named.order m p) e =
    let both = (and-eq-true_iff (same l m) (eqb (operands_number o) (operands_number p))).0 e in
    let names : l ≡ m = same_is l m both.0 in
    let numbers = eqb-true (operands_number o) (operands_number p) both.1 in
    let operands : o ≡ p = sym (of_number o) ∙ ap (λ n. get_or all_operands n Operands.Nothing) numbers ∙ of_number p in
    cc
