-- Sums, products and terms: each reads what it can of a row of tokens, works its value left to right, and leaves the rest.
use Rattle.std.specs.Prelude.{true, false, List, [], ◌∷◌, ℕ, zero, suc, ◌+◌, ◌-◌, ◌*◌, leb, ltb, length, Err, None, Ok, Option, Result, Some}
use Rattle.grammar.specs.Tokens.{Token, plus_mark, minus_mark, times_mark, open_mark, close_mark, begins, rest, same}
use Rattle.grammar.specs.Kept.{kept_as}
use Rattle.grammar.specs.declared.Kept.{Kept}
use Rattle.grammar.specs.declared.NoValue.{NoValue}
use Rattle.grammar.specs.declared.Sign.{Sign}

-- every number, name, label and partial result lies in 0..65535
abbrev pub end_of_range : ℕ
end_of_range = 65536

abbrev pub in_range : ℕ → Result ℕ NoValue
in_range n = elim (ltb n end_of_range) [ true ↦ Ok n | false ↦ Err NoValue.Beyond ]

-- names and labels are one family: what is given so far, the latest first
pub record Entry : Type 0 where
  pub spelt : List ℕ
  pub value : ℕ

unfoldable pub find : List Entry → List ℕ → Option ℕ
find [] w = None
find (e ∷ es) w = elim (same e.spelt w) [ true ↦ Some e.value | false ↦ find es w ]

abbrev pub found_as : Option ℕ → Result ℕ NoValue
found_as None = Err NoValue.Missing
found_as (Some v) = in_range v

abbrev pub value_of : List Entry → List ℕ → Result ℕ NoValue
value_of es w = found_as (find es w)

-- a number of any count of digits
unfoldable pub decimal : ℕ → List ℕ → ℕ
decimal n [] = n
decimal n (d ∷ ds) = decimal (n * 10 + (d - 48)) ds

-- two values worked to one: a missing name comes before a value out of range
abbrev pub both : (ℕ → ℕ → Result ℕ NoValue) → Result ℕ NoValue → Result ℕ NoValue → Result ℕ NoValue
both f (Err NoValue.Missing) y = Err NoValue.Missing
both f (Ok a) (Ok b) = f a b
both f (Ok a) (Err NoValue.Missing) = Err NoValue.Missing
both f (Ok a) (Err NoValue.Beyond) = Err NoValue.Beyond
both f (Err NoValue.Beyond) (Ok b) = Err NoValue.Beyond
both f (Err NoValue.Beyond) (Err NoValue.Missing) = Err NoValue.Missing
both f (Err NoValue.Beyond) (Err NoValue.Beyond) = Err NoValue.Beyond

abbrev pub plus : ℕ → ℕ → Result ℕ NoValue
plus a b = in_range (a + b)

abbrev pub minus : ℕ → ℕ → Result ℕ NoValue
minus a b = elim (leb b a) [ true ↦ Ok (a - b) | false ↦ Err NoValue.Beyond ]

abbrev pub times : ℕ → ℕ → Result ℕ NoValue
times a b = in_range (a * b)

abbrev pub joins : Sign → Result ℕ NoValue → Result ℕ NoValue → Result ℕ NoValue
joins Sign.Plus x y = both plus x y
joins Sign.Minus x y = both minus x y

-- what reading comes to: tokens outside the grammar, or a value and the tokens that are left
pub data Reading : Type 0 where
  outside : Reading
  read : Result ℕ NoValue → List Token → Reading

abbrev pub then : Reading → (Result ℕ NoValue → List Token → Reading) → Reading
then outside k = outside
then (read v ts) k = k v ts

-- sum = product { ( "+" | "-" ) product }
abbrev pub sum_goes : (Sign → Result ℕ NoValue → List Token → Reading) → Result ℕ NoValue → List Token → Reading
sum_goes again v ts =
    elim (begins plus_mark ts) [
      | true ↦ again Sign.Plus v (rest ts)
      | false ↦ elim (begins minus_mark ts) [ true ↦ again Sign.Minus v (rest ts) | false ↦ read v ts ]
    ]

-- product = term { "*" term }
abbrev pub product_goes : (Result ℕ NoValue → List Token → Reading) → Result ℕ NoValue → List Token → Reading
product_goes again v ts = elim (begins times_mark ts) [ true ↦ again v (rest ts) | false ↦ read v ts ]

-- term = number | name | "(" sum ")", with d more brackets to be opened at most
abbrev pub closed : Result ℕ NoValue → List Token → Reading
closed v ts = elim (begins close_mark ts) [ true ↦ read v (rest ts) | false ↦ outside ]

abbrev pub bracket : (ℕ → List Token → Reading) → ℕ → List Token → Reading
bracket inner zero ts = outside
bracket inner (suc d) ts = then (inner d ts) closed

abbrev pub named : Kept → Result ℕ NoValue → List Token → Reading
named Kept.Free v ts = read v ts
named (Kept.Register a) v ts = outside
named (Kept.Order o w) v ts = outside
named Kept.Later v ts = outside

abbrev pub term_goes : (ℕ → List Token → Reading) → List Entry → ℕ → List Token → Reading
term_goes inner es d [] = outside
term_goes inner es d (Token.number ds ∷ ts) = read (in_range (decimal 0 ds)) ts
term_goes inner es d (Token.word w ∷ ts) = named (kept_as w) (value_of es w) ts
term_goes inner es d (Token.mark b ∷ ts) = elim (begins open_mark (Token.mark b ∷ ts)) [ true ↦ bracket inner d ts | false ↦ outside ]
term_goes inner es d (Token.stray ∷ ts) = outside

-- the three rules: a sum and a product go on from what was worked so far; the first number counts the steps that may still be taken
unfoldable mutual
  pub sum : ℕ → List Entry → ℕ → Sign → Result ℕ NoValue → List Token → Reading
  sum zero es d s v ts = outside
  sum (suc n) es d s v ts =
      then (product n es d (Ok 1) ts) (λ p more. sum_goes (λ t w later. sum n es d t w later) (joins s v p) more)

  pub product : ℕ → List Entry → ℕ → Result ℕ NoValue → List Token → Reading
  product zero es d v ts = outside
  product (suc n) es d v ts =
      then (term n es d ts) (λ t more. product_goes (λ w later. product n es d w later) (both times v t) more)

  pub term : ℕ → List Entry → ℕ → List Token → Reading
  term zero es d ts = outside
  term (suc n) es d ts = term_goes (λ c more. sum n es c Sign.Plus (Ok 0) more) es d ts

-- brackets are nested at most 8 deep
abbrev pub deepest : ℕ
deepest = 8

-- steps enough for a row of tokens
abbrev pub steps : List Token → ℕ
steps ts = 3 * length ts + 3

abbrev pub whole : Reading → Reading
whole outside = outside
whole (read v []) = read v []
whole (read v (t ∷ ts)) = outside

-- a row of tokens that is a sum, to its end
unfoldable pub sum_of : List Entry → List Token → Reading
sum_of es ts = whole (sum (steps ts) es deepest Sign.Plus (Ok 0) ts)
