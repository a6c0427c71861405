-- Each line of a printed text is read as the words that it was printed for. Assumes nothing.
use Rattle.std.specs.Prelude.{◌≡◌, refl, Bool, true, false, not, ◌&&◌, ℕ, ◌+◌, ◌*◌, ◌<◌, ◌≤◌, eqb, leb, length, Err, Ok, None, Option, Some}
use Rattle.std.proofs.Common.{ap, sym, ◌∙◌, true≢false, arith, eqb-true, leb-true, ne_eqb}
use Rattle.std.proofs.Math.Bool.{and-eq-true_iff}
use mathlib.Core.List.{List, [], ◌∷◌, ◌++◌, append_assoc}
use Rattle.std.proofs.lemmas.Bool.{not-true}
use Rattle.paper.specs.Runner.{decimal}
use Rattle.grammar.specs.Tokens.{line_end, comment, joined, lines, digit, Token, Open, goes_on, longer, ended, begun, alone, tokens_on, tokens}
use Rattle.grammar.specs.Kept.{kept_as}
use Rattle.grammar.specs.Sums.{sum_of, end_of_range}
use Rattle.grammar.specs.Lines.{Label, label_of, Operand, register, register_as, two, with_sum, body_by, given}
use Rattle.grammar.specs.Printing.{Spelling, number_text}
use Rattle.grammar.specs.declared.Given.{Given}
use Rattle.grammar.specs.declared.Kept.{Kept}
use Rattle.grammar.specs.declared.NoValue.{NoValue}
use Rattle.grammar.specs.declared.Operands.{Operands}
use Rattle.print_laws.specs.Digits.{each, each_first, each_both, each_so, digit_low, digit_high, are_digits, sum_back, token_back}

-- a byte that ends no line and begins no comment
abbrev pub calm : ℕ → Bool
calm b = not (eqb b line_end) && not (eqb b comment)

calm_end : (b : ℕ) → calm b ≡ true → eqb b line_end ≡ false
calm_end b e = not-true (eqb b line_end) ((and-eq-true_iff (not (eqb b line_end)) (not (eqb b comment))).0 e).0

calm_comment : (b : ℕ) → calm b ≡ true → eqb b comment ≡ false
calm_comment b e = not-true (eqb b comment) ((and-eq-true_iff (not (eqb b line_end)) (not (eqb b comment))).0 e).1

digit_calm : (b : ℕ) → digit b ≡ true → calm b ≡ true
digit_calm b e =
    rw (ne_eqb b line_end (λ z. omega (arith, digit_low b e)), ne_eqb b comment (λ z. omega (arith, digit_high b e)))

-- a line of such bytes before the rest of a text
pub line_first : (l t : List ℕ) → each calm l ≡ true → lines (l ++ (line_end ∷ t)) ≡ l ∷ lines t
unfolding lines
line_first [] t e = refl
line_first (b ∷ l) t e =
    let h = each_first calm b l e in
    rw (calm_end b h.0, lines) (ap (λ ls. joined b ls) (line_first l t h.1))

-- a space parts the tokens
space_ends : (o : Open) (m : List ℕ) → tokens_on o (32 ∷ m) ≡ ended o ++ tokens_on Open.none m
unfolding tokens_on
space_ends Open.none m = refl
space_ends (Open.in_number ds) m = refl
space_ends (Open.in_word w) m = refl

parted_on : (o : Open) (l m : List ℕ) → each calm l ≡ true → tokens_on o (l ++ (32 ∷ m)) ≡ tokens_on o l ++ tokens_on Open.none m
unfolding tokens_on
parted_on o [] m e = space_ends o m
parted_on o (b ∷ l) m e =
    let h = each_first calm b l e in
    rw (calm_comment b h.0, tokens_on) (go (goes_on o b) (parted_on (longer o b) l m h.1) (parted_on (begun b) l m h.1))
  where
    go : (t : Bool) → tokens_on (longer o b) (l ++ (32 ∷ m)) ≡ tokens_on (longer o b) l ++ tokens_on Open.none m
        → tokens_on (begun b) (l ++ (32 ∷ m)) ≡ tokens_on (begun b) l ++ tokens_on Open.none m
        → elim t as (λ _. List Token) [ true ↦ tokens_on (longer o b) (l ++ (32 ∷ m)) | false ↦ ended o ++ (alone b ++ tokens_on (begun b) (l ++ (32 ∷ m))) ]
        ≡ elim t as (λ _. List Token) [ true ↦ tokens_on (longer o b) l | false ↦ ended o ++ (alone b ++ tokens_on (begun b) l) ] ++ tokens_on Open.none m
    go true x y = x
    go false x y = rw (y, append_assoc (ended o), append_assoc (alone b))

parted : (l m : List ℕ) → each calm l ≡ true → tokens (l ++ (32 ∷ m)) ≡ tokens l ++ tokens m
unfolding tokens
parted l m e = parted_on Open.none l m e

-- what is shown of a line: it is one line, has no label and gives this
pub record Line (l : List ℕ) (g : Option Given) : Type 0 where
  pub whole : each calm l ≡ true
  pub bare : label_of (tokens l) ≡ Label.none
  pub gives : given [] (tokens l) ≡ g

-- a number
pub number_line : (n : ℕ) → n < end_of_range → Line (decimal n) (Some (Given.One (Ok n)))
unfolding label_of given
number_line n h =
    record {
      whole = each_so digit calm digit_calm (decimal n) (are_digits n);
      bare = rw (token_back n);
      gives = rw (token_back n, sum_back n h);
    }

-- the tests of a line of one word, and of the part of a line before its second word; neither is longer than 15 bytes
abbrev is_one : ℕ → Option Given → Bool
is_one w None = false
is_one w (Some Given.Nothing) = false
is_one w (Some (Given.One (Ok v))) = eqb v w
is_one w (Some (Given.One (Err x))) = false
is_one w (Some (Given.Two f v)) = false

abbrev no_label : Label → Bool
no_label Label.none = true
no_label (Label.label w) = false

abbrev no_more : List Token → Bool
no_more [] = true
no_more (t ∷ ts) = false

abbrev opens_at : ℕ → ℕ → Operand → Bool
opens_at w f Operand.missing = false
opens_at w f (Operand.at a ts) = no_more ts && eqb (f + 16 * a) w

abbrev opens_by : ℕ → Kept → List Token → Bool
opens_by w Kept.Free ts = false
opens_by w (Kept.Register a) ts = false
opens_by w (Kept.Order Operands.Nothing f) ts = false
opens_by w (Kept.Order Operands.Sum f) ts = no_more ts && eqb f w
opens_by w (Kept.Order Operands.RegisterSum f) ts = opens_at w f (register ts)
opens_by w (Kept.Order Operands.Registers f) ts = false
opens_by w Kept.Later ts = false

abbrev opens : ℕ → List Token → Bool
opens w [] = false
opens w (Token.number ds ∷ ts) = false
opens w (Token.word x ∷ ts) = opens_by w (kept_as x) ts
opens w (Token.mark b ∷ ts) = false
opens w (Token.stray ∷ ts) = false

abbrev short : List ℕ → Bool
short l = each calm l && leb (length l) 15

abbrev pub passes : ℕ → Spelling → Bool
passes w Spelling.plain = true
passes w (Spelling.one l) = short l && (no_label (label_of (tokens l)) && is_one w (given [] (tokens l)))
passes w (Spelling.two l) = short l && opens w (tokens l)

-- a line that passes gives its word
short_parts : (l : List ℕ) (t : Bool) → (short l && t) ≡ true → (each calm l ≡ true) × (length l ≤ 15) × (t ≡ true)
short_parts l t e =
    let both = (and-eq-true_iff (short l) t).0 e in
    let two = (and-eq-true_iff (each calm l) (leb (length l) 15)).0 both.0 in
    (two.0, leb-true (length l) 15 two.1, both.1)

one_is : (w : ℕ) (g : Option Given) → is_one w g ≡ true → g ≡ Some (Given.One (Ok w))
one_is w None e = absurd (true≢false (sym e))
one_is w (Some Given.Nothing) e = absurd (true≢false (sym e))
one_is w (Some (Given.One (Ok v))) e = ap (λ x. Some (Given.One (Ok x))) (eqb-true v w e)
one_is w (Some (Given.One (Err x))) e = absurd (true≢false (sym e))
one_is w (Some (Given.Two f v)) e = absurd (true≢false (sym e))

label_is : (x : Label) → no_label x ≡ true → x ≡ Label.none
label_is Label.none e = refl
label_is (Label.label w) e = absurd (true≢false (sym e))

pub one_line : (w : ℕ) (l : List ℕ) → passes w (Spelling.one l) ≡ true → Line l (Some (Given.One (Ok w))) × (length l ≤ 15)
one_line w l e =
    let h = short_parts l (no_label (label_of (tokens l)) && is_one w (given [] (tokens l))) e in
    let both = (and-eq-true_iff (no_label (label_of (tokens l))) (is_one w (given [] (tokens l)))).0 h.2 in (
      record { whole = h.0; bare = label_is (label_of (tokens l)) both.0; gives = one_is w (given [] (tokens l)) both.1 },
      h.1,
    )

-- and a line with a second word both
more_is : (ts : List Token) → no_more ts ≡ true → ts ≡ []
more_is [] e = refl
more_is (t ∷ ts) e = absurd (true≢false (sym e))

-- a row of tokens that opens an order, and then a number
module _ (w : ℕ) (ds : List ℕ) where
  abbrev last : List Token
  last = Token.number ds ∷ []

  -- what the row gives, and that it has no label
  abbrev Opened : List Token → Type 0
  Opened ts = (label_of (ts ++ last) ≡ Label.none) × (given [] (ts ++ last) ≡ two w (sum_of [] last))

  sum_opened : (f : ℕ) (ts : List Token) → (no_more ts && eqb f w) ≡ true → (ts ≡ []) × (f ≡ w)
  sum_opened f ts e =
      let both = (and-eq-true_iff (no_more ts) (eqb f w)).0 e in
      (more_is ts both.0, eqb-true f w both.1)

  register_opened : (f : ℕ) (k : Kept) (ts : List Token) → opens_at w f (register_as k ts) ≡ true → with_sum [] f (register_as k (ts ++ last)) ≡ two w (sum_of [] last)
  register_opened f Kept.Free ts e = absurd (true≢false (sym e))
  register_opened f (Kept.Register a) ts e = let h = sum_opened (f + 16 * a) ts e in rw (h.0, h.1)
  register_opened f (Kept.Order o g) ts e = absurd (true≢false (sym e))
  register_opened f Kept.Later ts e = absurd (true≢false (sym e))

  abbrev ByKept : List ℕ → Kept → List Token → Type 0
  ByKept x k ts = (label_of (Token.word x ∷ (ts ++ last)) ≡ Label.none) × (body_by [] k (Token.word x ∷ (ts ++ last)) (ts ++ last) ≡ two w (sum_of [] last))

  kept_opened : (x : List ℕ) (k : Kept) (ts : List Token) → opens_by w k ts ≡ true → ByKept x k ts
  unfolding register label_of
  kept_opened x Kept.Free ts e = absurd (true≢false (sym e))
  kept_opened x (Kept.Register a) ts e = absurd (true≢false (sym e))
  kept_opened x (Kept.Order Operands.Nothing f) ts e = absurd (true≢false (sym e))
  kept_opened x (Kept.Order Operands.Sum f) ts e = let h = sum_opened f ts e in rw (h.0, h.1) (refl, refl)
  kept_opened x (Kept.Order Operands.RegisterSum f) [] e = absurd (true≢false (sym e))
  kept_opened x (Kept.Order Operands.RegisterSum f) (Token.number es ∷ ts) e = absurd (true≢false (sym e))
  kept_opened x (Kept.Order Operands.RegisterSum f) (Token.word y ∷ ts) e = (refl, register_opened f (kept_as y) ts e)
  kept_opened x (Kept.Order Operands.RegisterSum f) (Token.mark b ∷ ts) e = absurd (true≢false (sym e))
  kept_opened x (Kept.Order Operands.RegisterSum f) (Token.stray ∷ ts) e = absurd (true≢false (sym e))
  kept_opened x (Kept.Order Operands.Registers f) ts e = absurd (true≢false (sym e))
  kept_opened x Kept.Later ts e = absurd (true≢false (sym e))

  opened : (ts : List Token) → opens w ts ≡ true → Opened ts
  unfolding given
  opened [] e = absurd (true≢false (sym e))
  opened (Token.number es ∷ ts) e = absurd (true≢false (sym e))
  opened (Token.word x ∷ ts) e = kept_opened x (kept_as x) ts e
  opened (Token.mark b ∷ ts) e = absurd (true≢false (sym e))
  opened (Token.stray ∷ ts) e = absurd (true≢false (sym e))

pub two_line : (w n : ℕ) (l : List ℕ) → passes w (Spelling.two l) ≡ true → n < end_of_range
    → Line (l ++ number_text n) (Some (Given.Two w (Ok n))) × (length l ≤ 15)
two_line w n l e r =
    let h = short_parts l (opens w (tokens l)) e in
    let ts : tokens (l ++ number_text n) ≡ tokens l ++ (Token.number (decimal n) ∷ []) = parted l (decimal n) h.0 ∙ rw (token_back n) in
    let o = opened w (decimal n) (tokens l) h.2 in (
      record {
        whole = each_both calm l (number_text n) h.0 (each_so digit calm digit_calm (decimal n) (are_digits n));
        bare = rw ts o.0;
        gives = rw ts (o.1 ∙ rw (sum_back n r));
      },
      h.1,
    )
