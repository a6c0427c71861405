-- What a line comes to, a case at a time, and how large registers and orders are. Assumes nothing.
use mathlib.Core.Path.{◌≡◌, refl, sym, ap, ◌∙◌}
use mathlib.Core.Bool.{Bool, true, false, ◌&&◌, and-eq-true_iff, true≢false, false≢true}
use mathlib.Core.List.{List, [], ◌∷◌}
use Rattle.std.specs.Prelude.{Some, None, Option, ℕ}
use Prim.Native.Nat.{ℕ, ◌<◌, ◌≤◌}
use borrow.Author.Tests.{ltb-true}
use lib.Dec.{ltb}
use lib.ListN.{length, drop}
use Rattle.grammar.specs.Tokens as Tokens
use Rattle.grammar.specs.Tokens.{tokens, begins, rest, equals_mark, label_mark}
use Rattle.grammar.specs.Kept.{Row, kept_words, kept_in, kept_as}
use Rattle.grammar.specs.Sums.{Entry, sum_of}
use Rattle.grammar.specs.Lines as Lines
use Rattle.grammar.specs.Lines.{gives_sum, gives_name, names_line, label_of, register_as, register}
use Rattle.grammar.specs.declared.Kept.{Kept}
use Rattle.grammar.specs.declared.Operands.{Operands}
use Rattle.tokens.specs.Shown.{shown, Inside, part, marks, is_end}
use Rattle.tokens.specs.declared.Token.{Token}
use Rattle.sums.proofs.Laws.{marked_at, not_marked}
use Rattle.phrases.specs.Phrases.{free, is_name, Starts, order_end, OperandInside}
use Rattle.phrases.proofs.Phrases.{is_word, is_register}

-- every kept word is small: a register's number is below 8, and an order's first word below 8192
abbrev small : Kept → Bool
small Kept.Free = true
small (Kept.Register a) = ltb a 8
small (Kept.Order o f) = ltb f order_end
small Kept.Later = true

all_small : List Row → Bool
all_small [] = true
all_small (r ∷ rs) = small r.kept && all_small rs

either_small : (t : Bool) (k other : Kept) → small k ≡ true → small other ≡ true → small (elim t as (λ _. Kept) [ true ↦ k | false ↦ other ]) ≡ true
either_small true k other h g = h
either_small false k other h g = g

in_small : (rs : List Row) (w : List ℕ) → all_small rs ≡ true → small (kept_in rs w) ≡ true
unfolding all_small kept_in
in_small [] w h = refl
in_small (r ∷ rs) w h =
    let both = (and-eq-true_iff (small r.kept) (all_small rs)).0 h in
    either_small (Tokens.same r.spelt w) r.kept (kept_in rs w) both.0 (in_small rs w both.1)

as_small : (w : List ℕ) → small (kept_as w) ≡ true
unfolding all_small kept_words kept_as
as_small w = in_small kept_words w refl

pub register_small : (w : List ℕ) (a : ℕ) (r : Kept) → r ≡ kept_as w → r ≡ Kept.Register a → a < 8
register_small w a r e f = ltb-true a 8 (ap (λ (k : Kept). small k) (sym f ∙ e) ∙ as_small w)

pub order_small : (w : List ℕ) (o : Operands) (f : ℕ) (r : Kept) → r ≡ kept_as w → r ≡ Kept.Order o f → f < order_end
order_small w o f r e g = ltb-true f order_end (ap (λ (k : Kept). small k) (sym g ∙ e) ∙ as_small w)

-- a word stands in its line
pub word_inside : (l : List ℕ) (from to : ℕ) (t : Token) → t ≡ Token.Word from to → Inside l t → (from ≤ to) × (to ≤ length l)
word_inside l from to t e h = rw e at h

-- a register as an operand
pub no_word_register : (l : List ℕ) (t : Token) → is_word t ≡ false → register (shown l t) ≡ Lines.Operand.missing
unfolding register
no_word_register l Token.End h = refl
no_word_register l (Token.Number from to) h = refl
no_word_register l (Token.Word from to) h = absurd (true≢false h)
no_word_register l (Token.Mark b to) h = refl
no_word_register l (Token.Stray to) h = refl

pub no_register : (k : Kept) (ts : List Tokens.Token) → is_register k ≡ false → register_as k ts ≡ Lines.Operand.missing
no_register Kept.Free ts h = refl
no_register (Kept.Register a) ts h = absurd (true≢false h)
no_register (Kept.Order o f) ts h = refl
no_register Kept.Later ts h = refl

-- an operand that was read
pub operand_inside : (l : List ℕ) (r : Option (ℕ × Token)) (a : ℕ) (t : Token) → r ≡ Some (a, t) → OperandInside l r → (a < 8) × Inside l t
operand_inside l r a t e h = rw e at h

-- where no token is left
pub no_token : (t : Token) → is_end t ≡ true → t ≡ Token.End
no_token Token.End h = refl
no_token (Token.Number from to) h = absurd (false≢true h)
no_token (Token.Word from to) h = absurd (false≢true h)
no_token (Token.Mark b to) h = absurd (false≢true h)
no_token (Token.Stray to) h = absurd (false≢true h)

-- a line of the names that starts with no word
pub names_no_word : (es : List Entry) (l : List ℕ) (t : Token) → is_end t ≡ false → is_word t ≡ false → names_line es (shown l t) ≡ Lines.NamesLine.outside
unfolding names_line
names_no_word es l Token.End h g = absurd (true≢false h)
names_no_word es l (Token.Number from to) h g = refl
names_no_word es l (Token.Word from to) h g = absurd (true≢false g)
names_no_word es l (Token.Mark b to) h g = refl
names_no_word es l (Token.Stray to) h g = refl

-- a word at the start of a line of the names, by what it is
kept_word : (es : List Entry) (k : Kept) (w : List ℕ) (ts : List Tokens.Token) → free k ≡ false → gives_name es k w ts ≡ Lines.NamesLine.outside
kept_word es Kept.Free w ts f = absurd (true≢false f)
kept_word es (Kept.Register a) w ts f = refl
kept_word es (Kept.Order o g) w ts f = refl
kept_word es Kept.Later w ts f = refl

no_equals : (es : List Entry) (k : Kept) (w : List ℕ) (ts : List Tokens.Token) → begins equals_mark ts ≡ false → gives_name es k w ts ≡ Lines.NamesLine.outside
no_equals es Kept.Free w ts e = rw (e, gives_name)
no_equals es (Kept.Register a) w ts e = refl
no_equals es (Kept.Order o g) w ts e = refl
no_equals es Kept.Later w ts e = refl

free_word : (es : List Entry) (k : Kept) (w : List ℕ) (ts : List Tokens.Token) → free k ≡ true → begins equals_mark ts ≡ true
    → gives_name es k w ts ≡ gives_sum w (sum_of es (rest ts))
free_word es Kept.Free w ts f e = rw (e, gives_name)
free_word es (Kept.Register a) w ts f e = absurd (false≢true f)
free_word es (Kept.Order o g) w ts f e = absurd (false≢true f)
free_word es Kept.Later w ts f e = absurd (false≢true f)

pub names_kept : (es : List Entry) (w : List ℕ) (ts : List Tokens.Token) → is_name w ≡ false → names_line es (Tokens.Token.word w ∷ ts) ≡ Lines.NamesLine.outside
unfolding names_line
names_kept es w ts h = kept_word es (kept_as w) w ts h

pub names_no_mark : (es : List Entry) (l : List ℕ) (t : Token) (w : List ℕ) → marks equals_mark t ≡ None → names_line es (Tokens.Token.word w ∷ shown l t) ≡ Lines.NamesLine.outside
unfolding names_line
names_no_mark es l t w h = no_equals es (kept_as w) w (shown l t) (not_marked equals_mark l t h)

pub names_sum : (es : List Entry) (l : List ℕ) (t : Token) (w : List ℕ) (after : ℕ) (next : Token) → is_name w ≡ true → marks equals_mark t ≡ Some after
    → tokens (drop after l) ≡ shown l next → names_line es (Tokens.Token.word w ∷ shown l t) ≡ gives_sum w (sum_of es (shown l next))
unfolding names_line
names_sum es l t w after next h m g =
    let e = marked_at equals_mark after l t m in
    free_word es (kept_as w) w (shown l t) h e.0 ∙ rw (e.1.0, g)

-- a line of the script with no label
pub starts_alone : (l : List ℕ) (t : Token) → tokens l ≡ shown l t → Inside l t → label_of (shown l t) ≡ Lines.Label.none → Starts l None t
starts_alone l t e h g = record { labelled = rw e g; follows = rw (e, g); label_inside = tt; body_inside = h }

pub no_word_label : (l : List ℕ) (t : Token) → is_word t ≡ false → label_of (shown l t) ≡ Lines.Label.none
unfolding label_of
no_word_label l Token.End h = refl
no_word_label l (Token.Number from to) h = refl
no_word_label l (Token.Word from to) h = absurd (true≢false h)
no_word_label l (Token.Mark b to) h = refl
no_word_label l (Token.Stray to) h = refl

-- a word before `:`, by what it is
kept_label : (k : Kept) (w : List ℕ) → free k ≡ false → Lines.named k w ≡ Lines.Label.none
kept_label Kept.Free w h = absurd (true≢false h)
kept_label (Kept.Register a) w h = refl
kept_label (Kept.Order o f) w h = refl
kept_label Kept.Later w h = refl

free_label : (k : Kept) (w : List ℕ) → free k ≡ true → Lines.named k w ≡ Lines.Label.label w
free_label Kept.Free w h = refl
free_label (Kept.Register a) w h = absurd (false≢true h)
free_label (Kept.Order o f) w h = absurd (false≢true h)
free_label Kept.Later w h = absurd (false≢true h)

-- a word at the start of a line of the script, by the token after it
module _ (l : List ℕ) (t : Token) (from to : ℕ) (second : Token) (e : tokens l ≡ shown l t) (h : Inside l t) (f : t ≡ Token.Word from to) (g : tokens (drop to l) ≡ shown l second) where
  word_alone : label_of (Tokens.Token.word (part l from to) ∷ shown l second) ≡ Lines.Label.none → Starts l None (Token.Word from to)
  word_alone k = starts_alone l (Token.Word from to) (rw f at e) (rw f at h) (rw g k)

  pub starts_no_mark : marks label_mark second ≡ None → Starts l None (Token.Word from to)
  unfolding label_of
  starts_no_mark k = word_alone (rw (not_marked label_mark l second k, label_of))

  pub starts_kept : (after : ℕ) → marks label_mark second ≡ Some after → is_name (part l from to) ≡ false → Starts l None (Token.Word from to)
  unfolding label_of
  starts_kept after k n = word_alone (rw ((marked_at label_mark after l second k).0, label_of) (kept_label (kept_as (part l from to)) (part l from to) n))

  pub starts_labelled : (after : ℕ) (body : Token) → marks label_mark second ≡ Some after → is_name (part l from to) ≡ true
      → tokens (drop after l) ≡ shown l body → Inside l body → Starts l (Some (from, to)) body
  unfolding label_of
  starts_labelled after body k n b i =
      let m = marked_at label_mark after l second k in
      let a : label_of (tokens l) ≡ Lines.Label.label (part l from to) =
      rw (e, f, g) (rw (m.0, label_of) (free_label (kept_as (part l from to)) (part l from to) n)) in
      record { labelled = a; follows = rw (a, e, f, g, m.1.0) b; label_inside = rw f at h; body_inside = i }
