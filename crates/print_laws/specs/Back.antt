-- A printed text gives the words that were printed, line by line. Assumes nothing.
use Rattle.std.specs.Prelude.{◌≡◌, refl, true, List, [], ◌∷◌, ◌++◌, ℕ, ◌+◌, ◌*◌, ◌<◌, ◌≤◌, length, None, Ok, Option, Some}
use Rattle.std.proofs.Common.{ap, sym, subst, ◌∙◌, arith, length-append}
use Rattle.paper.specs.Runner.{decimal, newline}
use Rattle.laws.specs.Decimal.{decimal_short}
use Rattle.grammar.specs.Tokens.{lines, tokens}
use Rattle.grammar.specs.Sums.{end_of_range}
use Rattle.grammar.specs.Lines.{after, size_of, given, line_words}
use Rattle.grammar.specs.Texts.{lower, given_flaw, label_gives, label_flaw, labels_given, script_words, next}
use Rattle.grammar.specs.Printing.{Spelling, line_alone, line_of_two, number_text}
use Rattle.grammar.specs.declared.Given.{Given}
use Rattle.text_laws.specs.Lined.{script_lines, Clean}
use Rattle.print_laws.specs.Spelt.{Line, passes, line_first, number_line, one_line, two_line}

-- a text that gives words: no label, nothing wrong with any line, the words, and at most 16 bytes for each
pub record Spells (text ws : List ℕ) : Type 0 where
  pub labels : (p : ℕ) → labels_given [] p (lines text) ≡ []
  pub clean : (p at : ℕ) → Clean (script_lines [] [] p at (lines text))
  pub words : script_words [] (lines text) ≡ ws
  pub short : length text ≤ 16 * length ws

pub nothing_spells : Spells [] []
unfolding lines labels_given script_lines script_words
nothing_spells = record { labels = λ p. refl; clean = λ p at. tt; words = refl; short = omega arith }

-- one more line in front
line_spells : (l t ws : List ℕ) (g : Option Given) → Line l g → given_flaw g ≡ None → length l + 1 ≤ 16 * length (line_words g) → Spells t ws
    → Spells (l ++ (newline ++ t)) (line_words g ++ ws)
unfolding labels_given script_lines script_words
line_spells l t ws g h fine few s =
    let first = line_first l t h.whole in
    record {
      labels = λ p. ap (λ ls. labels_given [] p ls) first ∙ ap (λ x. labels_given (label_gives [] p x) (p + size_of (after x (tokens l))) (lines t)) h.bare ∙ s.labels (p + size_of (tokens l));
      clean = λ p at. subst (λ ls. Clean (script_lines [] [] p at ls)) (sym first) (
        ap (λ x. lower (label_flaw [] x) (given_flaw (given [] (after x (tokens l))))) h.bare ∙ ap given_flaw h.gives ∙ fine,
        subst (λ x. Clean (script_lines [] (label_gives [] p x) (p + size_of (after x (tokens l))) (next at l) (lines t))) (sym h.bare) (s.clean (p + size_of (tokens l)) (next at l)),
      );
      words = ap (λ ls. script_words [] ls) first ∙ ap (λ x. line_words (given [] (after x (tokens l))) ++ script_words [] (lines t)) h.bare ∙ rw (h.gives, s.words);
      short = rw (length-append l (newline ++ t), length-append (line_words g) ws) (omega (arith, s.short));
    }

-- a word in front of another: `later` is the text from the other on, `past` the text past it
abbrev pub whole_of : Spelling → ℕ → ℕ → List ℕ → List ℕ → List ℕ
whole_of s w n later past =
    elim s [
      | Spelling.plain ↦ decimal w ++ (newline ++ later)
      | Spelling.one l ↦ l ++ (newline ++ later)
      | Spelling.two l ↦ line_of_two l n ++ (newline ++ past)
    ]

module _ (w : ℕ) (small : w < end_of_range) where
  plain_spells : (t ws : List ℕ) → Spells t ws → Spells (decimal w ++ (newline ++ t)) (w ∷ ws)
  plain_spells t ws h =
      line_spells (decimal w) t ws (Some (Given.One (Ok w))) (number_line w small) refl (omega (arith, decimal_short 4 w (omega arith))) h

  one_spells : (l t ws : List ℕ) → passes w (Spelling.one l) ≡ true → Spells t ws → Spells (l ++ (newline ++ t)) (w ∷ ws)
  one_spells l t ws e h = let x = one_line w l e in line_spells l t ws (Some (Given.One (Ok w))) x.0 refl (omega (arith, x.1)) h

  pub last_spells : (s : Spelling) → passes w s ≡ true → Spells (line_alone s w ++ newline) (w ∷ [])
  last_spells Spelling.plain e = plain_spells [] [] nothing_spells
  last_spells (Spelling.one l) e = one_spells l [] [] e nothing_spells
  last_spells (Spelling.two l) e = plain_spells [] [] nothing_spells

  pub first_spells : (s : Spelling) (n : ℕ) (later past ws : List ℕ) → passes w s ≡ true → n < end_of_range → Spells later (n ∷ ws) → Spells past ws
      → Spells (whole_of s w n later past) (w ∷ n ∷ ws)
  first_spells Spelling.plain n later past ws e r h g = plain_spells later (n ∷ ws) h
  first_spells (Spelling.one l) n later past ws e r h g = one_spells l later (n ∷ ws) e h
  first_spells (Spelling.two l) n later past ws e r h g =
      let x = two_line w n l e r in
      let long : length (l ++ number_text n) + 1 ≤ 32 = rw (length-append l (number_text n)) (omega (arith, x.1, decimal_short 4 n (omega arith))) in
      line_spells (l ++ number_text n) past ws (Some (Given.Two w (Ok n))) x.0 refl (omega arith) g
