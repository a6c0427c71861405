-- The page's example, one small text for each kind of refusal, and small lists printed, as one statement. Assumes nothing.
use Rattle.std.specs.Prelude.{Err, Ok, Result}
use mathlib.Core.Path.{◌≡◌, refl}
use mathlib.Core.List.{[], ◌∷◌}
use Prim.Native.Nat.{ℕ}
use Prim.Native.String.{String}
use Rattle.paper.specs.Runner.{decimal as in_digits}
use Rattle.grammar.specs.Tokens.{bytes, lines, first_line, tokens_on, tokens, same}
use Rattle.grammar.specs.Kept.{kept_words, kept_in, kept_as}
use Rattle.grammar.specs.Sums.{find, decimal, sum, product, term, sum_of}
use Rattle.grammar.specs.Lines.{names_line, label_of, size_of, register, given}
use Rattle.grammar.specs.Texts.{names_given, names_fault, labels_given, script_fault, script_words, last_line, program, judged, stored}
use Rattle.grammar.specs.Printing.{named_in, named_as, printed, measured, printing, inscribed}
use Rattle.grammar.specs.declared.Line.{Line}
use Rattle.grammar.specs.declared.Refusal.{Refusal}
use Rattle.grammar.specs.declared.Text.{Text}

-- the page's example
abbrev names : String
names = "size = 4\nlast = size * (2 + 3) - 1\n"

abbrev script : String
script = "loop: input\n      store r3 r4\n      load r5 last\n      compare r3 r5\n      jumplt loop\ntable: size\n      loop + 2\n"

-- what two texts come to, for a target of a thousand words
abbrev comes : String → String → Result ℕ (Refusal × Line)
comes n s = judged (bytes n) (bytes s) 1000

-- a refusal that names a line of the names, and one that names a line of the script
abbrev in_names : Refusal → ℕ → ℕ → Result ℕ (Refusal × Line)
in_names r from count = Err (r, record { text = Text.Names; from = from; count = count })

abbrev in_script : Refusal → ℕ → ℕ → Result ℕ (Refusal × Line)
in_script r from count = Err (r, record { text = Text.Script; from = from; count = count })

pub record Examples : Type 0 where
  -- the page's nine words, with room for just them; with room for eight, 16 names the last line
  pub words : program (bytes names) (bytes script) ≡ (4656 ∷ 1076 ∷ 336 ∷ 19 ∷ 3381 ∷ 3856 ∷ 0 ∷ 4 ∷ 2 ∷ [])
  pub fits : judged (bytes names) (bytes script) 9 ≡ Ok 9
  pub no_room : judged (bytes names) (bytes script) 8 ≡ in_script Refusal.NoRoom 99 14
  -- 13: an operand that is missing; eight brackets are taken and a ninth is not; a capital; a kept word as a name; an order of a later edition; a lone `:`
  pub no_operand : comes "" "load r5" ≡ in_script Refusal.OutsideGrammar 0 7
  pub eight : comes "" "((((((((1))))))))" ≡ Ok 1
  pub nine : comes "" "(((((((((1)))))))))" ≡ in_script Refusal.OutsideGrammar 0 19
  pub capital : comes "" "1\nA" ≡ in_script Refusal.OutsideGrammar 2 1
  pub kept : comes "r1 = 2" "" ≡ in_names Refusal.OutsideGrammar 0 6
  pub later : comes "" "finish" ≡ in_script Refusal.OutsideGrammar 0 6
  -- 14: a name that is given nowhere, or on its own line alone; a label that is a name too; of two equal labels the later
  pub missing : comes "" "jump loop" ≡ in_script Refusal.NameFault 0 9
  pub own_line : comes "a = a" "" ≡ in_names Refusal.NameFault 0 5
  pub name_and_label : comes "a = 1" "a: 2" ≡ in_script Refusal.NameFault 0 4
  pub twice : comes "" "a:\na:\na:" ≡ in_script Refusal.NameFault 3 2
  -- 15: a partial result past the range or below 0, though the whole lies in it; a number past the range
  pub past : comes "" "65535 * 2 * 0" ≡ in_script Refusal.OutOfRange 0 13
  pub not_past : comes "" "0 * 2 * 65535" ≡ Ok 1
  pub below : comes "" "1 - 2 + 1" ≡ in_script Refusal.OutOfRange 0 9
  pub number : comes "a = 65536 ; nobody uses it" "" ≡ in_names Refusal.OutOfRange 0 26
  -- 13 in the script goes before 14 in the names, 14 before 15
  pub first_13 : comes "a = b" "1\n(" ≡ in_script Refusal.OutsideGrammar 2 1
  pub first_14 : comes "a = 65536" "b" ≡ in_script Refusal.NameFault 0 1
  -- empty texts, blank lines and comments give no words; a label may stand alone and be used before its line
  pub nothing : judged [] [] 0 ≡ Ok 0
  pub blank : comes "\n ; =\n" "\n\t;\n" ≡ Ok 0
  pub forward : program [] (bytes "jump on\n5\non:") ≡ (3584 ∷ 3 ∷ 5 ∷ [])
  -- a refusal alters no word of the target, and words past the answer stay
  pub unaltered : stored (comes "" "1\n(") (program [] (bytes "1\n(")) (7 ∷ 8 ∷ []) ≡ (7 ∷ 8 ∷ [])
  pub words_past : stored (comes "" "1") (program [] (bytes "1")) (7 ∷ 8 ∷ []) ≡ (1 ∷ 8 ∷ [])
  -- the page's nine words, printed; an order of each kind of operands
  pub page : printed (4656 ∷ 1076 ∷ 336 ∷ 19 ∷ 3381 ∷ 3856 ∷ 0 ∷ 4 ∷ 2 ∷ []) ≡ bytes "input\nstore r3 r4\nload r5 19\ncompare r3 r5\njumplt 0\n4\n2\n"
  pub orders : printed (4096 ∷ 65535 ∷ 4352 ∷ 375 ∷ 368 ∷ 10 ∷ []) ≡ bytes "call 65535\nreturn\n375\nload r7 10\n"
  -- numbers: a register 8, a field that is not used, condition 3, an unknown op, services 0 and 5
  pub register_8 : printed (640 ∷ 520 ∷ []) ≡ bytes "640\n520\n"
  pub unused : printed (257 ∷ 3585 ∷ 3600 ∷ 4353 ∷ 4625 ∷ []) ≡ bytes "257\n3585\n3600\n4353\n4625\n"
  pub unknown : printed (3888 ∷ 0 ∷ 4864 ∷ 65535 ∷ 4608 ∷ 4688 ∷ []) ≡ bytes "3888\n0\n4864\n65535\n4608\n4688\n"
  -- a lone first word; a second word that would be an order by itself; no words
  pub lone : printed (4352 ∷ 3584 ∷ []) ≡ bytes "return\n3584\n"
  pub second : printed (3584 ∷ 4352 ∷ []) ≡ bytes "jump 4352\n"
  pub no_words : printed [] ≡ []
  -- how many bytes it needs; a buffer that just fits, one that is a byte short, and the bytes past the text
  pub needs : measured (4352 ∷ 7 ∷ []) ≡ Ok 9
  pub fits_buffer : printing (4352 ∷ 7 ∷ []) 9 ≡ Ok 9
  pub short : printing (4352 ∷ 7 ∷ []) 8 ≡ Err Refusal.NoRoom
  pub none_altered : inscribed (printing (7 ∷ []) 1) (printed (7 ∷ [])) (1 ∷ []) ≡ (1 ∷ [])
  pub bytes_past : inscribed (printing (7 ∷ []) 3) (printed (7 ∷ [])) (1 ∷ 2 ∷ 3 ∷ []) ≡ (55 ∷ 10 ∷ 3 ∷ [])

pub examples : Examples
unfolding bytes lines first_line tokens_on tokens same kept_words kept_in kept_as find decimal sum product term sum_of names_line label_of size_of register given names_given names_fault labels_given script_fault script_words last_line program judged named_in named_as printed measured printing in_digits
examples =
    record {
      words = refl;
      fits = refl;
      no_room = refl;
      no_operand = refl;
      eight = refl;
      nine = refl;
      capital = refl;
      kept = refl;
      later = refl;
      missing = refl;
      own_line = refl;
      name_and_label = refl;
      twice = refl;
      past = refl;
      not_past = refl;
      below = refl;
      number = refl;
      first_13 = refl;
      first_14 = refl;
      nothing = refl;
      blank = refl;
      forward = refl;
      unaltered = refl;
      words_past = refl;
      page = refl;
      orders = refl;
      register_8 = refl;
      unused = refl;
      unknown = refl;
      lone = refl;
      second = refl;
      no_words = refl;
      needs = refl;
      fits_buffer = refl;
      short = refl;
      none_altered = refl;
      bytes_past = refl;
    }
