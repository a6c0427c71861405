-- Request 3, a program printed back: printed and translated, a list of words comes again, and no other list has its text.
-- Of whatever any program may do that keeps the promises of the public calls: the records Prints, MeasuresText and Translates (crates/grammar/specs/Promises.antt). All of it is proved, in proofs/Proved.antt, and nothing is assumed.
use Rattle.std.specs.Prelude.{◌≡◌, List, [], ◌++◌, ◌↔◌, ℕ, ◌*◌, ◌<◌, ◌≤◌, length, get_or, take, drop, Err, Ok, Result}
use Rattle.grammar.specs.Texts.{program, judged}
use Rattle.grammar.specs.Printing.{printed, most_printed}
use Rattle.grammar.specs.Promises.{Translates, Prints, MeasuresText}
use Rattle.grammar.specs.declared.Refusal.{Refusal}
use Rattle.grammar.specs.declared.Text.{Text}

-- a list of words: numbers of 0 to 65535
abbrev pub Words : List ℕ → Type 0
Words ws = (k : ℕ) → k < length ws → get_or ws k 0 < 65536

pub record Request3 : Type 0 where
  -- the text of a list gives the list again, and is accepted by every target that has room for it
  pub printed_back : (ws : List ℕ) → Words ws → program [] (printed ws) ≡ ws
  pub accepted_back : (ws : List ℕ) → Words ws → (room : ℕ) → length ws ≤ room → judged [] (printed ws) room ≡ Ok (length ws)
  -- two lists have the same text exactly where they are the same
  pub same_text : (ws vs : List ℕ) → Words ws → Words vs → (printed ws ≡ printed vs) ↔ (ws ≡ vs)
  -- what a print leaves, translated, stores the list at the start of the target and alters nothing past it
  pub translated_back : (ws buffer after target target' : List ℕ) (n : ℕ) (r : Result ℕ (Refusal × Text)) → Words ws → Prints ws buffer (Ok n) after
      → Translates [] (take n after) target r target' → length ws ≤ length target
      → (r ≡ Ok (length ws)) × (target' ≡ ws ++ drop (length ws) target)
  -- two prints leave the same text exactly where their lists are the same
  pub same_prints : (ws vs buffer buffer' after after' : List ℕ) (n m : ℕ) → Words ws → Words vs
      → Prints ws buffer (Ok n) after → Prints vs buffer' (Ok m) after'
      → (take n after ≡ take m after') ↔ (ws ≡ vs)
  -- a print is accepted exactly where the list is not too long and its text fits the buffer; the answer is the text's length, and a refusal is 16
  pub accepted_print : (ws buffer after : List ℕ) (a : Result ℕ Refusal) → Prints ws buffer a after
      → (a ≡ Ok (length (printed ws))) ↔ ((length ws ≤ most_printed) × (length (printed ws) ≤ length buffer))
  pub refused_print : (ws buffer after : List ℕ) (a : Result ℕ Refusal) → Prints ws buffer a after
      → (a ≡ Err Refusal.NoRoom) ↔ ((length ws ≤ most_printed) × (length (printed ws) ≤ length buffer) → ⊥)
  -- a buffer of as many bytes as were measured is enough, and 16 bytes for each word always are
  pub measured_enough : (ws buffer after : List ℕ) (n : ℕ) (a : Result ℕ Refusal) → MeasuresText ws (Ok n) → n ≤ length buffer → Prints ws buffer a after → a ≡ Ok n
  pub measured_few : (ws : List ℕ) (n : ℕ) → Words ws → MeasuresText ws (Ok n) → n ≤ 16 * length ws
