-- What the rest of a `let .. else` says: the token is no word, the word is no register. Assumes nothing.
use mathlib.Core.Path.{◌≡◌, refl}
use mathlib.Core.Bool.{false}
use Prim.Native.Nat.{ℕ}
use Rattle.grammar.specs.declared.Kept.{Kept}
use Rattle.tokens.specs.declared.Token.{Token}
use Rattle.phrases.proofs.Phrases.{is_word, is_register}

pub not_word : (t : Token) → ((from to : ℕ) → t ≡ Token.Word from to → ⊥) → is_word t ≡ false
not_word Token.End h = refl
not_word (Token.Number from to) h = refl
not_word (Token.Word from to) h = absurd (h from to refl)
not_word (Token.Mark b to) h = refl
not_word (Token.Stray to) h = refl

pub not_register : (k : Kept) → ((a : ℕ) → k ≡ Kept.Register a → ⊥) → is_register k ≡ false
not_register Kept.Free h = refl
not_register (Kept.Register a) h = absurd (h a refl)
not_register (Kept.Order o f) h = refl
not_register Kept.Later h = refl
