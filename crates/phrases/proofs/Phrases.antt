-- Laws of Phrases. Assumes nothing.
use mathlib.Core.Bool.{Bool, true, false}
use Rattle.grammar.specs.declared.Kept.{Kept}
use Rattle.tokens.specs.declared.Token.{Token}

-- whether a token is a word, and whether a word is a register
abbrev pub is_word : Token → Bool
is_word Token.End = false
is_word (Token.Number from to) = false
is_word (Token.Word from to) = true
is_word (Token.Mark b to) = false
is_word (Token.Stray to) = false

abbrev pub is_register : Kept → Bool
is_register Kept.Free = false
is_register (Kept.Register a) = true
is_register (Kept.Order o f) = false
is_register Kept.Later = false
