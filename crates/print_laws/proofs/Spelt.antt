-- Each word passes the test of how it is spelt. Assumes nothing.
use Rattle.std.specs.Prelude.{◌≡◌, refl, true, ℕ}
use Rattle.paper.specs.Runner.{decimal}
use Rattle.grammar.specs.Tokens.{bytes, same, tokens_on, tokens}
use Rattle.grammar.specs.Kept.{kept_words, kept_in, kept_as}
use Rattle.grammar.specs.Lines.{label_of, register, given}
use Rattle.grammar.specs.Printing.{named_in, named_as, spelling}
use Rattle.print_laws.specs.Spelt.{passes}
use Rattle.print_laws.proofs.Sweep.{swept}

-- one computed test: each word passes as it is spelt
pub passed : (w : ℕ) → passes w (spelling (named_as w) w) ≡ true
unfolding decimal bytes same tokens_on tokens kept_words kept_in kept_as label_of register given named_in named_as
passed w = swept (λ v n. passes v (spelling n v)) refl (λ v l. refl) w
