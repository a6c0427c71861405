-- The product of two words fits 32 bits, so nothing is lost before it is taken mod 65536.
use borrow.Author.Rules.{rules}
use Rattle.results.proofs.Words.{product_fits}
use Rattle.results.proofs.product.Goals as goal

pub overflow_mul-x : goal.overflow_mul-x
overflow_mul-x c = record { fits = product_fits _ _ (search rules) (search rules) }
