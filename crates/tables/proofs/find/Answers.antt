-- From each entry that is come to, the chain leads to what is found from the first. The measure is how many entries there are up to it.
use mathlib.Core.Path.{refl, sym, ◌∙◌}
use mathlib.Core.Bool.{false≢true}
use native.Mathlib.Omega.{arith}
use Rattle.std.proofs.lemmas.Slice.Eq.{slice_eq-Decides}
use Rattle.std.proofs.lemmas.Bool.Decides.{Decides-eqb}
use Rattle.tables.proofs.Laws.{entry_stands, entries_are_few, search_finds, search_ends, search_goes_on, search_falls, next_in_range}
use Rattle.tables.proofs.find.Goals as goal

pub loop-k-init : goal.loop-k-init
loop-k-init c = (entries_are_few _ _ c.requires.chained, record { linked = c.requires.links; kept = refl })

pub word_of-entry-requires : goal.word_of-entry-requires
word_of-entry-requires c = entry_stands _ _ _ c.requires.chained c.loop-k-test.true

pub returns-then-eq : goal.returns-then-eq
returns-then-eq c = search_finds _ _ _ _ _ c.loop-k.invariant.1 c.loop-k-test.true (sym c.word_of-entry.ensures ∙ (slice_eq-Decides Decides-eqb _ _ _ c.eq.ensures).0 c.if-eq.true)

pub overflow_cast-k-in-loop-k : goal.overflow_cast-k-in-loop-k
overflow_cast-k-in-loop-k c = omega (arith, next_in_range _ _ _ c.requires.chained c.loop-k-test.true)

pub loop-k-smaller : goal.loop-k-smaller
loop-k-smaller c = search_falls _ _ _ c.requires.chained c.loop-k-test.true

pub loop-k-preserved : goal.loop-k-preserved
loop-k-preserved c = (c.loop-k.invariant.0, search_goes_on _ _ _ _ _ c.requires.chained c.loop-k.invariant.1 c.loop-k-test.true (λ e. false≢true (sym c.if-eq.false ∙ (slice_eq-Decides Decides-eqb _ _ _ c.eq.ensures).1 (c.word_of-entry.ensures ∙ e))))

pub returns : goal.returns
returns c = search_ends _ _ _ _ _ c.loop-k.invariant.1 c.loop-k-test.false
