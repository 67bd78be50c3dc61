-- `search::words::fits` meets its contract: the two numbers stand in words of 16 bits, so nothing overflows.
use native.Mathlib.Numerals.{add-one}
use native.Mathlib.Omega.{arith}
use Rattle.grammar.specs.inside.Tables.{grammar_in, nonterminals_at, size_at}
use Rattle.search.proofs.words.fits.Goals as goal

pub overflow_mul-result : goal.overflow_mul-result
overflow_mul-result c = omega (arith, c.nonterminals.ensures, (c.shared_slice_known-1.given nonterminals_at).fits)

pub overflow_add-result : goal.overflow_add-result
overflow_add-result c = omega (arith, c.nonterminals.ensures, (c.shared_slice_known-1.given nonterminals_at).fits)

pub overflow_mul-result-2 : goal.overflow_mul-result-2
unfolding grammar_in
overflow_mul-result-2 c = omega (arith, c.size.ensures, (c.shared_slice_known-1.given size_at).fits)

pub returns : goal.returns
returns c = rw (c.size.ensures, c.nonterminals.ensures, add-one)
