-- The goals of `search::given::Search::along` that are not found.
use mathlib.Core.Bool.{not}
use mathlib.Core.Path.{ap}
use native.Mathlib.Omega.{arith}
use Rattle.grammar.proofs.WordLaws.{facing-of}
use Rattle.derivation.proofs.ReadyLaws.{ready-size}
use Rattle.search.proofs.WayLaws.{along-begin, along-token, along-call, out-end, out-other, out-lacks, out_none, out-several}
use Rattle.search.proofs.given.Search.along.Goals as goal

pub loop-k-init : goal.loop-k-init
loop-k-init c = along-begin _ _ _ _ _ _ c.requires.place c.requires.position

pub place_at-symbol-requires : goal.place_at-symbol-requires
place_at-symbol-requires c = c.requires.searching.given.ready.fits.long

pub overflow_add-p : goal.overflow_add-p
overflow_add-p c = omega (arith, c.loop-k.invariant.place, ready-size _ c.requires.searching.given.ready)

pub returns-in-End : goal.returns-in-End
returns-in-End c = out-end c.requires.searching c.loop-k.invariant (facing-of _ _ c.place_at-symbol.ensures c.in-End.is)

pub returns-then-not-matches : goal.returns-then-not-matches
returns-then-not-matches c =
    let faces = facing-of _ _ c.place_at-symbol.ensures c.in-Token.is in
    out-other c.requires.searching c.loop-k.invariant faces c.matches.ensures (ap not c.if-not-matches.true)

pub overflow_add-j : goal.overflow_add-j
overflow_add-j c = omega (arith, c.loop-k.invariant.within, c.requires.searching.given.short)

pub loop-k-preserved-in-Token : goal.loop-k-preserved-in-Token
loop-k-preserved-in-Token c =
    let faces = facing-of _ _ c.place_at-symbol.ensures c.in-Token.is in
    along-token c.requires.searching c.loop-k.invariant faces c.matches.ensures (ap not c.if-not-matches.false)

pub known-requires : goal.known-requires
known-requires c =
    let faces = facing-of _ _ c.place_at-symbol.ensures c.in-Nonterminal.is in
    let s = c.requires.searching in
    record { searching = s; sized = c.requires.sized; pair = (s.given.ready.fits.named _ _ faces, c.loop-k.invariant.within) }

pub returns-in-Unknown : goal.returns-in-Unknown
returns-in-Unknown c =
    let faces = facing-of _ _ c.place_at-symbol.ensures c.in-Nonterminal.is in
    out-lacks c.requires.searching c.loop-k.invariant _ faces c.known.ensures c.in-Unknown.is

pub returns-in-Nowhere : goal.returns-in-Nowhere
returns-in-Nowhere c =
    let faces = facing-of _ _ c.place_at-symbol.ensures c.in-Nonterminal.is in
    out_none c.requires.searching c.loop-k.invariant _ faces c.known.ensures c.in-Nowhere.is

pub returns-in-Several : goal.returns-in-Several
returns-in-Several c =
    let faces = facing-of _ _ c.place_at-symbol.ensures c.in-Nonterminal.is in
    out-several c.requires.searching c.loop-k.invariant _ faces c.known.ensures c.in-Several.is

pub loop-k-preserved : goal.loop-k-preserved
loop-k-preserved c =
    let faces = facing-of _ _ c.place_at-symbol.ensures c.in-Nonterminal.is in
    along-call c.requires.searching c.loop-k.invariant _ faces c.known.ensures c.in-Only.is
