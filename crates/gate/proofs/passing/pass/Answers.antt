-- `gate::passing::pass` meets its contract: what the check refuses the gate refuses, and of a sound grammar the tables hold what the bytes say, so the
-- gate of the note decides.
use Rattle.std.proofs.lemmas.Result.{err_from_is_err_and}
use Rattle.derivation.proofs.ReadyLaws.{sound-ready}
use Rattle.gate.proofs.PassingLaws.{refused-gate, sound-gate}
use Rattle.gate.proofs.passing.pass.Goals as goal

pub note_gate-requires : goal.note_gate-requires
note_gate-requires c = sound-ready c.args.grammar.now c.compile.ensures c.in_ok-compile.was

pub returns-in_err-compile : goal.returns-in_err-compile
returns-in_err-compile c =
    let p = err_from_is_err_and c.from_residual.result c.from_residual.ensures.1 in
    rw (p.1, p.2) (refused-gate _ _ _ c.compile.ensures c.in_err-compile.was)

pub returns : goal.returns
returns c = sound-gate _ _ _ c.compile.ensures c.in_ok-compile.was c.note_gate.ensures
