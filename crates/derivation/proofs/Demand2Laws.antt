-- DEMAND 2: by sound rules, for at most 128 known tokens and in enough working space, the plain reading answers what the textbook says. The reading is
-- by the table of places; the table holds the syntax that the rules say, so what is proved of it is true of them.
use mathlib.Core.Path.{◌≡◌, refl, subst}
use mathlib.Core.Bool.{Bool, true, false, cond}
use mathlib.Core.List.{List}
use Prim.Native.Nat.{ℕ, ◌≤◌}
use lib.ListN.{length}
use Rattle.base.proofs.Booleans.{true→T, false→¬T}
use Rattle.grammar.specs.Decode.{Rules, Mark, got, decode}
use Rattle.grammar.specs.Grammar.{Grammar, size_all, compile, Limited, of_places}
use Rattle.grammar.specs.Derivation.{Syntax, of_rules}
use Rattle.grammar.specs.inside.Ordered.{Ordered}
use Rattle.grammar.proofs.CompileLaws.{same-syntax}
use Rattle.grammar.proofs.OrderedLaws.{compile-ordered}
use Rattle.reader.proofs.ReadLaws.{decode-limited}
use Rattle.soundness.specs.Verdicts.{IsSound}
use Rattle.soundness.proofs.CheckLaws.{check_sound}
use Rattle.derivation.specs.Runs.{marked}
use Rattle.derivation.specs.Machine.{plainly, Conclusion, accepted, stuck, full, Ended, reading}
use Rattle.derivation.specs.inside.Choosers.{Anywhere, Anyone, AnyState, anywhere}
use Rattle.derivation.specs.Viable.{Sentence, WrongAt}
use Rattle.derivation.specs.ReachRounds.{wrong_place}
use Rattle.derivation.specs.Space.{max_tokens, space_words}
use Rattle.derivation.specs.Plain.{clear, sentence?, on_conclusion, read_note, plain_reading}
use Rattle.derivation.specs.Demand2.{Known, RightAnswer}
use Rattle.derivation.proofs.GateLaws.{gate-sound, note-passes}
use Rattle.derivation.proofs.LowestLaws.{lowest-right}
use Rattle.derivation.proofs.ReadingLaws.{reading-sound, reading-live}
use Rattle.derivation.proofs.WholeChosen.{reading-chosen, reading-crams}
use Rattle.derivation.proofs.ChosenExists.{chosen-exists}
use Rattle.derivation.proofs.WrongPlace.{wrong-place}
use Rattle.derivation.proofs.SoundGrammar.{sound-straight, sound-rich, sound-first}
use Rattle.derivation.proofs.SentenceTest.{sentence-iff}
use Rattle.derivation.proofs.Demand2Iff.{OneOfThree, fits, exceeds, wrong, three-right}

module _ (r : Rules) (limits : Limited r) (sound : IsSound r) where
  ordered : Ordered (compile r)
  ordered = compile-ordered r limits

  goes-wrong : (w : List ℕ) → ¬ Sentence (of_places (compile r)) w → WrongAt (of_places (compile r)) w (wrong_place (compile r) w)
  goes-wrong w n = let (b, f, q) = sound-first r limits sound in wrong-place (compile r) w (sound-rich r limits sound) b q n

  -- the reading itself
  read_right : (w row : List ℕ) → OneOfThree (of_places (compile r)) w row (read_note (compile r) w row)
  unfolding read_note on_conclusion
  read_right w row = go read.outcome refl
    where
      g : Grammar
      g = compile r

      read : Ended (Unit {0})
      read = reading g (marked w) (plainly g (marked w)) (length row) tt

      by-test : read.outcome ≡ full → (b : Bool) → sentence? g w ≡ b → OneOfThree (of_places g) w row (cond b (clear 14 0 row) (clear 10 (wrong_place g w) row))
      by-test q true t =
          let x = (sentence-iff g ordered.marked_end ordered.end-past w).0 (true→T (sentence? g w) t) in
          let (d, c) = chosen-exists r limits (sound-straight r limits sound) w x in
          exceeds d c (reading-crams g ordered w (length row) tt d q c)
      by-test q false t =
          wrong (wrong_place g w) (goes-wrong w (λ x. false→¬T (sentence? g w) t ((sentence-iff g ordered.marked_end ordered.end-past w).1 x)))

      go : (o : Conclusion) → read.outcome ≡ o → OneOfThree (of_places g) w row (on_conclusion g w row o)
      go (accepted d) q =
          fits d (reading-chosen g ordered w (length row) tt d q)
          (reading-sound g ordered.marked_end ordered.end-past w (plainly g (marked w)) (length row) tt d q).1
      go stuck q =
          wrong (wrong_place g w)
          (goes-wrong w (λ x. reading-live g ordered.marked_end ordered.end-past w (plainly g (marked w)) AnyState Anywhere Anyone (anywhere g)
          (lowest-right g (marked w) Anyone) tt (length row) tt tt x q))
      go full q = by-test q (sentence? g w) refl

-- THE PLAIN READING IS RIGHT
pub plain-right : (s : List ℕ) (r : Rules) (m : Mark) → decode s ≡ got r m → IsSound r → (w row : List ℕ) (space : ℕ)
    → length w ≤ max_tokens → Known r.kinds w → space_words (size_all r.productions) (length w) ≤ space
    → RightAnswer (of_rules r) w row (plain_reading s w row space)
unfolding plain_reading compile
plain-right s r m e sound w row space few tokens room =
    let limits = decode-limited s r m e in
    rw (gate-sound s w space r m e ((check_sound s r m e).1 sound), note-passes (compile r) w space few tokens room)
    (three-right (subst (λ (g : Syntax). OneOfThree g w row (read_note (compile r) w row)) (same-syntax r limits) (read_right r limits sound w row)))
