-- An open stack that the note calls: where an alternative is entered over it, along the machine's moves from there on, and so where the next nonterminal waits.
use mathlib.Core.Path.{◌≡◌, refl, ◌∙◌}
use mathlib.Core.Option.{some}
use mathlib.Core.List.{List, [], ◌∷◌}
use Prim.Native.Nat.{ℕ, suc}
use Rattle.grammar.specs.Limits.{end_place}
use Rattle.grammar.specs.Grammar.{first}
use Rattle.grammar.specs.inside.Tables.{grammar_in}
use Rattle.derivation.specs.Runs.{marked}
use Rattle.derivation.specs.inside.Frames.{returns_of}
use Rattle.derivation.specs.inside.Steps.{Step}
use Rattle.derivation.specs.inside.Ready.{Ready}
use Rattle.derivation.proofs.ReadyLaws.{ready-ordered}
use Rattle.filtering.specs.inside.OpenStacks.{Standing}
use Rattle.filtering.proofs.StackLaws.{stands-start, stands-step}
use Rattle.filtering.proofs.PathLaws.{reached-start, reached-step}
use Rattle.filtering.proofs.FrameLaws.{standing-pop, standing-match}
use Rattle.machine.specs.inside.Space.{ground, opened}
use Rattle.machine.specs.inside.Moves.{MovesOn, stay, popped, matched, ToCall}
use Rattle.serving.specs.inside.Aids.{Upright, begins, called}

no-returns : (ws : List ℕ) (base d : ℕ) → d ≡ 0 → returns_of ws base d ≡ []
unfolding returns_of
no-returns ws base d e = rw e refl

-- a reading begins so
pub upright-begins : (t w ws : List ℕ) → Upright t w ws 0 end_place 0 0
upright-begins t w ws = begins refl refl refl refl

module _ (t : List ℕ) (h : Ready t) (w : List ℕ) where
  -- moves that need no choice keep it
  moves-standing : {ws : List ℕ} {base p₀ d₀ i₀ p d i : ℕ} → MovesOn (grammar_in t) (marked w) ws base p₀ d₀ i₀ p d i
      → Standing (grammar_in t) (marked w) ws base d₀ p₀ i₀ → Standing (grammar_in t) (marked w) ws base d p i
  moves-standing stay x = x
  moves-standing {ws} {base} (popped {p = p} {d = d} {i = i} m e) x =
      standing-pop (grammar_in t) (ready-ordered t h) (marked w) base ws d p i e (moves-standing m x)
  moves-standing {ws} {base} (matched {p = p} {d = d} {i = i} {k = k} {u = u} m e f a) x =
      standing-match (grammar_in t) (ready-ordered t h) (marked w) base ws d p k u i e f a (moves-standing m x)

  -- alternative b of a, which waits, is entered at its first place f
  upright-picks : {ws after : List ℕ} {d q a i : ℕ} (b f : ℕ) → returns_of after (ground t w) (suc d) ≡ opened t w ws d q
      → first (grammar_in t) a b ≡ some f → Upright t w ws d q a i → Standing (grammar_in t) (marked w) after (ground t w) (suc d) f i
  upright-picks {ws} {after} {d} {q} {a} {i} b f e m (begins z y x v) =
      let s : returns_of after (ground t w) (suc d) ≡ end_place ∷ [] = e ∙ rw (y, no-returns ws (ground t w) d z) refl in
      let n : first (grammar_in t) 0 b ≡ some f = rw (← x) m in
      record {
        stands = rw s (stands-start (ready-ordered t h) b f n);
        reached = rw (s, v) (reached-start (grammar_in t) (marked w) b f n);
      }
  upright-picks {ws} {after} {d} {q} {a} {i} b f e m (called p y c x) =
      let s : returns_of after (ground t w) (suc d) ≡ suc p ∷ returns_of ws (ground t w) d = e ∙ rw y refl in
      let S : List ℕ = returns_of ws (ground t w) d in
      let z : Step (grammar_in t) (marked w) (p ∷ S) i (f ∷ suc p ∷ S) i = Step.picked b c m in
      record {
        stands = rw s (stands-step (ready-ordered t h) x.stands z);
        reached = rw s (reached-step (grammar_in t) (marked w) x.stands x.reached z);
      }

  -- so it stands where the moves from there lead to a call
  pub upright-again : {ws after : List ℕ} {d q a i d' q' a' i' : ℕ} (b f : ℕ) → returns_of after (ground t w) (suc d) ≡ opened t w ws d q
      → first (grammar_in t) a b ≡ some f → Upright t w ws d q a i
      → ToCall (grammar_in t) (marked w) after (ground t w) f (suc d) i q' d' i' a' → Upright t w after d' q' a' i'
  upright-again b f e m x to = called to.place to.behind to.faces (moves-standing to.moves (upright-picks b f e m x))
