-- Open frames in the working space, and what their sets of positions must say: from where a frame and all below it derive the rest of the note.
use Rattle.std.specs.Prelude.{◌≡◌, Bool, List, ◌∷◌, ℕ, zero, suc, ◌+◌, ◌*◌, ◌<◌, T, get_or, set}
use Rattle.std.proofs.Math.Option.{some}
use Rattle.grammar.specs.Grammar.{Grammar, first}
use Rattle.positions.specs.inside.Positions.{member}
use Rattle.positions.specs.inside.Words.{member_at, put_at}
use Rattle.derivation.specs.Cells.{derives?, runs?}
use Rattle.derivation.specs.inside.Frames.{frame_words, returns_of}

-- position m is in the set of frame k
unfoldable pub frame_has : List ℕ → ℕ → ℕ → ℕ → Bool
frame_has ws base k m = member_at ws (base + frame_words * k + 1) m

-- words with place q and the set s as frame k
unfoldable pub push_of : List ℕ → ℕ → ℕ → ℕ → List ℕ → List ℕ
push_of ws base k q s = put_at (set ws (base + frame_words * k) q) (base + frame_words * k + 1) s

-- which frames' sets stand: every frame's, or those of the lowest n frames
abbrev pub EveryFrame : ℕ → Type 0
EveryFrame k = Unit {0}

abbrev pub FramesBelow : ℕ → ℕ → Type 0
FramesBelow n k = k < n

-- The sets of those of d frames of which K speaks are right for place p at position i over them: wherever p's production can end, the topmost frame's set
-- says whether all frames derive the rest from there; and so on, from there, for the frames below. Elsewhere the sets may say anything: nobody asks them
-- there.
unfoldable pub Good : Grammar → List ℕ → List ℕ → ℕ → (ℕ → Type 0) → ℕ → ℕ → ℕ → Type 0
Good g w ws base K zero p i = Unit {0}
Good g w ws base K (suc d) p i =
    (m : ℕ) → T (derives? g w p i m)
    → (K d → frame_has ws base d m ≡ runs? g w (returns_of ws base (suc d)) m) × Good g w ws base K d (get_or ws (base + frame_words * d) 0) m

-- wherever a production of a that begins at i can end, s says whether place q over the stack S derives the rest from there
unfoldable pub Serving : Grammar → List ℕ → List ℕ → ℕ → ℕ → ℕ → List ℕ → Type 0
Serving g w S q a i s = (b f m : ℕ) → first g a b ≡ some f → T (derives? g w f i m) → member s m ≡ runs? g w (q ∷ S) m
