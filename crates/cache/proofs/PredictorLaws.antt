-- The lookahead cache is a predictor: over coherent words its predictions agree with every derivation, only add, and say the same again.
use mathlib.Core.List.Memᴰ
use mathlib.Core.List.{List, [], ◌∷◌}
use Prim.Native.Nat.{ℕ, zero, suc, ◌<◌}
use lib.ListN.{length, drop}
use Rattle.grammar.specs.Grammar.{Grammar}
use Rattle.grammar.specs.inside.Ordered.{Ordered}
use Rattle.lookahead.specs.Configs.{In}
use Rattle.lookahead.proofs.Following.{Valid}
use Rattle.lookahead.proofs.Agreeing.{Marked}
use Rattle.cache.specs.Predictor.{Predictor}
use Rattle.cache.specs.Predict.{predict}
use Rattle.cache.specs.Coherent.{Coherent, Extends}
use Rattle.cache.proofs.SuitLaws.{Suits}
use Rattle.cache.proofs.PredictLaws.{Tokens, predict-grows, predict-agrees, predict-again}

-- what is left of a note
pub in-drop : {A : Type 0} {t : A} (i : ℕ) (l : List A) → In t (drop i l) → In t l
in-drop zero l m = m
in-drop (suc i) [] m = m
in-drop (suc i) (x ∷ l) m = Memᴰ.tail (in-drop i l m)

-- the open stacks at positions of the note w with its end mark, over which predictions are made
abbrev pub Stands : Grammar → List ℕ → List ℕ → ℕ → Type 0
Stands g w S i = Valid g S × (i < length w)

module _ (g : Grammar) (bytes : List ℕ) (suits : Suits g bytes) (w : List ℕ) (known : Tokens g bytes suits w) where
  left-known : (i : ℕ) → Tokens g bytes suits (drop i w)
  left-known i t m = known t (in-drop i w m)

  pub cache-predicts : (ordered : Ordered g) → Marked g ordered w → Predictor (Coherent g bytes) (Extends g) g w (Stands g w) (predict g)
  cache-predicts ordered marked =
      record {
        agrees = λ c a b f i S h d e v x. predict-agrees g bytes suits ordered b w marked c a f i S h d (left-known i) v.1 e x.1 v.0;
        adds = λ c a i h d. predict-grows g bytes suits c a (drop i w) h d (left-known i);
        again = λ c d a i h z j x. predict-again g bytes suits c d a (drop i w) h z (left-known i) j x;
      }
