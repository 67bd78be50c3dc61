-- Where the configurations of starts and steps stand, and those that closing adds.
use mathlib.Core.Path.{◌≡◌, refl, sym, subst}
use mathlib.Core.Logic.{◌⊎◌, inl, inr}
use mathlib.Core.List.Memᴰ
use mathlib.Core.List.{List, [], ◌∷◌}
use Prim.Native.Nat.{ℕ, suc, ◌+◌, ◌≤◌, ◌<◌}
use native.Mathlib.Omega.{arith}
use lib.ListN.{length}
use Rattle.base.proofs.Booleans.{clash}
use Rattle.grammar.specs.declared.Symbol.TheVariants.{Token}
use Rattle.grammar.specs.Limits.{max_productions, end_place}
use Rattle.grammar.specs.Grammar.{Grammar, facing, alternatives}
use Rattle.lookahead.specs.Configs.{Config, config, In, Moves, enter, pop, behind, end, Closes, from, move}
use Rattle.lookahead.specs.Order.{past_end}
use Rattle.lookahead.specs.Outcomes.{numbered, start_configs, onward, step_configs}
use Rattle.lookahead.specs.Rules.{Each}
use Rattle.lookahead.proofs.ListLaws.{in-get}
use Rattle.lookahead.proofs.StepLaws.{step-exact}
use Rattle.lookahead.proofs.Bounds.{Bounded}

-- at a place of a production; or at the end place or past it, and then nothing is to return to
pub data At (g : Grammar) (p : ℕ) (s : List ℕ) : Type 0 where
  inside : p < g.size → At g p s
  last : p ≡ end_place → s ≡ [] → At g p s
  past : p ≡ past_end → s ≡ [] → At g p s

pub record Standing (g : Grammar) (c : Config) : Type 0 where
  pub stands : At g c.place c.stack
  pub least : 1 ≤ c.alternative
  pub most : c.alternative ≤ max_productions
  pub returns : Each (λ (r : ℕ). r < g.size) c.stack

module _ (g : Grammar) (bounded : Bounded g) where
  -- ---- closing
  moved : {c d : Config} → Standing g c → Moves g c d → Standing g d
  moved {c} s (enter {a = a} {f = f} b e q) =
      record { stands = inside (bounded.begins a b f q); least = s.least; most = s.most; returns = λ r m. pick r (Memᴰ.cases_cons m) }
    where
      pick : (r : ℕ) → (r ≡ suc c.place) ⊎ In r c.stack → r < g.size
      pick r (inl z) = let h = bounded.goes_on c.place (bounded.calls c.place a e) (λ x. clash (cc)) in omega arith
      pick r (inr m) = s.returns r m
  moved {c} s (pop {r = r} {s = t} e q) =
      record {
        stands = inside (s.returns r (subst (In r) (sym q) (Memᴰ.head refl)));
        least = s.least;
        most = s.most;
        returns = λ x m. s.returns x (subst (In x) (sym q) (Memᴰ.tail m));
      }
  moved {c} s (behind {q = q} e z f) =
      record {
        stands = inside (bounded.goes_on q (bounded.calls q _ f) (λ x. clash (cc)));
        least = s.least;
        most = s.most;
        returns =
            λ x m. absurd (Memᴰ.not-nil m);
      }
  moved {c} s (end e z o) = record { stands = last refl refl; least = s.least; most = s.most; returns = λ x m. absurd (Memᴰ.not-nil m) }

  pub closes-standing : {start : List Config} → Each (Standing g) start → {c : Config} → Closes g start c → Standing g c
  closes-standing h (from {c = c} m) = h c m
  closes-standing h (move r m) = moved (closes-standing h r) m

  -- ---- starts
  numbered-standing : (l : List ℕ) (b : ℕ) → 1 ≤ b → b + length l ≤ suc max_productions → Each (λ (f : ℕ). f < g.size) l
      → Each (Standing g) (numbered b l)
  unfolding numbered
  numbered-standing [] b h k i c m = absurd (Memᴰ.not-nil m)
  numbered-standing (f ∷ l) b h k i c m =
      pick (Memᴰ.cases_cons m) (numbered-standing l (suc b) (omega arith) (omega arith) (λ x n. i x (Memᴰ.tail n)))
    where
      pick : (c ≡ config f b []) ⊎ In c (numbered (suc b) l) → Each (Standing g) (numbered (suc b) l) → Standing g c
      pick (inl e) rec =
          let here : Standing g (config f b []) =
          record { stands = inside (i f (Memᴰ.head refl)); least = h; most = omega arith; returns = λ x n. absurd (Memᴰ.not-nil n) } in
          subst (Standing g) (sym e) here
      pick (inr n) rec = rec c n

  pub start-standing : (a : ℕ) → Each (Standing g) (start_configs g a)
  unfolding start_configs
  start-standing a = numbered-standing (alternatives g a) 1 (omega arith) (omega (arith, bounded.few a))
      (λ f m. let t = in-get m in bounded.begins a (suc t.0) f t.1)

  -- ---- steps
  pub onward-standing : (c : Config) (k : ℕ) → Standing g c → facing g c.place ≡ Token k → Standing g (onward c)
  onward-standing c k s e = record { stands = go s.stands (bounded.tokens c.place k e); least = s.least; most = s.most; returns = s.returns }
    where
      go : At g c.place c.stack → (c.place < g.size) ⊎ (c.place ≡ end_place) → At g (suc c.place) c.stack
      go x (inl h) = inside (bounded.goes_on c.place h (λ y. clash (cc)))
      go (inside h) (inr q) = absurd (omega (arith, bounded.small))
      go (last h z) (inr q) = past (omega arith) z
      go (past h z) (inr q) = absurd (omega arith)

  pub step-standing : (t : ℕ) (ks : List Config) → Each (Standing g) ks → Each (Standing g) (step_configs g t ks)
  step-standing t ks h c m =
      let u = (step-exact g t ks c).0 m in
      subst (Standing g) (sym u.is) (onward-standing u.source u.kind (h u.source u.held) u.faces)
