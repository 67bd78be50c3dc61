-- What the pass over the places rests on in a compiled grammar: its productions stand one behind the other.
use mathlib.Core.Path.{◌≡◌, refl}
use mathlib.Core.Logic.{◌⊎◌, inl, inr}
use mathlib.Core.Option.{some}
use mathlib.Core.List.{List}
use Prim.Native.Nat.{ℕ, suc, ◌≤◌, ◌<◌}
use native.Mathlib.Omega.{arith}
use lib.ListN.{length}
use Rattle.base.proofs.Booleans.{clash}
use Rattle.grammar.specs.declared.Symbol.{Symbol}
use Rattle.grammar.specs.declared.Symbol.TheVariants.{Token, Nonterminal, End}
use Rattle.grammar.specs.Limits.{max_kinds, max_nonterminals, end_place}
use Rattle.grammar.specs.Decode.{Rules, Legal}
use Rattle.grammar.specs.Grammar.{Grammar, facing, owner, first, size_all, compile, Limited}
use Rattle.grammar.specs.inside.Ordered.{Ordered}
use Rattle.grammar.specs.inside.Tables.{grammar_in}
use Rattle.grammar.proofs.OrderedLaws.{compile-ordered}
use Rattle.grammar.proofs.OwnerLaws.{compile-owned, compile-first, compile-next}
use Rattle.grammar.proofs.PlaceLaws.{Faces, end, mark, legal, length-starts_all, compile-faces, compile-within}
use Rattle.derivation.specs.inside.Ready.{Ready}
use Rattle.first_follow.specs.inside.Steps.{Leading, Open}
use Rattle.first_follow.specs.FirstFollow.{Skips, here, over}
use Rattle.first_follow.proofs.ProductionLaws.{compile-behind, compile-begins}
use Rattle.first_follow.proofs.SkipLaws.{Vanishing, Last, begins, skips, skips-last}

pub record Lined (g : Grammar) : Type 0 where
  pub order : Ordered g
  -- there is a nonterminal, and there are no more of them, nor kinds, than there may be
  pub some_one : 0 < length g.starts
  pub few : length g.starts ≤ max_nonterminals
  pub few-kinds : g.kinds ≤ max_kinds
  -- a production begins at place 0 and behind each end, and nowhere else
  pub behind : (a b p : ℕ) → first g a b ≡ some (suc p) → facing g p ≡ End
  pub begins-at : (p : ℕ) → p < g.size → ((q : ℕ) → p ≡ suc q → facing g q ≡ End) → (a : ℕ) × (b : ℕ) × (first g a b ≡ some p)
  -- the places of productions
  pub within_first : (a b f : ℕ) → first g a b ≡ some f → f < g.size
  pub within-call : (p a : ℕ) → facing g p ≡ Nonterminal a → p < g.size
  pub within-next : (p : ℕ) → p < g.size → ¬ (facing g p ≡ End) → suc p < g.size
  pub owned : (p : ℕ) → p < g.size → owner g p < max_nonterminals
  pub named : (p a : ℕ) → facing g p ≡ Nonterminal a → a < length g.starts
  pub kind : (p k : ℕ) → p < g.size → facing g p ≡ Token k → k ≤ g.kinds

module _ (r : Rules) (limits : Limited r) where
  abbrev n : ℕ
  n = length r.productions

  abbrev size : ℕ
  size = size_all r.productions

  compile-named : (p a : ℕ) → facing (compile r) p ≡ Nonterminal a → a < n
  compile-named p a e = go (compile-faces r limits p) e
    where
      go : {s : Symbol} → Faces r.kinds n size end_place p s → s ≡ Nonterminal a → a < n
      go (end q) e = clash (cc)
      go (mark l q) e = clash (cc)
      go (legal l q) e = let y : Legal r.kinds n (Nonterminal a) = rw e at q in y

  compile-kind-most : (p k : ℕ) → p < size → facing (compile r) p ≡ Token k → k ≤ r.kinds
  compile-kind-most p k l e = go (compile-faces r limits p) e
    where
      go : {s : Symbol} → Faces r.kinds n size end_place p s → s ≡ Token k → k ≤ r.kinds
      go (end q) e = clash (cc)
      go (mark m q) e = let h = limits.small in absurd (omega arith)
      go (legal m q) e = let y : Legal r.kinds n (Token k) = rw e at q in y.1

  compile-lined : Lined (compile r)
  unfolding compile
  compile-lined = record {
    order = compile-ordered r limits;
    some_one = omega (arith, length-starts_all 0 r.productions, limits.some);
    few = omega (arith, length-starts_all 0 r.productions, limits.few);
    few-kinds = limits.kinds-most;
    behind = compile-behind r limits;
    begins-at = compile-begins r limits;
    within_first = compile-first r limits;
    within-call = compile-within r limits;
    within-next = compile-next r limits;
    owned = compile-owned r limits;
    named = λ p a e. let h = compile-named p a e in omega (arith, length-starts_all 0 r.productions);
    kind = compile-kind-most;
  }

pub ready-lined : (t : List ℕ) → Ready t → Lined (grammar_in t)
ready-lined t h = rw h.says (compile-lined h.rules h.limited)

module _ {g : Grammar} (L : Lined g) where
  -- ---- in front
  pub leading-begins : (p : ℕ) → p < g.size → ((q : ℕ) → p ≡ suc q → facing g q ≡ End) → Leading g p
  leading-begins p l h = go (L.begins-at p l h)
    where
      go : (a : ℕ) × (b : ℕ) × (first g a b ≡ some p) → Leading g p
      go (a, b, d) = record { who = a; alternative = b; start = p; begins = d; skips = here }

  -- a place stands in front because a production begins there, or because the one before it does and vanishes
  pub leading-last : (p : ℕ) → Leading g (suc p) → (facing g p ≡ End) ⊎ (Vanishing g p × Leading g p)
  leading-last p x = go (skips-last x.skips p refl)
    where
      go : Last g x.start p → (facing g p ≡ End) ⊎ (Vanishing g p × Leading g p)
      go (begins z) = inl (L.behind x.who x.alternative p (rw z at x.begins))
      go (skips v s) = inr (v, record { who = x.who; alternative = x.alternative; start = x.start; begins = x.begins; skips = s })

  -- ---- what is skipped stays in the production
  pub skips-within : {p q : ℕ} → Skips g p q → p < g.size → q < g.size
  skips-within here l = l
  skips-within (over {p = p} d n s) l = skips-within s (L.within-next p l (λ e. clash (cc)))

  pub leading-within : {p : ℕ} → Leading g p → p < g.size
  leading-within x = skips-within x.skips (L.within_first x.who x.alternative x.start x.begins)

  pub open-within : {p a : ℕ} → Open g p a → p < g.size
  open-within {p} {a} x =
      skips-within x.skips (L.within-next x.place (L.within-call x.place a x.calls) (λ e. let c = x.calls in clash (cc)))
