-- Configurations follow every derivation: from whatever stack an alternative can read the rest of a note, the closure has a configuration of that
-- alternative that stands where the derivation faces the next token.
use mathlib.Core.Path.{◌≡◌, refl, ap, subst, ◌∙◌}
use mathlib.Core.Option.{some}
use mathlib.Core.List.{List, [], ◌∷◌, ◌++◌}
use Prim.Native.Nat.{ℕ, suc, ◌<◌}
use native.Mathlib.Omega.{arith}
use lib.Dec.{T}
use lib.ListN.{length, get_elem?}
use Rattle.base.proofs.Booleans.{clash}
use Rattle.grammar.specs.declared.Symbol.TheVariants.{Token, Nonterminal, End}
use Rattle.grammar.specs.Limits.{end_place}
use Rattle.grammar.specs.Grammar.{Grammar, facing, owner, admits, first}
use Rattle.grammar.specs.inside.Ordered.{Ordered}
use Rattle.derivation.specs.Runs.{Run}
use Rattle.lookahead.specs.Configs.{Config, config, enter, pop, behind, end, Closes, move}

-- ---- what is open
-- q is where the production at p may return to: behind a call of its nonterminal, or, for the start symbol, the end place
pub data Returns (g : Grammar) (p q : ℕ) : Type 0 where
  call : {o : ℕ} → facing g o ≡ Nonterminal (owner g p) → q ≡ suc o → Returns g p q
  last : owner g p ≡ 0 → q ≡ end_place → Returns g p q

-- every place of an open stack may return to the one below it
abbrev pub Valid : Grammar → List ℕ → Type 0
Valid g [] = Unit {0}
Valid g (p ∷ []) = Unit {0}
Valid g (p ∷ q ∷ S) = Returns g p q × Valid g (q ∷ S)

returns-owner : {g : Grammar} {p p' q : ℕ} → owner g p' ≡ owner g p → Returns g p q → Returns g p' q
returns-owner e (call {o = o} f z) = call {o = o} (rw e f) z
returns-owner e (last z y) = last (e ∙ z) y

module _ (g : Grammar) where
  valid-owner : (p p' : ℕ) (S : List ℕ) → owner g p' ≡ owner g p → Valid g (p ∷ S) → Valid g (p' ∷ S)
  valid-owner p p' [] e v = tt
  valid-owner p p' (q ∷ S) e v = (returns-owner e v.0, v.1)

  pub valid-below : (p : ℕ) (S : List ℕ) → Valid g (p ∷ S) → Valid g S
  valid-below p [] v = tt
  valid-below p (q ∷ S) v = v.1

module _ (g : Grammar) (ordered : Ordered g) where
  pub valid-token : (p k : ℕ) (S : List ℕ) → facing g p ≡ Token k → Valid g (p ∷ S) → Valid g (suc p ∷ S)
  valid-token p k S e v = valid-owner g p (suc p) S (ordered.token-on p k e) v

  pub valid-call : (p a b f : ℕ) (S : List ℕ) → facing g p ≡ Nonterminal a → first g a b ≡ some f → Valid g (p ∷ S)
      → Valid g (f ∷ suc p ∷ S)
  valid-call p a b f S e q v = (call {o = p} (rw (ordered.owns a b f q) e) refl, valid-owner g p (suc p) S (ordered.call-on p a e) v)

  -- ---- configurations along a derivation
  -- a configuration of alternative b stands at the top of the stack z, and its return places are the next ones of it
  pub record Cover (start : List Config) (b : ℕ) (z : List ℕ) : Type 0 where
    pub member : Config
    pub closes : Closes g start member
    pub same : member.alternative ≡ b
    pub rest : List ℕ
    pub covers : z ≡ member.place ∷ (member.stack ++ rest)

  cover-call : {start : List Config} {b p a f : ℕ} (b' : ℕ) (S : List ℕ) → facing g p ≡ Nonterminal a → first g a b' ≡ some f
      → Cover start b (p ∷ S) → Cover start b (f ∷ suc p ∷ S)
  cover-call {start} {b} {p} {a} {f} b' S e q v =
      let c = v.member in
      let h = v.covers in
      let pe : p ≡ c.place = cc in
      let se : S ≡ c.stack ++ v.rest = cc in
      let fe : facing g c.place ≡ Nonterminal a = rw pe at e in
      record {
        member = config f c.alternative (suc c.place ∷ c.stack);
        closes = move v.closes (enter b' fe q);
        same = v.same;
        rest = v.rest;
        covers = cc;
      }

  cover-end : {start : List Config} {b p q : ℕ} (S : List ℕ) → facing g p ≡ End → Returns g p q → Cover start b (p ∷ q ∷ S)
      → Cover start b (q ∷ S)
  cover-end {start} {b} {p} {q} S e r v = go c.stack refl r
    where
      c : Config
      c = v.member

      pe : p ≡ c.place
      pe = let h = v.covers in cc

      se : q ∷ S ≡ c.stack ++ v.rest
      se = let h = v.covers in cc

      fe : facing g c.place ≡ End
      fe = rw pe at e

      go : (st : List ℕ) → c.stack ≡ st → Returns g p q → Cover start b (q ∷ S)
      go [] h (call {o = o} f z) =
          let f' : facing g o ≡ Nonterminal (owner g c.place) = rw pe at f in
          record {
            member = config (suc o) c.alternative [];
            closes = move v.closes (behind {q = o} fe h f');
            same = v.same;
            rest = S;
            covers =
                ap (λ (x : ℕ). x ∷ S) z;
          }
      go [] h (last y z) =
          let y' : owner g c.place ≡ 0 = rw pe at y in
          record {
            member = config end_place c.alternative [];
            closes = move v.closes (end fe h y');
            same = v.same;
            rest = S;
            covers =
                ap (λ (x : ℕ). x ∷ S) z;
          }
      go (x ∷ st) h r =
          record {
            member = config x c.alternative st;
            closes = move v.closes (pop fe h);
            same = v.same;
            rest = v.rest;
            covers = se ∙ ap (λ (y : List ℕ). y ++ v.rest) h;
          }

  cover-below : {start : List Config} {b p : ℕ} (S : List ℕ) → facing g p ≡ End → ¬ (S ≡ []) → Valid g (p ∷ S) → Cover start b (p ∷ S)
      → Cover start b S
  cover-below [] e n va v = absurd (n refl)
  cover-below (q ∷ S) e n va v = cover-end S e va.0 v

  -- a configuration of alternative b faces the token at i, and with what is open behind it the rest can be read
  pub record Faced (start : List Config) (b : ℕ) (w : List ℕ) (i : ℕ) : Type 0 where
    pub member : Config
    pub closes : Closes g start member
    pub same : member.alternative ≡ b
    pub rest : List ℕ
    pub kind : ℕ
    pub token : ℕ
    pub faces : facing g member.place ≡ Token kind
    pub stands : get_elem? w i ≡ some token
    pub passes : T (admits g kind token)
    pub valid : Valid g (suc member.place ∷ (member.stack ++ rest))
    pub row : List ℕ
    pub onward : Run g w (suc member.place ∷ (member.stack ++ rest)) (suc i) (length w) row

  -- a run that has a token left has a place open
  open-run : {w S r : List ℕ} {i j : ℕ} → Run g w S i j r → j ≡ length w → i < length w → ¬ (S ≡ [])
  open-run (Run.done l) e h q = omega arith
  open-run (Run.finish f x) e h q = clash (cc)
  open-run (Run.match f d t x) e h q = clash (cc)
  open-run (Run.expand f d x) e h q = clash (cc)

  -- A DERIVATION IS FOLLOWED up to the next token
  pub face : {start : List Config} {b : ℕ} {w z r : List ℕ} {i j : ℕ} → Run g w z i j r → j ≡ length w → i < length w → Valid g z
      → Cover start b z → Faced start b w i
  face (Run.done l) e h va v = absurd (omega arith)
  face {start} {b} {w} (Run.finish {p = p} {S = S} f x) e h va v = face x e h (valid-below g p S va) (cover-below S f (open-run x e h) va v)
  face (Run.expand {p = p} {a = a} {b = b'} {f = f} {S = S} d q x) e h va v = face x e h (valid-call p a b' f S d q va) (cover-call b' S d q v)
  face {w = w} (Run.match {p = p} {k = k} {t = t} {S = S} {i = i} {r = r} f d a x) e h va v =
      let c = v.member in
      let q = v.covers in
      let pe : p ≡ c.place = cc in
      let ze : ◌≡◌ {A = List ℕ} (suc p ∷ S) (suc c.place ∷ (c.stack ++ v.rest)) = cc in
      record {
        member = c;
        closes = v.closes;
        same = v.same;
        rest = v.rest;
        kind = k;
        token = t;
        faces = rw pe at f;
        stands = d;
        passes = a;
        valid = subst (Valid g) ze (valid-token p k S f va);
        row = r;
        onward = subst (λ (l : List ℕ). Run g w l (suc i) (length w) r) ze (rw e at x);
      }
