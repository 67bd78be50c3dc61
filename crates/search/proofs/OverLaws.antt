-- Over one symbol from the members of a set, which the code goes through in rising order.
use mathlib.Core.Path.{◌≡◌, refl}
use mathlib.Core.Logic.{◌↔◌, ◌⊎◌, inl, inr}
use mathlib.Core.Bool.{Bool, true, false}
use mathlib.Core.List.{List}
use Prim.Native.Nat.{ℕ, suc, max, ◌+◌, ◌≤◌, ◌<◌}
use native.Mathlib.Numerals.{add-one}
use native.Mathlib.Omega.{arith}
use native.Mathlib.Decide.{dec_lt}
use lib.Dec.{T}
use lib.ListN.{length}
use Rattle.base.proofs.Booleans.{clash, true→T, false→¬T}
use Rattle.grammar.specs.declared.Symbol.{Symbol}
use Rattle.grammar.specs.declared.Symbol.TheVariants.{Token, Nonterminal}
use Rattle.grammar.specs.Grammar.{admits}
use Rattle.grammar.specs.inside.Tables.{grammar_in, nonterminals_in}
use Rattle.positions.specs.inside.Positions.{position_count, set_words, empty_set, member, with_of, union_of, NextOf}
use Rattle.positions.specs.inside.Words.{set_at}
use Rattle.positions.proofs.SetLaws.{length-with, length_union}
use Rattle.derivation.specs.Runs.{marked}
use Rattle.derivation.proofs.MarkedCells.{length_marked, token-inside}
use Rattle.derivation.proofs.ReadyLaws.{ready-ordered}
use Rattle.first_follow.specs.inside.Words.{masks_in}
use Rattle.filtering.specs.inside.Beginnings.{token_at}
use Rattle.filtering.specs.inside.Filtered.{PairEnds, Over, LeadsBelow, Leads}
use Rattle.filtering.specs.inside.Cover.{here, on, Asked, Covered}
use Rattle.filtering.proofs.AloneLaws.{alone}
use Rattle.filtering.proofs.EndLaws.{over-token}
use Rattle.filtering.proofs.InsideLaws.{pair_inside}
use Rattle.filtering.proofs.LeadLaws.{leads-token, leads-other, leads-call, leads-begin, leads-pass, leads-add, leads-end}
use Rattle.filtering.proofs.WalkLaws.{ends-high}
use Rattle.cells.specs.inside.Matches.{matches_at}
use Rattle.cells.proofs.ThroughLaws.{next-behind}
use Rattle.search.specs.inside.Searching.{Searching, Sized, state_of, set_of, KnownIs}
use Rattle.search.specs.inside.Words.{pair_set}
use Rattle.search.specs.inside.Walks.{Within, MayPass, WalksTo, Raised, WantsPair, LedTo}
use Rattle.search.specs.declared.replies.Reply.{Reply}
use Rattle.search.specs.declared.replies.Reply.TheVariants.{Unknown, Nowhere, Only, Several}
use Rattle.search.specs.declared.words.Size.{Size}
use Rattle.search.proofs.Answers.{said-unknown, said-nowhere, said-only, said-several, token-met, token-other, none-empty, with-iff, union-iff}

-- ---- the members of x below m are gone through, m being the next one: y is where they lead over the symbol of place p
pub record Through (t w ms : List ℕ) (p : ℕ) (x : List ℕ) (m : ℕ) (y : List ℕ) : Type 0 where
  pub most : m ≤ position_count
  pub found : m < position_count → member x m ≡ true
  pub long : length y ≡ set_words
  pub leads : LeadsBelow (grammar_in t) (masks_in ms) (marked w) p (λ k. T (member x k)) m (λ k. T (member y k))

module _ (t w ms : List ℕ) (p : ℕ) (x : List ℕ) where
  through-begin : (m : ℕ) (y : List ℕ) → NextOf x 0 m → y ≡ empty_set → Through t w ms p x m y
  through-begin m y n e =
      record {
        most = n.most;
        found = n.found;
        long = rw e;
        leads =
            leads-pass p (λ k. T (member x k)) (λ k. T (member y k)) 0 m (omega arith) (λ k a b. false→¬T (member x k) (n.none k a b))
            (leads-begin p (λ k. T (member x k)) (λ k. T (member y k)) (none-empty y e));
      }

module _ {t w ms : List ℕ} {p : ℕ} {x : List ℕ} {m : ℕ} {y : List ℕ} (short : length w < position_count) (z : Through t w ms p x m y) where
  -- the next member, where the note is not gone through
  through_here : m ≤ length w → T (member x m)
  through_here l = true→T (member x m) (z.found (omega arith))

  -- y' has besides y what the symbol leads to from it
  through-more : (m' : ℕ) (y' : List ℕ) → m ≤ length w → NextOf x (m + 1) m' → length y' ≡ set_words
      → ((k : ℕ) → T (member y' k) ↔ (T (member y k) ⊎ Over (grammar_in t) (masks_in ms) (marked w) p m k)) → Through t w ms p x m' y'
  through-more m' y' l n e h =
      record {
        most = n.most;
        found = n.found;
        long = e;
        leads =
            leads-pass p (λ k. T (member x k)) (λ k. T (member y' k)) (suc m) m' (let b = next-behind x m m' n (omega arith) in omega arith)
            (λ k a b. false→¬T (member x k) (n.none k (omega arith) b))
            (leads-add p (λ k. T (member x k)) (λ k. T (member y k)) (λ k. T (member y' k)) m m (omega arith) (λ k a b. absurd (omega arith)) (through_here l) h
            z.leads);
      }

  -- it leads nowhere
  through_same : (m' : ℕ) → m ≤ length w → NextOf x (m + 1) m' → ((k : ℕ) → ¬ Over (grammar_in t) (masks_in ms) (marked w) p m k)
      → Through t w ms p x m' y
  through_same m' l n h = through-more m' y l n z.long (λ k. (λ u. inl u, back k))
    where
      back : (k : ℕ) → T (member y k) ⊎ Over (grammar_in t) (masks_in ms) (marked w) p m k → T (member y k)
      back k (inl u) = u
      back k (inr o) = absurd (h k o)

  -- it leads to one position, or to those of a set
  through-with : (m' k : ℕ) {y' : List ℕ} → m ≤ length w → NextOf x (m + 1) m' → k < position_count → y' ≡ with_of y k
      → ((n : ℕ) → Over (grammar_in t) (masks_in ms) (marked w) p m n ↔ (n ≡ k)) → Through t w ms p x m' y'
  through-with m' k {y'} l n b e h = through-more m' y' l n (rw (e, length-with y k) z.long) (λ j. (to j, from j))
    where
      to : (j : ℕ) → T (member y' j) → T (member y j) ⊎ Over (grammar_in t) (masks_in ms) (marked w) p m j
      to j u = elim ((with-iff y k z.long b e j).0 u) [ inl v ↦ inl v | inr v ↦ inr ((h j).1 v) ]

      from : (j : ℕ) → T (member y j) ⊎ Over (grammar_in t) (masks_in ms) (marked w) p m j → T (member y' j)
      from j (inl u) = (with-iff y k z.long b e j).1 (inl u)
      from j (inr o) = (with-iff y k z.long b e j).1 (inr ((h j).0 o))

  through-set : (m' : ℕ) (o : List ℕ) {y' : List ℕ} → m ≤ length w → NextOf x (m + 1) m' → length o ≡ set_words → y' ≡ union_of y o
      → ((n : ℕ) → Over (grammar_in t) (masks_in ms) (marked w) p m n ↔ T (member o n)) → Through t w ms p x m' y'
  through-set m' o {y'} l n b e h = through-more m' y' l n (rw (e, length_union y o)) (λ j. (to j, from j))
    where
      to : (j : ℕ) → T (member y' j) → T (member y j) ⊎ Over (grammar_in t) (masks_in ms) (marked w) p m j
      to j u = elim ((union-iff y o z.long b e j).0 u) [ inl v ↦ inl v | inr v ↦ inr ((h j).1 v) ]

      from : (j : ℕ) → T (member y j) ⊎ Over (grammar_in t) (masks_in ms) (marked w) p m j → T (member y' j)
      from j (inl u) = (union-iff y o z.long b e j).1 (inl u)
      from j (inr v) = (union-iff y o z.long b e j).1 (inr ((h j).0 v))

  -- no member is left
  through-end : Within w x → length w < m → Leads (grammar_in t) (masks_in ms) (marked w) p (λ k. T (member x k)) (λ k. T (member y k))
  through-end inside l =
      leads-end p (λ k. T (member x k)) (λ k. T (member y k)) m (λ k a u. let b = inside k u in absurd (omega arith)) z.leads

-- where a symbol of the grammar leads lies within the note
over-inside : {t w ms ws : List ℕ} (s : Searching t w ms ws) (p j : ℕ) {m : ℕ} → p < (grammar_in t).size → j ≤ length w
    → Over (grammar_in t) (masks_in ms) (marked w) p j m → m ≤ length w
over-inside {t} {w} s p j l i (Over.token {k = k} e d a) = let h = token-inside t s.given.ready w p k j l e d a in omega arith
over-inside {t} {w} s p j l i (Over.call {a = a} {m = m} e h) = pair_inside t s.given.ready w a j m i h

-- a note is shorter than what a set can hold
short : {t w ms ws : List ℕ} {s : Size} {p : ℕ} {x : List ℕ} {symbol : Symbol} → MayPass t w ms ws s p x symbol → length w < position_count
short may = omega (arith, may.walk.searching.given.short)

-- ---- a token
-- the bound covers what the members lead to, and was raised only so far
pub record Tokens (t w ms ws : List ℕ) (p : ℕ) (x : List ℕ) (high₀ m : ℕ) (y : List ℕ) (high : ℕ) : Type 0 where
  pub through : Through t w ms p x m y
  pub raised : Raised t w ms ws p x high₀ high
  pub low : (k : ℕ) → T (member y k) → k ≤ high

pub tokens-begin : (t w ms ws : List ℕ) (p : ℕ) (x : List ℕ) (high m : ℕ) (y : List ℕ) → NextOf x 0 m → y ≡ empty_set → Tokens t w ms ws p x high m y high
tokens-begin t w ms ws p x high m y n e =
    record {
      through = through-begin t w ms p x m y n e;
      raised = record { up = omega arith; came = inl refl };
      low = λ k u. absurd (none-empty y e k u);
    }

module _ {t w ms ws : List ℕ} {s : Size} {p k : ℕ} {x : List ℕ} (may : MayPass t w ms ws s p x (Token k)) {high₀ m : ℕ} {y : List ℕ} {high : ℕ}
    (z : Tokens t w ms ws p x high₀ m y high) where
  pub tokens-with : {b : Bool} {m' : ℕ} {y' : List ℕ} {high' : ℕ} → m ≤ length w → NextOf x (m + 1) m' → b ≡ matches_at (grammar_in t) w m k → b ≡ true
      → y' ≡ with_of y (m + 1) → high' ≡ max high (m + 1) → Tokens t w ms ws p x high₀ m' y' high'
  tokens-with {b} {m'} {y'} {high'} l n q v e d =
      record {
        through =
            through-with (short may) z.through m' (suc m) l n (let u = short may in omega arith) joined
            (leads-token may.faces behind met.1);
        raised = record { up = let u = z.raised.up in omega arith; came = farther (dec_lt high (m + 1)) z.raised.came };
        low = λ j u. elim ((with-iff y (suc m) z.through.long (let u = short may in omega arith) joined j).0 u) [
          | inl o ↦ let c = z.low j o in omega arith
          | inr o ↦ omega arith
        ];
      }
    where
      joined : y' ≡ with_of y (suc m)
      joined = rw (← add-one m) e

      met : (m < length w) × T (admits (grammar_in t) k (token_at (marked w) m))
      met = token-met may.walk.searching.given.ready w p k m may.walk.place may.faces l q v

      behind : m < length (marked w)
      behind = let u = met.0 in omega (arith, length_marked w)

      -- the position behind the token is walked to
      farther : Dec (high < m + 1) → (high ≡ high₀) ⊎ ((q : ℕ) × WalksTo t w ms ws p x q high) → (high' ≡ high₀) ⊎ ((q : ℕ) × WalksTo t w ms ws p x q high')
      farther (yes a) c =
          let h : high' ≡ suc m = omega arith in
          inr (suc p, (m, through_here (short may) z.through l, rw h (on here (over-token may.faces behind met.1))))
      farther (no a) c = let h : high' ≡ high = omega arith in rw h c

  pub tokens-other : {b : Bool} {m' : ℕ} → m ≤ length w → NextOf x (m + 1) m' → b ≡ matches_at (grammar_in t) w m k → b ≡ false
      → Tokens t w ms ws p x high₀ m' y high
  tokens-other {b} {m'} l n q v =
      record {
        through =
            through_same (short may) z.through m' l n
            (leads-other may.faces (token-other may.walk.searching.given.ready w p k m may.walk.place may.faces l q v));
        raised = z.raised;
        low = z.low;
      }

  pub tokens-end : length w < m → LedTo t w ms ws p x high₀ high y
  tokens-end l =
      let leads = through-end (short may) z.through may.walk.within l in
      record {
        within = λ j u. let (i, v, o) = (leads j).0 u in over-inside may.walk.searching p i may.walk.place (may.walk.within i v) o;
        leads = leads;
        asked = λ j c u e. let h = may.faces in clash (cc);
        low = λ cover under j u. z.low j u;
      }

-- ---- a nonterminal: the members gone through were asked
pub record Calls (t w ms ws : List ℕ) (p b : ℕ) (x : List ℕ) (m : ℕ) (y : List ℕ) : Type 0 where
  pub through : Through t w ms p x m y
  pub asked : (k : ℕ) → T (member x k) → k < m → Asked (masks_in ms) (marked w) (state_of t w ws).done b k

pub calls-begin : (t w ms ws : List ℕ) (p b : ℕ) (x : List ℕ) (m : ℕ) (y : List ℕ) → NextOf x 0 m → y ≡ empty_set → Calls t w ms ws p b x m y
calls-begin t w ms ws p b x m y n e =
    record { through = through-begin t w ms p x m y n e; asked = λ k u l. absurd (false→¬T (member x k) (n.none k (omega arith) l) u) }

module _ {t w ms ws : List ℕ} {s : Size} {p b : ℕ} {x : List ℕ} (may : MayPass t w ms ws s p x (Nonterminal b)) {m : ℕ} {y : List ℕ}
    (z : Calls t w ms ws p b x m y) where
  -- the next member was asked too
  asks : (m' : ℕ) → NextOf x (m + 1) m' → Asked (masks_in ms) (marked w) (state_of t w ws).done b m
      → (k : ℕ) → T (member x k) → k < m' → Asked (masks_in ms) (marked w) (state_of t w ws).done b k
  asks m' n a k u l = go (dec_lt k m) (dec_lt m k)
    where
      go : Dec (k < m) → Dec (m < k) → Asked (masks_in ms) (marked w) (state_of t w ws).done b k
      go (yes c) d = z.asked k u c
      go (no c) (yes d) = absurd (false→¬T (member x k) (n.none k (omega arith) l) u)
      go (no c) (no d) = let e : k ≡ m = omega arith in rw e a

  -- the only end is a position of the note
  pub only-inside : {r : Reply} {j : ℕ} → m ≤ length w → KnownIs t w ms ws b m r → r ≡ Only j → j ≤ length w
  only-inside {r} {j} l k q =
      let (a, h) = said-only may.walk.searching b m l q k in
      pair_inside t may.walk.searching.given.ready w b m j l ((h j).1 refl)

  module _ {m' : ℕ} {r : Reply} (l : m ≤ length w) (n : NextOf x (m + 1) m') (k : KnownIs t w ms ws b m r) where
    pub calls-none : r ≡ Nowhere → Calls t w ms ws p b x m' y
    calls-none q =
        let (a, h) = said-nowhere may.walk.searching b m l q k in
        record { through = through_same (short may) z.through m' l n (λ j o. h j ((leads-call b may.faces j).0 o)); asked = asks m' n a }

    pub calls-one : {j : ℕ} {y' : List ℕ} → r ≡ Only j → y' ≡ with_of y j → Calls t w ms ws p b x m' y'
    calls-one {j} q e =
        let (a, h) = said-only may.walk.searching b m l q k in
        record {
          through =
              through-with (short may) z.through m' j l n (let i = only-inside l k q in let u = short may in omega arith) e
              (λ i. (λ o. (h i).0 ((leads-call b may.faces i).0 o), λ v. (leads-call b may.faces i).1 ((h i).1 v)));
          asked = asks m' n a;
        }

    pub calls-some : (o : List ℕ) {y' : List ℕ} → r ≡ Several → o ≡ set_of t w ws b m → y' ≡ union_of y o → Calls t w ms ws p b x m' y'
    unfolding set_at
    calls-some o q d e =
        let (a, h) = said-several may.walk.searching b m l q k in
        record {
          through =
              through-set (short may) z.through m' o l n (rw d) e
              (λ i. (λ v. rw d ((h i).0 ((leads-call b may.faces i).0 v)), λ v. (leads-call b may.faces i).1 ((h i).1 (rw d at v))));
          asked = asks m' n a;
        }

  -- ---- ways out: the pair at the next member is not worked out, or no member is left
  pub calls-wants : {r : Reply} → m ≤ length w → KnownIs t w ms ws b m r → r ≡ Unknown → WantsPair t w ms ws p x b m
  calls-wants l k q =
      record {
        named = may.walk.searching.given.ready.fits.named p b may.faces;
        within = l;
        undone = said-unknown may.walk.searching b m l q k;
        place = p;
        faces = may.faces;
        walks = (m, through_here (short may) z.through l, here);
      }

  pub calls-end : (high : ℕ) → length w < m → LedTo t w ms ws p x high high y
  calls-end high l =
      record {
        within = λ j u. let (i, v, o) = (leads j).0 u in over-inside may.walk.searching p i may.walk.place (may.walk.within i v) o;
        leads = leads;
        asked = λ j c u e. let q : c ≡ b = let h = may.faces in cc in rw q (ask j u);
        low = λ cover under j u.
            let (i, v, o) = (leads j).0 u in near cover i j (under i v) (may.walk.within i v) (ask i v) ((leads-call b may.faces j).0 o);
      }
    where
      leads : Leads (grammar_in t) (masks_in ms) (marked w) p (λ k. T (member x k)) (λ k. T (member y k))
      leads = through-end (short may) z.through may.walk.within l

      ask : (j : ℕ) → T (member x j) → Asked (masks_in ms) (marked w) (state_of t w ws).done b j
      ask j u = let i = may.walk.within j u in z.asked j u (omega arith)

      -- the ends of a pair that is worked out are covered, and another ends where it begins
      near : Covered (grammar_in t) (masks_in ms) (marked w) (state_of t w ws).done high → (i j : ℕ) → i ≤ high → i ≤ length w
          → Asked (masks_in ms) (marked w) (state_of t w ws).done b i → PairEnds (grammar_in t) (masks_in ms) (marked w) b i j → j ≤ high
      near cover i j c d (inl v) o = ends-high b i j cover v o
      near cover i j c d (inr v) o =
          let given = may.walk.searching.given in
          let q = ((alone {w = marked w} (ready-ordered t given.ready) given.closed b i j (omega (arith, length_marked w)) v).0 o).0 in
          omega arith

-- ---- by the code's numbers: the set that was read is what stands for the pair
module _ {t w : List ℕ} {s : Size} (z : Sized t w s) where
  pub set_is : (ws : List ℕ) {r : List ℕ} (b i : ℕ) → r ≡ set_at ws (pair_set s.nonterminals s.n b i) → r ≡ set_of t w ws b i
  set_is ws b i e = rw (z.tokens, z.names) at e
