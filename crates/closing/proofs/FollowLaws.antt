-- The code's moves: productions by their words in the tables, occurrences by the codes of places.
use mathlib.Core.Path.{◌≡◌, refl, sym, ap, ◌∙◌}
use mathlib.Core.Logic.{◌⊎◌, inl, inr}
use mathlib.Core.Bool.{Bool, true, false, ◌||◌, cond}
use mathlib.Core.Option.{some}
use mathlib.Core.List.{List, [], ◌∷◌, map}
use Prim.Native.Nat.{ℕ, zero, suc, ◌+◌, ◌-◌, ◌*◌, ◌/◌, ◌%◌, ◌≤◌, ◌<◌}
use native.Mathlib.Numerals.{add-one}
use native.Mathlib.Omega.{arith}
use native.Mathlib.Decide.{dec_le}
use lib.Dec.{eqb}
use lib.ListN.{length, get_or, take, drop, length-take, length-map, drop_of_length-le}
use lib.Seq.{drop-cons}
use borrow.Author.Tests.{ne_eqb}
use Rattle.base.proofs.Bits.{same?, eqb-iff}
use Rattle.base.proofs.Booleans.{clash}
use Rattle.grammar.specs.declared.Symbol.{Symbol}
use Rattle.grammar.specs.declared.Symbol.TheVariants.{Token, Nonterminal, End}
use Rattle.grammar.specs.declared.Place.{Place}
use Rattle.grammar.specs.Limits.{end_place}
use Rattle.grammar.specs.Grammar.{Grammar, nowhere, place_at, facing, owner, alternatives}
use Rattle.grammar.specs.inside.Tables.{place_words, symbol_of, place_of, grammar_in, codes}
use Rattle.grammar.proofs.WordLaws.{code-end, code-token, code-nonterminal, place_in, place-past}
use Rattle.derivation.specs.inside.Ready.{Ready}
use Rattle.derivation.proofs.FirstLaws.{get-some}
use Rattle.derivation.proofs.ReadyLaws.{ready-size, ready_call, ready-first}
use Rattle.configurations.specs.declared.config.Packed.{Packed}
use Rattle.configurations.specs.inside.Packed.{config_of, Packs}
use Rattle.lookahead.specs.Configs.{Config, config, into, calls?, behind_from, entered}
use Rattle.closing.specs.inside.Moving.{block_places, Uncalled, Sought}

-- ---- the productions of a nonterminal
-- into the productions from number k on, where fs are the first places
unfoldable pub entering : List ℕ → Config → ℕ → List Config
entering fs c k = map (into c) (drop k fs)

pub entering-first : (fs : List ℕ) (c : Config) (k : ℕ) {f : ℕ} → k < length fs → f ≡ get_or fs k 0 → entering fs c k ≡ into c f ∷ entering fs c (k + 1)
unfolding entering
entering-first fs c k h q = rw (drop-cons fs k 0 h, q, add-one)

pub entering-none : (fs : List ℕ) (c : Config) (k : ℕ) → length fs ≤ k → entering fs c k ≡ []
unfolding entering
entering-none fs c k h = let z : drop k fs ≡ [] = drop_of_length-le fs {i = k} h in rw z

module _ (t : List ℕ) (a : ℕ) {fs : List ℕ} (q : fs ≡ alternatives (grammar_in t) a) where
  pub entering-all : (c : Config) → entering fs c 0 ≡ entered (grammar_in t) c a
  unfolding entering entered
  entering-all c = ap (map (into c)) q

  -- a first place is one of the tables'
  pub first_small : Ready t → (k : ℕ) {f : ℕ} → k < length fs → f ≡ get_or fs k 0 → f ≤ end_place
  first_small ready k {f} h d =
      let l : k < length (alternatives (grammar_in t) a) = omega (arith, ap length q, h) in
      let z : get_or (alternatives (grammar_in t) a) k 0 ≡ f = sym (d ∙ ap (λ (l : List ℕ). get_or l k 0) q) in
      omega (arith, ready-first t ready a (suc k) f (get-some (alternatives (grammar_in t) a) k l ∙ ap some z), ready-size t ready)

-- ---- occurrences
-- on an empty stack, at place p
pub at-empty : (c : Packed) {d : Packed} {p : ℕ} → (config_of c).stack ≡ [] → Packs d (config p (config_of c).alternative (config_of c).stack)
    → Packs d (config p (config_of c).alternative [])
at-empty c e h = rw e at h

code-calls : (a c : ℕ) → eqb c (2 * a + 2) ≡ calls? a (symbol_of c)
code-calls a c = go (same? c 0) (same? (c % 2) 1)
  where
    go : (c ≡ 0) ⊎ (c ≡ 0 → ⊥) → (c % 2 ≡ 1) ⊎ (c % 2 ≡ 1 → ⊥) → eqb c (2 * a + 2) ≡ calls? a (symbol_of c)
    go (inl z) o = rw (← code-end c z) (ne_eqb c (2 * a + 2) (λ e. omega arith))
    go (inr n) (inl o) = rw (← code-token c n o) (ne_eqb c (2 * a + 2) (λ e. omega arith))
    go (inr n) (inr o) = rw (← code-nonterminal c n o) (eqb-iff c (2 * a + 2) (c / 2 - 1) a (λ e. omega arith) (λ e. omega arith))

pub calls_is : (t : List ℕ) (p a : ℕ) {w : ℕ} → p ≤ end_place → w ≡ get_or t p 0
    → eqb (w % codes) (2 * a + 2) ≡ calls? a (facing (grammar_in t) p)
unfolding facing place_of
calls_is t p a {w} h e =
    let q : place_of w ≡ place_at (grammar_in t) p = place_in t p (omega arith) (ap place_of e) in
    code-calls a (w % codes) ∙ ap (λ (x : Place). calls? a x.symbol) q

pub owner-small : (t : List ℕ) (p : ℕ) {a : ℕ} → a ≡ owner (grammar_in t) p → a < 64
unfolding owner place_of
owner-small t p {a} e = go (dec_le p end_place)
  where
    go : Dec (p ≤ end_place) → a < 64
    go (yes h) = let q : (place_of (get_or t p 0)).owner ≡ a = ap (λ (x : Place). x.owner) (place_in t p h refl) ∙ sym e in omega arith
    go (no h) = let q : (place_of 0).owner ≡ a = ap (λ (x : Place). x.owner) (place-past t p (omega arith) refl) ∙ sym e in omega arith

-- behind the occurrences of a from place p on
unfoldable pub behinds : List ℕ → ℕ → ℕ → ℕ → List Config
unfolding behind_from
behinds t b a p = map (λ (q : ℕ). config q b []) (behind_from a p (drop p (grammar_in t).places))

pub behinds-all : (t : List ℕ) (b a : ℕ) → behinds t b a 0 ≡ map (λ (q : ℕ). config q b []) (behind_from a 0 (grammar_in t).places)
unfolding behinds
behinds-all t b a = refl

module _ (t : List ℕ) (ready : Ready t) (b a : ℕ) where
  places-long : length (grammar_in t).places ≡ place_words
  unfolding grammar_in
  places-long = omega (arith, length-map (take place_words t) place_of, length-take place_words t, ready.fits.long)

  behind-cons : (p : ℕ) → p < place_words → behind_from a p (drop p (grammar_in t).places)
      ≡ cond (calls? a (facing (grammar_in t) p)) (suc p ∷ behind_from a (suc p) (drop (suc p) (grammar_in t).places))
      (behind_from a (suc p) (drop (suc p) (grammar_in t).places))
  unfolding behind_from facing
  behind-cons p h = ap (behind_from a p) (drop-cons (grammar_in t).places p nowhere (omega (arith, places-long)))

  pub behinds-hit : (p : ℕ) {r : Bool} → p < place_words → r ≡ calls? a (facing (grammar_in t) p) → r ≡ true → behinds t b a p
      ≡ config (p + 1) b [] ∷ behinds t b a (p + 1)
  unfolding behinds
  behinds-hit p h e f = rw (behind-cons p h, sym e ∙ f, add-one)

  pub behinds-miss : (p : ℕ) {r : Bool} → p < place_words → r ≡ calls? a (facing (grammar_in t) p) → r ≡ false → behinds t b a p
      ≡ behinds t b a (p + 1)
  unfolding behinds
  behinds-miss p h e f = rw (behind-cons p h, sym e ∙ f, add-one)

  -- past the productions nothing is called
  none-called : (p : ℕ) → (grammar_in t).size ≤ p → calls? a (facing (grammar_in t) p) ≡ false
  none-called p h = go (facing (grammar_in t) p) refl
    where
      go : (s : Symbol) → facing (grammar_in t) p ≡ s → calls? a s ≡ false
      go (Token k) e = refl
      go (Nonterminal b) e = absurd (omega (arith, ready_call t ready p b e))
      go End e = refl

  none-behind : (n p : ℕ) → p + n ≡ place_words → (grammar_in t).size ≤ p → behind_from a p (drop p (grammar_in t).places) ≡ []
  unfolding behind_from
  none-behind zero p e h = let z : drop p (grammar_in t).places ≡ [] = drop_of_length-le (grammar_in t).places {i = p} (omega (arith, places-long)) in rw z
  none-behind (suc n) p e h = rw (behind-cons p (omega arith), none-called p h) (none-behind n (suc p) (omega arith) (omega arith))

  pub behinds-none : (p : ℕ) → p ≤ place_words → (grammar_in t).size ≤ p → behinds t b a p ≡ []
  unfolding behinds
  behinds-none p l h = rw (none-behind (place_words - p) p (omega arith) h)

-- ---- occurrences sought
-- no place of a block was found to face a
pub uncalled-is : {g : Grammar} {a p : ℕ} {r s t u : Bool} → r ≡ calls? a (facing g p) → s ≡ calls? a (facing g (p + 1))
    → t ≡ calls? a (facing g (p + 2)) → u ≡ calls? a (facing g (p + 3)) → (((r || s) || t) || u) ≡ false → Uncalled g a p
uncalled-is {g} {a} {p} {r} {s} {t} {u} d e f h z = go r s t u d e f h z
  where
    go : (r s t u : Bool) → r ≡ calls? a (facing g p) → s ≡ calls? a (facing g (p + 1)) → t ≡ calls? a (facing g (p + 2))
        → u ≡ calls? a (facing g (p + 3)) → (((r || s) || t) || u) ≡ false → Uncalled g a p
    go false false false false d e f h z = record { first = sym d; second = sym e; third = sym f; fourth = sym h }
    go false false false true d e f h z = clash (cc)
    go false false true u d e f h z = clash (cc)
    go false true t u d e f h z = clash (cc)
    go true s t u d e f h z = clash (cc)

module _ (t : List ℕ) (ready : Ready t) (a : ℕ) where
  -- a block that does not face a is passed over
  uncalled-past : (p : ℕ) → p + block_places ≤ place_words → Uncalled (grammar_in t) a p
      → behind_from a p (drop p (grammar_in t).places) ≡ behind_from a (p + block_places) (drop (p + block_places) (grammar_in t).places)
  uncalled-past p h u =
      past p (p + 1) (omega arith) (omega arith) u.first ∙ past (p + 1) (p + 2) (omega arith) (omega arith) u.second
      ∙ past (p + 2) (p + 3) (omega arith) (omega arith) u.third ∙ past (p + 3) (p + block_places) (omega arith) (omega arith) u.fourth
    where
      past : (i j : ℕ) → suc i ≡ j → i < place_words → calls? a (facing (grammar_in t) i) ≡ false
          → behind_from a i (drop i (grammar_in t).places) ≡ behind_from a j (drop j (grammar_in t).places)
      past i j e l f = behind-cons t ready 0 a i l ∙ rw (f, ← e)

  pub sought-on : (p n q : ℕ) → n ≤ end_place → q + block_places ≤ n → Sought (grammar_in t) a p n q → Uncalled (grammar_in t) a q
      → Sought (grammar_in t) a p n (q + block_places)
  sought-on p n q few l s u = record { from = omega (arith, s.from); to = l; same = s.same ∙ uncalled-past q (omega arith) u }

pub behinds-sought : (t : List ℕ) (b a p n q : ℕ) → Sought (grammar_in t) a p n q → behinds t b a p ≡ behinds t b a q
unfolding behinds
behinds-sought t b a p n q s = ap (map (λ (q : ℕ). config q b [])) s.same

-- what was found is a place of the grammar, and one of the tables'
pub sought-within : (t : List ℕ) (ready : Ready t) {a p n q : ℕ} → n ≡ (grammar_in t).size → Sought (grammar_in t) a p n q → (q ≡ n → ⊥) → q < end_place
sought-within t ready e s h = omega (arith, e, ready-size t ready, s.to, h)
