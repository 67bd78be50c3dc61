-- The one pass is `decode`: it refuses exactly where `decode` does, and leaves the decoded rules laid out in the tables.
use mathlib.Core.Path.{◌≡◌, refl, sym, ap, subst, ◌∙◌}
use mathlib.Core.Logic.{inl}
use mathlib.Core.Bool.{Bool, true, false, cond}
use mathlib.Core.List.{List, [], ◌∷◌, ◌++◌, map, map-append}
use Prim.Native.Nat.{ℕ, zero, suc, ◌+◌, ◌≤◌}
use native.Mathlib.Omega.{arith}
use lib.ListN.{length, set, length-map}
use lib.Seq.{sets}
use lib.Dec.{ltb}
use borrow.Author.Tests.{ltb-false}
use Rattle.base.proofs.Lists.{sets-sets, sets-append}
use Rattle.reader.specs.inside.Types.{Read, Cursor, Value, Refused, OverLimit, Trailing, Symbol}
use Rattle.grammar.specs.Limits.{max_kinds, max_nonterminals, max_productions, max_length, max_places}
use Rattle.number.specs.Fetching.{cursor}
use Rattle.number.specs.Number.{limited_at, symbol_at, Refuses}
use Rattle.base.specs.Lists.{AllOf}
use Rattle.grammar.specs.Decode.{Rules, Legal, Production, Alternatives, Mark, mark, Parsed, got, refused, and_then, times, from_read, limited, written}
use Rattle.grammar.specs.Decode.{symbol, read_production, nonterminal, ending, decode}
use Rattle.grammar.specs.Grammar.{at, lay_one, lay_each, lay_all, size_each, size_all, starts_each, Limited}
use Rattle.grammar.specs.inside.Tables.{word_of, firsts_at, rules_at}
use Rattle.grammar.proofs.CompileLaws.{length-one, length-each}
use Rattle.grammar.proofs.NumberReaders.{legal-written}
use Rattle.reader.specs.inside.Pass.{Out, out, on_read, on_out, symbols_of, productions_of, nonterminals_of, closing, finished, whole_pass}
use Rattle.number.proofs.NumberLaws.{symbol-legal, limited-is, refuses, refused-at}

-- ---- an outcome of the pass beside one of decoding: the same refusal, or what f says of what was decoded, of which Q holds
abbrev pub Same : {A : Type 0} → Out → (A → Mark → Out) → (A → Mark → Type 0) → Parsed A → Type 0
Same o f Q (got y m) = (o ≡ f y m) × Q y m
Same o f Q (refused r) = Refuses o.answer r

same_read : {A : Type 0} (t : List ℕ) (x : Read) (p : ℕ) (K : ℕ → Cursor → Out) (h : ℕ → Mark → Parsed A) (f : A → Mark → Out)
    (Q : A → Mark → Type 0)
    → ((v : ℕ) (c : Cursor) → x ≡ Value v c → Same (K v c) f Q (h v (mark c.at p))) → Same (on_read t x K) f Q (and_then (from_read p x) h)
unfolding on_read and_then
same_read t (Value v c) p K h f Q g = g v c refl
same_read t (Refused r c) p K h f Q g = refl

same_then : {A B : Type 0} (o : Out) (x : Parsed A) (f : A → Mark → Out) (Q : A → Mark → Type 0) (h : A → Mark → Parsed B)
    (f' : B → Mark → Out) (Q' : B → Mark → Type 0)
    → Same o f Q x → ((y : A) (m : Mark) → o ≡ f y m → Q y m → Same o f' Q' (h y m)) → Same o f' Q' (and_then x h)
unfolding and_then
same_then o (got y m) f Q h f' Q' e g = g y m e.0 e.1
same_then o (refused r) f Q h f' Q' e g = e

same_out : {A B : Type 0} (o : Out) (x : Parsed A) (f : A → Mark → Out) (Q : A → Mark → Type 0) (K : ℕ → Cursor → List ℕ → Out)
    (h : A → Mark → Parsed B)
    (f' : B → Mark → Out) (Q' : B → Mark → Type 0)
    → Same o f Q x → ((y : A) (m : Mark) → Q y m → Same (on_out (f y m) K) f' Q' (h y m)) → Same (on_out o K) f' Q' (and_then x h)
unfolding and_then on_read
same_out o (got y m) f Q K h f' Q' e g = subst (λ (o' : Out). Same (on_out o' K) f' Q' (h y m)) (sym e.0) (g y m e.1)
same_out o (refused r) f Q K h f' Q' e g =
    let q = refused-at o.answer r e in refuses (sym (ap (λ (x : Read). (on_read o.tables x (λ v c. K v c o.tables)).answer) q.1))

-- ---- what the pass writes beside the places
-- for each nonterminal the number of its first production, the first of them the kth; and the number behind the last
unfoldable pub counts_of : ℕ → List (List (List Symbol)) → List ℕ
counts_of k [] = k ∷ []
counts_of k (n ∷ l) = k ∷ counts_of (k + length n) l

-- the first places of all productions
unfoldable pub firsts_of : ℕ → List (List (List Symbol)) → List ℕ
firsts_of p [] = []
firsts_of p (n ∷ l) = starts_each p n ++ firsts_of (p + size_each n) l

pub length-starts : (p : ℕ) (l : List (List Symbol)) → length (starts_each p l) ≡ length l
unfolding starts_each
length-starts p [] = refl
length-starts p (β ∷ l) = ap suc (length-starts (p + suc (length β)) l)

pub length-size : (l : List (List Symbol)) → length l ≤ size_each l
unfolding size_each
length-size [] = omega arith
length-size (β ∷ l) = omega (arith, length-size l)

pub length-lay_one : (a : ℕ) (β : List Symbol) → length (map word_of (lay_one a β)) ≡ suc (length β)
length-lay_one a β = length-map (lay_one a β) word_of ∙ length-one a β

pub length-lay_each : (a : ℕ) (l : List (List Symbol)) → length (map word_of (lay_each a l)) ≡ size_each l
length-lay_each a l = length-map (lay_each a l) word_of ∙ length-each a l

module _ (s : List ℕ) (kt nt : ℕ) where
  -- the tables after symbols
  abbrev symbols_out : ℕ → ℕ → List ℕ → List Symbol → Mark → Out
  symbols_out a p t l m = out (Value (p + suc (length l)) (cursor m.byte)) (sets t p (map word_of (lay_one a l)))

  abbrev Symbols : ℕ → List Symbol → Mark → Type 0
  Symbols n l m = (length l ≡ n) × AllOf (Legal kt nt) l

  symbols-push : (a p : ℕ) (t : List ℕ) (v : ℕ) (l : List Symbol) (m : Mark) → symbols_out a (p + 1) (set t p (word_of (at a (written v)))) l m
      ≡ symbols_out a p t (written v ∷ l) m
  unfolding lay_one
  symbols-push a p t v l m =
      let e : p + 1 + suc (length l) ≡ p + suc (suc (length l)) = omega arith in
      let f : p + 1 ≡ suc p = omega arith in
      rw (e, f)

  abbrev SymbolsSame : ℕ → ℕ → Type 0
  SymbolsSame n a = (i p : ℕ) (t : List ℕ) (b : ℕ)
      → Same (symbols_of s kt nt a n i p t) (symbols_out a p t) (Symbols n) (times n (symbol s kt nt) (mark i b))

  symbols-same : (n a : ℕ) → SymbolsSame n a
  unfolding symbols_of times lay_one symbol and_then on_read
  symbols-same zero a i p t b = (refl, (refl, tt))
  symbols-same (suc n) a i p t b = go (symbol_at s kt nt i) refl (symbols-same n a)
    where
      go : (x : Read) → symbol_at s kt nt i ≡ x → SymbolsSame n a
          → Same (on_read t x (λ v next. symbols_of s kt nt a n next.at (p + 1) (set t p (word_of (at a (written v)))))) (symbols_out a p t) (Symbols (suc n))
          (and_then (and_then (from_read b x) (λ v m'. got (written v) m'))
          (λ x m'. and_then (times n (symbol s kt nt) m') (λ l m''. got (x ∷ l) m'')))
      go (Value v next) e ih =
          same_then (symbols_of s kt nt a n next.at (p + 1) (set t p (word_of (at a (written v))))) (times n (symbol s kt nt) (mark next.at b))
          (symbols_out a (p + 1) (set t p (word_of (at a (written v))))) (Symbols n) (λ l m''. got (written v ∷ l) m'') (symbols_out a p t) (Symbols (suc n))
          (ih next.at (p + 1) (set t p (word_of (at a (written v)))) b)
          (λ l m q h. (q ∙ symbols-push a p t v l m, (ap suc h.0, (legal-written kt nt v (symbol-legal s kt nt i refl e), h.1))))
      go (Refused r d) e ih = refl

  -- ---- productions
  -- the tables after productions
  abbrev productions_out : ℕ → ℕ → ℕ → List ℕ → List (List Symbol) → Mark → Out
  productions_out a p k t l m = out (Value m.places (cursor m.byte)) (sets (sets t (firsts_at + k) (starts_each p l)) p (map word_of (lay_each a l)))

  abbrev Productions : ℕ → ℕ → List (List Symbol) → Mark → Type 0
  Productions n p l m = (length l ≡ n) × (m.places ≡ p + size_each l) × (m.places ≤ max_places) × AllOf (Production kt nt) l

  -- one production behind which others follow
  productions-push : (a p k : ℕ) (t : List ℕ) (β : List Symbol) (l : List (List Symbol)) (p' : ℕ) → p' ≡ p + suc (length β)
      → p' ≤ max_places
      → sets (sets (sets (set t (firsts_at + k) p) p (map word_of (lay_one a β))) (firsts_at + (k + 1)) (starts_each p' l)) p' (map word_of (lay_each a l))
      ≡ sets (sets t (firsts_at + k) (starts_each p (β ∷ l))) p (map word_of (lay_each a (β ∷ l)))
  unfolding starts_each lay_each
  productions-push a p k t β l p' e h =
      let W : List ℕ = map word_of (lay_one a β) in
      let w : p' ≡ p + length W = omega (arith, e, length-lay_one a β) in
      let f : firsts_at + (k + 1) ≡ suc (firsts_at + k) = omega arith in
      ap (λ (r : List ℕ). sets r p' (map word_of (lay_each a l)))
      (sets-sets (set t (firsts_at + k) p) (firsts_at + (k + 1)) (starts_each p' l) p W (inl (omega (arith, w))))
      ∙ ap (λ (q : ℕ). sets (sets (sets (set t (firsts_at + k) p) (firsts_at + (k + 1)) (starts_each p' l)) p W) q (map word_of (lay_each a l))) w
      ∙ sym (sets-append (sets (set t (firsts_at + k) p) (firsts_at + (k + 1)) (starts_each p' l)) p W (map word_of (lay_each a l)))
      ∙ ap (λ (r : List ℕ). sets (sets (set t (firsts_at + k) p) (firsts_at + (k + 1)) (starts_each p' l)) p r)
      (sym (map-append word_of (lay_one a β) (lay_each a l)))
      ∙ (rw (f, e))

  -- the symbols of a production, and the mark behind it
  abbrev one_out : ℕ → ℕ → List ℕ → List Symbol → Mark → Out
  one_out a p t β m = out (Value m.places (cursor m.byte)) (sets t p (map word_of (lay_one a β)))

  abbrev One : ℕ → ℕ → List Symbol → Mark → Type 0
  One p k β m = (length β ≡ k) × AllOf (Legal kt nt) β × (m.places ≡ p + suc k)

  one_same : (a k i p : ℕ) (t : List ℕ)
      → Same (symbols_of s kt nt a k i p t) (one_out a p t) (One p k)
      (and_then (times k (symbol s kt nt) (mark i p)) (λ l m. got l (mark m.byte (p + suc k))))
  one_same a k i p t =
      same_then (symbols_of s kt nt a k i p t) (times k (symbol s kt nt) (mark i p)) (symbols_out a p t) (Symbols k)
      (λ l m. got l (mark m.byte (p + suc k))) (one_out a p t) (One p k)
      (symbols-same k a i p t p)
      (λ l m q h. (q ∙ ap (λ (n : ℕ). out (Value (p + suc n) (cursor m.byte)) (sets t p (map word_of (lay_one a l)))) h.0, (h.0, h.1, refl)))

  abbrev ProductionsSame : ℕ → ℕ → Type 0
  ProductionsSame n a = (i p k : ℕ) (t : List ℕ) → p ≤ max_places
      → Same (productions_of s kt nt a n i p k t) (productions_out a p k t) (Productions n p) (times n (read_production s kt nt) (mark i p))

  -- what decoding does behind a length, and behind a production
  abbrev behind_length : ℕ → ℕ → ℕ → Mark → Parsed (List Symbol)
  behind_length i p k m' =
      cond (ltb max_places (p + suc k)) (refused (OverLimit i))
      (and_then (times k (symbol s kt nt) m') (λ l m''. got l (mark m''.byte (p + suc k))))

  abbrev behind_one : ℕ → List Symbol → Mark → Parsed (List (List Symbol))
  behind_one n β m' = and_then (times n (read_production s kt nt) m') (λ l m''. got (β ∷ l) m'')

  productions-same : (n a : ℕ) → ProductionsSame n a
  unfolding productions_of times read_production limited and_then on_read starts_each lay_each size_each
  productions-same zero a i p k t l = (refl, (refl, omega arith, l, tt))
  productions-same (suc n) a i p k t l = go (limited_at s 0 max_length i) refl (productions-same n a)
    where
      next_one : ProductionsSame n a → (len : ℕ) → len ≤ max_length → p + suc len ≤ max_places → (β : List Symbol) (m : Mark) → One p len β m
          → Same (on_out (one_out a p (set t (firsts_at + k) p) β m) (λ q c' t'. productions_of s kt nt a n c'.at q (k + 1) t')) (productions_out a p k t)
          (Productions (suc n) p) (behind_one n β m)
      next_one ih len most fits β m h =
          let b : m.places ≡ p + suc (length β) = omega (arith, h.0, h.2) in
          let T : List ℕ = sets (set t (firsts_at + k) p) p (map word_of (lay_one a β)) in
          same_then (productions_of s kt nt a n m.byte m.places (k + 1) T) (times n (read_production s kt nt) m)
          (productions_out a m.places (k + 1) T) (Productions n m.places)
          (λ l m''. got (β ∷ l) m'') (productions_out a p k t) (Productions (suc n) p)
          (ih m.byte m.places (k + 1) T (omega (arith, h.2)))
          (λ l m'' q g. (
            q ∙ ap (λ (r : List ℕ). out (Value m''.places (cursor m''.byte)) r)
                (productions-push a p k t β l m.places b (omega (arith, h.2))),
            (ap suc g.0, omega (arith, b, g.1), g.2, ((omega (arith, h.0), h.1), g.3)),
          ))

      by-room : ProductionsSame n a → (len : ℕ) (next : Cursor) → len ≤ max_length → (b : Bool) → ltb max_places (p + suc len) ≡ b
          → Same (cond b (out (Refused (OverLimit i) next) t)
          (on_out (symbols_of s kt nt a len next.at p (set t (firsts_at + k) p)) (λ q c' t'. productions_of s kt nt a n c'.at q (k + 1) t')))
          (productions_out a p k t) (Productions (suc n) p)
          (and_then (cond b (refused (OverLimit i))
          (and_then (times len (symbol s kt nt) (mark next.at p)) (λ l m''. got l (mark m''.byte (p + suc len))))) (behind_one n))
      by-room ih len next most true e = refl
      by-room ih len next most false e =
          same_out (symbols_of s kt nt a len next.at p (set t (firsts_at + k) p))
          (and_then (times len (symbol s kt nt) (mark next.at p)) (λ l m''. got l (mark m''.byte (p + suc len))))
          (one_out a p (set t (firsts_at + k) p)) (One p len) (λ q c' t'. productions_of s kt nt a n c'.at q (k + 1) t') (behind_one n)
          (productions_out a p k t) (Productions (suc n) p)
          (one_same a len next.at p (set t (firsts_at + k) p))
          (next_one ih len most (ltb-false max_places (p + suc len) e))

      go : (x : Read) → limited_at s 0 max_length i ≡ x → ProductionsSame n a
          → Same (on_read t x (λ m next. cond (ltb max_places (p + m + 1)) (out (Refused (OverLimit i) next) t)
          (on_out (symbols_of s kt nt a m next.at p (set t (firsts_at + k) p)) (λ q c' t'. productions_of s kt nt a n c'.at q (k + 1) t'))))
          (productions_out a p k t) (Productions (suc n) p) (and_then (and_then (from_read p x) (behind_length i p)) (behind_one n))
      go (Value len next) e ih =
          let z : p + len + 1 ≡ p + suc len = omega arith in
          rw z (by-room ih len next (limited-is s 0 max_length i refl e).1 (ltb max_places (p + suc len)) refl)
      go (Refused r d) e ih = refl

  -- ---- nonterminals
  -- the tables after nonterminals
  abbrev rules_out : ℕ → ℕ → ℕ → List ℕ → List (List (List Symbol)) → Mark → Out
  rules_out a p k t l m =
      out (Value m.places (cursor m.byte)) (sets (sets (sets t (rules_at + a) (counts_of k l)) (firsts_at + k) (firsts_of p l)) p (map word_of (lay_all a l)))

  abbrev AllRules : ℕ → ℕ → List (List (List Symbol)) → Mark → Type 0
  AllRules n p l m = (length l ≡ n) × (m.places ≡ p + size_all l) × (m.places ≤ max_places) × AllOf (Alternatives kt nt) l

  -- one nonterminal behind which others follow
  rules-push : (a p k : ℕ) (t : List ℕ) (y : List (List Symbol)) (l : List (List (List Symbol))) (p' m : ℕ) → p' ≡ p + size_each y
      → p' ≤ max_places → k ≤ p → m ≡ length y
      → sets (sets (sets (sets (sets (set t (rules_at + a) k) (firsts_at + k) (starts_each p y)) p (map word_of (lay_each a y))) (rules_at + (a + 1))
      (counts_of (k + m) l))
      (firsts_at + (k + m)) (firsts_of p' l)) p' (map word_of (lay_all (a + 1) l))
      ≡ sets (sets (sets t (rules_at + a) (counts_of k (y ∷ l))) (firsts_at + k) (firsts_of p (y ∷ l))) p (map word_of (lay_all a (y ∷ l)))
  unfolding counts_of firsts_of lay_all
  rules-push a p k t y l p' m e h kp n =
      let S : List ℕ = starts_each p y in
      let W : List ℕ = map word_of (lay_each a y) in
      let C : List ℕ = counts_of (k + m) l in
      let S' : List ℕ = firsts_of p' l in
      let W' : List ℕ = map word_of (lay_all (a + 1) l) in
      let B : List ℕ = set t (rules_at + a) k in
      let B' : List ℕ = sets B (rules_at + (a + 1)) C in
      let w : p' ≡ p + length W = omega (arith, e, length-lay_each a y) in
      let v : firsts_at + (k + m) ≡ firsts_at + k + length S = omega (arith, n, length-starts p y) in
      let few : m ≤ size_each y = omega (arith, n, length-size y) in
      let f : rules_at + (a + 1) ≡ suc (rules_at + a) = omega arith in
      let g : a + 1 ≡ suc a = omega arith in
      ap (λ (r : List ℕ). sets (sets r (firsts_at + (k + m)) S') p' W')
      (sets-sets (sets B (firsts_at + k) S) (rules_at + (a + 1)) C p W (inl (omega (arith, w)))
      ∙ ap (λ (r : List ℕ). sets r p W) (sets-sets B (rules_at + (a + 1)) C (firsts_at + k) S (inl (omega (arith, v, few, e)))))
      ∙ ap (λ (r : List ℕ). sets r p' W') (sets-sets (sets B' (firsts_at + k) S) (firsts_at + (k + m)) S' p W (inl (omega (arith, w))))
      ∙ ap (λ (q : ℕ). sets (sets (sets (sets B' (firsts_at + k) S) q S') p W) p' W') v
      ∙ ap (λ (r : List ℕ). sets (sets r p W) p' W') (sym (sets-append B' (firsts_at + k) S S'))
      ∙ ap (λ (q : ℕ). sets (sets (sets B' (firsts_at + k) (S ++ S')) p W) q W') w
      ∙ sym (sets-append (sets B' (firsts_at + k) (S ++ S')) p W W')
      ∙ ap (λ (r : List ℕ). sets (sets B' (firsts_at + k) (S ++ S')) p r) (sym (map-append word_of (lay_each a y) (lay_all (a + 1) l)))
      ∙ (rw (f, g, e, n))

  abbrev RulesSame : ℕ → Type 0
  RulesSame n = (a i p k : ℕ) (t : List ℕ) → p ≤ max_places → k ≤ p
      → Same (nonterminals_of s kt nt a n i p k t) (rules_out a p k t) (AllRules n p) (times n (nonterminal s kt nt) (mark i p))

  abbrev behind_nonterminal : ℕ → List (List Symbol) → Mark → Parsed (List (List (List Symbol)))
  behind_nonterminal n y m' = and_then (times n (nonterminal s kt nt) m') (λ l m''. got (y ∷ l) m'')

  rules-same : (n : ℕ) → RulesSame n
  unfolding nonterminals_of times nonterminal limited and_then on_read counts_of firsts_of lay_all size_all
  rules-same zero a i p k t l kp = (refl, (refl, omega arith, l, tt))
  rules-same (suc n) a i p k t l kp = go (limited_at s 1 max_productions i) refl (rules-same n)
    where
      next_one : RulesSame n → (m : ℕ) → 1 ≤ m → m ≤ max_productions → (y : List (List Symbol)) (mk : Mark) → Productions m p y mk
          → Same (on_out (productions_out a p k (set t (rules_at + a) k) y mk) (λ q c' t'. nonterminals_of s kt nt (a + 1) n c'.at q (k + m) t'))
          (rules_out a p k t) (AllRules (suc n) p) (behind_nonterminal n y mk)
      next_one ih m least most y mk h =
          let T : List ℕ = sets (sets (set t (rules_at + a) k) (firsts_at + k) (starts_each p y)) p (map word_of (lay_each a y)) in
          let few : k + m ≤ mk.places = omega (arith, h.0, h.1, length-size y) in
          same_then (nonterminals_of s kt nt (a + 1) n mk.byte mk.places (k + m) T) (times n (nonterminal s kt nt) mk)
          (rules_out (a + 1) mk.places (k + m) T)
          (AllRules n mk.places) (λ l m''. got (y ∷ l) m'') (rules_out a p k t) (AllRules (suc n) p)
          (ih (a + 1) mk.byte mk.places (k + m) T h.2 few)
          (λ l m'' q g. (
            q ∙ ap (λ (r : List ℕ). out (Value m''.places (cursor m''.byte)) r)
                (rules-push a p k t y l mk.places m h.1 h.2 kp (sym h.0)),
            (ap suc g.0, omega (arith, h.1, g.1), g.2, ((omega (arith, h.0), omega (arith, h.0), h.3), g.3)),
          ))

      go : (x : Read) → limited_at s 1 max_productions i ≡ x → RulesSame n
          → Same (on_read t x (λ m next. on_out (productions_of s kt nt a m next.at p k (set t (rules_at + a) k))
          (λ q c' t'. nonterminals_of s kt nt (a + 1) n c'.at q (k + m) t')))
          (rules_out a p k t) (AllRules (suc n) p) (and_then (and_then (from_read p x) (λ k m'. times k (read_production s kt nt) m')) (behind_nonterminal n))
      go (Value m next) e ih =
          let b = limited-is s 1 max_productions i refl e in
          same_out (productions_of s kt nt a m next.at p k (set t (rules_at + a) k)) (times m (read_production s kt nt) (mark next.at p))
          (productions_out a p k (set t (rules_at + a) k)) (Productions m p)
          (λ q c' t'. nonterminals_of s kt nt (a + 1) n c'.at q (k + m) t') (behind_nonterminal n) (rules_out a p k t) (AllRules (suc n) p)
          (productions-same m a next.at p k (set t (rules_at + a) k) l)
          (next_one ih m b.0 b.1)
      go (Refused r d) e ih = refl

-- ---- the whole
-- the tables of rules, over what stood there
unfoldable pub laid_out : List ℕ → Rules → List ℕ
laid_out t r =
    finished r.kinds (length r.productions) (size_all r.productions)
    (sets (sets (sets t rules_at (counts_of 0 r.productions)) firsts_at (firsts_of 0 r.productions)) 0 (map word_of (lay_all 0 r.productions)))

abbrev pub pass_out : List ℕ → Rules → Mark → Out
pass_out t r m = out (Value (size_all r.productions) (cursor m.byte)) (laid_out t r)

closing_same : (s t : List ℕ) (kt nt : ℕ) → (1 ≤ kt) × (kt ≤ max_kinds) → (1 ≤ nt) × (nt ≤ max_nonterminals)
    → (l : List (List (List Symbol))) (m : Mark) → AllRules s kt nt nt 0 l m
    → Same (on_out (rules_out s kt nt 0 0 0 t l m) (λ p c t'. closing s kt nt p c t')) (pass_out t) (λ r m. Limited r)
    (ending s (record { kinds = kt; productions = l }) m)
unfolding closing ending laid_out on_read
closing_same s t kt nt hk hn l m h = go (ltb m.byte (length s))
  where
    X : List ℕ
    X = sets (sets (sets t rules_at (counts_of 0 l)) firsts_at (firsts_of 0 l)) 0 (map word_of (lay_all 0 l))

    z : m.places ≡ size_all l
    z = omega (arith, h.1)

    limits : Limited (record { kinds = kt; productions = l })
    limits = record {
      kinds-least = hk.0;
      kinds-most = hk.1;
      some = omega (arith, h.0);
      few = omega (arith, h.0);
      each = rw (← h.0) at h.3;
      small = omega (arith, z);
    }

    go : (b : Bool) → Same
        (cond b (out (Refused (Trailing m.byte) (cursor m.byte)) X) (out (Value m.places (cursor m.byte)) (finished kt nt m.places X)))
        (pass_out t) (λ r m. Limited r)
        (cond b (refused (Trailing m.byte)) (got (record { kinds = kt; productions = l }) m))
    go true = refl
    go false = (rw (z, h.0), limits)

pub pass_same : (s t : List ℕ) → Same (whole_pass s t) (pass_out t) (λ r m. Limited r) (decode s)
unfolding whole_pass decode limited
pass_same s t =
    same_read t (limited_at s 1 max_kinds 0) 0 _ _ (pass_out t) (λ r m. Limited r) (λ kt c e.
    same_read t (limited_at s 1 max_nonterminals c.at) 0 _ _ (pass_out t) (λ r m. Limited r) (λ nt c' e'.
    same_out (nonterminals_of s kt nt 0 nt c'.at 0 0 t) (times nt (nonterminal s kt nt) (mark c'.at 0)) (rules_out s kt nt 0 0 0 t) (AllRules s kt nt nt 0)
    (λ p c'' t'. closing s kt nt p c'' t') (λ l m. ending s (record { kinds = kt; productions = l }) m) (pass_out t) (λ r m. Limited r)
    (rules-same s kt nt nt 0 c'.at 0 0 t (omega arith) (omega arith))
    (closing_same s t kt nt (limited-is s 1 max_kinds 0 refl e) (limited-is s 1 max_nonterminals c.at refl e'))))
