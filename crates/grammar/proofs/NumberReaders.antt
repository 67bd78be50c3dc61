-- The readings of one number: a count or a length within its limits, and a symbol.
use mathlib.Core.Path.{◌≡◌, refl, sym, ap, subst, ◌∙◌}
use mathlib.Core.Logic.{◌⊎◌, inl, inr, ◌↔◌}
use mathlib.Core.Bool.{Bool, true, false, cond, ◌&&◌, not}
use mathlib.Core.List.{List, [], ◌∷◌, ◌++◌, append-nil}
use Prim.Native.Nat.{ℕ, suc, ◌+◌, ◌*◌, ◌/◌, ◌%◌, ◌≤◌, ◌<◌}
use native.Mathlib.Omega.{arith}
use native.Mathlib.Decide.{dec_le, dec_lt}
use lib.ListN.{length, drop}
use lib.Dec.{ltb, leb, eqb, leb→le}
use borrow.Author.Tests.{ltb-true, lt-ltb, le-ltb, le-leb, eq-eqb, ne_eqb, eqb-true, eqb-false}
use Rattle.base.proofs.Booleans.{clash, and_T, true→T}
use Rattle.number.specs.Fetching.{cursor}
use Rattle.number.specs.Number.{number_at, Refuses, legal, shortest, max_number}
use Rattle.number.specs.Forms.{Bytes}
use Rattle.number.proofs.NumberLaws.{limited-refused, limited-below, limited-above, limited-in, symbol-refused, symbol-illegal, symbol-in}
use Rattle.number.proofs.NumberLaws.{refuses, refused-at}
use Rattle.number.proofs.FormLaws.{value-at, value-iff, unfinished-iff, malformed-iff, number-refusals}
use Rattle.grammar.specs.Types.{Refusal, Unfinished, Malformed, OverLimit, UnknownSymbol, Read, Cursor, Value, Refused, Symbol, Token, Nonterminal, End}
use Rattle.grammar.specs.Limits.{max_kinds, max_nonterminals, max_length, max_places}
use Rattle.grammar.specs.Decode.{Legal, Mark, mark, Parsed, got, refused, and_then, limited, written, symbol}
use Rattle.grammar.specs.Encode.{Part, symbol_count, one_symbol, symbol_number, number_of, bytes_of}
use Rattle.grammar.specs.Faults.{Permitted, places_by, places_of, InLimits}
use Rattle.grammar.proofs.PartLaws.{breaking_at, Fault, ends, misspells, breaks, after_parts, Stop, Came, Reader}

-- ---- the symbol that a number writes
pub number-written : (v : ℕ) → symbol_number (written v) ≡ v
unfolding written
number-written v = go (eqb (v % 2) 0) refl
  where
    odd : (v : ℕ) → ¬ (v % 2 ≡ 0) → v % 2 ≡ 1
    odd v h = by (dec_lt 0 (v % 2))
      where
        by : Dec (0 < v % 2) → v % 2 ≡ 1
        by (yes l) = omega arith
        by (no l) = absurd (h (omega arith))

    go : (b : Bool) → eqb (v % 2) 0 ≡ b → symbol_number (cond b (Token (v / 2)) (Nonterminal (v / 2))) ≡ v
    go true e = let h = eqb-true (v % 2) 0 e in omega (arith, h)
    go false e = let h = eqb-false (v % 2) 0 e in omega (arith, odd v h)

pub written-token : (k : ℕ) → written (2 * k) ≡ Token k
unfolding written
written-token k = let e : 2 * k % 2 ≡ 0 = omega arith in let q : 2 * k / 2 ≡ k = omega arith in rw (eq-eqb (2 * k % 2) 0 e, q)

pub written-nonterminal : (a : ℕ) → written (suc (2 * a)) ≡ Nonterminal a
unfolding written
written-nonterminal a =
    let q : suc (2 * a) / 2 ≡ a = omega arith in
    rw (ne_eqb (suc (2 * a) % 2) 0 (λ e. omega arith), q)

pub legal-written : (t n v : ℕ) → legal t n v ≡ true → Legal t n (written v)
unfolding legal written
legal-written t n v h = go (eqb (v % 2) 0) h
  where
    go : (b : Bool) → cond b (leb 1 (v / 2) && leb (v / 2) t) (ltb (v / 2) n) ≡ true → Legal t n (cond b (Token (v / 2)) (Nonterminal (v / 2)))
    go true e =
        let h = and_T (leb 1 (v / 2)) (leb (v / 2) t) (true→T (leb 1 (v / 2) && leb (v / 2) t) e) in
        (leb→le 1 (v / 2) h.0, leb→le (v / 2) t h.1)
    go false e = ltb-true (v / 2) n e

pub written-legal : (t n v : ℕ) → Legal t n (written v) → legal t n v ≡ true
unfolding legal written
written-legal t n v h = go (eqb (v % 2) 0) h
  where
    go : (b : Bool) → Legal t n (cond b (Token (v / 2)) (Nonterminal (v / 2))) → cond b (leb 1 (v / 2) && leb (v / 2) t) (ltb (v / 2) n) ≡ true
    go true h = rw (le-leb 1 (v / 2) h.0, le-leb (v / 2) t h.1)
    go false h = lt-ltb (v / 2) n h

-- ---- one number
bytes_one : (x : Part) → bytes_of (x ∷ []) ≡ shortest (number_of x)
unfolding bytes_of
bytes_one x = append-nil (shortest (number_of x))

places-one : (x : Part) → places_of (x ∷ []) ≡ places_by x
unfolding places_of
places-one x = omega arith

module _ (s : List ℕ) (t n : ℕ) (m : Mark) (x : Part) (r : Refusal) where
  pub stop-here : m.places ≤ max_places → Fault t n m.places m.byte x (drop m.byte s) r → Stop s t n m (x ∷ []) r
  unfolding bytes_of places_of
  stop-here h y =
      let b : m.byte + 0 ≡ m.byte = omega arith in
      let p : m.places + 0 ≡ m.places = omega arith in record {
        ahead = [];
        due = x;
        behind = [];
        left = drop m.byte s;
        numbers = refl;
        keeps = (tt, omega arith);
        bytes = refl;
        fault = rw (b, p) y;
      }

  pub here-stop : Stop s t n m (x ∷ []) r → Fault t n m.places m.byte x (drop m.byte s) r
  unfolding bytes_of places_of
  here-stop z = go z.ahead z.numbers z.bytes z.fault
    where
      go : (l : List Part) → x ∷ [] ≡ l ++ (z.due ∷ z.behind) → drop m.byte s ≡ bytes_of l ++ z.left
          → Fault t n (m.places + places_of l) (m.byte + length (bytes_of l)) z.due z.left r
          → Fault t n m.places m.byte x (drop m.byte s) r
      go [] e d y =
          let b : m.byte + 0 ≡ m.byte = omega arith in
          let p : m.places + 0 ≡ m.places = omega arith in
          let q : x ≡ z.due = cc in
          rw (d, q) (rw (b, p) at y)
      go (a ∷ []) e d y = clash (cc)
      go (a ∷ b ∷ l) e d y = clash (cc)

module _ (s : List ℕ) (bytes : Bytes s) (t n : ℕ) where
  -- ---- any reading of one number: it passes the number reader's refusals on, takes a number that keeps the limits, and refuses any other
  module _ {A : Type 0} (f : Mark → Parsed A) (w : A → Part) (name : ℕ → A) (named : (v : ℕ) → number_of (w (name v)) ≡ v)
      (passes : (m : Mark) (r : Refusal) → Refuses (number_at s m.byte) r → f m ≡ refused r)
      (takes : (m : Mark) (v : ℕ) (c : Cursor) → number_at s m.byte ≡ Value v c → InLimits t n m.places (w (name v) ∷ [])
      → f m ≡ got (name v) (mark c.at (m.places + places_by (w (name v)))))
      (bars : (m : Mark) (v : ℕ) (c : Cursor) → number_at s m.byte ≡ Value v c → ¬ InLimits t n m.places (w (name v) ∷ []) → m.places ≤ max_places
      → f m ≡ refused (breaking_at m.byte (w (name v))))
      (keeps? : (p v : ℕ) → Dec (InLimits t n p (w (name v) ∷ [])))
      (low : (p : ℕ) (x : A) → InLimits t n p (w x ∷ []) → number_of (w x) ≤ max_number)
      (renamed : (p : ℕ) (x : A) → InLimits t n p (w x ∷ []) → name (number_of (w x)) ≡ x)
      (back : (p : ℕ) (x : A) → InLimits t n p (w (name (number_of (w x))) ∷ []) → InLimits t n p (w x ∷ []))
      (kind : (at : ℕ) (x y : A) → breaking_at at (w x) ≡ breaking_at at (w y)) where
    one-came : (m : Mark) → m.places ≤ max_places → Came s t n m (λ x. Unit {0}) (λ x. w x ∷ []) (f m)
    one-came m h = go (number_at s m.byte) refl
      where
        here : (r : Refusal) → Refuses (number_at s m.byte) r → (r ≡ Unfinished m.byte) ⊎ (r ≡ Malformed m.byte)
            → Fault t n m.places m.byte (w (name 0)) (drop m.byte s) r
        here r e (inl q) = rw q (ends ((unfinished-iff s bytes m.byte).0 (rw q at e)))
        here r e (inr q) = rw q (misspells ((malformed-iff s bytes m.byte).0 (rw q at e)))

        by : (v : ℕ) (c : Cursor) → number_at s m.byte ≡ Value v c → Dec (InLimits t n m.places (w (name v) ∷ []))
            → Came s t n m (λ x. Unit {0}) (λ x. w x ∷ []) (f m)
        by v c e (yes k) =
            let q = (value-iff s bytes m.byte v c).0 e in
            let z : bytes_of (w (name v) ∷ []) ≡ shortest v = bytes_one (w (name v)) ∙ ap shortest (named v) in
            let u : c.at ≡ m.byte + length (bytes_of (w (name v) ∷ [])) = ap (λ (c : Cursor). c.at) q.1 ∙ (rw z) in
            rw (takes m v c e k) (
              tt,
              ap (λ (b : ℕ). mark b (m.places + places_by (w (name v)))) u
                  ∙ ap (λ (p : ℕ). mark (m.byte + length (bytes_of (w (name v) ∷ []))) (m.places + p)) (sym (places-one (w (name v)))),
              k,
              q.2 ∙ ap (λ (l : List ℕ). l ++ drop c.at s) (sym z),
            )
        by v c e (no k) =
            let q = (value-iff s bytes m.byte v c).0 e in
            let z = named v in
            rw (bars m v c e k h) (
              name v,
              tt,
              stop-here s t n m (w (name v)) (breaking_at m.byte (w (name v))) h
                  (breaks (drop c.at s) (rw z q.0) (q.2 ∙ ap (λ (u : ℕ). shortest u ++ drop c.at s) (sym z)) k),
            )

        go : (x : Read) → number_at s m.byte ≡ x → Came s t n m (λ x. Unit {0}) (λ x. w x ∷ []) (f m)
        go (Value v c) e = by v c e (keeps? m.places v)
        go (Refused r c) e =
            let q = refuses (sym e) in
            rw (passes m r q) (name 0, tt, stop-here s t n m (w (name 0)) r h (here r q (number-refusals s bytes m.byte r q)))

    one-gets : (m : Mark) (x : A) → Unit {0} → InLimits t n m.places (w x ∷ []) → (rest : List ℕ) → drop m.byte s ≡ bytes_of (w x ∷ []) ++ rest
        → f m ≡ got x (after_parts m (w x ∷ []))
    one-gets m x u k rest d =
        let v : ℕ = number_of (w x) in
        let e = value-at s m.byte v rest (low m.places x k) (d ∙ ap (λ (l : List ℕ). l ++ rest) (bytes_one (w x))) in
        let q = renamed m.places x k in
        takes m v (cursor (m.byte + length (shortest v))) e (subst (λ (y : A). InLimits t n m.places (w y ∷ [])) (sym q) k)
        ∙ ap (λ (y : A). got y (mark (m.byte + length (shortest v)) (m.places + places_by (w y)))) q
        ∙ ap (λ (l : List ℕ). got x (mark (m.byte + length l) (m.places + places_by (w x)))) (sym (bytes_one (w x)))
        ∙ ap (λ (p : ℕ). got x (mark (m.byte + length (bytes_of (w x ∷ []))) (m.places + p))) (sym (places-one (w x)))

    one-stops : (m : Mark) (x : A) (r : Refusal) → Unit {0} → Stop s t n m (w x ∷ []) r → f m ≡ refused r
    one-stops m x r u z = go r (here-stop s t n m (w x) r z)
      where
        room : m.places ≤ max_places
        room = let k = z.keeps.1 in omega (arith, k)

        go : (r : Refusal) → Fault t n m.places m.byte (w x) (drop m.byte s) r → f m ≡ refused r
        go r (ends h) = passes m (Unfinished m.byte) ((unfinished-iff s bytes m.byte).1 h)
        go r (misspells h) = passes m (Malformed m.byte) ((malformed-iff s bytes m.byte).1 h)
        go r (breaks rest l d k) =
            let v : ℕ = number_of (w x) in
            let e = value-at s m.byte v rest l d in
            bars m v (cursor (m.byte + length (shortest v))) e (λ y. k (back m.places x y)) room ∙ ap refused (kind m.byte (name v) x)

    pub one_reader : Reader s t n f (λ x. Unit {0}) (λ x. w x ∷ [])
    one_reader = record { came = one-came; gets = one-gets; stops = one-stops }

  -- ---- a number within limits
  module _ (lo hi : ℕ) (m : Mark) where
    limited-passes : (r : Refusal) → Refuses (number_at s m.byte) r → limited s lo hi m ≡ refused r
    unfolding limited
    limited-passes r h = let q = refused-at (number_at s m.byte) r h in rw (sym (limited-refused s lo hi m.byte refl q.1) ∙ q.1)

    module _ (v : ℕ) (c : Cursor) (e : number_at s m.byte ≡ Value v c) where
      limited-takes : lo ≤ v → v ≤ hi → limited s lo hi m ≡ got v (mark c.at m.places)
      unfolding limited
      limited-takes h k = rw (← limited-in s lo hi m.byte refl e h k)

      limited-bars : ¬ ((lo ≤ v) × (v ≤ hi)) → limited s lo hi m ≡ refused (OverLimit m.byte)
      unfolding limited
      limited-bars k = go (dec_le lo v) (dec_le v hi)
        where
          go : Dec (lo ≤ v) → Dec (v ≤ hi) → limited s lo hi m ≡ refused (OverLimit m.byte)
          go (yes a) (yes b) = absurd (k (a, b))
          go (no a) b = rw (← limited-below s lo hi m.byte refl e (omega arith))
          go (yes a) (no b) = rw (← limited-above s lo hi m.byte refl e (omega arith))

  module _ (lo hi : ℕ) (c : ℕ → Part) (few : hi ≤ max_number) (number : (v : ℕ) → number_of (c v) ≡ v) (free : (v : ℕ) → places_by (c v) ≡ 0)
      (within : (v : ℕ) → Permitted t n (c v) ↔ ((lo ≤ v) × (v ≤ hi)))
      (over : (at v : ℕ) → breaking_at at (c v) ≡ OverLimit at) where
    count-in-limits : (p v : ℕ) → p ≤ max_places → Permitted t n (c v) → InLimits t n p (c v ∷ [])
    count-in-limits p v h k = ((k, tt), rw (places-one (c v), free v) (omega arith))

    count-in-limits? : (p v : ℕ) → Dec (InLimits t n p (c v ∷ []))
    count-in-limits? p v = go (dec_le lo v) (dec_le v hi) (dec_le p max_places)
      where
        go : Dec (lo ≤ v) → Dec (v ≤ hi) → Dec (p ≤ max_places) → Dec (InLimits t n p (c v ∷ []))
        go (yes a) (yes b) (yes h) = yes (count-in-limits p v h ((within v).1 (a, b)))
        go (no a) b h = no (λ k. a ((within v).0 k.0.0).0)
        go (yes a) (no b) h = no (λ k. b ((within v).0 k.0.0).1)
        go (yes a) (yes b) (no h) = no (λ k. h (let q = k.1 in omega (arith, q)))

    pub count-reader : Reader s t n (limited s lo hi) (λ v. Unit {0}) (λ v. c v ∷ [])
    count-reader =
        one_reader (limited s lo hi) c (λ v. v) number (limited-passes lo hi)
        (λ m v d e k.
        let z : m.places + places_by (c v) ≡ m.places = rw (free v) (omega arith) in
        rw z (limited-takes lo hi m v d e ((within v).0 k.0.0).0 ((within v).0 k.0.0).1))
        (λ m v d e k h. limited-bars lo hi m v d e (λ q. k (count-in-limits m.places v h ((within v).1 q))) ∙ ap refused (sym (over m.byte v)))
        count-in-limits?
        (λ p v k. rw (number v) (let h = ((within v).0 k.0.0).1 in omega (arith, h)))
        (λ p v k. number v)
        (λ p v k. rw (number v) at k)
        (λ at v u. over at v ∙ sym (over at u))

  -- ---- a length: the places of its production are taken
  unfoldable pub length_at : Mark → Parsed ℕ
  unfolding and_then limited
  length_at m =
      and_then (limited s 0 max_length m) (λ k m'.
      cond (ltb max_places (m.places + suc k)) (refused (OverLimit m.byte)) (got k (mark m'.byte (m.places + suc k))))

  length-in-limits? : (p v : ℕ) → Dec (InLimits t n p (symbol_count v ∷ []))
  unfolding places_of
  length-in-limits? p v = go (dec_le v max_length) (dec_le (p + (suc v + 0)) max_places)
    where
      go : Dec (v ≤ max_length) → Dec (p + (suc v + 0) ≤ max_places) → Dec (InLimits t n p (symbol_count v ∷ []))
      go (yes a) (yes b) = yes ((a, tt), b)
      go (no a) b = no (λ k. a k.0.0)
      go (yes a) (no b) = no (λ k. b k.1)

  pub length-reader : Reader s t n length_at (λ v. Unit {0}) (λ v. symbol_count v ∷ [])
  unfolding length_at and_then places_of
  length-reader =
      one_reader length_at symbol_count (λ v. v) (λ v. refl) (λ m r e. rw (limited-passes 0 max_length m r e))
      (λ m v c e k.
      let q = k.1 in
      rw (limited-takes 0 max_length m v c e (omega arith) k.0.0, le-ltb max_places (m.places + suc v) (omega (arith, q))))
      bars length-in-limits? (λ p v k. let h = k.0.0 in omega (arith, h)) (λ p v k. refl) (λ p v k. k) (λ at v u. refl)
    where
      bars : (m : Mark) (v : ℕ) (c : Cursor) → number_at s m.byte ≡ Value v c → ¬ InLimits t n m.places (symbol_count v ∷ []) → m.places ≤ max_places
          → length_at m ≡ refused (OverLimit m.byte)
      bars m v c e k h = go (dec_le v max_length) (dec_lt max_places (m.places + suc v))
        where
          go : Dec (v ≤ max_length) → Dec (max_places < m.places + suc v) → length_at m ≡ refused (OverLimit m.byte)
          go (yes a) (yes b) = rw (limited-takes 0 max_length m v c e (omega arith) a, lt-ltb max_places (m.places + suc v) b)
          go (yes a) (no b) = absurd (k ((a, tt), omega arith))
          go (no a) b = rw (limited-bars 0 max_length m v c e (λ q. a q.1))

  -- ---- a symbol
  module _ (kinds-few : t ≤ max_kinds) (few : n ≤ max_nonterminals) where
    symbol_low : (x : Symbol) → Legal t n x → symbol_number x ≤ max_number
    symbol_low (Token k) h = let a = h.1 in omega (arith, a)
    symbol_low (Nonterminal a) h = omega arith
    symbol_low End h = absurd h

    symbol-in-limits? : (p v : ℕ) → Dec (InLimits t n p (one_symbol (written v) ∷ []))
    unfolding places_of
    symbol-in-limits? p v = go (legal t n v) refl (dec_le (p + (0 + 0)) max_places)
      where
        go : (b : Bool) → legal t n v ≡ b → Dec (p + (0 + 0) ≤ max_places) → Dec (InLimits t n p (one_symbol (written v) ∷ []))
        go true e (yes h) = yes ((legal-written t n v e, tt), h)
        go true e (no h) = no (λ k. h k.1)
        go false e h = no (λ k. let q = written-legal t n v k.0.0 in clash (cc))

    symbol-back : (p : ℕ) (x : Symbol) → InLimits t n p (one_symbol (written (symbol_number x)) ∷ []) → InLimits t n p (one_symbol x ∷ [])
    unfolding places_of
    symbol-back p x k = ((go x k.0.0, tt), k.1)
      where
        go : (x : Symbol) → Legal t n (written (symbol_number x)) → Legal t n x
        go (Token a) h = rw (written-token a) at h
        go (Nonterminal a) h = rw (written-nonterminal a) at h
        go End h = let q : written 0 ≡ Token 0 = written-token 0 in let z : Legal t n (Token 0) = rw q at h in absurd (let y = z.0 in omega (arith, y))

    symbol-renamed : (x : Symbol) → Legal t n x → written (symbol_number x) ≡ x
    symbol-renamed (Token a) h = written-token a
    symbol-renamed (Nonterminal a) h = written-nonterminal a
    symbol-renamed End h = absurd h

    pub symbol-reader : Reader s t n (symbol s t n) (λ x. Unit {0}) (λ x. one_symbol x ∷ [])
    unfolding symbol and_then places_of
    symbol-reader =
        one_reader (symbol s t n) one_symbol written number-written
        (λ m r h. let q = refused-at (number_at s m.byte) r h in rw (sym (symbol-refused s t n m.byte refl q.1) ∙ q.1))
        (λ m v c e k.
        let q : m.places + 0 ≡ m.places = omega arith in
        let l : not (legal t n v) ≡ false = rw (written-legal t n v k.0.0) in
        rw (q, ← symbol-in s t n m.byte refl e refl l))
        bars symbol-in-limits? (λ p x k. symbol_low x k.0.0) (λ p x k. symbol-renamed x k.0.0) symbol-back (λ at x y. refl)
      where
        bars : (m : Mark) (v : ℕ) (c : Cursor) → number_at s m.byte ≡ Value v c → ¬ InLimits t n m.places (one_symbol (written v) ∷ [])
            → m.places ≤ max_places → symbol s t n m ≡ refused (UnknownSymbol m.byte)
        bars m v c e k h = go (legal t n v) refl
          where
            go : (b : Bool) → legal t n v ≡ b → symbol s t n m ≡ refused (UnknownSymbol m.byte)
            go true l = absurd (k ((legal-written t n v l, tt), omega arith))
            go false l =
                let z : not (legal t n v) ≡ true = rw l in
                rw (← symbol-illegal s t n m.byte refl e refl z)
