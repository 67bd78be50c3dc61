-- How far a grammar's bytes are looked at. Bytes that say rules are few, and what lies behind the first bytes cannot change what bytes say.
use mathlib.Core.Path.{◌≡◌, refl, sym, ap, ◌∙◌}
use mathlib.Core.Bool.{Bool, true, false, cond}
use mathlib.Core.List.{List, [], ◌∷◌}
use Prim.Native.Nat.{ℕ, zero, suc, ◌+◌, ◌*◌, ◌%◌, ◌≤◌, ◌<◌}
use native.Mathlib.Omega.{arith}
use native.Mathlib.Decide.{dec_le}
use lib.Dec.{leb, ltb, eqb}
use lib.ListN.{length, get_or, take, length-take}
use lib.Seq.{take_all}
use borrow.Author.Tests.{ltb-false, lt-leb, lt-ltb}
use Rattle.base.proofs.Booleans.{clash}
use Rattle.number.specs.Fetching.{cursor}
use Rattle.number.specs.Number.{third_byte, second_byte, number_at, tested, limited_at, symbol_at}
use Rattle.number.proofs.NumberLaws.{limited-is}
use Rattle.grammar.specs.Types.{Read, Value, Refused, Refusal, Unfinished, Malformed, OverLimit, Trailing}
use Rattle.grammar.specs.Limits.{max_kinds, max_nonterminals, max_productions, max_length, max_places}
use Rattle.grammar.specs.Decode.{Rules, Mark, mark, Parsed, got, refused, and_then, times, from_read, limited, written, symbol, read_production, nonterminal}
use Rattle.grammar.specs.Decode.{ending, decode}

-- three bytes for each of 34 numbers: the highest kind, how many nonterminals, and how many productions each of them has
abbrev count_bytes : ℕ
count_bytes = 102

-- and three for each place: a production's length, or a symbol
abbrev pub max_bytes : ℕ
max_bytes = 867

-- ---- a number has at most three bytes
-- a number that was read ends at n at the latest
abbrev Upto : ℕ → Read → Type 0
Upto n (Value v c) = c.at ≤ n
Upto n (Refused r c) = Unit {0}

module _ (s : List ℕ) (at n : ℕ) where
  third-upto : (low middle here : ℕ) → here + 1 ≤ n → Upto n (third_byte s at low middle here)
  unfolding third_byte
  third-upto low middle here h = go (low % 128 + (middle % 128 + get_or s here 0 * 128) * 128) (leb (length s) here) (eqb (get_or s here 0) 0)
      (ltb 3 (get_or s here 0))
    where
      go : (v : ℕ) (a b c : Bool) → Upto n
          (cond a (Refused (Unfinished at) (cursor here)) (cond b (Refused (Malformed at) (cursor (here + 1)))
          (cond c (Refused (Malformed at) (cursor (here + 1))) (Value v (cursor (here + 1))))))
      go v true b c = tt
      go v false true c = tt
      go v false false true = tt
      go v false false false = h

  second-upto : (low here : ℕ) → here + 2 ≤ n → Upto n (second_byte s at low here)
  unfolding second_byte
  second-upto low here h =
      go (low % 128 + get_or s here 0 * 128) (leb (length s) here) (eqb (get_or s here 0) 0) (ltb (get_or s here 0) 128)
      (third_byte s at low (get_or s here 0) (here + 1))
      (third-upto low (get_or s here 0) (here + 1) (omega arith))
    where
      go : (v : ℕ) (a b c : Bool) (x : Read) → Upto n x
          → Upto n
          (cond a (Refused (Unfinished at) (cursor here)) (cond b (Refused (Malformed at) (cursor (here + 1))) (cond c (Value v (cursor (here + 1))) x)))
      go v true b c x y = tt
      go v false true c x y = tt
      go v false false true x y = omega arith
      go v false false false x y = y

  number-upto : at + 3 ≤ n → Upto n (number_at s at)
  unfolding number_at
  number-upto h =
      go (get_or s at 0) (leb (length s) at) (ltb (get_or s at 0) 128) (second_byte s at (get_or s at 0) (at + 1))
      (second-upto (get_or s at 0) (at + 1) (omega arith))
    where
      go : (v : ℕ) (a b : Bool) (x : Read) → Upto n x → Upto n (cond a (Refused (Unfinished at) (cursor at)) (cond b (Value v (cursor (at + 1))) x))
      go v true b x y = tt
      go v false true x y = omega arith
      go v false false x y = y

tested-upto : (n : ℕ) (ok : ℕ → Bool) (r : Refusal) (x : Read) → Upto n x → Upto n (tested ok r x)
unfolding tested
tested-upto n ok r (Value v c) h = go (ok v)
  where
    go : (b : Bool) → Upto n (cond b (Value v c) (Refused r c))
    go true = h
    go false = tt
tested-upto n ok r (Refused q c) h = tt

limited-upto : (s : List ℕ) (lo hi at : ℕ) → Upto (at + 3) (limited_at s lo hi at)
unfolding limited_at
limited-upto s lo hi at = tested-upto (at + 3) _ _ (number_at s at) (number-upto s at (at + 3) (omega arith))

symbol-upto : (s : List ℕ) (t n at : ℕ) → Upto (at + 3) (symbol_at s t n at)
unfolding symbol_at
symbol-upto s t n at = tested-upto (at + 3) _ _ (number_at s at) (number-upto s at (at + 3) (omega arith))

-- ---- readings
-- what was read, and where it ended, has a property
data Ends {A : Type 0} (Q : A → Mark → Type 0) : Parsed A → Type 0 where
  well : {y : A} {m : Mark} → Q y m → Ends Q (got y m)
  none : {r : Refusal} → Ends Q (refused r)

ends-then : {A B : Type 0} (Q : A → Mark → Type 0) (Q' : B → Mark → Type 0) (x : Parsed A) (h : A → Mark → Parsed B) → Ends Q x
    → ((y : A) (m : Mark) → Q y m → Ends Q' (h y m)) → Ends Q' (and_then x h)
unfolding and_then
ends-then Q Q' x h (well {y = y} {m = m} q) k = k y m q
ends-then Q Q' x h none k = none

weaker : {A : Type 0} {Q Q' : A → Mark → Type 0} (x : Parsed A) → Ends Q x → ((y : A) (m : Mark) → Q y m → Q' y m) → Ends Q' x
weaker x (well {y = y} {m = m} q) h = well (h y m q)
weaker x none h = none

-- n readings, each of which lowers what is left
ends-times : {A : Type 0} (P : ℕ → Mark → Type 0) (f : Mark → Parsed A) → ((n : ℕ) (m : Mark) → P (suc n) m → Ends (λ _ m'. P n m') (f m))
    → (n : ℕ) (m : Mark) → P n m → Ends (λ _ m'. P 0 m') (times n f m)
unfolding times
ends-times P f h zero m p = well p
ends-times P f h (suc n) m p =
    ends-then (λ _ m'. P n m') (λ _ m'. P 0 m') (f m) (λ x m'. and_then (times n f m') (λ l m''. got (x ∷ l) m'')) (h n m p)
    (λ x m' q. ends-then (λ _ m''. P 0 m'') (λ _ m''. P 0 m'') (times n f m') (λ l m''. got (x ∷ l) m'') (ends-times P f h n m' q)
    (λ l m'' z. well z))

module _ (s : List ℕ) where
  limited-ends : (lo hi : ℕ) (m : Mark) → Ends (λ v m'. (v ≤ hi) × (m'.byte ≤ m.byte + 3) × (m'.places ≡ m.places)) (limited s lo hi m)
  unfolding limited
  limited-ends lo hi m = go (limited_at s lo hi m.byte) refl upto
    where
      upto : Upto (m.byte + 3) (limited_at s lo hi m.byte)
      upto = limited-upto s lo hi m.byte

      go : (x : Read) → limited_at s lo hi m.byte ≡ x → Upto (m.byte + 3) x
          → Ends (λ v m'. (v ≤ hi) × (m'.byte ≤ m.byte + 3) × (m'.places ≡ m.places)) (from_read m.places x)
      go (Value v c) e u = well ((limited-is s lo hi m.byte refl e).1, u, refl)
      go (Refused r c) e u = none

  module _ (t n : ℕ) where
    symbol-ends : (m : Mark) → Ends (λ _ m'. m'.byte ≤ m.byte + 3) (symbol s t n m)
    unfolding symbol
    symbol-ends m =
        ends-then (λ _ m'. m'.byte ≤ m.byte + 3) (λ _ m'. m'.byte ≤ m.byte + 3) (from_read m.places (symbol_at s t n m.byte))
        (λ v m'. got (written v) m')
        (go (symbol_at s t n m.byte) (symbol-upto s t n m.byte)) (λ v m' h. well h)
      where
        go : (x : Read) → Upto (m.byte + 3) x → Ends (λ _ m'. m'.byte ≤ m.byte + 3) (from_read m.places x)
        go (Value v c) u = well u
        go (Refused r c) u = none

    -- with d bytes still to come, no more than three for each place and for each of the other numbers
    abbrev Track : ℕ → Mark → Type 0
    Track d m = (m.byte + d ≤ 3 * m.places + count_bytes) × (m.places ≤ max_places)

    symbols-end : (b k : ℕ) (m : Mark) → m.byte + 3 * k ≤ b → Ends (λ _ m'. m'.byte ≤ b) (times k (symbol s t n) m)
    symbols-end b k m h =
        onto
        (ends-times (λ k m. m.byte + 3 * k ≤ b) (symbol s t n)
        (λ k m h. weaker (symbol s t n m) (symbol-ends m) (λ y m' l. omega arith)) k m h)
      where
        onto : Ends (λ _ m'. m'.byte + 3 * 0 ≤ b) (times k (symbol s t n) m) → Ends (λ _ m'. m'.byte ≤ b) (times k (symbol s t n) m)
        onto x = weaker (times k (symbol s t n) m) x (λ y m' l. omega arith)

    production-ends : (d : ℕ) (m : Mark) → Track d m → Ends (λ _ m'. Track d m') (read_production s t n m)
    unfolding read_production
    production-ends d m (h, l) =
        ends-then (λ v m'. (v ≤ max_length) × (m'.byte ≤ m.byte + 3) × (m'.places ≡ m.places)) (λ _ m'. Track d m')
        (limited s 0 max_length m)
        (λ k m'. cond (ltb max_places (m.places + suc k)) (refused (OverLimit m.byte))
        (and_then (times k (symbol s t n) m') (λ l m''. got l (mark m''.byte (m.places + suc k)))))
        (limited-ends 0 max_length m) (λ k m' q. go k m' q.1 (ltb max_places (m.places + suc k)) refl)
      where
        go : (k : ℕ) (m' : Mark) → m'.byte ≤ m.byte + 3 → (b : Bool) → ltb max_places (m.places + suc k) ≡ b
            → Ends (λ _ m'. Track d m') (cond b (refused (OverLimit m.byte))
            (and_then (times k (symbol s t n) m') (λ l m''. got l (mark m''.byte (m.places + suc k)))))
        go k m' q true e = none
        go k m' q false e =
            let u = ltb-false max_places (m.places + suc k) e in
            ends-then (λ _ m''. m''.byte ≤ m.byte + 3 + 3 * k) (λ _ m'. Track d m') (times k (symbol s t n) m')
            (λ l m''. got l (mark m''.byte (m.places + suc k)))
            (symbols-end (m.byte + 3 + 3 * k) k m' (omega arith)) (λ y m'' z. well (omega arith, u))

    nonterminal-ends : (d : ℕ) (m : Mark) → Track (3 + d) m → Ends (λ _ m'. Track d m') (nonterminal s t n m)
    unfolding nonterminal
    nonterminal-ends d m (h, l) =
        ends-then (λ v m'. (v ≤ max_productions) × (m'.byte ≤ m.byte + 3) × (m'.places ≡ m.places)) (λ _ m'. Track d m')
        (limited s 1 max_productions m)
        (λ k m'. times k (read_production s t n) m') (limited-ends 1 max_productions m)
        (λ k m' q. let a = q.1 in let b = q.2 in
        ends-times (λ _ m. Track d m) (read_production s t n) (λ _ m z. production-ends d m z) k m' (omega arith, omega arith))

    nonterminals-end : (k : ℕ) (m : Mark) → Track (3 * k) m → Ends (λ _ m'. Track 0 m') (times k (nonterminal s t n) m)
    nonterminals-end k m h =
        ends-times (λ k m. Track (3 * k) m) (nonterminal s t n) (λ k m z. nonterminal-ends (3 * k) m (let a = z.0 in (omega arith, z.1))) k m h

  -- all bytes are read
  ending-ends : {A : Type 0} (x : A) (m : Mark) → m.byte ≤ max_bytes → Ends (λ _ _. length s ≤ max_bytes) (ending s x m)
  unfolding ending
  ending-ends x m h = go (ltb m.byte (length s)) refl
    where
      go : (b : Bool) → ltb m.byte (length s) ≡ b → Ends (λ _ _. length s ≤ max_bytes) (cond b (refused (Trailing m.byte)) (got x m))
      go true e = none
      go false e = let u = ltb-false m.byte (length s) e in well (omega arith)

  decode-ends : Ends (λ _ _. length s ≤ max_bytes) (decode s)
  unfolding decode
  decode-ends =
      ends-then (λ v m. (v ≤ max_kinds) × (m.byte ≤ 3) × (m.places ≡ 0)) (λ _ _. length s ≤ max_bytes) (limited s 1 max_kinds (mark 0 0)) _
      (limited-ends 1 max_kinds (mark 0 0)) (λ t m q.
      ends-then (λ v m'. (v ≤ max_nonterminals) × (m'.byte ≤ m.byte + 3) × (m'.places ≡ m.places)) (λ _ _. length s ≤ max_bytes)
      (limited s 1 max_nonterminals m) _
      (limited-ends 1 max_nonterminals m) (λ n m' q'.
      let a = q.1 in
      let b = q.2 in
      let c = q'.0 in
      let d = q'.1 in
      let e = q'.2 in
      ends-then (λ _ m''. Track t n 0 m'') (λ _ _. length s ≤ max_bytes) (times n (nonterminal s t n) m') _
      (nonterminals-end t n n m' (omega arith, omega arith))
      (λ l m'' z. let y = z.0 in let x = z.1 in ending-ends (record { kinds = t; productions = l }) m'' (omega arith))))

-- no more bytes say rules
pub decode-few : (s : List ℕ) (r : Rules) (m : Mark) → decode s ≡ got r m → length s ≤ max_bytes
decode-few s r m e = go (decode-ends s) e
  where
    go : {x : Parsed Rules} → Ends (λ _ _. length s ≤ max_bytes) x → x ≡ got r m → length s ≤ max_bytes
    go (well h) e = h
    go none e = clash (cc)

-- ---- what is looked at
-- the bytes that are looked at: those that can say rules, and one number behind them
abbrev pub looked : ℕ
looked = max_bytes + 3

-- two rows of bytes that are the same as far as n: one ends there where the other does, and the bytes are the same
pub record Alike (n : ℕ) (s s' : List ℕ) : Type 0 where
  pub ends : (at : ℕ) → at < n → leb (length s) at ≡ leb (length s') at
  pub on : (at : ℕ) → at < n → ltb at (length s) ≡ ltb at (length s')
  pub bytes : (at : ℕ) → at < n → get_or s at 0 ≡ get_or s' at 0

-- one reading after another: the same where the first is, and the second wherever the first may end
same_then : {A B : Type 0} (Q : A → Mark → Type 0) (x x' : Parsed A) (h h' : A → Mark → Parsed B) → x ≡ x' → Ends Q x
    → ((y : A) (m : Mark) → Q y m → h y m ≡ h' y m) → and_then x h ≡ and_then x' h'
unfolding and_then
same_then Q x x' h h' e (well {y = y} {m = m} q) k = rw (← e) (k y m q)
same_then Q x x' h h' e none k = rw (← e)

same-times : {A : Type 0} (P : ℕ → Mark → Type 0) (f f' : Mark → Parsed A) → ((n : ℕ) (m : Mark) → P (suc n) m → Ends (λ _ m'. P n m') (f m))
    → ((n : ℕ) (m : Mark) → P (suc n) m → f m ≡ f' m) → (n : ℕ) (m : Mark) → P n m → times n f m ≡ times n f' m
unfolding times
same-times P f f' h e zero m p = refl
same-times P f f' h e (suc n) m p =
    same_then (λ _ m'. P n m') (f m) (f' m) (λ x m'. and_then (times n f m') (λ l m''. got (x ∷ l) m''))
    (λ x m'. and_then (times n f' m') (λ l m''. got (x ∷ l) m''))
    (e n m p) (h n m p)
    (λ x m' q. ap (λ (y : Parsed _). and_then y (λ l m''. got (x ∷ l) m'')) (same-times P f f' h e n m' q))

module _ {s s' : List ℕ} (alike : Alike looked s s') where
  third-same : (at low middle here : ℕ) → here < looked → third_byte s at low middle here ≡ third_byte s' at low middle here
  unfolding third_byte
  third-same at low middle here h = rw (alike.ends here h, alike.bytes here h)

  second-same : (at low here : ℕ) → here + 1 < looked → second_byte s at low here ≡ second_byte s' at low here
  unfolding second_byte
  second-same at low here h =
      rw (alike.ends here (omega arith), alike.bytes here (omega arith), third-same at low (get_or s' here 0) (here + 1) h)

  number_same : (at : ℕ) → at + 2 < looked → number_at s at ≡ number_at s' at
  unfolding number_at
  number_same at h =
      rw (alike.ends at (omega arith), alike.bytes at (omega arith), second-same at (get_or s' at 0) (at + 1) (omega arith))

  limited-same : (lo hi : ℕ) (m : Mark) → m.byte ≤ max_bytes → limited s lo hi m ≡ limited s' lo hi m
  unfolding limited limited_at
  limited-same lo hi m h = rw (number_same m.byte (omega arith))

  module _ (t n : ℕ) where
    symbol-same : (m : Mark) → m.byte ≤ max_bytes → symbol s t n m ≡ symbol s' t n m
    unfolding symbol symbol_at
    symbol-same m h = rw (number_same m.byte (omega arith))

    symbols-same : (k : ℕ) (m : Mark) → m.byte + 3 * k ≤ max_bytes → times k (symbol s t n) m ≡ times k (symbol s' t n) m
    symbols-same k m h =
        same-times (λ k m. m.byte + 3 * k ≤ max_bytes) (symbol s t n) (symbol s' t n)
        (λ k m l. weaker (symbol s t n m) (symbol-ends s t n m) (λ y m' q. omega arith)) (λ k m l. symbol-same m (omega arith)) k m h

    production-same : (d : ℕ) (m : Mark) → Track s t n d m → read_production s t n m ≡ read_production s' t n m
    unfolding read_production
    production-same d m (h, l) =
        same_then (λ v m'. (v ≤ max_length) × (m'.byte ≤ m.byte + 3) × (m'.places ≡ m.places)) (limited s 0 max_length m) (limited s' 0 max_length m)
        (λ k m'. cond (ltb max_places (m.places + suc k)) (refused (OverLimit m.byte))
        (and_then (times k (symbol s t n) m') (λ l m''. got l (mark m''.byte (m.places + suc k)))))
        (λ k m'. cond (ltb max_places (m.places + suc k)) (refused (OverLimit m.byte))
        (and_then (times k (symbol s' t n) m') (λ l m''. got l (mark m''.byte (m.places + suc k)))))
        (limited-same 0 max_length m (omega arith)) (limited-ends s 0 max_length m)
        (λ k m' q. go k m' q.1 (ltb max_places (m.places + suc k)) refl)
      where
        go : (k : ℕ) (m' : Mark) → m'.byte ≤ m.byte + 3 → (b : Bool) → ltb max_places (m.places + suc k) ≡ b
            → cond b (refused (OverLimit m.byte)) (and_then (times k (symbol s t n) m') (λ l m''. got l (mark m''.byte (m.places + suc k))))
            ≡ cond b (refused (OverLimit m.byte)) (and_then (times k (symbol s' t n) m') (λ l m''. got l (mark m''.byte (m.places + suc k))))
        go k m' q true e = refl
        go k m' q false e =
            let u = ltb-false max_places (m.places + suc k) e in
            ap (λ (x : Parsed _). and_then x (λ l m''. got l (mark m''.byte (m.places + suc k)))) (symbols-same k m' (omega arith))

    nonterminal-same : (d : ℕ) (m : Mark) → Track s t n (3 + d) m → nonterminal s t n m ≡ nonterminal s' t n m
    unfolding nonterminal
    nonterminal-same d m (h, l) =
        same_then (λ v m'. (v ≤ max_productions) × (m'.byte ≤ m.byte + 3) × (m'.places ≡ m.places)) (limited s 1 max_productions m)
        (limited s' 1 max_productions m) (λ k m'. times k (read_production s t n) m') (λ k m'. times k (read_production s' t n) m')
        (limited-same 1 max_productions m (omega arith)) (limited-ends s 1 max_productions m)
        (λ k m' q. let a = q.1 in let b = q.2 in
        same-times (λ _ m. Track s t n d m) (read_production s t n) (read_production s' t n) (λ _ m z. production-ends s t n d m z)
        (λ _ m z. production-same d m z) k m' (omega arith, omega arith))

    nonterminals-same : (k : ℕ) (m : Mark) → Track s t n (3 * k) m → times k (nonterminal s t n) m ≡ times k (nonterminal s' t n) m
    nonterminals-same k m h =
        same-times (λ k m. Track s t n (3 * k) m) (nonterminal s t n) (nonterminal s' t n)
        (λ k m z. nonterminal-ends s t n (3 * k) m (let a = z.0 in (omega arith, z.1)))
        (λ k m z. nonterminal-same (3 * k) m (let a = z.0 in (omega arith, z.1))) k m h

  ending-same : {A : Type 0} (x : A) (m : Mark) → m.byte ≤ max_bytes → ending s x m ≡ ending s' x m
  unfolding ending
  ending-same x m h = rw (alike.on m.byte (omega arith))

  pub decode-same : decode s ≡ decode s'
  unfolding decode
  decode-same =
      same_then (λ v m. (v ≤ max_kinds) × (m.byte ≤ 3) × (m.places ≡ 0)) (limited s 1 max_kinds (mark 0 0)) (limited s' 1 max_kinds (mark 0 0)) _ _
      (limited-same 1 max_kinds (mark 0 0) (omega arith)) (limited-ends s 1 max_kinds (mark 0 0)) (λ t m q.
      let a = q.1 in
      let b = q.2 in
      same_then (λ v m'. (v ≤ max_nonterminals) × (m'.byte ≤ m.byte + 3) × (m'.places ≡ m.places)) (limited s 1 max_nonterminals m)
      (limited s' 1 max_nonterminals m) _ _
      (limited-same 1 max_nonterminals m (omega arith)) (limited-ends s 1 max_nonterminals m) (λ n m' q'.
      let c = q'.0 in
      let d = q'.1 in
      let e = q'.2 in
      same_then (λ _ m''. Track s t n 0 m'') (times n (nonterminal s t n) m') (times n (nonterminal s' t n) m') _ _
      (nonterminals-same t n n m' (omega arith, omega arith)) (nonterminals-end s t n n m' (omega arith, omega arith))
      (λ l m'' z. let y = z.0 in let x = z.1 in ending-same (record { kinds = t; productions = l }) m'' (omega arith))))

-- ---- the first bytes of a longer row
get_take : (n : ℕ) (s : List ℕ) (at : ℕ) → at < n → get_or (take n s) at 0 ≡ get_or s at 0
get_take zero s at h = absurd (omega arith)
get_take (suc n) [] at h = refl
get_take (suc n) (x ∷ s) zero h = refl
get_take (suc n) (x ∷ s) (suc at) h = get_take n s at (omega arith)

take-alike : (n : ℕ) (s : List ℕ) → n ≤ length s → Alike n (take n s) s
take-alike n s l =
    record {
      ends = λ at h. lt-leb (length (take n s)) at (omega (arith, length-take n s)) ∙ sym (lt-leb (length s) at (omega arith));
      on = λ at h. lt-ltb at (length (take n s)) (omega (arith, length-take n s)) ∙ sym (lt-ltb at (length s) (omega arith));
      bytes = get_take n s;
    }

fewer-alike : {m n : ℕ} {s s' : List ℕ} → m ≤ n → Alike n s s' → Alike m s s'
fewer-alike l a =
    record { ends = λ at h. a.ends at (omega arith); on = λ at h. a.on at (omega arith); bytes = λ at h. a.bytes at (omega arith) }

-- what lies behind the bytes that are looked at does not change what bytes say: a grammar is complete or refused within them
pub decode-first : (n : ℕ) → looked ≤ n → (s : List ℕ) → decode (take n s) ≡ decode s
decode-first n h s = go (dec_le n (length s))
  where
    go : Dec (n ≤ length s) → decode (take n s) ≡ decode s
    go (yes l) = decode-same (fewer-alike h (take-alike n s l))
    go (no l) = ap decode (take_all n s (omega arith))
