-- Numbers of a grammar one behind another: what they spell, the places they take, the limits they keep; and what it is to read them (`Reader`): something is
-- got exactly where its bytes stand and keep the limits, and refused exactly where one of its numbers is at fault.
use mathlib.Core.Path.{◌≡◌, refl, sym, ap, ◌∙◌}
use mathlib.Core.List.{List, [], ◌∷◌, ◌++◌, tail, append_assoc}
use Prim.Native.Nat.{ℕ, ◌+◌, ◌≤◌}
use native.Mathlib.Omega.{arith}
use lib.ListN.{length, drop, length-append}
use lib.Seq.{drop-drop, drop-append_seam}
use Rattle.number.specs.Number.{shortest, max_number}
use Rattle.number.specs.Forms.{CutShort, Misspelled}
use Rattle.base.proofs.Lists.{all_append, append-all}
use Rattle.grammar.specs.Types.{Refusal, Unfinished, Malformed, OverLimit, UnknownSymbol}
use Rattle.grammar.specs.Limits.{max_places}
use Rattle.grammar.specs.Decode.{Mark, mark, Parsed, got, refused}
use Rattle.grammar.specs.Encode.{Part, highest_kind, nonterminal_count, production_count, symbol_count, one_symbol, number_of, bytes_of}
use Rattle.grammar.specs.Faults.{Permitted, places_of, InLimits}

-- ---- what is wrong where a number is due
-- the refusal of a number that breaks a limit: 4 for a symbol, 3 for the others
abbrev pub breaking_at : ℕ → Part → Refusal
breaking_at at (highest_kind v) = OverLimit at
breaking_at at (nonterminal_count v) = OverLimit at
breaking_at at (production_count v) = OverLimit at
breaking_at at (symbol_count v) = OverLimit at
breaking_at at (one_symbol x) = UnknownSymbol at

-- a number is due at `at` and with p places before it; `left` is what is left of the bytes
pub data Fault (t n p at : ℕ) (due : Part) (left : List ℕ) : Refusal → Type 0 where
  ends : CutShort left → Fault t n p at due left (Unfinished at)
  misspells : Misspelled left → Fault t n p at due left (Malformed at)
  breaks : (rest : List ℕ) → number_of due ≤ max_number → left ≡ shortest (number_of due) ++ rest → ¬ InLimits t n p (due ∷ [])
      → Fault t n p at due left (breaking_at at due)

-- ---- one behind another
pub bytes-append : (l k : List Part) → bytes_of (l ++ k) ≡ bytes_of l ++ bytes_of k
unfolding bytes_of
bytes-append [] k = refl
bytes-append (x ∷ l) k =
    ap (λ (u : List ℕ). shortest (number_of x) ++ u) (bytes-append l k) ∙ sym (append_assoc (shortest (number_of x)) (bytes_of l) (bytes_of k))

pub places-append : (l k : List Part) → places_of (l ++ k) ≡ places_of l + places_of k
unfolding places_of
places-append [] k = omega arith
places-append (x ∷ l) k = omega (arith, places-append l k)

-- an element of two lists joined is in the first or in the second of them
pub data Falls {A : Type 0} (xs ys ahead : List A) (due : A) (behind : List A) : Type 0 where
  early : (k : List A) → xs ≡ ahead ++ (due ∷ k) → Falls xs ys ahead due behind
  late : (k : List A) → ahead ≡ xs ++ k → ys ≡ k ++ (due ∷ behind) → Falls xs ys ahead due behind

pub falls : {A : Type 0} (xs ys ahead : List A) (due : A) (behind : List A) → xs ++ ys ≡ ahead ++ (due ∷ behind) → Falls xs ys ahead due behind
falls [] ys ahead due behind e = late ahead refl e
falls (x ∷ xs) ys [] due behind e = early xs (let z : x ≡ due = cc in ap (λ (u : _). u ∷ xs) z)
falls (x ∷ xs) ys (a ∷ ahead) due behind e = go (falls xs ys ahead due behind (ap tail e))
  where
    z : x ≡ a
    z = cc

    go : Falls xs ys ahead due behind → Falls (x ∷ xs) ys (a ∷ ahead) due behind
    go (early k q) = early k (rw (z, q))
    go (late k q y) = late k (rw (z, q)) y

-- the mark behind numbers
abbrev pub after_parts : Mark → List Part → Mark
after_parts m l = mark (m.byte + length (bytes_of l)) (m.places + places_of l)

pub after-append : (m : Mark) (l k : List Part) → after_parts (after_parts m l) k ≡ after_parts m (l ++ k)
after-append m l k =
    let b : m.byte + length (bytes_of l) + length (bytes_of k) ≡ m.byte + length (bytes_of (l ++ k)) =
    rw (bytes-append l k) (omega (arith, length-append (bytes_of l) (bytes_of k))) in
    let p : m.places + places_of l + places_of k ≡ m.places + places_of (l ++ k) = omega (arith, places-append l k) in
    rw (b, p)

module _ (t n : ℕ) where
  pub limits-append : (p : ℕ) (l k : List Part) → InLimits t n p l → InLimits t n (p + places_of l) k → InLimits t n p (l ++ k)
  limits-append p l k h j =
      let a = h.1 in let b = j.1 in (all_append (Permitted t n) l k h.0 j.0, omega (arith, a, b, places-append l k))

  pub append-limits : (p : ℕ) (l k : List Part) → InLimits t n p (l ++ k) → InLimits t n p l × InLimits t n (p + places_of l) k
  append-limits p l k h =
      let r = append-all (Permitted t n) l k h.0 in
      let b = h.1 in
      let q = places-append l k in
      ((r.0, omega (arith, b, q)), (r.1, omega (arith, b, q)))

-- what is left behind numbers
pub left_after : (s : List ℕ) (m : Mark) (l : List Part) (rest : List ℕ) → drop m.byte s ≡ bytes_of l ++ rest → drop (after_parts m l).byte s ≡ rest
left_after s m l rest d =
    sym (drop-drop (length (bytes_of l)) m.byte s) ∙ ap (drop (length (bytes_of l))) d ∙ drop-append_seam (bytes_of l) rest

-- bytes of numbers joined
pub bytes-join : (l k : List Part) (rest : List ℕ) → bytes_of (l ++ k) ++ rest ≡ bytes_of l ++ (bytes_of k ++ rest)
bytes-join l k rest = ap (λ (u : List ℕ). u ++ rest) (bytes-append l k) ∙ append_assoc (bytes_of l) (bytes_of k) rest

module _ (s : List ℕ) (t n : ℕ) where
  -- reading numbers from a mark on stops with a refusal
  pub record Stop (m : Mark) (w : List Part) (f : Refusal) : Type 0 where
    pub ahead : List Part
    pub due : Part
    pub behind : List Part
    pub left : List ℕ
    pub numbers : w ≡ ahead ++ (due ∷ behind)
    pub keeps : InLimits t n m.places ahead
    pub bytes : drop m.byte s ≡ bytes_of ahead ++ left
    pub fault : Fault t n (m.places + places_of ahead) (m.byte + length (bytes_of ahead)) due left f

  -- what a reading came to, of something of shape S with numbers w
  abbrev pub Came : {A : Type 0} → Mark → (A → Type 0) → (A → List Part) → Parsed A → Type 0
  Came m S w (got x m') = S x × (m' ≡ after_parts m (w x)) × InLimits t n m.places (w x) × (drop m.byte s ≡ bytes_of (w x) ++ drop m'.byte s)
  Came {A} m S w (refused f) = (x : A) × S x × Stop m (w x) f

  -- a reading of things of shape S with numbers w
  pub record Reader {A : Type 0} (f : Mark → Parsed A) (S : A → Type 0) (w : A → List Part) : Type 0 where
    pub came : (m : Mark) → m.places ≤ max_places → Came m S w (f m)
    pub gets : (m : Mark) (x : A) → S x → InLimits t n m.places (w x) → (rest : List ℕ) → drop m.byte s ≡ bytes_of (w x) ++ rest
        → f m ≡ got x (after_parts m (w x))
    pub stops : (m : Mark) (x : A) (r : Refusal) → S x → Stop m (w x) r → f m ≡ refused r
