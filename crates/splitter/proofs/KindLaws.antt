-- Each item has its kind: a listed word that of its place in the list, a mark that of its place among the marks.
use mathlib.Core.Path.{◌≡◌, refl, sym, ap, ◌∙◌}
use mathlib.Core.Bool.{Bool, true, false}
use mathlib.Core.List.{List, [], ◌∷◌, ◌++◌, map}
use mathlib.Core.Option.{Option, none, some}
use Prim.Native.Nat.{ℕ, zero, suc, ◌+◌, ◌-◌, ◌≤◌}
use native.Mathlib.Omega.{arith}
use lib.ListN.{length, get_or, get_elem?}
use borrow.Author.Tests.{eq-eqb, ne_eqb}
use Rattle.base.specs.Lists.{AllOf}
use Rattle.base.proofs.Booleans.{clash, true→T}
use Rattle.base.proofs.Lists.{get-below, get-get_or, get_or-get}
use Rattle.splitter.specs.Classes.{digit_class, letter_class, class_of, letter?, digit?, mark_kind}
use Rattle.splitter.specs.Bytes.{IsDigit, IsMark}
use Rattle.splitter.specs.Listing.{max_listed, same_bytes?}
use Rattle.splitter.specs.Items.{point, plain_word, number_kind, first_listed, kind_from, word_kind, kind_of}
use Rattle.splitter.specs.List.{Once}
use Rattle.splitter.specs.Cutting.{KnownKind, IsWord, digits, IsNumber, whole, pointed, IsItem, Cut, end, blank, item, marks, HasKind, Kinds}
use Rattle.splitter.proofs.WordLaws.{same-eq, same_refl}
use Rattle.splitter.proofs.TableLaws.{letter-iff, digit-iff, mark-iff, mark-range, mark-place, marks-right, apart-digit}

pub none-some : {A : Type 0} {a : A} → ◌≡◌ {A = Option A} none (some a) → ⊥
none-some {A} {a} q = clash (ap (λ (o : Option A). elim o [ none ↦ 0 | some x ↦ 1 ]) q)

pub some_is : {A : Type 0} {a b : A} → ◌≡◌ {A = Option A} (some a) (some b) → a ≡ b
some_is {A} {a} {b} e = ap (λ (o : Option A). elim o [ none ↦ a | some x ↦ x ]) e

-- ---- the place of a word in a list, byte for byte
data Placed (k : ℕ) (ws : List (List ℕ)) (u : List ℕ) : ℕ → Type 0 where
  at : (i : ℕ) → get_elem? ws i ≡ some u → Placed k ws u (k + i)
  nowhere : ((i : ℕ) → get_elem? ws i ≡ some u → ⊥) → Placed k ws u plain_word

shifted : (k : ℕ) (w : List ℕ) (ws : List (List ℕ)) (u : List ℕ) → same_bytes? w u ≡ false → {n : ℕ} → Placed (suc k) ws u n → Placed k (w ∷ ws) u n
shifted k w ws u e (at i q) = let z : suc k + i ≡ k + suc i = omega arith in rw z (at (suc i) q)
shifted k w ws u e (nowhere f) = nowhere no
  where
    no : (i : ℕ) → get_elem? (w ∷ ws) i ≡ some u → ⊥
    no zero q = let z : w ≡ u = some_is q in true→T false (sym e ∙ (rw z (same_refl u)))
    no (suc i) q = f i q

place-step : (k : ℕ) (w : List ℕ) (ws : List (List ℕ)) (u : List ℕ) (x : Bool) → same_bytes? w u ≡ x → Placed (suc k) ws u (kind_from (suc k) ws u)
    → Placed k (w ∷ ws) u (kind_from k (w ∷ ws) u)
unfolding kind_from
place-step k w ws u true e r =
    let z : w ≡ u = same-eq w u (true→T (same_bytes? w u) e) in
    let y : Placed k (w ∷ ws) u (k + 0) = at 0 (ap {B = Option (List ℕ)} some z) in
    let n : k + 0 ≡ k = omega arith in
    rw (e, kind_from) (rw n at y)
place-step k w ws u false e r = rw (e, kind_from) (shifted k w ws u e r)

placed : (k : ℕ) (ws : List (List ℕ)) (u : List ℕ) → Placed k ws u (kind_from k ws u)
unfolding kind_from
placed k [] u = nowhere (λ i q. none-some q)
placed k (w ∷ ws) u = place-step k w ws u (same_bytes? w u) refl (placed (suc k) ws u)

place-kind : (ws : List (List ℕ)) (u : List ℕ) → IsWord u → {n : ℕ} → Placed first_listed ws u n → HasKind ws u n
place-kind ws u h (at i q) = HasKind.listed i h q
place-kind ws u h (nowhere f) = HasKind.plain h f

-- ---- the kind of each item
word-kind : (ws : List (List ℕ)) (u : List ℕ) → IsWord u → word_kind ws u ≡ kind_of ws u
unfolding kind_of letter?
word-kind ws u (IsWord.word b s l x) = rw (eq-eqb (class_of b) letter_class ((letter-iff b).1 l))

digit-kind : (ws : List (List ℕ)) (b : ℕ) (s : List ℕ) → IsDigit b → number_kind ≡ kind_of ws (b ∷ s)
unfolding kind_of letter? digit?
digit-kind ws b s l =
    let e = (digit-iff b).1 l in
    rw (ne_eqb (class_of b) letter_class (λ q. (omega arith)), eq-eqb (class_of b) digit_class e)

number-kind : (ws : List (List ℕ)) (u : List ℕ) → IsNumber u → number_kind ≡ kind_of ws u
number-kind ws u (whole (digits b s l x)) = digit-kind ws b s l
number-kind ws u (pointed d e (digits b s l x) y q) = rw q (digit-kind ws b (s ++ (point ∷ e)) l)

mark-kind : (ws : List (List ℕ)) (b : ℕ) → IsMark b → mark_kind b ≡ kind_of ws (b ∷ [])
unfolding kind_of letter? digit?
mark-kind ws b m =
    let e = (mark-iff b).1 m in
    rw (ne_eqb (class_of b) letter_class (λ q. (omega arith)), ne_eqb (class_of b) digit_class (λ q. (omega arith)))

pub has-kind : (ws : List (List ℕ)) (u : List ℕ) → IsItem u → HasKind ws u (kind_of ws u)
unfolding word_kind
has-kind ws u (IsItem.word x) = rw (← (word-kind ws u x)) (place-kind ws u x (placed first_listed ws u))
has-kind ws u (IsItem.number x) = rw (← (number-kind ws u x)) (HasKind.number x)
has-kind ws u (IsItem.mark b m q) =
    let e = (mark-iff b).1 m in
    let r = mark-range b e in
    let n : 3 + (mark_kind b - 3) ≡ mark_kind b = (let h = r.0 in omega arith) in
    let g : get_elem? marks (mark_kind b - 3) ≡ some b =
    get-get_or marks (mark_kind b - 3) 0 (let h = r.1 in omega arith) ∙ ap {B = Option ℕ} some (mark-place b e) in
    let k : kind_of ws u ≡ 3 + (mark_kind b - 3) = rw q (sym (mark-kind ws b m)) ∙ sym n in
    rw k (HasKind.mark b (mark_kind b - 3) q g)

-- THE LAW: the items of a cutting have the kinds that are found
pub cut-kinds : (ws : List (List ℕ)) {s : List ℕ} {us : List (List ℕ)} → Cut s us → Kinds ws us (map (kind_of ws) us)
cut-kinds ws end = Kinds.done
cut-kinds ws (blank s us x) = cut-kinds ws x
cut-kinds ws (item s u t us q i m x) = Kinds.and u us _ _ (has-kind ws u i) (cut-kinds ws x)

-- ---- words, numbers and marks are apart, by their first bytes
mark-kind-at : {b : ℕ} (i : ℕ) → get_elem? marks i ≡ some b → mark_kind b ≡ 3 + i
mark-kind-at {b} i e = rw (← (get_or-get marks i 0 e)) (marks-right i (get-below marks i e)).1

mark-at : {b : ℕ} (i : ℕ) → get_elem? marks i ≡ some b → IsMark b
mark-at {b} i e = (mark-iff b).0 (rw (← (get_or-get marks i 0 e)) (marks-right i (get-below marks i e)).0)

word-no-number : {u : List ℕ} → IsWord u → IsNumber u → ⊥
word-no-number (IsWord.word b s l x) (whole (digits c t m y)) = apart-digit l m
word-no-number {u} w (pointed d e (digits c t m y) z q) = go w q
  where
    go : {v : List ℕ} → IsWord v → v ≡ (c ∷ t) ++ (point ∷ e) → ⊥
    go (IsWord.word b s l x) q = let z : b ≡ c = ap (λ (r : List ℕ). get_or r 0 0) q in apart-digit l (rw z m)

word-no-mark : {u : List ℕ} {b : ℕ} (i : ℕ) → IsWord u → u ≡ b ∷ [] → get_elem? marks i ≡ some b → ⊥
word-no-mark {b = b} i (IsWord.word c s l x) e q = let z : c ≡ b = ap (λ (r : List ℕ). get_or r 0 0) e in (mark-at i q).no-letter (rw (← z) l)

number-no-mark : {u : List ℕ} {b : ℕ} (i : ℕ) → IsNumber u → u ≡ b ∷ [] → get_elem? marks i ≡ some b → ⊥
number-no-mark {b = b} i (whole (digits c s l x)) e q = let z : c ≡ b = ap (λ (r : List ℕ). get_or r 0 0) e in (mark-at i q).no_digit (rw (← z) l)
number-no-mark {b = b} i (pointed d f (digits c s l x) y p) e q =
    let z : c ≡ b = ap (λ (r : List ℕ). get_or r 0 0) (sym p ∙ e) in (mark-at i q).no_digit (rw (← z) l)

-- ---- an item has one kind
module _ {ws : List (List ℕ)} (o : Once ws) where
  kind-one : {u : List ℕ} {k l : ℕ} → HasKind ws u k → HasKind ws u l → k ≡ l
  kind-one {u} (HasKind.listed i h p) (HasKind.listed j h' q) = ap (λ (n : ℕ). first_listed + n) (o i j u p q)
  kind-one (HasKind.listed i h p) (HasKind.plain h' f) = absurd (f i p)
  kind-one (HasKind.listed i h p) (HasKind.number n) = absurd (word-no-number h n)
  kind-one (HasKind.listed i h p) (HasKind.mark b j e q) = absurd (word-no-mark j h e q)
  kind-one (HasKind.plain h f) (HasKind.listed i h' p) = absurd (f i p)
  kind-one (HasKind.plain h f) (HasKind.plain h' f') = refl
  kind-one (HasKind.plain h f) (HasKind.number n) = absurd (word-no-number h n)
  kind-one (HasKind.plain h f) (HasKind.mark b j e q) = absurd (word-no-mark j h e q)
  kind-one (HasKind.number n) (HasKind.listed i h p) = absurd (word-no-number h n)
  kind-one (HasKind.number n) (HasKind.plain h f) = absurd (word-no-number h n)
  kind-one (HasKind.number n) (HasKind.number n') = refl
  kind-one (HasKind.number n) (HasKind.mark b j e q) = absurd (number-no-mark j n e q)
  kind-one (HasKind.mark b i e p) (HasKind.listed j h q) = absurd (word-no-mark i h e p)
  kind-one (HasKind.mark b i e p) (HasKind.plain h f) = absurd (word-no-mark i h e p)
  kind-one (HasKind.mark b i e p) (HasKind.number n) = absurd (number-no-mark i n e p)
  kind-one (HasKind.mark b i e p) (HasKind.mark c j f q) =
      let z : b ≡ c = ap (λ (r : List ℕ). get_or r 0 0) (sym e ∙ f) in
      sym (mark-kind-at i p) ∙ (rw z (mark-kind-at j q))

  -- THE LAW: the items have one row of kinds
  pub kinds-one : {us : List (List ℕ)} {ks ls : List ℕ} → Kinds ws us ks → Kinds ws us ls → ks ≡ ls
  kinds-one Kinds.done Kinds.done = refl
  kinds-one (Kinds.and u us k ks x y) (Kinds.and u' us' l ls v w) =
      let a : k ≡ l = kind-one x v in let b : ks ≡ ls = kinds-one y w in rw (a, b)

pub kinds-length : {ws us : List (List ℕ)} {ks : List ℕ} → Kinds ws us ks → length ks ≡ length us
kinds-length Kinds.done = refl
kinds-length (Kinds.and u us k ks x y) = ap suc (kinds-length y)

-- ---- kinds are 1 to 100
kind-known : {ws : List (List ℕ)} → length ws ≤ max_listed → {u : List ℕ} {k : ℕ} → HasKind ws u k → KnownKind k
kind-known {ws} m (HasKind.listed i h p) = let l = get-below ws i p in (omega arith, omega arith)
kind-known m (HasKind.plain h f) = (omega arith, omega arith)
kind-known m (HasKind.number n) = (omega arith, omega arith)
kind-known m (HasKind.mark b i e p) = let l = get-below marks i p in (omega arith, omega arith)

-- THE LAW: every kind is 1 to 100
pub kinds-known : {ws : List (List ℕ)} → length ws ≤ max_listed → {us : List (List ℕ)} {ks : List ℕ} → Kinds ws us ks → AllOf KnownKind ks
kinds-known m Kinds.done = tt
kinds-known m (Kinds.and u us k ks x y) = (kind-known m x, kinds-known m y)
