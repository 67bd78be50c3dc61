-- Readings one after another read the numbers of both, and n readings those of n things.
use mathlib.Core.Path.{◌≡◌, refl, sym, ap, subst, ◌∙◌}
use mathlib.Core.List.{List, [], ◌∷◌, ◌++◌, tail, flat_map, append_assoc, append-nil}
use Prim.Native.Nat.{ℕ, zero, suc, ◌+◌, ◌≤◌}
use native.Mathlib.Omega.{arith}
use lib.ListN.{length, drop, replicate, length-append, length-replicate}
use Rattle.base.proofs.Booleans.{clash}
use Rattle.grammar.specs.Types.{Refusal}
use Rattle.grammar.specs.Limits.{max_places}
use Rattle.grammar.specs.Decode.{Mark, Parsed, got, refused, and_then, times}
use Rattle.grammar.specs.Encode.{Part, bytes_of}
use Rattle.grammar.specs.Faults.{places_of, InLimits}
use Rattle.grammar.proofs.PartLaws.{Falls, early, late, falls, after_parts, after-append, limits-append, append-limits, left_after, bytes-join}
use Rattle.grammar.proofs.PartLaws.{places-append, bytes-append, Stop, Came, Reader}

module _ (s : List ℕ) (t n : ℕ) where
  -- ---- stops
  -- numbers that follow do not matter
  pub stop-more : (m : Mark) (w k u : List Part) (f : Refusal) → u ≡ w ++ k → Stop s t n m w f → Stop s t n m u f
  stop-more m w k u f e x = record {
    ahead = x.ahead;
    due = x.due;
    behind = x.behind ++ k;
    left = x.left;
    numbers = e ∙ ap (λ (l : List Part). l ++ k) x.numbers ∙ append_assoc x.ahead (x.due ∷ x.behind) k;
    keeps = x.keeps;
    bytes = x.bytes;
    fault = x.fault;
  }

  -- a stop behind numbers that were read
  pub stop-after : (m : Mark) (w k u : List Part) (f : Refusal) → u ≡ w ++ k → InLimits t n m.places w
      → drop m.byte s ≡ bytes_of w ++ drop (after_parts m w).byte s → Stop s t n (after_parts m w) k f → Stop s t n m u f
  stop-after m w k u f e h d x =
      let b : m.byte + length (bytes_of w) + length (bytes_of x.ahead) ≡ m.byte + length (bytes_of (w ++ x.ahead)) =
      rw (bytes-append w x.ahead) (omega (arith, length-append (bytes_of w) (bytes_of x.ahead))) in
      let p : m.places + places_of w + places_of x.ahead ≡ m.places + places_of (w ++ x.ahead) = omega (arith, places-append w x.ahead) in record {
        ahead = w ++ x.ahead;
        due = x.due;
        behind = x.behind;
        left = x.left;
        numbers = e ∙ ap (λ (l : List Part). w ++ l) x.numbers ∙ sym (append_assoc w x.ahead (x.due ∷ x.behind));
        keeps = limits-append t n m.places w x.ahead h x.keeps;
        bytes = d ∙ ap (λ (l : List ℕ). bytes_of w ++ l) x.bytes ∙ sym (bytes-join w x.ahead x.left);
        fault = rw (b, p) at x.fault;
      }

  -- where a stop of numbers joined lies
  pub data Lies (m : Mark) (w k : List Part) (f : Refusal) : Type 0 where
    inside : Stop s t n m w f → Lies m w k f
    beyond : InLimits t n m.places w → drop m.byte s ≡ bytes_of w ++ drop (after_parts m w).byte s → Stop s t n (after_parts m w) k f → Lies m w k f

  pub lies : (m : Mark) (w k u : List Part) (f : Refusal) → u ≡ w ++ k → Stop s t n m u f → Lies m w k f
  lies m w k u f e x = go (falls w k x.ahead x.due x.behind (sym e ∙ x.numbers))
    where
      go : Falls w k x.ahead x.due x.behind → Lies m w k f
      go (early b q) =
          inside (record {
            ahead = x.ahead;
            due = x.due;
            behind = b;
            left = x.left;
            numbers = q;
            keeps = x.keeps;
            bytes = x.bytes;
            fault = x.fault;
          })
      go (late b q y) =
          let h : InLimits t n m.places (w ++ b) = rw q at x.keeps in
          let z = append-limits t n m.places w b h in
          let d : drop m.byte s ≡ bytes_of w ++ (bytes_of b ++ x.left) =
          x.bytes ∙ ap (λ (l : List Part). bytes_of l ++ x.left) q ∙ bytes-join w b x.left in
          let d' : drop (after_parts m w).byte s ≡ bytes_of b ++ x.left = left_after s m w (bytes_of b ++ x.left) d in
          let c : length (bytes_of (w ++ b)) ≡ length (bytes_of w) + length (bytes_of b) =
          ap length (bytes-append w b) ∙ length-append (bytes_of w) (bytes_of b) in
          let v : m.byte + length (bytes_of x.ahead) ≡ m.byte + length (bytes_of w) + length (bytes_of b) = rw q (omega (arith, c)) in
          let p : m.places + places_of x.ahead ≡ m.places + places_of w + places_of b = rw q (omega (arith, places-append w b)) in
          beyond z.0 (d ∙ ap (λ (l : List ℕ). bytes_of w ++ l) (sym d')) (record {
            ahead = b;
            due = x.due;
            behind = x.behind;
            left = x.left;
            numbers = y;
            keeps = z.1;
            bytes = d';
            fault = rw (v, p) at x.fault;
          })

  -- ---- one reading after another
  module _ {A B : Type 0} (f : Mark → Parsed A) (S : A → Type 0) (w : A → List Part) (g : A → Mark → Parsed B) (S' : A → B → Type 0)
      (w' : A → B → List Part)
      (S'' : B → Type 0) (w'' : B → List Part) (F : Reader s t n f S w) (G : (x : A) → S x → Reader s t n (g x) (S' x) (w' x))
      (joined : (x : A) (y : B) → S x → S' x y → S'' y × (w'' y ≡ w x ++ w' x y))
      (parted : (y : B) → S'' y → (x : A) × S x × S' x y)
      (filled : (x : A) → S x → (y : B) × S' x y) where
    then-came : (m : Mark) → m.places ≤ max_places → Came s t n m S'' w'' (and_then (f m) g)
    unfolding and_then
    then-came m h = go (f m) (F.came m h)
      where
        after : (x : A) → S x → InLimits t n m.places (w x) → drop m.byte s ≡ bytes_of (w x) ++ drop (after_parts m (w x)).byte s → (r : Parsed B)
            → Came s t n (after_parts m (w x)) (S' x) (w' x) r → Came s t n m S'' w'' r
        after x sx k d (got y m'') (sy, e, k', d') =
            let (sy'', q) = joined x y sx sy in (
              sy'',
              e ∙ after-append m (w x) (w' x y) ∙ ap (after_parts m) (sym q),
              subst (InLimits t n m.places) (sym q) (limits-append t n m.places (w x) (w' x y) k k'),
              d ∙ ap (λ (l : List ℕ). bytes_of (w x) ++ l) d' ∙ sym (bytes-join (w x) (w' x y) (drop m''.byte s))
                  ∙ ap (λ (l : List Part). bytes_of l ++ drop m''.byte s) (sym q),
            )
        after x sx k d (refused r) (y, sy, z) =
            let (sy'', q) = joined x y sx sy in (y, sy'', stop-after m (w x) (w' x y) (w'' y) r q k d z)

        go : (r : Parsed A) → Came s t n m S w r → Came s t n m S'' w'' (and_then r g)
        go (got x m') (sx, e, k, d) =
            let d' : drop m.byte s ≡ bytes_of (w x) ++ drop (after_parts m (w x)).byte s = rw e at d in
            subst (λ (u : Mark). Came s t n m S'' w'' (g x u)) (sym e)
            (after x sx k d' (g x (after_parts m (w x))) ((G x sx).came (after_parts m (w x)) k.1))
        go (refused r) (x, sx, z) =
            let (y, sy) = filled x sx in
            let (sy'', q) = joined x y sx sy in (y, sy'', stop-more m (w x) (w' x y) (w'' y) r q z)

    then-gets : (m : Mark) (y : B) → S'' y → InLimits t n m.places (w'' y) → (rest : List ℕ) → drop m.byte s ≡ bytes_of (w'' y) ++ rest
        → and_then (f m) g ≡ got y (after_parts m (w'' y))
    unfolding and_then
    then-gets m y sy k rest d =
        let (x, sx, sy') = parted y sy in
        let q = (joined x y sx sy').1 in
        let k' = append-limits t n m.places (w x) (w' x y) (subst (InLimits t n m.places) q k) in
        let d' = d ∙ ap (λ (l : List Part). bytes_of l ++ rest) q ∙ bytes-join (w x) (w' x y) rest in
        ap (λ (r : Parsed A). and_then r g) (F.gets m x sx k'.0 (bytes_of (w' x y) ++ rest) d')
        ∙ (G x sx).gets (after_parts m (w x)) y sy' k'.1 rest (left_after s m (w x) (bytes_of (w' x y) ++ rest) d')
        ∙ ap (got y) (after-append m (w x) (w' x y) ∙ ap (after_parts m) (sym q))

    then-stops : (m : Mark) (y : B) (r : Refusal) → S'' y → Stop s t n m (w'' y) r → and_then (f m) g ≡ refused r
    unfolding and_then
    then-stops m y r sy z = go (parted y sy)
      where
        go : (x : A) × S x × S' x y → and_then (f m) g ≡ refused r
        go (x, sx, sy') = by (lies m (w x) (w' x y) (w'' y) r (joined x y sx sy').1 z)
          where
            by : Lies m (w x) (w' x y) r → and_then (f m) g ≡ refused r
            by (inside z) = ap (λ (r : Parsed A). and_then r g) (F.stops m x r sx z)
            by (beyond k d z) =
                ap (λ (r : Parsed A). and_then r g) (F.gets m x sx k (drop (after_parts m (w x)).byte s) d) ∙ (G x sx).stops (after_parts m (w x)) y r sy' z

    pub then-reader : Reader s t n (λ m. and_then (f m) g) S'' w''
    then-reader = record { came = then-came; gets = then-gets; stops = then-stops }

  -- ---- the same reading in other words
  module _ {A : Type 0} (f : Mark → Parsed A) (S : A → Type 0) (w : A → List Part) (F : Reader s t n f S w) (f' : Mark → Parsed A) (S' : A → Type 0)
      (w' : A → List Part)
      (same : (m : Mark) → f' m ≡ f m) (to : (x : A) → S x → S' x) (from : (x : A) → S' x → S x) (alike : (x : A) → S x → w x ≡ w' x) where
    alike-came : (m : Mark) → m.places ≤ max_places → Came s t n m S' w' (f' m)
    alike-came m h = rw (same m) (go (f m) (F.came m h))
      where
        go : (r : Parsed A) → Came s t n m S w r → Came s t n m S' w' r
        go (got x m') (sx, e, k, d) =
            let q = alike x sx in (
              to x sx,
              e ∙ ap (after_parts m) q,
              subst (InLimits t n m.places) q k,
              d ∙ ap (λ (l : List Part). bytes_of l ++ drop m'.byte s) q,
            )
        go (refused r) (x, sx, z) = (x, to x sx, subst (λ (l : List Part). Stop s t n m l r) (alike x sx) z)

    pub same-reader : Reader s t n f' S' w'
    same-reader = record {
      came = alike-came;
      gets = λ m x sx k rest d.
          let q = alike x (from x sx) in
          same m
          ∙ F.gets m x (from x sx) (subst (InLimits t n m.places) (sym q) k) rest (d ∙ ap (λ (l : List Part). bytes_of l ++ rest) (sym q))
          ∙ ap (λ (l : List Part). got x (after_parts m l)) q;
      stops = λ m x r sx z.
          same m ∙ F.stops m x r (from x sx) (subst (λ (l : List Part). Stop s t n m l r) (sym (alike x (from x sx))) z);
    }

  -- ---- nothing is read
  after_none : (m : Mark) → m ≡ after_parts m []
  unfolding bytes_of places_of
  after_none m =
      let b : m.byte + 0 ≡ m.byte = omega arith in
      let p : m.places + 0 ≡ m.places = omega arith in rw (b, p)

  no_stop : {A : Type 0} (m : Mark) (f : Refusal) → Stop s t n m [] f → A
  no_stop m f z = go z.ahead z.numbers
    where
      go : {A : Type 0} (l : List Part) → [] ≡ l ++ (z.due ∷ z.behind) → A
      go [] e = clash (cc)
      go (x ∷ l) e = clash (cc)

  return-reader : {A : Type 0} (x : A) → Reader s t n (λ m. got x m) (λ y. y ≡ x) (λ y. [])
  unfolding bytes_of places_of
  return-reader x = record {
    came = λ m h. (refl, after_none m, (tt, (omega arith)), refl);
    gets = λ m y e k rest d. rw e (ap (got x) (after_none m));
    stops = λ m y r e z. no_stop m r z;
  }

  -- ---- n readings
  module _ {A : Type 0} (f : Mark → Parsed A) (w : A → List Part) (F : Reader s t n f (λ x. Unit {0}) w) (blank : A) where
    -- x before a list
    abbrev Before : A → ℕ → List A → Type 0
    Before x k y = (l : List A) × (length l ≡ k) × (y ≡ x ∷ l)

    abbrev Many : ℕ → Type 0
    Many k = Reader s t n (times k f) (λ l. length l ≡ k) (flat_map w)

    cons-reader : (x : A) (k : ℕ) → Many k
        → Reader s t n (λ m. and_then (times k f m) (λ l m'. got (x ∷ l) m')) (Before x k) (λ y. flat_map w (tail y))
    cons-reader x k R =
        then-reader (times k f) (λ l. length l ≡ k) (flat_map w) (λ l m'. got (x ∷ l) m') (λ l y. y ≡ x ∷ l) (λ l y. []) (Before x k)
        (λ y. flat_map w (tail y)) R
        (λ l e. return-reader (x ∷ l))
        (λ l y e q. ((l, e, q), ap (λ (u : List A). flat_map w (tail u)) q ∙ sym (append-nil (flat_map w l))))
        (λ y b. b) (λ l e. (x ∷ l, refl))

    pub times-reader : (k : ℕ) → Many k
    unfolding times flat_map
    times-reader zero =
        same-reader (λ m. got [] m) (λ y. y ≡ []) (λ y. []) (return-reader []) (times zero f) (λ l. length l ≡ zero) (flat_map w)
        (λ m. refl) (λ x e. rw e) from (λ x e. rw e)
      where
        from : (l : List A) → length l ≡ zero → l ≡ []
        from [] e = refl
        from (x ∷ l) e = absurd (omega (arith, e))
    times-reader (suc k) =
        then-reader f (λ x. Unit {0}) w (λ x m. and_then (times k f m) (λ l m'. got (x ∷ l) m')) (λ x. Before x k) (λ x y. flat_map w (tail y))
        (λ l. length l ≡ suc k)
        (flat_map w) F (λ x u. cons-reader x k (times-reader k)) (λ x y u b. (rw b.2 (ap suc b.1), rw b.2)) parted
        (λ x u. (x ∷ replicate k blank, (replicate k blank, length-replicate k blank, refl)))
      where
        parted : (y : List A) → length y ≡ suc k → (x : A) × Unit {0} × Before x k y
        parted [] e = absurd (omega (arith, e))
        parted (x ∷ l) e = (x, tt, (l, omega (arith, e), refl))
