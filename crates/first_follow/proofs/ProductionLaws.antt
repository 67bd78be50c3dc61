-- Where the productions of a compiled grammar begin: at place 0, and right behind each place that faces an end, and nowhere else. So a pass over the places
-- is one over the productions.
use mathlib.Core.Path.{◌≡◌, refl, sym, ap, ◌∙◌}
use mathlib.Core.Option.{some}
use mathlib.Core.List.{List, [], ◌∷◌, ◌++◌, append-nil, append_assoc}
use Prim.Native.Nat.{ℕ, zero, suc, ◌+◌, ◌-◌, ◌≤◌, ◌<◌}
use native.Mathlib.Omega.{arith}
use native.Mathlib.Decide.{dec_lt}
use lib.ListN.{length, get_or, get_elem?, replicate, length-append}
use Rattle.base.specs.Lists.{AllOf}
use Rattle.base.proofs.Booleans.{clash}
use Rattle.grammar.specs.declared.Symbol.{Symbol}
use Rattle.grammar.specs.declared.Symbol.TheVariants.{Token, Nonterminal, End}
use Rattle.grammar.specs.declared.Place.{Place}
use Rattle.grammar.specs.Limits.{max_places, nobody, end_mark}
use Rattle.grammar.specs.Decode.{Rules, Legal, Production, Alternatives}
use Rattle.grammar.specs.Grammar.{at, nowhere, facing, first, alternatives}
use Rattle.grammar.specs.Grammar.{lay_one, lay_each, lay_all, size_each, size_all, starts_each, starts_all, padded, compile, Limited}
use Rattle.grammar.proofs.CompileLaws.{length-one, length-each}

-- place q of a list faces an end
abbrev Ends : List Place → ℕ → Type 0
Ends x q = (get_or x q nowhere).symbol ≡ End

in-front : (l m : List Place) (q : ℕ) → q < length l → get_or (l ++ m) q nowhere ≡ get_or l q nowhere
in-front [] m q h = absurd (omega arith)
in-front (x ∷ l) m zero h = refl
in-front (x ∷ l) m (suc q) h = in-front l m q (omega arith)

shift : (pre l : List Place) (q : ℕ) → length pre ≤ q → get_or (pre ++ l) q nowhere ≡ get_or l (q - length pre) nowhere
shift [] l q h = let z : q - 0 ≡ q = omega arith in rw z
shift (x ∷ pre) l zero h = absurd (omega arith)
shift (x ∷ pre) l (suc q) h = let z : suc q - suc (length pre) ≡ q - length pre = omega arith in rw z (shift pre l q (omega arith))

-- ---- before the first place of a production stands an end
-- the last place of a list, if it has one, faces an end
abbrev Ended : List Place → Type 0
Ended pre = (q : ℕ) → length pre ≡ suc q → Ends pre q

last_one : (a : ℕ) (β : List Symbol) → Ends (lay_one a β) (length β)
unfolding lay_one
last_one a [] = refl
last_one a (x ∷ β) = last_one a β

ended-one : (a : ℕ) (β : List Symbol) (pre : List Place) → Ended (pre ++ lay_one a β)
ended-one a β pre q e =
    let l = length-append pre (lay_one a β) in
    let m = length-one a β in
    let z : q - length pre ≡ length β = omega arith in
    rw (shift pre (lay_one a β) q (omega arith), z) (last_one a β)

ended-each : (a : ℕ) (l : List (List Symbol)) (pre : List Place) → Ended pre → Ended (pre ++ lay_each a l)
unfolding lay_each
ended-each a [] pre h = rw append-nil h
ended-each a (β ∷ l) pre h = rw (← append_assoc pre (lay_one a β) (lay_each a l)) (ended-each a l (pre ++ lay_one a β) (ended-one a β pre))

behind-each : (a : ℕ) (l : List (List Symbol)) (pre rest : List Place) (o : ℕ) → length pre ≡ o → Ended pre → (b f q : ℕ)
    → get_elem? (starts_each o l) b ≡ some f → f ≡ suc q → Ends (pre ++ (lay_each a l ++ rest)) q
unfolding starts_each lay_each
behind-each a [] pre rest o e h b f q d z = clash (cc)
behind-each a (β ∷ l) pre rest o e h zero f q d z =
    let y : o ≡ f = cc in rw (in-front pre ((lay_one a β ++ lay_each a l) ++ rest) q (omega arith)) (h q (omega arith))
behind-each a (β ∷ l) pre rest o e h (suc b) f q d z =
    let k : length (pre ++ lay_one a β) ≡ o + suc (length β) = length-append pre (lay_one a β) ∙ omega (arith, e, length-one a β) in
    rw (ap (λ (x : List Place). pre ++ x) (append_assoc (lay_one a β) (lay_each a l) rest) ∙ sym (append_assoc pre (lay_one a β) (lay_each a l ++ rest)))
    (behind-each a l (pre ++ lay_one a β) rest (o + suc (length β)) k (ended-one a β pre) b f q d z)

behind-all : (a : ℕ) (l : List (List (List Symbol))) (pre rest : List Place) (o : ℕ) → length pre ≡ o → Ended pre → (c b f q : ℕ)
    → get_elem? (get_or (starts_all o l) c []) b ≡ some f → f ≡ suc q → Ends (pre ++ (lay_all a l ++ rest)) q
unfolding starts_all lay_all
behind-all a [] pre rest o e h c b f q d z = clash (cc)
behind-all a (y ∷ l) pre rest o e h zero b f q d z =
    rw (append_assoc (lay_each a y) (lay_all (suc a) l) rest) (behind-each a y pre (lay_all (suc a) l ++ rest) o e h b f q d z)
behind-all a (y ∷ l) pre rest o e h (suc c) b f q d z =
    let k : length (pre ++ lay_each a y) ≡ o + size_each y = length-append pre (lay_each a y) ∙ omega (arith, e, length-each a y) in
    rw (ap (λ (x : List Place). pre ++ x) (append_assoc (lay_each a y) (lay_all (suc a) l) rest)
    ∙ sym (append_assoc pre (lay_each a y) (lay_all (suc a) l ++ rest)))
    (behind-all (suc a) l (pre ++ lay_each a y) rest (o + size_each y) k (ended-each a y pre h) c b f q d z)

-- ---- and right behind an end a production begins
-- the place before p, if p comes behind o, faces an end
abbrev Behind : List Place → ℕ → ℕ → Type 0
Behind x o p = (q : ℕ) → p ≡ suc q → o ≤ q → Ends x q

module _ (t n : ℕ) where
  legal-goes : (s : Symbol) → Legal t n s → ¬ (s ≡ End)
  legal-goes (Token k) h e = clash (cc)
  legal-goes (Nonterminal a) h e = clash (cc)
  legal-goes End h e = h

  one-goes : (a : ℕ) (β : List Symbol) (rest : List Place) → AllOf (Legal t n) β → (k : ℕ) → k < length β → ¬ Ends (lay_one a β ++ rest) k
  unfolding lay_one
  one-goes a [] rest h k l = absurd (omega arith)
  one-goes a (x ∷ β) rest h zero l = legal-goes x h.0
  one-goes a (x ∷ β) rest h (suc k) l = one-goes a β rest h.1 k (omega arith)

  -- within a production nothing begins
  one-begins : (a : ℕ) (β : List Symbol) (pre rest : List Place) (o : ℕ) → length pre ≡ o → AllOf (Legal t n) β → (p : ℕ) → o ≤ p → p ≤ o + length β
      → Behind (pre ++ (lay_one a β ++ rest)) o p → p ≡ o
  one-begins a β pre rest o e h p lo hi k = go (dec_lt o p)
    where
      go : Dec (o < p) → p ≡ o
      go (yes m) =
          let u : (get_or (lay_one a β ++ rest) (p - 1 - length pre) nowhere).symbol ≡ End
          = rw (shift pre (lay_one a β ++ rest) (p - 1) (omega arith)) at (k (p - 1) (omega arith) (omega arith)) in
          absurd (one-goes a β rest h (p - 1 - length pre) (omega arith) u)
      go (no m) = omega arith

  each-begins : (a : ℕ) (l : List (List Symbol)) (pre rest : List Place) (o : ℕ) → length pre ≡ o → AllOf (Production t n) l → (p : ℕ)
      → o ≤ p → p < o + size_each l → Behind (pre ++ (lay_each a l ++ rest)) o p → (b : ℕ) × (get_elem? (starts_each o l) b ≡ some p)
  unfolding starts_each lay_each size_each
  each-begins a [] pre rest o e h p lo hi k = absurd (omega arith)
  each-begins a (β ∷ l) pre rest o e h p lo hi k =
      go (dec_lt p (o + suc (length β)))
      (λ m. each-begins a l (pre ++ lay_one a β) rest (o + suc (length β)) (length-append pre (lay_one a β) ∙ omega (arith, e, length-one a β)) h.1 p m
      (omega arith) (λ q u v. rw (← split) (k q u (omega arith))))
    where
      split : pre ++ ((lay_one a β ++ lay_each a l) ++ rest) ≡ (pre ++ lay_one a β) ++ (lay_each a l ++ rest)
      split = ap (λ (x : List Place). pre ++ x) (append_assoc (lay_one a β) (lay_each a l) rest) ∙ sym (append_assoc pre (lay_one a β) (lay_each a l ++ rest))

      later : (b : ℕ) × (get_elem? (starts_each (o + suc (length β)) l) b ≡ some p) → (b : ℕ) × (get_elem? (starts_each o (β ∷ l)) b ≡ some p)
      later (b, d) = (suc b, d)

      go : Dec (p < o + suc (length β)) → (o + suc (length β) ≤ p → (b : ℕ) × (get_elem? (starts_each (o + suc (length β)) l) b ≡ some p))
          → (b : ℕ) × (get_elem? (starts_each o (β ∷ l)) b ≡ some p)
      go (yes m) rec =
          let z : p ≡ o = one-begins a β pre (lay_each a l ++ rest) o e h.0.1 p lo (omega arith)
          (rw (ap (λ (x : List Place). pre ++ x) (append_assoc (lay_one a β) (lay_each a l) rest)) at k) in
          (0, ap some (sym z))
      go (no m) rec = later (rec (omega arith))

  all-begins : (a : ℕ) (l : List (List (List Symbol))) (pre rest : List Place) (o : ℕ) → length pre ≡ o → AllOf (Alternatives t n) l → (p : ℕ)
      → o ≤ p → p < o + size_all l → Behind (pre ++ (lay_all a l ++ rest)) o p → (c : ℕ) × (b : ℕ) × (get_elem? (get_or (starts_all o l) c []) b ≡ some p)
  unfolding starts_all lay_all size_all
  all-begins a [] pre rest o e h p lo hi k = absurd (omega arith)
  all-begins a (y ∷ l) pre rest o e h p lo hi k =
      go (dec_lt p (o + size_each y))
      (λ m. all-begins (suc a) l (pre ++ lay_each a y) rest (o + size_each y) (length-append pre (lay_each a y) ∙ omega (arith, e, length-each a y)) h.1 p m
      (omega arith) (λ q u v. rw (← split) (k q u (omega arith))))
    where
      split : pre ++ ((lay_each a y ++ lay_all (suc a) l) ++ rest) ≡ (pre ++ lay_each a y) ++ (lay_all (suc a) l ++ rest)
      split = ap (λ (x : List Place). pre ++ x) (append_assoc (lay_each a y) (lay_all (suc a) l) rest)
          ∙ sym (append_assoc pre (lay_each a y) (lay_all (suc a) l ++ rest))

      first_of : (b : ℕ) × (get_elem? (starts_each o y) b ≡ some p) → (c : ℕ) × (b : ℕ) × (get_elem? (get_or (starts_all o (y ∷ l)) c []) b ≡ some p)
      first_of (b, d) = (0, b, d)

      later : (c : ℕ) × (b : ℕ) × (get_elem? (get_or (starts_all (o + size_each y) l) c []) b ≡ some p)
          → (c : ℕ) × (b : ℕ) × (get_elem? (get_or (starts_all o (y ∷ l)) c []) b ≡ some p)
      later (c, b, d) = (suc c, b, d)

      go : Dec (p < o + size_each y) → (o + size_each y ≤ p → (c : ℕ) × (b : ℕ) × (get_elem? (get_or (starts_all (o + size_each y) l) c []) b ≡ some p))
          → (c : ℕ) × (b : ℕ) × (get_elem? (get_or (starts_all o (y ∷ l)) c []) b ≡ some p)
      go (yes m) rec =
          first_of (each-begins a y pre (lay_all (suc a) l ++ rest) o e h.0.2 p lo m
          (rw (ap (λ (x : List Place). pre ++ x) (append_assoc (lay_each a y) (lay_all (suc a) l) rest)) at k))
      go (no m) rec = later (rec (omega arith))

-- ---- compiled rules
module _ (r : Rules) (limits : Limited r) where
  abbrev pad : List Place
  pad = replicate (max_places - length (lay_all 0 r.productions)) nowhere ++ (at nobody (Token end_mark) ∷ [])

  pub compile-behind : (a b p : ℕ) → first (compile r) a b ≡ some (suc p) → facing (compile r) p ≡ End
  unfolding compile padded facing alternatives
  compile-behind a zero p d = clash (cc)
  compile-behind a (suc b) p d =
      behind-all 0 r.productions [] pad 0 refl (λ q e. absurd (omega arith)) a b (suc p) p d refl

  pub compile-begins : (p : ℕ) → p < size_all r.productions → ((q : ℕ) → p ≡ suc q → facing (compile r) q ≡ End)
      → (a : ℕ) × (b : ℕ) × (first (compile r) a b ≡ some p)
  unfolding compile padded facing alternatives
  compile-begins p l h =
      go (all-begins r.kinds (length r.productions) 0 r.productions [] pad 0 refl limits.each p (omega arith) (omega arith)
      (λ q e m. h q e))
    where
      go : (a : ℕ) × (b : ℕ) × (get_elem? (get_or (starts_all 0 r.productions) a []) b ≡ some p)
          → (a : ℕ) × (b : ℕ) × (first (compile r) a b ≡ some p)
      go (a, b, d) = (a, suc b, d)
