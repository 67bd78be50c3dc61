-- The tables that the pass leaves say the compiled grammar: `grammar_in` of them is `compile` of the decoded rules.
use mathlib.Core.Path.{◌≡◌, refl, sym, ap, ap₂, ◌∙◌}
use mathlib.Core.List.{List, [], ◌∷◌, ◌++◌, append_assoc, map, map-append}
use Prim.Native.Nat.{ℕ, zero, suc, ◌+◌, ◌-◌, ◌*◌, ◌≤◌, ◌<◌}
use native.Mathlib.Nat.{sub-zero, add-zero}
use native.Mathlib.Omega.{arith}
use lib.ListN.{length, get_or, set, take, drop, replicate, length-append, length-replicate, get_or-append, length-map}
use lib.Seq.{sets, slice, set_at, take_at, drop_at, get_or-append-add, drop-drop, take-nil}
use Rattle.base.specs.Rounds.{up_from}
use Rattle.reader.specs.inside.Types.{Symbol, Token, Nonterminal, End, Place}
use Rattle.grammar.specs.Limits.{max_kinds, max_nonterminals, max_places, end_place, end_mark, nobody}
use Rattle.base.specs.Lists.{AllOf}
use Rattle.grammar.specs.Decode.{Rules, Legal, Production, Alternatives}
use Rattle.grammar.specs.Grammar.{at, nowhere, lay_one, lay_each, lay_all, size_each, size_all, starts_each, starts_all, padded, compile, Limited}
use Rattle.grammar.specs.inside.Tables.{codes, owners, place_words, rule_words, firsts_at, rules_at, kinds_at, nonterminals_at, size_at, table_words}
use Rattle.grammar.specs.inside.Tables.{code_of, word_of, place_of}
use Rattle.grammar.specs.inside.Tables.{rule_at, starts_in, grammar_in}
use Rattle.grammar.proofs.CompileLaws.{length-all}
use Rattle.reader.specs.inside.Pass.{finished}
use Rattle.grammar.proofs.WordLaws.{place-of-word, place-of-none}
use Rattle.reader.proofs.PassLaws.{counts_of, firsts_of, laid_out, length-starts, length-size}

-- ---- words back to places
legal-code : (t n : ℕ) (x : Symbol) → Legal t n x → t ≤ max_kinds → n ≤ max_nonterminals → code_of x < codes
legal-code t n (Token k) h kt kn = omega arith
legal-code t n (Nonterminal a) h kt kn = omega arith
legal-code t n End h kt kn = absurd h

module _ (t n : ℕ) (kt : t ≤ max_kinds) (kn : n ≤ max_nonterminals) where
  back_one : (a : ℕ) → a < owners → (β : List Symbol) → AllOf (Legal t n) β → map place_of (map word_of (lay_one a β)) ≡ lay_one a β
  unfolding lay_one
  back_one a l [] h = ap (λ (x : Place). x ∷ []) (place-of-word (at a End) (omega arith) l)
  back_one a l (x ∷ β) h = ap₂ (λ (y : Place) (r : List Place). y ∷ r) (place-of-word (at a x) (legal-code t n x h.0 kt kn) l)
      (back_one a l β h.1)

  back-each : (a : ℕ) → a < owners → (l : List (List Symbol)) → AllOf (Production t n) l → map place_of (map word_of (lay_each a l)) ≡ lay_each a l
  unfolding lay_each
  back-each a l [] h = refl
  back-each a l (β ∷ bs) h =
      ap (map place_of) (map-append word_of (lay_one a β) (lay_each a bs)) ∙ map-append place_of (map word_of (lay_one a β)) (map word_of (lay_each a bs))
      ∙ ap₂ (λ (x y : List Place). x ++ y) (back_one a l β h.0.1) (back-each a l bs h.1)

  back-all : (a : ℕ) (l : List (List (List Symbol))) → a + length l ≤ owners → AllOf (Alternatives t n) l → map place_of (map word_of (lay_all a l))
      ≡ lay_all a l
  unfolding lay_all
  back-all a [] b h = refl
  back-all a (y ∷ l) b h =
      ap (map place_of) (map-append word_of (lay_each a y) (lay_all (suc a) l))
      ∙ map-append place_of (map word_of (lay_each a y)) (map word_of (lay_all (suc a) l))
      ∙ ap₂ (λ (x y : List Place). x ++ y) (back-each a (omega arith) y h.0.2) (back-all (suc a) l (omega arith) h.1)

none-back : (n : ℕ) → map place_of (replicate n 0) ≡ replicate n nowhere
none-back zero = refl
none-back (suc n) = ap₂ (λ (x : Place) (r : List Place). x ∷ r) place-of-none (none-back n)

length-lay_all : (a : ℕ) (l : List (List (List Symbol))) → length (map word_of (lay_all a l)) ≡ size_all l
length-lay_all a l = length-map (lay_all a l) word_of ∙ length-all a l

-- ---- the first places, nonterminal by nonterminal
slice-part : (f n : ℕ) (l : List ℕ) → slice f (f + n) l ≡ take n (drop f l)
slice-part zero n l = let e : 0 + n ≡ n = omega arith in rw e
slice-part (suc f) n [] = let e : suc f + n ≡ suc (f + n) = omega arith in rw (e, take-nil)
slice-part (suc f) n (x ∷ l) = let e : suc f + n ≡ suc (f + n) = omega arith in rw e (slice-part f n l)

pub counts-first : (k : ℕ) (l : List (List (List Symbol))) → get_or (counts_of k l) 0 0 ≡ k
unfolding counts_of
counts-first k [] = refl
counts-first k (n ∷ l) = refl

starts-back : (X : List ℕ) (rest : List ℕ) (l : List (List (List Symbol))) (a k o : ℕ)
    → ((j : ℕ) → j ≤ length l → get_or X (rules_at + (a + j)) 0 ≡ get_or (counts_of k l) j 0) → drop (firsts_at + k) X ≡ firsts_of o l ++ rest
    → starts_in X (up_from a (length l)) ≡ starts_all o l
unfolding starts_in rule_at up_from starts_all counts_of firsts_of
starts-back X rest [] a k o c d = refl
starts-back X rest (n ∷ l) a k o c d =
    ap₂ (λ (x : List ℕ) (r : List (List ℕ)). x ∷ r) here
    (starts-back X rest l (suc a) (k + length n) (o + size_each n) (λ j h. ap (λ (q : ℕ). get_or X (rules_at + q) 0) (next j) ∙ c (suc j) (omega arith))
    there)
  where
    next : (j : ℕ) → suc a + j ≡ a + suc j
    next j = omega arith

    begin : firsts_at + get_or X (rules_at + a) 0 ≡ firsts_at + k
    begin = ap (λ (q : ℕ). firsts_at + q) (ap (λ (q : ℕ). get_or X (rules_at + q) 0) (sym (add-zero a)) ∙ c 0 (omega arith))

    end : firsts_at + get_or X (rules_at + suc a) 0 ≡ firsts_at + k + length n
    end =
        let e : suc a ≡ a + 1 = omega arith in
        let f : get_or X (rules_at + suc a) 0 ≡ k + length n = ap (λ (q : ℕ). get_or X (rules_at + q) 0) e
        ∙ (c 1 (omega arith) ∙ counts-first (k + length n) l) in
        omega (arith, f)

    inside : drop (firsts_at + k) X ≡ starts_each o n ++ (firsts_of (o + size_each n) l ++ rest)
    inside = d ∙ append_assoc (starts_each o n) (firsts_of (o + size_each n) l) rest

    here : slice (firsts_at + get_or X (rules_at + a) 0) (firsts_at + get_or X (rules_at + suc a) 0) X ≡ starts_each o n
    here =
        ap₂ (λ (f e : ℕ). slice f e X) begin end ∙ slice-part (firsts_at + k) (length n) X ∙ ap (take (length n)) inside
        ∙ take_at (starts_each o n) (firsts_of (o + size_each n) l ++ rest) (length n) (length-starts o n)

    there : drop (firsts_at + (k + length n)) X ≡ firsts_of (o + size_each n) l ++ rest
    there =
        let e : firsts_at + (k + length n) ≡ firsts_at + k + length n = omega arith in
        rw e (sym (drop-drop (length n) (firsts_at + k) X) ∙ ap (drop (length n)) inside
        ∙ drop_at (starts_each o n) (firsts_of (o + size_each n) l ++ rest) (length n) (length-starts o n))

-- ---- the tables, region by region
-- a run of stores fills the front of a region of zeros
fill : (pre post : List ℕ) (n : ℕ) (vs : List ℕ) (i : ℕ) → length pre ≡ i → length vs ≤ n
    → sets (pre ++ (replicate n 0 ++ post)) i vs ≡ pre ++ ((vs ++ replicate (n - length vs) 0) ++ post)
fill pre post n [] i e h = rw sub-zero
fill pre post zero (v ∷ vs) i e h = absurd (omega arith)
fill pre post (suc n) (v ∷ vs) i e h =
    let f : suc n - suc (length vs) ≡ n - length vs = omega arith in
    let g : length (pre ++ (v ∷ [])) ≡ suc i = length-append pre (v ∷ []) ∙ omega (arith, e) in
    let one : set (pre ++ (0 ∷ (replicate n 0 ++ post))) i v ≡ (pre ++ (v ∷ [])) ++ (replicate n 0 ++ post)
    = set_at pre 0 (replicate n 0 ++ post) v i e ∙ sym (append_assoc pre (v ∷ []) (replicate n 0 ++ post)) in
    rw f (ap (λ (r : List ℕ). sets r (suc i) vs) one ∙ fill (pre ++ (v ∷ [])) post n vs (suc i) g (omega arith)
    ∙ append_assoc pre (v ∷ []) ((vs ++ replicate (n - length vs) 0) ++ post))

-- a store, and a look, behind the front
set-behind : (xs ys : List ℕ) (n i v : ℕ) → length xs ≡ n → set (xs ++ ys) (n + i) v ≡ xs ++ set ys i v
set-behind [] ys n i v e = let f : n + i ≡ i = omega arith in rw f
set-behind (x ∷ xs) ys n i v e =
    let f : n + i ≡ suc (n - 1 + i) = omega arith in
    rw f (ap (λ (r : List ℕ). x ∷ r) (set-behind xs ys (n - 1) i v (omega arith)))

get_or-behind : (xs ys : List ℕ) (n i : ℕ) → length xs ≡ n → get_or (xs ++ ys) (n + i) 0 ≡ get_or ys i 0
get_or-behind xs ys n i e = rw (← e) (get_or-append-add xs ys i 0)

length-filled : (vs : List ℕ) (n : ℕ) → length vs ≤ n → length (vs ++ replicate (n - length vs) 0) ≡ n
length-filled vs n h = length-append vs (replicate (n - length vs) 0) ∙ omega (arith, length-replicate {A = ℕ} (n - length vs) 0)

pub length-counts : (k : ℕ) (l : List (List (List Symbol))) → length (counts_of k l) ≡ suc (length l)
unfolding counts_of
length-counts k [] = refl
length-counts k (x ∷ l) = ap suc (length-counts (k + length x) l)

length-firsts : (o : ℕ) (l : List (List (List Symbol))) → length (firsts_of o l) ≤ size_all l
unfolding firsts_of size_all
length-firsts o [] = omega arith
length-firsts o (n ∷ l) =
    omega (arith, length-append (starts_each o n) (firsts_of (o + size_each n) l), length-starts o n, length-size n, length-firsts (o + size_each n) l)

-- the words of the rows of left corners, which are written later
abbrev pub unwritten : List ℕ
unwritten = replicate (2 * max_nonterminals) 0

-- what the tables hold, region by region: places, the end place, first places, numbers of productions, and how much there is, with all
-- that comes behind
abbrev pub regions : List ℕ → ℕ → List ℕ → List ℕ → List ℕ → List ℕ
regions A w B D E = A ++ (w ∷ (B ++ (D ++ E)))

module _ (r : Rules) (limits : Limited r) where
  unfoldable pub W : List ℕ
  W = map word_of (lay_all 0 r.productions)

  unfoldable pub S : List ℕ
  S = firsts_of 0 r.productions

  unfoldable pub C : List ℕ
  C = counts_of 0 r.productions

  few-W : length W ≤ max_places
  unfolding W
  few-W = omega (arith, length-lay_all 0 r.productions, limits.small)

  few-S : length S ≤ max_places
  unfolding S
  few-S = omega (arith, length-firsts 0 r.productions, limits.small)

  few-C : length C ≤ rule_words
  unfolding C
  few-C = omega (arith, length-counts 0 r.productions, limits.few)

  unfoldable pub A : List ℕ
  A = W ++ replicate (max_places - length W) 0

  unfoldable pub B : List ℕ
  B = S ++ replicate (max_places - length S) 0

  unfoldable pub D : List ℕ
  D = C ++ replicate (rule_words - length C) 0

  abbrev pub held : List ℕ
  held = regions A 1 B D (r.kinds ∷ length r.productions ∷ size_all r.productions ∷ unwritten)

  pub length-A : length A ≡ max_places
  unfolding A
  length-A = length-filled W max_places few-W

  pub length-B : length B ≡ max_places
  unfolding B
  length-B = length-filled S max_places few-S

  pub length-D : length D ≡ rule_words
  unfolding D
  length-D = length-filled C rule_words few-C

  -- the three runs of stores
  stored : sets (sets (sets (replicate table_words 0) rules_at C) firsts_at S) 0 W ≡ regions A 0 B D (0 ∷ 0 ∷ 0 ∷ unwritten)
  unfolding A B D
  stored =
      ap (λ (t : List ℕ). sets (sets t firsts_at S) 0 W) (fill (replicate rules_at 0) (0 ∷ 0 ∷ 0 ∷ unwritten) rule_words C rules_at refl few-C)
      ∙ ap (λ (t : List ℕ). sets t 0 W) (fill (replicate firsts_at 0) (D ++ (0 ∷ 0 ∷ 0 ∷ unwritten)) max_places S firsts_at refl few-S)
      ∙ fill [] (0 ∷ (B ++ (D ++ (0 ∷ 0 ∷ 0 ∷ unwritten)))) max_places W 0 refl few-W

  -- the last four stores
  set-end : (w x : ℕ) (E : List ℕ) → set (regions A w B D E) end_place x ≡ regions A x B D E
  set-end w x E = set-behind A (w ∷ (B ++ (D ++ E))) end_place 0 x length-A

  set_last : (w : ℕ) (E : List ℕ) (i x : ℕ) → set (regions A w B D E) (max_places + suc (max_places + (rule_words + i))) x ≡ regions A w B D (set E i x)
  set_last w E i x =
      set-behind A (w ∷ (B ++ (D ++ E))) max_places (suc (max_places + (rule_words + i))) x length-A
      ∙ ap (λ (l : List ℕ). A ++ (w ∷ l))
      (set-behind B (D ++ E) max_places (rule_words + i) x length-B ∙ ap (λ (l : List ℕ). B ++ l) (set-behind D E rule_words i x length-D))

  pub laid : laid_out (replicate table_words 0) r ≡ held
  unfolding laid_out finished word_of W S C
  laid =
      ap (λ (t : List ℕ). set (set (set (set t end_place 1) kinds_at r.kinds) nonterminals_at (length r.productions)) size_at (size_all r.productions))
      stored
      ∙ ap (λ (t : List ℕ). set (set (set t kinds_at r.kinds) nonterminals_at (length r.productions)) size_at (size_all r.productions))
      (set-end 0 1 (0 ∷ 0 ∷ 0 ∷ unwritten))
      ∙ ap (λ (t : List ℕ). set (set t nonterminals_at (length r.productions)) size_at (size_all r.productions))
      (set_last 1 (0 ∷ 0 ∷ 0 ∷ unwritten) 0 r.kinds)
      ∙ ap (λ (t : List ℕ). set t size_at (size_all r.productions)) (set_last 1 (r.kinds ∷ 0 ∷ 0 ∷ unwritten) 1 (length r.productions))
      ∙ set_last 1 (r.kinds ∷ length r.productions ∷ 0 ∷ unwritten) 2 (size_all r.productions)

  -- looks at them
  pub get-last : (i : ℕ) (E : List ℕ) → get_or (regions A 1 B D E) (max_places + suc (max_places + (rule_words + i))) 0 ≡ get_or E i 0
  get-last i E =
      get_or-behind A (1 ∷ (B ++ (D ++ E))) max_places (suc (max_places + (rule_words + i))) length-A
      ∙ get_or-behind B (D ++ E) max_places (rule_words + i) length-B ∙ get_or-behind D E rule_words i length-D

  pub get-count : (j : ℕ) → j ≤ length r.productions → get_or held (rules_at + (0 + j)) 0 ≡ get_or C j 0
  unfolding D C
  get-count j h =
      let e : rules_at + (0 + j) ≡ max_places + suc (max_places + j) = omega arith in
      let E : List ℕ = r.kinds ∷ length r.productions ∷ size_all r.productions ∷ unwritten in
      let l : j < length C = omega (arith, length-counts 0 r.productions) in
      rw e
      (get_or-behind A (1 ∷ (B ++ (D ++ E))) max_places (suc (max_places + j)) length-A
      ∙ get_or-behind B (D ++ E) max_places j length-B
      ∙ get_or-append D E 0 j (omega (arith, length-D, limits.few))
      ∙ get_or-append C (replicate (rule_words - length C) 0) 0 j l)

  pub the_places : map place_of (take place_words held) ≡ padded (lay_all 0 r.productions)
  unfolding padded A W place_of
  the_places =
      let E : List ℕ = r.kinds ∷ length r.productions ∷ size_all r.productions ∷ unwritten in
      let n : length (lay_all 0 r.productions) ≡ length W = sym (length-map (lay_all 0 r.productions) word_of) in
      let cut : take place_words held ≡ A ++ (1 ∷ [])
      = ap (take place_words) (sym (append_assoc A (1 ∷ []) (B ++ (D ++ E))))
      ∙ take_at (A ++ (1 ∷ [])) (B ++ (D ++ E)) place_words (length-append A (1 ∷ []) ∙ omega (arith, length-A)) in
      ap (map place_of) cut ∙ map-append place_of A (1 ∷ [])
      ∙ ap (λ (l : List Place). l ++ (at nobody (Token end_mark) ∷ []))
      (map-append place_of W (replicate (max_places - length W) 0)
      ∙ ap₂ (λ (x y : List Place). x ++ y)
      (back-all r.kinds (length r.productions) limits.kinds-most limits.few 0 r.productions (omega (arith, limits.few)) limits.each)
      (none-back (max_places - length W) ∙ ap (λ (k : ℕ). replicate (max_places - k) nowhere) (sym n)))
      ∙ append_assoc (lay_all 0 r.productions) (replicate (max_places - length (lay_all 0 r.productions)) nowhere) (at nobody (Token end_mark) ∷ [])

  the-firsts : drop (firsts_at + 0) held
      ≡ S ++ (replicate (max_places - length S) 0 ++ (D ++ (r.kinds ∷ length r.productions ∷ size_all r.productions ∷ unwritten)))
  unfolding B
  the-firsts =
      let E : List ℕ = r.kinds ∷ length r.productions ∷ size_all r.productions ∷ unwritten in
      ap (drop firsts_at) (sym (append_assoc A (1 ∷ []) (B ++ (D ++ E))))
      ∙ drop_at (A ++ (1 ∷ [])) (B ++ (D ++ E)) firsts_at (length-append A (1 ∷ []) ∙ omega (arith, length-A))
      ∙ append_assoc S (replicate (max_places - length S) 0) (D ++ E)

  pub tables-say : grammar_in (laid_out (replicate table_words 0) r) ≡ compile r
  unfolding grammar_in compile S C
  tables-say =
      rw laid
      (let N : get_or held nonterminals_at 0 ≡ length r.productions =
      get-last 1 (r.kinds ∷ length r.productions ∷ size_all r.productions ∷ unwritten) in
      let T : get_or held kinds_at 0 ≡ r.kinds = get-last 0 (r.kinds ∷ length r.productions ∷ size_all r.productions ∷ unwritten) in
      let P : get_or held size_at 0 ≡ size_all r.productions = get-last 2 (r.kinds ∷ length r.productions ∷ size_all r.productions ∷ unwritten) in
      let Q : starts_in held (up_from 0 (get_or held nonterminals_at 0)) ≡ starts_all 0 r.productions
      = ap (λ (n : ℕ). starts_in held (up_from 0 n)) N ∙ starts-back held _ r.productions 0 0 0 get-count the-firsts in
      λ i. record { kinds = T i; size = P i; starts = Q i; places = the_places i })
