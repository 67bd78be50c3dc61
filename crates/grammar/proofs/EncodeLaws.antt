-- Bytes say rules exactly if they are the bytes of those rules and the rules are within the limits; what `decode` makes of any other bytes.
use mathlib.Core.Path.{◌≡◌, refl, sym, ap, subst, ◌∙◌}
use mathlib.Core.Logic.{◌↔◌}
use mathlib.Core.Bool.{Bool, true, false, cond}
use mathlib.Core.List.{List, [], ◌∷◌, ◌++◌, flat_map, append-nil}
use Prim.Native.Nat.{ℕ, ◌+◌, ◌≤◌, ◌<◌}
use native.Mathlib.Omega.{arith}
use lib.Dec.{ltb}
use lib.ListN.{length, drop, replicate, length-append, length-drop, length-replicate, drop_of_length-le}
use borrow.Author.Tests.{ltb-true, ltb-false, lt-ltb, le-ltb}
use Rattle.number.specs.Forms.{Bytes}
use Rattle.grammar.specs.Types.{Refusal, Unfinished, Malformed, OverLimit, UnknownSymbol, Trailing, Unproductive, LeftRecursive, Symbol}
use Rattle.grammar.specs.Limits.{max_kinds, max_nonterminals}
use Rattle.grammar.specs.Decode.{Rules, Mark, mark, Parsed, got, refused, and_then, times, limited, nonterminal, ending, decode}
use Rattle.grammar.specs.Grammar.{size_all, Limited}
use Rattle.grammar.specs.Encode.{Part, highest_kind, nonterminal_count, production_count, symbol_count, one_symbol, nonterminal_parts, parts_of}
use Rattle.grammar.specs.Encode.{bytes_of, encode}
use Rattle.grammar.specs.Faults.{places_of, InLimits, IsSymbol, Comes, Breaks, Faulty}
use Rattle.grammar.proofs.PartLaws.{breaking_at, Fault, ends, misspells, breaks}
use Rattle.grammar.proofs.PartLaws.{after_parts, after-append, limits-append, append-limits, bytes-join, left_after, Stop, Came}
use Rattle.grammar.proofs.ReaderLaws.{stop-more, stop-after, Lies, inside, beyond, lies}
use Rattle.grammar.proofs.NumberReaders.{stop-here, here-stop}
use Rattle.grammar.proofs.LimitLaws.{places-rules, limited-in-limits}
use Rattle.grammar.proofs.GrammarReaders.{kinds-reader, nonterminals-reader, rules-reader}

-- where reading begins
abbrev origin : Mark
origin = mark 0 0

abbrev rules : ℕ → List (List (List Symbol)) → Rules
rules t l = record { kinds = t; productions = l }

-- ---- stops of whole rules
-- a stop of the numbers of rules
abbrev WholeStop : List ℕ → Rules → Refusal → Type 0
WholeStop s r f = Stop s r.kinds (length r.productions) origin (parts_of r) f

-- a number that breaks a limit
broken : (s : List ℕ) (at : ℕ) (x : Part) (c : Comes s at) → c.due ≡ x → Breaks c → Faulty s (breaking_at at x)
broken s at (highest_kind v) c e b = (c, b, λ y. rw e at y)
broken s at (nonterminal_count v) c e b = (c, b, λ y. rw e at y)
broken s at (production_count v) c e b = (c, b, λ y. rw e at y)
broken s at (symbol_count v) c e b = (c, b, λ y. rw e at y)
broken s at (one_symbol x) c e b = (c, b, rw e tt)

breaking-3 : (at : ℕ) (x : Part) → ¬ IsSymbol x → breaking_at at x ≡ OverLimit at
breaking-3 at (highest_kind v) h = refl
breaking-3 at (nonterminal_count v) h = refl
breaking-3 at (production_count v) h = refl
breaking-3 at (symbol_count v) h = refl
breaking-3 at (one_symbol x) h = absurd (h tt)

breaking-4 : (at : ℕ) (x : Part) → IsSymbol x → breaking_at at x ≡ UnknownSymbol at
breaking-4 at (highest_kind v) h = absurd h
breaking-4 at (nonterminal_count v) h = absurd h
breaking-4 at (production_count v) h = absurd h
breaking-4 at (symbol_count v) h = absurd h
breaking-4 at (one_symbol x) h = refl

stop-faulty : (s : List ℕ) (r : Rules) (f : Refusal) → WholeStop s r f → Faulty s f
stop-faulty s r f z = go f (rw (p, b) at z.fault)
  where
    p : 0 + places_of z.ahead ≡ places_of z.ahead
    p = omega arith

    b : 0 + length (bytes_of z.ahead) ≡ length (bytes_of z.ahead)
    b = omega arith

    comes : Comes s (length (bytes_of z.ahead))
    comes = record {
      rules = r;
      ahead = z.ahead;
      due = z.due;
      behind = z.behind;
      left = z.left;
      numbers = z.numbers;
      keeps = z.keeps;
      bytes = z.bytes;
      place = refl;
    }

    go : (f : Refusal) → Fault r.kinds (length r.productions) (places_of z.ahead) (length (bytes_of z.ahead)) z.due z.left f → Faulty s f
    go f (ends h) = (comes, h)
    go f (misspells h) = (comes, h)
    go f (breaks rest l d k) = broken s (length (bytes_of z.ahead)) z.due comes refl (rest, l, d, k)

-- a number that reading comes to and that is at fault stops it
comes-stop : (s : List ℕ) (at : ℕ) (c : Comes s at) (f : Refusal)
    → Fault c.rules.kinds (length c.rules.productions) (places_of c.ahead) at c.due c.left f → WholeStop s c.rules f
comes-stop s at c f h =
    let p : 0 + places_of c.ahead ≡ places_of c.ahead = omega arith in
    let e = c.place in
    let b : 0 + length (bytes_of c.ahead) ≡ at = omega (arith, e) in record {
      ahead = c.ahead;
      due = c.due;
      behind = c.behind;
      left = c.left;
      numbers = c.numbers;
      keeps = c.keeps;
      bytes = c.bytes;
      fault = rw (p, b) h;
    }

-- the first two numbers have the same limits in every grammar
module _ {t n t' n' p at v : ℕ} {left : List ℕ} where
  fit-kinds : {f : Refusal} → Fault t n p at (highest_kind v) left f → Fault t' n' p at (highest_kind v) left f
  fit-kinds (ends h) = ends h
  fit-kinds (misspells h) = misspells h
  fit-kinds (breaks rest l d k) = breaks rest l d k

  fit-nonterminals : {f : Refusal} → Fault t n p at (nonterminal_count v) left f → Fault t' n' p at (nonterminal_count v) left f
  fit-nonterminals (ends h) = ends h
  fit-nonterminals (misspells h) = misspells h
  fit-nonterminals (breaks rest l d k) = breaks rest l d k

module _ (s : List ℕ) (bytes : Bytes s) where
  -- what reading a grammar comes to
  abbrev Result : Parsed Rules → Type 0
  Result (got r m) = Limited r × (s ≡ encode r) × (m ≡ mark (length s) (size_all r.productions))
  Result (refused f) = Faulty s f

  -- behind the last number of rules
  whole-came : (r : Rules) (m : Mark) → InLimits r.kinds (length r.productions) 0 (parts_of r) → m ≡ after_parts origin (parts_of r)
      → s ≡ bytes_of (parts_of r) ++ drop m.byte s → Result (ending s r m)
  unfolding ending encode
  whole-came r m k e d = go (ltb m.byte (length s)) refl
    where
      at_byte : m.byte ≡ length (encode r)
      at_byte = ap (λ (m : Mark). m.byte) e ∙ (omega arith)

      at_places : m.places ≡ size_all r.productions
      at_places = ap (λ (m : Mark). m.places) e ∙ (omega (arith, places-rules r))

      go : (b : Bool) → ltb m.byte (length s) ≡ b → Result (cond b (refused (Trailing m.byte)) (got r m))
      go true q =
          let h = ltb-true m.byte (length s) q in
          record {
            rules = r;
            more = drop m.byte s;
            limits = (limited-in-limits r).1 k;
            bytes = d;
            some = omega (arith, h, length-drop m.byte s);
            place = at_byte;
          }
      go false q =
          let h = ltb-false m.byte (length s) q in
          let z = drop_of_length-le s h in
          let y : s ≡ encode r = d ∙ ap (λ (l : List ℕ). bytes_of (parts_of r) ++ l) z ∙ append-nil (bytes_of (parts_of r)) in
          let x : m.byte ≡ length s = at_byte ∙ ap length (sym y) in
          ((limited-in-limits r).1 k, y, ap (λ (b : ℕ). mark b m.places) x ∙ ap (mark (length s)) at_places)

  -- the first two numbers
  abbrev two : ℕ → ℕ → List Part
  two t n = highest_kind t ∷ nonterminal_count n ∷ []

  rules-came : (t n : ℕ) → InLimits t n 0 (two t n) → s ≡ bytes_of (two t n) ++ drop (after_parts origin (two t n)).byte s
      → (x : Parsed (List (List (List Symbol))))
      → Came s t n (after_parts origin (two t n)) (λ l. length l ≡ n) (flat_map nonterminal_parts) x
      → Result (and_then x (λ l m. ending s (rules t l) m))
  unfolding and_then parts_of
  rules-came t n k d (got l m) (e, q, k', d') =
      let u : two t n ++ flat_map nonterminal_parts l ≡ parts_of (rules t l) = rw (← e) in
      let z : InLimits t n 0 (parts_of (rules t l)) = subst (InLimits t n 0) u (limits-append t n 0 (two t n) (flat_map nonterminal_parts l) k k') in
      whole-came (rules t l) m (subst (λ (j : ℕ). InLimits t j 0 (parts_of (rules t l))) (sym e) z)
      (q ∙ after-append origin (two t n) (flat_map nonterminal_parts l) ∙ ap (after_parts origin) u)
      (d ∙ ap (λ (y : List ℕ). bytes_of (two t n) ++ y) d' ∙ sym (bytes-join (two t n) (flat_map nonterminal_parts l) (drop m.byte s))
      ∙ ap (λ (y : List Part). bytes_of y ++ drop m.byte s) u)
  rules-came t n k d (refused f) (l, e, z) =
      let u : parts_of (rules t l) ≡ two t n ++ flat_map nonterminal_parts l = rw e in
      let y : Stop s t n origin (parts_of (rules t l)) f = stop-after s t n origin (two t n) (flat_map nonterminal_parts l) (parts_of (rules t l)) f u k d z in
      stop-faulty s (rules t l) f (subst (λ (j : ℕ). Stop s t j origin (parts_of (rules t l)) f) (sym e) y)

  count-came : (t : ℕ) → InLimits t 0 0 (highest_kind t ∷ []) → s ≡ bytes_of (highest_kind t ∷ []) ++ drop (after_parts origin (highest_kind t ∷ [])).byte s
      → (x : Parsed ℕ) → Came s t 0 (after_parts origin (highest_kind t ∷ [])) (λ v. Unit {0}) (λ v. nonterminal_count v ∷ []) x
      → Result (and_then x (λ n m. and_then (times n (nonterminal s t n) m) (λ l m'. ending s (rules t l) m')))
  unfolding and_then parts_of
  count-came t k d (got n m) (u, e, k', d') =
      let q : m ≡ after_parts origin (two t n) = e ∙ after-append origin (highest_kind t ∷ []) (nonterminal_count n ∷ []) in
      let z : InLimits t n 0 (two t n) = limits-append t n 0 (highest_kind t ∷ []) (nonterminal_count n ∷ []) k k' in
      let y =
      d ∙ ap (λ (l : List ℕ). bytes_of (highest_kind t ∷ []) ++ l) d'
      ∙ sym (bytes-join (highest_kind t ∷ []) (nonterminal_count n ∷ []) (drop m.byte s)) in
      rw q (rules-came t n z (rw q at y) (times n (nonterminal s t n) (after_parts origin (two t n)))
      ((rules-reader s bytes t n k.0.0.1 k'.0.0.1 n).came (after_parts origin (two t n)) z.1))
  count-came t k d (refused f) (v, u, z) =
      let l : List (List (List Symbol)) = replicate v [] in
      let n : ℕ = length l in
      let e : n ≡ v = length-replicate v [] in
      let w : List Part = highest_kind t ∷ [] in
      let x : Stop s t n (after_parts origin w) (nonterminal_count v ∷ []) f =
      stop-here s t n (after_parts origin w) (nonterminal_count v) f k.1
      (fit-nonterminals (here-stop s t 0 (after_parts origin w) (nonterminal_count v) f z)) in
      let y : Stop s t n origin (w ++ (nonterminal_count v ∷ [])) f =
      stop-after s t n origin w (nonterminal_count v ∷ []) (w ++ (nonterminal_count v ∷ [])) f refl k d x in
      let q : parts_of (rules t l) ≡ (w ++ (nonterminal_count v ∷ [])) ++ flat_map nonterminal_parts l = rw e in
      stop-faulty s (rules t l) f (stop-more s t n origin (w ++ (nonterminal_count v ∷ [])) (flat_map nonterminal_parts l) (parts_of (rules t l)) f q y)

  decode-came : Result (decode s)
  unfolding decode and_then parts_of
  decode-came = go (limited s 1 max_kinds origin) ((kinds-reader s bytes 0 0).came origin (omega arith))
    where
      go : (x : Parsed ℕ) → Came s 0 0 origin (λ v. Unit {0}) (λ v. highest_kind v ∷ []) x
          → Result (and_then x (λ t m.
          and_then (limited s 1 max_nonterminals m) (λ n m'. and_then (times n (nonterminal s t n) m') (λ l m''. ending s (rules t l) m''))))
      go (got t m) (u, e, k, d) =
          rw e (count-came t k (rw e at d) (limited s 1 max_nonterminals (after_parts origin (highest_kind t ∷ [])))
          ((nonterminals-reader s bytes t 0).came (after_parts origin (highest_kind t ∷ [])) k.1))
      go (refused f) (v, u, z) =
          let y : Stop s v 0 origin (highest_kind v ∷ []) f =
          stop-here s v 0 origin (highest_kind v) f (omega arith) (fit-kinds (here-stop s 0 0 origin (highest_kind v) f z)) in
          stop-faulty s (rules v []) f (stop-more s v 0 origin (highest_kind v ∷ []) (nonterminal_count 0 ∷ []) (parts_of (rules v [])) f refl y)

  -- ---- and back: what the bytes begin with is read
  module _ (r : Rules) where
    abbrev kinds : ℕ
    kinds = r.kinds

    abbrev count : ℕ
    count = length r.productions

    abbrev one : List Part
    one = highest_kind kinds ∷ []

    abbrev other : List Part
    other = nonterminal_count count ∷ []

    abbrev rest : List Part
    rest = flat_map nonterminal_parts r.productions

    -- what is done behind each number
    abbrev behind_rules : List (List (List Symbol)) → Mark → Parsed Rules
    behind_rules l m = ending s (rules kinds l) m

    abbrev behind_count : ℕ → Mark → Parsed Rules
    behind_count n m = and_then (times n (nonterminal s kinds n) m) behind_rules

    abbrev behind_kinds : ℕ → Mark → Parsed Rules
    behind_kinds t m = and_then (limited s 1 max_nonterminals m) (λ n m'. and_then (times n (nonterminal s t n) m') (λ l m''. ending s (rules t l) m''))

    from-kinds : {x : Parsed ℕ} → limited s 1 max_kinds origin ≡ x → decode s ≡ and_then x behind_kinds
    unfolding decode and_then
    from-kinds e = ap (λ (x : Parsed ℕ). and_then x behind_kinds) e

    from-count : {x : Parsed ℕ} → limited s 1 max_kinds origin ≡ got kinds (after_parts origin one) → limited s 1 max_nonterminals (after_parts origin one) ≡ x
        → decode s ≡ and_then x behind_count
    unfolding and_then
    from-count e q = from-kinds e ∙ ap (λ (x : Parsed ℕ). and_then x behind_count) q

    from-rules : {x : Parsed (List (List (List Symbol)))} → limited s 1 max_kinds origin ≡ got kinds (after_parts origin one)
        → limited s 1 max_nonterminals (after_parts origin one) ≡ got count (after_parts (after_parts origin one) other)
        → times count (nonterminal s kinds count) (after_parts (after_parts origin one) other) ≡ x → decode s ≡ and_then x behind_rules
    unfolding and_then
    from-rules e q d = from-count e q ∙ ap (λ (x : Parsed (List (List (List Symbol)))). and_then x behind_rules) d

    -- rules within the limits are read
    reads-rules : Limited r → (more : List ℕ) → s ≡ encode r ++ more → decode s ≡ ending s r (after_parts origin (parts_of r))
    unfolding encode parts_of and_then
    reads-rules limits more d =
        let k = append-limits kinds count 0 one (other ++ rest) ((limited-in-limits r).0 limits) in
        let k' = append-limits kinds count (0 + places_of one) other rest k.1 in
        let d' : s ≡ bytes_of one ++ (bytes_of (other ++ rest) ++ more) = d ∙ bytes-join one (other ++ rest) more in
        let x = left_after s origin one (bytes_of (other ++ rest) ++ more) d' in
        let x' = x ∙ bytes-join other rest more in
        let y = left_after s (after_parts origin one) other (bytes_of rest ++ more) x' in
        from-rules ((kinds-reader s bytes kinds count).gets origin kinds tt k.0 (bytes_of (other ++ rest) ++ more) d')
        ((nonterminals-reader s bytes kinds count).gets (after_parts origin one) count tt k'.0 (bytes_of rest ++ more) x')
        ((rules-reader s bytes kinds count limits.kinds-most limits.few count
        ).gets (after_parts (after_parts origin one) other) r.productions refl k'.1 more y)
        ∙ ap (λ (m : Mark). ending s r m)
        (ap (λ (m : Mark). after_parts m rest) (after-append origin one other) ∙ after-append origin (one ++ other) rest)

    -- rules of which a number is at fault are refused there
    stops-rules : (f : Refusal) → WholeStop s r f → decode s ≡ refused f
    unfolding parts_of and_then
    stops-rules f z = by-kinds (lies s kinds count origin one (other ++ rest) (parts_of r) f refl z)
      where
        by-rest : InLimits kinds count 0 one → limited s 1 max_kinds origin ≡ got kinds (after_parts origin one)
            → Lies s kinds count (after_parts origin one) other rest f → decode s ≡ refused f
        by-rest k e (inside z) = from-count e ((nonterminals-reader s bytes kinds count).stops (after_parts origin one) count f tt z)
        by-rest k e (beyond k' d z) =
            from-rules e
            ((nonterminals-reader s bytes kinds count).gets (after_parts origin one) count tt k' (drop (after_parts (after_parts origin one) other).byte s) d)
            ((rules-reader s bytes kinds count k.0.0.1 k'.0.0.1 count).stops (after_parts (after_parts origin one) other) r.productions f refl z)

        by-kinds : Lies s kinds count origin one (other ++ rest) f → decode s ≡ refused f
        by-kinds (inside z) = from-kinds ((kinds-reader s bytes kinds count).stops origin kinds f tt z)
        by-kinds (beyond k d z) =
            by-rest k ((kinds-reader s bytes kinds count).gets origin kinds tt k (drop (after_parts origin one).byte s) d)
            (lies s kinds count (after_parts origin one) other rest (other ++ rest) f refl z)

  -- behind rules: nothing, or bytes that follow
  ending-none : (r : Rules) → s ≡ encode r → ending s r (after_parts origin (parts_of r)) ≡ got r (mark (length s) (size_all r.productions))
  unfolding ending encode
  ending-none r e =
      let b : 0 + length (bytes_of (parts_of r)) ≡ length s = omega (arith, ap length e) in
      let p : 0 + places_of (parts_of r) ≡ size_all r.productions = omega (arith, places-rules r) in
      rw (b, p, le-ltb (length s) (length s) (omega arith))

  ending-some : (r : Rules) (more : List ℕ) → s ≡ encode r ++ more → 1 ≤ length more
      → ending s r (after_parts origin (parts_of r)) ≡ refused (Trailing (length (encode r)))
  unfolding ending encode
  ending-some r more e h =
      let b : 0 + length (bytes_of (parts_of r)) ≡ length (encode r) = omega arith in
      let l : length (encode r) < length s = omega (arith, ap length e, length-append (encode r) more) in
      rw (b, lt-ltb (length (encode r)) (length s) l)

  -- ---- exactly
  -- bytes say rules exactly if they are the bytes of these rules and the rules are within the limits
  pub decoded-iff : (r : Rules) (m : Mark)
      → (decode s ≡ got r m) ↔ (Limited r × (s ≡ encode r) × (m ≡ mark (length s) (size_all r.productions)))
  decoded-iff r m = (
    λ e. subst Result e decode-came,
    λ h. reads-rules r h.0 [] (h.1 ∙ sym (append-nil (encode r))) ∙ ending-none r h.1 ∙ ap (got r) (sym h.2),
  )

  -- and are refused exactly if they deserve that refusal
  pub refusal-iff : (f : Refusal) → (decode s ≡ refused f) ↔ Faulty s f
  refusal-iff f = (λ e. subst Result e decode-came, back f)
    where
      back : (f : Refusal) → Faulty s f → decode s ≡ refused f
      back (Unfinished at) (c, h) = stops-rules c.rules (Unfinished at) (comes-stop s at c (Unfinished at) (ends h))
      back (Malformed at) (c, h) = stops-rules c.rules (Malformed at) (comes-stop s at c (Malformed at) (misspells h))
      back (OverLimit at) (c, (rest, l, d, k), h) =
          stops-rules c.rules (OverLimit at) (comes-stop s at c (OverLimit at) (rw (← breaking-3 at c.due h) (breaks rest l d k)))
      back (UnknownSymbol at) (c, (rest, l, d, k), h) =
          stops-rules c.rules (UnknownSymbol at) (comes-stop s at c (UnknownSymbol at) (rw (← breaking-4 at c.due h) (breaks rest l d k)))
      back (Trailing at) z =
          reads-rules z.rules z.limits z.more z.bytes ∙ ending-some z.rules z.more z.bytes z.some
          ∙ ap (λ (at : ℕ). refused (Trailing at)) (sym z.place)
      back (Unproductive a) h = absurd h
      back (LeftRecursive a) h = absurd h
