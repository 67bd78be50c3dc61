-- From sets and rows to verdicts, and from tables to bytes: the check by cases, as the code meets them.
use mathlib.Core.Path.{◌≡◌, sym, ap, ◌∙◌}
use mathlib.Core.Bool.{true, false, not}
use mathlib.Core.List.{List}
use Prim.Native.Nat.{ℕ, ◌-◌, ◌^◌, ◌<◌}
use native.Mathlib.Omega.{arith}
use lib.ListN.{length, get_or, replicate}
use Rattle.std.specs.Prelude.{Ok, Err}
use Rattle.base.specs.Bits.{test_bit}
use Rattle.base.specs.Search.{lowest_from}
use Rattle.base.proofs.Bits.{test_below}
use Rattle.base.proofs.Booleans.{clash}
use Rattle.base.proofs.Lowest.{lowest-same}
use Rattle.number.specs.declared.Refusal.{Refusal}
use Rattle.number.specs.declared.Refusal.TheVariants.{Unproductive, LeftRecursive}
use Rattle.number.specs.declared.Cursor.{Cursor}
use Rattle.number.specs.declared.Read.{Read}
use Rattle.number.specs.declared.Read.TheVariants.{Value, Refused as Unread}
use Rattle.grammar.specs.Limits.{max_nonterminals}
use Rattle.grammar.specs.Grammar.{Grammar, of_places}
use Rattle.grammar.specs.inside.Tables.{table_words, grammar_in, nonterminals_in, TablesFit, Bare, SameTables}
use Rattle.reader.specs.inside.Pass.{out, whole_pass}
use Rattle.reader.proofs.ReadLaws.{PassGives, none, whole, outcome}
use Rattle.grammar.proofs.WordLaws.{length-starts-in}
use Rattle.soundness.specs.Verdict.{Verdict}
use Rattle.closures.specs.Textbook.{Move}
use Rattle.closures.specs.Closures.{deriving?}
use Rattle.corners.specs.Corners.{Corners, left_recursive?}
use Rattle.soundness.specs.Check.{lowest_unproductive, lowest_left_recursive, refuse_at, unproductive_of, left_recursive_of, judge_of, on_decoded, check_of}
use Rattle.closures.specs.inside.Steps.{DerivingIs}
use Rattle.corners.specs.inside.Steps.{Found, Widening, reach_of}
use Rattle.corners.specs.inside.Ending.{AllEnd, Settled}
use Rattle.soundness.specs.inside.Compiled.{Judgement, Compiled}
use Rattle.soundness.proofs.OwnLaws.{lowest-absent}
use Rattle.corners.proofs.LeftRecursion.{move-to}
use Rattle.corners.proofs.Warshall.{reached}
use Rattle.corners.proofs.EndingLaws.{ending-all, settled-none, own-recursive}

-- ---- 6
pub unproductive-is : (t : List ℕ) (x n : ℕ) → DerivingIs true (grammar_in t) x → n ≡ nonterminals_in t
    → refuse_at Unproductive (lowest_from (λ a. not (test_bit x a)) 0 n) ≡ unproductive_of (grammar_in t)
unfolding DerivingIs unproductive_of lowest_unproductive
unproductive-is t x n d e =
    ap (refuse_at Unproductive)
    (lowest-same (λ a. not (test_bit x a)) (λ a. not (deriving? true (grammar_in t) a)) 0 n (λ a l m. ap not (d a))
    ∙ ap (lowest_from (λ a. not (deriving? true (grammar_in t) a)) 0) (e ∙ sym (length-starts-in t)))

-- no member of a full set is missing
pub productive-all : (t : List ℕ) (x n : ℕ) → DerivingIs true (grammar_in t) x → n ≡ nonterminals_in t → x ≡ 2 ^ n - 1 → Ok tt ≡ unproductive_of (grammar_in t)
productive-all t x n d e f =
    ap (refuse_at Unproductive) (sym (lowest-absent (λ a. not (test_bit x a)) n (λ a l. ap not (ap (λ (y : ℕ). test_bit y a) f ∙ test_below n a l))))
    ∙ unproductive-is t x n d e

-- ---- 7
-- by rows of which each holds its own nonterminal if and only if that is left recursive
recursive-by : (t : List ℕ) (n : ℕ) (rows : List ℕ) → n ≡ length (grammar_in t).starts
    → ((a : ℕ) → a < n → test_bit (get_or rows a 0) a ≡ left_recursive? (grammar_in t) a)
    → refuse_at LeftRecursive (lowest_from (λ a. test_bit (get_or rows a 0) a) 0 n) ≡ left_recursive_of (grammar_in t)
unfolding left_recursive_of lowest_left_recursive
recursive-by t n rows m h =
    ap (refuse_at LeftRecursive)
    (lowest-same (λ a. test_bit (get_or rows a 0) a) (left_recursive? (grammar_in t)) 0 n (λ a k b. h a (omega (arith, b)))
    ∙ ap (lowest_from (left_recursive? (grammar_in t)) 0) m)

module _ (t : List ℕ) (n : ℕ) (rows : List ℕ) (e : n ≡ nonterminals_in t) (h : Corners (grammar_in t) (nonterminals_in t) rows) where
  starts-n : n ≡ length (grammar_in t).starts
  starts-n = e ∙ sym (length-starts-in t)

  rows-n : Corners (grammar_in t) n rows
  rows-n = rw e h

  -- the rows as they are, where moves end
  pub recursive-own : AllEnd rows n → refuse_at LeftRecursive (lowest_from (λ a. test_bit (get_or rows a 0) a) 0 n) ≡ left_recursive_of (grammar_in t)
  recursive-own d = recursive-by t n rows starts-n (own-recursive (grammar_in t) n rows starts-n rows-n d)

  -- where they are settled from every nonterminal, none holds its own
  pub recursive-none : {x : ℕ} → Settled rows x → x ≡ 2 ^ n - 1 → Ok tt ≡ left_recursive_of (grammar_in t)
  recursive-none s f =
      ap (refuse_at LeftRecursive) (sym (lowest-absent (λ a. test_bit (get_or rows a 0) a) n (settled-none rows n s f)))
      ∙ recursive-own (ending-all rows n s.ending f)

  -- the rows closed
  pub recursive-is : TablesFit t → length rows ≡ max_nonterminals → {after : List ℕ} → after ≡ reach_of n n rows
      → refuse_at LeftRecursive (lowest_from (λ a. test_bit (get_or after a 0) a) 0 n) ≡ left_recursive_of (grammar_in t)
  recursive-is f l {after} q =
      let g : Grammar = grammar_in t in
      let named : (a c : ℕ) → Move (of_places g) a c → c < n = λ a c v. let (p, u) = move-to g v in omega (arith, e, f.named p c u) in
      recursive-by t n after starts-n
      (λ a k. ap (λ (r : List ℕ). test_bit (get_or r a 0) a) q ∙ reached g n rows starts-n named (omega (arith, l, e, f.few)) rows-n a k)

-- ---- 7 before 6: the tables stay as the search for 7 leaves them, and say the same
pub still-nullable : {t₀ t : List ℕ} → SameTables t₀ t → (x : ℕ) → DerivingIs false (grammar_in t₀) x → DerivingIs false (grammar_in t) x
still-nullable k x d = let same = k.says in rw same d

-- what stands first is what left corners are made from, in tables that hold none yet
pub found-widening : {t rows : List ℕ} {x led : ℕ} → TablesFit t × Bare t → length rows ≡ max_nonterminals → Found t x led rows → Widening t x led rows
found-widening p l f = record { fits = p.0; bare = p.1; vanish = f.vanish; long = l; firsts = f.firsts; led-is = f.led-is }

module _ {t₀ t : List ℕ} {v : Verdict} (seven : Judgement v (left_recursive_of (grammar_in t₀)) t₀ t) where
  pub judge-first : {r : Refusal} → v ≡ Err r → Judgement (Err r) (judge_of (grammar_in t₀)) t₀ t
  unfolding judge_of
  judge-first h = let e = seven.verdict in record { verdict = rw (← e, h); kept = seven.kept; cornered = seven.cornered }

  pub judge-second : v ≡ Ok tt → {w : Verdict} → w ≡ unproductive_of (grammar_in t) → Judgement w (judge_of (grammar_in t₀)) t₀ t
  unfolding judge_of
  judge-second h {w} d =
      let e = seven.verdict in
      let same = seven.kept.says in
      let second : w ≡ unproductive_of (grammar_in t₀) = d ∙ ap unproductive_of same in
      record { verdict = rw (← e, h) second; kept = seven.kept; cornered = seven.cornered }

-- ---- the bytes
module _ (s t₀ : List ℕ) {x : Read} {t : List ℕ} (z : t₀ ≡ replicate table_words 0) (e : out x t ≡ whole_pass s t₀) where
  pub compile-refused : {r r' : Refusal} {c : Cursor} → x ≡ Unread r c → r' ≡ r → Compiled s (Err r') t
  unfolding check_of
  compile-refused {r} {r'} h d = go (outcome s t₀ z e)
    where
      go : PassGives s x t → Compiled s (Err r') t
      go (none r'' c'' q h') = let y : r'' ≡ r' = cc in
          record { verdict = rw (q, y); says = λ g m q'. clash (cc); fits = λ g m q'. clash (cc); cornered = λ q'. clash (cc) }
      go (whole g m v c q h' l u f b) = clash (cc)

  module _ {v : ℕ} {c : Cursor} (h : x ≡ Value v c) where
    pub compile-fits : TablesFit t × Bare t
    compile-fits = go (outcome s t₀ z e)
      where
        go : PassGives s x t → TablesFit t × Bare t
        go (none r c' q h') = clash (cc)
        go (whole g m v c q h' l u f b) = (f, b)

    pub compile-judged : {w : Verdict} {t' : List ℕ} → Judgement w (judge_of (grammar_in t)) t t' → Compiled s w t'
    unfolding check_of
    compile-judged {w} {t'} j = go (outcome s t₀ z e)
      where
        go : PassGives s x t → Compiled s w t'
        go (none r c' q h') = clash (cc)
        go (whole g m v c q h' l u f b) =
            record {
              verdict = j.verdict ∙ ap judge_of u ∙ ap on_decoded (sym q);
              says = λ g' m' q'. let y : g ≡ g' = cc in rw (← y) (j.kept.says ∙ u);
              fits = λ g' m' q'. j.kept.fits;
              cornered = λ _. j.cornered;
            }
