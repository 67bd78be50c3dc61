-- The tables of decoded rules fit: every index that they say is in range, and first places stand rule behind rule, each at a place of its own nonterminal.
-- No left corner is written yet.
use mathlib.Core.Path.{◌≡◌, sym, ap, ◌∙◌}
use mathlib.Core.List.{List, [], ◌∷◌, ◌++◌}
use Prim.Native.Nat.{ℕ, zero, suc, ◌+◌, ◌-◌, ◌*◌, ◌≤◌, ◌<◌}
use native.Mathlib.Omega.{arith}
use lib.ListN.{length, get_or, replicate, length-append, get_or-replicate}
use Rattle.base.proofs.Booleans.{clash}
use Rattle.base.proofs.Lists.{slice_get}
use Rattle.reader.specs.inside.Types.{Symbol, Nonterminal}
use Rattle.grammar.specs.Limits.{max_nonterminals, max_places, end_place}
use Rattle.grammar.specs.Decode.{Rules}
use Rattle.grammar.specs.Grammar.{Grammar, facing, owner, size_all, compile, Limited}
use Rattle.grammar.specs.Derivation.{oneth}
use Rattle.grammar.specs.inside.Ordered.{Ordered}
use Rattle.grammar.specs.inside.Tables.{rule_words, firsts_at, rules_at, corners_at, table_words, corner_at}
use Rattle.grammar.specs.inside.Tables.{rule_at, grammar_in, nonterminals_in, corner_row, TablesFit, Bare}
use Rattle.grammar.proofs.PlaceLaws.{Faces, compile-faces}
use Rattle.grammar.proofs.WordLaws.{alternatives-in}
use Rattle.grammar.proofs.OrderedLaws.{compile-ordered}
use Rattle.reader.proofs.PassLaws.{counts_of, laid_out, length-size}
use Rattle.reader.proofs.TableLaws.{counts-first, unwritten, C, A, B, D, held, length-A, length-B, length-D, laid, get-last, get-count, tables-say}

-- every nonterminal that a place faces is one of the grammar's
pub compile-named : (r : Rules) → Limited r → (p a : ℕ) → facing (compile r) p ≡ Nonterminal a → a < length r.productions
compile-named r limits p a e = go (facing (compile r) p) e (compile-faces r limits p)
  where
    go : (s : Symbol) → s ≡ Nonterminal a → Faces r.kinds (length r.productions) (size_all r.productions) end_place p s
        → a < length r.productions
    go s q (Faces.end x) = clash (cc)
    go s q (Faces.mark l x) = clash (cc)
    go s q (Faces.legal l h) = rw q at h

-- ---- the words
counts-grow : (k : ℕ) (l : List (List (List Symbol))) (j : ℕ) → j < length l → get_or (counts_of k l) j 0 ≤ get_or (counts_of k l) (suc j) 0
unfolding counts_of
counts-grow k [] j h = absurd (omega arith)
counts-grow k (n ∷ l) zero h = omega (arith, counts-first (k + length n) l)
counts-grow k (n ∷ l) (suc j) h = counts-grow (k + length n) l j (omega arith)

counts-le : (k : ℕ) (l : List (List (List Symbol))) (j : ℕ) → get_or (counts_of k l) j 0 ≤ k + size_all l
unfolding counts_of size_all
counts-le k [] zero = omega arith
counts-le k [] (suc j) = omega arith
counts-le k (n ∷ l) zero = omega arith
counts-le k (n ∷ l) (suc j) = omega (arith, counts-le (k + length n) l j, length-size n)

-- where productions begin at places of their nonterminals, so do those whose first places stand between the two numbers of a nonterminal
owned : (t : List ℕ) → Ordered (grammar_in t) → (a k : ℕ) → a < nonterminals_in t → rule_at t a ≤ k → k < rule_at t (suc a) → rule_at t (suc a) ≤ length t
    → owner (grammar_in t) (get_or t k 0) ≡ a
owned t o a k h b e l =
    let m : ℕ = k - rule_at t a in
    let z : rule_at t a + m ≡ k = omega arith in
    let f = slice_get t (rule_at t (suc a)) m (rule_at t a) (omega arith) l in
    o.owns a (suc m) (get_or t k 0) (ap (λ (s : List ℕ). oneth s (suc m)) (alternatives-in t a h) ∙ (rw z at f))

module _ (r : Rules) (limits : Limited r) where
  -- the tables as they are laid out, and what stands in them behind the numbers of productions
  abbrev T : List ℕ
  T = laid_out (replicate table_words 0) r

  abbrev E : List ℕ
  E = r.kinds ∷ length r.productions ∷ size_all r.productions ∷ unwritten

  length-held : length (held r limits) ≡ table_words
  length-held =
      omega (
        arith,
        length-append (A r limits) (1 ∷ (B r limits ++ (D r limits ++ E))),
        length-append (B r limits) (D r limits ++ E),
        length-append (D r limits) E,
        length-A r limits,
        length-B r limits,
        length-D r limits,
      )

  -- a nonterminal's first production, by its number
  rule-count : (j : ℕ) → j ≤ length r.productions → rule_at T j ≡ firsts_at + get_or (counts_of 0 r.productions) j 0
  unfolding rule_at C
  rule-count j h =
      let e : rules_at + j ≡ rules_at + (0 + j) = omega arith in
      rw (laid r limits) (ap (λ (q : ℕ). firsts_at + q) (ap (λ (q : ℕ). get_or (held r limits) q 0) e ∙ get-count r limits j h))

  pub tables-fit : TablesFit T
  tables-fit =
      let N : nonterminals_in T ≡ length r.productions = rw (laid r limits) (get-last r limits 1 E) in
      let long : length T ≡ table_words = rw (laid r limits) length-held in
      let within : (a : ℕ) → a < nonterminals_in T → rule_at T (suc a) ≤ corners_at
      = λ a h. omega (arith, rule-count (suc a) (omega (arith, N)), counts-le 0 r.productions (suc a), limits.small) in
      let say = tables-say r limits in
      record {
        long = long;
        few = omega (arith, N, limits.few);
        within = within;
        named = λ p a e. rw N (compile-named r limits p a (ap (λ (g : Grammar). facing g p) (sym say) ∙ e));
        begins = rule-count 0 (omega arith) ∙ ap (λ (q : ℕ). firsts_at + q) (counts-first 0 r.productions);
        ordered = λ a h.
            omega (
              arith,
              rule-count a (omega (arith, N)),
              rule-count (suc a) (omega (arith, N)),
              counts-grow 0 r.productions a (omega (arith, N)),
            );
        owns = λ a k h b e. owned T (rw say (compile-ordered r limits)) a k h b e (omega (arith, long, within a h));
      }

  -- the words behind all others are still zeros
  word-bare : (i : ℕ) → i < 2 * max_nonterminals → get_or T (corners_at + i) 0 ≡ 0
  word-bare i h =
      let e : corners_at + i ≡ max_places + suc (max_places + (rule_words + suc (suc (suc i)))) = omega arith in
      rw (laid r limits, e) (get-last r limits (suc (suc (suc i))) E ∙ get_or-replicate (2 * max_nonterminals) i 0 0 h)

  pub tables-bare : Bare T
  unfolding Bare corner_row
  tables-bare = λ a h.
      let e : suc (corner_at a) ≡ corners_at + suc (2 * a) = omega arith in
      let high : get_or T (suc (corner_at a)) 0 ≡ 0 = rw e (word-bare (suc (2 * a)) (omega arith)) in
      omega (arith, word-bare (2 * a) (omega arith), high)
