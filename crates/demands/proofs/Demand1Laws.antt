-- DEMAND 1 of the calls, of the row and the cache: what is refused before the note is read leaves both as they were, and behind that there are 0, 10 and 14.
use mathlib.Core.Path.{◌≡◌, refl, sym, subst}
use mathlib.Core.Logic.{inl, inr}
use mathlib.Core.Bool.{Bool, true, false, cond}
use mathlib.Core.List.{List}
use Prim.Native.Nat.{ℕ}
use native.Mathlib.Omega.{arith}
use lib.Dec.{ltb}
use lib.ListN.{length}
use Rattle.grammar.specs.Decode.{Rules, Mark, got, decode}
use Rattle.grammar.specs.Grammar.{Grammar, compile}
use Rattle.reader.proofs.ReadLaws.{decode-limited}
use Rattle.derivation.specs.Runs.{marked}
use Rattle.derivation.specs.Machine.{Conclusion, accepted, stuck, full, plainly, reading}
use Rattle.derivation.specs.ReachRounds.{wrong_place}
use Rattle.derivation.specs.Gate.{Gate, shut, passed, at_gate, sound_gate, gate}
use Rattle.derivation.specs.Plain.{Answer, answer, accept, refuse, clear, sentence?, on_conclusion, read_note, plain_reading}
use Rattle.derivation.specs.Demand2.{Known}
use Rattle.derivation.proofs.GateLaws.{Early, gate-early, passed-means}
use Rattle.words.specs.Layout.{min_words}
use Rattle.words.specs.Begin.{Begun, begun, begin_words, begin12, beginning}
use Rattle.words.specs.inside.Standings.{Standing}
use Rattle.words.proofs.StandingLaws.{Stands, short, foreign, stands}
use Rattle.adaptive.specs.Quick.{Reply, reply, quick_note, over_cache, quick_reading}
use Rattle.adaptive.proofs.QuickLaws.{over-12, over-13, over-begun}
use Rattle.adaptive.proofs.TeachLaws.{note-reads, note-one, note-extends}
use Rattle.batch.specs.Batches.{Batched, batched, read_all, fits?, from18, batch_reading}
use Rattle.demands.specs.Demand1.{Clears, Came, RowAfter, CacheAfter, Demand1}

-- ---- the row
abbrev RowOf : List ℕ → Answer → Type 0
RowOf row x = RowAfter row x.number x.count x.row

refused-row : (n p : ℕ) (row : List ℕ) → ¬ Came n → RowOf row (refuse n p row)
refused-row n p row h = record { untouched = λ _. refl; zeros = λ q. absurd (h (inr q)); uncounted = λ _. refl }

cleared-row : (n p : ℕ) (row : List ℕ) → Clears n → RowOf row (clear n p row)
cleared-row n p row h = record { untouched = λ q. absurd (q (inr h)); zeros = λ _. refl; uncounted = λ _. refl }

not-cleared : ¬ Clears 0
not-cleared (inl e) = omega arith
not-cleared (inr e) = omega arith

accepted-row : (d row : List ℕ) → RowOf row (accept d row)
accepted-row d row = record { untouched = λ q. absurd (q (inl refl)); zeros = λ q. absurd (not-cleared q); uncounted = λ q. absurd (q refl) }

-- 10 and 14, or accepted
pub came : (g : Grammar) (w row : List ℕ) (o : Conclusion) → Came (on_conclusion g w row o).number × RowOf row (on_conclusion g w row o)
unfolding on_conclusion
came g w row (accepted d) = (inl refl, accepted-row d row)
came g w row stuck = (inr (inl refl), cleared-row 10 (wrong_place g w) row (inl refl))
came g w row full = go (sentence? g w)
  where
    told : Bool → Answer
    told b = cond b (clear 14 0 row) (clear 10 (wrong_place g w) row)

    go : (b : Bool) → Came (told b).number × RowOf row (told b)
    go true = (inr (inr refl), cleared-row 14 0 row (inr refl))
    go false = (inr (inl refl), cleared-row 10 (wrong_place g w) row (inl refl))

-- what the gate refuses comes to no note
early : {n : ℕ} → Early n → ¬ Came n
early h (inl e) = let l = h.some in omega arith
early h (inr (inl e)) = h.not-10 e
early h (inr (inr e)) = let l = h.before in omega arith

-- ---- plain
plain_row : (s w row : List ℕ) (space : ℕ) → RowOf row (plain_reading s w row space)
unfolding plain_reading read_note
plain_row s w row space = go (gate s w space) refl
  where
    go : (x : Gate) → gate s w space ≡ x → RowOf row (at_gate (λ n p. refuse n p row) (λ g. read_note g w row) x)
    go (shut n p) e = refused-row n p row (early (gate-early s w space n p e))
    go (passed g) e = (came g w row (reading g (marked w) (plainly g (marked w)) (length row) tt).outcome).1

-- ---- begin
abbrev Unbegun : List ℕ → Begun → Type 0
Unbegun c x = ¬ (x.number ≡ 0) → x.words ≡ c

begin-cache : (s c : List ℕ) → Unbegun c (beginning s c)
unfolding beginning begin12
begin-cache s c = go (sound_gate s)
  where
    short : (b : Bool) → Unbegun c (cond b (begun 12 0 c) (begun 0 0 (begin_words s (length c))))
    short true n = refl
    short false n = absurd (n refl)

    go : (x : Gate) → Unbegun c (at_gate (λ n p. begun n p c) (λ g. begin12 s c) x)
    go (shut n p) h = refl
    go (passed g) h = short (ltb (length c) min_words) h

-- ---- quick
abbrev Left : List ℕ → List ℕ → List ℕ → List ℕ → Reply → Type 0
Left s w row c x = RowOf row x.answer × CacheAfter s w row c x.answer.number x.words

refused-left : (s w row c : List ℕ) (n p : ℕ) → ¬ Came n → Left s w row c (reply (refuse n p row) c)
refused-left s w row c n p h = (refused-row n p row h, record { untouched = λ _. refl; learned = λ q. absurd (h q) })

-- a note that is read
module _ (s w row c : List ℕ) (r : Rules) (m : Mark) (e : decode s ≡ got r m) (known : Known (compile r).kinds w) where
  read_left : Left s w row c (reply (on_conclusion (compile r) w row (quick_note (compile r) w (length row) c).outcome)
      (quick_note (compile r) w (length row) c).state)
  read_left =
      let x = came (compile r) w row (quick_note (compile r) w (length row) c).outcome in (
        x.1,
        record {
          untouched = λ q. absurd (q x.0);
          learned = λ _. record {
            rules = r;
            mark = m;
            says = e;
            learned = note-reads r (decode-limited s r m e) w (length row) c;
            only = λ d t. (note-one r (decode-limited s r m e) w (length row) c d).0 t;
            kept = note-extends r (decode-limited s r m e) w (length row) c known;
          };
        },
      )

  -- 12 and 13
  over-left : Left s w row c (over_cache s (compile r) w row c)
  over-left = go (stands s c)
    where
      not-12 : ¬ Came 12
      not-12 (inl q) = omega arith
      not-12 (inr (inl q)) = omega arith
      not-12 (inr (inr q)) = omega arith

      not-13 : ¬ Came 13
      not-13 (inl q) = omega arith
      not-13 (inr (inl q)) = omega arith
      not-13 (inr (inr q)) = omega arith

      go : {x : Standing} → Stands s c x → Left s w row c (over_cache s (compile r) w row c)
      go (short l) = rw (over-12 s (compile r) w row c l) (refused-left s w row c 12 0 not-12)
      go (foreign l q) = rw (over-13 s (compile r) w row c l q) (refused-left s w row c 13 0 not-13)
      go (Stands.begun l t) = rw (over-begun s (compile r) w row c l t) read_left

quick-left : (s w row : List ℕ) (space : ℕ) (c : List ℕ) → Left s w row c (quick_reading s w row space c)
unfolding quick_reading
quick-left s w row space c = go (gate s w space) refl
  where
    go : (x : Gate) → gate s w space ≡ x → Left s w row c (at_gate (λ n p. reply (refuse n p row) c) (λ g. over_cache s g w row c) x)
    go (shut n p) e = refused-left s w row c n p (early (gate-early s w space n p e))
    go (passed g) e =
        let h = passed-means s w space g e in
        let known : Known (compile h.rules).kinds w = rw h.same h.tokens in
        subst (λ (g : Grammar). Left s w row c (over_cache s g w row c)) h.same (over-left s w row c h.rules h.mark h.says known)

-- ---- batch
abbrev Unbatched : List ℕ → List ℕ → List ℕ → Batched → Type 0
Unbatched answers row c x = ¬ (x.number ≡ 0) → (x.answers ≡ answers) × (x.row ≡ row) × (x.words ≡ c)

batch-memory : (s tokens lengths answers row : List ℕ) (space : ℕ) (c : List ℕ)
    → Unbatched answers row c (batch_reading s tokens lengths answers row space c)
unfolding batch_reading from18 read_all
batch-memory s tokens lengths answers row space c = go (sound_gate s)
  where
    fitting : (b : Bool) → Unbatched answers row c (cond b (read_all s tokens lengths row space c) (batched 18 0 answers row c))
    fitting true n = absurd (n refl)
    fitting false n = (refl, refl, refl)

    go : (x : Gate)
        → Unbatched answers row c (at_gate (λ n p. batched n p answers row c) (λ g. from18 s tokens lengths answers row space c) x)
    go (shut n p) h = (refl, refl, refl)
    go (passed g) h = fitting (fits? tokens lengths answers row) h

pub demand1 : Demand1
demand1 = record {
  plain = λ s w row space n p k row' d. subst (RowOf row) (sym d) (plain_row s w row space);
  begin = λ s c n p c' d. subst (Unbegun c) (sym d) (begin-cache s c);
  quick = λ s w row space c n p k row' c' d. subst (Left s w row c) (sym d) (quick-left s w row space c);
  batch = λ s tokens lengths answers row space c n p answers' row' c' d.
      subst (Unbatched answers row c) (sym d) (batch-memory s tokens lengths answers row space c);
}
