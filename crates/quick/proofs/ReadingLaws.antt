-- The quick reading as a whole: the gate refuses as the definition does, then the cache is refused or read over, and the machine's outcome is the answer.
use mathlib.Core.Path.{◌≡◌, refl, sym, subst, ap, ◌∙◌}
use mathlib.Core.List.{List}
use Prim.Native.Nat.{ℕ}
use lib.ListN.{length}
use Rattle.std.specs.Prelude.{Ok, Err}
use Rattle.base.proofs.Booleans.{clash}
use Rattle.grammar.specs.Grammar.{Grammar}
use Rattle.grammar.specs.inside.Tables.{grammar_in}
use Rattle.derivation.specs.Plain.{Answer, refuse, on_conclusion}
use Rattle.words.specs.inside.Standings.{Standing, standing_of}
use Rattle.words.specs.declared.standing.CacheRefusal.{CacheRefusal}
use Rattle.words.specs.declared.standing.CacheRefusal.TheVariants.{Short, Foreign}
use Rattle.words.proofs.StandingLaws.{Stands, short, foreign, begun, stands}
use Rattle.adaptive.specs.Quick.{Reply, reply, quick_note, reply_of, over_cache, quick_reading}
use Rattle.adaptive.proofs.QuickLaws.{over-12, over-13, over-begun}
use Rattle.gate.specs.inside.Passing.{Gate, Admitted, Gated}
use Rattle.gate.specs.declared.reading.ReadingRefusal.{ReadingRefusal}
use Rattle.gate.proofs.PassingLaws.{at-shut, at-passed}
use Rattle.cells.proofs.Spots.{lent-kept}
use Rattle.machine.specs.inside.Ending.{outcome_in}
use Rattle.machine.proofs.EndingLaws.{outcome-length}
use Rattle.serving.specs.declared.running.Stop.{Stop}
use Rattle.quick.specs.inside.Run.{QuickRan, Stopped}
use Rattle.quick.specs.inside.Replied.{replied, note_reply, cache_refused, LongEnough, over_standing}

-- ---- the machine, and what follows from it
pub stopped : (t w row ws c : List ℕ) {r : Stop} {row' ms' tally' ws' c' : List ℕ} → Admitted t w (length ws)
    → QuickRan t w row ws c r row' ms' tally' ws' c' → Stopped t w row' ms' tally' ws' r
stopped t w row ws c h x =
    record {
      judge = record {
        told = record {
          ready = h.ready;
          tokens = h.tokens;
          lent = lent-kept {ws = ws} x.ran.space-kept (record { short = h.short; room = h.room });
          tallied = x.tallied;
        };
        stage = x.stage;
        far = x.far;
      };
      within = x.ran.within;
    }

pub read_is : (t w row ws c : List ℕ) {r : Stop} {row' ms' tally' ws' c' : List ℕ} {x : Answer} → QuickRan t w row ws c r row' ms' tally' ws' c'
    → x ≡ on_conclusion (grammar_in t) w row' (outcome_in r.outcome row') → reply x c' ≡ note_reply (grammar_in t) w row c
unfolding quick_note
read_is t w row ws c {r} {row'} {c' = c'} y e =
    ap (λ (y : Answer). reply y c') (e ∙ outcome-length (grammar_in t) w row row' (outcome_in r.outcome row') y.ran.row_kept)
    ∙ ap (reply_of (grammar_in t) w row) y.ran.stops

-- ---- 12 and 13, by how the cache stands to the grammar
module _ (g : Grammar) (w row c : List ℕ) {x : Standing} where
  pub cache-refused : {r : CacheRefusal} → x ≡ Err r → {y : ReadingRefusal} → y ≡ cache_refused r → replied (Err y) row c ≡ over_standing x g w row c
  cache-refused {r} e {y} q = rw (e, q) (go r)
    where
      go : (r : CacheRefusal) → replied (Err (cache_refused r)) row c ≡ over_standing (Err r) g w row c
      go Short = refl
      go Foreign = refl

  pub over-note : x ≡ Ok tt → {y : Reply} → y ≡ note_reply g w row c → y ≡ over_standing x g w row c
  over-note e q = rw e q

module _ (s : List ℕ) (g : Grammar) (w row c : List ℕ) where
  over-way : {x : Standing} → Stands s c x → over_standing x g w row c ≡ over_cache s g w row c
  over-way (short l) = sym (over-12 s g w row c l)
  over-way (foreign l e) = sym (over-13 s g w row c l e)
  over-way (begun l t) = sym (over-begun s g w row c l t)

  pub standing-over : {x : Standing} → x ≡ standing_of s c → over_standing x g w row c ≡ over_cache s g w row c
  standing-over e = over-way (subst (Stands s c) (sym e) (stands s c))

pub standing-long : (s c : List ℕ) {x : Standing} → x ≡ standing_of s c → LongEnough x c
standing-long s c e f = go (subst (Stands s c) (sym e) (stands s c)) f
  where
    go : {x : Standing} → Stands s c x → LongEnough x c
    go (short l) f = clash (cc)
    go (foreign l e) f = l
    go (begun l t) f = l

-- ---- the gate
module _ (s w row : List ℕ) (space : ℕ) (c : List ℕ) {t : List ℕ} {g : Gate} (h : Gated s w space t g) where
  pub shut-is : {r : ReadingRefusal} → g ≡ Err r → replied (Err r) row c ≡ quick_reading s w row space c
  unfolding quick_reading
  shut-is e = at-shut h (λ n p. reply (refuse n p row) c) (λ g. over_cache s g w row c) e

  pub passed_is : g ≡ Ok tt → {st : Standing} → st ≡ standing_of s c → {x : Reply} → x ≡ over_standing st (grammar_in t) w row c
      → x ≡ quick_reading s w row space c
  unfolding quick_reading
  passed_is e f q =
      q ∙ standing-over s (grammar_in t) w row c f ∙ at-passed h (λ n p. reply (refuse n p row) c) (λ g. over_cache s g w row c) e
