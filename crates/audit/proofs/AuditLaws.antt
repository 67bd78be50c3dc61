-- An audit by its ways out: what the code answered is what the definition does.
use mathlib.Core.Path.{◌≡◌, refl, sym, ap, ◌∙◌, subst}
use mathlib.Core.Bool.{Bool, true, false, cond}
use mathlib.Core.List.{List}
use Prim.Native.Nat.{ℕ, ◌+◌, ◌/◌, ◌≤◌}
use native.Mathlib.Omega.{arith}
use lib.ListN.{length}
use borrow.Author.Tests.{lt-ltb, le-ltb, le-leb}
use Rattle.std.specs.Prelude.{Ok, Err}
use Rattle.base.proofs.Booleans.{clash, T→true}
use Rattle.number.specs.declared.Refusal.{Refusal}
use Rattle.number.specs.Refusals.{refusal_number, refusal_place}
use Rattle.grammar.specs.Grammar.{Grammar}
use Rattle.grammar.specs.inside.Tables.{grammar_in}
use Rattle.grammar.proofs.ByteLaws.{decode-few}
use Rattle.soundness.specs.Verdict.{Verdict}
use Rattle.soundness.specs.inside.Compiled.{Compiled}
use Rattle.derivation.proofs.ReadyLaws.{sound-judged, sound-ready, compiled-refuses, compiled-passes}
use Rattle.words.specs.Layout.{min_words, fixed_words, bytes_at}
use Rattle.words.specs.Begin.{begun?}
use Rattle.words.specs.inside.Standings.{Standing, standing_of}
use Rattle.words.specs.declared.standing.CacheRefusal.{CacheRefusal}
use Rattle.words.specs.declared.standing.CacheRefusal.TheVariants.{Short, Foreign}
use Rattle.words.proofs.SizeLaws.{packed-length}
use Rattle.words.proofs.StandingLaws.{Stands, short, foreign, begun, stands, for-begun}
use Rattle.auditing.specs.Coherence.{right?, coherent?}
use Rattle.audit.specs.Auditing.{Audited, audited, from19, from12, audit_of}
use Rattle.audit.specs.Contract.{Audit, cache_refused, audit_number, audit_place}
use Rattle.audit.specs.inside.Asked.{Asks, judged_by, judged_of}

-- the number and the place of an answer
abbrev answered : Audit → Audited
answered y = audited (audit_number y) (audit_place y)

-- ---- words that have begun are judged
judged-by : (b : Bool) → answered (judged_by b) ≡ cond b (audited 0 0) (audited 19 0)
judged-by true = refl
judged-by false = refl

pub judged-is : (g : Grammar) (n : ℕ) (c : List ℕ) {b : Bool} {y : Audit} → b ≡ right? g n c → y ≡ judged_by b → y ≡ judged_of g n c
unfolding judged_of
judged-is g n c e f = f ∙ ap judged_by e

-- ---- the whole call
module _ (s c : List ℕ) {v : Verdict} {t : List ℕ} (h : Compiled s v t) where
  pub grammar-is : {r : Refusal} → v ≡ Err r → audited (refusal_number r) (refusal_place r) ≡ audit_of s c
  unfolding audit_of
  grammar-is e = rw (compiled-refuses s h e)

  module _ (sound : v ≡ Ok tt) {x : Standing} (e : x ≡ standing_of s c) where
    on-sound : audit_of s c ≡ from12 (grammar_in t) s c
    unfolding audit_of
    on-sound = rw (compiled-passes s h sound)

    -- by how the cache stands
    standing : Stands s c x
    standing = subst (Stands s c) (sym e) (stands s c)

    short-is : x ≡ Err Short → audited 12 0 ≡ audit_of s c
    unfolding from12
    short-is f = rw on-sound (go standing f)
      where
        go : {x : Standing} → Stands s c x → x ≡ Err Short → audited 12 0 ≡ from12 (grammar_in t) s c
        go (short l) f = rw (lt-ltb (length c) min_words l)
        go (foreign l b) f = clash (cc)
        go (begun l b) f = clash (cc)

    foreign-is : x ≡ Err Foreign → audited 13 0 ≡ audit_of s c
    unfolding from12
    foreign-is f = rw on-sound (go standing f)
      where
        go : {x : Standing} → Stands s c x → x ≡ Err Foreign → audited 13 0 ≡ from12 (grammar_in t) s c
        go (short l) f = clash (cc)
        go (foreign l b) f = rw (le-ltb (length c) min_words l, b)
        go (begun l b) f = clash (cc)

    pub cache-is : {r : CacheRefusal} → x ≡ Err r → answered (Err (cache_refused r)) ≡ audit_of s c
    cache-is {r} f = go r f
      where
        go : (r : CacheRefusal) → x ≡ Err r → answered (Err (cache_refused r)) ≡ audit_of s c
        go Short f = short-is f
        go Foreign f = foreign-is f

    module _ (f : x ≡ Ok tt) where
      pub asks : Asks t c ((length s + 3) / 4)
      asks = go standing f
        where
          few : bytes_at + (length s + 3) / 4 ≤ fixed_words
          few = let j = sound-judged s h sound in omega (arith, decode-few s j.rules j.mark j.decoded)

          go : {x : Standing} → Stands s c x → x ≡ Ok tt → Asks t c ((length s + 3) / 4)
          go (short l) f = clash (cc)
          go (foreign l b) f = clash (cc)
          go (begun l b) f = record { ready = sound-ready s h sound; long = l; few = few }

      pub begun-is : {y : Audit} → y ≡ judged_of (grammar_in t) ((length s + 3) / 4) c → answered y ≡ audit_of s c
      unfolding from12 from19 coherent? judged_of
      begun-is {y} q = ap answered q ∙ judged-by (right? (grammar_in t) ((length s + 3) / 4) c) ∙ sym (on-sound ∙ go standing f)
        where
          go : {x : Standing} → Stands s c x → x ≡ Ok tt → from12 (grammar_in t) s c
              ≡ cond (right? (grammar_in t) ((length s + 3) / 4) c) (audited 0 0) (audited 19 0)
          go (short l) f = clash (cc)
          go (foreign l b) f = clash (cc)
          go (begun l b) f =
              rw (le-ltb (length c) min_words l, le-leb min_words (length c) l, T→true (begun? s c) (for-begun s c b), packed-length s) refl
