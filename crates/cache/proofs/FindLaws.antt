-- The search among the states held finds the one that holds these configurations for this decision, if there is one.
use mathlib.Core.Path.{◌≡◌, refl, subst}
use mathlib.Core.Option.{Option, none, some}
use mathlib.Core.List.{List}
use Prim.Native.Nat.{ℕ, ◌≤◌, ◌<◌, min}
use native.Mathlib.Omega.{arith}
use lib.Dec.{T, eqb, eqb_refl, eqb→eq}
use lib.ListN.{length}
use Rattle.base.specs.Search.{LowestIs, this, nothing}
use Rattle.base.proofs.Booleans.{clash, and_T, T_and}
use Rattle.base.proofs.Lowest.{lowest-is}
use Rattle.lookahead.specs.Configs.{Config}
use Rattle.lookahead.specs.Closing.{same_list}
use Rattle.configurations.specs.Packing.{pack_all}
use Rattle.lookahead.proofs.AddLaws.{same-list, list_same}
use Rattle.words.specs.Layout.{slots}
use Rattle.words.specs.Words.{held, decision, kept_words}
use Rattle.cache.specs.Recording.{holds?, find}
use Rattle.cache.specs.Lessons.{Stores}

-- state s is that of these configurations for decision a
abbrev pub HeldBy : List ℕ → ℕ → List Config → ℕ → Type 0
HeldBy c a ks s = (s < held c) × (decision c s ≡ a) × (kept_words c s ≡ pack_all ks)

module _ (c : List ℕ) (a : ℕ) (ks : List Config) where
  to : (s : ℕ) → s < min (held c) (slots (length c)) → T (holds? c a ks s) → Stores c a ks s
  unfolding holds?
  to s h t =
      let p = and_T (eqb (decision c s) a) (same_list (kept_words c s) (pack_all ks)) t in
      record {
        holds = omega arith;
        slot = omega arith;
        decides = eqb→eq (decision c s) a p.0;
        keeps = same-list (kept_words c s) (pack_all ks) p.1;
      }

  back : (s : ℕ) → Stores c a ks s → T (holds? c a ks s) × (s < min (held c) (slots (length c)))
  unfolding holds?
  back s x = (
    rw (x.decides, x.keeps) (T_and (eqb a a) (same_list (pack_all ks) (pack_all ks)) (eqb_refl a) (list_same (pack_all ks))),
    omega (arith, x.holds, x.slot),
  )

  -- over any words
  pub found : LowestIs (Stores c a ks) (find c a ks)
  unfolding find
  found = lowest-is (Stores c a ks) (holds? c a ks) (min (held c) (slots (length c))) to back

  -- over words that hold no more states than they have slots
  module _ (fits : held c ≤ slots (length c)) where
    stores : (s : ℕ) → HeldBy c a ks s → Stores c a ks s
    stores s (h, d, e) = record { holds = h; slot = omega arith; decides = d; keeps = e }

    pub find-some : {s : ℕ} → find c a ks ≡ some s → HeldBy c a ks s
    find-some {s} e = go found e
      where
        go : {o : Option ℕ} → LowestIs (Stores c a ks) o → o ≡ some s → HeldBy c a ks s
        go (this s' h l) e = let q : s' ≡ s = cc in subst (HeldBy c a ks) q (h.holds, h.decides, h.keeps)
        go (nothing n) e = clash (cc)

    pub find_none : find c a ks ≡ none → (s : ℕ) → ¬ HeldBy c a ks s
    find_none e s x = go found e
      where
        go : {o : Option ℕ} → LowestIs (Stores c a ks) o → ¬ (o ≡ none)
        go (this s' h l) e = clash (cc)
        go (nothing n) e = n s (stores s x)

    pub none-find : ((s : ℕ) → ¬ HeldBy c a ks s) → find c a ks ≡ none
    none-find n = go found
      where
        go : {o : Option ℕ} → LowestIs (Stores c a ks) o → o ≡ none
        go (this s h l) = absurd (n s (h.holds, h.decides, h.keeps))
        go (nothing m) = refl
