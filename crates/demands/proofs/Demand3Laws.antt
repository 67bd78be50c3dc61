-- DEMAND 3 of the calls: by their contracts a list of them does what the definitions do, and those agree from any coherent words.
use mathlib.Core.Path.{◌≡◌, refl, sym, subst, ap, ◌∙◌}
use mathlib.Core.List.{List, [], ◌∷◌}
use Prim.Native.Nat.{ℕ}
use Rattle.std.specs.Prelude.{Ok}
use Rattle.grammar.specs.Decode.{Rules, Mark, got, decode}
use Rattle.grammar.specs.Grammar.{Grammar, compile}
use Rattle.reader.proofs.ReadLaws.{decode-limited}
use Rattle.soundness.specs.Check.{check_of}
use Rattle.derivation.specs.Plain.{Answer, answer}
use Rattle.cache.specs.Coherent.{Coherent}
use Rattle.adaptive.specs.Quick.{Reply}
use Rattle.adaptive.specs.Calls.{Call, quick, in_turn, last_words}
use Rattle.adaptive.specs.Teaching.{Teaches, TeachesAll}
use Rattle.adaptive.specs.inside.Agreement.{AllAgree}
use Rattle.adaptive.proofs.TeachLaws.{teaches-one}
use Rattle.adaptive.proofs.AgreementLaws.{agreement}
use Rattle.demands.proofs.AuditLaws.{Yes, yes-means, begun-yes}
use Rattle.demands.specs.Demand3.{Both, BothDid, Session, last_cache, calls, ReadBefore, AllSame, Throughout, Demand3}

-- ---- the calls, from what the definitions do
module _ (s : List ℕ) (g : Grammar) (alone : (c d e : List ℕ) (k : Call) → Teaches g c k d → Teaches g c k e → d ≡ e) where
  same-words : {c : List ℕ} {x : Both} → BothDid s c x → (quick s c x.lent).words ≡ x.cache
  same-words d = sym (ap (λ (r : Reply). r.words) d.quick)

  all_same : (xs : List Both) (earlier : List Call) (c : List ℕ) → Session s c xs → AllAgree s g c earlier (calls xs) → AllSame g c earlier xs
  all_same [] earlier c d h = tt
  all_same (x ∷ xs) earlier c (d, ds) (h, hs) = (
    record {
      number = ap (λ (a : Answer). a.number) one;
      place = ap (λ (a : Answer). a.place) one;
      count = ap (λ (a : Answer). a.count) one;
      row = ap (λ (a : Answer). a.row) one;
      learned = taught;
      only = λ e t. alone c e x.cache x.lent t taught;
      nothing-new = λ b. nothing b;
    },
    all_same xs (x.lent ∷ earlier) x.cache ds (subst (λ (e : List ℕ). AllAgree s g e (x.lent ∷ earlier) (calls xs)) (same-words d) hs),
  )
    where
      taught : Teaches g c x.lent x.cache
      taught = subst (Teaches g c x.lent) (same-words d) h.learned

      told : Answer → Answer
      told a = answer a.number a.place a.count a.row

      nothing : ReadBefore g earlier x.lent → x.cache ≡ c
      nothing (j, i, n, p, q) = sym (same-words d) ∙ h.nothing-new j i n p q

      one : told x.quickly ≡ told x.plainly
      one = ap (λ (r : Reply). r.answer) d.quick ∙ (h.answer ∙ sym d.plain)

  last-cache : (xs : List Both) (c : List ℕ) → Session s c xs → last_cache c xs ≡ last_words c (in_turn (quick s) c (calls xs))
  unfolding in_turn last_words
  last-cache [] c d = refl
  last-cache (x ∷ xs) c (d, ds) =
      last-cache xs x.cache ds ∙ ap (λ (e : List ℕ). last_words e (in_turn (quick s) e (calls xs))) (sym (same-words d))

-- ---- from coherent words
throughout : (s : List ℕ) (r : Rules) (m : Mark) → decode s ≡ got r m → check_of s ≡ Ok tt → (c : List ℕ) → Coherent (compile r) s c
    → (xs : List Both) → Session s c xs → Throughout (compile r) c xs
throughout s r m q v c h xs d =
    let x = agreement s r m q v c (calls xs) h in
    record {
      each = all_same s (compile r) alone xs [] c d x.each;
      words = subst (TeachesAll (compile r) c (calls xs)) (sym (last-cache s (compile r) alone xs c d)) x.words;
    }
  where
    alone : (c d e : List ℕ) (k : Call) → Teaches (compile r) c k d → Teaches (compile r) c k e → d ≡ e
    alone c d e k t u = teaches-one r (decode-limited s r m q) t u

-- ---- and so from those that got a yes, and from those that a beginning left
yes-throughout : (s c : List ℕ) → Yes s c
    → (r : Rules) × (m : Mark) × (decode s ≡ got r m) × ((xs : List Both) → Session s c xs → Throughout (compile r) c xs)
yes-throughout s c y = (y.rules, y.mark, y.decoded, throughout s y.rules y.mark y.decoded y.sound c y.words)

pub demand3 : Demand3
demand3 = record {
  audited = λ s c place a. yes-throughout s c (yes-means s c place a);
  begun = λ s c₀ place c d. yes-throughout s c (begun-yes s c₀ place c d);
}
