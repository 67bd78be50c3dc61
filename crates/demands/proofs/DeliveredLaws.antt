-- CACHES DELIVERED WITH THE TERMINAL: calls keep coherent words coherent, and so a yes stays one.
use mathlib.Core.Path.{◌≡◌, refl, sym, subst, ap, ◌∙◌}
use mathlib.Core.List.{List, [], ◌∷◌, ◌++◌}
use Prim.Native.Nat.{ℕ}
use Rattle.grammar.specs.Grammar.{compile}
use Rattle.cache.specs.Coherent.{Coherent}
use Rattle.adaptive.specs.Quick.{Reply}
use Rattle.adaptive.specs.Calls.{quick}
use Rattle.adaptive.proofs.AgreementLaws.{quick-keeps}
use Rattle.demands.specs.Demand3.{Both, Session, last_cache}
use Rattle.demands.specs.Trucks.{Load, MadeOf, one, many, no_one}
use Rattle.demands.specs.Delivered.{left_by, Delivered}
use Rattle.demands.proofs.AuditLaws.{audit-iff, Yes, yes-means, means-yes, begun-yes}
use Rattle.demands.proofs.TruckLaws.{made}

-- ---- quick calls
module _ (s : List ℕ) where
  -- one keeps a yes
  one-keeps : (c : List ℕ) (x : Both) → Yes s c → (quick s c x.lent).words ≡ x.cache → Yes s x.cache
  one-keeps c x y e =
      let after = quick-keeps s y.rules y.mark y.decoded y.sound c x.lent y.words in
      record {
        rules = y.rules;
        mark = y.mark;
        decoded = y.decoded;
        sound = y.sound;
        words = subst (λ (k : List ℕ). Coherent (compile y.rules) s k) e after.coherent;
      }

  all_keep : (xs : List Both) (c : List ℕ) → Session s c xs → Yes s c → Yes s (last_cache c xs)
  all_keep [] c d y = y
  all_keep (x ∷ xs) c (d, ds) y = all_keep xs x.cache ds (one-keeps c x y (sym (ap (λ (r : Reply). r.words) d.quick)))

-- ---- lists in which batches stand leave what the readings that they are made of leave
last-append : (xs ys : List Both) (c : List ℕ) → last_cache c (xs ++ ys) ≡ last_cache (last_cache c xs) ys
last-append [] ys c = refl
last-append (x ∷ xs) ys c = last-append xs ys x.cache

left-last : {c : List ℕ} {ls : List Load} {xs : List Both} → MadeOf c ls xs → left_by c ls ≡ last_cache c xs
left-last MadeOf.none = refl
left-last (one m) = left-last m
left-last (many {cache = c} {ys = ys} {xs = xs} u i m) =
    left-last m ∙ ap (λ (k : List ℕ). last_cache k xs) i.words ∙ sym (last-append ys xs c)
left-last (no_one {xs = xs} n q m) = left-last m ∙ ap (λ (k : List ℕ). last_cache k xs) q

-- CACHES DELIVERED WITH THE TERMINAL
pub delivered : Delivered
delivered = record {
  exactly = audit-iff;
  begun = λ s c₀ place c d. means-yes s c (begun-yes s c₀ place c d);
  stays = λ s c place a ls w.
      let (xs, m, d) = made s ls c w in
      means-yes s (left_by c ls) (subst (Yes s) (sym (left-last m)) (all_keep s xs c d (yes-means s c place a)));
}
