-- Rules are within the limits exactly if their numbers keep them.
use mathlib.Core.Path.{◌≡◌, refl, ◌∙◌}
use mathlib.Core.Logic.{◌↔◌}
use mathlib.Core.List.{List, [], ◌∷◌, flat_map}
use Prim.Native.Nat.{ℕ, suc}
use native.Mathlib.Omega.{arith}
use lib.ListN.{length}
use Rattle.grammar.specs.Types.{Symbol}
use Rattle.base.specs.Lists.{AllOf}
use Rattle.grammar.specs.Decode.{Rules, Legal, Production, Alternatives}
use Rattle.grammar.specs.Grammar.{size_each, size_all, Limited}
use Rattle.grammar.specs.Encode.{one_symbol, production_parts, nonterminal_parts, parts_of}
use Rattle.grammar.specs.Faults.{Permitted, places_of, InLimits}
use Rattle.base.proofs.Lists.{all_append, append-all}
use Rattle.grammar.proofs.PartLaws.{places-append}

-- ---- a property of the parts of every element
module _ {A B : Type 0} (P : B → Type 0) (Q : A → Type 0) (w : A → List B) where
  all-flat : ((x : A) → Q x → AllOf P (w x)) → (l : List A) → AllOf Q l → AllOf P (flat_map w l)
  unfolding flat_map
  all-flat f [] h = tt
  all-flat f (x ∷ l) h = all_append P (w x) (flat_map w l) (f x h.0) (all-flat f l h.1)

  flat-all : ((x : A) → AllOf P (w x) → Q x) → (l : List A) → AllOf P (flat_map w l) → AllOf Q l
  unfolding flat_map
  flat-all f [] h = tt
  flat-all f (x ∷ l) h = let k = append-all P (w x) (flat_map w l) h in (f x k.0, flat-all f l k.1)

-- ---- places
places-symbols : (β : List Symbol) → places_of (flat_map (λ x. one_symbol x ∷ []) β) ≡ 0
unfolding flat_map places_of
places-symbols [] = refl
places-symbols (x ∷ β) = omega (arith, places-symbols β)

places-production : (β : List Symbol) → places_of (production_parts β) ≡ suc (length β)
unfolding production_parts places_of
places-production β = omega (arith, places-symbols β)

places-productions : (l : List (List Symbol)) → places_of (flat_map production_parts l) ≡ size_each l
unfolding flat_map places_of size_each
places-productions [] = refl
places-productions (β ∷ l) = places-append (production_parts β) (flat_map production_parts l) ∙ omega (arith, places-production β, places-productions l)

places-nonterminal : (l : List (List Symbol)) → places_of (nonterminal_parts l) ≡ size_each l
unfolding nonterminal_parts places_of
places-nonterminal l = omega (arith, places-productions l)

places-nonterminals : (l : List (List (List Symbol))) → places_of (flat_map nonterminal_parts l) ≡ size_all l
unfolding flat_map places_of size_all
places-nonterminals [] = refl
places-nonterminals (x ∷ l) = places-append (nonterminal_parts x) (flat_map nonterminal_parts l) ∙ omega (arith, places-nonterminal x, places-nonterminals l)

-- the places of rules
pub places-rules : (r : Rules) → places_of (parts_of r) ≡ size_all r.productions
unfolding parts_of places_of
places-rules r = omega (arith, places-nonterminals r.productions)

-- ---- limits
module _ (t n : ℕ) where
  production-within : (β : List Symbol) → Production t n β ↔ AllOf (Permitted t n) (production_parts β)
  unfolding production_parts
  production-within β = (
    λ h. (h.0, all-flat (Permitted t n) (Legal t n) (λ x. one_symbol x ∷ []) (λ x k. (k, tt)) β h.1),
    λ h. (h.0, flat-all (Permitted t n) (Legal t n) (λ x. one_symbol x ∷ []) (λ x k. k.0) β h.1),
  )

  alternatives-within : (l : List (List Symbol)) → Alternatives t n l ↔ AllOf (Permitted t n) (nonterminal_parts l)
  unfolding nonterminal_parts
  alternatives-within l = (
    λ h. ((h.0, h.1), all-flat (Permitted t n) (Production t n) production_parts (λ β. (production-within β).0) l h.2),
    λ h. (h.0.0, h.0.1, flat-all (Permitted t n) (Production t n) production_parts (λ β. (production-within β).1) l h.1),
  )

pub limited-in-limits : (r : Rules) → Limited r ↔ InLimits r.kinds (length r.productions) 0 (parts_of r)
unfolding parts_of
limited-in-limits r = (to, from)
  where
    t : ℕ
    t = r.kinds

    n : ℕ
    n = length r.productions

    size : places_of (parts_of r) ≡ size_all r.productions
    size = places-rules r

    to : Limited r → InLimits t n 0 (parts_of r)
    to h = (
      (
        (h.kinds-least, h.kinds-most),
        (
          (h.some, h.few),
          all-flat (Permitted t n) (Alternatives t n) nonterminal_parts (λ l. (alternatives-within t n l).0) r.productions h.each,
        ),
      ),
      let k = h.small in omega (arith, size, k),
    )

    from : InLimits t n 0 (parts_of r) → Limited r
    from h = record {
      kinds-least = h.0.0.0;
      kinds-most = h.0.0.1;
      some = h.0.1.0.0;
      few = h.0.1.0.1;
      each = flat-all (Permitted t n) (Alternatives t n) nonterminal_parts (λ l. (alternatives-within t n l).1) r.productions h.0.1.1;
      small = let k = h.1 in omega (arith, size, k);
    }
