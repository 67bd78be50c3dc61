-- The tests on kept configurations say what the rules say.
use mathlib.Core.Path.{◌≡◌, refl, ap}
use mathlib.Core.Logic.{◌↔◌, ◌⊎◌, inl, inr}
use mathlib.Core.Bool.{Bool, true, false, ◌||◌, not}
use mathlib.Core.List.Memᴰ
use mathlib.Core.List.{List, ◌∷◌}
use lib.Dec.{T, T_not, not_T, eqb, eqb→eq}
use Prim.Native.Nat.{ℕ}
use borrow.Author.Tests.{eq-eqb}
use Rattle.base.specs.Rounds.{any_of}
use Rattle.base.proofs.Booleans.{and_T, T_and, or-T, T-or-l, T-or-r, true→T}
use Rattle.base.proofs.Lists.{any_of-T, T-any_of}
use Rattle.grammar.specs.declared.Symbol.{Symbol}
use Rattle.grammar.specs.declared.Symbol.TheVariants.{Token, Nonterminal, End}
use Rattle.grammar.specs.Grammar.{Grammar, facing}
use Rattle.lookahead.specs.Configs.{Config, In}
use Rattle.lookahead.specs.Closing.{same_list}
use Rattle.lookahead.specs.Order.{past_end, token?, kept?}
use Rattle.lookahead.specs.Outcomes.{rivals, conflicts, agreed, shared, settled}
use Rattle.lookahead.specs.Rules.{ToKeep, faces, past}
use Rattle.lookahead.proofs.ListLaws.{get_in, in-get}
use Rattle.lookahead.proofs.AddLaws.{same-list, list_same}

-- ---- some member passes a test
pub any_out : {A : Type 0} (f : A → Bool) (l : List A) → T (any_of f l) → (x : A) × In x l × T (f x)
any_out f l t = let h = any_of-T f l t in (h.1, get_in l h.0 h.2, h.3)

pub any-in : {A : Type 0} (f : A → Bool) (l : List A) {x : A} → In x l → T (f x) → T (any_of f l)
any-in f l m t = let h = in-get m in T-any_of f l h.0 h.1 t

-- a test that does not fail passes
unnot : (b : Bool) → ¬ T (not b) → T b
unnot true n = tt
unnot false n = n tt

-- ---- two numbers
same_out : (a b : ℕ) → a ≡ b → T (eqb a b)
same_out a b e = true→T (eqb a b) (eq-eqb a b e)

apart_out : (a b : ℕ) → T (not (eqb a b)) → ¬ (a ≡ b)
apart_out a b t e = T_not (eqb a b) t (same_out a b e)

apart_in : (a b : ℕ) → ¬ (a ≡ b) → T (not (eqb a b))
apart_in a b n = not_T (eqb a b) (λ t. n (eqb→eq a b t))

-- ---- one configuration
token-out : (s : Symbol) → T (token? s) → (k : ℕ) × (s ≡ Token k)
token-out (Token k) t = (k, refl)
token-out (Nonterminal a) t = absurd t
token-out End t = absurd t

pub waits-right : (g : Grammar) (c : Config) → T (kept? g c) ↔ ToKeep g c
unfolding kept?
waits-right g c = (λ t. out (or-T (eqb c.place past_end) (token? (facing g c.place)) t), back)
  where
    out : T (eqb c.place past_end) ⊎ T (token? (facing g c.place)) → ToKeep g c
    out (inl t) = past (eqb→eq c.place past_end t)
    out (inr t) = let h = token-out (facing g c.place) t in faces h.0 h.1

    back : ToKeep g c → T (eqb c.place past_end || token? (facing g c.place))
    back (past e) = T-or-l (eqb c.place past_end) (token? (facing g c.place)) (same_out c.place past_end e)
    back (faces k e) = T-or-r (eqb c.place past_end) (token? (facing g c.place)) (rw e tt)

-- ---- two configurations
pub rivals-right : (c d : Config) → T (rivals c d) ↔ ((c.place ≡ d.place) × ¬ (c.alternative ≡ d.alternative))
unfolding rivals
rivals-right c d = (
  λ t. let h = and_T (eqb c.place d.place) (not (eqb c.alternative d.alternative)) t in
      (eqb→eq c.place d.place h.0, apart_out c.alternative d.alternative h.1),
  λ h. T_and (eqb c.place d.place) (not (eqb c.alternative d.alternative)) (same_out c.place d.place h.0)
      (apart_in c.alternative d.alternative h.1),
)

pub conflicts-right : (c d : Config) → T (conflicts c d) ↔ (T (rivals c d) × (c.stack ≡ d.stack))
unfolding conflicts
conflicts-right c d = (
  λ t. let h = and_T (rivals c d) (same_list c.stack d.stack) t in (h.0, same-list c.stack d.stack h.1),
  λ h. T_and (rivals c d) (same_list c.stack d.stack) h.0 (let q = h.1 in rw q (list_same d.stack)),
)

-- ---- all kept configurations
-- one has another alternative than b
pub agreed-not : (b : ℕ) (ks : List Config) → ¬ T (agreed b ks) → (c : Config) × In c ks × ¬ (c.alternative ≡ b)
unfolding agreed
agreed-not b ks n =
    let h = any_out (λ (c : Config). not (eqb c.alternative b)) ks (unnot (any_of (λ (c : Config). not (eqb c.alternative b)) ks) n) in
    (h.0, h.1, apart_out h.0.alternative b h.2)

-- all have alternative b
pub agreed-out : (b : ℕ) (ks : List Config) → T (agreed b ks) → (c : Config) → In c ks → c.alternative ≡ b
unfolding agreed
agreed-out b ks t c m =
    eqb→eq c.alternative b
    (unnot (eqb c.alternative b)
    (λ n. T_not (any_of (λ (d : Config). not (eqb d.alternative b)) ks) t (any-in (λ (d : Config). not (eqb d.alternative b)) ks m n)))

-- all agree with the first
pub agreed-first : (k : Config) (ks : List Config) → T (agreed k.alternative ks) → (c : Config) → In c (k ∷ ks) → c.alternative ≡ k.alternative
agreed-first k ks t c m = go (Memᴰ.cases_cons m)
  where
    go : (c ≡ k) ⊎ In c ks → c.alternative ≡ k.alternative
    go (inl e) = ap (λ (x : Config). x.alternative) e
    go (inr n) = agreed-out k.alternative ks t c n

-- some place and stack is shared by two alternatives
pub shared-out : (ks : List Config) → T (shared ks) → (c : Config) × (d : Config) × In c ks × In d ks × T (conflicts c d)
unfolding shared
shared-out ks t =
    let h = any_out (λ (c : Config). any_of (conflicts c) ks) ks t in
    let k = any_out (conflicts h.0) ks h.2 in
    (h.0, k.0, h.1, k.1, k.2)

pub shared-in : (ks : List Config) (c d : Config) → In c ks → In d ks → T (conflicts c d) → T (shared ks)
unfolding shared
shared-in ks c d m n t = any-in (λ (x : Config). any_of (conflicts x) ks) ks m (any-in (conflicts c) ks n t)

-- no place belongs to only one alternative
pub settled-out : (ks : List Config) → ¬ T (settled ks) → (c : Config) → In c ks → (d : Config) × In d ks × T (rivals c d)
unfolding settled
settled-out ks n c m = any_out (rivals c) ks (unnot (any_of (rivals c) ks) (λ t. n (any-in (λ (x : Config). not (any_of (rivals x) ks)) ks m t)))

pub settled-in : (ks : List Config) → ((c : Config) → In c ks → (d : Config) × In d ks × T (rivals c d)) → ¬ T (settled ks)
unfolding settled
settled-in ks h t =
    let x = any_out (λ (c : Config). not (any_of (rivals c) ks)) ks t in
    let y = h x.0 x.1 in
    T_not (any_of (rivals x.0) ks) x.2 (any-in (rivals x.0) ks y.1 y.2)
