-- New members of a closure: within the limits, and reached by the moves.
use mathlib.Core.Path.{◌≡◌, refl, sym, subst, ap, ◌∙◌}
use mathlib.Core.Logic.{◌⊎◌, inl, inr}
use mathlib.Core.Bool.{Bool, true, false, ◌&&◌, cond}
use mathlib.Core.Option.{Option, none, some}
use mathlib.Core.List.Memᴰ
use mathlib.Core.List.{List, [], ◌∷◌, ◌++◌, append_assoc}
use Prim.Native.Nat.{ℕ, ◌≤◌, ◌<◌}
use native.Mathlib.Omega.{arith}
use lib.Dec.{T, eqb, ltb, leb, eqb_refl, eqb→eq}
use lib.ListN.{length, length-append}
use borrow.Author.Tests.{ltb-true, ltb-false, leb-true, leb-false}
use Rattle.base.proofs.Booleans.{and_T, T_and, true→T, false→¬T}
use Rattle.base.proofs.Lists.{any_of-T, T-any_of}
use Rattle.grammar.specs.Grammar.{Grammar}
use Rattle.lookahead.specs.Configs.{Config, In, Closes}
use Rattle.lookahead.specs.Closing.{max_members, max_entries, same_list, same_config, member?, shallow, add, add_all}
use Rattle.base.specs.Lists.{Distinct}
use Rattle.lookahead.specs.Rules.{Each, Over, deep, many}
use Rattle.lookahead.proofs.ListLaws.{Sub, get_in, in-get, distinct_snoc, each_snoc}

-- ---- the tests
pub same-list : (k l : List ℕ) → T (same_list k l) → k ≡ l
unfolding same_list
same-list [] [] t = refl
same-list [] (y ∷ l) t = absurd t
same-list (x ∷ k) [] t = absurd t
same-list (x ∷ k) (y ∷ l) t =
    let h = and_T (eqb x y) (same_list k l) t in
    let p : x ≡ y = eqb→eq x y h.0 in
    let q : k ≡ l = same-list k l h.1 in
    cc

pub list_same : (l : List ℕ) → T (same_list l l)
unfolding same_list
list_same [] = tt
list_same (x ∷ l) = T_and (eqb x x) (same_list l l) (eqb_refl x) (list_same l)

pub same-config : (c d : Config) → T (same_config c d) → c ≡ d
unfolding same_config
same-config c d t =
    let h = and_T (eqb c.place d.place) (eqb c.alternative d.alternative && same_list c.stack d.stack) t in
    let k = and_T (eqb c.alternative d.alternative) (same_list c.stack d.stack) h.1 in
    let p = eqb→eq c.place d.place h.0 in
    let a = eqb→eq c.alternative d.alternative k.0 in
    let s = same-list c.stack d.stack k.1 in
    λ i. record { place = p i; alternative = a i; stack = s i }

pub config-same : (c : Config) → T (same_config c c)
unfolding same_config
config-same c =
    T_and (eqb c.place c.place) (eqb c.alternative c.alternative && same_list c.stack c.stack) (eqb_refl c.place)
    (T_and (eqb c.alternative c.alternative) (same_list c.stack c.stack) (eqb_refl c.alternative) (list_same c.stack))

pub member-in : (d : Config) (ms : List Config) → T (member? d ms) → In d ms
unfolding member?
member-in d ms t = let h = any_of-T (λ (c : Config). same_config d c) ms t in Memᴰ.cast (same-config d h.1 h.3) (get_in ms h.0 h.2)

in-member : (d : Config) (ms : List Config) → In d ms → T (member? d ms)
unfolding member?
in-member d ms m = let h = in-get m in T-any_of (λ (c : Config). same_config d c) ms h.0 h.1 (config-same d)

-- ---- members
module _ (g : Grammar) (start : List Config) where
  -- members so far: within the limits, and reached
  pub record Work (ms : List Config) : Type 0 where
    pub distinct : Distinct ms
    pub reached : Each (Closes g start) ms
    pub small : Each (λ (c : Config). length c.stack ≤ max_entries) ms
    pub few : length ms ≤ max_members

  -- the members ms with ds among them: others behind them
  pub record Grown (ms ds ms' : List Config) : Type 0 where
    pub others : List Config
    pub grown : ms' ≡ ms ++ others
    pub work : Work ms'
    pub new : Sub ds ms'

  pub data Adds (ms ds : List Config) : Option (List Config) → Type 0 where
    stopped : Over g start → Adds ms ds none
    went : {ms' : List Config} → Grown ms ds ms' → Adds ms ds (some ms')

  pub grown-sub : {ms ds ms' : List Config} → Grown ms ds ms' → Sub ms ms'
  grown-sub {ms} {ds} {ms'} w c m = subst (In c) (sym w.grown) (Memᴰ.append_left w.others m)

  append-nil : (l : List Config) → l ≡ l ++ []
  append-nil [] = refl
  append-nil (x ∷ l) = ap (λ (k : List Config). x ∷ k) (append-nil l)

  one : (P : Config → Type 0) {d : Config} → P d → Each P (d ∷ [])
  one P {d} h c m = pick (Memᴰ.cases_cons m)
    where
      pick : (c ≡ d) ⊎ In c [] → P c
      pick (inl e) = rw e h
      pick (inr n) = absurd (Memᴰ.not-nil n)

  add_right : (ms : List Config) (d : Config) → Work ms → Closes g start d → Adds ms (d ∷ []) (add ms d)
  unfolding add shallow
  add_right ms d w r = go (member? d ms) (leb (length d.stack) max_entries) (ltb (length ms) max_members) refl refl refl
    where
      snoc : member? d ms ≡ false → length d.stack ≤ max_entries → length ms < max_members → Work (ms ++ (d ∷ []))
      snoc n s l = record {
        distinct = distinct_snoc w.distinct (λ m. false→¬T (member? d ms) n (in-member d ms m));
        reached = each_snoc (Closes g start) r w.reached;
        small = each_snoc (λ (c : Config). length c.stack ≤ max_entries) s w.small;
        few = omega (arith, length-append ms (d ∷ []));
      }

      go : (m s l : Bool) → member? d ms ≡ m → leb (length d.stack) max_entries ≡ s → ltb (length ms) max_members ≡ l
          → Adds ms (d ∷ []) (cond m (some ms) (cond (s && l) (some (ms ++ (d ∷ []))) none))
      go true s l em es el = went (record
          { others = []; grown = append-nil ms; work = w; new = one (λ (c : Config). In c ms) (member-in d ms (true→T (member? d ms) em)) })
      go false false l em es el = stopped (deep d r (leb-false (length d.stack) max_entries es))
      go false true false em es el =
          stopped (many (record {
            listed = ms ++ (d ∷ []);
            distinct = distinct_snoc w.distinct (λ m. false→¬T (member? d ms) em (in-member d ms m));
            each = each_snoc (Closes g start) r w.reached;
            more = let h = ltb-false (length ms) max_members el in omega (arith, length-append ms (d ∷ []));
          }))
      go false true true em es el = went (record {
        others = d ∷ [];
        grown = refl;
        work = snoc em (leb-true (length d.stack) max_entries es) (ltb-true (length ms) max_members el);
        new = λ c m. Memᴰ.append_right ms m;
      })

  join : {ms : List Config} {d : Config} {ds ms' : List Config} {o : Option (List Config)} → Grown ms (d ∷ []) ms' → Adds ms' ds o
      → Adds ms (d ∷ ds) o
  join w (stopped x) = stopped x
  join {ms} {d} {ds} {ms'} w (went {ms' = ms''} v) = went (record {
    others = w.others ++ v.others;
    grown = v.grown ∙ ap (λ (k : List Config). k ++ v.others) w.grown ∙ append_assoc ms w.others v.others;
    work = v.work;
    new = λ c m. pick c (Memᴰ.cases_cons m);
  })
    where
      pick : (c : Config) → (c ≡ d) ⊎ In c ds → In c ms''
      pick c (inl e) = grown-sub v c (w.new c (Memᴰ.head e))
      pick c (inr n) = v.new c n

  pub add_all-right : (ds ms : List Config) → Work ms → Each (Closes g start) ds → Adds ms ds (add_all ms ds)
  unfolding add_all
  add_all-right [] ms w r = went (record { others = []; grown = append-nil ms; work = w; new = λ c m. absurd (Memᴰ.not-nil m) })
  add_all-right (d ∷ ds) ms w r = go (add_right ms d w (r d (Memᴰ.head refl)))
      (λ ms' v. add_all-right ds ms' v (λ c m. r c (Memᴰ.tail m)))
    where
      go : {o : Option (List Config)} → Adds ms (d ∷ []) o → ((ms' : List Config) → Work ms' → Adds ms' ds (add_all ms' ds))
          → Adds ms (d ∷ ds) (elim o as (λ _. Option (List Config)) [ none ↦ none | some ms' ↦ add_all ms' ds ])
      go (stopped x) rec = stopped x
      go (went {ms' = ms'} v) rec = join v (rec ms' v.work)
