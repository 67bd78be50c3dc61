-- The rules look at which configurations are taken, not at how they are listed; so they give one outcome of them.
use mathlib.Core.Path.{◌≡◌}
use mathlib.Core.Logic.{◌↔◌}
use mathlib.Core.List.{List}
use Prim.Native.Nat.{ℕ}
use Rattle.grammar.specs.Grammar.{Grammar}
use Rattle.lookahead.specs.Configs.{Config, In, Closes, from, move}
use Rattle.lookahead.specs.Outcomes.{Outcome}
use Rattle.lookahead.specs.Rules.{MoreThan, Over, deep, many, Keeps, TooLarge, closed-over, kept-many, Nothing, Agreed, Rival, Conflict, Gives}
use Rattle.lookahead.specs.Rules.{rule1, rule2, rule3, rule4, rule5}
use Rattle.lookahead.specs.Given.{Lists, Learns}
use Rattle.lookahead.proofs.RuleLaws.{gives_one}

more-than : {n : ℕ} {P Q : Config → Type 0} → ((c : Config) → P c → Q c) → MoreThan n P → MoreThan n Q
more-than f m = record { listed = m.listed; distinct = m.distinct; each = λ c i. f c (m.each c i); more = m.more }

module _ (g : Grammar) where
  -- the members of one list are members of another
  abbrev Among : List Config → List Config → Type 0
  Among l m = (c : Config) → In c l → In c m

  closes-within : {l m : List Config} → Among l m → {c : Config} → Closes g l c → Closes g m c
  closes-within h (from {c = c} i) = from (h c i)
  closes-within h (move r s) = move (closes-within h r) s

  keeps-within : {l m : List Config} → Among l m → {c : Config} → Keeps g l c → Keeps g m c
  keeps-within h (r, w) = (closes-within h r, w)

  over-within : {l m : List Config} → Among l m → Over g l → Over g m
  over-within h (deep c r e) = deep c (closes-within h r) e
  over-within h (many x) = many (more-than (λ c r. closes-within h r) x)

  large-within : {l m : List Config} → Among l m → TooLarge g l → TooLarge g m
  large-within h (closed-over x) = closed-over (over-within h x)
  large-within h (kept-many x) = kept-many (more-than (λ c r. keeps-within h r) x)

  -- two lists of the same members
  module _ {l m : List Config} (to : Among l m) (back : Among m l) where
    agreed-same : {b : ℕ} → Agreed g m b → Agreed g l b
    agreed-same x = record { one = x.one; keeps = keeps-within back x.keeps; all = λ c k. x.all c (keeps-within to k) }

    rival-same : {c : Config} → Rival g m c → Rival g l c
    rival-same x = record { other = x.other; keeps = keeps-within back x.keeps; place = x.place; apart = x.apart }

    conflict-same : Conflict g m → Conflict g l
    unfolding rival-same
    conflict-same x = record {
      one = x.one;
      keeps = keeps-within back x.keeps;
      rival = rival-same x.rival;
      stack = x.stack;
      none-alone = λ c k. rival-same (x.none-alone c (keeps-within to k));
    }

    nothing-same : Nothing g m → Nothing g l
    nothing-same n c k = n c (keeps-within to k)

  pub gives_same : {l m : List Config} → Among l m → Among m l → {o : Outcome} → Gives g l o → Gives g m o
  gives_same to back (rule1 t) = rule1 (large-within to t)
  gives_same to back (rule2 n z) = rule2 (λ t. n (large-within back t)) (nothing-same back to z)
  gives_same to back (rule3 n y a) = rule3 (λ t. n (large-within back t)) (λ z. y (nothing-same to back z)) (agreed-same back to a)
  gives_same to back (rule4 n y a c) =
      rule4 (λ t. n (large-within back t)) (λ z. y (nothing-same to back z)) (λ b x. a b (agreed-same to back x)) (conflict-same back to c)
  gives_same to back (rule5 n y a c k) =
      rule5 (λ t. n (large-within back t)) (λ z. y (nothing-same to back z)) (λ b x. a b (agreed-same to back x)) (λ x. c (conflict-same to back x))
      (record { ascending = k.ascending; exact = λ d. (λ i. keeps-within to ((k.exact d).0 i), λ i. (k.exact d).1 (keeps-within back i)) })

  module _ (Taken : Config → Type 0) where
    -- one list of them tells what the rules give
    pub learns-listed : (l : List Config) → Lists Taken l → (o : Outcome) → Learns g Taken o ↔ Gives g l o
    learns-listed l h o = (
      λ x. gives_same (λ c i. (h c).1 ((x.exact c).0 i)) (λ c i. (x.exact c).1 ((h c).0 i)) x.gives,
      λ x. record { listed = l; exact = h; gives = x },
    )

    -- and that is one outcome
    pub learns-one : {o p : Outcome} → Learns g Taken o → Learns g Taken p → o ≡ p
    learns-one {o} x y = gives_one g y.listed ((learns-listed y.listed y.exact o).0 x) y.gives
