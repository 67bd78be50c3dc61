-- Along a production, place by place as the code meets them, as far as single ends lead.
use mathlib.Core.Path.{◌≡◌, refl, sym}
use mathlib.Core.Logic.{◌↔◌}
use mathlib.Core.Bool.{Bool, true, false, not}
use mathlib.Core.List.{List}
use Prim.Native.Nat.{ℕ, ◌+◌, ◌≤◌, ◌<◌}
use native.Mathlib.Numerals.{add-one}
use native.Mathlib.Omega.{arith}
use lib.Dec.{T}
use lib.ListN.{length}
use borrow.Author.Tests.{not-true, not-false}
use Rattle.base.proofs.Booleans.{clash}
use Rattle.grammar.specs.declared.Symbol.TheVariants.{Token, Nonterminal, End}
use Rattle.grammar.specs.Grammar.{facing}
use Rattle.grammar.specs.inside.Tables.{grammar_in}
use Rattle.positions.specs.inside.Positions.{member}
use Rattle.derivation.specs.Runs.{marked}
use Rattle.derivation.proofs.MarkedCells.{length_marked}
use Rattle.derivation.proofs.ReadyLaws.{ready-next}
use Rattle.first_follow.specs.inside.Words.{masks_in}
use Rattle.filtering.specs.inside.Filtered.{Ends}
use Rattle.filtering.specs.inside.Cover.{Walks, here, on}
use Rattle.filtering.specs.inside.Turns.{Rest}
use Rattle.filtering.proofs.EndLaws.{ends-token, ends-other, ends-end, ends-none, ends-one, ends-several, over-token, pair-le}
use Rattle.filtering.proofs.InsideLaws.{pair_inside}
use Rattle.filtering.proofs.LeadLaws.{leads-call}
use Rattle.filtering.proofs.TurnLaws.{rest-begin, rest-token, rest-call, rest_end, rest-other, rest-none, rest-several}
use Rattle.cells.specs.inside.Matches.{matches_at}
use Rattle.search.specs.inside.Searching.{Searching, state_of, set_of, KnownIs}
use Rattle.search.specs.inside.Ways.{CameTo, EndsAt, EndsNowhere, Lacks, GoesOn}
use Rattle.search.specs.declared.replies.Reply.{Reply}
use Rattle.search.specs.declared.replies.Reply.TheVariants.{Unknown, Nowhere, Only, Several}
use Rattle.search.proofs.Answers.{said-unknown, said-nowhere, said-only, said-several, several-done, token-met, token-other}

-- what is left of the production from place f at i is what is left at place p from j
pub record Along (t w ms ws : List ℕ) (f i p j : ℕ) : Type 0 where
  pub place : p < (grammar_in t).size
  pub within : j ≤ length w
  pub walks : Walks (grammar_in t) (masks_in ms) (marked w) f i p j
  pub same : (m : ℕ) → Ends (grammar_in t) (masks_in ms) (marked w) f i m ↔ Ends (grammar_in t) (masks_in ms) (marked w) p j m
  pub rest : Rest (grammar_in t) (masks_in ms) (marked w) (state_of t w ws).done f i p j

pub along-begin : (t w ms ws : List ℕ) (f i : ℕ) → f < (grammar_in t).size → i ≤ length w → Along t w ms ws f i f i
along-begin t w ms ws f i l m =
    record { place = l; within = m; walks = here; same = λ n. (λ x. x, λ x. x); rest = rest-begin (state_of t w ws).done f i }

module _ {t w ms ws : List ℕ} {f i p j : ℕ} (s : Searching t w ms ws) (x : Along t w ms ws f i p j) where
  abbrev came : CameTo t w ms ws f i j
  came = record { within = x.within; place = p; walks = x.walks }

  -- ---- turns: over a token, and over a pair with one end
  pub along-token : {k : ℕ} {b : Bool} → facing (grammar_in t) p ≡ Token k → b ≡ matches_at (grammar_in t) w j k → not b ≡ false
      → Along t w ms ws f i (p + 1) (j + 1)
  along-token {k} {b} e q n =
      let (l, a) = token-met s.given.ready w p k j x.place e x.within q (not-false b n) in
      let m : j < length (marked w) = omega (arith, length_marked w) in
      rw (add-one p, add-one j)
      (record {
        place = ready-next t s.given.ready p x.place (λ z. clash (cc));
        within = omega arith;
        walks = on x.walks (over-token e m a);
        same = λ n. (λ y. (ends-token e m a).0 ((x.same n).0 y), λ y. (x.same n).1 ((ends-token e m a).1 y));
        rest = rest-token (state_of t w ws).done f i p j k e x.rest;
      })

  module _ (c : ℕ) {r : Reply} (e : facing (grammar_in t) p ≡ Nonterminal c) (k : KnownIs t w ms ws c j r) where
    pub along-call : {n : ℕ} → r ≡ Only n → Along t w ms ws f i (p + 1) n
    along-call {n} q =
        let (a, h) = said-only s c j x.within q k in
        rw (add-one p)
        (record {
          place = ready-next t s.given.ready p x.place (λ z. clash (cc));
          within = pair_inside t s.given.ready w c j n x.within ((h n).1 refl);
          walks = on x.walks ((leads-call c e n).1 ((h n).1 refl));
          same = λ m. (λ y. (ends-one e h).0 ((x.same m).0 y), λ y. (x.same m).1 ((ends-one e h).1 y));
          rest = rest-call (state_of t w ws).done f i p j n c e a h (pair-le c ((h n).1 refl)) x.rest;
        })

    -- ---- ways out at a pair: it is not worked out, has no end, or has several
    pub out-lacks : r ≡ Unknown → Lacks t w ms ws f i c j
    out-lacks q = record { came = came; faces = e; named = s.given.ready.fits.named p c e; undone = said-unknown s c j x.within q k }

    pub out_none : r ≡ Nowhere → EndsNowhere t w ms ws f i j
    out_none q =
        let (a, h) = said-nowhere s c j x.within q k in
        record {
          came = came;
          none = λ m y. ends-none e h ((x.same m).0 y);
          cover = λ n l. rest-none (state_of t w ws).done f i p j c n e a h l x.rest;
        }

    pub out-several : r ≡ Several → GoesOn t w ms ws f i (p + 1) c j
    out-several q =
        let (a, h) = said-several s c j x.within q k in
        let X : ℕ → Type 0 = λ m. T (member (set_of t w ws c j) m) in
        rw (add-one p)
        (record {
          came = came;
          faces = e;
          behind = refl;
          within = ready-next t s.given.ready p x.place (λ z. clash (cc));
          named = s.given.ready.fits.named p c e;
          done = several-done s c j x.within q k;
          pair = h;
          members = λ m y. pair_inside t s.given.ready w c j m x.within ((h m).1 y);
          ends = λ m. (λ y. (ends-several X e h).0 ((x.same m).0 y), λ y. (x.same m).1 ((ends-several X e h).1 y));
          cover = rest-several (state_of t w ws).done f i p j c X e a (λ m y. (h m).0 y) x.rest;
        })

  -- ---- ways out elsewhere: at the production's end, and at a token that may not stand here
  pub out-end : facing (grammar_in t) p ≡ End → EndsAt t w ms ws f i j
  out-end e =
      let l : j ≤ length (marked w) = let z = x.within in omega (arith, length_marked w) in
      record {
        came = came;
        ends = λ m. (λ y. sym ((ends-end e l).0 ((x.same m).0 y)), λ y. (x.same m).1 ((ends-end e l).1 (sym y)));
        cover = λ h k. rest_end (state_of t w ws).done f i p j h e k x.rest;
      }

  pub out-other : {k : ℕ} {b : Bool} → facing (grammar_in t) p ≡ Token k → b ≡ matches_at (grammar_in t) w j k → not b ≡ true
      → EndsNowhere t w ms ws f i j
  out-other {k} {b} e q n =
      let o = token-other s.given.ready w p k j x.place e x.within q (not-true b n) in
      record {
        came = came;
        none = λ m y. ends-other e o ((x.same m).0 y);
        cover = λ h l. rest-other (state_of t w ws).done f i p j k h e o l x.rest;
      }
