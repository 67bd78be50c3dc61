-- Entries: the nonterminals that are open, each with the position at which it was entered and the place at which it waits. Every step of the machine
-- keeps what is known of them; and in a grammar without left recursion no two of them have the same nonterminal and the same position: between them
-- nothing was read, so moves would lead from the nonterminal back to itself.
use mathlib.Core.Path.{◌≡◌, refl, sym, ap, ◌∙◌}
use mathlib.Core.Logic.{◌⊎◌, inl, inr}
use mathlib.Core.Option.{some}
use mathlib.Core.List.Memᴰ
use mathlib.Core.List.{List, [], ◌∷◌, ◌++◌, append_assoc, append-nil, Memᴰ}
use Prim.Native.Nat.{ℕ, suc, ◌≤◌}
use native.Mathlib.Omega.{arith}
use lib.ListN.{length}
use Rattle.base.proofs.Booleans.{clash}
use Rattle.grammar.specs.declared.Symbol.{Symbol}
use Rattle.grammar.specs.declared.Symbol.TheVariants.{Nonterminal, Token, End}
use Rattle.grammar.specs.Grammar.{Grammar, facing, owner, first, before, suffix, of_places}
use Rattle.grammar.specs.Derivation.{Syntax, Leftmost, Derives}
use Rattle.grammar.specs.inside.Ordered.{Ordered}
use Rattle.grammar.proofs.GrammarLaws.{suffix-is, production-is, leftmost-append}
use Rattle.closures.specs.Textbook.{Vanishing, Move, Reaches, one, LeftRecursive}
use Rattle.corners.proofs.LeftRecursion.{reaches-trans}
use Rattle.derivation.specs.inside.Steps.{Step, popped, matched, picked, Steps, Quiet, Reads}
use Rattle.derivation.specs.inside.Entries.{Below, Blank, Entry, Inside, Open, entry, ground, here, inside, on, quiet, wait}

vanishing-then : {g : Syntax} {α : List Symbol} {x : Symbol} → Vanishing g α → Derives g (x ∷ []) [] → Vanishing g (α ++ (x ∷ []))
vanishing-then Vanishing.nil e = Vanishing.also e Vanishing.nil
vanishing-then (Vanishing.also h v) e = Vanishing.also h (vanishing-then v e)

vanishing-derives : {g : Syntax} {α : List Symbol} → Vanishing g α → Derives g α []
vanishing-derives Vanishing.nil = ([], Leftmost.done)
vanishing-derives (Vanishing.also h v) = let k = vanishing-derives v in (h.0 ++ k.0, leftmost-append h.1 k.1)

-- the symbols from f up to p
abbrev Ahead : Grammar → ℕ → ℕ → Type 0
Ahead g f p = (α : List Symbol) × Vanishing (of_places g) α × (suffix g f ≡ α ++ suffix g p)

module _ {g : Grammar} where
  blank-ahead : {f p : ℕ} → Blank g f p → Ahead g f p
  blank-ahead here = ([], Vanishing.nil, refl)
  blank-ahead {f} (on {p = p} {a = a} x e n) = go (blank-ahead x)
    where
      go : Ahead g f p → Ahead g f (suc p)
      go (α, v, q) =
          let s : suffix g p ≡ Nonterminal a ∷ suffix g (suc p) = suffix-is g p ∙ ap (λ y. before y (suffix g (suc p))) e in
          (α ++ (Nonterminal a ∷ []), vanishing-then v n, q ∙ (ap (λ y. α ++ y) s ∙ sym (append_assoc α (Nonterminal a ∷ []) (suffix g (suc p)))))

  -- a call behind a blank part is a move
  blank-move : {a f p c : ℕ} (b : ℕ) → first g a b ≡ some f → Blank g f p → facing g p ≡ Nonterminal c → Move (of_places g) a c
  blank-move {a} {f} {p} {c} b d x e = go (blank-ahead x)
    where
      go : Ahead g f p → Move (of_places g) a c
      go (α, v, q) =
          let s : suffix g p ≡ Nonterminal c ∷ suffix g (suc p) = suffix-is g p ∙ ap (λ y. before y (suffix g (suc p))) e in
          record { alternative = b; ahead = α; behind = suffix g (suc p); stands = production-is g a b d ∙ ap some (q ∙ ap (λ y. α ++ y) s); empty = v }

  -- a production that is blank up to its end derives the empty row
  blank-empty : {a f p : ℕ} (b : ℕ) → first g a b ≡ some f → Blank g f p → facing g p ≡ End → Derives (of_places g) (Nonterminal a ∷ []) []
  blank-empty {a} {f} {p} b d x e = go (blank-ahead x)
    where
      go : Ahead g f p → Derives (of_places g) (Nonterminal a ∷ []) []
      go (α, v, q) =
          let s : suffix g p ≡ [] = suffix-is g p ∙ ap (λ y. before y (suffix g (suc p))) e in
          let (r, y) = vanishing-derives v in
          let z : suffix g f ++ [] ≡ α = append-nil (suffix g f) ∙ (q ∙ (ap (λ y. α ++ y) s ∙ append-nil α)) in
          let y' : Leftmost (of_places g) (suffix g f ++ []) r [] = rw z y in
          (b ∷ r, Leftmost.expand (production-is g a b d) y')

-- ---- a step keeps it
module _ (g : Grammar) (ordered : Ordered g) (w : List ℕ) (n : ℕ) (reads : Reads g w n) (G : List ℕ) (silent : Quiet g G) where
  entered : {a f : ℕ} (i b : ℕ) → first g a b ≡ some f → Inside g a i f i
  entered {a} {f} i b d = record { alternative = b; start = f; begins = d; own = ordered.owns a b f d; forward = omega arith; blank = λ _. here }

  -- a nonterminal c that was entered at i is behind: the one below goes on
  returned : {a e p c i m : ℕ} → Inside g a e p i → facing g p ≡ Nonterminal c → i ≤ m → (i ≡ m → Derives (of_places g) (Nonterminal c ∷ []) [])
      → Inside g a e (suc p) m
  returned {a} {e} {p} {c} {i} {m} x f k n =
      let l = x.forward in
      record {
        alternative = x.alternative;
        start = x.start;
        begins = x.begins;
        own = ordered.call-on p c f ∙ x.own;
        forward = omega arith;
        blank = λ q. let y : e ≡ i = omega arith in let z : i ≡ m = omega arith in on (x.blank y) f (n z);
      }

  after-pop : {a e p i : ℕ} {S : List ℕ} {E : List Entry} → facing g p ≡ End → i ≤ n → Inside g a e p i → Below g G S E a e → Open g G n S i
  after-pop f l x ground = quiet silent (omega arith)
  after-pop f l x (wait y f' b) = inside l (returned y f' x.forward (λ q. blank-empty x.alternative x.begins (x.blank q) f)) b

  after-match : {a e p k i : ℕ} → facing g p ≡ Token k → Inside g a e p i → Inside g a e (suc p) (suc i)
  after-match {a} {e} {p} {k} {i} f x =
      let l = x.forward in
      record {
        alternative = x.alternative;
        start = x.start;
        begins = x.begins;
        own = ordered.token-on p k f ∙ x.own;
        forward = omega arith;
        blank = λ q. absurd (omega arith);
      }

  quiet_step : {S S' : List ℕ} {i i' : ℕ} → Quiet g S → length S ≤ length G → Step g w S i S' i' → Open g G n S' i'
  quiet_step (Quiet.end e q) l (popped f) = quiet q (omega arith)
  quiet_step (Quiet.end e q) l (matched f d t) = clash (cc)
  quiet_step (Quiet.end e q) l (picked b f d) = clash (cc)
  quiet_step (Quiet.token e q) l (popped f) = clash (cc)
  quiet_step (Quiet.token e q) l (matched f d t) = quiet q l
  quiet_step (Quiet.token e q) l (picked b f d) = clash (cc)
  quiet_step {i = i} Quiet.empty l x = elim x [ ]

  pub open-start : (a b f : ℕ) → first g a b ≡ some f → Open g G n (f ∷ G) 0
  open-start a b f d = inside {a = a} {e = 0} {i = 0} (omega arith) (entered 0 b d) ground

  pub open_step : {S S' : List ℕ} {i i' : ℕ} → Open g G n S i → Step g w S i S' i' → Open g G n S' i'
  open_step (quiet q l) s = quiet_step q l s
  open_step (inside l x b) (popped f) = after-pop f l x b
  open_step (inside {a = a} {p = p} l x b) (matched {k = k} {t = t} {i = i} f d h) =
      inside (reads a x.alternative x.start p k i t x.begins x.own f d h) (after-match f x) b
  open_step (inside l x b) (picked {i = i} c f d) = inside l (entered i c d) (wait x f b)

  pub open-steps : {S₀ : List ℕ} {i₀ : ℕ} {S : List ℕ} {i : ℕ} → Open g G n S₀ i₀ → Steps g w S₀ i₀ S i → Open g G n S i
  open-steps o Steps.stay = o
  open-steps o (Steps.then x s) = open_step (open-steps o x) s

-- ---- two entries are never the same
-- what is known of an entry below a nonterminal c that was entered at i
pub record Known (g : Grammar) (c i : ℕ) (x : Entry) : Type 0 where
  pub earlier : x.since ≤ i
  pub leads : x.since ≡ i → Reaches (of_places g) x.who c
  pub own : owner g x.call ≡ x.who
  pub calls : (d : ℕ) × (facing g x.call ≡ Nonterminal d)
  pub named : (b : ℕ) × (f : ℕ) × (first g x.who b ≡ some f)

module _ {g : Grammar} where
  known-here : {a e p c i : ℕ} → Inside g a e p i → facing g p ≡ Nonterminal c → Known g c i (entry a e p)
  known-here {c = c} x f =
      record {
        earlier = x.forward;
        leads = λ q. one (blank-move x.alternative x.begins (x.blank q) f);
        own = x.own;
        calls = (c, f);
        named = (x.alternative, x.start, x.begins);
      }

  known_under : {a e p c i : ℕ} {y : Entry} → Inside g a e p i → facing g p ≡ Nonterminal c → Known g a e y → Known g c i y
  known_under {a} {e} {p} {c} {i} {y} x f k =
      let l = x.forward in
      let m = k.earlier in
      record {
        earlier = omega arith;
        leads = λ q.
            let u : y.since ≡ e = omega arith in
            let v : e ≡ i = omega arith in
            reaches-trans (k.leads u) (one (blank-move x.alternative x.begins (x.blank v) f));
        own = k.own;
        calls = k.calls;
        named = k.named;
      }

  pub known : {G : List ℕ} {c i : ℕ} {S : List ℕ} {E : List Entry} → Below g G S E c i → (y : Entry) → Memᴰ y E → Known g c i y
  known ground y m = absurd (Memᴰ.not-nil m)
  known {c = c} {i = i} (wait {a = a} {e = e} {p = p} {E = E} x f b) y m = go (Memᴰ.cases_cons m) (λ k. known b y k)
    where
      go : (y ≡ entry a e p) ⊎ Memᴰ y E → (Memᴰ y E → Known g a e y) → Known g c i y
      go (inl q) rec = rw q (known-here x f)
      go (inr m) rec = known_under x f (rec m)

-- no two entries have the same nonterminal and the same position
pub data Apart : List Entry → Type 0 where
  nil : Apart []
  also : {x : Entry} {E : List Entry} → ((y : Entry) → Memᴰ y E → x.who ≡ y.who → x.since ≡ y.since → ⊥) → Apart E
      → Apart (x ∷ E)

module _ {g : Grammar} {G : List ℕ} (sound : (a : ℕ) → ¬ LeftRecursive (of_places g) a) where
  -- nor does one that waits agree with the nonterminal c over it
  pub apart_below : {c i : ℕ} {S : List ℕ} {E : List Entry} → Below g G S E c i → (y : Entry) → Memᴰ y E → c ≡ y.who → i ≡ y.since
      → ⊥
  apart_below {c} b y m q r = let k = known b y m in sound c (let z = k.leads (sym r) in rw (← q) at z)

  pub apart : {c i : ℕ} {S : List ℕ} {E : List Entry} → Below g G S E c i → Apart E
  apart ground = nil
  apart (wait x f b) = also (apart_below b) (apart b)
