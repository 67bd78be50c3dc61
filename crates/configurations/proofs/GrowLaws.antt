-- Members added to the words: the code's ways through `add`.
use mathlib.Core.Path.{◌≡◌, refl, sym, ap, ◌∙◌}
use mathlib.Core.Bool.{Bool, true, false, ◌&&◌, cond}
use mathlib.Core.Option.{none, some}
use mathlib.Core.List.{List, [], ◌∷◌, ◌++◌}
use Prim.Native.Nat.{ℕ, ◌+◌, ◌<◌}
use native.Mathlib.Omega.{arith}
use lib.Dec.{leb, ltb}
use lib.ListN.{length}
use borrow.Author.Tests.{lt-ltb, le-ltb, le-leb, lt-leb}
use Rattle.base.proofs.Booleans.{true→T}
use Rattle.base.proofs.Lists.{get-below}
use Rattle.lookahead.specs.Configs.{Config, In}
use Rattle.lookahead.specs.Closing.{max_members, max_entries, member?, shallow, add}
use Rattle.lookahead.proofs.ListLaws.{in-get}
use Rattle.lookahead.proofs.AddLaws.{member-in}
use Rattle.configurations.specs.declared.config.Packed.{Packed}
use Rattle.std.specs.Prelude.{Some, None}
use Rattle.configurations.specs.inside.Packed.{config_of, Exact, put_config}
use Rattle.configurations.specs.inside.Held.{config_at, configs_from, Room, held_after, RoomAfter, Grows}
use Rattle.configurations.proofs.HeldLaws.{length-held, held-add, held_one, get-held, room-has, stored, held_below, room-put}

module _ (ws : List ℕ) (n : ℕ) (room : Room ws n) where
  abbrev ms : List Config
  ms = configs_from ws 0 n

  -- one that is a member
  pub add-member : (d : Config) {r : Bool} → r ≡ member? d ms → r ≡ true → Grows (Some n) ws (add ms d)
  unfolding add held_after RoomAfter
  add-member d e f = record { is = rw (sym e ∙ f); room = room }

  module _ (c : Packed) (exact : Exact c) {r : Bool} (e : r ≡ member? (config_of c) ms) (f : r ≡ false) where
    abbrev d : Config
    d = config_of c

    shallow-is : shallow d ≡ true
    unfolding shallow
    shallow-is = le-leb (length d.stack) max_entries exact.shallow

    pub add-full : n ≡ max_members → {ws' : List ℕ} → Grows None ws' (add ms d)
    unfolding add held_after RoomAfter
    add-full q = record { is = rw (sym e ∙ f, shallow-is, le-ltb (length ms) max_members (omega (arith, length-held ws 0 n))); room = tt }

    pub add-new : (n ≡ max_members → ⊥) → {ws' : List ℕ} → ws' ≡ put_config ws n c → Grows (Some (n + 1)) ws' (add ms d)
    unfolding add held_after RoomAfter
    add-new q p =
        rw p (record {
          is = ap some snoc ∙ sym (rw (sym e ∙ f, shallow-is, lt-ltb (length ms) max_members (omega (arith, length-held ws 0 n, room.few))));
          room = room-put ws n c room exact (omega (arith, room.few)) here (λ k l z. omega arith);
        })
      where
        here : n < max_members
        here = omega (arith, room.few)

        snoc : configs_from (put_config ws n c) 0 (n + 1) ≡ ms ++ (d ∷ [])
        snoc =
            let z : 0 + n ≡ n = omega arith in
            let a = held_below ws n c 0 n (omega arith) in
            let b : configs_from (put_config ws n c) (0 + n) 1 ≡ d ∷ []
            = rw z (held_one (put_config ws n c) n ∙ ap (λ (k : Config). k ∷ []) (stored ws n c (room-has room n here))) in
            held-add (put_config ws n c) 0 n 1 ∙ (λ i. a i ++ b i)

  -- one that is too deep is no member
  pub add-deep : (d : Config) → max_entries < length d.stack → {ws' : List ℕ} → Grows None ws' (add ms d)
  unfolding add shallow held_after RoomAfter config_at
  add-deep d h = record { is = go (member? d ms) refl; room = tt }
    where
      shallow-in : In d ms → ⊥
      shallow-in m =
          let (j, e) = in-get m in
          let l : j < n = omega (arith, get-below ms j e, length-held ws 0 n) in
          let z : 0 + j ≡ j = omega arith in
          let q : d ≡ config_at ws j = let y = get-held ws 0 n j l in let w = rw z at y in cc in
          let k : length d.stack ≡ length (config_at ws j).stack = ap (λ (c : Config). length c.stack) q in
          omega (arith, k, (room.exact j l).shallow)

      go : (b : Bool) → member? d ms ≡ b
          → none ≡ cond b (some ms) (cond (leb (length d.stack) max_entries && ltb (length ms) max_members) (some (ms ++ (d ∷ []))) none)
      go true e = absurd (shallow-in (member-in d ms (true→T (member? d ms) e)))
      go false e = rw (lt-leb (length d.stack) max_entries h)
