-- Configurations in a row of words: what is put is what is there, other configurations stay, and the words of a row say its configurations one after another.
use mathlib.Core.Path.{◌≡◌, refl, ap, ◌∙◌}
use mathlib.Core.List.{List, [], ◌∷◌}
use Prim.Native.Nat.{ℕ, suc, ◌+◌, ◌*◌, ◌/◌, ◌%◌, ◌≤◌, ◌<◌}
use native.Mathlib.Omega.{arith}
use lib.ListN.{length, get_or, set, drop, length-set, length-drop}
use lib.Seq.{get_or-set_same, get_or-set_other, drop-cons}
use Rattle.lookahead.specs.Configs.{Config}
use Rattle.configurations.specs.declared.config.Packed.{Packed}
use Rattle.configurations.specs.Packing.{config_words, word_radix, unpack_all}
use Rattle.configurations.specs.inside.Packed.{config_of, Has, packed_at, put_config}
use Rattle.configurations.specs.inside.Held.{config_at}
use Rattle.configurations.proofs.PackLaws.{joined}

-- ---- one configuration put into a row
module _ (ws : List ℕ) (k : ℕ) (c : Packed) where
  abbrev one : List ℕ
  one = set ws (config_words * k) c.head

  abbrev two : List ℕ
  two = set one (config_words * k + 1) (c.stack % word_radix)

  pub length-put : length (put_config ws k c) ≡ length ws
  unfolding put_config
  length-put =
      length-set two (config_words * k + 2) (c.stack / word_radix) ∙ length-set one (config_words * k + 1) (c.stack % word_radix)
      ∙ length-set ws (config_words * k) c.head

  -- a word that the store does not touch
  kept_word : (i : ℕ) → (i ≡ config_words * k → ⊥) → (i ≡ config_words * k + 1 → ⊥) → (i ≡ config_words * k + 2 → ⊥)
      → get_or (put_config ws k c) i 0 ≡ get_or ws i 0
  unfolding put_config
  kept_word i a b d =
      get_or-set_other two (config_words * k + 2) i (c.stack / word_radix) 0 d ∙ get_or-set_other one (config_words * k + 1) i (c.stack % word_radix) 0 b
      ∙ get_or-set_other ws (config_words * k) i c.head 0 a

  pub packed-other : (j : ℕ) → (j ≡ k → ⊥) → packed_at (put_config ws k c) j ≡ packed_at ws j
  unfolding packed_at
  packed-other j n =
      let h = kept_word (config_words * j) (λ e. n (omega arith)) (λ e. n (omega arith)) (λ e. n (omega arith)) in
      let l = kept_word (config_words * j + 1) (λ e. n (omega arith)) (λ e. n (omega arith)) (λ e. n (omega arith)) in
      let m = kept_word (config_words * j + 2) (λ e. n (omega arith)) (λ e. n (omega arith)) (λ e. n (omega arith)) in
      λ i. record { head = h i; stack = l i + word_radix * m i }

  module _ (h : Has ws k) where
    first_word : get_or (put_config ws k c) (config_words * k) 0 ≡ c.head
    unfolding put_config
    first_word =
        get_or-set_other two (config_words * k + 2) (config_words * k) (c.stack / word_radix) 0 (λ e. omega arith)
        ∙ get_or-set_other one (config_words * k + 1) (config_words * k) (c.stack % word_radix) 0 (λ e. omega arith)
        ∙ get_or-set_same ws (config_words * k) c.head 0 (omega arith)

    second_word : get_or (put_config ws k c) (config_words * k + 1) 0 ≡ c.stack % word_radix
    unfolding put_config
    second_word =
        get_or-set_other two (config_words * k + 2) (config_words * k + 1) (c.stack / word_radix) 0 (λ e. omega arith)
        ∙ get_or-set_same one (config_words * k + 1) (c.stack % word_radix) 0 (omega (arith, length-set ws (config_words * k) c.head))

    third-word : get_or (put_config ws k c) (config_words * k + 2) 0 ≡ c.stack / word_radix
    unfolding put_config
    third-word =
        let l = length-set one (config_words * k + 1) (c.stack % word_radix) in
        let m = length-set ws (config_words * k) c.head in
        get_or-set_same two (config_words * k + 2) (c.stack / word_radix) 0 (omega (arith, l, m))

    pub packed-put : packed_at (put_config ws k c) k ≡ c
    unfolding packed_at
    packed-put =
        let s : get_or (put_config ws k c) (config_words * k + 1) 0 + word_radix * get_or (put_config ws k c) (config_words * k + 2) 0 ≡ c.stack
        = (λ i. second_word i + word_radix * third-word i) ∙ joined c.stack in
        λ i. record { head = first_word i; stack = s i }

-- ---- the configurations that a row says, from number j on
unfoldable pub said_from : List ℕ → ℕ → List Config
unfolding unpack_all
said_from ws j = unpack_all (drop (config_words * j) ws)

pub said_all : (ws : List ℕ) → said_from ws 0 ≡ unpack_all ws
unfolding said_from
said_all ws = refl

-- the words of configuration j, and those behind it
pub words-next : (ws : List ℕ) (j : ℕ) → Has ws j → drop (config_words * j) ws
    ≡ get_or ws (config_words * j) 0 ∷ get_or ws (config_words * j + 1) 0 ∷ get_or ws (config_words * j + 2) 0 ∷ drop (config_words * suc j) ws
words-next ws j h =
    let a : suc (config_words * j) ≡ config_words * j + 1 = omega arith in
    let b : suc (config_words * j + 1) ≡ config_words * j + 2 = omega arith in
    let c : suc (config_words * j + 2) ≡ config_words * suc j = omega arith in
    let x = get_or ws (config_words * j) 0 in
    let y = get_or ws (config_words * j + 1) 0 in
    let z = get_or ws (config_words * j + 2) 0 in
    let third : drop (config_words * j + 2) ws ≡ z ∷ drop (config_words * suc j) ws
    = drop-cons ws (config_words * j + 2) 0 (omega arith) ∙ ap (λ (n : ℕ). z ∷ drop n ws) c in
    let second : drop (config_words * j + 1) ws ≡ y ∷ z ∷ drop (config_words * suc j) ws
    = drop-cons ws (config_words * j + 1) 0 (omega arith) ∙ ap (λ (l : List ℕ). y ∷ l) (ap (λ (n : ℕ). drop n ws) b ∙ third) in
    drop-cons ws (config_words * j) 0 (omega arith) ∙ ap (λ (l : List ℕ). x ∷ l) (ap (λ (n : ℕ). drop n ws) a ∙ second)

pub said-next : (ws : List ℕ) (j : ℕ) → Has ws j → said_from ws j ≡ config_at ws j ∷ said_from ws (suc j)
unfolding said_from config_at config_of packed_at unpack_all
said-next ws j h = ap unpack_all (words-next ws j h)

pub said-none : (ws : List ℕ) (j : ℕ) → length ws < config_words * suc j → said_from ws j ≡ []
unfolding said_from unpack_all
said-none ws j h = go (drop (config_words * j) ws) (omega (arith, length-drop (config_words * j) ws))
  where
    go : (l : List ℕ) → length l ≤ 2 → unpack_all l ≡ []
    go [] n = refl
    go (a ∷ []) n = refl
    go (a ∷ b ∷ []) n = refl
    go (a ∷ b ∷ c ∷ l) n = absurd (omega arith)

-- ---- as the code reads and stores them
pub packed-read : (ws : List ℕ) (k : ℕ) {c : Packed} → c.head ≡ get_or ws (config_words * k) 0
    → c.stack ≡ get_or ws (config_words * k + 1) 0 + word_radix * get_or ws (config_words * k + 2) 0 → c ≡ packed_at ws k
unfolding packed_at
packed-read ws k p q = λ i. record { head = p i; stack = q i }

pub put-stored : (ws : List ℕ) (k : ℕ) (c : Packed) {u v : ℕ} → u ≡ c.stack % word_radix → v ≡ c.stack / word_radix
    → set (set (set ws (config_words * k) c.head) (config_words * k + 1) u) (config_words * k + 2) v ≡ put_config ws k c
unfolding put_config
put-stored ws k c p q = λ i. set (set (set ws (config_words * k) c.head) (config_words * k + 1) (p i)) (config_words * k + 2) (q i)
