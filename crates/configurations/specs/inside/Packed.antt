-- Packed configurations in the code: which configuration one is, and how it lies in a row of words.
use Rattle.std.specs.Prelude.{◌≡◌, Bool, ◌&&◌, List, ◌∷◌, ℕ, suc, ◌+◌, ◌*◌, ◌/◌, ◌%◌, ◌≤◌, ◌<◌, eqb, length, get_or, set}
use Rattle.grammar.specs.Limits.{end_place}
use Rattle.lookahead.specs.Configs.{Config}
use Rattle.lookahead.specs.Closing.{max_members, max_entries}
use Rattle.lookahead.specs.Order.{stack_key, head_key}
use Rattle.configurations.specs.declared.config.Packed.{Packed}
use Rattle.configurations.specs.Packing.{config_words, unpack, storable?, word_radix}

-- ---- one configuration
-- the bits of a return place in a stack
abbrev pub return_bits : ℕ
return_bits = 8

-- the configuration that a packed one is
unfoldable pub config_of : Packed → Config
unfolding unpack
config_of c = unpack c.head c.stack

-- no digit too many, so that equal words are equal configurations; and the stack is not too deep
pub record Exact (c : Packed) : Type 0 where
  pub head : head_key (config_of c) ≡ c.head
  pub stack : stack_key (config_of c).stack ≡ c.stack
  pub shallow : length (config_of c).stack ≤ max_entries

-- its numbers are in range, and it has no digit too many
unfoldable pub fits? : Packed → Bool
unfolding config_of head_key stack_key storable?
fits? c =
    let k = config_of c in
    let stack = eqb (stack_key k.stack) c.stack in
    eqb (head_key k) c.head && (storable? k && stack)

-- c is exactly configuration d
pub record Packs (c : Packed) (d : Config) : Type 0 where
  pub exact : Exact c
  pub is : config_of c ≡ d

-- c may go into a production with first place f
pub record MayPush (c : Packed) (f : ℕ) : Type 0 where
  pub exact : Exact c
  pub before : (config_of c).place < end_place
  pub begins : f ≤ end_place

-- d is c back at its innermost return place
pub record Pops (c d : Packed) : Type 0 where
  pub exact : Exact d
  pub stack : (config_of c).stack ≡ (config_of d).place ∷ (config_of d).stack
  pub alternative : (config_of d).alternative ≡ (config_of c).alternative

-- the words of the most members
abbrev pub member_words : ℕ
member_words = config_words * max_members

-- words that have configuration k
abbrev pub Has : List ℕ → ℕ → Type 0
Has ws k = config_words * suc k ≤ length ws

-- configuration k of some words
unfoldable pub packed_at : List ℕ → ℕ → Packed
packed_at ws k = record {
  head = get_or ws (config_words * k) 0;
  stack = get_or ws (config_words * k + 1) 0 + word_radix * get_or ws (config_words * k + 2) 0;
}

-- the words with c as configuration k
unfoldable pub put_config : List ℕ → ℕ → Packed → List ℕ
put_config ws k c =
    set (set (set ws (config_words * k) c.head) (config_words * k + 1) (c.stack % word_radix)) (config_words * k + 2) (c.stack / word_radix)
