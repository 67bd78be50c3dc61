-- The index of a list's words: where each stands, and for each bucket of words that may be equal a chain through them.
use Rattle.std.specs.Prelude.{◌≡◌, ℕ, zero, suc, ◌+◌, ◌*◌, ◌-◌, ◌%◌, ◌≤◌, ◌<◌, true, false, List, [], ◌∷◌, ◌++◌, length, get_or, take, drop}
use Rattle.splitter.specs.Classes.{word_byte?}
use Rattle.splitter.specs.Listing.{max_listed, word_run, among?}
use Rattle.splitter.specs.declared.runs.Run.{Run}

-- the buckets, and the lengths of the two rows of the index
abbrev pub buckets : ℕ
buckets = 64

abbrev pub start_count : ℕ
start_count = suc max_listed

abbrev pub link_count : ℕ
link_count = max_listed + buckets

-- the bucket of a word that goes on with b
unfoldable pub mix : ℕ → ℕ → ℕ
mix h b = (5 * h + b) % buckets

-- the bucket of a word that goes on so
unfoldable pub bucket_from : ℕ → List ℕ → ℕ
unfolding mix
bucket_from h [] = h
bucket_from h (b ∷ u) = bucket_from (mix h b) u

-- the end of a run that is at i, and its bucket
unfoldable pub run_from : ℕ → ℕ → List ℕ → Run
unfolding word_byte? mix
run_from i h [] = record { end = i; bucket = h }
run_from i h (b ∷ s) = elim (word_byte? b) [ true ↦ run_from (suc i) (mix h b) s | false ↦ record { end = i; bucket = h } ]

unfoldable pub run_of : List ℕ → ℕ → Run
unfolding run_from
run_of s i = run_from i 0 (drop i s)

-- word k of a list whose words start so: it ends before the blank in front of the next
unfoldable pub word_at : List ℕ → List ℕ → ℕ → List ℕ
word_at list starts k = take (get_or starts (suc k) 0 - suc (get_or starts k 0)) (drop (get_or starts k 0) list)

-- the first n words
unfoldable pub words_at : List ℕ → List ℕ → ℕ → List (List ℕ)
unfolding word_at
words_at list starts zero = []
words_at list starts (suc n) = words_at list starts n ++ (word_at list starts n ∷ [])

-- word k is on the chain that begins with p, counted from 1
pub data OnChain (links : List ℕ) (n k : ℕ) : ℕ → Type 0 where
  here : k < n → OnChain links n k (suc k)
  behind : (j : ℕ) → j < n → OnChain links n k (get_or links j 0) → OnChain links n k (suc j)

-- the index of the first n words of a list
pub record Indexed (list starts links : List ℕ) (n : ℕ) : Type 0 where
  pub few : n ≤ max_listed
  pub starts-long : length starts ≡ start_count
  pub links-long : length links ≡ link_count
  -- every word stands in the list
  pub in_order : (k : ℕ) → k < n → get_or starts k 0 < get_or starts (suc k) 0
  pub inside : (k : ℕ) → k < n → get_or starts (suc k) 0 ≤ suc (length list)
  -- chains lead back to words before
  pub back : (k : ℕ) → k < n → get_or links k 0 ≤ k
  pub heads : (h : ℕ) → h < buckets → get_or links (max_listed + h) 0 ≤ n
  -- every word is on its bucket's chain
  pub chained : (k : ℕ) → k < n → ∥ OnChain links n k (get_or links (max_listed + bucket_from 0 (word_at list starts k)) 0) ∥₁
  -- no word is one of those before it
  pub distinct : (k : ℕ) → k < n → among? (words_at list starts k) (word_at list starts k) ≡ false

-- a word that begins at i may stand behind the first n words, and its start is known
pub record New (list starts : List ℕ) (n i : ℕ) : Type 0 where
  pub few : n < max_listed
  pub begins : i ≤ length list
  pub start : get_or starts n 0 ≡ i
  pub fresh : among? (words_at list starts n) (word_run (drop i list)) ≡ false

-- it stands there now, and where the next one starts is known
pub record Added (list starts starts' links' : List ℕ) (n i e : ℕ) : Type 0 where
  pub indexed : Indexed list starts' links' (suc n)
  pub words : words_at list starts' (suc n) ≡ words_at list starts n ++ (word_run (drop i list) ∷ [])
  pub next : get_or starts' (suc n) 0 ≡ suc e
