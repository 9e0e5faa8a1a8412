-- Laws of chains. Assumes nothing.
use Rattle.std.specs.Prelude.{ℕ}
use Rattle.union_find.specs.Pairs.{Chain, here, fore, back}

-- a chain whose places are renamed
pub chain_map : {R S : ℕ → ℕ → Type 0} (f : ℕ → ℕ) → ((i j : ℕ) → R i j → S (f i) (f j)) → {i j : ℕ} → Chain R i j → Chain S (f i) (f j)
chain_map f h here = here
chain_map f h (fore {i = i} {j = j} r c) = fore (h i j r) (chain_map f h c)
chain_map f h (back {i = i} {j = j} r c) = back (h j i r) (chain_map f h c)

-- a chain where there are more pairs
pub chain_more : {R S : ℕ → ℕ → Type 0} → ((i j : ℕ) → R i j → S i j) → {i j : ℕ} → Chain R i j → Chain S i j
chain_more h c = chain_map (λ i. i) h c

-- chains one after the other
pub chain_trans : {R : ℕ → ℕ → Type 0} {i j k : ℕ} → Chain R i j → Chain R j k → Chain R i k
chain_trans here d = d
chain_trans (fore r c) d = fore r (chain_trans c d)
chain_trans (back r c) d = back r (chain_trans c d)

-- a chain turned round
pub chain_sym : {R : ℕ → ℕ → Type 0} {i j : ℕ} → Chain R i j → Chain R j i
chain_sym here = here
chain_sym (fore r c) = chain_trans (chain_sym c) (back r here)
chain_sym (back r c) = chain_trans (chain_sym c) (fore r here)
