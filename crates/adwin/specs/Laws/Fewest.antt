-- The fewest values that n buckets hold, with at most 6 in a class; so 2^40 − 1 values never fill the places.
use Rattle.std.specs.Prelude.{◌≡◌, ℕ, zero, suc, ◌+◌, ◌-◌, ◌*◌, ◌/◌, ◌^◌, ◌<◌, ◌≤◌, List, [], ◌∷◌, length, refl}
use Rattle.std.proofs.Common.{ap, ◌∙◌, add-one, arith, lit<}
use Rattle.std.proofs.Math.Logic.{by_cases}
use Rattle.std.proofs.Math.Decide.{dec_lt}
use Rattle.std.proofs.Math.Nat.{pow-le-pow_right}
use Rattle.adwin.specs.Settings.{cap, limit, places}
use Rattle.adwin.specs.Buckets.{Classed}
use Rattle.adwin.specs.History.{values_in}
use Rattle.adwin.specs.Laws.Stacked.{Stacked, none, same, next}

-- six of each class, from 0 on
unfoldable pub fewest : ℕ → ℕ
fewest zero = 0
fewest (suc n) = fewest n + 2 ^ (n / cap)

at : (m n : ℕ) → m ≡ n → fewest m ≡ fewest n
at m n e = ap fewest e

one_more : (m n : ℕ) → m ≡ n + 1 → fewest m ≡ fewest n + 2 ^ (n / cap)
unfolding fewest
one_more m n e = ap fewest (e ∙ add-one n)

-- later buckets add no fewer
grows : (n m j : ℕ) → n ≤ m → fewest (n + j) + fewest m ≤ fewest (m + j) + fewest n
grows n m zero h = omega (arith, at (n + 0) n (omega arith), at (m + 0) m (omega arith))
grows n m (suc j) h =
    let d : (n + j) / cap ≤ (m + j) / cap = omega arith in
    let p : 2 ^ ((n + j) / cap) ≤ 2 ^ ((m + j) / cap) = pow-le-pow_right (omega arith) d in
    omega (arith, grows n m j h, one_more (n + suc j) (n + j) (omega arith), one_more (m + suc j) (m + j) (omega arith))

rises : (n j : ℕ) → fewest n ≤ fewest (n + j)
rises n zero = omega (arith, at (n + 0) n (omega arith))
rises n (suc j) = omega (arith, rises n j, one_more (n + suc j) (n + j) (omega arith))

in_class : (c k : ℕ) → k < cap → fewest (cap * c + k + 1) ≡ fewest (cap * c + k) + 2 ^ c
in_class c k h = let d : (cap * c + k) / cap ≡ c = omega arith in one_more (cap * c + k + 1) (cap * c + k) refl ∙ ap (λ (i : ℕ). fewest (cap * c + k) + 2 ^ i) d

-- stacked buckets hold at least as many values as `fewest` says
pub holds_fewest : {c k : ℕ} (l : List Classed) → k ≤ cap → Stacked c k l → fewest (cap * c + k + length l) ≤ fewest (cap * c + k) + values_in l
holds_fewest {c} {k} [] h none = omega (arith, at (cap * c + k + 0) (cap * c + k) (omega arith))
holds_fewest {c} {k} (b ∷ l) h (same e g s) =
    let i : fewest (cap * c + suc k + length l) ≤ fewest (cap * c + suc k) + values_in l = holds_fewest l (omega arith) s in
    let u : 2 ^ b.class ≡ 2 ^ c = ap (λ (j : ℕ). 2 ^ j) e in
    omega (
      arith,
      in_class c k g,
      at (cap * c + suc k) (cap * c + k + 1) (omega arith),
      at (cap * c + suc k + length l)
          (cap * c + k + suc (length l)) (omega arith),
    )
holds_fewest {c} {k} (b ∷ l) h (next g s) =
    let d = b.class in
    let i : fewest (cap * d + 1 + length l) ≤ fewest (cap * d + 1) + values_in l = holds_fewest l (omega arith) s in
    omega (
      arith,
      in_class d 0 (omega arith),
      at (cap * d + 0) (cap * d) (omega arith),
      at (cap * d + 0 + 1) (cap * d + 1) (omega arith),
      at (cap * d + 1 + length l) (cap * d + suc (length l)) (omega arith),
      grows (cap * c + k) (cap * d) (suc (length l)) (omega arith),
    )

-- no list of buckets of no more values than the limit fills the places
pub not_full : (l : List Classed) → Stacked 0 0 l → values_in l ≤ limit → length l < places
unfolding fewest
not_full l s h =
    by_cases (dec_lt (length l) places) (λ e. e)
    (λ e. absurd (let i : fewest (cap * 0 + 0 + length l) ≤ fewest (cap * 0 + 0) + values_in l = holds_fewest l (omega arith) s in
    let j : limit < fewest places = lit< tt in
    let z : fewest (cap * 0 + 0) ≡ 0 = refl in
    omega (arith, rises places (length l - places), at (places + (length l - places)) (cap * 0 + 0 + length l) (omega arith))))
