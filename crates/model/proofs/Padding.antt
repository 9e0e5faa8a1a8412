-- A point in 15 places, one coordinate after another. Assumes nothing.
use Rattle.std.proofs.Common.{◌≡◌, ℕ, zero, suc, ◌+◌, ◌-◌, ◌<◌, min, List, ◌++◌, length, get_or, take, drop, set, replicate, refl, ap, ◌∙◌, ap₂, add-one, arith, length-take-le, drop-cons, take-suc}
use native.Mathlib.Nat.{min_comm}
use lib.Ieee.{Float}
use lib.Seq.{append_snoc, set_at}
use Rattle.float.specs.Rounded.{nought}
use Rattle.feature.specs.Feature.{max_dim}
use Rattle.lists.specs.Laws.Rest.{take_min}
use Rattle.model.specs.Point.{padded_of}

drop_replicate : (i n : ℕ) (z : Float) → drop i (replicate n z) ≡ replicate (n - i) z
drop_replicate zero n z = ap (λ (k : ℕ). replicate k z) (let e : n ≡ n - zero = omega arith in e)
drop_replicate (suc i) zero z = ap (λ (k : ℕ). replicate k z) (let e : zero ≡ zero - suc i = omega arith in e)
drop_replicate (suc i) (suc n) z = drop_replicate i n z ∙ ap (λ (k : ℕ). replicate k z) (let e : n - i ≡ suc n - suc i = omega arith in e)

pub padded_goes :
    (x : List Float) (i : ℕ) (z : Float) → i < length x → i < max_dim →
    set (take i x ++ drop i (replicate max_dim nought)) i (get_or x i z) ≡ take (i + 1) x ++ drop (i + 1) (replicate max_dim nought)
padded_goes x i z h g =
    let room : i < length (replicate max_dim nought) = g in
    let size : length (take i x) ≡ i = length-take-le i x (omega arith) in
    rw (add-one, drop-cons (replicate max_dim nought) i z room, take-suc x i z h, append_snoc (take i x) (get_or x i z))
    (set_at (take i x) _ _ (get_or x i z) i size)

pub padded_ends : (x : List Float) (i : ℕ) → i ≡ min (length x) max_dim → take i x ++ drop i (replicate max_dim nought) ≡ padded_of x
padded_ends x i e =
    ap₂ (λ (a b : List Float). a ++ b) (ap (λ (m : ℕ). take m x) (e ∙ min_comm (length x) max_dim) ∙ take_min max_dim (length x) x refl)
    (drop_replicate i max_dim nought ∙ ap (λ (k : ℕ). replicate k nought) (let s : max_dim - i ≡ max_dim - length x = omega arith in s))
