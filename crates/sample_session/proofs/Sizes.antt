-- How many bytes the session has: the room takes them all. Assumes nothing.
use Prim.Native.Nat.{ℕ, zero, suc, ◌+◌, ◌*◌, ◌^◌, ◌<◌}
use mathlib.Core.Path.{◌≡◌, refl}
use mathlib.Core.List.{List, ◌++◌}
use Rattle.std.specs.Prelude.{fold}
use native.Mathlib.Nat.{le_of_lt, lt_of_le_of_lt, mul-le-mul_left, mul-lt-mul_of_pos_right}
use native.Mathlib.Omega.{arith}
use lib.ListN.{length, length-append}
use lib.Pow.{pow_pos}
use Rattle.text.specs.Text.{each}
use Rattle.sample_session.specs.declared.Phase.{Phase}
use Rattle.sample_session.specs.Sample.{phase_of, word_bytes, reading_bytes, phase_bytes, settings_bytes, sample_bytes}

-- a product of two 32-bit numbers has 64 bits
pub product : (a b : ℕ) → a < 2 ^ 32 → b < 2 ^ 32 → a * b < 2 ^ 64
product a b h k = lt_of_le_of_lt (mul-le-mul_left a (le_of_lt k)) (mul-lt-mul_of_pos_right h (pow_pos 32))

reading_size : (p : Phase) (i : ℕ) → length (reading_bytes p i) ≡ 24
unfolding word_bytes
reading_size p i = refl

each_size : (p : Phase) (n : ℕ) → length (each (reading_bytes p) n) ≡ 24 * n
unfolding each
each_size p zero = refl
each_size p (suc n) =
    omega (arith, length-append (each (reading_bytes p) n) (reading_bytes p n), each_size p n, reading_size p n)

pub record Long (l : List ℕ) (n : ℕ) : Type 0 where
  pub is : length l ≡ n

settings_size : Long settings_bytes 40
unfolding word_bytes
settings_size = record { is = refl }

after : {l : List ℕ} {n : ℕ} → Long l n → (p : Phase) → Long (l ++ phase_bytes p) (n + 24 * p.count)
after {l} {n} e p =
    let a : length (l ++ phase_bytes p) ≡ length l + length (phase_bytes p) = length-append l (phase_bytes p) in
    record { is = omega (arith, a, e.is, each_size p p.count) }

pub size : Long sample_bytes 8536
unfolding sample_bytes
size =
    after
    (after
    (after
    (after
    (after
    (after (after (after settings_size (phase_of 96 4 0 285 2 2 0)) (phase_of 32 0 28 215 15 2 0)) (phase_of 32 0 16 215 15 2 0))
    (phase_of 32 0 22 215 15 2 0))
    (phase_of 64 35 0 190 30 2 0))
    (phase_of 1 0 44 225 9 0 0))
    (phase_of 1 18 0 200 24 0 0))
    (phase_of 96 4 0 285 2 8 3)

-- the settings, and the readings of phases
abbrev pub through : List Phase → List ℕ
through phases = fold (λ (l : List ℕ) (p : Phase). l ++ phase_bytes p) settings_bytes phases
