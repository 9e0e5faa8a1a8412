-- A word from the bytes that are there, zeros past them. Assumes nothing.
use Rattle.std.proofs.Common.{◌≡◌, ℕ, zero, suc, ◌+◌, ◌-◌, ◌*◌, ◌≤◌, ◌<◌, List, [], ◌∷◌, ◌++◌, min, length, take, drop, replicate, get_or, length-take, add_assoc, add-zero, refl, sym, ap, ◌∙◌, arith}
use Rattle.std.proofs.Math.Logic.{by_cases}
use Rattle.std.proofs.Math.Decide.{dec_lt}
use Rattle.std.proofs.lemmas.List.{get_or-take, get_or-drop}
use Rattle.std.specs.Int.{from_le_bytes}
use mir.Syntax.{w64}
use Rattle.words.specs.Word.{little_endian, word_at}

pub get_d_past : (bytes : List ℕ) (at : ℕ) → length bytes ≤ at → get_or bytes at 0 ≡ 0
get_d_past [] at h = refl
get_d_past (b ∷ bytes) zero h = absurd (omega arith)
get_d_past (b ∷ bytes) (suc at) h = get_d_past bytes at (omega arith)

pub word_past : (n : ℕ) (bytes : List ℕ) (at : ℕ) → length bytes ≤ at → little_endian n bytes at ≡ 0
unfolding little_endian
word_past zero bytes at h = refl
word_past (suc n) bytes at h = let l : length bytes ≤ at + 1 = omega arith in rw (get_d_past bytes at h, word_past n bytes (at + 1) l)

abbrev none : ℕ → List ℕ
none n = replicate n 0

zeros : (n k : ℕ) → ◌≡◌ {A = ℕ} (get_or (none n) k 0) 0
zeros zero k = refl
zeros (suc n) zero = refl
zeros (suc n) (suc k) = zeros n k

fewer : (n m : ℕ) → drop n (none m) ≡ none (m - n)
fewer zero m = ap none (omega arith)
fewer (suc n) zero = let e : 0 ≡ 0 - suc n = omega arith in ap none e
fewer (suc n) (suc m) = fewer n m ∙ ap none (omega arith)

padded : (bytes : List ℕ) (n k : ℕ) → get_or (bytes ++ none n) k 0 ≡ get_or bytes k 0
padded [] n k = zeros n k
padded (b ∷ bytes) n zero = refl
padded (b ∷ bytes) n (suc k) = padded bytes n k

-- the first eight bytes of the rest, and zeros where it has fewer
place : (rest : List ℕ) (n k : ℕ) → n ≡ min (length rest) 8 → k < 8 → get_or (take n rest ++ drop n (none 8)) k 0 ≡ get_or rest k 0
place rest n k e h =
    ap (λ (zs : List ℕ). get_or (take n rest ++ zs) k 0) (fewer n 8)
    ∙ padded (take n rest) (8 - n) k
    ∙ by_cases (dec_lt k n)
    (λ l. get_or-take n rest k 0 l)
    (λ l. get_d_past (take n rest) k (omega (arith, length-take n rest)) ∙ sym (get_d_past rest k (omega arith)))

worth : (word rest : List ℕ) → ((k : ℕ) → k < 8 → get_or word k 0 ≡ get_or rest k 0) → from_le_bytes w64 word ≡ from_le_bytes w64 rest
worth word rest h =
    rw (h 0 (omega arith), h 1 (omega arith), h 2 (omega arith), h 3 (omega arith), h 4 (omega arith), h 5 (omega arith), h 6 (omega arith), h 7 (omega arith))

-- the word by its bytes' worth
by_worth : (bytes : List ℕ) (at : ℕ) → from_le_bytes w64 (drop at bytes) ≡ word_at bytes at
unfolding little_endian
by_worth bytes at =
    let e : word_at bytes at ≡ get_or bytes at 0 + 256 * (get_or bytes (at + 1) 0 + 256 * (get_or bytes (at + 2) 0 + 256 * (get_or bytes (at + 3) 0 + 256 * (get_or bytes (at + 4) 0 + 256 * (get_or bytes (at + 5) 0 + 256 * (get_or bytes (at + 6) 0 + 256 * get_or bytes (at + 7) 0)))))) = simp add_assoc (omega arith) in
    simp (get_or-drop, add-zero) (omega (arith, e))

pub here :
    (word copied rest bytes : List ℕ) (at n : ℕ) →
    n ≡ min (length rest) 8 →
    copied ≡ take n rest →
    word ≡ copied ++ drop n (none 8) →
    rest ≡ drop at bytes →
    from_le_bytes w64 word ≡ word_at bytes at
here word copied rest bytes at n e c w r =
    ap (from_le_bytes w64) (w ∙ ap (λ (f : List ℕ). f ++ drop n (none 8)) c)
    ∙ worth (take n rest ++ drop n (none 8)) rest (λ (k : ℕ) (h : k < 8). place rest n k e h)
    ∙ ap (from_le_bytes w64) r
    ∙ by_worth bytes at

pub beyond : (bytes : List ℕ) (at : ℕ) → length bytes < at → from_le_bytes w64 (none 8) ≡ word_at bytes at
beyond bytes at h = sym (word_past 8 bytes at (omega (arith, h)))
