-- `double_text` meets its contract. Assumes nothing.
use Rattle.std.proofs.Common.{◌≡◌, ℕ, zero, suc, ◌+◌, ◌-◌, ◌/◌, ◌%◌, ◌^◌, ◌≤◌, ◌<◌, Ok, Err, Result, MatchResult, IsOk, T, sym, subst, rules, arith}
use native.Mathlib.Nat.{pow-le-pow_right}
use Rattle.std.proofs.lemmas.Result.{MatchResult-at_ok}
use Rattle.std.proofs.lemmas.Str.{IsUtf8-from_ascii}
use Rattle.std.proofs.lemmas.Str.Ascii.{IsAscii-nil, IsAscii-push}
use Rattle.std.specs.Str.{IsUtf8, IsAscii}
use lib.Ieee.{binary64, to_bits}
use lib.Ieee.Bits.{to_bits-lt}
use Rattle.io.specs.Digits.{last_digits, hex_digit_ascii, IsDigitCount}
use Rattle.words.proofs.text.double_text.Goals as goal

-- 16 digits hold every word
sixteen : (n r : ℕ) → n < 2 ^ 64 → IsDigitCount 16 16 n r → r ≡ 16
sixteen n r h f = go (r - 16) (omega (arith, f.0))
  where
    go : (k : ℕ) → r ≡ 16 + k → r ≡ 16
    go zero e = omega arith
    go (suc k) e =
        let o : 16 < r = omega arith in
        let l : 16 ≤ r - 1 = omega arith in
        let p : 16 ^ 16 ≤ 16 ^ (r - 1) = pow-le-pow_right (omega arith) l in
        absurd (omega (arith, f.2 o, p))

ascii_digit : (d : ℕ) → d < 16 → hex_digit_ascii d < 128
ascii_digit d h = grind arith

ascii : (k n : ℕ) → IsAscii (last_digits 16 k n)
ascii zero n = IsAscii-nil
ascii (suc k) n = IsAscii-push (last_digits 16 k (n / 16)) (hex_digit_ascii (n % 16)) (ascii k (n / 16)) (ascii_digit (n % 16) (omega arith))

no_error : {T E : Type 0} (r : Result T E) (P : T → Type 0) (Q : E → Type 0) → MatchResult r P Q → ((e : E) → Q e → ⊥) → IsOk r
no_error (Ok x) P Q m none = search rules
no_error (Err e) P Q m none = absurd (none e m)

pub unwrap-requires : goal.unwrap-requires
unwrap-requires c =
    let text = IsUtf8-from_ascii _ (ascii c.hex-n.result (to_bits binary64 c.args.x)) in
    no_error c.from_utf8.result _ _ c.from_utf8.ensures.cases (λ e q. q.0 (subst IsUtf8 (sym c.hex-n.ensures.digits) text))

pub returns : goal.returns
returns c =
    let n = sixteen (to_bits binary64 c.args.x) c.hex-n.result (to_bits-lt binary64 c.args.x (subst T (sym c.well_formed.0.1) tt)) c.hex-n.ensures.len in
    let text = (MatchResult-at_ok _ _ c.unwrap.result c.unwrap.ensures c.from_utf8.ensures.cases).0 in
    rw (c.push_str-2.ensures.bytes, c.new-text.ensures, text, c.hex-n.ensures.digits, n, ← c.if-is_nan.ensures.value)
