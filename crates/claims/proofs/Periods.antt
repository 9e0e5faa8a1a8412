-- The period of a stream that opens is whole, and so a multiple of it is what the remainder of doubles says.
use Prim.Native.Nat.{ℕ, ◌+◌, ◌-◌, ◌^◌, ◌≤◌}
use mathlib.Core.Path.{◌≡◌, refl, ap}
use mathlib.Core.Bool.{true, false}
use native.Mathlib.Omega.{arith}
use lib.Ieee.{Float, binary64, neg, lt, eq, rem}
use Rattle.float.specs.Rounded.{◌⊕◌, ◌⊖◌, ◌⊗◌, nought, one, whole, Exact}
use Rattle.float.specs.TwoTo.{two_to}
use Rattle.float.specs.Laws.Whole.{add_is, exactly}
use Rattle.model.specs.Limits.{clock_most}
use Rattle.model.specs.Answers.{is_open}
use Rattle.model.specs.Questions.{lambda_in_range}
use Rattle.model.specs.Fading.{is_multiple}
use Rattle.model.specs.Laws.Tick.{multiple_of_doubles}
use Rattle.model.specs.Periods.{bm_of, Period}
use Rattle.model.specs.Laws.Periods.{t_gap_whole}
use Rattle.model.specs.Laws.Tp.{tp_whole, divisor_some}
use Rattle.model.specs.Stream.{asked}
use Rattle.model.specs.Laws.Open.{opens_yes}
use Rattle.model.specs.DbState as db
use Rattle.model.specs.Dbstream.{dbstream}
use Rattle.model.specs.DenState as den
use Rattle.model.specs.Denstream.{denstream}
use Rattle.claims.specs.Clock.{Counts, Dated}
use Rattle.std.specs.Prelude.{Ok}

-- an accepted opening answered yes to every question: of DBSTREAM, the third
db_lambda : (p : db.Settings) → asked dbstream p ≡ Ok tt → lambda_in_range p.lambda ≡ true
db_lambda p e = (opens_yes dbstream p (refl, (refl, (refl, (refl, (refl, tt))))) (ap is_open e)).1.1.0

-- of DenStream, the third and the last
den_yes : (p : den.Settings) → asked denstream p ≡ Ok tt → (lambda_in_range p.lambda ≡ true) × (lt one (bm_of p.beta p.mu) ≡ true)
den_yes p e =
    let r = opens_yes denstream p (refl, (refl, (refl, (refl, (refl, (refl, tt)))))) (ap is_open e) in
    (r.1.1.0, r.1.1.1.1.1.0)

-- t_gap of an accepted DBSTREAM
pub gap_whole : (p : db.Settings) → asked dbstream p ≡ Ok tt → Period (2 ^ 32) (db.params_of p).t_gap
gap_whole p e = t_gap_whole p.lambda (db_lambda p e)

-- tp of an accepted DenStream
pub prune_whole : (p : den.Settings) → asked denstream p ≡ Ok tt → Period (2 ^ 38) (den.params_of p).tp
prune_whole p e = tp_whole p.lambda p.beta p.mu (den_yes p e).0 (den_yes p e).1

-- and what outliers need divides by no 0
pub divides : (p : den.Settings) → asked denstream p ≡ Ok tt → eq (two_to (neg p.lambda ⊗ (den.params_of p).tp) ⊖ one) nought ≡ false
divides p e = divisor_some p.lambda p.beta p.mu (den_yes p e).0 (den_yes p e).1

-- of either stream
pub due_is :
    {b : ℕ} {period : Float} →
    b ≤ 2 ^ 53 →
    Period b period →
    (n : ℕ) (t : Float) →
    Counts n t →
    is_multiple t period ≡ eq (rem binary64 t period) nought
due_is {b} {period} B g n t c =
    let h : n ≤ clock_most = c.limit in
    let l : g.ticks ≤ b = g.most in
    multiple_of_doubles t period n g.ticks (omega arith) g.some (omega arith) c.exact.value g.is

-- the time that an outlier's need goes by is a sum of whole doubles
pub need_exact :
    {tp : Float} (period : Period (2 ^ 38) tp) (n : ℕ) (t0 : Float) (born : Dated n t0) (m : ℕ) →
    n ≤ m →
    m ≤ clock_most →
    Exact (m - born.tick + period.ticks) (whole m ⊖ t0 ⊕ tp)
need_exact {tp} period n t0 born m h l =
    let b : period.ticks ≤ 2 ^ 38 = period.most in
    let age : Exact (m - born.tick) (whole m ⊖ t0) = born.age m h l in
    exactly (m - born.tick + period.ticks) (whole m ⊖ t0 ⊕ tp) (add_is (whole m ⊖ t0) tp (m - born.tick) period.ticks age.value period.is)
    (omega arith)
