-- No creation number is used twice.
use Prim.Native.Nat.{ℕ, ◌+◌, ◌<◌, ◌≤◌}
use mathlib.Core.Path.{◌≡◌, sym, ap, ◌∙◌, subst}
use mathlib.Core.Logic.{⊎_elim}
use mathlib.Core.Bool.{true}
use mathlib.Core.List.{List, [], ◌∷◌, ◌++◌}
use native.Mathlib.Omega.{arith}
use lib.Ieee.{Float}
use Rattle.float.specs.Rounded.{◌⊕◌, one}
use Rattle.model.specs.declared.micro.MicroId.{MicroId}
use Rattle.model.specs.declared.micro.DbMicro.{DbMicro}
use Rattle.model.specs.Limits.{clock_most}
use Rattle.model.specs.Run.{run_of, accepted_in}
use Rattle.model.specs.DbState.{Settings, Holdings, State}
use Rattle.model.specs.DbInsert.{newborn, absorbed, micro_stays, born, joined, placed, nearest_for}
use Rattle.model.specs.Dbstream.{dbstream, fresh, taken_of, has_place, insert_of}
use Rattle.model.specs.Stream.{taking}
use Rattle.model.proofs.Laws.Stream.{tick_cases}
use Rattle.claims.specs.Clock.{Counts}
use Rattle.claims.specs.DbClaims.{Live, after, told}
use Rattle.claims.proofs.Order.{in_retain, map_in, append_in}
use Rattle.claims.proofs.Runs.{run_append, run_keeps, clock_counts}
use Rattle.claims.proofs.DbCases.{placed_cases}
use Rattle.claims.proofs.DbFresh.{Numbered, absorbed_id, numbered_taken, numbered_run}

-- the next number doesn't fall, and a live one below h's next was live in h
record Onward (h u : Holdings) : Type 0 where
  next : h.next ≤ u.next
  old : (a : ℕ) → a < h.next → Live u.micros a → Live h.micros a

onward_joined : (s : State) (x : List Float) → Onward s.held (joined s x)
onward_joined s x =
    record {
      next = omega arith;
      old = λ a h l. let m = map_in (absorbed s.params.settings.r s.params.settings.lambda s.t x) s.held.micros l.0 l.1 in (
        m.0,
        m.1,
        ap (λ (i : MicroId). i.0) (sym (absorbed_id s.params.settings.r s.params.settings.lambda s.t x m.0))
            ∙ ap (λ (u : DbMicro). u.id.0) (sym m.2) ∙ l.2,
      );
    }

onward_born : (n : ℕ) (s : State) (x : List Float) → Numbered n s.held → n ≤ clock_most → Onward s.held (born s x)
onward_born n s x f small =
    record {
      next = (let a : s.held.next ≤ n = f.next_limit in omega arith);
      old = λ a h l. ⊎_elim (λ i. (l.0, i, l.2))
          (λ i. ⊎_elim (λ (e : l.0 ≡ new). absurd (let q : s.held.next ≡ a = ap (λ (m : DbMicro). m.id.0) (sym e) ∙ l.2 in omega arith))
          (λ j. absurd j) i)
          (append_in l.0 s.held.micros (new ∷ []) l.1);
    }
  where
    new : DbMicro
    new = newborn s.params.settings.dim (record { 0 = s.held.next }) s.t x

onward_taken : (n : ℕ) (s : State) (x : List Float) → Numbered n s.held → n ≤ clock_most → Onward s.held (taken_of s x).held
onward_taken n s x f small =
    tick_cases dbstream (taking s (placed s x)) (nearest_for s x) (λ (u : State). Onward s.held u.held)
    (record {
      next = o.next;
      old = λ a h l.
          let there = in_retain (micro_stays s.params.settings.lambda s.params.floor (s.t ⊕ one)) (placed s x).micros l.0 l.1 in
          o.old a h (l.0, there, l.2);
    }) o
  where
    o : Onward s.held (placed s x)
    o = placed_cases (Onward s.held) s x (λ q. onward_joined s x) (λ q. onward_born n s x f small)

-- and so through a run
module _ (g : Holdings) where
  record Since (n : ℕ) (s : State) : Type 0 where
    numbered : Numbered n s.held
    onward : Onward g s.held

  since_taken : (n : ℕ) (s : State) (x : List Float) → Counts n s.t → has_place s x ≡ true → Since n s → Since (n + 1) (taken_of s x)
  since_taken n s x c e h =
      let o : Onward g s.held = h.onward in
      let r : Onward s.held (taken_of s x).held = onward_taken n s x h.numbered c.limit in
      record {
        numbered = numbered_taken n s x c.limit h.numbered;
        onward = record { next = omega (arith, o.next, r.next); old = λ a b l. o.old a b (r.old a (omega (arith, o.next)) l) };
      }

-- the claim, of any split of the list of inserts
pub never_reused_lem :
    (p : Settings) (xs earlier later : List (List Float)) →
    earlier ++ later ≡ xs →
    (a : ℕ) →
    a < (after p earlier).held.next →
    Live (after p xs).held.micros a →
    Live (after p earlier).held.micros a
never_reused_lem p xs earlier later e a h l =
    (run_keeps dbstream has_place (Since s) (since_taken s) later n (after p earlier) (clock_counts dbstream has_place p earlier)
    (record { numbered = numbered_run p earlier; onward = record { next = omega arith; old = λ a h l. l } })).1.onward.old a h
    (subst (λ (u : State). Live u.held.micros a) (ap (run_of insert_of (fresh p)) (sym e) ∙ run_append insert_of earlier later (fresh p)) l)
  where
    s : Holdings
    s = (after p earlier).held

    n : ℕ
    n = accepted_in (told p earlier)
