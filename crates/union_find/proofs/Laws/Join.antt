-- The two ways of a join, of its forest and of its finds; it keeps the forest sound. Assumes nothing.
use Rattle.std.specs.Prelude.{ℕ, ◌<◌, ◌≤◌, ◌≡◌, true, false, ◌&&◌, [], ltb}
use Rattle.std.proofs.Common.{sym, subst, arith, lt-ltb, le-ltb}
use Rattle.std.proofs.Math.Logic.{by_cases}
use Rattle.std.proofs.Math.Decide.{dec_lt}
use Rattle.union_find.specs.declared.forest.UnionFind.{UnionFind}
use Rattle.union_find.specs.Forest.{places, union_of, join_of}
use Rattle.union_find.specs.Steps.{union_steps, join_steps}
use Rattle.union_find.specs.Inside.WellFormed.{Sound}
use Rattle.union_find.specs.Laws.Union.{union_law}

module _ (n : ℕ) (e : ℕ × ℕ) where
  within : e.0 < n → e.1 < n → (ltb e.0 n && ltb e.1 n) ≡ true
  within ha hb = simp (lt-ltb e.0 n ha, lt-ltb e.1 n hb)

  past : (e.0 < n → e.1 < n → ⊥) → (ltb e.0 n && ltb e.1 n) ≡ false
  past h =
      by_cases (dec_lt e.0 n) (λ ha. simp (lt-ltb e.0 n ha, le-ltb e.1 n (by_cases (dec_lt e.1 n) (λ hb. absurd (h ha hb)) (λ hb. omega arith))))
      (λ ha. simp (le-ltb e.0 n (omega arith)))

module _ (n : ℕ) (u : UnionFind) (e : ℕ × ℕ) where
  -- both places are below n
  pub join_in : e.0 < n → e.1 < n → join_of n u e ≡ union_of u e.0 e.1
  unfolding join_of
  join_in ha hb = rw (within n e ha hb)

  pub steps_in : e.0 < n → e.1 < n → join_steps n u e ≡ union_steps u e.0 e.1
  unfolding join_steps
  steps_in ha hb = rw (within n e ha hb)

  -- a pair with a place past n joins nothing
  pub join_out : (e.0 < n → e.1 < n → ⊥) → join_of n u e ≡ u
  unfolding join_of
  join_out h = rw (past n e h)

  pub steps_out : (e.0 < n → e.1 < n → ⊥) → join_steps n u e ≡ []
  unfolding join_steps
  steps_out h = rw (past n e h)

  -- either way the forest stays sound
  pub join_sound : n ≤ places → Sound u → Sound (join_of n u e)
  join_sound hn s =
      by_cases (dec_lt e.0 n)
      (λ ha.
      by_cases (dec_lt e.1 n) (λ hb. subst Sound (sym (join_in ha hb)) (union_law u s e.0 e.1 (omega arith) (omega arith)).sound)
      (λ hb. subst Sound (sym (join_out (λ ga gb. hb gb))) s))
      (λ ha. subst Sound (sym (join_out (λ ga gb. ha ga))) s)
