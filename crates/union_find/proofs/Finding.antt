-- Where the loop of `find` stands. Assumes nothing.
use Prim.Native.Nat.{ℕ, zero, suc, ◌+◌, ◌<◌, ◌≤◌}
use mathlib.Core.Path.{◌≡◌, refl, sym, ap, ap₂, ◌∙◌, subst}
use mathlib.Core.Logic.{◌≢◌, inl}
use mathlib.Core.List.{List}
use native.Mathlib.Omega.{arith}
use native.Mathlib.Numerals.{add-one}
use Rattle.union_find.specs.declared.forest.UnionFind.{UnionFind}
use Rattle.union_find.specs.declared.forest.Reached.{Reached}
use Rattle.union_find.specs.Forest.{places, up, halve, Found, find_from, find_of, link_of, union_of}
use Rattle.union_find.specs.Steps.{union_steps, work_by}
use Rattle.union_find.specs.Inside.Told.{found_told}
use Rattle.union_find.specs.Laws.WellFormed.{halve_well}
use Rattle.union_find.specs.Inside.WellFormed.{Sound}
use Rattle.union_find.specs.Laws.Find.{Finds, find_law, find_stop, find_on, Made, made_few, made_next, steps_less}

-- after so many halving steps from u₀ and x the forest is u, and the find stands at `at`
pub record Turn (u₀ : UnionFind) (x : ℕ) (u : UnionFind) (at steps : ℕ) : Type 0 where
  pub left : ℕ
  pub fuel : left + steps ≡ places
  pub find : find_from left u.parent at steps ≡ find_of u₀.parent x
  pub sound : Sound u
  pub ranks : u.rank ≡ u₀.rank
  pub low : at < places
  pub made : Made u.parent u.rank at steps

-- before the first step
pub turn_start : (u : UnionFind) → Sound u → (x : ℕ) → x < places → Turn u x u x 0
unfolding find_of
turn_start u s x hx = record { left = places; fuel = refl; find = refl; sound = s; ranks = refl; low = hx; made = inl (omega arith) }

module _ {u₀ : UnionFind} {x : ℕ} {u : UnionFind} {at steps : ℕ} (t : Turn u₀ x u at steps) where
  abbrev p : List ℕ
  p = u.parent

  pub turn_up : up p at < places
  turn_up = t.sound.low at t.low

  -- a halving step more
  pub turn_next : up p at ≢ at → Turn u₀ x (record { parent = halve p at; rank = u.rank }) (up p (up p at)) (steps + 1)
  turn_next e = go t.left t.fuel t.find
    where
      go :
          (k : ℕ) → k + steps ≡ places → find_from k p at steps ≡ find_of u₀.parent x →
          Turn u₀ x (record { parent = halve p at; rank = u.rank }) (up p (up p at)) (steps + 1)
      go zero f q = absurd (omega (arith, made_few p u.rank t.sound at steps t.low t.made))
      go (suc k) f q =
          record {
            left = k;
            fuel = omega arith;
            find = ap (λ (s : ℕ). find_from k (halve p at) (up p (up p at)) s) (add-one steps) ∙ sym (find_on k p at steps e) ∙ q;
            sound = halve_well p u.rank t.sound at t.low e;
            ranks = t.ranks;
            low = t.sound.low (up p at) turn_up;
            made = subst (Made (halve p at) u.rank (up p (up p at))) (sym (add-one steps)) (made_next p u.rank t.sound at steps t.low t.made e);
          }

  -- at a root the find is done
  pub turn_end : up p at ≡ at → find_of u₀.parent x ≡ record { parent = p; root = at; steps = steps }
  turn_end e = sym t.find ∙ find_stop t.left p at steps e

  -- the steps made are few
  pub turn_few : steps ≤ 3
  turn_few = made_few p u.rank t.sound at steps t.low t.made

  -- each step leaves one less
  pub turn_less : up p at ≢ at → (find_of (halve p at) (up p (up p at))).steps < (find_of p at).steps
  turn_less e = steps_less p u.rank t.sound at t.low e

-- what a find gives back: f and the forest v
module _
    (u : UnionFind) (s : Sound u) (x : ℕ) (hx : x < places) (f : Reached) (v : UnionFind) (e : found_told v.parent f ≡ find_of u.parent x) where
  found : Finds u.parent u.rank x (found_told v.parent f)
  found = subst (Finds u.parent u.rank x) (sym e) (find_law u.parent u.rank s x hx)

  -- the root found is a place
  pub found_low : f.root < places
  found_low = found.low

  -- and few steps led to it
  pub found_few : f.steps ≤ 3
  found_few = found.few

-- two finds and a link are a union
module _
    (u : UnionFind) (a b : ℕ) (x y : Reached) (v w : UnionFind) (ex : found_told v.parent x ≡ find_of u.parent a) (ev : v.rank ≡ u.rank)
    (ey : found_told w.parent y ≡ find_of v.parent b) (ew : w.rank ≡ v.rank) where
  second : found_told w.parent y ≡ find_of (find_of u.parent a).parent b
  second = ey ∙ ap (λ (f : Found). find_of f.parent b) ex

  pub unioned : (r : UnionFind) → r ≡ link_of w x.root y.root → r ≡ union_of u a b
  unfolding union_of
  unioned r e =
      e ∙ ap (λ (k : List ℕ). link_of (record { parent = w.parent; rank = k }) x.root y.root) (ew ∙ ev)
      ∙ ap₂ (λ (f g : Found). link_of (record { parent = g.parent; rank = u.rank }) f.root g.root) ex second

  -- and the steps are theirs
  pub union_work : record { finds = 2; steps = x.steps + y.steps } ≡ work_by (union_steps u a b)
  union_work =
      let e : x.steps + y.steps ≡ x.steps + (y.steps + 0) = omega arith in
      ap (λ (k : ℕ). record { finds = 2; steps = k }) (e ∙ ap₂ (λ (f g : Found). f.steps + (g.steps + 0)) ex second)
