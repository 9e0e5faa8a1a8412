-- `new` meets its contract: a list that has k at each k is the table of the definition. Assumes nothing.
use Prim.Native.Nat.{ℕ}
use mathlib.Core.Path.{◌≡◌, sym, ap, ◌∙◌, subst}
use mathlib.Core.List.{List}
use native.Mathlib.Omega.{arith}
use lib.ListN.{replicate}
use lib.Seq.{ext_get_or}
use Rattle.std.proofs.Common.{rules}
use Rattle.union_find.specs.Forest.{places, new_of, table}
use Rattle.union_find.specs.Inside.WellFormed.{WellFormed}
use Rattle.union_find.specs.Laws.Union.{table_length, table_at, new_law}
use Rattle.union_find.proofs.forest.UnionFind.new.Goals.{After-from_fn}
use Rattle.union_find.proofs.forest.UnionFind.new.Goals as goal

tabled : (c : goal.After-from_fn) → c.from_fn.result ≡ table places (λ (i : ℕ). i)
tabled c =
    let made = c.from_fn.ensures.items in
    ext_get_or 0 c.from_fn.result (table places (λ (i : ℕ). i)) (made.long ∙ sym (table_length places (λ i. i)))
    (λ k h. let called = made.at k 0 (omega (arith, made.long)) in (search rules) ∙ sym (table_at places (λ i. i) 0 k (omega (arith, made.long))))

pub invariant_of-result : goal.invariant_of-result
unfolding new_of
invariant_of-result c = subst (λ (p : List ℕ). WellFormed p (replicate places 0)) (sym (tabled (goal.at.invariant_of-result c).After-from_fn)) new_law

pub returns : goal.returns
unfolding new_of
returns c = ap (λ (p : List ℕ). record { parent = p; rank = replicate places 0 }) (tabled (goal.at.returns c).After-from_fn)
