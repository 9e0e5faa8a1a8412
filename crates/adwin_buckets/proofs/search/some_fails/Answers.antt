-- `some_fails` meets its contract. Assumes nothing.
use Rattle.std.proofs.Common.{◌≡◌, ℕ, ◌+◌, ◌<◌, Bool, true, false, cond, List, drop, get_or, length, sym, ◌∙◌, arith}
use Rattle.std.proofs.lemmas.List.{at_drop_more, at_drop_all}
use lib.Ieee.{Float}
use Rattle.float.specs.Rounded.{◌⊕◌}
use Rattle.adwin_buckets.specs.declared.bucket.Bucket.{Bucket}
use Rattle.adwin_buckets.specs.declared.cut.CutTest.{CutTest}
use Rattle.adwin_buckets.specs.Cut.{cut_fails, some_fails}
use Rattle.adwin_buckets.proofs.search.some_fails.Goals as goal

-- past the bucket at i, where the cut after it fails or not
past :
    (c : CutTest) (n t : Float) (l : List Bucket) (i : ℕ) (d : Bucket) (f : Bool) →
    i < length l →
    f ≡ cut_fails c (n ⊕ (get_or l i d).size) (t ⊕ (get_or l i d).total) →
    some_fails c n t (drop i l) ≡ cond f true (some_fails c (n ⊕ (get_or l i d).size) (t ⊕ (get_or l i d).total) (drop (i + 1) l))
unfolding some_fails
past c n t l i d f h e = rw e (at_drop_more (some_fails c n t) l i d h)

pub returns-then-fails : goal.returns-then-fails
returns-then-fails c =
    let l = c.loop-b in
    sym (past c.args.test l.n0 l.t0 c.args.buckets.now l.b-index _ true c.loop-b-test.true (sym c.if-fails.true ∙ c.fails.ensures)) ∙ l.invariant

pub loop-b-preserved : goal.loop-b-preserved
loop-b-preserved c =
    let l = c.loop-b in
    sym (past c.args.test l.n0 l.t0 c.args.buckets.now l.b-index _ false c.loop-b-test.true (sym c.if-fails.false ∙ c.fails.ensures)) ∙ l.invariant

pub returns : goal.returns
unfolding some_fails
returns c =
    let l = c.loop-b in
    sym (at_drop_all (some_fails c.args.test l.n0 l.t0) c.args.buckets.now l.b-index (omega arith)) ∙ l.invariant
