-- `Spherical::push` meets its contract. Assumes nothing.
use Rattle.std.proofs.Common.{rules, refl, sym, ap, ◌∙◌, ◌≡◌, ◌<◌, ◌≤◌, arith, length, length-set, min, List, Float}
use Rattle.std.proofs.lemmas.List.{get_or-take}
use lib.Ieee.{nan}
use Rattle.lists.specs.Laws.Rest.{rest_start}
use Rattle.feature.specs.Distance.{sq_dist}
use Rattle.feature.specs.Feature.{moved}
use Rattle.feature.specs.Laws.Turns.{moved_step, gaps_step, moved_end, gaps_end, moved_cut, sum_cut}
use Rattle.feature.proofs.spherical.Spherical.push.Goals as goal

pub loop-i-init : goal.loop-i-init
loop-i-init c =
    let m = c.args.self.mean in
    let x = c.args.x.now in
    let k = c.min-k.result in
    let lm : length m ≡ 15 = search rules in
    let h : k ≡ min (length x) (length m) = rw lm c.min-k.ensures in (
      lm,
      refl,
      refl,
      ap (moved _ m) (rest_start k x) ∙ moved_cut _ k m x h,
      ap (λ (l : List Float). sq_dist l m) (rest_start k x) ∙ sum_cut _ k x m h,
    )

pub loop-i-preserved : goal.loop-i-preserved
loop-i-preserved c =
    let s = c.loop-i in
    let x = c.args.x.now in
    let n = c.min-k.result in
    let q = s.invariant in
    let h : s.i < n = search rules in
    let lm : n ≤ length s.self.mean = omega arith in
    let lx : n ≤ length x = omega arith in
    rw (get_or-take n x s.i nan h) (
      simp length-set q.0,
      q.1,
      q.2,
      moved_step n s.i s.self.mean x h lm lx _ _ refl ∙ q.3,
      gaps_step n s.i s.self.mean x h lm lx _ s.n ∙ q.4,
    )

pub returns : goal.returns
returns c =
    let s = c.loop-i in
    let x = c.args.x.now in
    let n = c.min-k.result in
    let q = s.invariant in
    let h : n ≤ s.i = search rules in
    let e : s.self.mean ≡ moved _ c.args.self.mean x = sym (moved_end n s.i s.self.mean x h _) ∙ q.3 in
    let g : s.n ≡ sq_dist x c.args.self.mean = sym (gaps_end n s.i s.self.mean x h s.n) ∙ q.4 in
    rw (e, g, q.2)
