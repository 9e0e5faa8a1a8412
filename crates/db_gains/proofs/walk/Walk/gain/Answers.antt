-- `gain` meets its contract. Assumes nothing.
use Rattle.std.proofs.Common.{rules, ◌≡◌, ◌+◌, ◌<◌, ◌≤◌, refl, sym, ap, subst, ◌∙◌, ◌++◌, length, take, drop, set, get_or, arith, length-take-le, length-set}
use Rattle.std.proofs.Math.Seq.{take-take}
use Rattle.std.proofs.lemmas.List.{take-set-le}
use Rattle.std.specs.Float.Ieee.{nan}
use Rattle.model.specs.declared.link.Link.{Link}
use Rattle.db_gains.specs.declared.walk.Walk.{Walk}
use Rattle.db_gains.specs.declared.factor.Factor.{Factor}
use Rattle.db_gains.specs.Factor.{Right, factor_of, since_of}
use Rattle.db_gains.specs.Laws.Factor.{gain_by, since_right}
use Rattle.db_gains.specs.Walk.{Ready, front, steps_to}
use Rattle.db_gains.proofs.Walks.{at_place, front_most, walk, ready_there, gained_there, left_there, left_absent, gained_full, gained_new, ready_new, rest_new}
use Rattle.db_gains.proofs.walk.Walk.gain.Goals.{else-at-count-via-then-at-count+else-same_ends, else-at-count-via-else-at-count}
use Rattle.db_gains.proofs.walk.Walk.gain.Goals as goal

-- what a read past the links would give
abbrev unread : Link
unread = record { lo = record { 0 = 0 }; hi = record { 0 = 0 }; value = nan; last = nan }

pub returns-then-same_ends-clause-walk : goal.returns-then-same_ends-clause-walk
returns-then-same_ends-clause-walk c =
    let a = c.args in
    let xs = a.links.now in
    let fits : a.count ≤ length xs = omega (arith, c.told-links, c.requires.few) in
    let found = ap (λ (w : Walk). w.at) c.seek.ensures in
    let left = left_there a.key a.lambda a.t a.count xs c.seek.new.self.at fits found unread c.if-at-count.true a.self.now.factor (search rules) in
    ap (λ (w : Walk). walk w.key w.at w.steps c.since-fade.new.self) c.seek.ensures
    ∙ ap (walk a.key (front a.key (take a.count xs)) (steps_to a.self.now a.key (take a.count xs)))
    (c.since-fade.ensures.kept ∙ ap (λ (w : Walk). since_of a.lambda a.t w.factor (get_or xs c.seek.new.self.at unread).last) c.seek.ensures ∙ sym left)

pub returns-then-same_ends-clause-ready : goal.returns-then-same_ends-clause-ready
returns-then-same_ends-clause-ready c =
    let a = c.args in
    let xs = a.links.now in
    let n = a.count in
    let at = c.seek.new.self.at in
    let fits : n ≤ length xs = omega (arith, c.told-links, c.requires.few) in
    let v = c.gained.result in
    let h : at < n = c.if-at-count.true in
    let long : at ≤ length (take n (set xs at v)) = omega (arith, h, length-take-le n (set xs at v) (omega (arith, fits, length-set xs at v))) in
    let low : at ≤ n = omega (arith, h) in
    let f = c.since-fade.new.self in
    let kept : f ≡ factor_of a.lambda a.t _ =
    c.since-fade.ensures.kept ∙ since_right a.lambda a.t c.seek.new.self.factor _ (subst (λ (w : Walk). Right a.lambda a.t w.factor) (sym c.seek.ensures) c.requires.ready.right) in
    at_place (λ (w : Walk). Ready a.lambda a.t (record { at = w.at; key = w.key; steps = w.steps; factor = f }) (take n (set xs at v))) c.seek.ensures
    (ready_there a.key a.lambda a.t n xs at fits (ap (λ (w : Walk). w.at) c.seek.ensures) (take n (set xs at v)) _ f long
    (take-take at n (set xs at v) low ∙ take-set-le at xs at v (omega arith) ∙ sym (take-take at n xs low))
    (kept ∙ ap (factor_of a.lambda a.t) (sym (ap (λ (g : Factor). g.last) kept))))

pub returns-then-same_ends-clause-gained : goal.returns-then-same_ends-clause-gained
returns-then-same_ends-clause-gained c =
    let a = c.args in
    let fits : a.count ≤ length a.links.now = omega (arith, c.told-links, c.requires.few) in
    let kept : c.since-fade.new.self ≡ factor_of a.lambda a.t _ =
    c.since-fade.ensures.kept ∙ since_right a.lambda a.t c.seek.new.self.factor _ (subst (λ (w : Walk). Right a.lambda a.t w.factor) (sym c.seek.ensures) c.requires.ready.right) in
    gained_there a.key a.lambda a.t a.count a.links.now c.seek.new.self.at fits (ap (λ (w : Walk). w.at) c.seek.ensures) _ c.if-at-count.true _ c.gained.result
    (search rules)
    (c.gained.ensures ∙ gain_by a.lambda a.t c.since-fade.result _ (c.since-fade.ensures.fade ∙ ap (λ (g : Factor). g.fade) kept))

pub returns-then-count-eq-LINKS-clause-walk : goal.returns-then-count-eq-LINKS-clause-walk
returns-then-count-eq-LINKS-clause-walk c =
    let a = c.args in
    let fits : a.count ≤ length a.links.now = omega (arith, c.told-links, c.requires.few) in
    c.seek.ensures
    ∙ ap (walk a.key (front a.key (take a.count a.links.now)) (steps_to a.self.now a.key (take a.count a.links.now)))
    (sym (left_absent a.key a.lambda a.t a.count a.links.now c.seek.new.self.at fits (ap (λ (w : Walk). w.at) c.seek.ensures) unread
    (elim c.else-at-count.branch [
      | else-at-count-via-then-at-count+else-same_ends w ↦ λ h. search rules
      | else-at-count-via-else-at-count w ↦ λ h. absurd (omega (arith, h, w.if-at-count.false))
    ])
    a.self.now.factor))

pub returns-then-count-eq-LINKS-clause-ready : goal.returns-then-count-eq-LINKS-clause-ready
returns-then-count-eq-LINKS-clause-ready c =
    let a = c.args in
    let xs = a.links.now in
    let fits : a.count ≤ length xs = omega (arith, c.told-links, c.requires.few) in
    let found = ap (λ (w : Walk). w.at) c.seek.ensures in
    let low : c.seek.new.self.at ≤ length (take a.count xs) = omega (arith, found, front_most a.key (take a.count xs)) in
    at_place (λ (w : Walk). Ready a.lambda a.t w (take a.count xs)) c.seek.ensures
    (ready_there a.key a.lambda a.t a.count xs c.seek.new.self.at fits found (take a.count xs) _ a.self.now.factor low refl c.requires.ready.right)

pub returns-then-count-eq-LINKS-clause-gained : goal.returns-then-count-eq-LINKS-clause-gained
returns-then-count-eq-LINKS-clause-gained c =
    let a = c.args in
    let fits : a.count ≤ length a.links.now = omega (arith, c.told-links, c.requires.few) in
    gained_full a.key a.lambda a.t a.count a.links.now c.seek.new.self.at fits (ap (λ (w : Walk). w.at) c.seek.ensures) unread
    (elim c.else-at-count.branch [
      | else-at-count-via-then-at-count+else-same_ends w ↦ λ h. search rules
      | else-at-count-via-else-at-count w ↦ λ h. absurd (omega (arith, h, w.if-at-count.false))
    ])
    (omega (arith, c.if-count-eq-LINKS.true))

pub insert-requires : goal.insert-requires
insert-requires c =
    let a = c.args in
    let xs = a.links.now in
    let fits : a.count ≤ length xs = omega (arith, c.told-links, c.requires.few) in
    let all : a.count + 1 ≤ length xs = omega (arith, c.told-links, c.requires.few, c.if-count-eq-LINKS.false) in
    omega (
      arith,
      length-take-le (a.count + 1) xs all,
      length-take-le a.count xs fits,
      ap (λ (w : Walk). w.at) c.seek.ensures,
      front_most a.key (take a.count xs),
    )

pub returns-clause-walk : goal.returns-clause-walk
returns-clause-walk c =
    let a = c.args in
    let fits : a.count ≤ length a.links.now = omega (arith, c.told-links, c.requires.few) in
    c.seek.ensures
    ∙ ap (walk a.key (front a.key (take a.count a.links.now)) (steps_to a.self.now a.key (take a.count a.links.now)))
    (sym (left_absent a.key a.lambda a.t a.count a.links.now c.seek.new.self.at fits (ap (λ (w : Walk). w.at) c.seek.ensures) unread
    (elim c.else-at-count.branch [
      | else-at-count-via-then-at-count+else-same_ends w ↦ λ h. search rules
      | else-at-count-via-else-at-count w ↦ λ h. absurd (omega (arith, h, w.if-at-count.false))
    ])
    a.self.now.factor))

pub returns-clause-ready : goal.returns-clause-ready
returns-clause-ready c =
    let a = c.args in
    let xs = a.links.now in
    let fits : a.count ≤ length xs = omega (arith, c.told-links, c.requires.few) in
    let all : a.count + 1 ≤ length xs = omega (arith, c.told-links, c.requires.few, c.if-count-eq-LINKS.false) in
    at_place (λ (w : Walk). Ready a.lambda a.t w (take (a.count + 1) (c.insert.new.links ++ drop (a.count + 1) xs))) c.seek.ensures
    (ready_new a.key a.lambda a.t a.count xs c.seek.new.self.at fits (ap (λ (w : Walk). w.at) c.seek.ensures) (take (a.count + 1) xs) c.insert.new.links _ c.gained-2.result
    (omega (arith, all, c.told-links)) all refl c.insert.ensures _ a.self.now.factor c.requires.ready.right)

pub returns-clause-gained : goal.returns-clause-gained
returns-clause-gained c =
    let a = c.args in
    let xs = a.links.now in
    let fits : a.count ≤ length xs = omega (arith, c.told-links, c.requires.few) in
    let all : a.count + 1 ≤ length xs = omega (arith, c.told-links, c.requires.few, c.if-count-eq-LINKS.false) in
    gained_new a.key a.lambda a.t a.count xs c.seek.new.self.at fits (ap (λ (w : Walk). w.at) c.seek.ensures)
    (take (a.count + 1) xs) c.insert.new.links _ c.gained-2.result (omega (arith, all, c.told-links)) all refl c.insert.ensures unread
    (elim c.else-at-count.branch [
      | else-at-count-via-then-at-count+else-same_ends w ↦ λ h. search rules
      | else-at-count-via-else-at-count w ↦ λ h. absurd (omega (arith, h, w.if-at-count.false))
    ])
    (c.gained-2.ensures ∙ gain_by a.lambda a.t c.fade-fade.result a.key c.fade-fade.ensures.value)

pub returns-clause-rest : goal.returns-clause-rest
returns-clause-rest c =
    let a = c.args in
    let xs = a.links.now in
    let fits : a.count ≤ length xs = omega (arith, c.told-links, c.requires.few) in
    let all : a.count + 1 ≤ length xs = omega (arith, c.told-links, c.requires.few, c.if-count-eq-LINKS.false) in
    rest_new a.key a.lambda a.t a.count xs c.seek.new.self.at fits (ap (λ (w : Walk). w.at) c.seek.ensures)
    (take (a.count + 1) xs) c.insert.new.links _ c.gained-2.result (omega (arith, all, c.told-links)) all refl c.insert.ensures
