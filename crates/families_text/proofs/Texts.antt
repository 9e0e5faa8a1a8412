-- Which text a session gives. Assumes nothing.
use Rattle.std.specs.Prelude.{ℕ, ◌≡◌, Bool, cond, List, eqb, Ok, Err}
use Rattle.std.proofs.Common.{sym, ap, ◌∙◌}
use Rattle.text.specs.Refusal.{refused_line}
use Rattle.dbstream.specs.View.{view}
use Rattle.input_session.specs.declared.Session.{Session}
use Rattle.input_session.specs.declared.refusal.Refusal.{Refusal}
use Rattle.input_session.specs.Refused.{Run, run_number, refusal_number}
use Rattle.input_session.specs.Session.{Ran, ran_of}
use Rattle.input_session.specs.Told.{ran_told}
use Rattle.input_session.proofs.Sessions.{no_nought}
use Rattle.families_text.specs.Families.{cluster_text, families_text}

module _ (bytes : List ℕ) (s : Session) (e : ran_told s ≡ ran_of bytes) where
  abbrev told : Run → List ℕ
  told a = cond (eqb (run_number a) 0) (cluster_text (view s.stream)) (refused_line (run_number a))

  is : told s.answer ≡ families_text bytes
  unfolding families_text
  is = ap (λ (q : Ran). cond (eqb q.number 0) (cluster_text q.stream) (refused_line q.number)) e

  pub refused : (r : Refusal) → s.answer ≡ Err r → refused_line (refusal_number r) ≡ families_text bytes
  refused r h =
      sym (ap told h ∙ ap (λ (b : Bool). cond b (cluster_text (view s.stream)) (refused_line (refusal_number r))) (no_nought r)) ∙ is

  pub clustered : s.answer ≡ Ok tt → cluster_text (view s.stream) ≡ families_text bytes
  clustered h = sym (ap told h) ∙ is
