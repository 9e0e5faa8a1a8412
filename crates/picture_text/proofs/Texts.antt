-- Which text a session gives. Assumes nothing.
use Rattle.std.specs.Prelude.{ℕ, ◌≡◌, ◌≢◌, Bool, cond, List, eqb, Ok, Err}
use Rattle.std.proofs.Common.{sym, ap, ◌∙◌, eq-eqb, ne_eqb}
use Rattle.text.specs.Ascii.{ascii}
use Rattle.text.specs.Refusal.{refused_line}
use Rattle.dbstream.specs.View.{view}
use Rattle.input_session.specs.declared.Session.{Session}
use Rattle.input_session.specs.declared.refusal.Refusal.{Refusal}
use Rattle.input_session.specs.Refused.{Run, run_number, refusal_number}
use Rattle.input_session.specs.Session.{ran_of}
use Rattle.input_session.specs.Told.{ran_told}
use Rattle.input_session.proofs.Sessions.{no_nought}
use Rattle.picture_text.specs.Picture.{drawn_of, dim_text, ran_text, picture_text}

module _ (bytes : List ℕ) (s : Session) (e : ran_told s ≡ ran_of bytes) where
  abbrev told : Run → List ℕ
  told a = cond (eqb (run_number a) 0) (dim_text (view s.stream)) (refused_line (run_number a))

  is : told s.answer ≡ picture_text bytes
  unfolding picture_text
  is = ap ran_text e

  pub refused : (r : Refusal) → s.answer ≡ Err r → refused_line (refusal_number r) ≡ picture_text bytes
  refused r h =
      sym (ap told h ∙ ap (λ (b : Bool). cond b (dim_text (view s.stream)) (refused_line (refusal_number r))) (no_nought r)) ∙ is

  module _ (h : s.answer ≡ Ok tt) where
    abbrev drawn : Bool → List ℕ
    drawn three = cond three (drawn_of (view s.stream)) (ascii "a picture needs dim 3\n")

    pub other_dim : (view s.stream).params.settings.dim ≢ 3 → ascii "a picture needs dim 3\n" ≡ picture_text bytes
    other_dim d = ap drawn (sym (ne_eqb (view s.stream).params.settings.dim 3 d)) ∙ sym (ap told h) ∙ is

    pub three : (view s.stream).params.settings.dim ≡ 3 → drawn_of (view s.stream) ≡ picture_text bytes
    three d = ap drawn (sym (eq-eqb (view s.stream).params.settings.dim 3 d)) ∙ sym (ap told h) ∙ is
