-- `word_at` meets its contract. Assumes nothing.
use Rattle.std.proofs.Common.{⊎_elim, ap, ◌∙◌, arith}
use Rattle.std.proofs.lemmas.Slice.{between_to_end}
use Rattle.std.specs.Int.{from_le_bytes}
use mir.Syntax.{w64}
use Rattle.words.proofs.Padded.{here, beyond}
use Rattle.words.proofs.word.word_at.Goals.{in-Some, in_default}
use Rattle.words.proofs.word.word_at.Goals as goal

pub returns : goal.returns
returns c =
    let bytes = c.args.bytes.now in
    let at = c.args.at in
    elim c.match-get.branch [
      | in-Some w ↦ c.from_le_bytes.ensures ∙ here c.match-get.word _ _ bytes at _ w.min-n.ensures (w.copy_from_slice.ensures.after) w.word-is (w.in-Some.ensures.lookup.0.2 ∙ between_to_end bytes at _ (omega arith))
      | in_default w ↦ c.from_le_bytes.ensures ∙ ap (from_le_bytes w64) w.word-is ∙ beyond bytes at (⊎_elim (λ h. h) (λ h. absurd (omega arith)) w.in_default.ensures.lookup.0)
    ]
