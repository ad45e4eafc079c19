-- `surface::last_tried` meets its contract.
use Rattle.std.proofs.Common.{sym, ap, ◌∙◌, ◌+◌, Bool, cond, le-leb}
use Rattle.std.proofs.lemmas.Bool.{lt-leb}
use Rattle.basis.specs.declared.Degree.{Degree}
use Rattle.surface.specs.Surfaces.{last_tried}
use Rattle.surface.specs.TriedLaws.{last_none, last_again}
use Rattle.surface.proofs.last_tried.Goals.{then-fits, else-fits}
use Rattle.surface.proofs.last_tried.Goals as goal

pub loop-d-init : goal.loop-d-init
loop-d-init c = sym (last_none _)

pub loop-d-preserved : goal.loop-d-preserved
loop-d-preserved c =
    let d = c.loop-d.d in
    let picked = λ (b : Bool). cond b (d + 1) (last_tried c.args.n d) in
    sym
    (last_again c.args.n d
    ∙ elim c.if-fits.branch [
      | then-fits w ↦ ap picked (le-leb _ _ (rw c.k-k.ensures at w.if-fits.true)) ∙ sym (ap (λ (l : Degree). l.0) w.last-is)
      | else-fits w ↦ ap picked (lt-leb _ _ (rw c.k-k.ensures at w.if-fits.false)) ∙ sym (ap (λ (l : Degree). l.0) w.last-is ∙ c.loop-d.invariant)
    ])
