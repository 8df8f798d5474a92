use Rattle.porch_layout.specs.Layouts.{IsLayout}
use Rattle.porch_find.specs.declared.forms.Form.TheVariants.{Native, Packed}
use Rattle.porch_find.specs.inside.Forms.{layout_in}
use Rattle.porch_find.proofs.forms.forms_are_measured.Goals as goal

pub returns : goal.returns
returns c =
    let under = c.args.metrics.now.layout in
    let is : IsLayout (layout_in c.args.form under) =
    elim c.args.form as (λ form. IsLayout (layout_in form under)) [
      | Native ↦ c.layout-layout.ensures.allowed
      | Packed ↦ c.ucf_is_a_layout.ensures
    ] in
    c.all_are_measured.ensures (layout_in c.args.form under) c.args.metrics.now.types is c.layout-layout.ensures.types
