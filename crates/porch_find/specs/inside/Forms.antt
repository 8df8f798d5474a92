-- The two forms in which an object lies in bytes.
use Rattle.porch_layout.specs.declared.layout.Layout.{Layout}
use Rattle.porch_metrics.specs.Extents.{ucf_layout}
use Rattle.porch_find.specs.declared.forms.Form.{Form}
use Rattle.porch_find.specs.declared.forms.Form.TheVariants.{Native, Packed}

-- the layout that says where leaves lie
abbrev pub layout_in : Form → Layout → Layout
layout_in Native under = under
layout_in Packed under = ucf_layout
