-- What the code's parts are as plain data.
use Rattle.std.specs.Prelude.{ℕ, List, [], ◌∷◌, map, fold}
use Rattle.std.specs.Option.{option_map}
use Rattle.porch_tree.specs.Views.{name_of, expr_of, base_of, field_of, constant_of, declarator_of, core_of, bracket_of, param_of, type_name_of}
use Rattle.porch_parse.specs.declared.frame.Frame as code_frame
use Rattle.porch_parse.specs.Shown.{frames_of, state_of as expr_state_of}
use Rattle.porch_parts.specs.declared.part.Form as code_form
use Rattle.porch_parts.specs.declared.part.Form.TheVariants as form
use Rattle.porch_parts.specs.declared.part.Declaring as code_declaring
use Rattle.porch_parts.specs.declared.part.Part as code_part
use Rattle.porch_parts.specs.declared.part.Part.TheVariants as part
use Rattle.porch_parts.specs.declared.part.Point as code_point
use Rattle.porch_parts.specs.declared.part.Point.TheVariants as point
use Rattle.porch_parts.specs.declared.found.Found as code_found
use Rattle.porch_parts.specs.declared.found.Found.TheVariants as found
use Rattle.porch_parts.specs.declared.reader.Turn as code_turn
use Rattle.porch_parts.specs.declared.reader.Turn.TheVariants as turn
use Rattle.porch_parts.specs.Types.{Form, void_form, typedef_form, tag_form, fields_form, constants_form, Declaring, declared_by, Part, typed, in_fields, in_constants, in_constant, in_params, in_count, in_inner, alone, Point, at_base, behind_words, at_tag, behind_tag, behind_form, at_constant, behind_constant, at_value, at_declarator, behind_star, at_core, behind_core, at_count, at_expr, over_base, over_declarator, over_type, broken, Place, place, lost}
use Rattle.porch_parts.specs.Parts.{State, in_expr, in_type}
use Rattle.porch_parts.specs.Ends.{Found, going, found_expr, found_typed, found_declared}

module _ (text : List ℕ) where
  abbrev pub form_of : code_form.Form → Form
  form_of form.Void = void_form
  form_of (form.Typedef n) = typedef_form (name_of text n)
  form_of (form.Tag s n) = tag_form s (name_of text n)
  form_of (form.Fields n xs) = fields_form (option_map (name_of text) n) (map (field_of text) xs)
  form_of (form.Constants n xs) = constants_form (option_map (name_of text) n) (map (constant_of text) xs)

  abbrev pub declaring_of : code_declaring.Declaring → Declaring
  declaring_of d =
      record { at = d.at; stars = d.stars; core = core_of text d.core; brackets = map (bracket_of text) d.brackets }

  abbrev pub part_of : code_part.Part → Part
  part_of (part.Typed b ds) = typed (base_of text b) (map (declarator_of text) ds)
  part_of (part.InFields f n xs) = in_fields f (option_map (name_of text) n) (map (field_of text) xs)
  part_of (part.InConstants f n xs) = in_constants f (option_map (name_of text) n) (map (constant_of text) xs)
  part_of (part.InConstant n) = in_constant (name_of text n)
  part_of (part.InParams d xs) = in_params (declaring_of d) (map (param_of text) xs)
  part_of (part.InCount d) = in_count (declaring_of d)
  part_of (part.InInner at ss k) = in_inner at ss k
  part_of part.Alone = alone

  -- The code has the innermost part last.
  abbrev pub parts_of : List code_part.Part → List Part
  parts_of = fold (λ above p. part_of p ∷ above) []

  abbrev pub point_of : code_point.Point → Point
  point_of point.AtBase = at_base
  point_of (point.BehindWords at ks n b) = behind_words at ks n b
  point_of (point.AtTag f s) = at_tag f s
  point_of (point.BehindTag f s n) = behind_tag f s (name_of text n)
  point_of (point.BehindForm f x k) = behind_form f (form_of x) k
  point_of point.AtConstant = at_constant
  point_of (point.BehindConstant n) = behind_constant (name_of text n)
  point_of point.AtValue = at_value
  point_of point.AtDeclarator = at_declarator
  point_of (point.BehindStar at ss k) = behind_star at ss k
  point_of (point.AtCore at ss k) = at_core at ss k
  point_of (point.BehindCore d) = behind_core (declaring_of d)
  point_of (point.AtCount d) = at_count (declaring_of d)
  point_of point.AtExpr = at_expr
  point_of (point.OverBase b) = over_base (base_of text b)
  point_of (point.OverDeclarator d) = over_declarator (declared_by (declaring_of d))
  point_of (point.OverType x) = over_type (type_name_of text x)
  point_of point.Broken = broken

  -- What is to be ended doesn't matter where no unit has the tokens.
  abbrev pub place_of : List code_part.Part → code_point.Point → Place
  place_of ps point.Broken = lost
  place_of ps x = place (parts_of ps) (point_of x)

  abbrev pub state_of : List code_frame.Frame → List code_part.Part → code_turn.Turn → State
  state_of fs ps (turn.Expr p) = in_expr (parts_of ps) (expr_state_of text fs p)
  state_of fs ps (turn.Type x) = in_type (frames_of text fs) (place_of ps x)

  abbrev pub found_of : List code_frame.Frame → List code_part.Part → code_found.Found → Found
  found_of fs ps (found.Going t) = going (state_of fs ps t)
  found_of fs ps (found.Expr e) = found_expr (expr_of text e)
  found_of fs ps (found.Type x) = found_typed (type_name_of text x)
  found_of fs ps (found.Declarator d) = found_declared (declarator_of text d)
