-- The tags that what is left puts behind those so far are those of all.
use Rattle.std.proofs.Common.{◌≡◌, map, drop}
use Rattle.porch_tree.specs.Views.{exprs_of, suffixes_of, fields_of, constants_of, declarators_of, brackets_of, operands_of, expr_of, suffix_of, field_of, constant_of, declarator_of, bracket_of}
use Rattle.porch_braces.specs.inside.Operand.{Operand}
use Rattle.porch_braces.specs.inside.Puts.{put_exprs, put_suffixes, put_fields, put_constants, put_declarators, put_brackets, put_operands}
use Rattle.porch_braces.proofs.tags.+put.Given as goal

abbrev pub invariant-put_exprs-loop-e : goal.invariant-put_exprs-loop-e
invariant-put_exprs-loop-e l =
    put_exprs (exprs_of (map (expr_of l.text) (drop l.e-index l.es))) l.tags
    ≡ put_exprs (exprs_of (map (expr_of l.text) l.es)) l.initial.tags

abbrev pub invariant-put_suffixes-loop-s : goal.invariant-put_suffixes-loop-s
invariant-put_suffixes-loop-s l =
    put_suffixes (suffixes_of (map (suffix_of l.text) (drop l.s-index l.suffixes))) l.tags
    ≡ put_suffixes (suffixes_of (map (suffix_of l.text) l.suffixes)) l.initial.tags

abbrev pub invariant-put_fields-loop-field : goal.invariant-put_fields-loop-field
invariant-put_fields-loop-field l =
    put_fields (fields_of (map (field_of l.text) (drop l.field-index l.fields))) l.tags
    ≡ put_fields (fields_of (map (field_of l.text) l.fields)) l.initial.tags

abbrev pub invariant-put_constants-loop-constant : goal.invariant-put_constants-loop-constant
invariant-put_constants-loop-constant l =
    put_constants (constants_of (map (constant_of l.text) (drop l.constant-index l.constants))) l.tags
    ≡ put_constants (constants_of (map (constant_of l.text) l.constants)) l.initial.tags

abbrev pub invariant-put_declarators-loop-declarator : goal.invariant-put_declarators-loop-declarator
invariant-put_declarators-loop-declarator l =
    put_declarators (declarators_of (map (declarator_of l.text) (drop l.declarator-index l.declarators))) l.tags
    ≡ put_declarators (declarators_of (map (declarator_of l.text) l.declarators)) l.initial.tags

abbrev pub invariant-put_brackets-loop-bracket : goal.invariant-put_brackets-loop-bracket
invariant-put_brackets-loop-bracket l =
    put_brackets (brackets_of (map (bracket_of l.text) (drop l.bracket-index l.brackets))) l.tags
    ≡ put_brackets (brackets_of (map (bracket_of l.text) l.brackets)) l.initial.tags

abbrev pub invariant-put_operands-loop-o : goal.invariant-put_operands-loop-o
invariant-put_operands-loop-o l =
    put_operands (operands_of (map (λ (o : Operand). (o.0, expr_of l.text o.1)) (drop l.o-index l.operands))) l.tags
    ≡ put_operands (operands_of (map (λ (o : Operand). (o.0, expr_of l.text o.1)) l.operands)) l.initial.tags
