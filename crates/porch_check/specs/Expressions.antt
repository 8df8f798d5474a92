-- Expressions, type names and declarators, by recursion on the tree. Operands come from left to right, each with its own
-- rules, and then the form itself. `bodies` are the names of the functions that have a body in the text.
use Rattle.std.specs.Prelude.{ℕ, suc, ℤ, pos, ◌==◌, Bool, true, false, List, [], ◌∷◌, ◌++◌, map, Option, Some, None, Result, Ok}
use Rattle.porch_lex.specs.declared.refusal.Refusal.{Refusal}
use Rattle.porch_lex.specs.declared.refusal.Rule.TheVariants.{Unknown}
use Rattle.porch_lex.specs.Values.{whole_of}
use Rattle.porch_types.specs.declared.shapes.Kind.TheVariants.{Int}
use Rattle.porch_types.specs.Kinds.{kind_number}
use Rattle.porch_tree.specs.declared.tree.Prefix.{Prefix}
use Rattle.porch_tree.specs.declared.tree.Prefix.TheVariants as prefix
use Rattle.porch_tree.specs.Pieces.{at_of}
use Rattle.porch_tree.specs.Mirror.{Name, Expr, name, whole, character, texts, nested, suffixed, prefixed, size_of, cast, row, conditional, assign, sequence, Exprs, no_exprs, with_expr, Operands, no_operands, with_operand, Perhaps, absent, present, Suffix, index, call, member, arrow, increased, decreased, Suffixes, no_suffixes, with_suffix, Base, kind, void, typedef_name, tag, structure, enumeration, Field, field, Fields, no_fields, with_field, Constant, constant, Constants, no_constants, with_constant, Declarator, declarator, Declarators, no_declarators, with_declarator, Core, lacking, named, inner, Bracket, count, empty_list, void_list, param_list, Brackets, no_brackets, with_bracket, Param, param, Params, no_params, with_param, TypeName, type_name}
use Rattle.porch_typed.specs.declared.typed.Direction.TheVariants.{Forward, Back}
use Rattle.porch_typed.specs.declared.typed.Unary.TheVariants.{Plus, Minus, Complement}
use Rattle.porch_typed.specs.Mirror.{Expressions, no_expressions, with_expression}
use Rattle.porch_typed.specs.Mirror as tree
use Rattle.porch_check.specs.Refusals.{and_then, found_or}
use Rattle.porch_check.specs.Shapes.{shape_of, VOID}
use Rattle.porch_check.specs.Scopes.{Scopes, meaning_of, tag_of, new_scope, entered, left}
use Rattle.porch_check.specs.Operands.{Value, integer, Typed, typed_as, Form, operand, size, sized, Context, plain, Typing, go_on, value_of, used}
use Rattle.porch_check.specs.Constants.{whole_kind, character_value, all_characters}
use Rattle.porch_check.specs.Operators.{joined, unary_form, not_form, pointee_form, address_form, increment_form, index_form, member_form, arrow_form, choice_form, assign_form, cast_form}
use Rattle.porch_check.specs.Declarations.{base_at, type_name_at, kind_of, named_type, tagged, begin_struct, Members, no_members, declared_member, end_struct, begin_enum, enumerated, if_new, Parameter, Part, counted, listed, Declared, stars_of, part_at, count_of, type_of_parts, declared_parameter, named_whole, sized_type}
use Rattle.porch_check.specs.Declarations as declared
use Rattle.porch_check.specs.Calls.{name_form, literal_form, size_form, size_of_form, last_context, first_context, Argument, context_before, count_of_exprs, argument_context, call_form}
use Rattle.porch_check.specs.Braces.{params_braces}

abbrev pub behind : Result Form Refusal → Scopes → Typing Form
behind r s = and_then r (λ f. Ok (f, s))

abbrev pub whole_form : Name → Form
whole_form n =
    operand (record {
      tree = tree.constant (whole_kind n.bytes) (pos (whole_of n.bytes));
      value = integer (whole_kind n.bytes);
      is_zero = whole_of n.bytes == 0;
      is_allocation = false;
    })

abbrev pub character_form : Name → Form
character_form n = operand (typed_as (tree.constant Int (character_value n.bytes)) (integer Int))

-- with the form that a row's left operand was found to be
abbrev pub if_size : {A : Type 0} → Form → (ℕ → A) → A → A
if_size (size x) go other = go x
if_size f go other = other

abbrev pub declared_as : Option Name → List Part → Declared
declared_as n ps = record { name = n; parts = ps }

-- an operator in front of an operand; `*`, `+`, `-`, `~` and `!` use its value
abbrev pub value_form : Prefix → (at : ℕ) → Typed → Scopes → Result Form Refusal
value_form prefix.Pointee at x s = pointee_form at s x x.value
value_form prefix.Minus at x s = unary_form Minus at x x.value
value_form prefix.Complement at x s = unary_form Complement at x x.value
value_form prefix.Not at x s = not_form at x
value_form p at x s = unary_form Plus at x x.value

abbrev pub prefix_form : Prefix → (at : ℕ) → Context → Expr → Form → Scopes → Typing Form
prefix_form prefix.Increase at c e f s = behind (increment_form true Forward at (at_of e) f s) s
prefix_form prefix.Decrease at c e f s = behind (increment_form true Back at (at_of e) f s) s
prefix_form prefix.Address at c e f s = address_form (at_of e) f s
prefix_form prefix.Sizeof at c e f s = behind (size_of_form at c e f) s
prefix_form p at c e f s = go_on (value_of (at_of e) f s) (λ x s. behind (value_form p at x s) s)

module _ (bodies : List (List ℕ)) where
  abbrev mutual
    pub typed_expr : Expr → Context → Scopes → Typing Form
    typed_expr (name n) c s = found_or (meaning_of n.bytes s) Unknown n.at (λ m. behind (name_form bodies n c m) s)
    typed_expr (whole n) c s = Ok (whole_form n, s)
    typed_expr (character n) c s = Ok (character_form n, s)
    typed_expr (texts n ns) c s = behind (literal_form n.at (all_characters (n ∷ ns)) c) s
    typed_expr (nested at e) c s = typed_expr e plain s
    typed_expr (suffixed e ss) c s = go_on (typed_expr e (context_before ss) s) (typed_suffixes ss (at_of e))
    typed_expr (prefixed at p e) c s = go_on (typed_expr e plain s) (λ f s. prefix_form p at c e f s)
    typed_expr (size_of at t) c s =
        go_on (typed_name t s) (λ x s. go_on (sized_type (type_name_at t) x s) (λ x s. behind (size_form at c x) s))
    typed_expr (cast at t e) c s =
        go_on (typed_name t s) (λ x s. go_on (named_whole (type_name_at t) x s) (λ x s.
        go_on (used (at_of e) (typed_expr e plain s)) (λ y s. behind (cast_form (shape_of s.shapes x) at x y) s)))
    typed_expr (row l e os) c s =
        go_on (typed_expr e (first_context c e os) s) (λ f s.
        if_size f (λ x. typed_count os x s) (go_on (value_of (at_of e) f s) (typed_operands os c (at_of e) false)))
    typed_expr (conditional e a b) c s =
        go_on (used (at_of e) (typed_expr e plain s)) (λ x s.
        go_on (used (at_of a) (typed_expr a plain s)) (λ y s.
        go_on (used (at_of b) (typed_expr b plain s)) (λ z s. behind (choice_form (at_of e) (at_of e) x y z) s)))
    typed_expr (assign op x e) c s =
        go_on (typed_expr x plain s) (λ f s.
        go_on (used (at_of e) (typed_expr e plain s)) (λ y s. assign_form op (at_of x) f y s))
    typed_expr (sequence e es) c s =
        go_on (used (at_of e) (typed_expr e plain s)) (λ x s. go_on (typed_exprs es x s) (λ r s.
        Ok (operand (typed_as (tree.sequence x.tree r.0) r.1), s)))

    -- the expressions behind the first of a sequence, and the value of the last one
    pub typed_exprs : Exprs → Typed → Scopes → Typing (Expressions × Value)
    typed_exprs no_exprs x s = Ok ((no_expressions, x.value), s)
    typed_exprs (with_expr e es) x s =
        go_on (used (at_of e) (typed_expr e plain s)) (λ y s. go_on (typed_exprs es y s) (λ r s.
        Ok ((with_expression y.tree r.0, r.1), s)))

    -- operators behind what stands to the left of them
    pub typed_operands : Operands → Context → (at : ℕ) → (begun : Bool) → Typed → Scopes → Typing Form
    typed_operands no_operands c at begun x s = Ok (operand x, s)
    typed_operands (with_operand op e os) c at begun x s =
        go_on (typed_expr e (last_context c op e os) s) (λ f s.
        if_size f (λ n. Ok (sized x n, s))
        (go_on (value_of (at_of e) f s) (λ y s. and_then (joined op at begun x y s) (λ z. typed_operands os c at true z s))))

    -- the count behind a size
    pub typed_count : Operands → (shape : ℕ) → Scopes → Typing Form
    typed_count no_operands x s = Ok (size x, s)
    typed_count (with_operand op e os) x s = go_on (used (at_of e) (typed_expr e plain s)) (λ y s. Ok (sized y x, s))

    pub typed_suffixes : Suffixes → (at : ℕ) → Form → Scopes → Typing Form
    typed_suffixes no_suffixes at f s = Ok (f, s)
    typed_suffixes (with_suffix x xs) at f s = go_on (typed_suffix x at f s) (typed_suffixes xs at)

    pub typed_suffix : Suffix → (at : ℕ) → Form → Scopes → Typing Form
    typed_suffix (index e) at f s =
        go_on (value_of at f s) (λ x s. go_on (used (at_of e) (typed_expr e plain s)) (λ y s.
        behind (index_form at s x x.value y y.value) s))
    typed_suffix (call es) at f s = go_on (typed_arguments es f (count_of_exprs es) 0 s) (call_form bodies at f)
    typed_suffix (member n) at f s = behind (member_form at n f s) s
    typed_suffix (arrow n) at f s = go_on (value_of at f s) (λ x s. behind (arrow_form at n s x x.value) s)
    typed_suffix increased at f s = behind (increment_form false Forward at at f s) s
    typed_suffix decreased at f s = behind (increment_form false Back at at f s) s

    -- the arguments from a number on, of so many
    pub typed_arguments : Exprs → Form → (count number : ℕ) → Scopes → Typing (List Argument)
    typed_arguments no_exprs f n k s = Ok ([], s)
    typed_arguments (with_expr e es) f n k s =
        go_on (typed_expr e (argument_context f n k) s) (λ x s. go_on (typed_arguments es f n (suc k) s) (λ xs s.
        Ok (record { at = at_of e; form = x } ∷ xs, s)))

    -- Types.

    pub typed_base : Base → Scopes → Typing ℕ
    typed_base (kind at ks) s = Ok (kind_number (kind_of ks), s)
    typed_base (void at cs) s = Ok (VOID, s)
    typed_base (typedef_name at n cs) s = named_type n.at (meaning_of n.bytes s) s
    typed_base (tag at sort n cs) s = tagged sort at n (tag_of n.bytes s) s
    typed_base (structure at n fs cs) s =
        go_on (begin_struct n s) (λ x s. go_on (typed_fields fs no_members s) (end_struct at x))
    typed_base (enumeration at n xs cs) s =
        go_on (begin_enum at n s) (λ x s. go_on (typed_constants xs (pos 0) s) (λ next s. Ok (x, s)))

    pub typed_fields : Fields → Members → Scopes → Typing Members
    typed_fields no_fields ms s = Ok (ms, s)
    typed_fields (with_field f fs) ms s = go_on (typed_field f ms s) (typed_fields fs)

    pub typed_field : Field → Members → Scopes → Typing Members
    typed_field (field b ds) ms s = go_on (typed_base b s) (λ x s. typed_members ds x ms s)

    pub typed_members : Declarators → (base : ℕ) → Members → Scopes → Typing Members
    typed_members no_declarators x ms s = Ok (ms, s)
    typed_members (with_declarator d ds) x ms s = go_on (typed_member d x ms s) (typed_members ds x)

    pub typed_member : Declarator → (base : ℕ) → Members → Scopes → Typing Members
    typed_member (declarator at stars c bs) x ms s =
        go_on (typed_core c s) (λ d s. go_on (typed_brackets bs at s) (λ ps s.
        go_on (type_of_parts (d.parts ++ ps ++ stars_of at stars) x s) (λ x s. declared_member at d.name x ms s)))

    -- the constants of an enumeration, of which the next is counted up to this
    pub typed_constants : Constants → ℤ → Scopes → Typing ℤ
    typed_constants no_constants next s = Ok (next, s)
    typed_constants (with_constant x xs) next s = go_on (typed_constant x next s) (typed_constants xs)

    pub typed_constant : Constant → ℤ → Scopes → Typing ℤ
    typed_constant (constant n p) next s = if_new n s (typed_constant_value p n next s)

    pub typed_constant_value : Perhaps → Name → ℤ → Scopes → Typing ℤ
    typed_constant_value absent n next s = enumerated n.at n next s
    typed_constant_value (present e) n next s =
        go_on (used (at_of e) (typed_expr e plain s)) (λ x s.
        declared.with_constant (at_of e) x (λ k z. enumerated (at_of e) n z s))

    -- Declarators: first what stands in them, in the order of the text.

    pub typed_declarator : Declarator → Scopes → Typing Declared
    typed_declarator (declarator at stars c bs) s =
        go_on (typed_core c s) (λ d s. go_on (typed_brackets bs at s) (λ ps s.
        Ok (declared_as d.name (d.parts ++ ps ++ stars_of at stars), s)))

    pub typed_core : Core → Scopes → Typing Declared
    typed_core lacking s = Ok (declared_as None [], s)
    typed_core (named n) s = Ok (declared_as (Some n) [], s)
    typed_core (inner at d) s = typed_declarator d s

    pub typed_brackets : Brackets → (at : ℕ) → Scopes → Typing (List Part)
    typed_brackets no_brackets at s = Ok ([], s)
    typed_brackets (with_bracket b bs) at s =
        go_on (typed_bracket b at s) (λ p s. go_on (typed_brackets bs at s) (λ ps s. Ok (p ∷ ps, s)))

    pub typed_bracket : Bracket → (at : ℕ) → Scopes → Typing Part
    typed_bracket (count p) at s = typed_array p at s
    typed_bracket empty_list at s = Ok (listed at [] (new_scope []), s)
    typed_bracket void_list at s = Ok (listed at [] (new_scope []), s)
    typed_bracket (param_list ps) at s =
        go_on (typed_params ps 0 (entered (new_scope (params_braces ps)) s)) (λ qs t. Ok (listed at qs t.inner, left s t))

    pub typed_array : Perhaps → (at : ℕ) → Scopes → Typing Part
    typed_array absent at s = Ok (counted at None, s)
    typed_array (present e) at s =
        go_on (used (at_of e) (typed_expr e plain s)) (λ x s.
        and_then (count_of (at_of e) x) (λ n. Ok (counted at (Some n), s)))

    pub typed_params : Params → (number : ℕ) → Scopes → Typing (List Parameter)
    typed_params no_params k s = Ok ([], s)
    typed_params (with_param p ps) k s =
        go_on (typed_param p k s) (λ x s. go_on (typed_params ps (suc k) s) (λ xs s. Ok (x ∷ xs, s)))

    pub typed_param : Param → (number : ℕ) → Scopes → Typing Parameter
    typed_param (param b d) k s =
        go_on (typed_base b s) (λ x s. go_on (typed_declarator d s) (λ d s.
        go_on (type_of_parts d.parts x s) (λ x s. declared_parameter (base_at b) k d.name x s)))

    pub typed_name : TypeName → Scopes → Typing ℕ
    typed_name (type_name b d) s =
        go_on (typed_base b s) (λ x s. go_on (typed_declarator d s) (λ d s.
        type_of_parts (map (part_at (base_at b)) d.parts) x s))
