-- Expressions, type names and declarators, by induction on the tree.
use Rattle.std.proofs.Common.{◌≡◌, ◌≢◌, ℕ, suc, ℤ, pos, [], ◌∷◌, ◌++◌, map, refl, sym, subst, Option, Some, None, Bool, true, false, Result, Ok, Err}
use Rattle.porch_lex.specs.declared.refusal.Refusal.{Refusal}
use Rattle.porch_lex.specs.declared.refusal.Rule.TheVariants.{Unknown}
use Rattle.porch_types.specs.declared.shapes.Kind.TheVariants.{Int}
use Rattle.porch_tree.specs.declared.tree.Infix.{Infix}
use Rattle.porch_tree.specs.declared.tree.Prefix.{Prefix}
use Rattle.porch_tree.specs.declared.tree.Prefix.TheVariants as prefix
use Rattle.porch_tree.specs.Pieces.{at_of}
use Rattle.porch_tree.specs.Mirror.{Name, Expr, name, whole, character, texts, nested, suffixed, prefixed, size_of, cast, row, conditional, assign, sequence, Exprs, no_exprs, with_expr, Operands, no_operands, with_operand, absent, present, Suffix, index, call, member, arrow, increased, decreased, Suffixes, no_suffixes, with_suffix, Base, kind, void, typedef_name, tag, structure, enumeration, Field, field, Fields, no_fields, with_field, Constant, constant, Constants, no_constants, with_constant, Declarator, declarator, Declarators, no_declarators, with_declarator, Core, lacking, named, inner, Bracket, count, empty_list, void_list, param_list, Brackets, no_brackets, with_bracket, Param, param, Params, no_params, with_param, TypeName, type_name}
use Rattle.porch_typed.specs.declared.typed.Direction.TheVariants.{Forward, Back}
use Rattle.porch_typed.specs.Mirror.{Expression, Expressions, no_expressions, with_expression}
use Rattle.porch_typed.specs.Mirror as tree
use Rattle.porch_typed.specs.Typed.{HasLast}
use Rattle.porch_check.specs.Refusals.{and_then, found_or}
use Rattle.porch_check.specs.Shapes.{shape_of, VOID}
use Rattle.porch_check.specs.Scopes.{Meaning, Scopes, meaning_of, new_scope, entered}
use Rattle.porch_check.specs.Operands.{Value, integer, Typed, typed_as, Form, operand, size, sized, Context, plain, Typing, go_on, value_of, used}
use Rattle.porch_check.specs.Constants.{whole_kind, character_value, all_characters}
use Rattle.porch_check.specs.Operators.{joined, member_form, choice_form, cast_form}
use Rattle.porch_check.specs.Declarations.{base_at, type_name_at, kind_of, named_whole, sized_type, no_members, Members, end_struct, begin_struct, enumerated, count_of, counted, listed, Part, Declared, Parameter, stars_of, part_at, type_of_parts, declared_member, declared_parameter}
use Rattle.porch_check.specs.Calls.{name_form, literal_form, size_form, last_context, first_context, context_before, count_of_exprs, argument_context}
use Rattle.porch_check.specs.Braces.{params_braces}
use Rattle.porch_check.specs.Expressions.{behind, whole_form, character_form, if_size, value_form, prefix_form, typed_expr, typed_exprs, typed_operands, typed_count, typed_suffixes, typed_suffix, typed_arguments, typed_base, typed_fields, typed_field, typed_members, typed_member, typed_constants, typed_constant, typed_declarator, typed_core, typed_brackets, typed_bracket, typed_params, typed_param, typed_name}
use Rattle.porch_check.specs.Sealing.{sealed_all}
use Rattle.porch_typing.specs.Shapes.{Each, IsKnown}
use Rattle.porch_typing.specs.States.{IsState, Holds, Gives}
use Rattle.porch_typing.specs.Ends.{End, IsEnd, seal}
use Rattle.porch_typing.specs.Forms.{IsKnownForm, Anything, type_of_value, IsValue, IsOperand, IsForm, NoFact, IsType, IsPart, AreParts, IsDeclared, Leads, Passes}
use Rattle.porch_typing.specs.Laws.{DeclaratorsGoOn}
use Rattle.porch_typing.specs.Spelled.{IsSpelled, AreSpelled, AreSpelledOperands, IsSpelledSuffix, AreSpelledSuffixes, IsSpelledBase, IsSpelledField, AreSpelledFields, IsSpelledConstant, AreSpelledConstants, IsSpelledDeclarator, AreSpelledDeclarators, IsSpelledCore, IsSpelledBracket, AreSpelledBrackets, IsSpelledParam, AreSpelledParams, IsSpelledName}
use Rattle.porch_typing.proofs.Shapes.{known_on}
use Rattle.porch_typing.proofs.States.{follow, found, refused, so, pure, formed, under, gives_all, passing, pass_on, passed}
use Rattle.porch_typing.proofs.Values.{Has, as_operand, value_rule, used_rule}
use Rattle.porch_typing.proofs.Operators.{joined_rule}
use Rattle.porch_typing.proofs.Nodes.{value_form_known, value_form_rule, address_rule, increment_known, increment_rule, index_known, index_rule, member_form_known, member_rule, arrow_known, arrow_rule, choice_known, cast_known}
use Rattle.porch_typing.proofs.Choices.{choice_rule, assign_rule, cast_rule}
use Rattle.porch_typing.proofs.Calls.{known_meaning, meant, name_known, name_rule, literal_known, literal_rule, size_known, size_rule, size_of_known, size_of_rule}
use Rattle.porch_typing.proofs.CallForms.{form_on, AreKnown, AreForms}
use Rattle.porch_typing.proofs.Library.{call_rule}
use Rattle.porch_typing.proofs.Constants.{whole_in_range, character_in_range, literal_bytes}
use Rattle.porch_typing.proofs.Declared as declared
use Rattle.porch_typing.proofs.Declared.{kind_known, void_known}

module _ (w : End) (h : IsEnd w) where
  abbrev FindsForm : Scopes → Typing Form → Type 0
  FindsForm s r = Holds (Leads w IsKnownForm (IsForm w) s) r

  abbrev FindsType : Scopes → Typing ℕ → Type 0
  FindsType s r = Holds (Leads w IsType NoFact s) r

  -- from a form to a form
  abbrev From : Form → Scopes → Typing Form → Type 0
  From f s r = Holds (Leads w IsKnownForm (λ g. IsForm w f → IsForm w g) s) r

  named_rule : (n : Name) (c : Context) (s : Scopes) → IsState s → FindsForm s (typed_expr w.bodies (name n) c s)
  named_rule n c s st = by (meaning_of n.bytes s) refl
    where
      by : (o : Option Meaning) → meaning_of n.bytes s ≡ o → Holds (Leads w IsKnownForm (IsForm w) s) (found_or o Unknown n.at (λ m. behind (name_form w.bodies n c m) s))
      by None e = refused w _
      by (Some m) e =
          formed w s (name_form w.bodies n c m) st (name_known w.bodies n c m s (known_meaning s st n.bytes m e)) (λ a co. name_rule w h n c m (meant w s a n.bytes m e))

  prefix_rule : (p : Prefix) (at : ℕ) (c : Context) (e : Expr) (f : Form) (s : Scopes) → IsState s → IsKnownForm f s → From f s (prefix_form p at c e f s)
  prefix_rule prefix.Increase at c e f s st k =
      formed w s _ st (increment_known s st.shapes true Forward at (at_of e) f) (λ a co. under _ (λ i. increment_rule w h true Forward at (at_of e) f s co i))
  prefix_rule prefix.Decrease at c e f s st k =
      formed w s _ st (increment_known s st.shapes true Back at (at_of e) f) (λ a co. under _ (λ i. increment_rule w h true Back at (at_of e) f s co i))
  prefix_rule prefix.Address at c e f s st k = address_rule w h (at_of e) f s st k
  prefix_rule prefix.Sizeof at c e f s st k =
      formed w s _ st (size_of_known s at c e f k) (λ a co. under _ (λ i. size_of_rule w h at c e f i))
  prefix_rule p at c e f s st k =
      follow w s (value_of (at_of e) f s) _ (value_rule w h s (at_of e) f st k) (λ x t g st2 k2.
      formed w t (value_form p at x t) st2 (value_form_known t st2.shapes p at x) (λ a co.
      under _ (λ value. under _ (λ i. value_form_rule w h p at x t co (value i)))))

  -- the last of a sequence

  abbrev IsLast : Exprs → Typed → Expressions × Value → Type 0
  IsLast no_exprs x r = (r.0 ≡ no_expressions) × (r.1 ≡ x.value)
  IsLast (with_expr e es) x r =
      (r.0 ≢ no_expressions) × HasLast w.program w.function (sealed_all (seal w) r.0) (type_of_value w r.1) × IsValue w r.1

  last_more : (es : Exprs) (x y : Typed) (e : Expr) (r : Expressions) (v : Value) → IsOperand w y → IsLast es y (r, v) → IsLast (with_expr e es) x (with_expression y.tree r, v)
  last_more no_exprs x y e r v o l = (
    (λ same. cc),
    subst (λ es. HasLast w.program w.function (sealed_all (seal w) (with_expression y.tree es)) (type_of_value w v)) (sym l.0)
        (subst (λ v. Has w h y.tree (type_of_value w v)) (sym l.1) o.tree),
    subst (λ v. IsValue w v) (sym l.1) o.value,
  )
  last_more (with_expr d es) x y e no_expressions v o l = absurd (l.0 refl)
  last_more (with_expr d es) x y e (with_expression a b) v o l = ((λ same. cc), (type_of_value w y.value, o.tree, l.1), l.2)

  some_sealed : (r : Expressions) → r ≢ no_expressions → sealed_all (seal w) r ≢ no_expressions
  some_sealed no_expressions ne = absurd (ne refl)
  some_sealed (with_expression a b) ne = λ same. cc

  sequence_typed : (es : Exprs) (x : Typed) (r : Expressions × Value) → es ≢ no_exprs → IsOperand w x → IsLast es x r
      → IsForm w (operand (typed_as (tree.sequence x.tree r.0) r.1))
  sequence_typed no_exprs x r ne o l = absurd (ne refl)
  sequence_typed (with_expr e es) x r ne o l =
      as_operand w h (tree.sequence x.tree r.0) r.1 (type_of_value w x.value, o.tree, some_sealed r.0 l.0, l.1) l.2

  -- an operator in a row, and what follows
  joined_then : (x y : Typed) (f : Form) (s : Scopes) (r : Result Typed Refusal) (go : Typed → Typing Form)
      → (IsOperand w x → IsOperand w y → Gives (IsOperand w) r)
      → ((z : Typed) → Holds (Leads w IsKnownForm (λ g. IsOperand w z → IsForm w g) s) (go z))
      → Holds (Leads w IsKnownForm (λ g. (IsForm w f → IsOperand w y) → IsForm w f → IsOperand w x → IsForm w g) s) (and_then r go)
  joined_then x y f s (Ok z) go k rest = so w s (go z) (rest z) (λ g a more value form o. more (k o (value form)).is)
  joined_then x y f s (Err e) go k rest = refused w _

  -- a row behind its first operand

  row_then : (os : Operands) (c : Context) (at : ℕ) (f : Form) (s : Scopes) → IsState s → IsKnownForm f s
      → ((n : ℕ) → IsKnown s.shapes n → From (size n) s (typed_count w.bodies os n s))
      → ((x : Typed) (t : Scopes) → IsState t → Holds (Leads w IsKnownForm (λ g. IsOperand w x → IsForm w g) t) (typed_operands w.bodies os c at false x t))
      → From f s (if_size f (λ x. typed_count w.bodies os x s) (go_on (value_of at f s) (typed_operands w.bodies os c at false)))
  row_then os c at (size n) s st k counts rest = counts n k
  row_then os c at f s st k counts rest =
      follow w s (value_of at f s) _ (value_rule w h s at f st k) (λ x t g st2 k2.
      so w t _ (rest x t st2) (λ z a r value form. r (value form)))

  operand_then : (op : Infix) (os : Operands) (c : Context) (at own : ℕ) (begun : Bool) (x : Typed) (f : Form) (s : Scopes) → IsState s → IsKnownForm f s
      → ((z : Typed) (t : Scopes) → IsState t → Holds (Leads w IsKnownForm (λ g. IsOperand w z → IsForm w g) t) (typed_operands w.bodies os c at true z t))
      → Holds (Leads w IsKnownForm (λ g. IsForm w f → IsOperand w x → IsForm w g) s)
      (if_size f (λ n. Ok (sized x n, s))
      (go_on (value_of own f s) (λ y s. and_then (joined op at begun x y s) (λ z. typed_operands w.bodies os c at true z s))))
  operand_then op os c at own begun x (size n) s st k rest = found w s (sized x n) st k (λ a co complete o. (o, complete))
  operand_then op os c at own begun x f s st k rest =
      follow w s (value_of own f s) _ (value_rule w h s own f st k) (λ y t g st2 k2.
      joined_then x y f t (joined op at begun x y t) _ (λ o i. joined_rule w h op at begun x y t o i) (λ z. rest z t st2))

  -- a struct behind the word and the tag
  struct_then : (at x : ℕ) (s : Scopes) (r : Typing Members) → declared.IsStruct w h x s → Holds (Leads w (declared.AreMembers w h) NoFact s) r
      → Holds (Leads w IsType (λ y. NoFact x → NoFact y) s) (go_on r (end_struct at x))
  struct_then at x s r k fields =
      follow w s r (end_struct at x) fields (λ ms t g st2 ks.
      so w t _ (declared.end_rule w h at x ms t st2 (g.kept x _ k) ks) (λ y a r n1 n2. tt))

  mutual
    pub expr_rule : (e : Expr) (c : Context) (s : Scopes) → IsSpelled e → IsState s → FindsForm s (typed_expr w.bodies e c s)
    expr_rule (name n) c s sp st = named_rule n c s st
    expr_rule (whole n) c s sp st =
        found w s (whole_form n) st tt (λ a co. record {
          tree = (refl, whole_in_range n.bytes sp);
          value = tt;
          zero = λ z. (whole_kind n.bytes, refl);
        })
    expr_rule (character n) c s sp st =
        found w s (character_form n) st tt (λ a co. as_operand w h (tree.constant Int (character_value n.bytes)) (integer Int) (refl, character_in_range n.bytes) tt)
    expr_rule (texts n ns) c s sp st =
        formed w s (literal_form n.at (all_characters (n ∷ ns)) c) st (literal_known s n.at (all_characters (n ∷ ns)) c)
        (λ a co. literal_rule w h n.at (all_characters (n ∷ ns)) c (literal_bytes (n ∷ ns) sp))
    expr_rule (nested at e) c s sp st = expr_rule e plain s sp st
    expr_rule (suffixed e ss) c s sp st =
        follow w s (typed_expr w.bodies e (context_before ss) s) _ (expr_rule e (context_before ss) s sp.0 st) (λ f t g st2 k.
        suffixes_rule ss (at_of e) f t sp.1 st2 k)
    expr_rule (prefixed at p e) c s sp st =
        follow w s (typed_expr w.bodies e plain s) _ (expr_rule e plain s sp st) (λ f t g st2 k. prefix_rule p at c e f t st2 k)
    expr_rule (size_of at t) c s sp st =
        follow w s (typed_name w.bodies t s) _ (name_type_rule t s sp st) (λ x u g st2 k.
        follow w u (sized_type (type_name_at t) x u) _ (declared.sized_rule w h (type_name_at t) x u st2) (λ y v g2 st3 k2.
        formed w v (size_form at c y) st3 (size_known v at c y k2) (λ a co. under _ (λ complete. under _ (λ nothing. size_rule w h at c y complete)))))
    expr_rule (cast at t e) c s sp st =
        follow w s (typed_name w.bodies t s) _ (name_type_rule t s sp.0 st) (λ x u g st2 k.
        follow w u (named_whole (type_name_at t) x u) _ (declared.named_whole_rule w h (type_name_at t) x u st2 k) (λ y v g2 st3 k2.
        follow w v (used (at_of e) (typed_expr w.bodies e plain v)) _ (used_rule w h v (at_of e) _ (expr_rule e plain v sp.1 st3)) (λ z u2 g3 st4 k3.
        formed w u2 (cast_form (shape_of u2.shapes y) at y z) st4 (cast_known u2 st4.shapes (shape_of u2.shapes y) at y z)
        (λ a co. under _ (λ o. under _ (λ n1. under _ (λ n2. cast_rule w h (shape_of u2.shapes y) at y z o)))))))
    expr_rule (row l e os) c s sp st =
        follow w s (typed_expr w.bodies e (first_context c e os) s) _ (expr_rule e (first_context c e os) s sp.0 st) (λ f t g st2 k.
        row_then os c (at_of e) f t st2 k (λ n known. count_rule os n t sp.1 st2 known) (λ x u st3. operands_rule os c (at_of e) false x u sp.1 st3))
    expr_rule (conditional e a b) c s sp st =
        follow w s (used (at_of e) (typed_expr w.bodies e plain s)) _ (used_rule w h s (at_of e) _ (expr_rule e plain s sp.0 st)) (λ x t g st2 k.
        follow w t (used (at_of a) (typed_expr w.bodies a plain t)) _ (used_rule w h t (at_of a) _ (expr_rule a plain t sp.1 st2)) (λ y u g2 st3 k2.
        follow w u (used (at_of b) (typed_expr w.bodies b plain u)) _ (used_rule w h u (at_of b) _ (expr_rule b plain u sp.2 st3)) (λ z v g3 st4 k3.
        formed w v (choice_form (at_of e) (at_of e) x y z) st4 (choice_known v st4.shapes (at_of e) (at_of e) x y z)
        (λ ag co. under _ (λ oz. under _ (λ oy. under _ (λ ox. choice_rule w h (at_of e) (at_of e) x y z ox oy oz)))))))
    expr_rule (assign op x e) c s sp st =
        follow w s (typed_expr w.bodies x plain s) _ (expr_rule x plain s sp.0 st) (λ f t g st2 k.
        follow w t (used (at_of e) (typed_expr w.bodies e plain t)) _ (used_rule w h t (at_of e) _ (expr_rule e plain t sp.1 st2)) (λ y u g2 st3 k2.
        so w u _ (assign_rule w h op (at_of x) f y u st3 (form_on w.last t u f g2 k)) (λ z ag r oy i. r i oy)))
    expr_rule (sequence e es) c s sp st =
        follow w s (used (at_of e) (typed_expr w.bodies e plain s)) _ (used_rule w h s (at_of e) _ (expr_rule e plain s sp.0 st)) (λ x t g st2 k.
        follow w t (typed_exprs w.bodies es x t) _ (exprs_rule es x t sp.2 st2) (λ r u g2 st3 k2.
        found w u (operand (typed_as (tree.sequence x.tree r.0) r.1)) st3 tt (λ a co last o. sequence_typed es x r sp.1 o (last o))))

    exprs_rule : (es : Exprs) (x : Typed) (s : Scopes) → AreSpelled es → IsState s
        → Holds (Leads w Anything (λ r. IsOperand w x → IsLast es x r) s) (typed_exprs w.bodies es x s)
    exprs_rule no_exprs x s sp st = found w s (no_expressions, x.value) st tt (λ a co o. (refl, refl))
    exprs_rule (with_expr e es) x s sp st =
        follow w s (used (at_of e) (typed_expr w.bodies e plain s)) _ (used_rule w h s (at_of e) _ (expr_rule e plain s sp.0 st)) (λ y t g st2 k.
        follow w t (typed_exprs w.bodies es y t) _ (exprs_rule es y t sp.1 st2) (λ r u g2 st3 k2.
        found w u (with_expression y.tree r.0, r.1) st3 tt (λ a co last oy ox. last_more es x y e r.0 r.1 oy (last oy))))

    operands_rule : (os : Operands) (c : Context) (at : ℕ) (begun : Bool) (x : Typed) (s : Scopes) → AreSpelledOperands os → IsState s
        → Holds (Leads w IsKnownForm (λ f. IsOperand w x → IsForm w f) s) (typed_operands w.bodies os c at begun x s)
    operands_rule no_operands c at begun x s sp st = found w s (operand x) st tt (λ a co o. o)
    operands_rule (with_operand op e os) c at begun x s sp st =
        follow w s (typed_expr w.bodies e (last_context c op e os) s) _ (expr_rule e (last_context c op e os) s sp.0 st) (λ f t g st2 k.
        operand_then op os c at (at_of e) begun x f t st2 k (λ z u st3. operands_rule os c at true z u sp.1 st3))

    count_rule : (os : Operands) (n : ℕ) (s : Scopes) → AreSpelledOperands os → IsState s → IsKnown s.shapes n → From (size n) s (typed_count w.bodies os n s)
    count_rule no_operands n s sp st k = found w s (size n) st k (λ a co i. i)
    count_rule (with_operand op e os) n s sp st k =
        follow w s (used (at_of e) (typed_expr w.bodies e plain s)) _ (used_rule w h s (at_of e) _ (expr_rule e plain s sp.0 st)) (λ y t g st2 k2.
        found w t (sized y n) st2 (known_on w.last s.shapes t.shapes n g k) (λ a co o complete. (o, complete)))

    suffixes_rule : (xs : Suffixes) (at : ℕ) (f : Form) (s : Scopes) → AreSpelledSuffixes xs → IsState s → IsKnownForm f s → From f s (typed_suffixes w.bodies xs at f s)
    suffixes_rule no_suffixes at f s sp st k = found w s f st k (λ a co i. i)
    suffixes_rule (with_suffix x xs) at f s sp st k =
        follow w s (typed_suffix w.bodies x at f s) _ (suffix_rule x at f s sp.0 st k) (λ g t go st2 k2.
        so w t _ (suffixes_rule xs at g t sp.1 st2 k2) (λ z a last first i. last (first i)))

    suffix_rule : (x : Suffix) (at : ℕ) (f : Form) (s : Scopes) → IsSpelledSuffix x → IsState s → IsKnownForm f s → From f s (typed_suffix w.bodies x at f s)
    suffix_rule (index e) at f s sp st k =
        follow w s (value_of at f s) _ (value_rule w h s at f st k) (λ x t g st2 k2.
        follow w t (used (at_of e) (typed_expr w.bodies e plain t)) _ (used_rule w h t (at_of e) _ (expr_rule e plain t sp st2)) (λ y u g2 st3 k3.
        formed w u _ st3 (index_known u st3.shapes at x y x.value y.value) (λ a co. under _ (λ oy. under _ (λ value. under _ (λ i. index_rule w h at u x y co (value i) oy))))))
    suffix_rule (call es) at f s sp st k =
        follow w s (typed_arguments w.bodies es f (count_of_exprs es) 0 s) _ (arguments_rule es f (count_of_exprs es) 0 s sp st) (λ args t g st2 k2.
        so w t _ (call_rule w h at f args t st2 k2) (λ z a r forms i. r i forms))
    suffix_rule (member n) at f s sp st k =
        formed w s (member_form at n f s) st (member_form_known s st.shapes at n f) (λ a co. under _ (λ i. member_rule w h s st.shapes co at n f i))
    suffix_rule (arrow n) at f s sp st k =
        follow w s (value_of at f s) _ (value_rule w h s at f st k) (λ x t g st2 k2.
        formed w t _ st2 (arrow_known t st2.shapes at n x x.value) (λ a co. under _ (λ value. under _ (λ i. arrow_rule w h t st2.shapes co at n x (value i)))))
    suffix_rule increased at f s sp st k =
        formed w s _ st (increment_known s st.shapes false Forward at at f) (λ a co. under _ (λ i. increment_rule w h false Forward at at f s co i))
    suffix_rule decreased at f s sp st k =
        formed w s _ st (increment_known s st.shapes false Back at at f) (λ a co. under _ (λ i. increment_rule w h false Back at at f s co i))

    arguments_rule : (es : Exprs) (f : Form) (n k : ℕ) (s : Scopes) → AreSpelled es → IsState s
        → Holds (Leads w AreKnown (AreForms w h) s) (typed_arguments w.bodies es f n k s)
    arguments_rule no_exprs f n k s sp st = found w s [] st tt (λ a co. tt)
    arguments_rule (with_expr e es) f n k s sp st =
        follow w s (typed_expr w.bodies e (argument_context f n k) s) _ (expr_rule e (argument_context f n k) s sp.0 st) (λ x t g st2 k2.
        follow w t (typed_arguments w.bodies es f n (suc k) t) _ (arguments_rule es f n (suc k) t sp.1 st2) (λ xs u g2 st3 k3.
        found w u (record { at = at_of e; form = x } ∷ xs) st3 (form_on w.last t u x g2 k2, k3) (λ a co rest first. (first, rest))))

    -- types

    pub base_rule : (b : Base) (s : Scopes) → IsSpelledBase b → IsState s → FindsType s (typed_base w.bodies b s)
    base_rule (kind at ks) s sp st = found w s _ st (kind_known s.shapes (kind_of ks) st.shapes) (λ a co. tt)
    base_rule (void at cs) s sp st = found w s VOID st (void_known s.shapes st.shapes) (λ a co. tt)
    base_rule (typedef_name at n cs) s sp st = declared.named_rule w h n.at n.bytes s st
    base_rule (tag at sort n cs) s sp st = declared.tagged_rule w h sort at n s st
    base_rule (structure at n fs cs) s sp st =
        follow w s (begin_struct n s) _ (declared.begin_rule w h n s st) (λ x t g st2 k.
        struct_then at x t (typed_fields w.bodies fs no_members t) k (fields_rule fs no_members t sp st2 tt))
    base_rule (enumeration at n xs cs) s sp st =
        follow w s (Rattle.porch_check.specs.Declarations.begin_enum at n s) _ (declared.begin_enum_rule w h at n s st) (λ x t g st2 k.
        follow w t (typed_constants w.bodies xs (pos 0) t) _ (constants_rule xs (pos 0) t sp st2) (λ next u g2 st3 k2.
        found w u x st3 (known_on w.last t.shapes u.shapes x g2 k) (λ a co n1 n2. tt)))

    fields_rule : (fs : Fields) (ms : Members) (s : Scopes) → AreSpelledFields fs → IsState s → declared.AreMembers w h ms s
        → Holds (Leads w (declared.AreMembers w h) NoFact s) (typed_fields w.bodies fs ms s)
    fields_rule no_fields ms s sp st k = found w s ms st k (λ a co. tt)
    fields_rule (with_field f fs) ms s sp st k =
        follow w s (typed_field w.bodies f ms s) _ (field_rule f ms s sp.0 st k) (λ ns t g st2 k2.
        so w t _ (fields_rule fs ns t sp.1 st2 k2) (λ y a r n1. tt))

    field_rule : (f : Field) (ms : Members) (s : Scopes) → IsSpelledField f → IsState s → declared.AreMembers w h ms s
        → Holds (Leads w (declared.AreMembers w h) NoFact s) (typed_field w.bodies f ms s)
    field_rule (field b ds) ms s sp st k =
        follow w s (typed_base w.bodies b s) _ (base_rule b s sp.0 st) (λ x t g st2 k2.
        so w t _ (members_rule ds x ms t sp.1 st2 k2 (declared.members_later w h s t ms g k)) (λ y a r n1. tt))

    members_rule : (ds : Declarators) (x : ℕ) (ms : Members) (s : Scopes) → AreSpelledDeclarators ds → IsState s → IsType x s → declared.AreMembers w h ms s
        → Holds (Leads w (declared.AreMembers w h) NoFact s) (typed_members w.bodies ds x ms s)
    members_rule no_declarators x ms s sp st k ks = found w s ms st ks (λ a co. tt)
    members_rule (with_declarator d ds) x ms s sp st k ks =
        follow w s (typed_member w.bodies d x ms s) _ (member_of_rule d x ms s sp.0 st k ks) (λ ns t g st2 ks2.
        so w t _ (members_rule ds x ns t sp.1 st2 (known_on w.last s.shapes t.shapes x g k) ks2) (λ y a r n1. tt))

    member_of_rule : (d : Declarator) (x : ℕ) (ms : Members) (s : Scopes) → IsSpelledDeclarator d → IsState s → IsType x s → declared.AreMembers w h ms s
        → Holds (Leads w (declared.AreMembers w h) NoFact s) (typed_member w.bodies d x ms s)
    member_of_rule (declarator at stars c bs) x ms s sp st k ks =
        follow w s (typed_core w.bodies c s) _ (core_rule c s sp.0 st) (λ d t g st2 kd.
        follow w t (typed_brackets w.bodies bs at t) _ (brackets_rule bs at t sp.1 st2) (λ ps u g2 st3 kp.
        follow w u (type_of_parts (d.parts ++ ps ++ stars_of at stars) x u) _
        (declared.type_rule w h (d.parts ++ ps ++ stars_of at stars) x u st3 (known_on w.last t.shapes u.shapes x g2 (known_on w.last s.shapes t.shapes x g k))
        (declared.all_parts w h d.parts ps at stars u (declared.parts_later w h t u d.parts g2 kd) kp)) (λ y v g3 st4 ky.
        so w v _ (declared.member_rule w h at d.name y ms v st4 ky (declared.members_later w h u v ms g3 (declared.members_later w h t u ms g2 (declared.members_later w h s t ms g ks))))
        (λ z a r n1 n2 n3. tt))))

    constants_rule : (xs : Constants) (next : ℤ) (s : Scopes) → AreSpelledConstants xs → IsState s → Holds (Leads w Anything NoFact s) (typed_constants w.bodies xs next s)
    constants_rule no_constants next s sp st = found w s next st tt (λ a co. tt)
    constants_rule (with_constant x xs) next s sp st =
        follow w s (typed_constant w.bodies x next s) _ (constant_rule x next s sp.0 st) (λ n t g st2 k.
        so w t _ (constants_rule xs n t sp.1 st2) (λ y a r n1. tt))

    constant_rule : (x : Constant) (next : ℤ) (s : Scopes) → IsSpelledConstant x → IsState s → Holds (Leads w Anything NoFact s) (typed_constant w.bodies x next s)
    constant_rule (constant n absent) next s sp st = declared.new_rule w h _ n s _ (declared.enumerated_rule w h n.at n next s st)
    constant_rule (constant n (present e)) next s sp st =
        declared.new_rule w h _ n s _
        (follow w s (used (at_of e) (typed_expr w.bodies e plain s)) _ (used_rule w h s (at_of e) _ (expr_rule e plain s sp st)) (λ x t g st2 k.
        declared.constant_rule w h _ (at_of e) x _ (λ kind z. so w t _ (declared.enumerated_rule w h (at_of e) n z t st2) (λ y a r n1. tt))))

    -- declarators

    pub declarator_rule : (d : Declarator) (s : Scopes) → IsSpelledDeclarator d → IsState s → Holds (Leads w IsDeclared NoFact s) (typed_declarator w.bodies d s)
    declarator_rule (declarator at stars c bs) s sp st =
        follow w s (typed_core w.bodies c s) _ (core_rule c s sp.0 st) (λ d t g st2 kd.
        follow w t (typed_brackets w.bodies bs at t) _ (brackets_rule bs at t sp.1 st2) (λ ps u g2 st3 kp.
        found w u _ st3 (declared.all_parts w h d.parts ps at stars u (declared.parts_later w h t u d.parts g2 kd) kp) (λ a co n1 n2. tt)))

    core_rule : (c : Core) (s : Scopes) → IsSpelledCore c → IsState s → Holds (Leads w IsDeclared NoFact s) (typed_core w.bodies c s)
    core_rule lacking s sp st = found w s _ st tt (λ a co. tt)
    core_rule (named n) s sp st = found w s _ st tt (λ a co. tt)
    core_rule (inner at d) s sp st = declarator_rule d s sp st

    brackets_rule : (bs : Brackets) (at : ℕ) (s : Scopes) → AreSpelledBrackets bs → IsState s → Holds (Leads w AreParts NoFact s) (typed_brackets w.bodies bs at s)
    brackets_rule no_brackets at s sp st = found w s [] st tt (λ a co. tt)
    brackets_rule (with_bracket b bs) at s sp st =
        follow w s (typed_bracket w.bodies b at s) _ (bracket_rule b at s sp.0 st) (λ p t g st2 kp.
        follow w t (typed_brackets w.bodies bs at t) _ (brackets_rule bs at t sp.1 st2) (λ ps u g2 st3 kps.
        found w u (p ∷ ps) st3 ((declared.parts_later w h t u (p ∷ []) g2 (kp, tt)).0, kps) (λ a co n1 n2. tt)))

    bracket_rule : (b : Bracket) (at : ℕ) (s : Scopes) → IsSpelledBracket b → IsState s → Holds (Leads w IsPart NoFact s) (typed_bracket w.bodies b at s)
    bracket_rule (count absent) at s sp st = found w s (counted at None) st tt (λ a co. tt)
    bracket_rule (count (present e)) at s sp st =
        follow w s (used (at_of e) (typed_expr w.bodies e plain s)) _ (used_rule w h s (at_of e) _ (expr_rule e plain s sp st)) (λ x t g st2 k.
        pure w t (count_of (at_of e) x) (λ n. counted at (Some n)) st2 (gives_all _ (λ n. tt)) (λ a co. gives_all _ (λ n n1. tt)))
    bracket_rule empty_list at s sp st = found w s (listed at [] (new_scope [])) st (tt, record { names = λ x m e. absurd (cc); tags = λ x t e. absurd (cc) }) (λ a co. tt)
    bracket_rule void_list at s sp st = found w s (listed at [] (new_scope [])) st (tt, record { names = λ x m e. absurd (cc); tags = λ x t e. absurd (cc) }) (λ a co. tt)
    bracket_rule (param_list ps) at s sp st =
        declared.list_rule w h at (new_scope (params_braces ps)) s _ st
        (params_rule ps 0 (entered (new_scope (params_braces ps)) s) sp
        (record { shapes = st.shapes; inner = record { names = λ x m e. absurd (cc); tags = λ x t e. absurd (cc) }; outer = (st.inner, st.outer) }))

    params_rule : (ps : Params) (k : ℕ) (s : Scopes) → AreSpelledParams ps → IsState s
        → Holds (Passes w (λ qs t. Each (λ (p : Parameter). IsKnown t.shapes p.shape) qs) s) (typed_params w.bodies ps k s)
    params_rule no_params k s sp st = passed w s [] st tt
    params_rule (with_param p ps) k s sp st =
        pass_on w s (typed_param w.bodies p k s) _ (param_rule p k s sp.0 st) (λ x t g st2 kx.
        pass_on w t (typed_params w.bodies ps (suc k) t) _ (params_rule ps (suc k) t sp.1 st2) (λ xs u g2 st3 kxs.
        passed w u (x ∷ xs) st3 (known_on w.last t.shapes u.shapes x.shape g2 kx, kxs)))

    param_rule : (p : Param) (k : ℕ) (s : Scopes) → IsSpelledParam p → IsState s → Holds (Passes w (declared.IsParameter w h) s) (typed_param w.bodies p k s)
    param_rule (param b d) k s sp st =
        pass_on w s (typed_base w.bodies b s) _ (passing w s _ (base_rule b s sp.0 st)) (λ x t g st2 kx.
        pass_on w t (typed_declarator w.bodies d t) _ (passing w t _ (declarator_rule d t sp.1 st2)) (λ d u g2 st3 kd.
        pass_on w u (type_of_parts d.parts x u) _ (passing w u _ (declared.type_rule w h d.parts x u st3 (known_on w.last t.shapes u.shapes x g2 kx) kd)) (λ y v g3 st4 ky.
        declared.declared_parameter_rule w h (base_at b) k d.name y v st4 ky)))

    pub name_type_rule : (t : TypeName) (s : Scopes) → IsSpelledName t → IsState s → FindsType s (typed_name w.bodies t s)
    name_type_rule (type_name b d) s sp st =
        follow w s (typed_base w.bodies b s) _ (base_rule b s sp.0 st) (λ x t g st2 kx.
        follow w t (typed_declarator w.bodies d t) _ (declarator_rule d t sp.1 st2) (λ d u g2 st3 kd.
        so w u _ (declared.type_rule w h (map (part_at (base_at b)) d.parts) x u st3 (known_on w.last t.shapes u.shapes x g2 kx) (declared.placed_parts w h (base_at b) d.parts u kd))
        (λ y a r n1 n2. tt)))

  pub declarators_rule : DeclaratorsGoOn w
  declarators_rule =
      record { bases = base_rule; names = name_type_rule; declarators = declarator_rule; types = declared.type_rule w h }
