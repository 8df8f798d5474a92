-- Whole texts: items in their order, then main, then the sum over the globals, and last the numbers of the types.
use Rattle.std.specs.Prelude.{ℕ, ◌+◌, nat_eq, nat_le, suc, Bool, false, ◌&&◌, if◌then◌else◌, List, [], ◌∷◌, ◌++◌, length, map, codes, Option, Some, None, is_some, Result, Ok}
use Rattle.std.specs.Option.{option_map_or}
use Rattle.std.specs.List.{list_any}
use Rattle.std.specs.Str.{bytes_eq}
use Rattle.porch_lex.specs.declared.refusal.Refusal.{Refusal}
use Rattle.porch_lex.specs.declared.refusal.Rule.TheVariants.{Twice, Mismatch, NoMain, TooLarge}
use Rattle.porch_types.specs.Kinds.{int_type}
use Rattle.porch_tree.specs.Pieces.{definition_pieces}
use Rattle.porch_tree.specs.Mirror.{Name, Declarator, declarator, Core, lacking, named, inner, Definition, Item, typedef, declaration, function, TranslationUnit}
use Rattle.porch_typed.specs.declared.typed.GlobalVariable.{GlobalVariable}
use Rattle.porch_typed.specs.Typed.{MOST_GLOBAL_LEAVES}
use Rattle.porch_typed.specs.Mirror.{Function, Program}
use Rattle.porch_check.specs.Refusals.{refuse, and_then}
use Rattle.porch_check.specs.Shapes.{Shape, Shapes, shape_of, size_of, VOID}
use Rattle.porch_check.specs.Shapes as shape
use Rattle.porch_check.specs.Scopes.{Meaning, Scope, Scopes, hindrance, with_name, first_scopes, entered, left}
use Rattle.porch_check.specs.Scopes as scope
use Rattle.porch_check.specs.Operands.{Typing, go_on}
use Rattle.porch_check.specs.Braces.{unit_braces}
use Rattle.porch_check.specs.Declarations.{base_at, Part, listed, Parameter, type_of_parts, if_new}
use Rattle.porch_check.specs.Expressions.{typed_base, typed_declarator}
use Rattle.porch_check.specs.Statements.{declared_function, declarator_at, typed_declaration, typed_declarations, typed_stmts, with_statements}
use Rattle.porch_check.specs.Sealing.{number_of, sealed_types, sealed_global, sealed_function}

-- The names of the functions that have a body, in the order of the bodies: the numbers of the functions.

abbrev mutual
  pub core_name : Core → List ℕ
  core_name lacking = []
  core_name (named n) = n.bytes
  core_name (inner at d) = declarator_name d

  pub declarator_name : Declarator → List ℕ
  declarator_name (declarator at stars c bs) = core_name c

abbrev pub bodies_of : TranslationUnit → List (List ℕ)
bodies_of [] = []
bodies_of (function f ∷ xs) = declarator_name f.declarator ∷ bodies_of xs
bodies_of (x ∷ xs) = bodies_of xs

-- Typedefs.

abbrev pub declared_type : (at : ℕ) → Option Name → (shape : ℕ) → Scopes → Typing ℕ
declared_type at None x s = refuse Mismatch at
declared_type at (Some n) x s = if_new n s (Ok (x, with_name n.bytes (scope.type_name x) s))

-- Functions with a body.

-- the place of a function's first token
abbrev pub definition_at : Definition → ℕ
definition_at f = option_map_or (λ at. at) f.fixed (base_at f.base)

-- none of a function's parameters lacks a name
abbrev pub all_have_names : List Parameter → Result ℕ Refusal
all_have_names [] = Ok 0
all_have_names (p ∷ ps) = if is_some p.name then all_have_names ps else refuse Mismatch p.at

abbrev pub result_of : Shape → Option ℕ
result_of (shape.function result params) = if nat_eq result VOID then None else Some result
result_of t = None

-- of two functions of one name only one has a body
abbrev pub if_first_body : {A : Type 0} → Name → Scopes → Result A Refusal → Result A Refusal
if_first_body n s go =
    if list_any (λ (f : Function). bytes_eq n.bytes f.name) s.functions then refuse Twice n.at else go

abbrev pub with_definition : Function → Scopes → Scopes
with_definition f s = record s { variables = []; functions = s.functions ++ f ∷ [] }

-- behind no declarator of a function; a name that is declared already is Twice
abbrev pub no_function : (first : ℕ) → Name → Shape → Option Meaning → Typing ℕ
no_function first n t None = refuse Mismatch first
no_function first n (shape.function r ps) (Some scope.function) = refuse Mismatch first
no_function first n t m = refuse Twice n.at

module _ (bodies : List (List ℕ)) where
  -- The body stands in the scope of the parameters, which are the first variables.
  abbrev pub typed_body : Definition → Name → Shape → List Parameter → Scope → Scopes → Typing ℕ
  typed_body f n t ps own s =
      let start = record (entered own s) { variables = map (λ (p : Parameter). p.shape) ps } in
      go_on (typed_declarations bodies f.declarations start) (λ first s2.
      go_on (typed_stmts bodies f.body (record { leaves = false; rounds = false; result = result_of t }) s2) (λ rest s2.
      Ok (
        0,
        with_definition
            (record {
              name = n.bytes;
              result = result_of t;
              params = length ps;
              variables = s2.variables;
              body = with_statements first rest;
              tokens = length (definition_pieces f []);
            })
            (left s s2),
      )))

  -- what stands directly round the name is its parameter list
  abbrev pub typed_function : Definition → Name → List Part → (shape : ℕ) → Scopes → Typing ℕ
  typed_function f n (listed at ps own ∷ parts) x s =
      if_first_body n s
      (go_on (declared_function n x s) (λ y s.
      and_then (all_have_names ps) (λ k. typed_body f n (shape_of s.shapes x) ps own s)))
  typed_function f n parts x s = no_function (definition_at f) n (shape_of s.shapes x) (hindrance n.bytes s)

  abbrev pub named_function : Definition → Option Name → List Part → (shape : ℕ) → Scopes → Typing ℕ
  named_function f None parts x s = refuse Mismatch (definition_at f)
  named_function f (Some n) parts x s = typed_function f n parts x s

  abbrev pub typed_item : Item → Scopes → Typing ℕ
  typed_item (typedef b d) s =
      go_on (typed_base bodies b s) (λ x s. go_on (typed_declarator bodies d s) (λ y s.
      go_on (type_of_parts y.parts x s) (λ x s. declared_type (declarator_at d) y.name x s)))
  typed_item (declaration d) s = go_on (typed_declaration bodies d s) (λ ss s. Ok (0, s))
  typed_item (function f) s =
      go_on (typed_base bodies f.base s) (λ x s. go_on (typed_declarator bodies f.declarator s) (λ y s.
      go_on (type_of_parts y.parts x s) (λ x s. named_function f y.name y.parts x s)))

  abbrev pub typed_items : TranslationUnit → Scopes → Typing ℕ
  typed_items [] s = Ok (0, s)
  typed_items (x ∷ xs) s = go_on (typed_item x s) (λ n s. typed_items xs s)

-- `int main(void)` with a body
abbrev pub is_main : Function → Bool
is_main f = bytes_eq (codes "main") f.name && nat_eq f.params 0 && option_map_or (nat_eq int_type) f.result false

abbrev pub main_of : List Function → Option ℕ
main_of [] = None
main_of (f ∷ fs) = if is_main f then Some 0 else option_map_or (λ n. Some (suc n)) (main_of fs) None

abbrev pub if_main : {A : Type 0} → Option ℕ → (end : ℕ) → (ℕ → Result A Refusal) → Result A Refusal
if_main None end go = refuse NoMain end
if_main (Some n) end go = go n

-- The entry with which the leaves of all globals pass their limit, where some do.
abbrev pub if_few_leaves : {A : Type 0} → Shapes → List GlobalVariable → (entries : List ℕ) → (before : ℕ) → Result A Refusal → Result A Refusal
if_few_leaves s (g ∷ gs) (at ∷ ats) before go =
    let leaves = before + size_of s g.ty in
    if nat_le leaves MOST_GLOBAL_LEAVES then if_few_leaves s gs ats leaves go else refuse TooLarge at
if_few_leaves s gs ats before go = go

abbrev pub sealed_program : (main : ℕ) → Scopes → Program
sealed_program main s =
    let types = sealed_types s.shapes in
    record {
      types = types.types;
      pointers = types.pointers;
      globals = map (sealed_global (number_of s.shapes)) s.globals;
      functions = map (sealed_function (number_of s.shapes)) s.functions;
      main = main;
    }

-- The typed program of a text's tree, or the first rule that it breaks; the text ends at this place.
abbrev pub checked_unit : (end : ℕ) → TranslationUnit → Result Program Refusal
checked_unit end u =
    and_then (typed_items (bodies_of u) u (first_scopes (unit_braces u))) (λ r.
    if_main (main_of (r.1).functions) end (λ main.
    if_few_leaves (r.1).shapes (r.1).globals (r.1).entries 0 (Ok (sealed_program main r.1))))
