-- Initialisers: values of automatic objects, and constants of global and of braced ones, where braces of inner parts may
-- be left out as in C90. `at` is the place of the initialiser.
use Rattle.std.specs.Prelude.{ℕ, zero, suc, ◌+◌, ◌*◌, ◌==◌, ℤ, pos, int_lt, int_le, nat_eq, nat_le, nat_lt, unsigned_abs, Bool, true, false, not, ◌||◌, ◌&&◌, if◌then◌else◌, List, [], ◌∷◌, ◌++◌, length, slice_get, Option, Some, None, Result, Ok, Err}
use Rattle.std.specs.Option.{option_map, option_map_or}
use Rattle.porch_lex.specs.declared.refusal.Refusal.{Refusal}
use Rattle.porch_lex.specs.declared.refusal.Rule.TheVariants.{Mismatch, TooLarge}
use Rattle.porch_types.specs.declared.shapes.Kind.{Kind}
use Rattle.porch_types.specs.declared.shapes.Kind.TheVariants.{Char}
use Rattle.porch_types.specs.Kinds.{kind_number}
use Rattle.porch_types.specs.Leaves.{MOST_LEAVES}
use Rattle.porch_values.specs.declared.acts.Act.{Act}
use Rattle.porch_values.specs.Integers.{converted, signed_bits}
use Rattle.porch_tree.specs.Pieces.{at_of}
use Rattle.porch_tree.specs.Mirror.{Name, Expr, texts, Initial, value, braced, Initials, no_initials, with_initial}
use Rattle.porch_typed.specs.declared.typed.Fill.{Fill}
use Rattle.porch_typed.specs.declared.typed.Fill.TheVariants as fill
use Rattle.porch_typed.specs.declared.typed.GlobalVariable.{GlobalVariable}
use Rattle.porch_typed.specs.declared.typed.Operator.TheVariants as operator
use Rattle.porch_typed.specs.Mirror.{Expression, Steps, no_steps, with_step, Place}
use Rattle.porch_typed.specs.Mirror as tree
use Rattle.porch_check.specs.Refusals.{refuse, and_then, found_or}
use Rattle.porch_check.specs.Shapes.{Shape, array, structure, Shapes, shape_of, size_of, members_of, Member}
use Rattle.porch_check.specs.Scopes.{Scopes, with_shape}
use Rattle.porch_check.specs.Operands.{Value, integer, address, Typed, plain, Typing, go_on, used, value_at, is_null, fitted}
use Rattle.porch_check.specs.Constants.{Folded, known, folded, both_widths, all_characters}
use Rattle.porch_check.specs.Expressions.{typed_expr}

-- the place of an initialiser
abbrev pub initial_at : Initial → ℕ
initial_at (value e) = at_of e
initial_at (braced at xs comma) = at

-- What an address constant names: a part of a global, by its first leaf and its type.
pub record GlobalPart : Type 0 where
  pub global : ℕ
  pub leaf : ℕ
  pub shape : ℕ

abbrev pub part_with : ℕ → ℕ → ℕ → GlobalPart
part_with g leaf n = record { global = g; leaf = leaf; shape = n }

abbrev pub if_some : {A B : Type 0} → Option A → (A → Option B) → Option B
if_some None go = None
if_some (Some x) go = go x

abbrev pub member_at : ℕ → List Member → Option ℕ
member_at leaf [] = None
member_at leaf (m ∷ ms) = if nat_eq leaf m.leaf then Some m.shape else member_at leaf ms

-- an element by a constant index
abbrev pub element_within : Shape → ℤ → GlobalPart → Scopes → Option GlobalPart
element_within (array of (Some n)) z p s =
    if int_le (pos 0) z && int_lt z (pos n)
    then Some (part_with p.global (p.leaf + unsigned_abs z * size_of s.shapes of) of)
    else None
element_within t z p s = None

abbrev pub element_at : Folded → Option GlobalPart → Scopes → Option GlobalPart
element_at (known z) (Some p) s = element_within (shape_of s.shapes p.shape) z p s
element_at f p s = None

abbrev mutual
  -- a global, a member of such a part, and an element by a constant index
  pub part_of : Place → Scopes → Option GlobalPart
  part_of (tree.variable v) s = None
  part_of (tree.global g) s = option_map (λ (x : GlobalVariable). part_with g 0 x.ty) (slice_get s.globals g)
  part_of (tree.pointee e) s = element_of e s
  part_of (tree.member leaf place) s =
      if_some (part_of place s) (λ p. option_map (part_with p.global (p.leaf + leaf)) (member_at leaf (members_of s.shapes p.shape)))

  pub element_of : Expression → Scopes → Option GlobalPart
  element_of (tree.row e steps) s = element_behind steps e (array_of e s) s
  element_of e s = None

  -- of an array and an index, in either order
  pub element_behind : Steps → Expression → Option GlobalPart → Scopes → Option GlobalPart
  element_behind (with_step (operator.Forward n) i no_steps) e p s = element_at (folded i) p s
  element_behind (with_step (operator.ForwardOf n) a no_steps) e p s = element_at (folded e) (array_of a s) s
  element_behind steps e p s = None

  pub array_of : Expression → Scopes → Option GlobalPart
  array_of (tree.first n place) s = part_of place s
  array_of e s = None

abbrev pub fill_at : Option GlobalPart → (at : ℕ) → Result Fill Refusal
fill_at (Some p) at = Ok (fill.Address p.global p.leaf)
fill_at None at = refuse Mismatch at

-- `&` of a global's part, and a global array's name
abbrev pub address_fill : (at : ℕ) → Expression → Scopes → Result Fill Refusal
address_fill at (tree.address n place) s = fill_at (part_of place s) at
address_fill at (tree.first n (tree.global g)) s = Ok (fill.Address g 0)
address_fill at e s = refuse Mismatch at

abbrev pub null_fill : (at : ℕ) → Expression → Result Fill Refusal
null_fill at (tree.constant k z) = Ok fill.Null
null_fill at e = refuse Mismatch at

-- a constant converted to the kind of its part
abbrev pub converted_fill : (at : ℕ) → Result ℤ Act → Result Fill Refusal
converted_fill at (Ok z) = Ok (fill.Constant z)
converted_fill at (Err a) = refuse Mismatch at

abbrev pub number_fill : (at : ℕ) → Kind → Folded → Result Fill Refusal
number_fill at kind (known z) = converted_fill at (converted kind both_widths z)
number_fill at kind f = refuse Mismatch at

abbrev pub pointer_fill : (at shape : ℕ) → Typed → Value → Scopes → Result Fill Refusal
pointer_fill at n x (address m to) s = if nat_eq n m then address_fill at x.tree s else refuse Mismatch at
pointer_fill at n x v s = if is_null x then null_fill at x.tree else refuse Mismatch at

-- What a scalar part begins with: a constant, null, or an address.
abbrev pub fill_of : (at : ℕ) → Value → Typed → Value → Scopes → Result Fill Refusal
fill_of at (integer kind) x (integer k) s = number_fill at kind (folded x.tree)
fill_of at (address n to) x v s = pointer_fill at n x v s
fill_of at target x v s = refuse Mismatch at

-- String literals.

-- the literals that an expression is, without parentheses
abbrev pub literal_of : Expr → Option (List Name)
literal_of (texts n ns) = Some (n ∷ ns)
literal_of e = None

abbrev pub is_char_array : Shape → Bool
is_char_array (array of n) = nat_eq of (kind_number Char)
is_char_array x = false

-- its bytes from a leaf on; what is left of the object is zero
abbrev pub byte_fills : (leaf : ℕ) → List ℕ → List (ℕ × Fill)
byte_fills leaf [] = []
byte_fills leaf (b ∷ bs) = (leaf, fill.Constant (signed_bits 8 (pos b))) ∷ byte_fills (suc leaf) bs

-- the 0 behind them is left off where an array with a count has no room for it
abbrev pub fits_in : Shape → List ℕ → Bool
fits_in (array of (Some n)) bs = nat_le (length bs) n
fits_in x bs = true

-- Braces. An item of them begins the next element of the innermost part that isn't full, and goes down from there.

-- an aggregate whose elements are being given: the next one's number, and its own first leaf
pub record Opened : Type 0 where
  pub shape : ℕ
  pub next : ℕ
  pub leaf : ℕ

abbrev pub opened : (shape leaf : ℕ) → Opened
opened n leaf = record { shape = n; next = 0; leaf = leaf }

-- the type of an element and its first leaf; a scalar is the one element of itself
abbrev pub element : Shapes → Shape → Opened → Option (ℕ × ℕ)
element s (array of (Some n)) o = if nat_lt o.next n then Some (of, o.leaf + o.next * size_of s of) else None
element s (array of None) o = Some (of, o.leaf + o.next * size_of s of)
element s (structure k) o = option_map (λ (m : Member). (m.shape, o.leaf + m.leaf)) (slice_get (members_of s o.shape) o.next)
element s x o = if o.next == 0 then Some (o.shape, o.leaf) else None

abbrev pub is_aggregate : Shape → Bool
is_aggregate (array of n) = true
is_aggregate (structure k) = true
is_aggregate x = false

-- where the next item goes: the element, its first leaf, and what is open behind it
pub record Next : Type 0 where
  pub shape : ℕ
  pub leaf : ℕ
  pub opens : List Opened

abbrev pub next_at : ℕ × ℕ → Opened → List Opened → Next
next_at x o os = record { shape = x.0; leaf = x.1; opens = record o { next = suc o.next } ∷ os }

abbrev pub or_next : Option (ℕ × ℕ) → Opened → List Opened → Option Next → Option Next
or_next (Some x) o os outer = Some (next_at x o os)
or_next None o os outer = outer

abbrev pub next_in : Shapes → List Opened → Option Next
next_in s [] = None
next_in s (o ∷ os) = or_next (element s (shape_of s o.shape) o) o os (next_in s os)

-- An item without braces goes down to a scalar, and a literal only to an array of char. No type is deeper than there are
-- types.
abbrev pub down_to : ℕ → (is_text : Bool) → Shapes → Next → Next
down_to zero is_text s x = x
down_to (suc depth) is_text s x =
    let t = shape_of s x.shape in
    if is_aggregate t && not (is_text && is_char_array t)
    then option_map_or (λ y. down_to depth is_text s y) (next_in s (opened x.shape x.leaf ∷ x.opens)) x
    else x

pub record Filling : Type 0 where
  pub opens : List Opened
  pub fills : List (ℕ × Fill)

abbrev pub is_text : Option (List Name) → Bool
is_text (Some ns) = true
is_text None = false

-- the number of elements that braces gave to their own object
abbrev pub given_count : List Opened → ℕ
given_count [] = 0
given_count (o ∷ []) = o.next
given_count (o ∷ os) = given_count os

abbrev pub with_fills : Filling → Next → List (ℕ × Fill) → Filling
with_fills x n fs = record { opens = n.opens; fills = x.fills ++ fs }

-- a literal for an array of char that braces stand round
abbrev pub is_braced_text : Shape → Initials → Bool
is_braced_text t (with_initial (value e) xs) = is_text (literal_of e) && is_char_array t
is_braced_text t xs = false

-- whether the braces are for a scalar
abbrev pub is_scalar_of : List Opened → Scopes → Bool
is_scalar_of [] s = false
is_scalar_of (o ∷ []) s = not (is_aggregate (shape_of s.shapes o.shape))
is_scalar_of (o ∷ os) s = false

module _ (bodies : List (List ℕ)) where
  abbrev pub typed_value : Expr → Scopes → Typing Typed
  typed_value e s = used (at_of e) (typed_expr bodies e plain s)

  -- a scalar part
  abbrev pub typed_fill : Expr → (shape : ℕ) → Scopes → Typing Fill
  typed_fill e n s =
      go_on (typed_value e s) (λ x s. and_then (fill_of (at_of e) (value_at s.shapes n) x x.value s) (λ f. Ok (f, s)))

  -- an array of char by a literal, and any other part by a constant
  abbrev pub fills_of : Option (List Name) → Expr → Shape → (shape leaf : ℕ) → Scopes → Typing (List (ℕ × Fill))
  fills_of (Some ns) e (array of n) x leaf s =
      if nat_eq of (kind_number Char)
      then (if fits_in (array of n) (all_characters ns) then Ok (byte_fills leaf (all_characters ns), s) else refuse Mismatch (at_of e))
      else go_on (typed_value e s) (λ y s. refuse Mismatch (at_of e))
  fills_of text e t x leaf s = go_on (typed_fill e x s) (λ f s. Ok ((leaf, f) ∷ [], s))

  abbrev pub typed_bare : Expr → Filling → Next → Scopes → Typing Filling
  typed_bare e filling n s =
      let d = down_to (length s.shapes.rows) (is_text (literal_of e)) s.shapes n in
      go_on (fills_of (literal_of e) e (shape_of s.shapes d.shape) d.shape d.leaf s) (λ fs s. Ok (with_fills filling d fs, s))

  -- an array of char in braces that begin with a literal: that is all of it
  abbrev pub braced_text : Expr → (at shape leaf : ℕ) → (more : Initials) → Scopes → Typing Filling
  braced_text e at n leaf no_initials s =
      go_on (fills_of (literal_of e) e (shape_of s.shapes n) n leaf s) (λ fs s.
      Ok (record { opens = record { shape = n; next = suc (length fs); leaf = leaf } ∷ []; fills = fs }, s))
  braced_text e at n leaf more s = go_on (fills_of (literal_of e) e (shape_of s.shapes n) n leaf s) (λ fs s. refuse Mismatch at)

  abbrev mutual
    -- the items of braces at a place; each begins a part, or there is none left
    pub typed_items : Initials → (at : ℕ) → Filling → Scopes → Typing Filling
    typed_items no_initials at filling s = Ok (filling, s)
    typed_items (with_initial x xs) at filling s =
        found_or (next_in s.shapes filling.opens) Mismatch at (λ n.
        go_on (typed_item x filling n s) (typed_items xs at))

    -- braces are for the element itself, which is no part of a scalar
    pub typed_item : Initial → Filling → Next → Scopes → Typing Filling
    typed_item (value e) filling n s = typed_bare e filling n s
    typed_item (braced at xs comma) filling n s =
        if is_scalar_of filling.opens s then refuse Mismatch at
        else go_on (typed_braces xs at n.shape n.leaf s) (λ inner s. Ok (with_fills filling n inner.fills, s))

    pub typed_braces : Initials → (at shape leaf : ℕ) → Scopes → Typing Filling
    typed_braces no_initials at n leaf s = Ok (record { opens = opened n leaf ∷ []; fills = [] }, s)
    typed_braces (with_initial x xs) at n leaf s =
        if is_braced_text (shape_of s.shapes n) (with_initial x xs) then typed_text x at n leaf xs s
        else found_or (next_in s.shapes (opened n leaf ∷ [])) Mismatch at (λ next.
        go_on (typed_item x (record { opens = opened n leaf ∷ []; fills = [] }) next s) (typed_items xs at))

    pub typed_text : Initial → (at shape leaf : ℕ) → (more : Initials) → Scopes → Typing Filling
    typed_text (value e) at n leaf more s = braced_text e at n leaf more s
    typed_text (braced k xs comma) at n leaf more s = refuse Mismatch at

-- What an object begins with, and its type, which an array without a count has from its initialiser.
pub data Begun : Type 0 where
  by_value : Expression → Begun
  by_fills : (shape : ℕ) → List (ℕ × Fill) → Begun

-- an array without a count has the count that its initialiser gives; `first` is the place of the literal or the first item
abbrev pub counted_type : (first : ℕ) → Shape → (shape count : ℕ) → Scopes → Typing ℕ
counted_type first (array of None) n count s =
    if nat_le (count * size_of s.shapes of) MOST_LEAVES then Ok (with_shape (array of (Some count)) s) else refuse TooLarge first
counted_type first t n count s = Ok (n, s)

abbrev pub first_at : (at : ℕ) → Initials → ℕ
first_at at no_initials = at
first_at at (with_initial x xs) = initial_at x

abbrev pub text_count : Option (List Name) → ℕ
text_count (Some ns) = suc (length (all_characters ns))
text_count None = 0

module _ (bodies : List (List ℕ)) where
  abbrev pub begun_by_fills : (first shape count : ℕ) → List (ℕ × Fill) → Scopes → Typing Begun
  begun_by_fills first n count fs s =
      go_on (counted_type first (shape_of s.shapes n) n count s) (λ n s. Ok (by_fills n fs, s))

  -- A global object begins with constants, and so does an array of char with a literal anywhere.
  abbrev pub constant_object : Expr → (shape : ℕ) → Scopes → Typing Begun
  constant_object e n s =
      go_on (fills_of bodies (literal_of e) e (shape_of s.shapes n) n 0 s) (λ fs s.
      begun_by_fills (at_of e) n (text_count (literal_of e)) fs s)

  -- an automatic scalar or struct begins with a value
  abbrev pub value_object : Expr → (shape : ℕ) → Scopes → Typing Begun
  value_object e n s =
      go_on (typed_value bodies e s) (λ x s. and_then (fitted (at_of e) n x s) (λ y. Ok (by_value y, s)))

  abbrev pub unbraced_object : (is_global : Bool) → Expr → (shape : ℕ) → Scopes → Typing Begun
  unbraced_object is_global e n s =
      if is_global || (is_text (literal_of e) && is_char_array (shape_of s.shapes n))
      then constant_object e n s
      else value_object e n s

  abbrev pub typed_initial : (is_global : Bool) → Initial → (shape : ℕ) → Scopes → Typing Begun
  typed_initial is_global (value e) n s = unbraced_object is_global e n s
  typed_initial is_global (braced at xs comma) n s =
      go_on (typed_braces bodies xs at n 0 s) (λ r s. begun_by_fills (first_at at xs) n (given_count r.opens) r.fills s)
