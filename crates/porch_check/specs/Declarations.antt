-- What bases and declarators declare: kinds, tags, members, enumeration constants, pointers, arrays and functions. `at` is
-- the place of the part that is broken where it doesn't fit.
use Rattle.std.specs.Prelude.{ℕ, ◌+◌, ℤ, pos, ◌+ℤ◌, int_le, nat_le, unsigned_abs, Bool, true, false, not, ◌&&◌, if◌then◌else◌, List, [], ◌∷◌, ◌++◌, map, Option, Some, None, is_some, Result, Ok}
use Rattle.std.specs.List.{list_any}
use Rattle.std.specs.Str.{bytes_eq}
use Rattle.porch_lex.specs.declared.refusal.Refusal.{Refusal}
use Rattle.porch_lex.specs.declared.refusal.Rule.TheVariants.{Unknown, Twice, Mismatch, StructValue, TooLarge}
use Rattle.porch_types.specs.declared.shapes.Kind.{Kind}
use Rattle.porch_types.specs.declared.shapes.Kind.TheVariants.{Char, UChar, Short, UShort, Int, UInt, Long, ULong}
use Rattle.porch_types.specs.Kinds.{int_type}
use Rattle.porch_types.specs.Leaves.{MOST_LEAVES}
use Rattle.porch_values.specs.Integers.{in_range}
use Rattle.porch_tree.specs.declared.tree.TagSort.{TagSort}
use Rattle.porch_tree.specs.declared.tree.TagSort.TheVariants.{Struct, Enum}
use Rattle.porch_tree.specs.declared.word.Keyword.{Keyword}
use Rattle.porch_tree.specs.declared.word.Keyword.TheVariants as key
use Rattle.porch_tree.specs.Mirror.{Name, Base, kind, void, typedef_name, tag, structure, enumeration, TypeName, type_name}
use Rattle.porch_check.specs.Refusals.{refuse}
use Rattle.porch_check.specs.Shapes.{Shape, pointer, array, function, Member, Shapes, shape_of, size_of, is_complete, is_ever_complete, completed, with_struct, VOID}
use Rattle.porch_check.specs.Shapes as shape
use Rattle.porch_check.specs.Scopes.{Meaning, Tag, Scope, Scopes, meaning_of, hindrance, tag_of, tag_here, with_name, with_tag, with_struct_tag, with_shape, with_shapes}
use Rattle.porch_check.specs.Scopes as scope
use Rattle.porch_check.specs.Operands.{Typed, Value, integer, Typing, go_on}
use Rattle.porch_check.specs.Constants.{Folded, known, folded}

-- the place of the first token of a base and of a type name

abbrev pub base_at : Base → ℕ
base_at (kind at ks) = at
base_at (void at cs) = at
base_at (typedef_name at n cs) = at
base_at (tag at sort n cs) = at
base_at (structure at n fs cs) = at
base_at (enumeration at n xs cs) = at

abbrev pub type_name_at : TypeName → ℕ
type_name_at (type_name b d) = base_at b

-- The kind that words name, in any order.

abbrev pub is_unsigned : Keyword → Bool
is_unsigned key.Unsigned = true
is_unsigned k = false

abbrev pub is_char : Keyword → Bool
is_char key.Char = true
is_char k = false

abbrev pub is_short : Keyword → Bool
is_short key.Short = true
is_short k = false

abbrev pub is_long : Keyword → Bool
is_long key.Long = true
is_long k = false

abbrev pub kind_of : List Keyword → Kind
kind_of ks =
    let unsigned = list_any is_unsigned ks in
    if list_any is_char ks then (if unsigned then UChar else Char)
    else if list_any is_short ks then (if unsigned then UShort else Short)
    else if list_any is_long ks then (if unsigned then ULong else Long)
    else if unsigned then UInt
    else Int

-- The value of a constant; Mismatch where there is none.
abbrev pub known_or : {A : Type 0} → (at : ℕ) → Folded → (ℤ → Result A Refusal) → Result A Refusal
known_or at (known z) go = go z
known_or at f go = refuse Mismatch at

abbrev pub constant_of : {A : Type 0} → (at : ℕ) → Typed → Value → (Kind → ℤ → Result A Refusal) → Result A Refusal
constant_of at x (integer k) go = known_or at (folded x.tree) (go k)
constant_of at x v go = refuse Mismatch at

abbrev pub with_constant : {A : Type 0} → (at : ℕ) → Typed → (Kind → ℤ → Result A Refusal) → Result A Refusal
with_constant at x go = constant_of at x x.value go

-- Typedef names and tags.

-- a name that is a type
abbrev pub named_type : (at : ℕ) → Option Meaning → Scopes → Typing ℕ
named_type at (Some (scope.type_name n)) s = Ok (n, s)
named_type at m s = refuse Unknown at

-- a tag that is used with the word of its declaration; an enumeration is int
abbrev pub tag_type : TagSort → (at : ℕ) → Tag → TagSort → Scopes → Typing ℕ
tag_type Struct at t Struct s = Ok (t.shape, s)
tag_type Enum at t Enum s = Ok (int_type, s)
tag_type sort at t other s = refuse Mismatch at

-- `struct u` without a brace declares the tag where none is visible, and `enum e` doesn't
abbrev pub tagged : TagSort → (at : ℕ) → Name → Option Tag → Scopes → Typing ℕ
tagged sort at n (Some t) s = tag_type sort at t t.sort s
tagged Struct at n None s = Ok (with_struct_tag n.bytes false s)
tagged Enum at n None s = refuse Unknown n.at

-- `struct u;` declares a tag of this scope
abbrev pub tag_alone : TagSort → (at : ℕ) → Name → Scopes → Typing ℕ
tag_alone Struct at n s = tagged Struct at n (tag_here n.bytes s) s
tag_alone Enum at n s = tagged Enum at n (tag_of n.bytes s) s

-- Structs with braces.

-- a tag in front of a brace; one of this scope may have been mentioned, and not with a brace
abbrev pub begun_struct : Name → Option Tag → Scopes → Typing ℕ
begun_struct n None s = Ok (with_struct_tag n.bytes true s)
begun_struct n (Some t) s =
    if t.begun then refuse Twice n.at
    else Ok (t.shape, with_tag (record { name = n.bytes; sort = Struct; shape = t.shape; begun = true }) s)

abbrev pub begin_struct : Option Name → Scopes → Typing ℕ
begin_struct (Some n) s = begun_struct n (tag_here n.bytes s) s
begin_struct None s = let r = with_struct false s.shapes in Ok (r.0, with_shapes r.1 s)

-- the members of a struct so far, and their leaves
pub record Members : Type 0 where
  pub list : List Member
  pub leaves : ℕ

abbrev pub no_members : Members
no_members = record { list = []; leaves = 0 }

abbrev pub with_member : Name → (shape : ℕ) → Members → Scopes → Members
with_member n x ms s =
    record {
      list = ms.list ++ record { name = n.bytes; shape = x; leaf = ms.leaves } ∷ [];
      leaves = ms.leaves + size_of s.shapes x;
    }

-- a member, by its declarator's place
abbrev pub declared_member : (at : ℕ) → Option Name → (shape : ℕ) → Members → Scopes → Typing Members
declared_member at None x ms s = refuse Mismatch at
declared_member at (Some n) x ms s =
    if list_any (λ (m : Member). bytes_eq n.bytes m.name) ms.list then refuse Twice n.at
    else if is_complete s.shapes x then Ok (with_member n x ms s, s)
    else refuse Mismatch at

-- behind the brace of a struct
abbrev pub end_struct : (at : ℕ) → (shape : ℕ) → Members → Scopes → Typing ℕ
end_struct at x ms s =
    if nat_le ms.leaves MOST_LEAVES then Ok (x, with_shapes (completed x ms.list ms.leaves s.shapes) s) else refuse TooLarge at

-- Enumerations.

-- a tag in front of a brace; a struct's that was only mentioned is used with the other word
abbrev pub begun_enum : (at : ℕ) → Name → Option Tag → Scopes → Typing ℕ
begun_enum at n None s = Ok (int_type, with_tag (record { name = n.bytes; sort = Enum; shape = int_type; begun = true }) s)
begun_enum at n (Some t) s = if t.begun then refuse Twice n.at else refuse Mismatch at

abbrev pub begin_enum : (at : ℕ) → Option Name → Scopes → Typing ℕ
begin_enum at None s = Ok (int_type, s)
begin_enum at (Some n) s = begun_enum at n (tag_here n.bytes s) s

-- an enumeration constant is an int; `at` is the place of its value, or its name's where it is counted up
abbrev pub enumerated : (at : ℕ) → Name → ℤ → Scopes → Typing ℤ
enumerated at n z s =
    if in_range Int 32 z then Ok (z +ℤ pos 1, with_name n.bytes (scope.enumerator z) s) else refuse Mismatch at

-- a name that this scope doesn't declare yet
abbrev pub if_new : {A : Type 0} → Name → Scopes → Result A Refusal → Result A Refusal
if_new n s go = if is_some (hindrance n.bytes s) then refuse Twice n.at else go

-- Declarators: what stands round a name, from the name outward.

pub record Parameter : Type 0 where
  pub at : ℕ
  pub name : Option Name
  pub shape : ℕ

-- each with the place of its declarator
pub data Part : Type 0 where
  star : (at : ℕ) → Part
  counted : (at : ℕ) → Option ℕ → Part
  -- a parameter list, with the scope at its end
  listed : (at : ℕ) → List Parameter → Scope → Part

pub record Declared : Type 0 where
  pub name : Option Name
  pub parts : List Part

abbrev pub stars_of : (at : ℕ) → List ℕ → List Part
stars_of at stars = map (λ k. star at) stars

-- in a type name all is placed at the type name
abbrev pub part_at : (at : ℕ) → Part → Part
part_at at (star k) = star at
part_at at (counted k n) = counted at n
part_at at (listed k ps s) = listed at ps s

-- an array's count: a constant of at least 1
abbrev pub count_of : (at : ℕ) → Typed → Result ℕ Refusal
count_of at x = with_constant at x (λ k z. if int_le (pos 1) z then Ok (unsigned_abs z) else refuse Mismatch at)

-- a pointee is no void and no function, and complete some time
abbrev pub pointer_type : (at to : ℕ) → Scopes → Typing ℕ
pointer_type at to s = if is_ever_complete s.shapes to then Ok (with_shape (pointer to) s) else refuse Mismatch at

-- a type of at most so many leaves
abbrev pub if_small : (at : ℕ) → ℕ × Scopes → Typing ℕ
if_small at r = if nat_le (size_of (r.1).shapes r.0) MOST_LEAVES then Ok r else refuse TooLarge at

abbrev pub array_type : (at of : ℕ) → Option ℕ → Scopes → Typing ℕ
array_type at of n s = if is_complete s.shapes of then if_small at (with_shape (array of n) s) else refuse Mismatch at

-- a result is void or a scalar
abbrev pub result_type : (at : ℕ) → Shape → (result : ℕ) → List Parameter → Scopes → Typing ℕ
result_type at (array of n) result ps s = refuse Mismatch at
result_type at (function r qs) result ps s = refuse Mismatch at
result_type at (shape.structure n) result ps s = refuse StructValue at
result_type at x result ps s = Ok (with_shape (function result (map (λ (p : Parameter). p.shape) ps)) s)

abbrev pub part_type : Part → ℕ → Scopes → Typing ℕ
part_type (star at) n s = pointer_type at n s
part_type (counted at k) n s = array_type at n k s
part_type (listed at ps scope) n s = result_type at (shape_of s.shapes n) n ps s

-- the type of a name that has these parts round it, where the base is a type
abbrev pub type_of_parts : List Part → (base : ℕ) → Scopes → Typing ℕ
type_of_parts [] base s = Ok (base, s)
type_of_parts (p ∷ ps) base s = go_on (type_of_parts ps base s) (part_type p)

-- Parameters. An array is a pointer to its first element.

abbrev pub parameter_type : (at : ℕ) → Shape → (shape : ℕ) → Scopes → Typing ℕ
parameter_type at (array of n) x s = Ok (with_shape (pointer of) s)
parameter_type at (shape.structure n) x s = refuse StructValue at
parameter_type at (shape.whole k) x s = Ok (x, s)
parameter_type at (pointer to) x s = Ok (x, s)
parameter_type at t x s = refuse Mismatch at

-- In its list a parameter is an object like any other.
abbrev pub with_parameter : Option Name → (number shape : ℕ) → Scopes → Scopes
with_parameter None k x s = s
with_parameter (Some n) k x s = with_name n.bytes (scope.variable k x) s

abbrev pub if_new_parameter : {A : Type 0} → Option Name → Scopes → Result A Refusal → Result A Refusal
if_new_parameter None s go = go
if_new_parameter (Some n) s go = if_new n s go

abbrev pub declared_parameter : (at number : ℕ) → Option Name → (shape : ℕ) → Scopes → Typing Parameter
declared_parameter at k n x s =
    if_new_parameter n s (go_on (parameter_type at (shape_of s.shapes x) x s) (λ x s.
    Ok (record { at = at; name = n; shape = x }, with_parameter n k x s)))

-- Type names: of a cast, and of an allocation.

-- incomplete, as an array without a count and a struct without members
abbrev pub is_incomplete : Shape → Bool
is_incomplete (array of n) = true
is_incomplete (shape.structure n) = true
is_incomplete x = false

abbrev pub named_whole : (at shape : ℕ) → Scopes → Typing ℕ
named_whole at x s =
    if not (is_complete s.shapes x) && is_incomplete (shape_of s.shapes x) then refuse Mismatch at else Ok (x, s)

-- a type that has a size
abbrev pub sized_type : (at shape : ℕ) → Scopes → Typing ℕ
sized_type at x s = if is_complete s.shapes x then Ok (x, s) else refuse Mismatch at
