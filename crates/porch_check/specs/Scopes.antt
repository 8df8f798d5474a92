-- What names and tags mean. Scopes stand with the innermost first; the last is that of the file.
use Rattle.std.specs.Prelude.{ℕ, ℤ, Bool, true, false, if◌then◌else◌, List, [], ◌∷◌, codes, Option, Some, None}
use Rattle.std.specs.List.{list_any}
use Rattle.std.specs.Str.{bytes_eq}
use Rattle.porch_tree.specs.declared.tree.TagSort.{TagSort}
use Rattle.porch_tree.specs.declared.tree.TagSort.TheVariants.{Struct}
use Rattle.porch_typed.specs.declared.typed.GlobalVariable.{GlobalVariable}
use Rattle.porch_check.specs.Shapes.{Shapes, first_shapes, with_struct, numbered, Shape}
use Rattle.porch_typed.specs.Mirror.{Function}

pub data Library : Type 0 where
  of_printf : Library
  of_puts : Library
  of_putchar : Library
  of_malloc : Library
  of_calloc : Library
  of_free : Library
  of_checkpoint : Library

pub data Meaning : Type 0 where
  -- an object: its number among those of its function or of the file, and its type
  variable : (number shape : ℕ) → Meaning
  global : (number shape : ℕ) → Meaning
  type_name : (shape : ℕ) → Meaning
  enumerator : ℤ → Meaning
  -- a function of the program
  function : Meaning
  library : Library → Meaning
  null : Meaning

pub record Tag : Type 0 where
  pub name : List ℕ
  pub sort : TagSort
  -- of a struct
  pub shape : ℕ
  -- whether a brace of it was opened
  pub begun : Bool

pub record Scope : Type 0 where
  -- the newest first
  pub names : List (List ℕ × Meaning)
  pub tags : List Tag
  -- the tags of structs that a brace in this scope completes, wherever in it
  pub completes : List (List ℕ)

-- What is known at a place of the text.
pub record Scopes : Type 0 where
  pub shapes : Shapes
  pub inner : Scope
  pub outer : List Scope
  -- functions of the program that were declared, each with the type of its first declaration
  pub declared : List (List ℕ × ℕ)
  -- the types of the variables of this function
  pub variables : List ℕ
  pub globals : List GlobalVariable
  -- the places of their entries
  pub entries : List ℕ
  -- the functions that have had their bodies, in their order
  pub functions : List Function

-- the first of a name in a list
abbrev pub of_name : {A : Type 0} → List ℕ → List (List ℕ × A) → Option A
of_name x [] = None
of_name x (n ∷ ns) = if bytes_eq x n.0 then Some n.1 else of_name x ns

abbrev pub of_tag : List ℕ → List Tag → Option Tag
of_tag x [] = None
of_tag x (t ∷ ts) = if bytes_eq x t.name then Some t else of_tag x ts

abbrev pub or_else : {A : Type 0} → Option A → Option A → Option A
or_else (Some x) y = Some x
or_else None y = y

abbrev pub name_in : List ℕ → List Scope → Option Meaning
name_in x [] = None
name_in x (s ∷ ss) = or_else (of_name x s.names) (name_in x ss)

abbrev pub tag_in : List ℕ → List Scope → Option Tag
tag_in x [] = None
tag_in x (s ∷ ss) = or_else (of_tag x s.tags) (tag_in x ss)

-- what a name and a tag mean here: an inner one hides an outer one

abbrev pub meaning_of : List ℕ → Scopes → Option Meaning
meaning_of x s = name_in x (s.inner ∷ s.outer)

abbrev pub tag_of : List ℕ → Scopes → Option Tag
tag_of x s = tag_in x (s.inner ∷ s.outer)

-- what this scope itself declares

abbrev pub meaning_here : List ℕ → Scopes → Option Meaning
meaning_here x s = of_name x s.inner.names

abbrev pub only_type_name : Option Meaning → Option Meaning
only_type_name (Some (type_name n)) = Some (type_name n)
only_type_name m = None

-- What hinders a declaration of a name here: one in this scope, and that of a typedef name in any.
abbrev pub hindrance : List ℕ → Scopes → Option Meaning
hindrance x s = or_else (meaning_here x s) (only_type_name (meaning_of x s))

abbrev pub tag_here : List ℕ → Scopes → Option Tag
tag_here x s = of_tag x s.inner.tags

-- this is the scope of the file
abbrev pub are_none : List Scope → Bool
are_none [] = true
are_none (s ∷ ss) = false

abbrev pub is_file : Scopes → Bool
is_file s = are_none s.outer

-- Declarations in this scope.

abbrev pub with_shapes : Shapes → Scopes → Scopes
with_shapes shapes s = record s { shapes = shapes }

abbrev pub with_name : List ℕ → Meaning → Scopes → Scopes
with_name x m s = record s { inner = record s.inner { names = (x, m) ∷ s.inner.names } }

abbrev pub with_tag : Tag → Scopes → Scopes
with_tag t s = record s { inner = record s.inner { tags = t ∷ s.inner.tags } }

-- a new struct of a tag
abbrev pub with_struct_tag : List ℕ → (begun : Bool) → Scopes → ℕ × Scopes
with_struct_tag x begun s =
    let r = with_struct (list_any (λ y. bytes_eq x y) s.inner.completes) s.shapes in
    (r.0, with_tag (record { name = x; sort = Struct; shape = r.0; begun = begun }) (with_shapes r.1 s))

-- the number of a type
abbrev pub with_shape : Shape → Scopes → ℕ × Scopes
with_shape x s = let r = numbered x s.shapes in (r.0, with_shapes r.1 s)

-- Scopes in scopes.

abbrev pub new_scope : (completes : List (List ℕ)) → Scope
new_scope completes = record { names = []; tags = []; completes = completes }

abbrev pub entered : Scope → Scopes → Scopes
entered inner s = record s { inner = inner; outer = s.inner ∷ s.outer }

-- behind a scope, where `before` was in front of it and `s` is at its end
abbrev pub left : (before s : Scopes) → Scopes
left before s = record s { inner = before.inner; outer = before.outer }

-- The scope of the file begins with the names of the library, which are declared with or without an include.

abbrev pub library_names : List (List ℕ × Meaning)
library_names =
    (codes "printf", library of_printf) ∷ (codes "puts", library of_puts) ∷ (codes "putchar", library of_putchar)
    ∷ (codes "malloc", library of_malloc) ∷ (codes "calloc", library of_calloc) ∷ (codes "free", library of_free)
    ∷ (codes "checkpoint", library of_checkpoint) ∷ (codes "NULL", null) ∷ []

abbrev pub first_scopes : (completes : List (List ℕ)) → Scopes
first_scopes completes =
    record {
      shapes = first_shapes;
      inner = record { names = library_names; tags = []; completes = completes };
      outer = [];
      declared = [];
      variables = [];
      globals = [];
      entries = [];
      functions = [];
    }
