-- What the code's tables are in the definitions.
use Rattle.std.specs.Prelude.{ℕ, List, map, reverse}
use Rattle.std.specs.Borrow.{Bor}
use Rattle.porch_check.specs.Shapes.{Member}
use Rattle.porch_check.specs.Declarations.{Members}
use Rattle.porch_check.specs.Scopes.{Library, of_printf, of_puts, of_putchar, of_malloc, of_calloc, of_free, of_checkpoint, Meaning, variable, global, type_name, enumerator, function, library, null, Tag, Scope}
use Rattle.porch_scopes.specs.declared.members.Member as code_member
use Rattle.porch_scopes.specs.declared.meaning.Library as code_library
use Rattle.porch_scopes.specs.declared.meaning.Library.TheVariants as known
use Rattle.porch_scopes.specs.declared.meaning.Meaning as code_meaning
use Rattle.porch_scopes.specs.declared.meaning.Meaning.TheVariants as variant
use Rattle.porch_scopes.specs.declared.meaning.Tag as code_tag
use Rattle.porch_scopes.specs.declared.bindings.Binding as code_binding
use Rattle.porch_scopes.specs.declared.scope.Scope as code_scope

abbrev pub as_member : List ℕ → code_member.Member → Member
as_member name m = record { name = name; shape = m.shape; leaf = m.leaf }

-- the members, in the order of their names in a table
abbrev pub members_of : List (Bor (List ℕ) × code_member.Member) → (leaves : ℕ) → Members
members_of entries leaves = record { list = map (λ e. as_member e.0.now e.1) entries; leaves = leaves }

-- the type and the first leaf of a member
abbrev pub place_of : Member → ℕ × ℕ
place_of m = (m.shape, m.leaf)

abbrev pub as_place : code_member.Member → ℕ × ℕ
as_place m = (m.shape, m.leaf)

abbrev pub as_library : code_library.Library → Library
as_library known.Printf = of_printf
as_library known.Puts = of_puts
as_library known.Putchar = of_putchar
as_library known.Malloc = of_malloc
as_library known.Calloc = of_calloc
as_library known.Free = of_free
as_library known.Checkpoint = of_checkpoint

abbrev pub as_meaning : code_meaning.Meaning → Meaning
as_meaning (variant.Variable number shape) = variable number shape
as_meaning (variant.Global number shape) = global number shape
as_meaning (variant.TypeName shape) = type_name shape
as_meaning (variant.Enumerator z) = enumerator z
as_meaning variant.Function = function
as_meaning (variant.Library l) = library (as_library l)
as_meaning variant.Null = null

abbrev pub as_tag : List ℕ → code_tag.Tag → Tag
as_tag name t = record { name = name; sort = t.sort; shape = t.shape; begun = t.begun }

-- the names that a scope binds, the newest first
abbrev pub bound : {V : Type 0} → List (code_binding.Binding V) → List (List ℕ × V)
bound bs = map (λ b. (b.name.now, b.value)) (reverse bs)

abbrev pub scope_of : code_scope.Scope → Scope
scope_of s =
    record {
      names = map (λ n. (n.0, as_meaning n.1)) (bound s.names.items);
      tags = map (λ t. as_tag t.0 t.1) (bound s.tags.items);
      completes = s.completes;
    }

-- functions that were declared, in the order of their names in a table
abbrev pub declared_of : List (Bor (List ℕ) × ℕ) → List (List ℕ × ℕ)
declared_of entries = map (λ e. (e.0.now, e.1)) entries
