-- The runs of leaves of a type of which a test is made.
use Rattle.std.specs.Prelude.{◌≡◌, ℕ, ◌+◌, ◌*◌, ◌<◌, ◌≤◌, ◌⊎◌, List, Vec, length, slice_get, Option, Some, option_and_then}
use Rattle.std.specs.Option.{option_map, option_map_or}
use Rattle.std.specs.declared.alloc.Global.{Global}
use Rattle.porch_types.specs.declared.shapes.Ty.{Ty}
use Rattle.porch_types.specs.Leaves.{IsTypes, leaves_of}
use Rattle.porch_types.specs.LeafTypes.{leaf_type}
use Rattle.porch_metrics.specs.Extents.{extent_of, ucf_layout}
use Rattle.porch_metrics.specs.Places.{place_of}
use Rattle.porch_ucf.specs.declared.leaves.Sought.{Sought}
use Rattle.porch_ucf.specs.declared.runs.Run.{Run}
use Rattle.porch_ucf.specs.declared.runs.Stretch.{Stretch}
use Rattle.porch_ucf.specs.inside.LeafTests.{IsTestOf, IsUntested, CanTest}

-- leaves of one type in a row
pub record IsStretch (types : List Ty) (root leaf : ℕ) (s : Stretch) : Type 0 where
  pub some : 0 < s.len
  pub within : leaf + s.len ≤ leaves_of types root
  pub known : s.ty < length types
  pub typed : (k : ℕ) → k < s.len → leaf_type types root (leaf + k) ≡ s.ty
  pub placed : (k : ℕ) → k < s.len
      → place_of ucf_layout types root (leaf + k)
      ≡ place_of ucf_layout types root leaf + k * (extent_of ucf_layout types s.ty).size

module _ (sought : Sought) (types : List Ty) (root : ℕ) where
  -- leaves of one type in a row, of eight bytes each, of which a test is made
  pub record IsRun (run : Run) : Type 0 where
    pub some : 0 < run.len
    pub within : run.first + run.len ≤ leaves_of types root
    pub can_test : CanTest types run.test
    pub tests : (k : ℕ) → k < run.len
        → IsTestOf sought (slice_get types (leaf_type types root (run.first + k))) run.test
    pub placed : (k : ℕ) → k < run.len
        → place_of ucf_layout types root (run.first + k) ≡ run.place + 8 * k

  -- a leaf of one of these runs
  pub record IsInRun (runs : List Run) (leaf : ℕ) : Type 0 where
    pub number : ℕ
    pub run : Run
    pub is_run : slice_get runs number ≡ Some run
    pub begun : run.first ≤ leaf
    pub not_ended : leaf < run.first + run.len

  -- the runs of the leaves before this one, in order; of no leaf outside them a test is made
  pub record AreRuns (reached : ℕ) (runs : List Run) : Type 0 where
    pub each : (i : ℕ) (run : Run) → slice_get runs i ≡ Some run → IsRun run
    pub ended : (i : ℕ) (run : Run) → slice_get runs i ≡ Some run → run.first + run.len ≤ reached
    pub apart : (i j : ℕ) (a b : Run) → i < j → slice_get runs i ≡ Some a
        → slice_get runs j ≡ Some b → a.first + a.len ≤ b.first
    pub whole : (leaf : ℕ) → leaf < reached
        → IsUntested sought (slice_get types (leaf_type types root leaf)) ⊎ IsInRun runs leaf

-- the runs that were found for a type
abbrev pub runs_found : List (Option (Vec Run Global)) → ℕ → Option (List Run)
runs_found found ty =
    option_and_then (option_map (λ (runs : Vec Run Global). runs.items)) (slice_get found ty)

abbrev pub AreFoundAt : List (Option (Vec Run Global)) → ℕ → Type 0
AreFoundAt found ty = (runs : List Run) × (runs_found found ty ≡ Some runs)

-- what was found for each type are its runs
pub record AreRunsFound (sought : Sought) (types : List Ty) (found : List (Option (Vec Run Global)))
    : Type 0 where
  pub each : (ty : ℕ) (runs : List Run) → runs_found found ty ≡ Some runs
      → AreRuns sought types ty (leaves_of types ty) runs
  pub all : length found ≡ length types

-- the first leaf of the run of a number, and behind the runs the number of leaves
abbrev pub begin_of : (leaves : ℕ) → List Run → ℕ → ℕ
begin_of leaves runs i = option_map_or (λ (run : Run). run.first) (slice_get runs i) leaves

-- an element has the leaves of its type, as far on as elements stand before it
abbrev pub ElementsRepeat : Type 0
ElementsRepeat =
    (types : List Ty) (ty element leaf : ℕ) → IsTypes types → ty < length types
    → leaf < leaves_of types ty
    → (leaf_type types ty (element * leaves_of types ty + leaf) ≡ leaf_type types ty leaf)
    × (place_of ucf_layout types ty (element * leaves_of types ty + leaf)
    ≡ element * (extent_of ucf_layout types ty).size + place_of ucf_layout types ty leaf)
