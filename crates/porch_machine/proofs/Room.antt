-- The frame of a function whose variables are ints, under le64: a variable in each eight bytes.
use Rattle.std.proofs.Common.{◌≡◌, ◌<◌, ◌≤◌, ℕ, zero, suc, ◌+◌, ◌*◌, ◌/◌, max, List, [], ◌∷◌, length, refl, ap, ◌∙◌, arith}
use Rattle.std.specs.Prelude.{slice_index_or, slice_index}
use Rattle.std.specs.List.{All}
use Rattle.porch_types.specs.Leaves.{kind_types}
use Rattle.porch_metrics.specs.Extents.{Extent, extent_of, round_up}
use Rattle.porch_machine.specs.Room.{places_from, free_behind, frame_bytes, place_of_var}
use Rattle.porch_layout.specs.Layouts.{le64}
use Rattle.porch_machine.specs.inside.Resolved.{bytes_for}

-- the extents of the types
abbrev pub extents : ℕ → Extent
extents = extent_of le64 kind_types

pub record AreInts (vars : List ℕ) : Type 0 where
  pub ints : All (λ ty. ty ≡ 4) vars

pub first_int : (ty : ℕ) (rest : List ℕ) → AreInts (ty ∷ rest) → ty ≡ 4
first_int ty rest all = all.ints 0 0 (omega arith)

pub later_ints : (ty : ℕ) (rest : List ℕ) → AreInts (ty ∷ rest) → AreInts rest
later_ints ty rest all = record { ints = λ k d h. all.ints (suc k) d (omega (arith, h)) }

next_place : (free k : ℕ) → round_up free 4 ≡ 8 * k → round_up (round_up free 4 + 4 + 1) 4 ≡ 8 * (k + 1)
next_place free k h = rw h (omega arith)

places : (vars : List ℕ) (free k v : ℕ) → AreInts vars → round_up free 4 ≡ 8 * k → v < length vars → slice_index (places_from extents free vars) v ≡ 8 * (k + v)
places [] free k v all h l = absurd (omega (arith, l))
places (ty ∷ rest) free k zero all h l = rw (first_int ty rest all) (h ∙ omega arith)
places (ty ∷ rest) free k (suc v) all h l =
    rw (first_int ty rest all) (places rest (round_up free 4 + 4 + 1) (k + 1) v (later_ints ty rest all) (next_place free k h) (omega (arith, l)) ∙ omega arith)

pub place_is : (vars : List ℕ) (v : ℕ) → AreInts vars → v < length vars → place_of_var extents vars v ≡ 8 * v
place_is vars v all l = places vars 0 0 v all refl l ∙ omega arith

behind : (vars : List ℕ) (free k : ℕ) → AreInts vars → round_up free 4 ≡ 8 * k → 0 < length vars → free_behind extents free vars + 3 ≡ 8 * (k + length vars)
behind [] free k all h l = absurd (omega (arith, l))
behind (ty ∷ []) free k all h l = rw (first_int ty [] all, h) (omega arith)
behind (ty ∷ (ty' ∷ rest)) free k all h l =
    rw (first_int ty (ty' ∷ rest) all) (behind (ty' ∷ rest) (round_up free 4 + 4 + 1) (k + 1) (later_ints ty (ty' ∷ rest) all) (next_place free k h) (omega arith) ∙ omega arith)

rounded : (free n : ℕ) → free + 3 ≡ 8 * (0 + n) → max 16 (round_up free 16) ≡ bytes_for n
rounded free n h = let e : free + 15 ≡ 8 * n + 12 = omega (arith, h) in ap (λ x. max 16 (x / 16 * 16)) e

pub frame_is : (vars : List ℕ) → AreInts vars → frame_bytes extents vars ≡ bytes_for (length vars)
frame_is [] all = refl
frame_is (ty ∷ rest) all = rounded (free_behind extents 0 (ty ∷ rest)) (length (ty ∷ rest)) (behind (ty ∷ rest) 0 0 all refl (omega arith))

pub frame_has : (count v : ℕ) → v < count → 8 * v + 4 ≤ bytes_for count
frame_has count v h = omega (arith, h)

pub type_is : (vars : List ℕ) (v d : ℕ) → AreInts vars → v < length vars → slice_index_or vars v d ≡ 4
type_is vars v d all l = all.ints v d l
