-- The types of members, one after another.
use Rattle.std.proofs.Common.{◌≡◌, ◌+◌, ℕ, zero, suc, List, [], ◌∷◌, ◌++◌, map, drop, Option, Some, None, refl, sym, ap, ◌∙◌, append_assoc, append-nil, arith}
use Rattle.std.specs.Prelude.{slice_get}
use Rattle.std.specs.Option.{option_map}
use Rattle.std.proofs.lemmas.Option.{slice_get-map}
use Rattle.porch_types.specs.declared.shapes.Ty.TheVariants.{Struct}
use Rattle.porch_check.specs.Shapes.{Member, Shapes, members_of}
use Rattle.porch_check.specs.Sealing.{type_of}
use Rattle.porch_shape.specs.declared.shape.Shape as code_shape
use Rattle.porch_shape.specs.declared.shape.Shape.TheVariants.{Structure}
use Rattle.porch_shape.specs.Views.{as_shape}
use Rattle.porch_scopes.specs.Views.{as_place, place_of}
use Rattle.porch_scopes.specs.declared.members.Member as code_member
use Rattle.porch_sealing.specs.Numbers.{in_order, last_in}
use Rattle.porch_sealing.specs.inside.Types.{member_types}

first_parts : (o : Option code_member.Member) → option_map (λ (p : ℕ × ℕ). p.0) (option_map as_place o) ≡ option_map (λ (m : code_member.Member). m.shape) o
first_parts None = refl
first_parts (Some m) = refl

first_places : (o : Option Member) → option_map (λ (p : ℕ × ℕ). p.0) (option_map place_of o) ≡ option_map (λ (m : Member). m.shape) o
first_places None = refl
first_places (Some m) = refl

pub type_at : (o : Option code_member.Member) (ms : List Member) (place : ℕ) → option_map as_place o ≡ option_map place_of (slice_get ms place)
    → option_map (λ (m : code_member.Member). m.shape) o ≡ slice_get (member_types ms) place
type_at o ms place is =
    sym (first_parts o) ∙ ap (option_map (λ (p : ℕ × ℕ). p.0)) is ∙ first_places (slice_get ms place)
    ∙ sym (slice_get-map (λ (m : Member). m.shape) ms place)

some_same : {x y : ℕ} → Some x ≡ Some y → x ≡ y
some_same e = cc

drop_here : (xs : List ℕ) (i x : ℕ) → Some x ≡ slice_get xs i → drop i xs ≡ x ∷ drop (i + 1) xs
drop_here [] i x h = cc
drop_here (y ∷ ys) zero x h = ap (λ z. z ∷ ys) (sym (some_same h))
drop_here (y ∷ ys) (suc i) x h = let same : suc (i + 1) ≡ suc i + 1 = omega arith in drop_here ys i x h ∙ ap (λ k. x ∷ drop k (y ∷ ys)) same

drop_past : (xs : List ℕ) (i : ℕ) → None ≡ slice_get xs i → drop i xs ≡ []
drop_past [] zero h = refl
drop_past [] (suc i) h = refl
drop_past (y ∷ ys) zero h = absurd cc
drop_past (y ∷ ys) (suc i) h = drop_past ys i h

-- one more, where the others are left
pub one_more : (f : ℕ → ℕ) (xs out whole : List ℕ) (i x : ℕ) → Some x ≡ slice_get xs i → out ++ map f (drop i xs) ≡ whole
    → (out ++ f x ∷ []) ++ map f (drop (i + 1) xs) ≡ whole
one_more f xs out whole i x here before =
    append_assoc out (f x ∷ []) (map f (drop (i + 1) xs)) ∙ ap (λ ys. out ++ map f ys) (sym (drop_here xs i x here)) ∙ before

-- none is left
pub all_there : (f : ℕ → ℕ) (xs out whole : List ℕ) (i : ℕ) → None ≡ slice_get xs i → out ++ map f (drop i xs) ≡ whole → out ≡ whole
all_there f xs out whole i end before =
    sym (append-nil out) ∙ ap (λ ys. out ++ map f ys) (sym (drop_past xs i end)) ∙ before

mapped : (f : ℕ → ℕ) (ms : List Member) → map f (member_types ms) ≡ map (λ (m : Member). f m.shape) ms
mapped f [] = refl
mapped f (m ∷ ms) = ap (λ ns. f m.shape ∷ ns) (mapped f ms)

pub struct_type : (ns : List ℕ) (s : Shapes) (shape : code_shape.Shape) (k n : ℕ) (members : List ℕ) → shape ≡ Structure k
    → members ≡ map (last_in ns) (member_types (members_of s n)) → Struct members ≡ type_of (in_order ns s) (as_shape shape) n
struct_type ns s shape k n members is are =
    ap Struct (are ∙ mapped (last_in ns) (members_of s n)) ∙ sym (ap (λ x. type_of (in_order ns s) (as_shape x) n) is)
