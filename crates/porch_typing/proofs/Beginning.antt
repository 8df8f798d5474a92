-- The place in front of a text.
use Rattle.std.proofs.Common.{◌≡◌, ℕ, zero, suc, List, [], ◌∷◌, refl, sym, subst, arith, Option, Some, None, Bool, true, false}
use Rattle.std.specs.Prelude.{slice_get, if◌then◌else◌}
use Rattle.std.specs.Option.{option_map, option_map_or}
use Rattle.std.specs.Str.{bytes_eq}
use Rattle.porch_check.specs.Shapes.{Shape, Member, Row, Shapes, row_of, leaves_of, first_shapes}
use Rattle.porch_check.specs.Scopes.{Meaning, of_name, library_names, first_scopes}
use Rattle.porch_typing.specs.Shapes.{Each, IsKnown, parts_of, AreShapes}
use Rattle.porch_typing.specs.States.{IsMeaning, IsState}
use Rattle.porch_typing.proofs.Lists.{each_at}

-- a row of the kinds and of void
abbrev IsBare : Row → Type 0
IsBare r = (r.members ≡ []) × (parts_of r.shape ≡ [])

all_bare : Each IsBare first_shapes.rows
all_bare = ((refl, refl), ((refl, refl), ((refl, refl), ((refl, refl), ((refl, refl), ((refl, refl), ((refl, refl), ((refl, refl), ((refl, refl), tt)))))))))

row_bare : (n : ℕ) (r : Row) → row_of first_shapes n ≡ Some r → IsBare r
row_bare n r e = each_at IsBare first_shapes.rows n r all_bare e

no_members : (n : ℕ) (o : Option Row) → row_of first_shapes n ≡ o → option_map_or (λ (r : Row). r.members) o [] ≡ []
no_members n None e = refl
no_members n (Some r) e = (row_bare n r e).0

no_parts : (n : ℕ) (o : Option Row) (x : Shape) → row_of first_shapes n ≡ o → option_map (λ (r : Row). r.shape) o ≡ Some x → parts_of x ≡ []
no_parts n None x e is = absurd (cc)
no_parts n (Some r) x e is = (let same : r.shape ≡ x = cc in subst (λ x. parts_of x ≡ []) same (row_bare n r e).1)

kinds_listed : (n k : ℕ) → leaves_of first_shapes n ≡ Some k → (i : ℕ) × (slice_get first_shapes.complete i ≡ Some n)
kinds_listed zero k e = (0, refl)
kinds_listed (suc zero) k e = (1, refl)
kinds_listed (suc (suc zero)) k e = (2, refl)
kinds_listed (suc (suc (suc zero))) k e = (3, refl)
kinds_listed (suc (suc (suc (suc zero)))) k e = (4, refl)
kinds_listed (suc (suc (suc (suc (suc zero))))) k e = (5, refl)
kinds_listed (suc (suc (suc (suc (suc (suc zero)))))) k e = (6, refl)
kinds_listed (suc (suc (suc (suc (suc (suc (suc zero))))))) k e = (7, refl)
kinds_listed (suc (suc (suc (suc (suc (suc (suc (suc zero)))))))) k e = absurd (cc)
kinds_listed (suc (suc (suc (suc (suc (suc (suc (suc (suc n))))))))) k e = absurd (cc)

first_are_shapes : AreShapes first_shapes
first_are_shapes =
    record {
      kinds = omega arith;
      void = refl;
      listed = kinds_listed;
      parts = λ n x e. subst (λ ps. Each (IsKnown first_shapes) ps) (sym (no_parts n (row_of first_shapes n) x refl e)) tt;
      members = λ n. subst (λ ms. Each (λ (m : Member). IsKnown first_shapes m.shape) ms) (sym (no_members n (row_of first_shapes n) refl)) tt;
      bare = λ n e. no_members n (row_of first_shapes n) refl;
    }

names_mean : (s : Shapes) (ns : List (List ℕ × Meaning)) → Each (λ (n : List ℕ × Meaning). IsMeaning s n.1) ns
    → (x : List ℕ) (m : Meaning) → of_name x ns ≡ Some m → IsMeaning s m
names_mean s [] h x m e = absurd (cc)
names_mean s (n ∷ ns) h x m e = by (bytes_eq x n.0) (names_mean s ns h.1 x m) e
  where
    by : (b : Bool) → (of_name x ns ≡ Some m → IsMeaning s m) → (if b then Some n.1 else of_name x ns) ≡ Some m → IsMeaning s m
    by true rest e = (let same : n.1 ≡ m = cc in subst (λ m. IsMeaning s m) same h.0)
    by false rest e = rest e

pub first_state : (completes : List (List ℕ)) → IsState (first_scopes completes)
first_state completes =
    record {
      shapes = first_are_shapes;
      inner = record {
        names = names_mean first_shapes library_names (tt, (tt, (tt, (tt, (tt, (tt, (tt, (tt, tt))))))));
        tags = λ x t e. absurd (cc);
      };
      outer = tt;
    }
