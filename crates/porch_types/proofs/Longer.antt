-- What a list of types says stays so in a longer one.
use Rattle.std.proofs.Common.{◌≡◌, ℕ, zero, suc, ◌+◌, ◌-◌, ◌*◌, ◌/◌, ◌%◌, ◌<◌, ◌≤◌, true, false, cond, nat_lt, ◌==◌, ◌&&◌, List, [], ◌∷◌, ◌++◌, length, get_or, slice_get, Option, Some, None, is_some, refl, arith, ap, sym, ◌∙◌, subst, take, All}
use Rattle.std.specs.Option.{option_map, option_map_or}
use Rattle.std.proofs.lemmas.Option.{slice_get-get_or, slice_get_within}
use Rattle.porch_types.specs.declared.shapes.Ty.{Ty}
use Rattle.porch_types.specs.declared.shapes.Ty.TheVariants.{Whole, Pointer, Array, Struct}
use Rattle.porch_types.specs.declared.parts.Part.{Part}
use Rattle.porch_types.specs.Leaves.{AreFormed, IsTypes, parts_of, leaves_of, leaves_together}
use Rattle.porch_types.specs.Rows.{IsRow, elements_of_root, elements_of_array, member_of_struct, IsSubobject, part_at, part_of, element_at, member_at, row_within, row_at, moved_row, has_shared_end}
use Rattle.porch_types.specs.LeafTypes.{leaf_type, leaf_type_within}
use Rattle.porch_types.specs.Longer.{KeepsTypes}
use Rattle.porch_types.proofs.Counts.{leaves_kept}
use Rattle.porch_types.proofs.Depth.{depth_of, depth_part}
use Rattle.porch_types.proofs.Putting.{all_more}
use Rattle.porch_types.proofs.Subobjects.{row_known}
use Rattle.porch_types.proofs.LeafTypes.{part_earlier}

-- a longer list has the same types, and these have the same leaves
record Extends (types longer : List Ty) : Type 0 where
  pub formed : AreFormed types
  pub same : (ty : ℕ) → ty < length types → slice_get longer ty ≡ slice_get types ty
  pub leaves : (ty : ℕ) → ty < length types → leaves_of longer ty ≡ leaves_of types ty

get_kept : {A : Type 0} (xs ys : List A) (i : ℕ) → i < length xs → slice_get (xs ++ ys) i ≡ slice_get xs i
get_kept [] ys i lt = absurd (omega arith)
get_kept (x ∷ xs) ys zero lt = refl
get_kept (x ∷ xs) ys (suc i) lt = get_kept xs ys i (omega arith)

extended : (types more : List Ty) → AreFormed types → Extends types (types ++ more)
extended types more formed = record { formed = formed; same = λ ty lt. get_kept types more ty lt; leaves = λ ty lt. leaves_kept types more ty lt }

-- the parts of earlier types
together_kept : (f g : ℕ → ℕ) (n : ℕ) (ms : List ℕ) → All (λ p. p < n) ms → ((p : ℕ) → p < n → f p ≡ g p) → leaves_together f ms ≡ leaves_together g ms
together_kept f g n [] a e = refl
together_kept f g n (m ∷ ms) a e =
    let here : f m ≡ g m = e m (a 0 0 (omega arith)) in
    let rest : leaves_together f ms ≡ leaves_together g ms = together_kept f g n ms (λ k d lt. a (suc k) d (omega (arith, lt))) e in
    omega (arith, here, rest)

member_kept : (f g : ℕ → ℕ) (n : ℕ) (ms : List ℕ) (index first place : ℕ) → All (λ p. p < n) ms → ((p : ℕ) → p < n → f p ≡ g p) → member_at f ms index first place ≡ member_at g ms index first place
member_kept f g n [] index first place a e = refl
member_kept f g n (m ∷ ms) index first place a e =
    let here : f m ≡ g m = e m (a 0 0 (omega arith)) in
    let rest : member_at f ms (index + 1) (first + f m) place ≡ member_at g ms (index + 1) (first + f m) place = member_kept f g n ms (index + 1) (first + f m) place (λ k d lt. a (suc k) d (omega (arith, lt))) e in
    let found : Option Part = Some (record { ty = m; index = index; first = first; row = record { first = first; len = 1 } }) in
    ap (λ o. cond (nat_lt place (first + f m)) found o) rest
    ∙ ap (λ x. cond (nat_lt place (first + x)) found (member_at g ms (index + 1) (first + x) place)) here

part_of_kept : (types longer : List Ty) (ty leaf : ℕ) (t : Ty) → Extends types longer → ty < length types → All (λ p. p < ty) (parts_of t) → part_of longer (Some t) leaf ≡ part_of types (Some t) leaf
part_of_kept types longer ty leaf (Whole kind) x known a = refl
part_of_kept types longer ty leaf (Pointer to) x known a = refl
part_of_kept types longer ty leaf (Array of count) x known a =
    let earlier : of < ty = a 0 0 (omega arith) in
    ap (λ l. element_at of l count leaf) (x.leaves of (omega (arith, earlier, known)))
part_of_kept types longer ty leaf (Struct members) x known a =
    member_kept (leaves_of longer) (leaves_of types) ty members 0 0 leaf a (λ p lt. x.leaves p (omega (arith, lt, known)))

part_kept : (types longer : List Ty) (ty leaf : ℕ) → Extends types longer → ty < length types → part_at longer ty leaf ≡ part_at types ty leaf
part_kept types longer ty leaf x known =
    let t : Ty = get_or types ty (Pointer 0) in
    let at : slice_get types ty ≡ Some t = slice_get-get_or types ty (Pointer 0) known in
    ap (λ o. part_of longer o leaf) (x.same ty known ∙ at) ∙ part_of_kept types longer ty leaf t x known (x.formed.each ty t at).earlier ∙ ap (λ o. part_of types o leaf) (sym at)

-- the types of their leaves
leaf_through : (types longer : List Ty) (n m ty leaf : ℕ) (o : Option Part) → ((part : Part) → o ≡ Some part → leaf_type_within n longer part.ty (leaf - part.first) ≡ leaf_type_within n types part.ty (leaf - part.first))
    → option_map_or (λ part. leaf_type_within n longer part.ty (leaf - part.first)) o ty ≡ option_map_or (λ part. leaf_type_within n types part.ty (leaf - part.first)) o ty
leaf_through types longer n m ty leaf None same = refl
leaf_through types longer n m ty leaf (Some part) same = same part refl

leaf_within_kept : (types longer : List Ty) (n ty leaf : ℕ) → Extends types longer → ty < length types → leaf_type_within n longer ty leaf ≡ leaf_type_within n types ty leaf
leaf_within_kept types longer zero ty leaf x known = refl
leaf_within_kept types longer (suc n) ty leaf x known =
    ap (λ o. option_map_or (λ part. leaf_type_within n longer part.ty (leaf - part.first)) o ty) (part_kept types longer ty leaf x known)
    ∙ leaf_through types longer n n ty leaf (part_at types ty leaf)
    (λ part is. let earlier : part.ty < ty = part_earlier types ty leaf part x.formed is in
    leaf_within_kept types longer n part.ty (leaf - part.first) x (omega (arith, earlier, known)))

leaf_type_kept : (types longer : List Ty) (ty leaf : ℕ) → Extends types longer → ty < length types → leaf_type longer ty leaf ≡ leaf_type types ty leaf
leaf_type_kept types longer ty leaf x known =
    ap (λ l. leaf_type_within (suc ty) longer ty (leaf % l)) (x.leaves ty known) ∙ leaf_within_kept types longer (suc ty) ty (leaf % leaves_of types ty) x known

-- the search for a row
within_kept : (types longer : List Ty) (n place pointee : ℕ) (part : Option Part) → Extends types longer → depth_of part ≤ length types
    → row_within n longer part place pointee ≡ row_within n types part place pointee
within_kept types longer zero place pointee part x known = refl
within_kept types longer (suc n) place pointee None x known = refl
within_kept types longer (suc n) place pointee (Some part) x known =
    let inner = place - part.first in
    let here : part.ty < length types = omega (arith, known) in
    let d : depth_of (part_at types part.ty inner) ≤ part.ty = depth_part types part.ty inner x.formed in
    ap (λ o. cond (part.ty == pointee && part.first == place) (Some part.row) (option_map (moved_row part.first) o))
    (ap (λ o. row_within n longer o inner pointee) (part_kept types longer part.ty inner x here)
    ∙ within_kept types longer n inner pointee (part_at types part.ty inner) x (omega (arith, d, here)))

element_depth : (root leaves count place n : ℕ) → root < n → depth_of (element_at root leaves count place) ≤ n
element_depth root leaves count place n lt =
    elim (nat_lt (place / leaves) count) as (λ b. depth_of (cond b (Some (record { ty = root; index = place / leaves; first = place / leaves * leaves; row = record { first = 0; len = count } })) None) ≤ n)
    [ true ↦ omega (arith, lt) | false ↦ omega arith ]

row_at_kept : (types longer : List Ty) (root count place pointee : ℕ) → Extends types longer → root < length types → row_at longer root count place pointee ≡ row_at types root count place pointee
row_at_kept types longer root count place pointee x known =
    ap (λ l. row_within (suc root) longer (element_at root l count place) place pointee) (x.leaves root known)
    ∙ within_kept types longer (suc root) place pointee (element_at root (leaves_of types root) count place) x (element_depth root (leaves_of types root) count place (length types) known)

shared_end_kept : (types longer : List Ty) (root count place pointee : ℕ) → Extends types longer → root < length types → pointee < length types
    → has_shared_end longer root count place pointee ≡ has_shared_end types root count place pointee
shared_end_kept types longer root count place pointee x known there =
    ap (λ l. is_some (row_at longer root count (place + l) pointee)) (x.leaves pointee there)
    ∙ ap is_some (row_at_kept types longer root count (place + leaves_of types pointee) pointee x known)

-- rows
take_all : (n : ℕ) (ms : List ℕ) (i : ℕ) → All (λ p. p < n) ms → All (λ p. p < n) (take i ms)
take_all n ms zero a = λ k d lt. absurd (omega (arith, lt))
take_all n [] (suc i) a = λ k d lt. absurd (omega (arith, lt))
take_all n (m ∷ ms) (suc i) a =
    let here : m < n = a 0 0 (omega arith) in
    all_more n m (take i ms) here (take_all n ms i (λ k d lt. a (suc k) d (omega (arith, lt))))

array_first : (types longer : List Ty) (ty first k : ℕ) → Extends types longer → ty < length types → first + k * leaves_of longer ty ≡ first + k * leaves_of types ty
array_first types longer ty first k x known = ap (λ l. first + k * l) (x.leaves ty known)

member_first : (types longer : List Ty) (ty first k i : ℕ) (members : List ℕ) → Extends types longer → ty < length types → slice_get types ty ≡ Some (Struct members)
    → first + k * leaves_of longer ty + leaves_together (leaves_of longer) (take i members) ≡ first + k * leaves_of types ty + leaves_together (leaves_of types) (take i members)
member_first types longer ty first k i members x known at =
    ap (λ l. first + k * l + leaves_together (leaves_of longer) (take i members)) (x.leaves ty known)
    ∙ ap (λ t. first + k * leaves_of types ty + t)
    (together_kept (leaves_of longer) (leaves_of types) ty (take i members) (take_all ty members i (x.formed.each ty (Struct members) at).earlier) (λ p lt. x.leaves p (omega (arith, lt, known))))

row_longer : (types longer : List Ty) (root count ty first len : ℕ) → Extends types longer → IsRow types root count ty first len → IsRow longer root count ty first len
row_longer types longer root count ty first len x elements_of_root = elements_of_root
row_longer types longer root count ty first len x (elements_of_array {ty = t} {first = f} {len = n} {k = k} {of = of} {n = m} row lt at) =
    let known : t < length types = slice_get_within types t (Array of m) at in
    subst (λ y. IsRow longer root count of y m) (array_first types longer t f k x known)
    (elements_of_array (row_longer types longer root count t f n x row) lt (x.same t known ∙ at))
row_longer types longer root count ty first len x (member_of_struct {ty = t} {first = f} {len = n} {k = k} {member = member} {members = members} i row lt at mat) =
    let known : t < length types = slice_get_within types t (Struct members) at in
    subst (λ y. IsRow longer root count member y 1) (member_first types longer t f k i members x known at)
    (member_of_struct i (row_longer types longer root count t f n x row) lt (x.same t known ∙ at) mat)

row_shorter : (types longer : List Ty) (root count ty first len : ℕ) → Extends types longer → root < length types → IsRow longer root count ty first len → IsRow types root count ty first len
row_shorter types longer root count ty first len x known elements_of_root = elements_of_root
row_shorter types longer root count ty first len x known (elements_of_array {ty = t} {first = f} {len = n} {k = k} {of = of} {n = m} row lt at) =
    let before : IsRow types root count t f n = row_shorter types longer root count t f n x known row in
    let there : t < length types = row_known types root count t f n x.formed known before in
    subst (λ y. IsRow types root count of y m) (sym (array_first types longer t f k x there))
    (elements_of_array before lt (sym (x.same t there) ∙ at))
row_shorter types longer root count ty first len x known (member_of_struct {ty = t} {first = f} {len = n} {k = k} {member = member} {members = members} i row lt at mat) =
    let before : IsRow types root count t f n = row_shorter types longer root count t f n x known row in
    let there : t < length types = row_known types root count t f n x.formed known before in
    let here : slice_get types t ≡ Some (Struct members) = sym (x.same t there) ∙ at in
    subst (λ y. IsRow types root count member y 1) (sym (member_first types longer t f k i members x there here))
    (member_of_struct i before lt here mat)

subobject_longer : (types longer : List Ty) (root count place pointee : ℕ) → Extends types longer → root < length types → IsSubobject types root count place pointee → IsSubobject longer root count place pointee
subobject_longer types longer root count place pointee x known s =
    let row = s.0 in
    let there : pointee < length types = row_known types root count pointee row.first row.len x.formed known s.1.is_row in
    let e : row.first + s.1.element.0 * leaves_of types pointee ≡ row.first + s.1.element.0 * leaves_of longer pointee = sym (array_first types longer pointee row.first s.1.element.0 x there) in
    (row, record { is_row = row_longer types longer root count pointee row.first row.len x s.1.is_row; element = (s.1.element.0, s.1.element.1, s.1.element.2 ∙ e) })

subobject_shorter : (types longer : List Ty) (root count place pointee : ℕ) → Extends types longer → root < length types → IsSubobject longer root count place pointee → IsSubobject types root count place pointee
subobject_shorter types longer root count place pointee x known s =
    let row = s.0 in
    let before : IsRow types root count pointee row.first row.len = row_shorter types longer root count pointee row.first row.len x known s.1.is_row in
    let there : pointee < length types = row_known types root count pointee row.first row.len x.formed known before in
    (row, record { is_row = before; element = (s.1.element.0, s.1.element.1, s.1.element.2 ∙ array_first types longer pointee row.first s.1.element.0 x there) })

-- further types change nothing of the earlier ones
pub types_kept : (types more : List Ty) → IsTypes types → KeepsTypes types (types ++ more)
types_kept types more are =
    let longer = types ++ more in
    let x : Extends types (types ++ more) = extended types more are.formed in
    record {
      same = x.same;
      leaves = x.leaves;
      parts = λ ty leaf known. part_kept types longer ty leaf x known;
      leaf_types = λ ty leaf known. leaf_type_kept types longer ty leaf x known;
      rows = λ root count ty first len known. (row_shorter types longer root count ty first len x known, row_longer types longer root count ty first len x);
      subobjects = λ root count place pointee known. (subobject_shorter types longer root count place pointee x known, subobject_longer types longer root count place pointee x known);
      found_rows = λ root count place pointee known. row_at_kept types longer root count place pointee x known;
      shared_ends = λ root count place pointee known there. shared_end_kept types longer root count place pointee x known there;
    }
