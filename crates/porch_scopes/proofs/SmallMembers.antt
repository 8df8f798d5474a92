-- Members begin within their struct, also where one more comes.
use Rattle.std.proofs.Common.{rules, ◌≡◌, ℕ, zero, suc, ◌≤◌, Bool, true, false, List, [], ◌∷◌, ◌++◌, slice_get, slice_set, Option, Some, None, IfSome, refl, sym, ap, ◌∙◌, subst, arith}
use Rattle.std.specs.Option.{option_map, option_map_or}
use Rattle.std.specs.Str.{bytes_eq}
use Rattle.porch_types.specs.Leaves.{MOST_LEAVES}
use Rattle.porch_check.specs.Shapes.{Member, Row}
use Rattle.porch_check.specs.Operators.{member_named}
use Rattle.porch_scopes.specs.declared.members.Member as code_member
use Rattle.porch_scopes.specs.Views.{as_member}
use Rattle.porch_scopes.specs.Sizes.{AreWithin}
use Rattle.porch_scopes.specs.inside.Rows.{AreSmall, members_in_rows}

pub within_more : (ms : List Member) (n m : ℕ) (x : Member) → AreWithin ms n → n ≤ m → x.leaf ≤ m → AreWithin (ms ++ x ∷ []) m
within_more [] n m x h k l = (l, tt)
within_more (y ∷ ms) n m x h k l = let first = h.0 in (omega arith, within_more ms n m x h.1 k l)

pub within_wider : (ms : List Member) (n m : ℕ) → AreWithin ms n → n ≤ m → AreWithin ms m
within_wider [] n m h k = tt
within_wider (y ∷ ms) n m h k = let first = h.0 in (omega arith, within_wider ms n m h.1 k)

pub small_more : (rs : List Row) (r : Row) → AreSmall rs → AreWithin r.members MOST_LEAVES → AreSmall (rs ++ r ∷ [])
small_more [] r h k = (k, tt)
small_more (q ∷ rs) r h k = (h.0, small_more rs r h.1 k)

pub small_set : (rs : List Row) (n : ℕ) (r : Row) → AreSmall rs → AreWithin r.members MOST_LEAVES → AreSmall (slice_set rs n r)
small_set [] n r h k = tt
small_set (q ∷ rs) zero r h k = (k, h.1)
small_set (q ∷ rs) (suc n) r h k = (h.0, small_set rs n r h.1 k)

pub small_at : (rs : List Row) (n : ℕ) → AreSmall rs
    → AreWithin (members_in_rows rs n) MOST_LEAVES
small_at [] n h = tt
small_at (r ∷ rs) zero h = h.0
small_at (r ∷ rs) (suc n) h = small_at rs n h.1

some_leaf : (x : List ℕ) (m : Member) (n : ℕ) (o : Option code_member.Member) → m.leaf ≤ n
    → Some m ≡ option_map (as_member x) o → IfSome o (λ (k : code_member.Member). k.leaf ≤ n)
some_leaf x m n None h e = absurd (cc)
some_leaf x m n (Some k) h e =
    let same : m.leaf ≡ k.leaf = ap (λ q. option_map_or (λ (r : Member). r.leaf) q 0) e in
    omega arith

none_leaf : (x : List ℕ) (n : ℕ) (o : Option code_member.Member)
    → None ≡ option_map (as_member x) o → IfSome o (λ (k : code_member.Member). k.leaf ≤ n)
none_leaf x n None e = search rules
none_leaf x n (Some k) e = absurd (cc)

named_case : (x : List ℕ) (m : Member) (ms : List Member) (n : ℕ) (o : Option code_member.Member) (b : Bool) → bytes_eq x m.name ≡ b
    → m.leaf ≤ n → member_named x (m ∷ ms) ≡ option_map (as_member x) o
    → (member_named x ms ≡ option_map (as_member x) o → IfSome o (λ (k : code_member.Member). k.leaf ≤ n))
    → IfSome o (λ (k : code_member.Member). k.leaf ≤ n)
named_case x m ms n o true is h e rest = some_leaf x m n o h (rw is at e)
named_case x m ms n o false is h e rest = rest (rw is at e)

pub named_within : (x : List ℕ) (ms : List Member) (n : ℕ) (o : Option code_member.Member) → AreWithin ms n
    → member_named x ms ≡ option_map (as_member x) o → IfSome o (λ (k : code_member.Member). k.leaf ≤ n)
named_within x [] n o h e = none_leaf x n o e
named_within x (m ∷ ms) n o h e =
    named_case x m ms n o (bytes_eq x m.name) refl h.0 e (λ k. named_within x ms n o h.1 k)
