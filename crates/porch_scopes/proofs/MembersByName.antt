-- Members by name in a table are those of the list.
use Rattle.std.proofs.Common.{◌≡◌, ℕ, Bool, true, false, List, [], ◌∷◌, ◌++◌, map, Option, Some, None, refl, sym, ap, ◌∙◌, true≢false, is_some, Bor}
use Rattle.std.specs.Option.{option_map}
use Rattle.std.specs.List.{list_any}
use Rattle.std.specs.Map.{lookup}
use Rattle.std.specs.Str.{bytes_eq}
use Rattle.std.proofs.lemmas.List.{map-append}
use Rattle.indexmap.specs.IndexMap.{insert_entry}
use Rattle.porch_check.specs.Shapes.{Member}
use Rattle.porch_check.specs.Declarations.{Members}
use Rattle.porch_check.specs.Operators.{member_named}
use Rattle.porch_scopes.specs.declared.members.Member as code_member
use Rattle.porch_scopes.specs.Views.{as_member, members_of}
use lib.Pointwise.{bytes_decides}

abbrev Entries : Type 0
Entries = List (Bor (List ℕ) × code_member.Member)

abbrev named : Entries → List Member
named es = map (λ e. as_member e.0.now e.1) es

named_first : (x : List ℕ) (e : Bor (List ℕ) × code_member.Member) (es : Entries) (b : Bool) → bytes_eq x e.0.now ≡ b
    → member_named x (named es) ≡ option_map (as_member x) (lookup (λ k. bytes_eq x k.now) es)
    → member_named x (named (e ∷ es)) ≡ option_map (as_member x) (lookup (λ k. bytes_eq x k.now) (e ∷ es))
named_first x e es true h more = rw h (ap (λ y. Some (as_member y e.1)) (sym ((bytes_decides x e.0.now).0 h)))
named_first x e es false h more = rw h more

pub named_is : (x : List ℕ) (es : Entries) → member_named x (named es) ≡ option_map (as_member x) (lookup (λ k. bytes_eq x k.now) es)
named_is x [] = refl
named_is x (e ∷ es) = named_first x e es (bytes_eq x e.0.now) refl (named_is x es)

some_none : {A B : Type 0} (f : A → B) (x : Option A) → option_map f x ≡ None → x ≡ None
some_none f None h = refl
some_none f (Some x) h = absurd (true≢false (ap is_some h))

-- a new name goes last
pub list_more : (es : Entries) (n : ℕ) (ms : Members) (k : Bor (List ℕ)) (v : code_member.Member) (fs : Entries)
    → members_of es n ≡ ms → lookup (λ q. bytes_eq k.now q.now) es ≡ None
    → (lookup (λ q. bytes_eq k.now q.now) es ≡ None → insert_entry (λ a b. bytes_eq a.now b.now) es k v ≡ es ++ (k, v) ∷ [])
    → fs ≡ insert_entry (λ a b. bytes_eq a.now b.now) es k v
    → named fs ≡ ms.list ++ as_member k.now v ∷ []
list_more es n ms k v fs same none last more =
    ap named (more ∙ last none)
    ∙ map-append (λ (e : Bor (List ℕ) × code_member.Member). as_member e.0.now e.1) es ((k, v) ∷ [])
    ∙ ap (λ (m : Members). m.list ++ as_member k.now v ∷ []) same

pub absent : (es : Entries) (n : ℕ) (ms : Members) (x : List ℕ) → members_of es n ≡ ms → member_named x ms.list ≡ None
    → lookup (λ q. bytes_eq x q.now) es ≡ None
absent es n ms x same none =
    some_none (as_member x) (lookup (λ q. bytes_eq x q.now) es) (sym (named_is x es) ∙ ap (λ (m : Members). member_named x m.list) same ∙ none)

abbrev any_named : List ℕ → List Member → Bool
any_named x ms = list_any (λ (m : Member). bytes_eq x m.name) ms

any_first : (x : List ℕ) (m : Member) (ms : List Member) (b : Bool) → bytes_eq x m.name ≡ b
    → any_named x ms ≡ is_some (member_named x ms) → any_named x (m ∷ ms) ≡ is_some (member_named x (m ∷ ms))
any_first x m ms true h more = rw h refl
any_first x m ms false h more = rw h more

any_is : (x : List ℕ) (ms : List Member) → any_named x ms ≡ is_some (member_named x ms)
any_is x [] = refl
any_is x (m ∷ ms) = any_first x m ms (bytes_eq x m.name) refl (any_is x ms)

some_map : {A B : Type 0} (f : A → B) (o : Option A) → is_some (option_map f o) ≡ is_some o
some_map f (Some x) = refl
some_map f None = refl

-- whether a name is among them, by what is found
pub contained : (x : List ℕ) (ms : List Member) (o : Option code_member.Member) → member_named x ms ≡ option_map (as_member x) o
    → is_some o ≡ any_named x ms
contained x ms o found = sym (any_is x ms ∙ ap is_some found ∙ some_map (as_member x) o)

none_is : (o : Option Member) → is_some o ≡ false → o ≡ None
none_is None h = refl
none_is (Some m) h = absurd (true≢false h)

pub none_named : (x : List ℕ) (ms : List Member) → any_named x ms ≡ false → member_named x ms ≡ None
none_named x ms h = none_is (member_named x ms) (sym (any_is x ms) ∙ h)
