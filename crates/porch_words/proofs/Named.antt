-- Commands and options by their names.
use Rattle.std.proofs.Common.{◌≡◌, ℕ, List, [], ◌∷◌, ◌++◌, Bool, true, false, refl, ap, ◌∙◌}
use lib.Pointwise.{bytes_decides}
use Rattle.std.specs.Prelude.{Some, None, cond, codes}
use Rattle.std.specs.declared.option.Option.{Option}
use Rattle.std.specs.Str.{bytes_eq}
use Rattle.std.specs.Map.{lookup}
use Rattle.porch_words.specs.declared.command.Command.{Command}
use Rattle.porch_words.specs.declared.command.Command.TheVariants.{Exec, Compile, Start, Resume, Clear, Vet, Show}
use Rattle.porch_words.specs.declared.option.Key.{Key}
use Rattle.porch_words.specs.declared.option.Key.TheVariants.{Layout, Every, Turns, Stack, Heap, Widths}
use Rattle.porch_words.specs.Spelling.{command_name, option_name}
use Rattle.porch_words.specs.inside.Reading.{command_of, commands, key_of_name, options, Part, joined, apart, joined_by, apart_by, part_by, part_of, split, EQUAL_SIGN}
use Rattle.porch_words.proofs.Split.{split_joins}

same_some : {X : Type 0} (x y : X) → Some x ≡ Some y → x ≡ y
same_some x y e = cc

none_some : {X : Type 0} (x : X) → let o : Option X = None in o ≡ Some x → ⊥
none_some x e = cc

-- each entry has the name of its value
abbrev AreNamed : {X : Type 0} → (X → List ℕ) → List (List ℕ × X) → Type 0
AreNamed name [] = Unit {0}
AreNamed name (p ∷ ps) = (p.0 ≡ name p.1) × AreNamed name ps

by_name : {X : Type 0} (name : X → List ℕ) (w k : List ℕ) (v x : X) (r : Option X) (b : Bool) → (b ≡ true → w ≡ k) → k ≡ name v → (r ≡ Some x → w ≡ name x) → cond b (Some v) r ≡ Some x → w ≡ name x
by_name name w k v x r true is n h e = is refl ∙ n ∙ ap name (same_some v x e)
by_name name w k v x r false is n h e = h e

pub found : {X : Type 0} (name : X → List ℕ) (w : List ℕ) (es : List (List ℕ × X)) (x : X) → AreNamed name es → lookup (bytes_eq w) es ≡ Some x → w ≡ name x
found name w [] x a e = absurd (none_some x e)
found name w (p ∷ ps) x a e =
    by_name name w p.0 p.1 x (lookup (bytes_eq w) ps) (bytes_eq w p.0) (bytes_decides w p.0).0 a.0 (found name w ps x a.1) e

pub command_named : (w : List ℕ) (c : Command) → command_of w ≡ Some c → w ≡ command_name c
command_named w c e = found command_name w commands c (refl, (refl, (refl, (refl, (refl, (refl, (refl, tt))))))) e

pub command_found : (c : Command) → command_of (command_name c) ≡ Some c
command_found Exec = refl
command_found Compile = refl
command_found Start = refl
command_found Resume = refl
command_found Clear = refl
command_found Vet = refl
command_found Show = refl

option_named : (w : List ℕ) (k : Key) → key_of_name w ≡ Some k → w ≡ option_name k
option_named w k e = found option_name w options k (refl, (refl, (refl, (refl, (refl, (refl, tt)))))) e

-- an option's name is a word whose value is the next one
pub part_named : (k : Key) → part_of (option_name k) ≡ apart k
part_named Layout = refl
part_named Every = refl
part_named Turns = refl
part_named Stack = refl
part_named Heap = refl
part_named Widths = refl

-- and with "=" and a value it is a word with its value
pub part_valued : (k : Key) (v : List ℕ) → part_of (option_name k ++ codes "=" ++ v) ≡ joined k v
part_valued Layout v = refl
part_valued Every v = refl
part_valued Turns v = refl
part_valued Stack v = refl
part_valued Heap v = refl
part_valued Widths v = refl

is_joined : Part → Bool
is_joined (joined k v) = true
is_joined p = false

apart_not_joined : (o : Option Key) (k : Key) (v : List ℕ) → apart_by o ≡ joined k v → ⊥
unfolding is_joined
apart_not_joined None k v e = let x = ap is_joined e in cc
apart_not_joined (Some j) k v e = let x = ap is_joined e in cc

joined_not_apart : (o : Option Key) (k : Key) (v : List ℕ) → joined_by o v ≡ apart k → ⊥
joined_not_apart None k v e = cc
joined_not_apart (Some j) k v e = cc

key_joined : (o : Option Key) (u v : List ℕ) (k : Key) → joined_by o u ≡ joined k v → (o ≡ Some k) × (u ≡ v)
key_joined None u v k e = absurd (let x = e in cc)
key_joined (Some j) u v k e = (cc, cc)

key_apart : (o : Option Key) (k : Key) → apart_by o ≡ apart k → o ≡ Some k
key_apart None k e = absurd (let x = e in cc)
key_apart (Some j) k e = cc

by_part : (w v : List ℕ) (k : Key) (o : Option (List ℕ × List ℕ)) → split w ≡ o → part_by w o ≡ joined k v → w ≡ option_name k ++ codes "=" ++ v
by_part w v k None s e = absurd (apart_not_joined (key_of_name w) k v e)
by_part w v k (Some p) s e =
    let h = key_joined (key_of_name p.0) p.1 v k e in
    split_joins w p.0 p.1 s ∙ (rw (option_named p.0 k h.0, h.1) (sides k v))
  where
    sides : (k : Key) (v : List ℕ) → option_name k ++ (EQUAL_SIGN ∷ v) ≡ option_name k ++ codes "=" ++ v
    sides Layout v = refl
    sides Every v = refl
    sides Turns v = refl
    sides Stack v = refl
    sides Heap v = refl
    sides Widths v = refl

pub part_joined : (w v : List ℕ) (k : Key) → part_of w ≡ joined k v → w ≡ option_name k ++ codes "=" ++ v
part_joined w v k e = by_part w v k (split w) refl e

by_apart : (w : List ℕ) (k : Key) (o : Option (List ℕ × List ℕ)) → part_by w o ≡ apart k → w ≡ option_name k
by_apart w k None e = option_named w k (key_apart (key_of_name w) k e)
by_apart w k (Some p) e = absurd (joined_not_apart (key_of_name p.0) k p.1 e)

pub part_apart : (w : List ℕ) (k : Key) → part_of w ≡ apart k → w ≡ option_name k
part_apart w k e = by_apart w k (split w) e
