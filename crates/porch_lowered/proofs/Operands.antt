-- Operands: a value that is held in a temporary, one that stands in a variable of the source, and a constant.
use Rattle.std.proofs.Common.{◌≡◌, ◌<◌, ℕ, zero, suc, ◌+◌, ℤ, List, [], ◌∷◌, length, refl, sym, ap, ◌∙◌, ◌⊎◌, inl, inr, arith, Option, Some, None}
use Rattle.std.specs.Prelude.{slice_get, Result}
use Rattle.porch_types.specs.declared.shapes.Kind.{Kind}
use Rattle.porch_types.specs.declared.shapes.Ty.{Ty}
use Rattle.porch_types.specs.declared.shapes.Ty.TheVariants.{Whole, Pointer, Array, Struct}
use Rattle.porch_values.specs.declared.acts.Act.{Act}
use Rattle.porch_values.specs.declared.acts.Act.TheVariants.{Indeterminate}
use Rattle.porch_objects.specs.Store.{of_call, Value, number, null, pointer, past, indeterminate, Object, Store, seen, leaf_at, variable_home}
use Rattle.porch_objects.specs.Pointers.{if_there}
use Rattle.porch_objects.specs.Meaning.{Progress, Met}
use Rattle.porch_flat.specs.declared.flat.Operand.{Operand}
use Rattle.porch_flat.specs.declared.flat.Operand.TheVariants.{Var, Constant}
use Rattle.porch_flat.specs.declared.whole.Command.TheVariants as command
use Rattle.porch_flat.specs.whole.Places.{type_at}
use Rattle.porch_abstract.specs.Machine.{Next, Goes, with_store, determined, put}
use Rattle.porch_abstract.specs.whole.Machine.{operand_of, variable_of, constant_of}
use Rattle.porch_mean.specs.Outcome.{Went, with_result}
use Rattle.porch_lowering.specs.Code.{InUse}
use Rattle.porch_lowering.specs.Operators.{used_commands}
use Rattle.porch_sound.specs.Typing.{StoreTyping}
use Rattle.porch_lowered.specs.Beside.{beside, IsDeclared}
use Rattle.porch_lowered.proofs.Typed.{counts, count_of}
use Rattle.porch_lowered.proofs.Runs.{stays}
use Rattle.porch_lowered.proofs.Follows.{EndsIn}
use Rattle.porch_lowered.proofs.SameLeaf.{same_leaf, seen_or_not}
use Rattle.porch_lowered.proofs.Temporaries.{temporary}
use Rattle.porch_lowered.proofs.States.{Stands, variable_value, command_goes, command_meets}
use Rattle.porch_lowered.proofs.Codes.{Context, first, commands, here, IsOf, On, Follow, IsUsed, Keeps, IsReady, grounded, MayGo}
use Rattle.porch_lowered.proofs.Holding.{IsSetting, temporary_value}

pub get_within : (xs : List ℕ) (i x : ℕ) → slice_get xs i ≡ Some x → i < length xs
get_within [] i x e = cc
get_within (y ∷ xs) zero x e = omega arith
get_within (y ∷ xs) (suc i) x e = (let less = get_within xs i x e in omega (arith, less))

module _ (c : Context) where
  -- variable t is a temporary in use, and holds the value
  pub record InTemporary (ty : ℕ) (used : InUse) (ts : List Object) (t : ℕ) (v : Value) : Type 0 where
    pub of_type : MayGo c ty (Some t)
    pub index : ℕ
    pub number : t ≡ first c + index
    pub is_used : IsUsed c used index
    pub holds : temporary ts index ≡ v

  -- variable t is one of the source, in which the value stands
  pub record InVariable (ty : ℕ) (s : Progress) (t : ℕ) (v : Value) : Type 0 where
    pub declared : slice_get c.variables t ≡ Some ty
    pub stands : leaf_at s.store (of_call c.call t) 0 ≡ v

  -- An operand is a value of a type.
  abbrev pub IsOperand : (ty : ℕ) → InUse → Progress → List Object → Operand → Value → Type 0
  IsOperand ty used s ts (Var t) v = InTemporary ty used ts t v ⊎ InVariable ty s t v
  IsOperand ty used s ts (Constant z) v = constant_of (type_at c.flat (Some ty)) z ≡ v

  -- it stays where the temporaries in use do
  pub operand_stays : (ty : ℕ) (used used' : InUse) (s : Progress) (ts ts' : List Object) (o : Operand) (v : Value)
      → ((i : ℕ) → IsUsed c used i → IsUsed c used' i) → Keeps c None used ts ts' → IsOperand ty used s ts o v → IsOperand ty used' s ts' o v
  operand_stays ty used used' s ts ts' (Var t) v more keeps (inl x) =
      inl (record {
        of_type = x.of_type;
        index = x.index;
        number = x.number;
        is_used = more x.index x.is_used;
        holds = keeps x.index x.is_used (λ e. cc) ∙ x.holds;
      })
  operand_stays ty used used' s ts ts' (Var t) v more keeps (inr x) = inr x
  operand_stays ty used used' s ts ts' (Constant z) v more keeps x = x

  -- one that stays where the store changes: it stands in no variable of the source
  abbrev pub IsSteady : (ty : ℕ) → InUse → List Object → Operand → Value → Type 0
  IsSteady ty used ts (Var t) v = InTemporary ty used ts t v
  IsSteady ty used ts (Constant z) v = constant_of (type_at c.flat (Some ty)) z ≡ v

  pub steady_is : (ty : ℕ) (used : InUse) (s : Progress) (ts : List Object) (o : Operand) (v : Value) → IsSteady ty used ts o v → IsOperand ty used s ts o v
  steady_is ty used s ts (Var t) v x = inl x
  steady_is ty used s ts (Constant z) v x = x

  pub steady_stays : (ty : ℕ) (used used' : InUse) (ts ts' : List Object) (o : Operand) (v : Value)
      → ((i : ℕ) → IsUsed c used i → IsUsed c used' i) → Keeps c None used ts ts' → IsSteady ty used ts o v → IsSteady ty used' ts' o v
  steady_stays ty used used' ts ts' (Var t) v more keeps x =
      record {
        of_type = x.of_type;
        index = x.index;
        number = x.number;
        is_used = more x.index x.is_used;
        holds = keeps x.index x.is_used (λ e. cc) ∙ x.holds;
      }
  steady_stays ty used used' ts ts' (Constant z) v more keeps x = x

  constant_seen : (s : Store) (shape : Option Ty) (z : ℤ) → seen s (constant_of shape z) ≡ constant_of shape z
  constant_seen s None z = refl
  constant_seen s (Some (Whole kind)) z = refl
  constant_seen s (Some (Pointer to)) z = refl
  constant_seen s (Some (Array of count)) z = refl
  constant_seen s (Some (Struct members)) z = refl

  module _ (set : IsSetting c) where
    -- a declared variable of the call is one that the source names
    pub is_declared : (made : StoreTyping) (s : Progress) (ts : List Object) (t ty : ℕ) → IsReady c made s ts → slice_get c.variables t ≡ Some ty
        → IsDeclared (counts made) (of_call c.call t)
    is_declared made s ts t ty ready e =
        let less = get_within c.variables t ty e in
        let count = count_of made.calls c.call in
        let all = ap (λ (xs : List ℕ). length xs) ready.declares in
        omega (arith, less, count, all)

    -- what a variable is read as
    pub variable_is : (made : StoreTyping) (s : Progress) (ts : List Object) (place ty t : ℕ) (used : InUse) (v : Value) → IsReady c made s ts
        → IsOperand ty used s ts (Var t) v → IsOf c made ty v → variable_of t (here c s ts place) ≡ seen s.store v
    variable_is made s ts place ty t used v ready (inl x) of = temporary_value c set made s ts place x.index t ty v ready x.number x.holds of
    variable_is made s ts place ty t used v ready (inr x) of =
        variable_value c.flat c.under c.n c.function c.into c.callers c.more (counts made) c.call s ts place t (Some ty) (grounded c made s ts ready) ready.inside
        (is_declared made s ts t ty ready x.declared)
        ∙ ap (λ w. seen s.store w) x.stands

    pub operand_is : (made : StoreTyping) (s : Progress) (ts : List Object) (place ty : ℕ) (used : InUse) (o : Operand) (v : Value) → IsReady c made s ts
        → IsOperand ty used s ts o v → IsOf c made ty v → operand_of c.flat (Some ty) o (here c s ts place) ≡ seen s.store v
    operand_is made s ts place ty used (Var t) v ready x of = variable_is made s ts place ty t used v ready x of
    operand_is made s ts place ty used (Constant z) v ready x of =
        sym (constant_seen s.store (type_at c.flat (Some ty)) z) ∙ ap (λ w. seen s.store w) x

    -- an integer in any place
    pub number_is : (made : StoreTyping) (s : Progress) (ts : List Object) (place ty : ℕ) (kind : Kind) (used : InUse) (o : Operand) (v : Value) (asked : Option ℕ)
        → slice_get c.flat.types ty ≡ Some (Whole kind) → (asked ≡ None) ⊎ (asked ≡ Some ty) → IsReady c made s ts
        → IsOperand ty used s ts o v → IsOf c made ty v → operand_of c.flat asked o (here c s ts place) ≡ seen s.store v
    number_is made s ts place ty kind used (Var t) v asked shape is ready x of = variable_is made s ts place ty t used v ready x of
    number_is made s ts place ty kind used (Constant z) v asked shape (inr is) ready x of =
        ap (λ asked. operand_of c.flat asked (Constant z) (here c s ts place)) is ∙ operand_is made s ts place ty used (Constant z) v ready x of
    number_is made s ts place ty kind used (Constant z) v asked shape (inl is) ready x of =
        ap (λ asked. operand_of c.flat asked (Constant z) (here c s ts place)) is
        ∙ sym (ap (λ shape. constant_of shape z) shape)
        ∙ operand_is made s ts place ty used (Constant z) v ready x of

    -- what the type of a variable is in the flat function
    pub operand_type : (ty : ℕ) (used : InUse) (s : Progress) (ts : List Object) (t : ℕ) (v : Value) → IsOperand ty used s ts (Var t) v → MayGo c ty (Some t)
    operand_type ty used s ts t v (inl x) = x.of_type
    operand_type ty used s ts t v (inr x) = λ place. set.declared t ty place x.declared

  -- A variable is moved to itself: it is used, and nothing changes.

  put_same : (s : Progress) (ts : List Object) (place t : ℕ) (w : Value) → variable_of t (here c s ts place) ≡ w → (w ≡ indeterminate → ⊥)
      → put t w (here c s ts (place + 1)) ≡ here c s ts (place + 1)
  put_same s ts place t w e there =
      let store = beside s.store (ts ∷ c.more) in
      let home = variable_home store t in
      elim (seen_or_not store (leaf_at store home 0)) [
        | inl same ↦
            ap (λ v. put t v (here c s ts (place + 1))) (sym e ∙ same)
            ∙ ap (λ store. with_store (here c s ts (place + 1)) store) (same_leaf store home)
        | inr lost ↦ absurd (there (sym e ∙ lost))
      ]

  goes_where_there : (w : Value) (go : Value → Next) → (w ≡ indeterminate → ⊥) → determined w go ≡ go w
  goes_where_there (number z) go h = refl
  goes_where_there null go h = refl
  goes_where_there (pointer home leaf) go h = refl
  goes_where_there (past home leaf until) go h = refl
  goes_where_there indeterminate go h = absurd (h refl)

  pub self_goes : (s : Progress) (ts : List Object) (place t : ℕ) (w : Value) → slice_get (commands c) place ≡ Some (command.Move t (Var t))
      → variable_of t (here c s ts place) ≡ w → (w ≡ indeterminate → ⊥) → On c (here c s ts place) s.marks (here c s ts (place + 1)) s.marks
  self_goes s ts place t w stands e there =
      command_goes c.flat c.under c.n c.function c.into c.callers c.more (command.Move t (Var t)) place (here c s ts place) stands
      (record { calm = refl; silent = λ s frame. refl }) (here c s ts (place + 1)) s.marks
      (ap (λ x. determined x (λ x. Goes (put t x (here c s ts (place + 1))))) e
      ∙ goes_where_there w (λ x. Goes (put t x (here c s ts (place + 1)))) there
      ∙ ap (λ x. Goes x) (put_same s ts place t w e there))

  pub self_meets : (s : Progress) (ts : List Object) (place t : ℕ) → slice_get (commands c) place ≡ Some (command.Move t (Var t))
      → variable_of t (here c s ts place) ≡ indeterminate → EndsIn c.flat c.under c.n (here c s ts place) s.marks (Met Indeterminate) s
  self_meets s ts place t stands e =
      record {
        last = here c s ts place;
        runs =
            command_meets c.flat c.under c.n c.function c.into c.callers c.more (command.Move t (Var t)) place (here c s ts place) stands
            (record { calm = refl; silent = λ s frame. refl }) Indeterminate s.marks
            (ap (λ x. determined x (λ x. Goes (put t x (here c s ts (place + 1))))) e);
        output = refl;
        turns = refl;
      }

  -- An operand is used where it has to be, and then what follows is `r`.
  abbrev pub when_there : Value → Result Value Act → Result Value Act
  when_there v r = if_there v (λ _. r)

  not_missing : (v : Value) → (v ≡ indeterminate) ⊎ (v ≡ indeterminate → ⊥)
  not_missing (number z) = inr (λ e. cc)
  not_missing null = inr (λ e. cc)
  not_missing (pointer home leaf) = inr (λ e. cc)
  not_missing (past home leaf until) = inr (λ e. cc)
  not_missing indeterminate = inl refl

  there_is : (v : Value) (r : Result Value Act) → (v ≡ indeterminate → ⊥) → when_there v r ≡ r
  there_is (number z) r h = refl
  there_is null r h = refl
  there_is (pointer home leaf) r h = refl
  there_is (past home leaf until) r h = refl
  there_is indeterminate r h = absurd (h refl)

  constant_there : (shape : Option Ty) (z : ℤ) → constant_of shape z ≡ indeterminate → ⊥
  constant_there None z e = cc
  constant_there (Some (Whole kind)) z e = cc
  constant_there (Some (Pointer to)) z e = cc
  constant_there (Some (Array of count)) z e = cc
  constant_there (Some (Struct members)) z e = cc

  pub use_follows : (set : IsSetting c) (made : StoreTyping) (s : Progress) (ts : List Object) (place ty : ℕ) (used : InUse) (o : Operand) (v : Value)
      (r : Result Value Act) (near far : Value → Progress → Type 0) → IsReady c made s ts → IsOperand ty used s ts o v → IsOf c made ty v
      → Stands (commands c) place (used_commands o)
      → (On c (here c s ts place) s.marks (here c s ts (place + length (used_commands o))) s.marks
      → Follow c (with_result r s (λ w s. Went w s)) (here c s ts place) s.marks near)
      → Follow c (with_result (when_there (seen s.store v) r) s (λ w s. Went w s)) (here c s ts place) s.marks near
  use_follows set made s ts place ty used (Constant z) v r near far ready x of stands k =
      let there : seen s.store v ≡ indeterminate → ⊥ = λ e. constant_there (type_at c.flat (Some ty)) z (operand_is set made s ts place ty used (Constant z) v ready x of ∙ e) in
      let e : place + 0 ≡ place = omega arith in
      rw (there_is (seen s.store v) r there) (k (rw e (stays c.flat c.under c.n (here c s ts place) s.marks)))
  use_follows set made s ts place ty used (Var t) v r near far ready x of stands k =
      let is = variable_is set made s ts place ty t used v ready x of in
      elim (not_missing (seen s.store v)) [
        | inl missing ↦
            (let met = self_meets s ts place t stands.0 (is ∙ missing) in
            rw missing met)
        | inr there ↦ rw (there_is (seen s.store v) r there) (k (self_goes s ts place t (seen s.store v) stands.0 is there))
      ]
