-- Values that are there when they come: numbers, what is read, places of members, and what operators make.
use Rattle.std.proofs.Common.{◌≡◌, ℕ, ◌+◌, ◌-◌, ◌*◌, ◌/◌, ℤ, pos, negsuc, ◌+ℤ◌, ◌-ℤ◌, refl, sym, ap, subst, ◌∙◌, Bool, true, false, Option, Some, None}
use Rattle.std.specs.Prelude.{⊤, is_some, nat_eq, nat_lt, ◌&&◌, if◌then◌else◌, List, Result, Ok, Err}
use Rattle.std.specs.Option.{option_map}
use Rattle.porch_types.specs.declared.shapes.Ty.{Ty}
use Rattle.porch_types.specs.declared.parts.Row.{Row}
use Rattle.porch_types.specs.Leaves.{leaves_of}
use Rattle.porch_values.specs.declared.acts.Act.{Act}
use Rattle.porch_values.specs.declared.acts.Act.TheVariants as act
use Rattle.porch_values.specs.declared.widths.Widths.{Widths}
use Rattle.porch_values.specs.Integers.{applied, converted}
use Rattle.porch_objects.specs.Store.{Home, Value, number, null, pointer, past, indeterminate, Object, Store, object_at, is_good, seen, leaf_at}
use Rattle.porch_objects.specs.Pointers.{if_there, if_number, if_place, Position, row_in, position_of, is_shared, end_behind, element, element_from, step_from, step, difference}
use Rattle.porch_objects.specs.Meaning.{Environment, Progress}
use Rattle.porch_typed.specs.declared.typed.Comparison.{Comparison}
use Rattle.porch_typed.specs.declared.typed.Operator.{Operator}
use Rattle.porch_typed.specs.declared.typed.Operator.TheVariants as operator
use Rattle.porch_typed.specs.Mirror.{Steps, Program, no_steps, with_step}
use Rattle.porch_mean.specs.Outcome.{Outcome, Went, Left, Undefined, Stopped, Calls, and_then, with_result}
use Rattle.porch_mean.specs.Operators.{if_ok, as_value, truth_value, target_of, pointers_compare, operate}
use Rattle.porch_mean.specs.Expression.{load_at, member_at, operate_on, value, value_behind}
use Rattle.porch_lowered.proofs.SameLeaf.{seen_twice}
use Rattle.porch_lowered.proofs.Temporaries.{same_number}
use Rattle.porch_lowered.proofs.Codes.{IsPresent}

pub went_present : (x : Value) (s : Progress) (v : Value) (u : Progress) → seen s.store x ≡ x → (x ≡ indeterminate → ⊥) → Went x s ≡ Went v u → IsPresent v u
went_present x s v u is there e =
    let value : x ≡ v = cc in
    let progress : s ≡ u = cc in
    subst (λ v. IsPresent v u) value (subst (λ u. IsPresent x u) progress (is, there))

pub number_present : (z : ℤ) (s : Progress) → IsPresent (number z) s
number_present z s = (refl, λ e. cc)

-- a value that is used
pub used_present : (w : Value) (s : Progress) (v : Value) (u : Progress) → seen s.store w ≡ w
    → with_result (if_there w (λ v. Ok v)) s (λ v s. Went v s) ≡ Went v u → IsPresent v u
used_present (number z) s v u is e = went_present (number z) s v u is (λ e. cc) e
used_present null s v u is e = went_present null s v u is (λ e. cc) e
used_present (pointer home leaf) s v u is e = went_present (pointer home leaf) s v u is (λ e. cc) e
used_present (past home leaf until) s v u is e = went_present (past home leaf until) s v u is (λ e. cc) e
used_present indeterminate s v u is e = cc

-- what is read
abbrev loads_by : Value → Progress → Outcome
loads_by x s = with_result (if_there x (λ p. if_place p (λ home leaf. if_there (seen s.store (leaf_at s.store home leaf)) (λ v. Ok v)))) s (λ v s. Went v s)

load_by : (x : Value) (s : Progress) (v : Value) (u : Progress) → loads_by x s ≡ Went v u → IsPresent v u
load_by (number z) s v u e = cc
load_by null s v u e = cc
load_by (pointer home leaf) s v u e = used_present (seen s.store (leaf_at s.store home leaf)) s v u (seen_twice s.store (leaf_at s.store home leaf)) e
load_by (past home leaf until) s v u e = cc
load_by indeterminate s v u e = cc

pub load_present : (at : Value) (s : Progress) (v : Value) (u : Progress) → load_at at s ≡ Went v u → IsPresent v u
load_present at s v u e = load_by (seen s.store at) s v u e

-- a place that is reached
other_leaf : (b : Bool) (home : Home) (leaf leaf' : ℕ) → (if b then pointer home leaf else indeterminate) ≡ pointer home leaf
    → (if b then pointer home leaf' else indeterminate) ≡ pointer home leaf'
other_leaf true home leaf leaf' e = refl
other_leaf false home leaf leaf' e = cc

abbrev reaches_by : ℕ → Value → Progress → Outcome
reaches_by leaf x s = with_result (if_there x (λ p. if_place p (λ home first. let r : Result Value Act = Ok (pointer home (first + leaf)) in r))) s (λ v s. Went v s)

member_by : (leaf : ℕ) (x : Value) (s : Progress) (v : Value) (u : Progress) → seen s.store x ≡ x → reaches_by leaf x s ≡ Went v u → IsPresent v u
member_by leaf (number z) s v u is e = cc
member_by leaf null s v u is e = cc
member_by leaf (pointer home first) s v u is e =
    went_present (pointer home (first + leaf)) s v u (other_leaf (is_some (object_at s.store home)) home first (first + leaf) is) (λ e. cc) e
member_by leaf (past home first until) s v u is e = cc
member_by leaf indeterminate s v u is e = cc

pub member_present : (at : Value) (leaf : ℕ) (s : Progress) (v : Value) (u : Progress) → member_at at leaf s ≡ Went v u → IsPresent v u
member_present at leaf s v u e = member_by leaf (seen s.store at) s v u (seen_twice s.store at) e

-- what an operator makes
abbrev pub IsMade : Store → Result Value Act → Type 0
IsMade s (Ok v) = (seen s v ≡ v) × (v ≡ indeterminate → ⊥)
IsMade s (Err a) = ⊤

made_there : (s : Store) (x : Value) (f : Value → Result Value Act) → ((x : Value) → IsMade s (f x)) → IsMade s (if_there x f)
made_there s (number z) f k = k (number z)
made_there s null f k = k null
made_there s (pointer home leaf) f k = k (pointer home leaf)
made_there s (past home leaf until) f k = k (past home leaf until)
made_there s indeterminate f k = tt

made_number : (s : Store) (x : Value) (f : ℤ → Result Value Act) → ((z : ℤ) → IsMade s (f z)) → IsMade s (if_number x f)
made_number s (number z) f k = k z
made_number s null f k = tt
made_number s (pointer home leaf) f k = tt
made_number s (past home leaf until) f k = tt
made_number s indeterminate f k = tt

pub made_value : (s : Store) (r : Result ℤ Act) → IsMade s (as_value r)
made_value s (Ok z) = (refl, λ e. cc)
made_value s (Err a) = tt

made_truth : (s : Store) (r : Result Bool Act) → IsMade s (if_ok r (λ holds. Ok (truth_value holds)))
made_truth s (Ok b) = (refl, λ e. cc)
made_truth s (Err a) = tt

pub made_ok : {A : Type 0} (s : Store) (r : Result A Act) (f : A → Result Value Act) → ((x : A) → IsMade s (f x)) → IsMade s (if_ok r f)
made_ok s (Ok x) f k = k x
made_ok s (Err a) f k = tt

module _ (types : List Ty) (pointee : ℕ) (s : Store) where
  good_now : (b : Bool) → is_good (if b then Some s.checkpoints else None) s.checkpoints ≡ true
  good_now true = same_number s.checkpoints
  good_now false = refl

  -- the element of a row of an object that is alive
  made_element : (home : Home) (o : Object) (row : Row) (index : ℕ) → object_at s home ≡ Some o → IsMade s (element types pointee s home row index)
  made_element home o row index alive = inside (nat_lt index row.len)
    where
      end_seen : (leaf : ℕ) → seen s (end_behind types pointee s home leaf) ≡ end_behind types pointee s home leaf
      end_seen leaf =
          ap
          (λ found. if is_some found && is_good (if is_shared types pointee (object_at s home) leaf then Some s.checkpoints else None) s.checkpoints
          then end_behind types pointee s home leaf else indeterminate)
          alive
          ∙ ap (λ b. if b then end_behind types pointee s home leaf else indeterminate) (good_now (is_shared types pointee (object_at s home) leaf))

      at_end : (b : Bool) (leaf : ℕ) → IsMade s (if b then Ok (end_behind types pointee s home leaf) else Err act.Row)
      at_end true leaf = (end_seen leaf, λ e. cc)
      at_end false leaf = tt

      inside : (b : Bool)
          → IsMade s
          (if b then Ok (pointer home (row.first + index * leaves_of types pointee))
          else (if nat_eq index row.len then Ok (end_behind types pointee s home (row.first + (index - 1) * leaves_of types pointee)) else Err act.Row))
      inside true = (ap (λ found. if is_some found then pointer home (row.first + index * leaves_of types pointee) else indeterminate) alive, λ e. cc)
      inside false = at_end (nat_eq index row.len) (row.first + (index - 1) * leaves_of types pointee)

  made_from : (home : Home) (o : Object) (row : Row) (z : ℤ) → object_at s home ≡ Some o → IsMade s (element_from types pointee s home row z)
  made_from home o row (pos index) alive = made_element home o row index alive
  made_from home o row (negsuc n) alive = tt

  made_by_row : (home : Home) (o : Object) (leaf more : ℕ) (row : Option Row) (z : ℤ) → object_at s home ≡ Some o
      → IsMade s
      (step_from types pointee s
      (option_map (λ (row : Row). let p : Position = record { home = home; row = row; index = (leaf - row.first) / leaves_of types pointee + more } in p) row) z)
  made_by_row home o leaf more None z alive = tt
  made_by_row home o leaf more (Some row) z alive = made_from home o row (pos ((leaf - row.first) / leaves_of types pointee + more) +ℤ z) alive

  made_at : (home : Home) (found : Option Object) (leaf more : ℕ) (z : ℤ) → object_at s home ≡ found
      → IsMade s
      (step_from types pointee s
      (option_map (λ (row : Row). let p : Position = record { home = home; row = row; index = (leaf - row.first) / leaves_of types pointee + more } in p)
      (row_in types pointee found leaf)) z)
  made_at home None leaf more z alive = tt
  made_at home (Some o) leaf more z alive = made_by_row home o leaf more (row_in types pointee (Some o) leaf) z alive

  made_step_from : (x : Value) (z : ℤ) → IsMade s (step_from types pointee s (position_of types pointee s x) z)
  made_step_from (number k) z = tt
  made_step_from null z = tt
  made_step_from (pointer home leaf) z = made_at home (object_at s home) leaf 0 z refl
  made_step_from (past home leaf until) z = made_at home (object_at s home) leaf 1 z refl
  made_step_from indeterminate z = tt

  made_step : (p : Value) (z : ℤ) → IsMade s (step types pointee s p z)
  made_step p z = made_there s (seen s p) (λ p. step_from types pointee s (position_of types pointee s p) z) (λ x. made_step_from x z)

module _ (types : List Ty) (widths : Widths) (s : Store) where
  made_pointers : (c : Comparison) (ty : ℕ) (a b : Value) → IsMade s (operate types widths (operator.ComparePointers c ty) s a b)
  made_pointers c ty a b = made_truth s (pointers_compare types widths c (target_of types ty) s a b)

  made_by : (op : Operator) (a b : Value) → IsMade s (operate types widths op s a b)
  made_by (operator.Arithmetic op kind) a b =
      made_there s (seen s a) _ (λ a. made_there s (seen s b) _ (λ b. made_number s a _ (λ x. made_number s b _ (λ y.
      made_ok s (converted kind widths x) _ (λ x. made_ok s (converted kind widths y) _ (λ y. made_value s (applied op kind widths x y)))))))
  made_by (operator.Shift op kind) a b =
      made_there s (seen s a) _ (λ a. made_there s (seen s b) _ (λ b. made_number s a _ (λ x. made_number s b _ (λ y.
      made_ok s (converted kind widths x) _ (λ x. made_value s (applied op kind widths x y))))))
  made_by (operator.Compare c kind) a b =
      made_there s (seen s a) _ (λ a. made_there s (seen s b) _ (λ b. made_number s a _ (λ x. made_number s b _ (λ y.
      made_ok s (converted kind widths x) _ (λ x. made_ok s (converted kind widths y) _ (λ y. (refl, λ e. cc)))))))
  made_by (operator.ComparePointers c ty) a b = made_pointers c ty a b
  made_by (operator.Forward ty) a b =
      made_there s (seen s a) _ (λ p. made_there s (seen s b) _ (λ z. made_number s z _ (λ z. made_step types (target_of types ty) s p z)))
  made_by (operator.Back ty) a b =
      made_there s (seen s a) _ (λ p. made_there s (seen s b) _ (λ z. made_number s z _ (λ z. made_step types (target_of types ty) s p (pos 0 -ℤ z))))
  made_by (operator.ForwardOf ty) a b =
      made_there s (seen s b) _ (λ p. made_there s (seen s a) _ (λ z. made_number s z _ (λ z. made_step types (target_of types ty) s p z)))
  made_by (operator.Difference ty) a b = made_value s (difference types (target_of types ty) s a b)

pub result_present : (r : Result Value Act) (s : Progress) (v : Value) (u : Progress) → IsMade s.store r → with_result r s (λ v s. Went v s) ≡ Went v u → IsPresent v u
result_present (Ok x) s v u made e = went_present x s v u made.0 made.1 e
result_present (Err a) s v u made e = cc

module _ (p : Program) (under : Environment) (enter : Calls) (call : ℕ) where
  pub operate_present : (op : Operator) (a b : Value) (s : Progress) (v : Value) (u : Progress) → operate_on p under op a b s ≡ Went v u → IsPresent v u
  operate_present op a b s v u e = result_present (operate p.types under.widths op s.store a b) s v u (made_by p.types under.widths s.store op a b) e

  -- what a first evaluation came to where the second one ends so
  pub behind_present : (o : Outcome) (go : Value → Progress → Outcome) (v : Value) (u : Progress) → and_then o go ≡ Went v u → ((x : Value) (s : Progress) → go x s ≡ Went v u → IsPresent v u)
      → IsPresent v u
  behind_present (Went x s) go v u e k = k x s e
  behind_present (Left how s) go v u e k = cc
  behind_present (Undefined a s) go v u e k = cc
  behind_present (Stopped s) go v u e k = cc

  same_end : (o : Outcome) → and_then o (λ c s. Went c s) ≡ o
  same_end (Went x s) = refl
  same_end (Left how s) = refl
  same_end (Undefined a s) = refl
  same_end (Stopped s) = refl

  -- what a row of operators comes to
  pub row_present : (steps : Steps) (a : Value) (s : Progress) (v : Value) (u : Progress) → (steps ≡ no_steps → ⊥) → value_behind p under enter call steps a s ≡ Went v u → IsPresent v u
  row_present no_steps a s v u some e = absurd (some refl)
  row_present (with_step op e no_steps) a s v u some is =
      behind_present (value p under enter call e s) _ v u is (λ b s is. operate_present op a b s v u (sym (same_end (operate_on p under op a b s)) ∙ is))
  row_present (with_step op e (with_step op' e' steps)) a s v u some is =
      behind_present (value p under enter call e s) _ v u is (λ b s is. behind_present (operate_on p under op a b s) _ v u is (λ x t is.
      row_present (with_step op' e' steps) x t v u (λ e. cc) is))
