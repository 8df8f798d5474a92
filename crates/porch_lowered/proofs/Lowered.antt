-- What the induction over expressions says of one: its code follows its evaluation wherever the value may go, and the
-- value has its type, and is there where the lowering takes it to be. The lemmas on single forms take this of their parts.
use Rattle.std.proofs.Common.{◌≡◌, ℕ, ℤ, refl, Bool, true, false, ◌⊎◌, inl, Option, Some, None}
use Rattle.std.specs.Prelude.{⊤, if◌then◌else◌}
use Rattle.porch_objects.specs.Store.{Value}
use Rattle.porch_objects.specs.Meaning.{Progress}
use Rattle.porch_flat.specs.declared.flat.Operand.{Operand}
use Rattle.porch_flat.specs.declared.flat.Operand.TheVariants.{Constant}
use Rattle.porch_typed.specs.Mirror.{Expression, Expressions, Steps, Program, no_expressions, with_expression, no_steps, with_step}
use Rattle.porch_typed.specs.Mirror as tree
use Rattle.porch_mean.specs.Outcome.{Outcome, Calls}
use Rattle.porch_mean.specs.Expression.{value}
use Rattle.porch_lowering.specs.Code.{InUse}
use Rattle.porch_lowering.specs.Values.{type_held, may_lack, last_may_lack, constant_of, variable_read, Accepts, constant_operand, operand_or, atom_of}
use Rattle.porch_lowering.specs.Expression.{writes_last, last_writes_last, code}
use Rattle.porch_lowered.proofs.Codes.{Context, IsTaken, Taken, Evaluates, IsPresent}
use Rattle.porch_lowered.proofs.Held.{InPlace}
use Rattle.porch_lowered.proofs.OperatorCode.{IsAccepted}

-- where it is known that a value is there
abbrev pub IsThereUnless : (lacks : Bool) → Value → Progress → Type 0
IsThereUnless lacks v s = lacks ≡ false → IsPresent v s

-- an operand that stands in place is one that may
abbrev pub IsAcceptedIn : Accepts → Option Operand → Type 0
IsAcceptedIn accepts None = ⊤
IsAcceptedIn accepts (Some o) = IsAccepted accepts o

accepted_constant : (accepts : Accepts) (z : ℤ) (v : Option ℕ) (b : Bool) → accepts z ≡ b → IsAcceptedIn accepts (operand_or (if b then Some (Constant z) else None) v)
accepted_constant accepts z v true e = e
accepted_constant accepts z None false e = tt
accepted_constant accepts z (Some x) false e = tt

accepted_or : (accepts : Accepts) (z : Option ℤ) (v : Option ℕ) → IsAcceptedIn accepts (operand_or (constant_operand accepts z) v)
accepted_or accepts None None = tt
accepted_or accepts None (Some v) = tt
accepted_or accepts (Some z) v = accepted_constant accepts z v (accepts z) refl

pub accepted : (accepts : Accepts) (e : Expression) → IsAcceptedIn accepts (atom_of accepts e)
accepted accepts e = accepted_or accepts (constant_of e) (variable_read e)

module _ (c : Context) where
  -- Where the value of an expression may go: nowhere, to a temporary in use, or to any variable where its code writes that
  -- in its last command alone.
  abbrev pub Goes : (last : Bool) → InUse → Option ℕ → Type 0
  Goes last used None = ⊤
  Goes last used (Some d) = IsTaken c used d ⊎ (last ≡ true)

  -- a value that is void goes nowhere
  abbrev pub Nowhere : InUse → Option ℕ → Type 0
  Nowhere used to = to ≡ None

  module _ (p : Program) (enter : Calls) where
    abbrev pub means : Expression → Progress → Outcome
    means e s = value p c.under enter c.call e s

    -- an expression with a type
    pub record IsLowered (e : Expression) : Type 0 where
      pub evaluates : Evaluates c (Goes (writes_last p e)) (IsThereUnless (may_lack e)) (type_held p e) (λ s. means e s) (code p c.start e)
      pub in_place : (accepts : Accepts) → InPlace c (type_held p e) (atom_of accepts e) (λ s. means e s)

    -- one that is void
    pub record IsVoid (e : Expression) : Type 0 where
      pub evaluates : Evaluates c Nowhere (λ v s. ⊤) (type_held p e) (λ s. means e s) (code p c.start e)

    -- by its type
    abbrev pub IsLoweredAs : Option ℕ → Expression → Type 0
    IsLoweredAs None e = IsVoid e
    IsLoweredAs (Some ty) e = IsLowered e

    abbrev pub AreLowered : Expressions → Type 0
    AreLowered no_expressions = ⊤
    AreLowered (with_expression e es) = IsLowered e × AreLowered es

    -- the operands behind the first one of a row
    abbrev pub AreStepsLowered : Steps → Type 0
    AreStepsLowered no_steps = ⊤
    AreStepsLowered (with_step op e steps) = IsLowered e × AreStepsLowered steps

    -- a value of it may be held
    pub to_temporary : (e : Expression) → IsLowered e → Evaluates c (Taken c) (IsThereUnless (may_lack e)) (type_held p e) (λ s. means e s) (code p c.start e)
    to_temporary e x None used label place made s ts ready taken may room stands = absurd taken
    to_temporary e x (Some d) used label place made s ts ready taken may room stands =
        x.evaluates (Some d) used label place made s ts ready (inl taken) may room stands

-- What writes its variable last is there when it comes.
mutual
  pub writes_there : (p : Program) (e : Expression) → writes_last p e ≡ true → may_lack e ≡ false
  writes_there p (tree.constant kind z) h = refl
  writes_there p (tree.null_pointer ty) h = refl
  writes_there p (tree.read ty place) h = refl
  writes_there p (tree.whole ty place) h = refl
  writes_there p (tree.address ty place) h = refl
  writes_there p (tree.first ty place) h = refl
  writes_there p (tree.row e steps) h = refl
  writes_there p (tree.all_of e es) h = refl
  writes_there p (tree.any_of e es) h = refl
  writes_there p (tree.unary op kind e) h = refl
  writes_there p (tree.isnt e) h = refl
  writes_there p (tree.choice ty e a b) h = cc
  writes_there p (tree.sequence e es) h = last_there p es (writes_last p e) (may_lack e) (λ k. writes_there p e k) h
  writes_there p (tree.assign ty place e) h = refl
  writes_there p (tree.assign_by ty op place e) h = refl
  writes_there p (tree.increment ty before way place) h = refl
  writes_there p (tree.conversion kind e) h = refl
  writes_there p (tree.discard e) h = refl
  writes_there p (tree.member_of ty leaf e) h = refl
  writes_there p (tree.call function es) h = cc
  writes_there p (tree.put_character e) h = refl
  writes_there p (tree.put_text e) h = refl
  writes_there p (tree.put_literal bs) h = refl
  writes_there p (tree.print xs) h = refl
  writes_there p (tree.allocate ty zeroed e) h = refl
  writes_there p (tree.release e) h = refl
  writes_there p tree.checkpoint h = refl

  last_there : (p : Program) (es : Expressions) (writes lacks : Bool) → (writes ≡ true → lacks ≡ false) → last_writes_last p es writes ≡ true → last_may_lack es lacks ≡ false
  last_there p no_expressions writes lacks k h = k h
  last_there p (with_expression e es) writes lacks k h = last_there p es (writes_last p e) (may_lack e) (λ k. writes_there p e k) h
