-- Operators, and with them runs, in fewer widths of long.
use Rattle.std.proofs.Common.{◌≡◌, ◌≢◌, ℕ, zero, suc, ℤ, List, [], refl, sym, subst, arith, le_refl}
use Rattle.std.specs.Prelude.{⊤, pos, Option, Some, None, Result, Ok, Err}
use Rattle.porch_types.specs.declared.shapes.Kind.{Kind}
use Rattle.porch_types.specs.declared.shapes.Ty.{Ty}
use Rattle.porch_types.specs.declared.shapes.Ty.TheVariants.{Whole, Pointer, Array, Struct}
use Rattle.porch_values.specs.declared.acts.Act.{Act}
use Rattle.porch_values.specs.declared.acts.Act.TheVariants.{Indeterminate}
use Rattle.porch_values.specs.declared.acts.Op.{Op}
use Rattle.porch_values.specs.declared.acts.Op.TheVariants.{Sub}
use Rattle.porch_values.specs.declared.widths.Widths.{Widths}
use Rattle.porch_values.specs.Integers.{applied, converted, complemented}
use Rattle.porch_values.specs.Widths.{AreWithin}
use Rattle.porch_objects.specs.Store.{Value, number, null, pointer, past, indeterminate, Store, seen}
use Rattle.porch_objects.specs.Pointers.{if_there, if_number}
use Rattle.porch_objects.specs.Meaning.{Environment, Progress, Met}
use Rattle.porch_typed.specs.declared.typed.Operator.{Operator}
use Rattle.porch_typed.specs.declared.typed.Operator.TheVariants as operator
use Rattle.porch_typed.specs.declared.typed.Unary.{Unary}
use Rattle.porch_typed.specs.declared.typed.Unary.TheVariants.{Plus, Minus, Complement}
use Rattle.porch_typed.specs.Mirror.{Program}
use Rattle.porch_mean.specs.Outcome.{Outcome, Stopped}
use Rattle.porch_mean.specs.Operators.{if_ok, as_value, truth_value, compares, both_numbers, both_converted, operate, operate_unary, fit_to}
use Rattle.porch_mean.specs.Mean.{begin, enter_to, meaning_of}
use Rattle.porch_mean.specs.Laws.{in_widths, FewerWidthsMeanTheSame}
use Rattle.porch_mean.proofs.Follows.{Law, Agrees, same_result, first_acts, Follows, same, cut, met, now}
use Rattle.porch_mean.proofs.Expressions.{Agreement}
use Rattle.porch_mean.proofs.Statements.{Counts}
use Rattle.porch_mean.proofs.Calls.{further}

-- what is known of results in fewer widths
pub record AgreeInFewer : Type 0 where
  pub operators : (op : Op) (kind : Kind) (widths fewer : Widths) (a b z : ℤ) → AreWithin fewer widths
      → applied op kind widths a b ≡ Ok z → applied op kind fewer a b ≡ Ok z
  pub conversions : (kind : Kind) (widths fewer : Widths) (a z : ℤ) → AreWithin fewer widths
      → converted kind widths a ≡ Ok z → converted kind fewer a ≡ Ok z
  pub complements : (kind : Kind) (widths fewer : Widths) (a z : ℤ) → AreWithin fewer widths
      → complemented kind widths a ≡ Ok z → complemented kind fewer a ≡ Ok z

-- the first may meet an act that the second doesn't
abbrev acting : Law
acting = record { good = λ _. ⊤; over = λ _. ⊤; may_stop = ⊥; may_act = ⊤ }

agrees_by : {A : Type 0} (r r' : Result A Act) → ((x : A) → r ≡ Ok x → r' ≡ Ok x) → Agrees acting r r'
agrees_by (Ok x) r' h = subst (λ q. Agrees acting (Ok x) q) (sym (h x refl)) (same_result (Ok x))
agrees_by (Err a) r' h = first_acts a r' tt

both_ok : {A B : Type 0} (r r' : Result A Act) (go go' : A → Result B Act) → Agrees acting r r'
    → ((x : A) → Agrees acting (go x) (go' x)) → Agrees acting (if_ok r go) (if_ok r' go')
both_ok _ _ go go' (same_result (Ok x)) k = k x
both_ok _ _ go go' (same_result (Err a)) k = same_result (Err a)
both_ok _ _ go go' (first_acts a r c) k = first_acts a (if_ok r go') tt

there : (v : Value) (go go' : Value → Result Value Act) → ((x : Value) → Agrees acting (go x) (go' x)) → Agrees acting (if_there v go) (if_there v go')
there (number z) go go' k = k (number z)
there null go go' k = k null
there (pointer home leaf) go go' k = k (pointer home leaf)
there (past home leaf until) go go' k = k (past home leaf until)
there indeterminate go go' k = same_result (Err Indeterminate)

numbers : (v : Value) (go go' : ℤ → Result Value Act) → ((z : ℤ) → Agrees acting (go z) (go' z)) → Agrees acting (if_number v go) (if_number v go')
numbers (number z) go go' k = k z
numbers null go go' k = same_result (Err Indeterminate)
numbers (pointer home leaf) go go' k = same_result (Err Indeterminate)
numbers (past home leaf until) go go' k = same_result (Err Indeterminate)
numbers indeterminate go go' k = same_result (Err Indeterminate)

two_numbers : (s : Store) (a b : Value) (go go' : ℤ → ℤ → Result Value Act) → ((x y : ℤ) → Agrees acting (go x y) (go' x y))
    → Agrees acting (both_numbers s a b go) (both_numbers s a b go')
two_numbers s a b go go' k =
    there (seen s a) _ _ (λ a. there (seen s b) _ _ (λ b. numbers a _ _ (λ x. numbers b _ _ (λ y. k x y))))

module _ (facts : AgreeInFewer) (widths fewer : Widths) (within : AreWithin fewer widths) where
  conversion : (kind : Kind) (z : ℤ) → Agrees acting (converted kind widths z) (converted kind fewer z)
  conversion kind z = agrees_by _ _ (λ x e. facts.conversions kind widths fewer z x within e)

  application : (op : Op) (kind : Kind) (x y : ℤ) → Agrees acting (applied op kind widths x y) (applied op kind fewer x y)
  application op kind x y = agrees_by _ _ (λ z e. facts.operators op kind widths fewer x y z within e)

  complement : (kind : Kind) (z : ℤ) → Agrees acting (complemented kind widths z) (complemented kind fewer z)
  complement kind z = agrees_by _ _ (λ x e. facts.complements kind widths fewer z x within e)

  value : (r r' : Result ℤ Act) → Agrees acting r r' → Agrees acting (as_value r) (as_value r')
  value r r' a = both_ok r r' _ _ a (λ z. same_result (Ok (number z)))

  module _ (types : List Ty) where
    two_converted : (kind : Kind) (x y : ℤ) (go go' : ℤ → ℤ → Result Value Act) → ((x y : ℤ) → Agrees acting (go x y) (go' x y))
        → Agrees acting (both_converted types widths kind x y go) (both_converted types fewer kind x y go')
    two_converted kind x y go go' k =
        both_ok _ _ _ _ (conversion kind x) (λ x. both_ok _ _ _ _ (conversion kind y) (λ y. k x y))

    operation : (op : Operator) (s : Store) (a b : Value) → Agrees acting (operate types widths op s a b) (operate types fewer op s a b)
    operation (operator.Arithmetic op kind) s a b =
        two_numbers s a b _ _ (λ x y. two_converted kind x y _ _ (λ x y. value _ _ (application op kind x y)))
    operation (operator.Shift op kind) s a b =
        two_numbers s a b _ _ (λ x y. both_ok _ _ _ _ (conversion kind x) (λ x. value _ _ (application op kind x y)))
    operation (operator.Compare c kind) s a b =
        two_numbers s a b _ _ (λ x y. two_converted kind x y _ _ (λ x y. same_result (Ok (truth_value (compares c x y)))))
    operation (operator.ComparePointers c ty) s a b = same_result (operate types widths (operator.ComparePointers c ty) s a b)
    operation (operator.Forward ty) s a b = same_result (operate types widths (operator.Forward ty) s a b)
    operation (operator.Back ty) s a b = same_result (operate types widths (operator.Back ty) s a b)
    operation (operator.ForwardOf ty) s a b = same_result (operate types widths (operator.ForwardOf ty) s a b)
    operation (operator.Difference ty) s a b = same_result (operate types widths (operator.Difference ty) s a b)

    unary : (op : Unary) (kind : Kind) (z : ℤ) → Agrees acting (operate_unary types widths op kind z) (operate_unary types fewer op kind z)
    unary Plus kind z = value _ _ (conversion kind z)
    unary Minus kind z = both_ok _ _ _ _ (conversion kind z) (λ z. value _ _ (application Sub kind (pos 0) z))
    unary Complement kind z = both_ok _ _ _ _ (conversion kind z) (λ z. value _ _ (complement kind z))

    fit : (ty : Option Ty) (v : Value) → Agrees acting (fit_to types widths ty v) (fit_to types fewer ty v)
    fit None v = same_result (Ok v)
    fit (Some (Pointer to)) v = same_result (Ok v)
    fit (Some (Array of count)) v = same_result (Ok v)
    fit (Some (Struct ms)) v = same_result (Ok v)
    fit (Some (Whole kind)) (number z) = value _ _ (conversion kind z)
    fit (Some (Whole kind)) null = same_result (Ok null)
    fit (Some (Whole kind)) (pointer home leaf) = same_result (Ok (pointer home leaf))
    fit (Some (Whole kind)) (past home leaf until) = same_result (Ok (past home leaf until))
    fit (Some (Whole kind)) indeterminate = same_result (Ok indeterminate)

acting_counts : (n : ℕ) → Counts acting n n
acting_counts n = record { few = le_refl n; longer = λ l. absurd (omega (arith, l)); ends = λ t g l. tt; turn = λ t g l. tt }

module _ (facts : AgreeInFewer) (p : Program) (under : Environment) (fewer : Widths) (within : AreWithin fewer under.widths) (n : ℕ) where
  agreement : Agreement acting p under (in_widths under fewer)
  agreement =
      record {
        operators = operation facts under.widths fewer within p.types;
        unaries = unary facts under.widths fewer within p.types;
        conversions = λ kind z. value facts under.widths fewer within _ _ (conversion facts under.widths fewer within kind z);
        fits = fit facts under.widths fewer within p.types;
      }

  call_in_fewer : (depth function : ℕ) (vs : List Value) (s : Progress)
      → Follows acting s (enter_to depth p under n function vs s) (enter_to depth p (in_widths under fewer) n function vs s)
  unfolding enter_to
  call_in_fewer zero function vs s = same (Stopped s) (now s) tt
  call_in_fewer (suc depth) function vs s =
      further acting p under (in_widths under fewer) agreement n n (acting_counts n) depth depth (λ f xs u h. call_in_fewer depth f xs u)
      function vs s tt

without_act : (s : Progress) (o o' : Outcome) → Follows acting s o o' → ((a : Act) → (meaning_of o).ending ≢ Met a) → meaning_of o' ≡ meaning_of o
without_act s _ _ (same o l f) never = refl
without_act s _ _ (cut t o c l e m f) never = absurd c
without_act s _ _ (met a t o c l e m f) never = absurd (never a refl)

pub fewer_mean_the_same : AgreeInFewer → FewerWidthsMeanTheSame
fewer_mean_the_same facts p under n fewer within never =
    without_act (begin p) _ _ (call_in_fewer facts p under fewer within n (suc n) p.main [] (begin p)) never
