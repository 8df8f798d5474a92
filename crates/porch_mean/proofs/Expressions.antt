-- Expressions evaluate alike, where calls in them do.
use Rattle.std.proofs.Common.{ℕ, ℤ, Bool, true, false, List, [], ◌∷◌, ◌++◌}
use Rattle.std.specs.Prelude.{pos, not, slice_get, Option}
use Rattle.porch_types.specs.declared.shapes.Kind.{Kind}
use Rattle.porch_types.specs.declared.shapes.Ty.{Ty}
use Rattle.porch_values.specs.Integers.{converted}
use Rattle.porch_objects.specs.Store.{Store, Value, number, null, pointer, of_call, of_global}
use Rattle.porch_objects.specs.Meaning.{Environment, Progress}
use Rattle.porch_typed.specs.declared.typed.Operator.{Operator}
use Rattle.porch_typed.specs.declared.typed.Direction.{Direction}
use Rattle.porch_typed.specs.declared.typed.Unary.{Unary}
use Rattle.porch_typed.specs.Mirror.{Expression, Expressions, Steps, Place, Print, Prints, Program}
use Rattle.porch_typed.specs.Mirror as tree
use Rattle.porch_mean.specs.Outcome.{Outcome, Went, Calls, done}
use Rattle.porch_mean.specs.Operators.{as_value, truth_value, operate, operate_unary, fit_to, target_of, increment_of}
use Rattle.porch_mean.specs.Printing.{up_to_zero}
use Rattle.porch_mean.specs.Expression.{reach_checkpoint, operate_on, operate_in_place, increment_at, value, place_of, value_behind, all_hold, any_holds, last_value, arguments, printed_values, printed_value}
use Rattle.porch_mean.specs.Laws.{IsLater}
use Rattle.porch_mean.proofs.Follows.{Law, Agrees, same_result, Follows, same, now, later, bind, through_either, through_value, through_number, through_truth, through_all}
use Rattle.porch_mean.proofs.Parts.{checkpoint_later, agreed, loads, members, member_values, releases, assigns, allocates, texts, shows_pieces, shows_line, shows_character}

-- What the operators say in two environments.
pub record Agreement (law : Law) (p : Program) (under under' : Environment) : Type 0 where
  pub operators : (op : Operator) (s : Store) (a b : Value)
      → Agrees law (operate p.types under.widths op s a b) (operate p.types under'.widths op s a b)
  pub unaries : (op : Unary) (kind : Kind) (z : ℤ)
      → Agrees law (operate_unary p.types under.widths op kind z) (operate_unary p.types under'.widths op kind z)
  pub conversions : (kind : Kind) (z : ℤ) → Agrees law (as_value (converted kind under.widths z)) (as_value (converted kind under'.widths z))
  pub fits : (ty : Option Ty) (v : Value) → Agrees law (fit_to p.types under.widths ty v) (fit_to p.types under'.widths ty v)

-- an environment beside itself
pub itself : (law : Law) (p : Program) (under : Environment) → Agreement law p under under
itself law p under =
    record {
      operators = λ op s a b. same_result (operate p.types under.widths op s a b);
      unaries = λ op kind z. same_result (operate_unary p.types under.widths op kind z);
      conversions = λ kind z. same_result (as_value (converted kind under.widths z));
      fits = λ ty v. same_result (fit_to p.types under.widths ty v);
    }

module _ (law : Law) (p : Program) (under under' : Environment) (agree : Agreement law p under under') where
  operates : (op : Operator) (a b : Value) (s : Progress) → law.good s.turns
      → Follows law s (operate_on p under op a b s) (operate_on p under' op a b s)
  operates op a b s h = agreed law _ _ s (agree.operators op s.store a b) h

  operates_in_place : (ty : ℕ) (op : Operator) (at a b : Value) (s : Progress) → law.good s.turns
      → Follows law s (operate_in_place p under ty op at a b s) (operate_in_place p under' ty op at a b s)
  operates_in_place ty op at a b s h =
      bind law _ _ s _ _ (operates op a b s h) (λ v t l g.
      bind law _ _ t _ _ (agreed law _ _ t (agree.fits (slice_get p.types ty) v) g) (λ v u m g. assigns law p.types ty at v u g))

  increments : (ty : ℕ) (before : Bool) (way : Direction) (at : Value) (s : Progress) → law.good s.turns
      → Follows law s (increment_at p under ty before way at s) (increment_at p under' ty before way at s)
  increments ty before way at s h =
      bind law _ _ s _ _ (loads law at s h) (λ old t l g.
      bind law _ _ t _ _ (operates_in_place ty (increment_of (slice_get p.types ty) ty way) at old (number (pos 1)) t g) (λ new u m g.
      through_either law before u _ _ _ _ (same (Went new u) (now u) g) (same (Went old u) (now u) g)))

  -- two evaluations, whose calls are alike
  module _ (enter enter' : Calls) (call : ℕ)
      (calls : (function : ℕ) (vs : List Value) (s : Progress) → law.good s.turns → Follows law s (enter function vs s) (enter' function vs s)) where
    mutual
      pub value_alike : (e : Expression) (s : Progress) → law.good s.turns
          → Follows law s (value p under enter call e s) (value p under' enter' call e s)
      value_alike (tree.constant kind z) s h = same (Went (number z) s) (now s) h
      value_alike (tree.null_pointer ty) s h = same (Went null s) (now s) h
      value_alike (tree.read ty place) s h = bind law _ _ s _ _ (place_alike place s h) (λ at u l g. loads law at u g)
      value_alike (tree.whole ty place) s h = bind law _ _ s _ _ (place_alike place s h) (λ at u l g. members law at 0 u g)
      value_alike (tree.address ty place) s h = place_alike place s h
      value_alike (tree.first ty place) s h = bind law _ _ s _ _ (place_alike place s h) (λ at u l g. members law at 0 u g)
      value_alike (tree.row e steps) s h =
          bind law _ _ s _ _ (value_alike e s h) (λ a u l g. steps_alike steps a u g)
      value_alike (tree.all_of e es) s h =
          bind law _ _ s _ _ (value_alike e s h) (λ v u l g. through_truth law v u _ _ g (λ holds.
          through_either law holds u _ _ _ _ (all_alike es u g) (same (Went (truth_value false) u) (now u) g)))
      value_alike (tree.any_of e es) s h =
          bind law _ _ s _ _ (value_alike e s h) (λ v u l g. through_truth law v u _ _ g (λ holds.
          through_either law holds u _ _ _ _ (same (Went (truth_value true) u) (now u) g) (any_alike es u g)))
      value_alike (tree.unary op kind e) s h =
          bind law _ _ s _ _ (value_alike e s h) (λ v u l g. through_number law v u _ _ g (λ z.
          agreed law _ _ u (agree.unaries op kind z) g))
      value_alike (tree.isnt e) s h =
          bind law _ _ s _ _ (value_alike e s h) (λ v u l g. through_truth law v u _ _ g (λ holds.
          same (Went (truth_value (not holds)) u) (now u) g))
      value_alike (tree.choice ty e a b) s h =
          bind law _ _ s _ _ (value_alike e s h) (λ v u l g. through_truth law v u _ _ g (λ holds.
          through_either law holds u _ _ _ _ (value_alike a u g) (value_alike b u g)))
      value_alike (tree.sequence e es) s h =
          bind law _ _ s _ _ (value_alike e s h) (λ v u l g. last_alike es v u g)
      value_alike (tree.assign ty place e) s h =
          bind law _ _ s _ _ (place_alike place s h) (λ at t l g.
          bind law _ _ t _ _ (value_alike e t g) (λ v u m g. assigns law p.types ty at v u g))
      value_alike (tree.assign_by ty op place e) s h =
          bind law _ _ s _ _ (place_alike place s h) (λ at t l g.
          bind law _ _ t _ _ (loads law at t g) (λ left u m g.
          bind law _ _ u _ _ (value_alike e u g) (λ right w n g. operates_in_place ty op at left right w g)))
      value_alike (tree.increment ty before way place) s h =
          bind law _ _ s _ _ (place_alike place s h) (λ at u l g. increments ty before way at u g)
      value_alike (tree.conversion kind e) s h =
          bind law _ _ s _ _ (value_alike e s h) (λ v u l g. through_number law v u _ _ g (λ z.
          agreed law _ _ u (agree.conversions kind z) g))
      value_alike (tree.discard e) s h = bind law _ _ s _ _ (value_alike e s h) (λ v u l g. same (done u) (now u) g)
      value_alike (tree.member_of ty leaf e) s h =
          bind law _ _ s _ _ (value_alike e s h) (λ at t l g.
          bind law _ _ t _ _ (members law at leaf t g) (λ at u m g. member_values law (slice_get p.types ty) at u g))
      value_alike (tree.call function es) s h =
          arguments_alike es [] s _ _ h (λ vs u l g. calls function vs u g)
      value_alike (tree.put_character e) s h =
          bind law _ _ s _ _ (value_alike e s h) (λ v u l g. through_number law v u _ _ g (λ z. shows_character law p.types z u g))
      value_alike (tree.put_text e) s h =
          bind law _ _ s _ _ (value_alike e s h) (λ v u l g. texts law p.types v u _ g (λ bytes. shows_line law p.types bytes u g))
      value_alike (tree.put_literal bs) s h = shows_line law p.types (up_to_zero bs) s h
      value_alike (tree.print xs) s h =
          prints_alike xs [] s _ _ h (λ vs u l g. through_all law vs u _ _ g (λ vs. shows_pieces law p.types xs vs 0 u g))
      value_alike (tree.allocate ty zeroed e) s h =
          bind law _ _ s _ _ (value_alike e s h) (λ v u l g. allocates law p.types (target_of p.types ty) zeroed v u g)
      value_alike (tree.release e) s h = bind law _ _ s _ _ (value_alike e s h) (λ v u l g. releases law v u g)
      value_alike tree.checkpoint s h = same (done (reach_checkpoint s)) (checkpoint_later s) h

      pub place_alike : (e : Place) (s : Progress) → law.good s.turns
          → Follows law s (place_of p under enter call e s) (place_of p under' enter' call e s)
      place_alike (tree.variable v) s h = same (Went (pointer (of_call call v) 0) s) (now s) h
      place_alike (tree.global v) s h = same (Went (pointer (of_global v) 0) s) (now s) h
      place_alike (tree.pointee e) s h =
          bind law _ _ s _ _ (value_alike e s h) (λ v u l g. through_value law v u _ _ g (λ v. same (Went v u) (now u) g))
      place_alike (tree.member leaf e) s h = bind law _ _ s _ _ (place_alike e s h) (λ at u l g. members law at leaf u g)

      steps_alike : (steps : Steps) (a : Value) (s : Progress) → law.good s.turns
          → Follows law s (value_behind p under enter call steps a s) (value_behind p under' enter' call steps a s)
      steps_alike tree.no_steps a s h = same (Went a s) (now s) h
      steps_alike (tree.with_step op e steps) a s h =
          bind law _ _ s _ _ (value_alike e s h) (λ b t l g.
          bind law _ _ t _ _ (operates op a b t g) (λ c u m g. steps_alike steps c u g))

      all_alike : (es : Expressions) (s : Progress) → law.good s.turns
          → Follows law s (all_hold p under enter call es s) (all_hold p under' enter' call es s)
      all_alike tree.no_expressions s h = same (Went (truth_value true) s) (now s) h
      all_alike (tree.with_expression e es) s h =
          bind law _ _ s _ _ (value_alike e s h) (λ v u l g. through_truth law v u _ _ g (λ holds.
          through_either law holds u _ _ _ _ (all_alike es u g) (same (Went (truth_value false) u) (now u) g)))

      any_alike : (es : Expressions) (s : Progress) → law.good s.turns
          → Follows law s (any_holds p under enter call es s) (any_holds p under' enter' call es s)
      any_alike tree.no_expressions s h = same (Went (truth_value false) s) (now s) h
      any_alike (tree.with_expression e es) s h =
          bind law _ _ s _ _ (value_alike e s h) (λ v u l g. through_truth law v u _ _ g (λ holds.
          through_either law holds u _ _ _ _ (same (Went (truth_value true) u) (now u) g) (any_alike es u g)))

      last_alike : (es : Expressions) (v : Value) (s : Progress) → law.good s.turns
          → Follows law s (last_value p under enter call es v s) (last_value p under' enter' call es v s)
      last_alike tree.no_expressions v s h = same (Went v s) (now s) h
      last_alike (tree.with_expression e es) v s h =
          bind law _ _ s _ _ (value_alike e s h) (λ v u l g. last_alike es v u g)

      arguments_alike : (es : Expressions) (vs : List Value) (s : Progress) (go go' : List Value → Progress → Outcome) → law.good s.turns
          → ((vs : List Value) (u : Progress) → IsLater s u → law.good u.turns → Follows law u (go vs u) (go' vs u))
          → Follows law s (arguments p under enter call es vs s go) (arguments p under' enter' call es vs s go')
      arguments_alike tree.no_expressions vs s go go' h k = k vs s (now s) h
      arguments_alike (tree.with_expression e es) vs s go go' h k =
          bind law _ _ s _ _ (value_alike e s h) (λ v u l g. through_value law v u _ _ g (λ v.
          arguments_alike es (vs ++ v ∷ []) u _ _ g (λ vs w m g. k vs w (later s u w l m) g)))

      prints_alike : (xs : Prints) (vs : List Value) (s : Progress) (go go' : List Value → Progress → Outcome) → law.good s.turns
          → ((vs : List Value) (u : Progress) → IsLater s u → law.good u.turns → Follows law u (go vs u) (go' vs u))
          → Follows law s (printed_values p under enter call xs vs s go) (printed_values p under' enter' call xs vs s go')
      prints_alike tree.no_prints vs s go go' h k = k vs s (now s) h
      prints_alike (tree.with_print x xs) vs s go go' h k =
          print_alike x vs s _ _ h (λ vs u l g. prints_alike xs vs u _ _ g (λ vs w m g. k vs w (later s u w l m) g))

      print_alike : (x : Print) (vs : List Value) (s : Progress) (go go' : List Value → Progress → Outcome) → law.good s.turns
          → ((vs : List Value) (u : Progress) → IsLater s u → law.good u.turns → Follows law u (go vs u) (go' vs u))
          → Follows law s (printed_value p under enter call x vs s go) (printed_value p under' enter' call x vs s go')
      print_alike (tree.bytes bs) vs s go go' h k = k vs s (now s) h
      print_alike (tree.number how e) vs s go go' h k =
          bind law _ _ s _ _ (value_alike e s h) (λ v u l g. through_value law v u _ _ g (λ v. k (vs ++ v ∷ []) u l g))
      print_alike (tree.text e) vs s go go' h k =
          bind law _ _ s _ _ (value_alike e s h) (λ v u l g. through_value law v u _ _ g (λ v. k (vs ++ v ∷ []) u l g))
      print_alike (tree.literal bs) vs s go go' h k = k vs s (now s) h
