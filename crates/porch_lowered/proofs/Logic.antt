-- `&&` and `||`: the value that the tests decide stands in its temporary before them, and the other one is put there
-- behind them.
use Rattle.std.proofs.Common.{◌≡◌, ◌≤◌, ℕ, ◌+◌, ℤ, pos, List, [], ◌∷◌, ◌++◌, length, refl, sym, ap, subst, ◌∙◌, inl, inr, arith, length-append, true, false, Some}
use Rattle.std.specs.Prelude.{⊤, slice_get, IsTrue}
use Rattle.porch_types.specs.declared.shapes.Kind.{Kind}
use Rattle.porch_types.specs.declared.shapes.Kind.TheVariants.{Int}
use Rattle.porch_types.specs.Kinds.{kind_number}
use Rattle.porch_types.specs.LeafTypes.{IsScalar}
use Rattle.porch_values.specs.Integers.{in_range}
use Rattle.porch_objects.specs.Store.{of_call, Value, number, Object, leaf_at, variable_home}
use Rattle.porch_objects.specs.Meaning.{Progress}
use Rattle.porch_flat.specs.declared.flat.Operand.TheVariants.{Constant}
use Rattle.porch_flat.specs.declared.whole.Command.TheVariants as command
use Rattle.porch_flat.specs.whole.Places.{type_at}
use Rattle.porch_abstract.specs.Machine.{with_store, put, determined}
use Rattle.porch_abstract.specs.whole.Machine.{constant_of}
use Rattle.porch_typed.specs.Mirror.{Expression, Expressions, Program, no_expressions, with_expression, all_of, any_of}
use Rattle.porch_mean.specs.Outcome.{Outcome, Went, Calls}
use Rattle.porch_mean.specs.Operators.{truth_value}
use Rattle.porch_mean.specs.Expression.{all_hold, any_holds}
use Rattle.porch_lowering.specs.Code.{InUse, Code, then_commands, commands_then}
use Rattle.porch_lowering.specs.Values.{INT, type_held, held_type, held_as}
use Rattle.porch_lowering.specs.Expression.{goes_on_where_it_holds, test, code, all_code, any_code}
use Rattle.porch_sound.specs.Typing.{StoreTyping}
use Rattle.porch_lowered.specs.Beside.{beside}
use Rattle.porch_lowered.proofs.Typed.{adds_nothing}
use Rattle.porch_lowered.proofs.Runs.{stays}
use Rattle.porch_lowered.proofs.Follows.{follows_from}
use Rattle.porch_lowered.proofs.SameLeaf.{same_leaf}
use Rattle.porch_lowered.proofs.Temporaries.{innermost_is, with_temporary, temporary, temporary_read, other_temporary, same_temporary}
use Rattle.porch_lowered.proofs.States.{Stands, front_stands, back_stands, command_goes}
use Rattle.porch_lowered.proofs.Growing.{code_grows}
use Rattle.porch_lowered.proofs.Numbers.{narrow_fits}
use Rattle.porch_lowered.proofs.Codes.{Context, at_most_left, at_most_right, first, commands, here, goes_on, IsOf, On, then_on, Follow, IsReady, MayGo, Arrives, IsTaken, Evaluates}
use Rattle.porch_lowered.proofs.Holding.{IsSetting, variables_count, put_temporary, ready_with, evaluates_both}
use Rattle.porch_lowered.proofs.Control.{label_goes}
use Rattle.porch_lowered.proofs.Branches.{AreHomes, label_from}
use Rattle.porch_lowered.proofs.Conditions.{ComesTo, comes_on}
use Rattle.porch_lowered.proofs.Tests.{test_follows, holds_follows}
use Rattle.porch_lowered.proofs.Lowered.{IsThereUnless, Goes, means, IsLowered, AreLowered}

module _ (c : Context) (set : IsSetting c) where
  -- a temporary that holds a value already is as it is when that goes to it
  pub already_there : (made : StoreTyping) (s : Progress) (ts : List Object) (place i t : ℕ) (v : Value) → IsReady c made s ts → t ≡ first c + i
      → temporary ts i ≡ v → put t v (here c s ts place) ≡ here c s ts place
  already_there made s ts place i t v ready e holds =
      let store = beside s.store (ts ∷ c.more) in
      let home = variable_home store t in
      let count = variables_count c set made s ts ready in
      let place_is : t ≡ length ready.inside.variables + i = omega (arith, e, count) in
      let leaf_is : leaf_at store home 0 ≡ v =
      ap (λ k. leaf_at (beside s.store (ts ∷ c.more)) (of_call k t) 0) (innermost_is c.call s.store ready.inside (ts ∷ c.more))
      ∙ ap (λ k. leaf_at (beside s.store (ts ∷ c.more)) (of_call c.call k) 0) place_is
      ∙ temporary_read c.call s.store ready.inside ts c.more i ∙ holds in
      ap (λ w. put t w (here c s ts place)) (sym leaf_is) ∙ ap (λ store. with_store (here c s ts place) store) (same_leaf store home)

  -- What tests come to: behind them where none decides, and else at their label.
  abbrev pub DecidedBy : (value : Progress → Outcome) → (tests : (end : ℕ) → InUse → (label : ℕ) → Code) → (decided behind : Value) → Type 1
  DecidedBy value tests decided behind =
      (end : ℕ) (used : InUse) (label place q : ℕ) (made : StoreTyping) (s : Progress) (ts : List Object) (near : Value → Progress → Type 0) → IsReady c made s ts
      → ((t : ℕ) → (tests end used label).most t ≤ c.pools t) → Stands (commands c) place (tests end used label).commands
      → slice_get (commands c) q ≡ Some (command.Label end)
      → ((u : Progress) → ComesTo c made used ts (here c s ts place) s.marks (place + length (tests end used label).commands) u → near behind u)
      → ((u : Progress) → ComesTo c made used ts (here c s ts place) s.marks q u → near decided u)
      → Follow c (value s) (here c s ts place) s.marks near

  -- the code with the two values, which go to a temporary
  abbrev pub decided_code : (tests : (end : ℕ) → InUse → (label : ℕ) → Code) → (decided behind : ℤ) → (d : ℕ) → InUse → (label : ℕ) → Code
  decided_code tests decided behind d used label =
      then_commands (commands_then (command.Move d (Constant decided) ∷ []) (tests label used (label + 1)))
      (command.Move d (Constant behind) ∷ command.Label label ∷ [])

  int_fits : (z : ℤ) → IsTrue (in_range Int 32 z) → (made : StoreTyping) → IsOf c made INT (number z)
  int_fits z range made = (Int, set.kinds Int, narrow_fits Int c.under.widths z range)

  int_constant : (z : ℤ) → constant_of (slice_get c.flat.types INT) z ≡ number z
  int_constant z = ap (λ shape. constant_of shape z) (set.kinds Int)

  -- a constant goes to a variable
  constant_on : (z : ℤ) (d place : ℕ) (s : Progress) (ts : List Object) → MayGo c INT (Some d) → slice_get (commands c) place ≡ Some (command.Move d (Constant z))
      → On c (here c s ts place) s.marks (put d (number z) (here c s ts (place + 1))) s.marks
  constant_on z d place s ts may stands =
      command_goes c.flat c.under c.n c.function c.into c.callers c.more (command.Move d (Constant z)) place (here c s ts place) stands
      (record { calm = refl; silent = λ s frame. refl }) (put d (number z) (here c s ts (place + 1))) s.marks
      (ap (λ ty. determined (constant_of (type_at c.flat ty) z) (goes_on c d place s ts)) (may place)
      ∙ ap (λ x. determined x (goes_on c d place s ts)) (int_constant z))

  pub decided_follows : (value : Progress → Outcome) (tests : (end : ℕ) → InUse → (label : ℕ) → Code) (a b : ℤ)
      → IsTrue (in_range Int 32 a) → IsTrue (in_range Int 32 b) → DecidedBy value tests (number a) (number b)
      → (d : ℕ) (used : InUse) (label place : ℕ) (made : StoreTyping) (s : Progress) (ts : List Object) → IsReady c made s ts → IsTaken c used d → MayGo c INT (Some d)
      → ((t : ℕ) → used t ≤ c.pools t)
      → ((t : ℕ) → (decided_code tests a b d used label).most t ≤ c.pools t)
      → Stands (commands c) place (decided_code tests a b d used label).commands
      → Follow c (value s) (here c s ts place) s.marks
      (λ v u. Arrives c INT made (Some d) used ts (here c s ts place) s.marks (place + length (decided_code tests a b d used label).commands) v u × IsThereUnless false v u)
  decided_follows value tests a b range range' decides d used label place made s ts ready taken may roomy room stands =
      let x = tests label used (label + 1) in
      let all = commands c in
      let i = taken.index in
      let ts1 = with_temporary ts i (number a) in
      let m = place + 1 + length x.commands in
      let last = command.Move d (Constant b) ∷ command.Label label ∷ [] in
      let inner = front_stands all (place + 1) x.commands last stands.1 in
      let behind = back_stands all (place + 1) x.commands last stands.1 in
      let end : m + 1 + 1 ≡ place + length (command.Move d (Constant a) ∷ (x.commands ++ last)) = simp length-append (omega arith) in
      let on1 = rw (put_temporary c set made s ts (place + 1) i d (number a) ready taken.number) at (constant_on a d place s ts may stands.0) in
      let ready1 = ready_with c set made s ts i (number a) ready in
      let less = taken.is_used.less in
      let inside = roomy taken.is_used.ty in
      let there = same_temporary ts i (number a) (ready.temporaries taken.is_used.ty taken.is_used.index i (omega (arith, less, inside)) taken.is_used.number) in
      follows_from c.flat c.under c.n (value s) (here c s ts place) (here c s ts1 (place + 1)) s.marks s.marks _ _ on1 (λ v u y. y)
      (decides label used (label + 1) (place + 1) (m + 1) made s ts1 _ ready1 room inner behind.1.0
      (λ u h. (
        record {
          later = h.later;
          adds = h.adds;
          temporaries = h.temporaries;
          onward =
              rw end at
              (then_on c (here c s ts place) (here c s ts1 (place + 1)) (put d (number b) (here c u h.temporaries (m + 1 + 1))) s.marks s.marks u.marks on1
              (then_on c (here c s ts1 (place + 1)) (here c u h.temporaries m) (put d (number b) (here c u h.temporaries (m + 1 + 1))) s.marks u.marks u.marks h.onward
              (then_on c (here c u h.temporaries m) (put d (number b) (here c u h.temporaries (m + 1))) (put d (number b) (here c u h.temporaries (m + 1 + 1))) u.marks u.marks u.marks
              (constant_on b d m u h.temporaries may behind.0)
              (label_from c.flat c.under c.n c.function c.into c.callers c.more label (m + 1) (put d (number b) (here c u h.temporaries (m + 1))) u.marks behind.1.0))));
          ready = h.ready;
          value = int_fits b range' h.later;
          kept = λ j k ne. h.kept j k (λ e. cc) ∙ other_temporary ts i j (number a) (apart i j taken.number ne);
        },
        λ e. (refl, λ e. cc),
      ))
      (λ u h.
      (let still = h.kept i taken.is_used (λ e. cc) ∙ there in
      let on2 = label_goes c.flat c.under c.n c.function c.into c.callers c.more u h.temporaries (m + 1) label behind.1.0 in
      let same = already_there h.later u h.temporaries (m + 1 + 1) i d (number a) h.ready taken.number still in (
        record {
          later = h.later;
          adds = h.adds;
          temporaries = h.temporaries;
          onward =
              rw end at
              (subst (λ x. On c (here c s ts place) s.marks x u.marks) (sym same)
              (then_on c (here c s ts place) (here c s ts1 (place + 1)) (here c u h.temporaries (m + 1 + 1)) s.marks s.marks u.marks on1
              (then_on c (here c s ts1 (place + 1)) (here c u h.temporaries (m + 1)) (here c u h.temporaries (m + 1 + 1)) s.marks u.marks u.marks h.onward on2)));
          ready = h.ready;
          value = int_fits a range h.later;
          kept = λ j k ne. h.kept j k (λ e. cc) ∙ other_temporary ts i j (number a) (apart i j taken.number ne);
        },
        λ e. (refl, λ e. cc),
      ))))
    where
      apart : (i j : ℕ) → d ≡ first c + i → (Some d ≡ Some (first c + j) → ⊥) → j ≡ i → ⊥
      apart i j e ne k = ne (ap (λ n. Some n) (e ∙ ap (λ n. first c + n) (sym k)))

module _ (c : Context) (set : IsSetting c) (homes : AreHomes (commands c)) (p : Program) (enter : Calls) where
  -- each of them is tested in its scalar type
  abbrev pub AreScalar : Expressions → Type 0
  AreScalar no_expressions = ⊤
  AreScalar (with_expression e es) = IsScalar (slice_get c.flat.types (type_held p e)) × AreScalar es

  pub all_decide : (es : Expressions) → AreLowered c p enter es → AreScalar es
      → DecidedBy c set (λ s. all_hold p c.under enter c.call es s) (λ end used label. all_code p c.start es end used label) (truth_value false) (truth_value true)
  all_decide no_expressions lowered scalar end used label place q made s ts near ready room stands label_is when_through when_decided =
      let e : place + 0 ≡ place = omega arith in
      when_through s (record {
        later = made;
        adds = adds_nothing made;
        temporaries = ts;
        onward = rw e (stays c.flat c.under c.n (here c s ts place) s.marks);
        ready = ready;
        kept = λ i u ne. refl;
      })
  all_decide (with_expression e es) lowered scalar end used label place q made s ts near ready room stands label_is when_through when_decided =
      let x = goes_on_where_it_holds p c.start e end used label (code p c.start e) in
      let y = all_code p c.start es end used x.label in
      let middle = place + length x.commands in
      let there : middle + length y.commands ≡ place + length (x.commands ++ y.commands) = simp length-append (omega arith) in
      holds_follows c set homes p enter e lowered.0 scalar.0 (λ s. all_hold p c.under enter c.call es s) (λ s. Went (truth_value false) s) end used label place q made s ts near ready
      (λ t. at_most_left (x.most t) (y.most t) (c.pools t) (room t)) (front_stands (commands c) place x.commands y.commands stands) label_is
      (λ u h.
      follows_from c.flat c.under c.n (all_hold p c.under enter c.call es u) (here c s ts place) (here c u h.temporaries middle) s.marks u.marks near near h.onward (λ v u y. y)
      (all_decide es lowered.1 scalar.1 end used x.label middle q h.later u h.temporaries near h.ready
      (λ t. at_most_right (x.most t) (y.most t) (c.pools t) (room t)) (back_stands (commands c) place x.commands y.commands stands) label_is
      (λ w k. when_through w (rw there at (comes_on c made used ts (here c s ts place) s.marks middle (middle + length y.commands) u w h k)))
      (λ w k. when_decided w (comes_on c made used ts (here c s ts place) s.marks middle q u w h k))))
      when_decided

  pub any_decide : (es : Expressions) → AreLowered c p enter es → AreScalar es
      → DecidedBy c set (λ s. any_holds p c.under enter c.call es s) (λ end used label. any_code p c.start es end used label) (truth_value true) (truth_value false)
  any_decide no_expressions lowered scalar end used label place q made s ts near ready room stands label_is when_through when_decided =
      let e : place + 0 ≡ place = omega arith in
      when_through s (record {
        later = made;
        adds = adds_nothing made;
        temporaries = ts;
        onward = rw e (stays c.flat c.under c.n (here c s ts place) s.marks);
        ready = ready;
        kept = λ i u ne. refl;
      })
  any_decide (with_expression e es) lowered scalar end used label place q made s ts near ready room stands label_is when_through when_decided =
      let x = test p c.start e (code p c.start e) end used label in
      let y = any_code p c.start es end used x.label in
      let middle = place + length x.commands in
      let there : middle + length y.commands ≡ place + length (x.commands ++ y.commands) = simp length-append (omega arith) in
      test_follows c set homes p enter e lowered.0 scalar.0 (λ s. Went (truth_value true) s) (λ s. any_holds p c.under enter c.call es s) end used label place q made s ts near ready
      (λ t. at_most_left (x.most t) (y.most t) (c.pools t) (room t)) (front_stands (commands c) place x.commands y.commands stands) label_is
      when_decided
      (λ u h.
      follows_from c.flat c.under c.n (any_holds p c.under enter c.call es u) (here c s ts place) (here c u h.temporaries middle) s.marks u.marks near near h.onward (λ v u y. y)
      (any_decide es lowered.1 scalar.1 end used x.label middle q h.later u h.temporaries near h.ready
      (λ t. at_most_right (x.most t) (y.most t) (c.pools t) (room t)) (back_stands (commands c) place x.commands y.commands stands) label_is
      (λ w k. when_through w (rw there at (comes_on c made used ts (here c s ts place) s.marks middle (middle + length y.commands) u w h k)))
      (λ w k. when_decided w (comes_on c made used ts (here c s ts place) s.marks middle q u w h k))))

  module _ (same : c.flat.types ≡ p.types) where
    -- an integer is held as it is
    pub held_kind : (kind : Kind) → held_type p (Some (kind_number kind)) ≡ kind_number kind
    held_kind kind = ap (λ shape. held_as p shape (kind_number kind)) (sym (ap (λ types. slice_get types (kind_number kind)) same) ∙ set.kinds kind)

    only_taken : (used : InUse) (d : ℕ) → Goes c false used (Some d) → IsTaken c used d
    only_taken used d (inl taken) = taken
    only_taken used d (inr e) = cc

    pub all_of_lowered : (e : Expression) (es : Expressions) → IsLowered c p enter e → IsScalar (slice_get c.flat.types (type_held p e)) → AreLowered c p enter es → AreScalar es
        → IsLowered c p enter (all_of e es)
    all_of_lowered e es lowered scalar more scalars =
        record {
          evaluates =
              subst (λ ty. Evaluates c (Goes c false) (IsThereUnless false) ty (λ s. means c p enter (all_of e es) s) (code p c.start (all_of e es))) (sym (held_kind Int))
              (evaluates_both c set (Goes c false) (IsThereUnless false) INT (λ s. means c p enter (all_of e es) s) (code p c.start (all_of e es)) (λ used d taken. inl taken)
              (λ d used label place made s ts ready fits may room stands.
              decided_follows c set (λ s. all_hold p c.under enter c.call (with_expression e es) s)
              (λ end used label. all_code p c.start (with_expression e es) end used label) (pos 0) (pos 1) refl refl
              (all_decide (with_expression e es) (lowered, more) (scalar, scalars)) d used label place made s ts ready (only_taken used d fits) may
              (λ t. (let a = code_grows p c.start (all_of e es) (Some d) used label t in let b = room t in omega (arith, a, b))) room stands)
              (code_grows p c.start (all_of e es)) (λ used label. refl));
          in_place = λ accepts. tt;
        }

    pub any_of_lowered : (e : Expression) (es : Expressions) → IsLowered c p enter e → IsScalar (slice_get c.flat.types (type_held p e)) → AreLowered c p enter es → AreScalar es
        → IsLowered c p enter (any_of e es)
    any_of_lowered e es lowered scalar more scalars =
        record {
          evaluates =
              subst (λ ty. Evaluates c (Goes c false) (IsThereUnless false) ty (λ s. means c p enter (any_of e es) s) (code p c.start (any_of e es))) (sym (held_kind Int))
              (evaluates_both c set (Goes c false) (IsThereUnless false) INT (λ s. means c p enter (any_of e es) s) (code p c.start (any_of e es)) (λ used d taken. inl taken)
              (λ d used label place made s ts ready fits may room stands.
              decided_follows c set (λ s. any_holds p c.under enter c.call (with_expression e es) s)
              (λ end used label. any_code p c.start (with_expression e es) end used label) (pos 1) (pos 0) refl refl
              (any_decide (with_expression e es) (lowered, more) (scalar, scalars)) d used label place made s ts ready (only_taken used d fits) may
              (λ t. (let a = code_grows p c.start (any_of e es) (Some d) used label t in let b = room t in omega (arith, a, b))) room stands)
              (code_grows p c.start (any_of e es)) (λ used label. refl));
          in_place = λ accepts. tt;
        }
