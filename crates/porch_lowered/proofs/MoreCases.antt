-- Further cases of the induction over expressions: `+`, `-` and `~`, conversions, `?:`, commas, and what is void.
use Rattle.std.proofs.Common.{◌≡◌, ℕ, ◌+◌, ℤ, pos, length, refl, sym, ap, subst, ◌∙◌, inl, inr, Bool, true, false, Option, Some, None}
use Rattle.std.specs.Prelude.{⊤, ◌||◌, slice_get, nat_eq, Result}
use Rattle.porch_types.specs.declared.shapes.Kind.{Kind}
use Rattle.porch_types.specs.declared.shapes.Ty.TheVariants.{Whole}
use Rattle.porch_types.specs.Kinds.{kind_number}
use Rattle.porch_types.specs.LeafTypes.{IsScalar}
use Rattle.porch_values.specs.declared.acts.Act.{Act}
use Rattle.porch_values.specs.Integers.{applied, complemented, converted}
use Rattle.porch_values.specs.declared.acts.Op.TheVariants.{Sub}
use Rattle.porch_objects.specs.Store.{Value, number, null, pointer, past, indeterminate, Store, seen}
use Rattle.porch_objects.specs.Pointers.{if_number}
use Rattle.porch_objects.specs.Meaning.{Progress}
use Rattle.porch_typed.specs.declared.typed.Unary.{Unary}
use Rattle.porch_typed.specs.declared.typed.Unary.TheVariants.{Plus, Minus, Complement}
use Rattle.porch_typed.specs.Mirror.{Expression, Expressions, Program, unary, choice, sequence, conversion, discard}
use Rattle.porch_mean.specs.Outcome.{Outcome, Went, Calls, with_result, with_number, use_number, done}
use Rattle.porch_mean.specs.Operators as meaning
use Rattle.porch_mean.specs.Operators.{as_value}
use Rattle.porch_lowering.specs.Code.{InUse, Coder}
use Rattle.porch_lowering.specs.Values.{constant_in, no_constant, type_held, held_type, may_lack, atom_of}
use Rattle.porch_lowering.specs.Operators.{operate_unary}
use Rattle.porch_lowering.specs.Expression.{writes_last, convert_to, code}
use Rattle.porch_lowered.proofs.Follows.{follows_is, follows_then}
use Rattle.porch_lowered.proofs.Growing.{code_grows, convert_grows}
use Rattle.porch_lowered.proofs.Codes.{Context, commands, here, Follow, Arrives, Evaluates, IsPresent}
use Rattle.porch_lowered.proofs.Holding.{IsSetting}
use Rattle.porch_lowered.proofs.Held.{IsStrict}
use Rattle.porch_lowered.proofs.Forms.{numbers_follow, number_there, strict_by}
use Rattle.porch_lowered.proofs.OperatorCode.{fits}
use Rattle.porch_lowered.proofs.Branches.{AreHomes}
use Rattle.porch_lowered.proofs.Present.{IsMade, made_ok, made_value, result_present, behind_present}
use Rattle.porch_lowered.proofs.Logic.{held_kind}
use Rattle.porch_lowered.proofs.Choices.{choice_follows}
use Rattle.porch_lowered.proofs.Commas.{AreCommas, IsDropped, commas_follow}
use Rattle.porch_lowered.proofs.Converted.{converts_to, conversions_code, conversions_stay}
use Rattle.porch_lowered.proofs.Unary.{unary_is, unary_follows}
use Rattle.porch_lowered.proofs.Forming.{operand_follows}
use Rattle.porch_lowered.proofs.Located.{no_constants}
use Rattle.porch_lowered.proofs.Cases.{known_of}
use Rattle.porch_lowered.proofs.Lowered.{IsThereUnless, Goes, Nowhere, means, IsLowered, IsVoid, to_temporary}

-- a number that is used, and what is made of it
number_present : (x : Value) (s : Progress) (r : ℤ → Result Value Act) (v : Value) (u : Progress) → ((z : ℤ) → IsMade s.store (r z))
    → with_number x s (λ z s. with_result (r z) s (λ v s. Went v s)) ≡ Went v u → IsPresent v u
number_present (number z) s r v u made e = result_present (r z) s v u (made z) e
number_present null s r v u made e = cc
number_present (pointer home leaf) s r v u made e = cc
number_present (past home leaf until) s r v u made e = cc
number_present indeterminate s r v u made e = cc

either_lacks : (a b : Bool) → (a || b) ≡ false → (a ≡ false) × (b ≡ false)
either_lacks true b e = cc
either_lacks false b e = (refl, e)

module _ (c : Context) where
  -- where less is asked of the target, and less is known of the value
  pub weaker : (Fit Fit' : InUse → Option ℕ → Type 0) (Is Is' : Value → Progress → Type 0) (ty : ℕ) (value : Progress → Outcome) (coder : Coder)
      → ((used : InUse) (to : Option ℕ) → Fit' used to → Fit used to) → ((v : Value) (s : Progress) → Is v s → Is' v s)
      → Evaluates c Fit Is ty value coder → Evaluates c Fit' Is' ty value coder
  weaker Fit Fit' Is Is' ty value coder fit is evaluates to used label place made s ts ready fits may room stands =
      follows_is c.flat c.under c.n (value s) (here c s ts place) s.marks _ _ (evaluates to used label place made s ts ready (fit used to fits) may room stands)
      (λ v u e far. (far.0, is v u far.1))

module _ (c : Context) (set : IsSetting c) (homes : AreHomes (commands c)) (p : Program) (same : c.flat.types ≡ p.types) (enter : Calls) where
  made_unary : (op : Unary) (kind : Kind) (s : Store) (z : ℤ) → IsMade s (meaning.operate_unary p.types c.under.widths op kind z)
  made_unary Plus kind s z = made_value s (converted kind c.under.widths z)
  made_unary Minus kind s z = made_ok s (converted kind c.under.widths z) _ (λ z. made_value s (applied Sub kind c.under.widths (pos 0) z))
  made_unary Complement kind s z = made_ok s (converted kind c.under.widths z) _ (λ z. made_value s (complemented kind c.under.widths z))

  abbrev operates : Unary → Kind → Value → Progress → Outcome
  operates op kind v s = use_number v s (λ z s. with_result (meaning.operate_unary p.types c.under.widths op kind z) s (λ v s. Went v s))

  operates_is : (op : Unary) (kind : Kind) (v : Value) (s : Progress)
      → operates op kind v s ≡ with_result (if_number (seen s.store v) (λ z. meaning.operate_unary p.types c.under.widths op kind z)) s (λ w s. Went w s)
  operates_is op kind v s = numbers_follow (seen s.store v) s (λ z. meaning.operate_unary p.types c.under.widths op kind z) (λ w s. Went w s)

  operates_strictly : (op : Unary) (kind : Kind) → IsStrict (λ v s. operates op kind v s)
  operates_strictly op kind =
      strict_by (λ s v. if_number v (λ z. meaning.operate_unary p.types c.under.widths op kind z)) (λ v s. operates op kind v s)
      (λ v s.
      operates_is op kind v s
      ∙ ap (λ r. with_result r s (λ w s. Went w s)) (number_there (seen s.store v) (λ z. meaning.operate_unary p.types c.under.widths op kind z)))

  -- `+`, `-` and `~`
  pub unary_lowered : (op : Unary) (kind from : Kind) (e : Expression) → IsLowered c p enter e → slice_get c.flat.types (type_held p e) ≡ Some (Whole from)
      → IsLowered c p enter (unary op kind e)
  unary_lowered op kind from e lowered shape =
      record {
        evaluates =
            subst (λ ty. Evaluates c (Goes c true) (IsThereUnless false) ty (λ s. means c p enter (unary op kind e) s) (code p c.start (unary op kind e))) (sym (held_kind c set homes p enter same kind))
            (operand_follows c set p enter (constant_in kind) e (kind_number kind) (λ v s. operates op kind v s)
            (λ d o used label. operate_unary c.start op d (kind_number kind) o (type_held p e) used label) lowered (operates_strictly op kind)
            (λ d o v used label place made s ts fit ready operand of may room stands.
            subst
            (λ out. Follow c out (here c s ts place) s.marks
            (Arrives c (kind_number kind) made (Some d) used ts (here c s ts place) s.marks
            (place + length (operate_unary c.start op d (kind_number kind) o (type_held p e) used label).commands)))
            (ap (λ (f : ℤ → Result Value Act). with_result (if_number (seen s.store v) f) s (λ w s. Went w s)) (λ i z. unary_is c set kind op z i)
            ∙ ap (λ types. with_result (if_number (seen s.store v) (λ z. meaning.operate_unary types c.under.widths op kind z)) s (λ w s. Went w s)) same
            ∙ sym (operates_is op kind v s))
            (unary_follows c set kind op from (type_held p e) d place label o v made s ts used shape (fits c set kind o fit) ready operand of may room stands))
            (IsThereUnless false)
            (λ s u v went there.
            behind_present p c.under enter c.call (means c p enter e s) (λ v s. operates op kind v s) v u went
            (λ x t is. number_present (seen t.store x) t (λ z. meaning.operate_unary p.types c.under.widths op kind z) v u (λ z. made_unary op kind t.store z) is))
            (code p c.start (unary op kind e)) (code_grows p c.start (unary op kind e)) (λ d used label. refl) (λ used label. refl));
        in_place = λ accepts. tt;
      }

  -- a value of another kind that is converted
  pub converted_lowered : (kind : Kind) (e : Expression) → IsLowered c p enter e → nat_eq (type_held p e) (kind_number kind) ≡ false
      → Evaluates c (Goes c true) (IsThereUnless false) (kind_number kind) (λ s. means c p enter (conversion kind e) s)
      (convert_to p c.start (kind_number kind) None (type_held p e) (may_lack e) (atom_of no_constant e) (code p c.start e))
  converted_lowered kind e lowered other =
      known_of c (Goes c true) (IsThereUnless false) (kind_number kind) (λ s. means c p enter (conversion kind e) s)
      (convert_to p c.start (kind_number kind) None (type_held p e) (may_lack e) (atom_of no_constant e) (code p c.start e))
      (conversions_code c set p (type_held p e) kind (may_lack e) (atom_of no_constant e) (IsThereUnless (may_lack e)) (λ s. means c p enter e s) (code p c.start e) other
      (to_temporary c p enter e lowered) (code_grows p c.start e) (lowered.in_place no_constant) (no_constants e)
      (convert_grows p c.start (kind_number kind) None (type_held p e) (may_lack e) (atom_of no_constant e) (code p c.start e) (code_grows p c.start e)))
      (λ s u v went there.
      behind_present p c.under enter c.call (means c p enter e s) (λ v s. converts_to c kind v s) v u went
      (λ x t is. number_present (seen t.store x) t (λ z. as_value (converted kind c.under.widths z)) v u (λ z. made_value t.store (converted kind c.under.widths z)) is))

  -- a value of the kind already, which is there
  pub staying_lowered : (kind : Kind) (e : Expression) → IsLowered c p enter e → type_held p e ≡ kind_number kind → may_lack e ≡ false
      → Evaluates c (Goes c (writes_last p e)) (IsThereUnless false) (kind_number kind) (λ s. means c p enter (conversion kind e) s)
      (convert_to p c.start (kind_number kind) None (kind_number kind) false (atom_of no_constant e) (code p c.start e))
  staying_lowered kind e lowered is there =
      weaker c (Goes c (writes_last p e)) (Goes c (writes_last p e)) IsPresent (IsThereUnless false) (kind_number kind) (λ s. means c p enter (conversion kind e) s)
      (convert_to p c.start (kind_number kind) None (kind_number kind) false (atom_of no_constant e) (code p c.start e)) (λ used to fits. fits) (λ v s present. λ there. present)
      (conversions_stay c set p (Goes c (writes_last p e)) kind (atom_of no_constant e) (λ s. means c p enter e s) (code p c.start e)
      (subst (λ ty. Evaluates c (Goes c (writes_last p e)) IsPresent ty (λ s. means c p enter e s) (code p c.start e)) is
      (weaker c (Goes c (writes_last p e)) (Goes c (writes_last p e)) (IsThereUnless (may_lack e)) IsPresent (type_held p e) (λ s. means c p enter e s) (code p c.start e)
      (λ used to fits. fits) (λ v s known. known there) lowered.evaluates)))

  only_taken : (last : Bool) (used : InUse) (to : Option ℕ) → Goes c false used to → Goes c last used to
  only_taken last used None fits = tt
  only_taken last used (Some d) (inl taken) = inl taken
  only_taken last used (Some d) (inr e) = cc

  -- `?:` of two expressions with a type
  pub choice_lowered : (ty : ℕ) (e a b : Expression) → IsLowered c p enter e → IsScalar (slice_get c.flat.types (type_held p e)) → IsLowered c p enter a → IsLowered c p enter b
      → type_held p a ≡ held_type p (Some ty) → type_held p b ≡ held_type p (Some ty) → IsLowered c p enter (choice (Some ty) e a b)
  choice_lowered ty e a b lowered scalar lowered_a lowered_b is_a is_b =
      record {
        evaluates =
            choice_follows c set homes p enter e lowered scalar (Goes c false) (IsThereUnless (may_lack a || may_lack b)) (held_type p (Some ty)) (λ s. means c p enter a s) (λ s. means c p enter b s)
            (code p c.start a) (code p c.start b)
            (subst (λ t. Evaluates c (Goes c false) (IsThereUnless (may_lack a || may_lack b)) t (λ s. means c p enter a s) (code p c.start a)) is_a
            (weaker c (Goes c (writes_last p a)) (Goes c false) (IsThereUnless (may_lack a)) (IsThereUnless (may_lack a || may_lack b)) (type_held p a) (λ s. means c p enter a s) (code p c.start a)
            (only_taken (writes_last p a)) (λ v s known there. known (either_lacks (may_lack a) (may_lack b) there).0) lowered_a.evaluates))
            (subst (λ t. Evaluates c (Goes c false) (IsThereUnless (may_lack a || may_lack b)) t (λ s. means c p enter b s) (code p c.start b)) is_b
            (weaker c (Goes c (writes_last p b)) (Goes c false) (IsThereUnless (may_lack b)) (IsThereUnless (may_lack a || may_lack b)) (type_held p b) (λ s. means c p enter b s) (code p c.start b)
            (only_taken (writes_last p b)) (λ v s known there. known (either_lacks (may_lack a) (may_lack b) there).1) lowered_b.evaluates));
        in_place = λ accepts. tt;
      }

  -- `?:` of two that are void
  pub choice_void : (e a b : Expression) → IsLowered c p enter e → IsScalar (slice_get c.flat.types (type_held p e)) → IsVoid c p enter a → IsVoid c p enter b
      → type_held p a ≡ held_type p None → type_held p b ≡ held_type p None → IsVoid c p enter (choice None e a b)
  choice_void e a b lowered scalar void_a void_b is_a is_b =
      record {
        evaluates =
            choice_follows c set homes p enter e lowered scalar (Nowhere c) (λ v s. ⊤) (held_type p None) (λ s. means c p enter a s) (λ s. means c p enter b s) (code p c.start a) (code p c.start b)
            (subst (λ t. Evaluates c (Nowhere c) (λ v s. ⊤) t (λ s. means c p enter a s) (code p c.start a)) is_a void_a.evaluates)
            (subst (λ t. Evaluates c (Nowhere c) (λ v s. ⊤) t (λ s. means c p enter b s) (code p c.start b)) is_b void_b.evaluates);
      }

  -- a value that is dropped
  pub dropped_of : (e : Expression) → IsLowered c p enter e → IsDropped c p enter e
  dropped_of e lowered =
      weaker c (Goes c (writes_last p e)) (Nowhere c) (IsThereUnless (may_lack e)) (λ v s. ⊤) (type_held p e) (λ s. means c p enter e s) (code p c.start e)
      (λ used to is. subst (λ to. Goes c (writes_last p e) used to) (sym is) tt) (λ v s known. tt) lowered.evaluates

  -- a comma expression
  pub commas_lowered : (e : Expression) (es : Expressions) → IsDropped c p enter e
      → AreCommas c p enter (Goes c (writes_last p (sequence e es))) (IsThereUnless (may_lack (sequence e es))) (type_held p (sequence e es)) es
      → IsLowered c p enter (sequence e es)
  commas_lowered e es dropped commas =
      record {
        evaluates =
            commas_follow c p enter (Goes c (writes_last p (sequence e es))) (IsThereUnless (may_lack (sequence e es))) (type_held p (sequence e es)) e es dropped commas;
        in_place = λ accepts. tt;
      }

  pub commas_void : (e : Expression) (es : Expressions) → IsDropped c p enter e → AreCommas c p enter (Nowhere c) (λ v s. ⊤) (type_held p (sequence e es)) es
      → IsVoid c p enter (sequence e es)
  commas_void e es dropped commas =
      record { evaluates = commas_follow c p enter (Nowhere c) (λ v s. ⊤) (type_held p (sequence e es)) e es dropped commas }

  -- a value that is cast to void
  pub discard_void : (e : Expression) → IsDropped c p enter e → IsVoid c p enter (discard e)
  discard_void e dropped =
      record {
        evaluates = λ to used label place made s ts ready nowhere may room stands.
            by to used label place made s ts ready nowhere may room stands;
      }
    where
      by : Evaluates c (Nowhere c) (λ v s. ⊤) (type_held p (discard e)) (λ s. means c p enter (discard e) s) (code p c.start (discard e))
      by (Some d) used label place made s ts ready nowhere may room stands = cc
      by None used label place made s ts ready nowhere may room stands =
          follows_then c.flat c.under c.n (means c p enter e s) (λ v s. done s) (here c s ts place) s.marks _ _
          (dropped None used label place made s ts ready refl tt room stands)
          (λ v u far. (
            record {
              later = far.0.later;
              adds = far.0.adds;
              temporaries = far.0.temporaries;
              onward = far.0.onward;
              ready = far.0.ready;
              value = tt;
              kept = far.0.kept;
            },
            tt,
          ))
