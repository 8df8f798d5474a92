-- Allocations: the command makes the object, with its mark, and a variable becomes the pointer to it.
use Rattle.std.proofs.Common.{◌≡◌, ◌<◌, ℕ, ◌+◌, ℤ, List, [], ◌∷◌, refl, ap, subst, ◌∙◌, inl, Bool, true, false, Some, None}
use Rattle.std.specs.Prelude.{pos, int_lt, ◌||◌, slice_index_or, length, slice_get, unsigned_abs, unwrap_or, if◌then◌else◌, Result, Ok, Err}
use Rattle.porch_types.specs.declared.shapes.Kind.{Kind}
use Rattle.porch_types.specs.declared.shapes.Ty.TheVariants.{Whole, Pointer}
use Rattle.porch_types.specs.Leaves.{leaves_of}
use Rattle.porch_values.specs.declared.acts.Act.{Act}
use Rattle.porch_values.specs.declared.acts.Act.TheVariants.{Indeterminate, Count}
use Rattle.porch_objects.specs.Store.{of_block, Value, number, null, pointer, past, indeterminate, Object, Store, seen}
use Rattle.porch_objects.specs.Pointers as pointers
use Rattle.porch_objects.specs.Pointers.{MOST_COUNT, Allocation, with_block, block_of}
use Rattle.porch_objects.specs.Meaning.{allocated, Progress, with_store}
use Rattle.porch_flat.specs.declared.flat.Operand.{Operand}
use Rattle.porch_flat.specs.declared.whole.Command.{Command}
use Rattle.porch_flat.specs.declared.whole.Command.TheVariants as command
use Rattle.porch_flat.specs.whole.Form.{form_of}
use Rattle.porch_flat.specs.whole.Places.{pointed, type_at}
use Rattle.porch_abstract.specs.Machine.{Next, Goes, counted, put}
use Rattle.porch_abstract.specs.Machine as machine
use Rattle.porch_abstract.specs.whole.Machine.{if_ok, does, operand_of, pointee_in, becomes}
use Rattle.porch_abstract.specs.whole.Run.{counts_turn, marks_at, allocated_where_made, allocation_of}
use Rattle.porch_mean.specs.Outcome.{Outcome, Went, with_result, with_number}
use Rattle.porch_mean.specs.Expression.{with_mark}
use Rattle.porch_lowering.specs.Code.{InUse}
use Rattle.porch_sound.specs.Typing.{StoreTyping}
use Rattle.porch_sound.specs.Laws.{Gives, IsMade}
use Rattle.porch_lowered.specs.Beside.{beside}
use Rattle.porch_lowered.specs.Laws.{allocation_beside}
use Rattle.porch_lowered.proofs.ChangeAlike.{changes}
use Rattle.porch_lowered.proofs.Typed.{counts}
use Rattle.porch_lowered.proofs.Temporaries.{IsInside}
use Rattle.porch_lowered.proofs.Codes.{Context, commands, frame, here, IsOf, Follow, IsReady, grounded, MayGo, Arrives}
use Rattle.porch_lowered.proofs.Holding.{IsSetting, kept_types}
use Rattle.porch_lowered.proofs.Operands.{IsOperand, number_is}
use Rattle.porch_lowered.proofs.Conversions.{IsNumber}
use Rattle.porch_lowered.proofs.Operate.{InRange, is_number}
use Rattle.porch_lowered.proofs.Blocks.{marked_goes, marked_meets}

-- the store that an allocation left
abbrev store_in : Store → Result Allocation Act → Store
store_in s (Ok a) = a.store
store_in s (Err a) = s

-- ALLOC and CALLOC
abbrev pub allocates : (zeroed : Bool) → (d : ℕ) → Operand → Command
allocates zeroed d o = if zeroed then command.Calloc d o else command.Alloc d o

module _ (c : Context) (set : IsSetting c) (to ty ty' place d : ℕ) (zeroed : Bool) (kind : Kind) (o : Operand) (v : Value) (made : StoreTyping) (s : Progress) (ts : List Object) (used : InUse)
    (shape : slice_get c.flat.types ty ≡ Some (Pointer to)) (few : to < length c.flat.types) (whole : slice_get c.flat.types ty' ≡ Some (Whole kind)) (ready : IsReady c made s ts)
    (operand : IsOperand c ty' used s ts o v) (of : IsOf c made ty' v) (may : MayGo c ty (Some d)) where
  -- what is made of a count
  abbrev makes : ℤ → Result Allocation Act
  makes z = pointers.allocate c.flat.types to zeroed z s.store

  -- where an allocation leads
  abbrev leads : Result Allocation Act → Next
  leads r = if_ok r (λ a. Goes (put d a.address (here c (with_store s a.store) ts (place + 1))))

  abbrev does_with : ℕ → Value → Next
  does_with pointee x =
      counted x (λ z.
      if_ok (pointers.allocate c.flat.types pointee zeroed z (beside s.store (ts ∷ c.more)))
      (λ a. becomes c.flat c.under (frame c place) c.callers d (machine.with_store (here c s ts place) a.store) a.address))

  pointee_is : pointee_in c.flat (frame c place) d ≡ to
  pointee_is = ap (λ ty. unwrap_or (pointed (type_at c.flat ty)) 0) (may place) ∙ ap (λ shape. unwrap_or (pointed shape) 0) shape

  beside_made : (r : Result Allocation Act)
      → if_ok (allocation_beside (ts ∷ c.more) r) (λ a. becomes c.flat c.under (frame c place) c.callers d (machine.with_store (here c s ts place) a.store) a.address) ≡ leads r
  beside_made (Ok a) = refl
  beside_made (Err a) = refl

  alike : (z : ℤ) → pointers.allocate c.flat.types to zeroed z (beside s.store (ts ∷ c.more)) ≡ allocation_beside (ts ∷ c.more) (makes z)
  alike z = (changes c.flat.types (counts made) s.store (ts ∷ c.more) (grounded c made s ts ready)).allocated to zeroed z

  value_is : operand_of c.flat None o (here c s ts place) ≡ seen s.store v
  value_is = number_is c set made s ts place ty' kind used o v None whole (inl refl) ready operand of

  effect : does c.flat c.under (frame c place) c.callers (form_of (allocates zeroed d o)) (here c s ts place) ≡ counted (seen s.store v) (λ z. leads (makes z))
  effect =
      by zeroed refl
      ∙ ap (λ x. does_with (pointee_in c.flat (frame c place) d) x) value_is
      ∙ ap (λ pointee. does_with pointee (seen s.store v)) pointee_is
      ∙ ap (λ (go : ℤ → Next). counted (seen s.store v) go)
      (λ i z. (ap (λ r. if_ok r (λ a. becomes c.flat c.under (frame c place) c.callers d (machine.with_store (here c s ts place) a.store) a.address)) (alike z) ∙ beside_made (makes z)) i)
    where
      by : (b : Bool) → b ≡ zeroed
          → does c.flat c.under (frame c place) c.callers (form_of (allocates zeroed d o)) (here c s ts place)
          ≡ does_with (pointee_in c.flat (frame c place) d) (operand_of c.flat None o (here c s ts place))
      by true e = rw (← e) refl
      by false e = rw (← e) refl

  -- the marks that the command tells
  told : marks_at c.flat (here c s ts place) (frame c place) (form_of (allocates zeroed d o))
      ≡ allocated_where_made (seen s.store v) (leaves_of c.flat.types to) (allocation_of c.flat zeroed to (seen s.store v) (here c s ts place))
  told =
      by zeroed refl
      ∙ ap (λ x. allocated_where_made x (leaves_of c.flat.types (pointee_in c.flat (frame c place) d)) (allocation_of c.flat zeroed (pointee_in c.flat (frame c place) d) x (here c s ts place))) value_is
      ∙ ap (λ pointee. allocated_where_made (seen s.store v) (leaves_of c.flat.types pointee) (allocation_of c.flat zeroed pointee (seen s.store v) (here c s ts place))) pointee_is
    where
      by : (b : Bool) → b ≡ zeroed
          → marks_at c.flat (here c s ts place) (frame c place) (form_of (allocates zeroed d o))
          ≡ allocated_where_made (operand_of c.flat None o (here c s ts place)) (leaves_of c.flat.types (pointee_in c.flat (frame c place) d))
          (allocation_of c.flat zeroed (pointee_in c.flat (frame c place) d) (operand_of c.flat None o (here c s ts place)) (here c s ts place))
      by true e = rw (← e) refl
      by false e = rw (← e) refl

  calm : (b : Bool) → counts_turn (form_of (allocates b d o)) ≡ false
  calm true = refl
  calm false = refl

  -- what follows a count
  abbrev source : Value → Outcome
  source x =
      with_number x s (λ z s.
      with_result (pointers.allocate c.flat.types to zeroed z s.store) s (λ (a : Allocation) s.
      Went a.address (with_mark (with_store s a.store) (allocated (unsigned_abs z) (leaves_of c.flat.types to)))))

  made_follows : (stands : slice_get (commands c) place ≡ Some (allocates zeroed d o)) (z : ℤ) → seen s.store v ≡ number z → (r : Result Allocation Act) → makes z ≡ r
      → Follow c (with_result r s (λ (a : Allocation) s. Went a.address (with_mark (with_store s a.store) (allocated (unsigned_abs z) (leaves_of c.flat.types to))))) (here c s ts place) s.marks
      (Arrives c ty made (Some d) used ts (here c s ts place) s.marks (place + 1))
  made_follows stands z is (Ok a) e =
      let kept : IsMade c.flat.types c.under.widths made ty a =
      subst (λ r. Gives (IsMade c.flat.types c.under.widths made ty) r) e ((kept_types c set made s ts ready).allocated ty to zeroed z shape few) in
      let inside : IsInside c.call a.store = inside_of a e in
      record {
        later = kept.later;
        adds = kept.adds;
        temporaries = ts;
        onward =
            marked_goes c (allocates zeroed d o) place s ts (put d a.address (here c (with_store s a.store) ts (place + 1))) (allocated (unsigned_abs z) (leaves_of c.flat.types to) ∷ []) stands (calm zeroed)
            (effect ∙ ap (λ x. counted x (λ z. leads (makes z))) is ∙ ap (λ r. leads r) e)
            (told ∙ ap (λ x. allocated_where_made x (leaves_of c.flat.types to) (allocation_of c.flat zeroed to x (here c s ts place))) is
            ∙ ap (λ r. allocated_where_made (number z) (leaves_of c.flat.types to) r) (alike z ∙ ap (λ r. allocation_beside (ts ∷ c.more) r) e));
        ready =
            record {
              typed = kept.typed;
              inside = inside;
              declares = ap (λ calls. slice_index_or calls c.call []) kept.calls ∙ ready.declares;
              globals = kept.adds.globals ∙ ready.globals;
              temporaries = ready.temporaries;
            };
        value = kept.address;
        kept = λ i u ne. refl;
      }
    where
      inside_of : (a : Allocation) → makes z ≡ Ok a → IsInside c.call a.store
      inside_of a e = by_tests (int_lt z (pos 1) || int_lt (pos MOST_COUNT) z) e
        where
          by_tests : (b : Bool)
              → (if b then Err Count
              else Ok (record { address = pointer (of_block s.store.allocated) 0; store = with_block s.store (block_of c.flat.types zeroed (record { ty = to; count = unsigned_abs z })) })) ≡ Ok a
              → IsInside c.call a.store
          by_tests true e = cc
          by_tests false e =
              (let same : with_block s.store (block_of c.flat.types zeroed (record { ty = to; count = unsigned_abs z })) ≡ a.store = ap (λ r. store_in s.store r) e in
              subst (λ store. IsInside c.call store) same (record { variables = ready.inside.variables; callers = ready.inside.callers; here = ready.inside.here }))
  made_follows stands z is (Err a) e =
      marked_meets c (allocates zeroed d o) place s ts a stands (calm zeroed) (effect ∙ ap (λ x. counted x (λ z. leads (makes z))) is ∙ ap (λ r. leads r) e)
      (told ∙ ap (λ x. allocated_where_made x (leaves_of c.flat.types to) (allocation_of c.flat zeroed to x (here c s ts place))) is
      ∙ ap (λ r. allocated_where_made (number z) (leaves_of c.flat.types to) r) (alike z ∙ ap (λ r. allocation_beside (ts ∷ c.more) r) e))

  -- the object is there, with its mark, or the act is met
  pub allocation_follows : slice_get (commands c) place ≡ Some (allocates zeroed d o)
      → Follow c (source (seen s.store v)) (here c s ts place) s.marks (Arrives c ty made (Some d) used ts (here c s ts place) s.marks (place + 1))
  allocation_follows stands =
      by (seen s.store v) refl (is_number c set made ty' kind (seen s.store v) whole ((kept_types c set made s ts ready).values ty' v of))
    where
      by : (x : Value) → seen s.store v ≡ x → IsNumber (InRange c set kind) x
          → Follow c (source x) (here c s ts place) s.marks (Arrives c ty made (Some d) used ts (here c s ts place) s.marks (place + 1))
      by (number z) is range = made_follows stands z is (makes z) refl
      by null is range = absurd range
      by (pointer home leaf) is range = absurd range
      by (past home leaf until) is range = absurd range
      by indeterminate is range =
          marked_meets c (allocates zeroed d o) place s ts Indeterminate stands (calm zeroed) (effect ∙ ap (λ x. counted x (λ z. leads (makes z))) is)
          (told ∙ ap (λ x. allocated_where_made x (leaves_of c.flat.types to) (allocation_of c.flat zeroed to x (here c s ts place))) is)
