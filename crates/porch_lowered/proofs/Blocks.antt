-- Allocations and `free`, with their marks.
use Rattle.std.proofs.Common.{◌≡◌, ℕ, zero, suc, ◌+◌, List, [], ◌∷◌, ◌++◌, length, refl, sym, ap, subst, ◌∙◌, ◌⊎◌, inl, inr, arith, append-nil, length-append, false, Some, None}
use Rattle.std.specs.Prelude.{⊤, slice_get, Result, Ok, Err}
use Rattle.porch_types.specs.declared.shapes.Ty.TheVariants.{Pointer}
use Rattle.porch_values.specs.declared.acts.Act.{Act}
use Rattle.porch_objects.specs.Store.{of_global, of_call, of_block, Value, number, null, pointer, past, indeterminate, Object, Store, seen}
use Rattle.porch_objects.specs.Pointers as pointers
use Rattle.porch_objects.specs.Pointers.{if_there, release_at}
use Rattle.porch_objects.specs.Meaning.{Mark, freed, Met, Progress, with_store}
use Rattle.porch_flat.specs.declared.flat.Operand.TheVariants.{Var}
use Rattle.porch_flat.specs.declared.whole.Command.{Command}
use Rattle.porch_flat.specs.declared.whole.Command.TheVariants as command
use Rattle.porch_flat.specs.whole.Form.{form_of}
use Rattle.porch_abstract.specs.Machine.{State, Goes, Meets}
use Rattle.porch_abstract.specs.whole.Machine.{if_ok, does}
use Rattle.porch_abstract.specs.whole.Run.{counts_turn, marks_at, freed_where_ended}
use Rattle.porch_typed.specs.Mirror.{Expression, Program, release, checkpoint}
use Rattle.porch_mean.specs.Outcome.{Went, Calls, and_then, with_result, done}
use Rattle.porch_mean.specs.Expression as meaning
use Rattle.porch_mean.specs.Expression.{mark_freed}
use Rattle.porch_lowering.specs.Code.{InUse, hold}
use Rattle.porch_lowering.specs.Values.{no_constant, type_held, may_lack, atom_of}
use Rattle.porch_lowering.specs.Operators.{var_of, next_of}
use Rattle.porch_lowering.specs.Expression.{code}
use Rattle.porch_sound.specs.Typing.{StoreTyping, IsTypedStore}
use Rattle.porch_sound.specs.Laws.{Gives}
use Rattle.porch_lowered.specs.Beside.{beside}
use Rattle.porch_lowered.specs.Laws.{store_beside}
use Rattle.porch_lowered.proofs.ReadAlike.{seen_grounded}
use Rattle.porch_lowered.proofs.ChangeAlike.{changes}
use Rattle.porch_lowered.proofs.Typed.{counts, adds_nothing}
use Rattle.porch_lowered.proofs.SameLeaf.{seen_or_not, seen_twice}
use Rattle.porch_lowered.proofs.Runs.{step_goes, step_meets}
use Rattle.porch_lowered.proofs.Follows.{EndsIn, follows_is, follows_result}
use Rattle.porch_lowered.proofs.Temporaries.{IsInside}
use Rattle.porch_lowered.proofs.States.{front_stands, back_stands, next_is, not_paused, marks_are}
use Rattle.porch_lowered.proofs.Growing.{code_grows}
use Rattle.porch_lowered.proofs.Codes.{Context, commands, frame, here, IsOf, On, Follow, IsReady, grounded, value_is_grounded, Arrives, Evaluates}
use Rattle.porch_lowered.proofs.Holding.{IsSetting, kept_types}
use Rattle.porch_lowered.proofs.Operands.{IsOperand, variable_is}
use Rattle.porch_lowered.proofs.Held.{IsStrict, strict_at, Nothing, carries_nothing, hold_then, from_held}
use Rattle.porch_lowered.proofs.Stores.{there_gives, led_by, beside_ok}
use Rattle.porch_lowered.proofs.Valueless.{checkpoint_follows}
use Rattle.porch_lowered.proofs.Located.{no_constants}
use Rattle.porch_lowered.proofs.OneOperand.{variable_held}
use Rattle.porch_lowered.proofs.Assigned.{value_seen}
use Rattle.porch_lowered.proofs.Lowered.{IsThereUnless, Nowhere, means, IsLowered, IsVoid, to_temporary}

-- an end of an object changes no call
released_inside : (call : ℕ) (s : Store) (p : Value) → IsInside call s → Gives (IsInside call) (release_at s p)
released_inside call s (number z) x = tt
released_inside call s null x = x
released_inside call s (pointer (of_global g) leaf) x = tt
released_inside call s (pointer (of_call d v) leaf) x = tt
released_inside call s (pointer (of_block b) zero) x = record { variables = x.variables; callers = x.callers; here = x.here }
released_inside call s (pointer (of_block b) (suc leaf)) x = tt
released_inside call s (past home leaf until) x = tt
released_inside call s indeterminate x = tt

-- of a value as it is seen the same
release_seen : (s : Store) (v : Value) → pointers.release s (seen s v) ≡ pointers.release s v
release_seen s v = ap (λ x. if_there x (λ p. release_at s p)) (seen_twice s v)

module _ (c : Context) where
  -- a command that counts no turn, with what it tells
  pub marked_goes : (x : Command) (place : ℕ) (s : Progress) (ts : List Object) (there : State) (told : List Mark) → slice_get (commands c) place ≡ Some x
      → counts_turn (form_of x) ≡ false → does c.flat c.under (frame c place) c.callers (form_of x) (here c s ts place) ≡ Goes there
      → marks_at c.flat (here c s ts place) (frame c place) (form_of x) ≡ told
      → On c (here c s ts place) s.marks there (s.marks ++ told)
  marked_goes x place s ts there told stands calm effect marks =
      subst (λ more. On c (here c s ts place) s.marks there (s.marks ++ more))
      (marks_are c.flat c.under c.n c.function c.into c.callers c.more x place (here c s ts place) stands ∙ marks)
      (step_goes c.flat c.under c.n (here c s ts place) there s.marks
      (not_paused c.flat c.under c.n c.function c.into c.callers c.more x place (here c s ts place) stands calm)
      (next_is c.flat c.under c.n c.function c.into c.callers c.more x place (here c s ts place) stands ∙ effect))

  -- one that meets an act, and tells nothing then
  pub marked_meets : (x : Command) (place : ℕ) (s : Progress) (ts : List Object) (a : Act) → slice_get (commands c) place ≡ Some x
      → counts_turn (form_of x) ≡ false → does c.flat c.under (frame c place) c.callers (form_of x) (here c s ts place) ≡ Meets a
      → marks_at c.flat (here c s ts place) (frame c place) (form_of x) ≡ []
      → EndsIn c.flat c.under c.n (here c s ts place) s.marks (Met a) s
  marked_meets x place s ts a stands calm effect marks =
      record {
        last = here c s ts place;
        runs =
            step_meets c.flat c.under c.n (here c s ts place) s.marks a (not_paused c.flat c.under c.n c.function c.into c.callers c.more x place (here c s ts place) stands calm)
            (next_is c.flat c.under c.n c.function c.into c.callers c.more x place (here c s ts place) stands ∙ effect)
            (marks_are c.flat c.under c.n c.function c.into c.callers c.more x place (here c s ts place) stands ∙ marks);
        output = refl;
        turns = refl;
      }

module _ (c : Context) (set : IsSetting c) where
  -- where `free` leads in the flat run
  release_does : (ty to place t : ℕ) (made : StoreTyping) (s : Progress) (ts : List Object) (used : InUse) (v : Value) → slice_get c.flat.types ty ≡ Some (Pointer to) → IsReady c made s ts
      → IsOperand c ty used s ts (Var t) v → IsOf c made ty v
      → does c.flat c.under (frame c place) c.callers (form_of (command.Free t)) (here c s ts place)
      ≡ if_ok (pointers.release s.store v) (λ to. Goes (here c (with_store s to) ts (place + 1)))
  release_does ty to place t made s ts used v shape ready operand of =
      ap (λ p. led_by c set s ts place (pointers.release (beside s.store (ts ∷ c.more)) p)) (variable_is c set made s ts place ty t used v ready operand of)
      ∙ ap (λ r. led_by c set s ts place r)
      ((changes c.flat.types (counts made) s.store (ts ∷ c.more) (grounded c made s ts ready)).released (seen s.store v)
      (seen_grounded (counts made) s.store v (value_is_grounded c made ty v of))
      ∙ ap (λ r. store_beside (ts ∷ c.more) r) (release_seen s.store v))
      ∙ beside_ok c set s ts place (pointers.release s.store v)

  release_told : (ty to place t : ℕ) (made : StoreTyping) (s : Progress) (ts : List Object) (used : InUse) (v : Value) → slice_get c.flat.types ty ≡ Some (Pointer to) → IsReady c made s ts
      → IsOperand c ty used s ts (Var t) v → IsOf c made ty v
      → marks_at c.flat (here c s ts place) (frame c place) (form_of (command.Free t)) ≡ freed_where_ended (seen s.store v) (store_beside (ts ∷ c.more) (pointers.release s.store v))
  release_told ty to place t made s ts used v shape ready operand of =
      ap (λ p. freed_where_ended p (pointers.release (beside s.store (ts ∷ c.more)) p)) (variable_is c set made s ts place ty t used v ready operand of)
      ∙ ap (λ r. freed_where_ended (seen s.store v) r)
      ((changes c.flat.types (counts made) s.store (ts ∷ c.more) (grounded c made s ts ready)).released (seen s.store v)
      (seen_grounded (counts made) s.store v (value_is_grounded c made ty v of))
      ∙ ap (λ r. store_beside (ts ∷ c.more) r) (release_seen s.store v))

  -- what a release tells where it meets an act
  told_none : (v : Value) (r : Result Store Act) (a : Act) (more : List (List Object)) → r ≡ Err a → freed_where_ended v (store_beside more r) ≡ []
  told_none v (Ok to) a more e = cc
  told_none (number z) (Err b) a more e = refl
  told_none null (Err b) a more e = refl
  told_none (pointer home leaf) (Err b) a more e = refl
  told_none (past home leaf until) (Err b) a more e = refl
  told_none indeterminate (Err b) a more e = refl

  -- `free`: the object ends, which makes a mark; of null it does nothing
  module _ (ty to ty' place t : ℕ) (made : StoreTyping) (s : Progress) (ts : List Object) (used : InUse) (v : Value) (shape : slice_get c.flat.types ty ≡ Some (Pointer to))
      (ready : IsReady c made s ts) (operand : IsOperand c ty used s ts (Var t) v) (of : IsOf c made ty v) (stands : slice_get (commands c) place ≡ Some (command.Free t)) where
    told : marks_at c.flat (here c s ts place) (frame c place) (form_of (command.Free t)) ≡ freed_where_ended (seen s.store v) (store_beside (ts ∷ c.more) (pointers.release s.store v))
    told = release_told ty to place t made s ts used v shape ready operand of

    effect : does c.flat c.under (frame c place) c.callers (form_of (command.Free t)) (here c s ts place)
        ≡ if_ok (pointers.release s.store v) (λ to. Goes (here c (with_store s to) ts (place + 1)))
    effect = release_does ty to place t made s ts used v shape ready operand of

    -- on with the marks that the release tells
    freed_on : (after : Store) (more : List Mark) → pointers.release s.store v ≡ Ok after
        → freed_where_ended (seen s.store v) (store_beside (ts ∷ c.more) (pointers.release s.store v)) ≡ more
        → On c (here c s ts place) s.marks (here c (with_store s after) ts (place + 1)) (s.marks ++ more)
    freed_on after more e tells =
        marked_goes c (command.Free t) place s ts (here c (with_store s after) ts (place + 1)) more stands refl
        (effect ∙ ap (λ r. if_ok r (λ to. Goes (here c (with_store s to) ts (place + 1)))) e) (told ∙ tells)

    after_ready : (after : Store) → pointers.release s.store v ≡ Ok after → IsReady c made (with_store s after) ts
    after_ready after e =
        record {
          typed = subst (λ r. Gives (IsTypedStore c.flat.types c.under.widths made) r) e ((kept_types c set made s ts ready).released v);
          inside =
              subst (λ r. Gives (IsInside c.call) r) e
              (there_gives (IsInside c.call) (seen s.store v) (λ p. release_at s.store p) (released_inside c.call s.store (seen s.store v) ready.inside));
          declares = ready.declares;
          globals = ready.globals;
          temporaries = ready.temporaries;
        }

    tells : (x : Value) (after : Store) → seen s.store v ≡ x → pointers.release s.store v ≡ Ok after → (more : List Mark) → freed_where_ended x (Ok (beside after (ts ∷ c.more))) ≡ more
        → freed_where_ended (seen s.store v) (store_beside (ts ∷ c.more) (pointers.release s.store v)) ≡ more
    tells x after is e more same =
        ap (λ r. freed_where_ended (seen s.store v) (store_beside (ts ∷ c.more) r)) e ∙ ap (λ x. freed_where_ended x (Ok (beside after (ts ∷ c.more)))) is ∙ same

    is_there : (x : Value) (after : Store) → if_there x (λ p. release_at s.store p) ≡ Ok after → (x ≡ v) ⊎ (x ≡ indeterminate) → x ≡ v
    is_there x after e (inl same) = same
    is_there x after e (inr lost) = (let wrong = sym (ap (λ x. if_there x (λ p. release_at s.store p)) lost) ∙ e in cc)

    by : (w : Value) → w ≡ v → (after : Store) → pointers.release s.store v ≡ Ok after → seen s.store v ≡ w → if_there w (λ p. release_at s.store p) ≡ Ok after
        → Arrives c ty' made None used ts (here c s ts place) s.marks (place + 1) indeterminate (mark_freed w (with_store s after))
    by (number z) same after e is ends = cc
    by null same after e is ends =
        record {
          later = made;
          adds = adds_nothing made;
          temporaries = ts;
          onward =
              subst (λ marks. On c (here c s ts place) s.marks (here c (with_store s after) ts (place + 1)) marks) (append-nil s.marks)
              (freed_on after [] e (tells null after is e [] refl));
          ready = after_ready after e;
          value = tt;
          kept = λ i u ne. refl;
        }
    by (pointer home leaf) same after e is ends =
        (let ready' = after_ready after e in
        record {
          later = made;
          adds = adds_nothing made;
          temporaries = ts;
          onward = freed_on after (freed ∷ []) e (tells (pointer home leaf) after is e (freed ∷ []) refl);
          ready = record { typed = ready'.typed; inside = ready'.inside; declares = ready'.declares; globals = ready'.globals; temporaries = ready'.temporaries };
          value = tt;
          kept = λ i u ne. refl;
        })
    by (past home leaf until) same after e is ends = cc
    by indeterminate same after e is ends = cc

    pub release_follows : Follow c (meaning.release v s) (here c s ts place) s.marks (Arrives c ty' made None used ts (here c s ts place) s.marks (place + 1))
    release_follows =
        follows_result c.flat c.under c.n (pointers.release s.store v) s (λ store s. done (mark_freed v (with_store s store))) (here c s ts place) s.marks
        (Arrives c ty' made None used ts (here c s ts place) s.marks (place + 1))
        (λ after e.
        (let same = is_there (seen s.store v) after e (seen_or_not s.store v) in
        subst (λ w. Arrives c ty' made None used ts (here c s ts place) s.marks (place + 1) indeterminate (mark_freed w (with_store s after))) same
        (by (seen s.store v) same after e refl e)))
        (λ a e.
        marked_meets c (command.Free t) place s ts a stands refl (effect ∙ ap (λ r. if_ok r (λ to. Goes (here c (with_store s to) ts (place + 1)))) e)
        (told ∙ told_none (seen s.store v) (pointers.release s.store v) a (ts ∷ c.more) e))

module _ (c : Context) (set : IsSetting c) (p : Program) (enter : Calls) where
  -- `free` of an expression
  pub release_void : (e : Expression) (to : ℕ) → IsLowered c p enter e → slice_get c.flat.types (type_held p e) ≡ Some (Pointer to) → IsVoid c p enter (release e)
  release_void e to lowered shape = record { evaluates = follows }
    where
      released_strictly : IsStrict (λ v s. meaning.release v s)
      released_strictly v s = releases_by (seen s.store v) v s refl
        where
          releases_by : (x w : Value) (u : Progress) → seen u.store w ≡ x → and_then (with_result (if_there x (λ v. Ok v)) u (λ v u. Went v u)) (λ w u. meaning.release w u) ≡ meaning.release w u
          releases_by (number z) w u is = ap (λ w. meaning.release w u) (value_seen u.store (number z) w is (λ e. cc))
          releases_by null w u is = ap (λ w. meaning.release w u) (value_seen u.store null w is (λ e. cc))
          releases_by (pointer home leaf) w u is = ap (λ w. meaning.release w u) (value_seen u.store (pointer home leaf) w is (λ e. cc))
          releases_by (past home leaf until) w u is = ap (λ w. meaning.release w u) (value_seen u.store (past home leaf until) w is (λ e. cc))
          releases_by indeterminate w u is = sym (ap (λ x. with_result (if_there x (λ p. release_at u.store p)) u (λ store s. done (mark_freed w (with_store s store)))) is)

      follows : Evaluates c (Nowhere c) (λ v s. ⊤) (type_held p (release e)) (λ s. means c p enter (release e) s) (code p c.start (release e))
      follows (Some d) used label place made s ts ready nowhere may room stands = cc
      follows None used label place made s ts ready nowhere may room stands =
          let own = type_held p e in
          let atom = atom_of no_constant e in
          let x = hold atom (next_of c.start own used) own (code p c.start e) used label in
          let middle = place + length x.code.commands in
          let found = variable_held c set atom (next_of c.start own used) own (code p c.start e) used label (no_constants e) in
          let last = back_stands (commands c) place x.code.commands (command.Free (var_of x.operand) ∷ []) stands in
          let stands_last : slice_get (commands c) middle ≡ Some (command.Free found.0) = last.0 ∙ ap (λ o. Some (command.Free (var_of o))) found.1 in
          let end : middle + 1 ≡ place + length (x.code.commands ++ command.Free (var_of x.operand) ∷ []) = simp length-append (omega arith) in
          hold_then c set own atom (IsThereUnless (may_lack e)) (Nothing c) (λ s. means c p enter e s) (code p c.start e) (λ v s. meaning.release v s) (to_temporary c p enter e lowered)
          (code_grows p c.start e) (lowered.in_place no_constant) used label place made s ts _ ready (strict_at c atom (λ v s. meaning.release v s) s released_strictly)
          (carries_nothing c atom own made used s ts) room (front_stands (commands c) place x.code.commands (command.Free (var_of x.operand) ∷ []) stands)
          (λ v u h other is.
          rw (← end)
          (follows_is c.flat c.under c.n (meaning.release v u) (here c s ts place) s.marks _ _
          (from_held c own (type_held p (release e)) made used x.used ts (here c s ts place) s.marks middle (middle + 1) x.operand v u None (meaning.release v u) h
          (release_follows c set own to (type_held p (release e)) middle found.0 h.later u h.temporaries x.used v shape h.ready (rw found.1 at h.operand) h.value stands_last))
          (λ w u went far. (far, tt))))

  -- `checkpoint()`
  pub checkpoint_void : IsVoid c p enter checkpoint
  checkpoint_void = record { evaluates = follows }
    where
      follows : Evaluates c (Nowhere c) (λ v s. ⊤) (type_held p checkpoint) (λ s. means c p enter checkpoint s) (code p c.start checkpoint)
      follows (Some d) used label place made s ts ready nowhere may room stands = cc
      follows None used label place made s ts ready nowhere may room stands =
          (checkpoint_follows c set (type_held p checkpoint) place made s ts used ready stands.0, tt)
