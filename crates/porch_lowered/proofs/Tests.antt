-- Conditions: an expression is evaluated and tested, and control goes on in one of two ways.
use Rattle.std.proofs.Common.{◌≡◌, ◌≤◌, ℕ, ◌+◌, List, [], ◌∷◌, ◌++◌, length, refl, ap, ◌∙◌, arith, length-append, Bool, Some}
use Rattle.std.specs.Prelude.{slice_get, Ok}
use Rattle.porch_types.specs.LeafTypes.{IsScalar}
use Rattle.porch_objects.specs.Store.{Value, number, null, pointer, past, indeterminate, Object, seen}
use Rattle.porch_objects.specs.Pointers.{if_there}
use Rattle.porch_objects.specs.Meaning.{Mark, Progress}
use Rattle.porch_flat.specs.declared.whole.Command.TheVariants as command
use Rattle.porch_abstract.specs.Machine.{State}
use Rattle.porch_typed.specs.Mirror.{Expression, Program}
use Rattle.porch_mean.specs.Outcome.{Outcome, Went, Calls, and_then, with_result, with_truth, use_truth, either}
use Rattle.porch_lowering.specs.Code.{InUse, Code, hold}
use Rattle.porch_lowering.specs.Values.{type_held, may_lack, atom_of}
use Rattle.porch_lowering.specs.Operators.{next_of, branch_on}
use Rattle.porch_lowering.specs.Expression.{test_accepts, test, goes_on_where_it_holds, code}
use Rattle.porch_sound.specs.Typing.{StoreTyping}
use Rattle.porch_lowered.proofs.SameLeaf.{seen_twice}
use Rattle.porch_lowered.proofs.States.{Stands, front_stands, back_stands}
use Rattle.porch_lowered.proofs.Growing.{code_grows}
use Rattle.porch_lowered.proofs.Codes.{Context, at_most_left, at_most_right, commands, here, On, then_on, Follow, IsReady}
use Rattle.porch_lowered.proofs.Holding.{IsSetting}
use Rattle.porch_lowered.proofs.Held.{IsStrict, strict_at, Nothing, carries_nothing, hold_then}
use Rattle.porch_lowered.proofs.Control.{jump_goes, label_goes}
use Rattle.porch_lowered.proofs.Branches.{AreHomes}
use Rattle.porch_lowered.proofs.Rows.{held_accepted}
use Rattle.porch_lowered.proofs.Conditions.{ComesTo, branch_on_follows}
use Rattle.porch_lowered.proofs.Lowered.{IsThereUnless, accepted, means, IsLowered, to_temporary}

-- what tests a value uses it
truth_by : (w : Value) (s : Progress) (go : Value → Progress → Outcome) (k : Bool → Progress → Outcome)
    → ((x : Value) → go x s ≡ with_truth (seen s.store x) s k) → seen s.store w ≡ w
    → and_then (with_result (if_there w (λ v. Ok v)) s (λ v s. Went v s)) go ≡ with_truth w s k
truth_by (number z) s go k is e = is (number z)
truth_by null s go k is e = is null
truth_by (pointer home leaf) s go k is e = is (pointer home leaf) ∙ ap (λ x. with_truth x s k) e
truth_by (past home leaf until) s go k is e = is (past home leaf until) ∙ ap (λ x. with_truth x s k) e
truth_by indeterminate s go k is e = refl

pub truth_strictly : (k : Bool → Progress → Outcome) → IsStrict (λ v s. use_truth v s k)
truth_strictly k v s = truth_by (seen s.store v) s (λ v s. use_truth v s k) k (λ x. refl) (seen_twice s.store v)

module _ (c : Context) (set : IsSetting c) (homes : AreHomes (commands c)) (p : Program) (enter : Calls) where
  -- What is tested leads on in one of two ways, from a place that control came to.
  abbrev pub TestedBy : (value : Progress → Outcome) → (coded : (l : ℕ) → InUse → (label : ℕ) → Code) → Type 1
  TestedBy value coded =
      (va vb : Progress → Outcome) (l : ℕ) (used : InUse) (label place q : ℕ) (made : StoreTyping) (s : Progress) (ts : List Object) (near : Value → Progress → Type 0)
      → IsReady c made s ts → ((t : ℕ) → (coded l used label).most t ≤ c.pools t)
      → Stands (commands c) place (coded l used label).commands → slice_get (commands c) q ≡ Some (command.Label l)
      → ((u : Progress) → ComesTo c made used ts (here c s ts place) s.marks q u → Follow c (va u) (here c s ts place) s.marks near)
      → ((u : Progress) → ComesTo c made used ts (here c s ts place) s.marks (place + length (coded l used label).commands) u
      → Follow c (vb u) (here c s ts place) s.marks near)
      → Follow c (and_then (value s) (λ v s. use_truth v s (λ holds s. either holds va vb s))) (here c s ts place) s.marks near

  -- An expression that is tested: on at a label where it is true, and else behind the code.
  pub test_follows : (e : Expression) → IsLowered c p enter e → IsScalar (slice_get c.flat.types (type_held p e))
      → TestedBy (λ s. means c p enter e s) (λ l used label. test p c.start e (code p c.start e) l used label)
  test_follows e lowered scalar va vb l used label place q made s ts near ready room stands label_is when_true when_false =
      let ty = type_held p e in
      let atom = atom_of (test_accepts ty) e in
      let x = hold atom (next_of c.start ty used) ty (code p c.start e) used label in
      let y = branch_on c.start ty x.operand l x.used x.code.label in
      let middle = place + length x.code.commands in
      let end : middle + length y.commands ≡ place + length (x.code.commands ++ y.commands) = simp length-append (omega arith) in
      hold_then c set ty atom (IsThereUnless (may_lack e)) (Nothing c) (λ s. means c p enter e s) (code p c.start e)
      (λ v s. use_truth v s (λ holds s. either holds va vb s)) (to_temporary c p enter e lowered) (code_grows p c.start e) (lowered.in_place (test_accepts ty))
      used label place made s ts near ready
      (strict_at c atom (λ v s. use_truth v s (λ holds s. either holds va vb s)) s (truth_strictly (λ holds s. either holds va vb s)))
      (carries_nothing c atom ty made used s ts)
      (λ t. at_most_left (x.code.most t) (y.most t) (c.pools t) (room t))
      (front_stands (commands c) place x.code.commands y.commands stands)
      (λ v u h other is.
      branch_on_follows c set homes ty x.code.label scalar x.operand v used x.used l middle q made ts (here c s ts place) s.marks u va vb near
      (record { later = h.later; adds = h.adds; temporaries = h.temporaries; onward = h.onward; ready = h.ready; kept = h.kept })
      (held_accepted (test_accepts ty) atom (next_of c.start ty used) ty (code p c.start e) used label (accepted (test_accepts ty) e))
      h.operand h.value h.more
      (λ t. at_most_right (x.code.most t) (y.most t) (c.pools t) (room t))
      (back_stands (commands c) place x.code.commands y.commands stands) label_is
      (λ came. when_true u came)
      (λ came. when_false u (rw end at came)))

  -- The other way round: on at a label where it doesn't hold, and else behind the code.
  pub holds_follows : (e : Expression) → IsLowered c p enter e → IsScalar (slice_get c.flat.types (type_held p e))
      → (va vb : Progress → Outcome) (end_label : ℕ) (used : InUse) (label place q : ℕ) (made : StoreTyping) (s : Progress) (ts : List Object) (near : Value → Progress → Type 0)
      → IsReady c made s ts → ((t : ℕ) → (goes_on_where_it_holds p c.start e end_label used label (code p c.start e)).most t ≤ c.pools t)
      → Stands (commands c) place (goes_on_where_it_holds p c.start e end_label used label (code p c.start e)).commands
      → slice_get (commands c) q ≡ Some (command.Label end_label)
      → ((u : Progress)
      → ComesTo c made used ts (here c s ts place) s.marks (place + length (goes_on_where_it_holds p c.start e end_label used label (code p c.start e)).commands) u
      → Follow c (va u) (here c s ts place) s.marks near)
      → ((u : Progress) → ComesTo c made used ts (here c s ts place) s.marks q u → Follow c (vb u) (here c s ts place) s.marks near)
      → Follow c (and_then (means c p enter e s) (λ v s. use_truth v s (λ holds s. either holds va vb s))) (here c s ts place) s.marks near
  holds_follows e lowered scalar va vb end_label used label place q made s ts near ready room stands label_is when_true when_false =
      let x = test p c.start e (code p c.start e) label used (label + 1) in
      let all = commands c in
      let middle = place + length x.commands in
      let jumps = command.Jump end_label ∷ command.Label label ∷ [] in
      let behind = back_stands all place x.commands jumps stands in
      let end : middle + 1 + 1 ≡ place + length (x.commands ++ jumps) = simp length-append (omega arith) in
      test_follows e lowered scalar va vb label used (label + 1) place (middle + 1) made s ts near ready room
      (front_stands all place x.commands jumps stands) behind.1.0
      (λ u h.
      when_true u (rw end at (moved made used ts (here c s ts place) s.marks (middle + 1) (middle + 1 + 1) u h
      (λ ts. label_goes c.flat c.under c.n c.function c.into c.callers c.more u ts (middle + 1) label behind.1.0))))
      (λ u h.
      when_false u (moved made used ts (here c s ts place) s.marks middle q u h
      (λ ts. jump_goes c.flat c.under c.n c.function c.into c.callers c.more u ts middle end_label q behind.0 (homes end_label q label_is))))
    where
      moved : (made : StoreTyping) (used : InUse) (from : List Object) (near : State) (before : List Mark) (place place' : ℕ) (u : Progress)
          → ComesTo c made used from near before place u → ((ts : List Object) → On c (here c u ts place) u.marks (here c u ts place') u.marks)
          → ComesTo c made used from near before place' u
      moved made used from near before place place' u h on =
          record {
            later = h.later;
            adds = h.adds;
            temporaries = h.temporaries;
            onward = then_on c near (here c u h.temporaries place) (here c u h.temporaries place') before u.marks u.marks h.onward (on h.temporaries);
            ready = h.ready;
            kept = h.kept;
          }
