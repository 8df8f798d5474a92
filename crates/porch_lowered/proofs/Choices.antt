-- `?:`: a condition is tested, and the value of one of two expressions goes where it is asked for.
use Rattle.std.proofs.Common.{◌≡◌, ℕ, ◌+◌, List, [], ◌∷◌, ◌++◌, length, max, arith, length-append, Option, Some, None}
use Rattle.std.specs.Prelude.{slice_get}
use Rattle.porch_types.specs.LeafTypes.{IsScalar}
use Rattle.porch_objects.specs.Store.{Value, Object}
use Rattle.porch_objects.specs.Meaning.{Mark, Progress}
use Rattle.porch_flat.specs.declared.whole.Command.{Command}
use Rattle.porch_flat.specs.declared.whole.Command.TheVariants as command
use Rattle.porch_abstract.specs.Machine.{State}
use Rattle.porch_typed.specs.Mirror.{Expression, Program}
use Rattle.porch_mean.specs.Outcome.{Outcome, Calls, and_then, either, use_truth}
use Rattle.porch_lowering.specs.Code.{InUse, then_code, then_commands, Coder}
use Rattle.porch_lowering.specs.Values.{type_held}
use Rattle.porch_lowering.specs.Expression.{test, code}
use Rattle.porch_sound.specs.Typing.{StoreTyping}
use Rattle.porch_lowered.proofs.Runs.{GoesOn, chain}
use Rattle.porch_lowered.proofs.Follows.{follows_is}
use Rattle.porch_lowered.proofs.States.{front_stands, back_stands}
use Rattle.porch_lowered.proofs.Codes.{Context, at_most_left, at_most_right, commands, here, then_on, arrived, Arrives, Evaluates}
use Rattle.porch_lowered.proofs.Holding.{IsSetting}
use Rattle.porch_lowered.proofs.Control.{label_goes}
use Rattle.porch_lowered.proofs.Branches.{AreHomes, jump_from, label_from}
use Rattle.porch_lowered.proofs.Conditions.{ComesTo, from_there}
use Rattle.porch_lowered.proofs.Tests.{test_follows}
use Rattle.porch_lowered.proofs.Lowered.{means, IsLowered}

module _ (c : Context) (set : IsSetting c) (homes : AreHomes (commands c)) (p : Program) (enter : Calls) where
  abbrev at : Progress → List Object → ℕ → State
  at s ts place = here c s ts place

  abbrev all : List Command
  all = commands c

  abbrev comes : Option ℕ → Value → Progress → List Object → ℕ → State
  comes to v s ts place = arrived c to v s ts place

  -- on at a label, wherever a value went
  jump_on : (to : Option ℕ) (v : Value) (s : Progress) (ts : List Object) (l place q : ℕ) → slice_get all place ≡ Some (command.Jump l)
      → slice_get all q ≡ Some (command.Label l) → GoesOn c.flat c.under c.n (comes to v s ts place) s.marks (comes to v s ts q) s.marks
  jump_on None v s ts l place q h e = jump_from c.flat c.under c.n c.function c.into c.callers c.more l place q (comes None v s ts place) s.marks h (homes l q e)
  jump_on (Some d) v s ts l place q h e =
      jump_from c.flat c.under c.n c.function c.into c.callers c.more l place q (comes (Some d) v s ts place) s.marks h (homes l q e)

  label_on : (to : Option ℕ) (v : Value) (s : Progress) (ts : List Object) (l place : ℕ) → slice_get all place ≡ Some (command.Label l)
      → GoesOn c.flat c.under c.n (comes to v s ts place) s.marks (comes to v s ts (place + 1)) s.marks
  label_on None v s ts l place h = label_from c.flat c.under c.n c.function c.into c.callers c.more l place (comes None v s ts place) s.marks h
  label_on (Some d) v s ts l place h = label_from c.flat c.under c.n c.function c.into c.callers c.more l place (comes (Some d) v s ts place) s.marks h

  -- what arrives goes on where control leads
  arrives_on : (ty : ℕ) (made : StoreTyping) (to : Option ℕ) (used : InUse) (from : List Object) (near : State) (before : List Mark) (place place' : ℕ)
      (v : Value) (s : Progress) → Arrives c ty made to used from near before place v s
      → ((ts : List Object) → GoesOn c.flat c.under c.n (comes to v s ts place) s.marks (comes to v s ts place') s.marks)
      → Arrives c ty made to used from near before place' v s
  arrives_on ty made to used from near before place place' v s far on =
      record {
        later = far.later;
        adds = far.adds;
        temporaries = far.temporaries;
        onward = then_on c near (comes to v s far.temporaries place) (comes to v s far.temporaries place') before s.marks s.marks far.onward (on far.temporaries);
        ready = far.ready;
        value = far.value;
        kept = far.kept;
      }

  -- the code: the condition, and one of two ways
  abbrev pub choice_code : Expression → (chosen other : Coder) → Coder
  choice_code e chosen other to used label =
      let condition = test p c.start e (code p c.start e) label used (label + 2) in
      let b = other to used condition.label in
      let a = chosen to used b.label in
      then_commands (then_code condition (then_code (then_commands b (command.Jump (label + 1) ∷ command.Label label ∷ [])) a)) (command.Label (label + 1) ∷ [])

  pub choice_follows : (e : Expression) → IsLowered c p enter e → IsScalar (slice_get c.flat.types (type_held p e))
      → (Fit : InUse → Option ℕ → Type 0) (Is : Value → Progress → Type 0) (ty : ℕ) (va vb : Progress → Outcome) (chosen other : Coder)
      → Evaluates c Fit Is ty va chosen → Evaluates c Fit Is ty vb other
      → Evaluates c Fit Is ty (λ s. and_then (means c p enter e s) (λ v s. use_truth v s (λ holds s. either holds va vb s))) (choice_code e chosen other)
  choice_follows e lowered scalar Fit Is ty va vb chosen other follow_a follow_b to used label place made s ts ready fits may room stands =
      let x = test p c.start e (code p c.start e) label used (label + 2) in
      let b = other to used x.label in
      let a = chosen to used b.label in
      let second = b.commands ++ command.Jump (label + 1) ∷ command.Label label ∷ [] in
      let inner = x.commands ++ (second ++ a.commands) in
      let m = place + length x.commands in
      let m' = m + length b.commands in
      let m'' = m' + 2 + length a.commands in
      let within = front_stands all place inner (command.Label (label + 1) ∷ []) stands in
      let behind = back_stands all place inner (command.Label (label + 1) ∷ []) stands in
      let rest = back_stands all place x.commands (second ++ a.commands) within in
      let second_stands = front_stands all m second a.commands rest in
      let jump_stands = back_stands all m b.commands (command.Jump (label + 1) ∷ command.Label label ∷ []) second_stands in
      let second_end : m + length second ≡ m' + 2 = simp length-append (omega arith) in
      let a_stands = rw second_end at (back_stands all m second a.commands rest) in
      let inner_end : place + length inner ≡ m'' = simp length-append (omega arith) in
      let label_stands = rw inner_end at behind.0 in
      let end : m'' + 1 ≡ place + length (inner ++ command.Label (label + 1) ∷ []) = simp length-append (omega arith) in
      let after : m' + 1 + 1 ≡ m' + 2 = omega arith in
      test_follows c set homes p enter e lowered scalar va vb label used (label + 2) place (m' + 1) made s ts _ ready
      (λ k. at_most_left (x.most k) (max (b.most k) (a.most k)) (c.pools k) (room k))
      (front_stands all place x.commands (second ++ a.commands) within) jump_stands.1.0
      (λ u h.
      (let entered : ComesTo c made used ts (at s ts place) s.marks (m' + 2) u = record {
        later = h.later;
        adds = h.adds;
        temporaries = h.temporaries;
        onward =
            rw after at
            (then_on c (at s ts place) (at u h.temporaries (m' + 1)) (at u h.temporaries (m' + 1 + 1)) s.marks u.marks u.marks h.onward
            (label_goes c.flat c.under c.n c.function c.into c.callers c.more u h.temporaries (m' + 1) label jump_stands.1.0));
        ready = h.ready;
        kept = h.kept;
      } in
      rw (← end)
      (from_there c Is ty to made used ts (at s ts place) s.marks (m' + 2) (m'' + 1) u (va u) entered
      (follows_is c.flat c.under c.n (va u) (at u entered.temporaries (m' + 2)) u.marks _ _
      (follow_a to used b.label (m' + 2) entered.later u entered.temporaries entered.ready fits may
      (λ k. at_most_right (b.most k) (a.most k) (c.pools k) (at_most_right (x.most k) (max (b.most k) (a.most k)) (c.pools k) (room k))) a_stands)
      (λ w z e far. (
        arrives_on ty entered.later to used entered.temporaries (at u entered.temporaries (m' + 2)) u.marks m'' (m'' + 1) w z far.0 (λ ts. label_on to w z ts (label + 1) m'' label_stands),
        far.1,
      ))))))
      (λ u h.
      rw (← end)
      (from_there c Is ty to made used ts (at s ts place) s.marks m (m'' + 1) u (vb u) h
      (follows_is c.flat c.under c.n (vb u) (at u h.temporaries m) u.marks _ _
      (follow_b to used x.label m h.later u h.temporaries h.ready fits may
      (λ k. at_most_left (b.most k) (a.most k) (c.pools k) (at_most_right (x.most k) (max (b.most k) (a.most k)) (c.pools k) (room k)))
      (front_stands all m b.commands (command.Jump (label + 1) ∷ command.Label label ∷ []) second_stands))
      (λ w z e far. (
        arrives_on ty h.later to used h.temporaries (at u h.temporaries m) u.marks m' (m'' + 1) w z far.0
            (λ ts. chain c.flat c.under c.n (comes to w z ts m') (comes to w z ts m'') (comes to w z ts (m'' + 1)) z.marks z.marks z.marks
            (jump_on to w z ts (label + 1) m' m'' jump_stands.0 label_stands) (label_on to w z ts (label + 1) m'' label_stands)),
        far.1,
      )))))
