-- Expressions with one operand, which is held and then used: `!`, `+`, `-`, `~`, allocations and others.
use Rattle.std.proofs.Common.{◌≡◌, ◌≤◌, ℕ, ◌+◌, List, ◌++◌, length, refl, inr, arith, length-append, true, Some, None}
use Rattle.porch_objects.specs.Store.{Value, Object}
use Rattle.porch_objects.specs.Meaning.{Progress}
use Rattle.porch_flat.specs.declared.flat.Operand.{Operand}
use Rattle.porch_typed.specs.Mirror.{Expression, Program}
use Rattle.porch_mean.specs.Outcome.{Outcome, Went, Calls, and_then}
use Rattle.porch_lowering.specs.Code.{InUse, and_one, Code, then_code, Coder, Held, hold}
use Rattle.porch_lowering.specs.Values.{Accepts, type_held, may_lack, atom_of}
use Rattle.porch_lowering.specs.Operators.{next_of}
use Rattle.porch_lowering.specs.Expression.{code}
use Rattle.porch_sound.specs.Typing.{StoreTyping}
use Rattle.porch_lowered.proofs.Follows.{follows_is}
use Rattle.porch_lowered.proofs.States.{Stands, front_stands, back_stands}
use Rattle.porch_lowered.proofs.Growing.{Grows, code_grows}
use Rattle.porch_lowered.proofs.Codes.{Context, at_most_left, at_most_right, commands, here, IsOf, Follow, IsReady, MayGo, Arrives, Evaluates}
use Rattle.porch_lowered.proofs.Holding.{IsSetting, evaluates_both}
use Rattle.porch_lowered.proofs.Operands.{IsOperand}
use Rattle.porch_lowered.proofs.Held.{IsStrict, strict_at, Nothing, carries_nothing, hold_then, from_held}
use Rattle.porch_lowered.proofs.OperatorCode.{IsAccepted}
use Rattle.porch_lowered.proofs.Rows.{held_accepted}
use Rattle.porch_lowered.proofs.Lowered.{IsThereUnless, accepted, Goes, means, IsLowered, to_temporary}

module _ (c : Context) (set : IsSetting c) (p : Program) (enter : Calls) where
  -- what the operand takes
  abbrev pub operand_held : Accepts → Expression → InUse → (label : ℕ) → Held
  operand_held accepts e used label = hold (atom_of accepts e) (next_of c.start (type_held p e) used) (type_held p e) (code p c.start e) used label

  -- the code with what comes behind the operand
  abbrev pub operand_code : Accepts → Expression → (finish : (d : ℕ) → Operand → InUse → (label : ℕ) → Code) → (d : ℕ) → InUse → (label : ℕ) → Code
  operand_code accepts e finish d used label =
      let x = operand_held accepts e used label in then_code x.code (finish d x.operand x.used x.code.label)

  -- that what comes behind an operand follows the source, and its value goes to a variable
  abbrev pub Finishes : Accepts → Expression → (ty : ℕ) → (go : Value → Progress → Outcome) → (finish : (d : ℕ) → Operand → InUse → (label : ℕ) → Code) → Type 0
  Finishes accepts e ty go finish =
      (d : ℕ) (o : Operand) (v : Value) (used : InUse) (label place : ℕ) (made : StoreTyping) (s : Progress) (ts : List Object)
      → IsAccepted accepts o → IsReady c made s ts → IsOperand c (type_held p e) used s ts o v → IsOf c made (type_held p e) v → MayGo c ty (Some d)
      → ((t : ℕ) → (finish d o used label).most t ≤ c.pools t)
      → Stands (commands c) place (finish d o used label).commands
      → Follow c (go v s) (here c s ts place) s.marks
      (Arrives c ty made (Some d) used ts (here c s ts place) s.marks (place + length (finish d o used label).commands))

  pub operand_writes : (accepts : Accepts) (e : Expression) (ty : ℕ) (go : Value → Progress → Outcome) (finish : (d : ℕ) → Operand → InUse → (label : ℕ) → Code)
      → IsLowered c p enter e → IsStrict go → Finishes accepts e ty go finish
      → (d : ℕ) (used : InUse) (label place : ℕ) (made : StoreTyping) (s : Progress) (ts : List Object) → IsReady c made s ts → MayGo c ty (Some d)
      → ((t : ℕ) → (operand_code accepts e finish d used label).most t ≤ c.pools t)
      → Stands (commands c) place (operand_code accepts e finish d used label).commands
      → Follow c (and_then (means c p enter e s) go) (here c s ts place) s.marks
      (Arrives c ty made (Some d) used ts (here c s ts place) s.marks (place + length (operand_code accepts e finish d used label).commands))
  operand_writes accepts e ty go finish lowered strict finishes d used label place made s ts ready may room stands =
      let own = type_held p e in
      let atom = atom_of accepts e in
      let x = operand_held accepts e used label in
      let y = finish d x.operand x.used x.code.label in
      let middle = place + length x.code.commands in
      let end : middle + length y.commands ≡ place + length (x.code.commands ++ y.commands) = simp length-append (omega arith) in
      hold_then c set own atom (IsThereUnless (may_lack e)) (Nothing c) (λ s. means c p enter e s) (code p c.start e) go (to_temporary c p enter e lowered) (code_grows p c.start e)
      (lowered.in_place accepts) used label place made s ts _ ready (strict_at c atom go s strict) (carries_nothing c atom own made used s ts)
      (λ t. at_most_left (x.code.most t) (y.most t) (c.pools t) (room t))
      (front_stands (commands c) place x.code.commands y.commands stands)
      (λ v u h other is.
      rw (← end)
      (from_held c own ty made used x.used ts (here c s ts place) s.marks middle (middle + length y.commands) x.operand v u (Some d) (go v u) h
      (finishes d x.operand v x.used x.code.label middle h.later u h.temporaries
      (held_accepted accepts atom (next_of c.start own used) own (code p c.start e) used label (accepted accepts e)) h.ready h.operand h.value may
      (λ t. at_most_right (x.code.most t) (y.most t) (c.pools t) (room t))
      (back_stands (commands c) place x.code.commands y.commands stands))))

  -- as the induction has it, also where the value is dropped
  pub operand_follows : (accepts : Accepts) (e : Expression) (ty : ℕ) (go : Value → Progress → Outcome) (finish : (d : ℕ) → Operand → InUse → (label : ℕ) → Code)
      → IsLowered c p enter e → IsStrict go → Finishes accepts e ty go finish
      → (Is : Value → Progress → Type 0) → ((s u : Progress) (v : Value) → and_then (means c p enter e s) go ≡ Went v u → Is v u)
      → (whole : Coder) → Grows whole
      → ((d : ℕ) (used : InUse) (label : ℕ) → whole (Some d) used label ≡ operand_code accepts e finish d used label)
      → ((used : InUse) (label : ℕ) → whole None used label ≡ whole (Some (next_of c.start ty used)) (and_one ty used) label)
      → Evaluates c (Goes c true) Is ty (λ s. and_then (means c p enter e s) go) whole
  operand_follows accepts e ty go finish lowered strict finishes Is known whole grows is same =
      evaluates_both c set (Goes c true) Is ty (λ s. and_then (means c p enter e s) go) whole (λ used d taken. inr refl)
      (λ d used label place made s ts ready fits may room stands.
      (let as_code = is d used label in
      rw as_code
      (follows_is c.flat c.under c.n (and_then (means c p enter e s) go) (here c s ts place) s.marks _ _
      (operand_writes accepts e ty go finish lowered strict finishes d used label place made s ts ready may (rw as_code at room) (rw as_code at stands))
      (λ v u went far. (far, known s u v went)))))
      grows same
