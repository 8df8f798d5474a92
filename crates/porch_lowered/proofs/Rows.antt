-- Operators of one level, from left to right.
use Rattle.std.proofs.Common.{◌≡◌, ◌≤◌, ℕ, ◌+◌, List, [], ◌++◌, length, max, refl, sym, subst, inl, arith, length-append, false, Option, Some, None}
use Rattle.std.specs.Prelude.{is_some}
use Rattle.porch_objects.specs.Store.{Value, Object}
use Rattle.porch_objects.specs.Meaning.{Mark, Progress}
use Rattle.porch_flat.specs.declared.flat.Operand.{Operand}
use Rattle.porch_flat.specs.declared.flat.Operand.TheVariants.{Var}
use Rattle.porch_abstract.specs.Machine.{State}
use Rattle.porch_typed.specs.declared.typed.Operator.{Operator}
use Rattle.porch_typed.specs.Mirror.{Expression, Steps, Program, no_steps, with_step}
use Rattle.porch_typed.specs.Typed.{Applies}
use Rattle.porch_mean.specs.Outcome.{Outcome, Went, Calls, and_then, with_result}
use Rattle.porch_mean.specs.Operators as meaning
use Rattle.porch_mean.specs.Expression.{value_behind, operate_on}
use Rattle.porch_lowering.specs.Code.{InUse, and_one, at_most, Code, Coder, Held as Kept, hold}
use Rattle.porch_lowering.specs.Values.{Accepts, operator_type, type_held, may_lack, atom_of}
use Rattle.porch_lowering.specs.Operators.{left_accepts, right_accepts, next_of, operate}
use Rattle.porch_lowering.specs.Expression.{begins_in_place, first_accepts, code, steps_code}
use Rattle.porch_sound.specs.Typing.{StoreTyping}
use Rattle.porch_lowered.proofs.Later.{value_later}
use Rattle.porch_lowered.proofs.Runs.{stays}
use Rattle.porch_lowered.proofs.Follows.{follows_from, follows_then}
use Rattle.porch_lowered.proofs.States.{Stands, front_stands, back_stands}
use Rattle.porch_lowered.proofs.Growing.{code_grows, steps_grow}
use Rattle.porch_lowered.proofs.Codes.{Context, at_most_left, commands, here, IsOf, Follow, IsUsed, IsReady, MayGo, Arrives, arrives_from}
use Rattle.porch_lowered.proofs.Holding.{IsSetting, arrives_held, room_before, room_next, one_is_used, used_before, temporary_type}
use Rattle.porch_lowered.proofs.Operands.{InTemporary, IsOperand, operand_stays, IsSteady, steady_is, steady_stays}
use Rattle.porch_lowered.proofs.Held.{Carries, strict_at, hold_then, from_held}
use Rattle.porch_lowered.proofs.OperatorCode.{IsAccepted}
use Rattle.porch_lowered.proofs.Strict.{strict_then, strict_right}
use Rattle.porch_lowered.proofs.Applied.{applies_follow}
use Rattle.porch_lowered.proofs.Lowered.{IsThereUnless, IsAcceptedIn, accepted, means, IsLowered, AreStepsLowered, to_temporary}

-- of a value that is held the operand is a variable, and else it stands in place
pub held_accepted : (accepts : Accepts) (o : Option Operand) (t ty : ℕ) (coder : Coder) (used : InUse) (label : ℕ)
    → IsAcceptedIn accepts o → IsAccepted accepts (hold o t ty coder used label).operand
held_accepted accepts None t ty coder used label h = tt
held_accepted accepts (Some o) t ty coder used label h = h

module _ (c : Context) (set : IsSetting c) (p : Program) (same : c.flat.types ≡ p.types) (enter : Calls) where
  -- what the right operand takes
  abbrev pub right_held : Operator → Expression → InUse → (label : ℕ) → Kept
  right_held op e used label = hold (atom_of (right_accepts op) e) (next_of c.start (type_held p e) used) (type_held p e) (code p c.start e) used label

  -- the operator, with what is in use for its result
  abbrev pub operator_code : Operator → Expression → (d : ℕ) → (with_d : InUse) → (left : Operand) → (lt : ℕ) → InUse → (label : ℕ) → Code
  operator_code op e d with_d left lt used label =
      let right = right_held op e used label in operate c.start op d left lt right.operand (type_held p e) (at_most with_d right.used) right.code.label

  used_in_step : (with_d used : InUse) (i : ℕ) → IsUsed c used i → IsUsed c (at_most with_d used) i
  used_in_step with_d used i u =
      (let l = u.less in record { ty = u.ty; index = u.index; less = omega (arith, l); number = u.number })

  -- a left operand while the right one is held
  pub carries_left : (lt ty : ℕ) (o : Operand) (v : Value) (right : Option Operand) (made : StoreTyping) (used : InUse) (s : Progress) (ts : List Object)
      → IsOperand c lt used s ts o v → IsOf c made lt v → (is_some right ≡ false → IsSteady c lt used ts o v)
      → Carries c right ty (λ later used u ts. IsOperand c lt used u ts o v × IsOf c later lt v) made used s ts
  carries_left lt ty o v None made used s ts x of steady =
      λ later u ts' adds keeps. (
        steady_is c lt (and_one ty used) u ts' o v (steady_stays c lt used (and_one ty used) ts ts' o v (λ i u. used_before c set ty used i u) keeps (steady refl)),
        value_later c.flat.types c.under.widths made later adds lt v of,
      )
  carries_left lt ty o v (Some right) made used s ts x of steady = (x, of)

  -- One operator: its right operand is evaluated and held, and what comes behind has the result where it goes.
  pub step_follows : (op : Operator) (e : Expression) (lt : ℕ) (more : Value → Progress → Outcome) → IsLowered c p enter e
      → Applies c.flat.types op lt (type_held p e) (operator_type op)
      → (o : Operand) (v : Value) (used with_d : InUse) (d label place : ℕ) (made : StoreTyping) (s : Progress) (ts : List Object) (near : Value → Progress → Type 0)
      → IsReady c made s ts → IsAccepted (left_accepts op) o → IsOperand c lt used s ts o v → IsOf c made lt v
      → (is_some (atom_of (right_accepts op) e) ≡ false → IsSteady c lt used ts o v) → MayGo c (operator_type op) (Some d)
      → ((t : ℕ) → (right_held op e used label).code.most t ≤ c.pools t)
      → ((t : ℕ) → (operator_code op e d with_d o lt used label).most t ≤ c.pools t)
      → Stands (commands c) place (right_held op e used label).code.commands
      → Stands (commands c) (place + length (right_held op e used label).code.commands) (operator_code op e d with_d o lt used label).commands
      → ((x : Value) (u : Progress)
      → Arrives c (operator_type op) made (Some d) used ts (here c s ts place) s.marks
      (place + length (right_held op e used label).code.commands + length (operator_code op e d with_d o lt used label).commands) x u
      → Follow c (more x u) (here c s ts place) s.marks near)
      → Follow c (and_then (means c p enter e s) (λ b s. and_then (operate_on p c.under op v b s) more)) (here c s ts place) s.marks near
  step_follows op e lt more lowered applies o v used with_d d label place made s ts near ready fit oa va steady may room room' stands stands' k =
      let rt = type_held p e in
      let right = right_held op e used label in
      let middle = place + length right.code.commands in
      let in_step = at_most with_d right.used in
      let end = middle + length (operator_code op e d with_d o lt used label).commands in
      hold_then c set rt (atom_of (right_accepts op) e) (IsThereUnless (may_lack e)) (λ later used u ts. IsOperand c lt used u ts o v × IsOf c later lt v)
      (λ s. means c p enter e s) (code p c.start e) (λ b s. and_then (operate_on p c.under op v b s) more) (to_temporary c p enter e lowered) (code_grows p c.start e)
      (lowered.in_place (right_accepts op)) used label place made s ts near ready
      (strict_at c (atom_of (right_accepts op) e) (λ b s. and_then (operate_on p c.under op v b s) more) s
      (strict_then (λ b s. operate_on p c.under op v b s) more (strict_right p c.under op v)))
      (carries_left lt rt o v (atom_of (right_accepts op) e) made used s ts oa va steady)
      room stands
      (λ w u h left is.
      follows_then c.flat c.under c.n (operate_on p c.under op v w u) more (here c s ts place) s.marks _ near
      (from_held c rt (operator_type op) made used right.used ts (here c s ts place) s.marks middle end right.operand w u (Some d) (operate_on p c.under op v w u) h
      (follows_from c.flat c.under c.n (operate_on p c.under op v w u) (here c u h.temporaries middle) (here c u h.temporaries middle) u.marks u.marks _ _
      (stays c.flat c.under c.n (here c u h.temporaries middle) u.marks)
      (λ x u' far.
      record {
        later = far.later;
        adds = far.adds;
        temporaries = far.temporaries;
        onward = far.onward;
        ready = far.ready;
        value = far.value;
        kept = λ i x ne. far.kept i (used_in_step with_d right.used i x) ne;
      })
      (subst
      (λ types. Follow c (with_result (meaning.operate types c.under.widths op u.store v w) u (λ w s. Went w s)) (here c u h.temporaries middle) u.marks
      (Arrives c (operator_type op) h.later (Some d) in_step h.temporaries (here c u h.temporaries middle) u.marks end))
      same
      (applies_follow c set op lt rt (operator_type op) applies d middle right.code.label o right.operand v w h.later u h.temporaries in_step
      fit (held_accepted (right_accepts op) (atom_of (right_accepts op) e) (next_of c.start rt used) rt (code p c.start e) used label (accepted (right_accepts op) e)) h.ready
      (operand_stays c lt right.used in_step u h.temporaries h.temporaries o v (λ i u. used_in_step with_d right.used i u) (λ i u ne. refl) left.0) left.1
      (operand_stays c rt right.used in_step u h.temporaries h.temporaries right.operand w (λ i u. used_in_step with_d right.used i u) (λ i u ne. refl) h.operand) h.value
      may room' stands'))))
      k)

  -- each operator takes what it gets, and the row gives this type
  abbrev pub AreApplied : Steps → (left ty : ℕ) → Type 0
  AreApplied no_steps left ty = left ≡ ty
  AreApplied (with_step op e steps) left ty = Applies c.flat.types op left (type_held p e) (operator_type op) × AreApplied steps (operator_type op) ty

  -- that the code of operators follows them, from a left operand on
  abbrev pub StepsFollow : Steps → (lt ty : ℕ) → Type 0
  StepsFollow steps lt ty =
      (o : Operand) (v : Value) (free used : InUse) (to : Option ℕ) (label place : ℕ) (made : StoreTyping) (s : Progress) (ts : List Object)
      → IsReady c made s ts → IsAccepted (first_accepts steps) o → IsOperand c lt used s ts o v → IsOf c made lt v
      → (begins_in_place steps ≡ false → IsSteady c lt used ts o v)
      → ((i : ℕ) → IsUsed c free i → IsUsed c used i) → MayGo c ty to
      → ((t : ℕ) → (steps_code p c.start steps o lt free to used label).most t ≤ c.pools t)
      → Stands (commands c) place (steps_code p c.start steps o lt free to used label).commands
      → Follow c (value_behind p c.under enter c.call steps v s) (here c s ts place) s.marks
      (Arrives c ty made to free ts (here c s ts place) s.marks (place + length (steps_code p c.start steps o lt free to used label).commands))

  -- fewer temporaries are kept
  fewer_kept : (ty : ℕ) (made : StoreTyping) (to : Option ℕ) (free used : InUse) (from : List Object) (near : State)
      (before : List Mark) (place : ℕ) (v : Value) (s : Progress) → ((i : ℕ) → IsUsed c free i → IsUsed c used i)
      → Arrives c ty made to used from near before place v s → Arrives c ty made to free from near before place v s
  fewer_kept ty made to free used from near before place v s more far =
      record {
        later = far.later;
        adds = far.adds;
        temporaries = far.temporaries;
        onward = far.onward;
        ready = far.ready;
        value = far.value;
        kept = λ i x ne. far.kept i (more i x) ne;
      }

  room_in : (a b c' x : ℕ) → max a (max b c') ≤ x → b ≤ x
  room_in a b c' x h = omega (arith, h)

  room_last : (a b c' x : ℕ) → max a (max b c') ≤ x → c' ≤ x
  room_last a b c' x h = omega (arith, h)

  -- the last operator of a row
  last_follows : (op : Operator) (e : Expression) (lt : ℕ) → IsLowered c p enter e → Applies c.flat.types op lt (type_held p e) (operator_type op)
      → StepsFollow (with_step op e no_steps) lt (operator_type op)
  last_follows op e lt lowered applies o v free used None label place made s ts ready fit oa va steady more may room stands =
      let result = operator_type op in
      let d = next_of c.start result free in
      let right = right_held op e used label in
      let x = operator_code op e d (and_one result free) o lt used label in
      let all = commands c in
      let behind = back_stands all place right.code.commands (x.commands ++ []) stands in
      let room_free : (t : ℕ) → and_one result free t ≤ c.pools t = λ t. room_last (right.code.most t) (x.most t) (and_one result free t) (c.pools t) (room t) in
      let inside = room_next c set result free room_free in
      let end : place + length right.code.commands + length x.commands ≡ place + length (right.code.commands ++ (x.commands ++ [])) = simp length-append (omega arith) in
      step_follows op e lt (λ w u. Went w u) lowered applies o v used (and_one result free) d label place made s ts _ ready fit oa va steady
      (temporary_type c set result free inside)
      (λ t. at_most_left (right.code.most t) (max (x.most t) (and_one result free t)) (c.pools t) (room t))
      (λ t. room_in (right.code.most t) (x.most t) (and_one result free t) (c.pools t) (room t))
      (front_stands all place right.code.commands (x.commands ++ []) stands)
      (front_stands all (place + length right.code.commands) x.commands [] behind)
      (λ w u far.
      (let h = arrives_held c set result free used made ts (here c s ts place) s.marks (place + length right.code.commands + length x.commands) w u inside
      (room_before c set result free room_free) more far in
      rw (← end)
      (record { later = h.later; adds = h.adds; temporaries = h.temporaries; onward = h.onward; ready = h.ready; value = h.value; kept = h.kept })))
  last_follows op e lt lowered applies o v free used (Some d) label place made s ts ready fit oa va steady more may room stands =
      let result = operator_type op in
      let right = right_held op e used label in
      let x = operator_code op e d free o lt used label in
      let all = commands c in
      let behind = back_stands all place right.code.commands (x.commands ++ []) stands in
      let end : place + length right.code.commands + length x.commands ≡ place + length (right.code.commands ++ (x.commands ++ [])) = simp length-append (omega arith) in
      step_follows op e lt (λ w u. Went w u) lowered applies o v used free d label place made s ts _ ready fit oa va steady may
      (λ t. at_most_left (right.code.most t) (max (x.most t) (and_one result free t)) (c.pools t) (room t))
      (λ t. room_in (right.code.most t) (x.most t) (and_one result free t) (c.pools t) (room t))
      (front_stands all place right.code.commands (x.commands ++ []) stands)
      (front_stands all (place + length right.code.commands) x.commands [] behind)
      (λ w u far. rw (← end) (fewer_kept result made (Some d) free used ts (here c s ts place) s.marks (place + length right.code.commands + length x.commands) w u more far))

  -- an operator, and those behind it
  more_follow : (op : Operator) (e : Expression) (lt ty : ℕ) (op' : Operator) (e' : Expression) (steps : Steps)
      → IsLowered c p enter e → Applies c.flat.types op lt (type_held p e) (operator_type op)
      → StepsFollow (with_step op' e' steps) (operator_type op) ty
      → StepsFollow (with_step op e (with_step op' e' steps)) lt ty
  more_follow op e lt ty op' e' steps lowered applies follow o v free used to label place made s ts ready fit oa va steady more may room stands =
      let result = operator_type op in
      let d = next_of c.start result free in
      let rest = with_step op' e' steps in
      let right = right_held op e used label in
      let x = operator_code op e d (and_one result free) o lt used label in
      let y = steps_code p c.start rest (Var d) result free to (and_one result free) x.label in
      let all = commands c in
      let middle = place + length right.code.commands in
      let behind = back_stands all place right.code.commands (x.commands ++ y.commands) stands in
      let grown = steps_grow p c.start rest (Var d) result free to (and_one result free) x.label in
      let room_rest : (t : ℕ) → y.most t ≤ c.pools t = λ t. room_last (right.code.most t) (x.most t) (y.most t) (c.pools t) (room t) in
      let room_free : (t : ℕ) → and_one result free t ≤ c.pools t = λ t. (let a = grown t in let b = room_rest t in omega (arith, a, b)) in
      let inside = room_next c set result free room_free in
      let last = middle + length x.commands in
      let end : last + length y.commands ≡ place + length (right.code.commands ++ (x.commands ++ y.commands)) = simp length-append (omega arith) in
      step_follows op e lt (λ w u. value_behind p c.under enter c.call rest w u) lowered applies o v used (and_one result free) d label place made s ts _ ready fit oa va steady
      (temporary_type c set result free inside)
      (λ t. at_most_left (right.code.most t) (max (x.most t) (y.most t)) (c.pools t) (room t))
      (λ t. room_in (right.code.most t) (x.most t) (y.most t) (c.pools t) (room t))
      (front_stands all place right.code.commands (x.commands ++ y.commands) stands)
      (front_stands all middle x.commands y.commands behind)
      (λ w u far.
      (let h = arrives_held c set result free used made ts (here c s ts place) s.marks last w u inside (room_before c set result free room_free) more far in
      let held : InTemporary c result (and_one result free) h.temporaries d w = record {
        of_type = temporary_type c set result free inside;
        index = h.index;
        number = h.number;
        is_used = record { ty = result; index = free result; less = one_is_used c set result free; number = sym h.number };
        holds = h.holds;
      } in
      follows_from c.flat c.under c.n (value_behind p c.under enter c.call rest w u) (here c s ts place) (here c u h.temporaries last) s.marks u.marks
      (Arrives c ty made to free ts (here c s ts place) s.marks (place + length (right.code.commands ++ (x.commands ++ y.commands))))
      (Arrives c ty h.later to free h.temporaries (here c u h.temporaries last) u.marks (last + length y.commands)) h.onward
      (λ z u' further.
      rw (← end)
      (arrives_from c ty made h.later to free ts h.temporaries (here c s ts place) (here c u h.temporaries last) s.marks u.marks (last + length y.commands) z u'
      h.adds h.onward h.kept further))
      (follow (Var d) w free (and_one result free) to x.label last h.later u h.temporaries h.ready tt (inl held) h.value (λ e. held)
      (λ i u. used_before c set result free i u) may room_rest (back_stands all middle x.commands y.commands behind))))

  -- a row behind its first operand, which has at least one operator
  pub steps_follow : (steps : Steps) (lt ty : ℕ) → (steps ≡ no_steps → ⊥) → AreStepsLowered c p enter steps → AreApplied steps lt ty → StepsFollow steps lt ty
  steps_follow no_steps lt ty some lowered applied = absurd (some refl)
  steps_follow (with_step op e no_steps) lt ty some lowered applied =
      subst (λ ty. StepsFollow (with_step op e no_steps) lt ty) applied.1 (last_follows op e lt lowered.0 applied.0)
  steps_follow (with_step op e (with_step op' e' steps)) lt ty some lowered applied =
      more_follow op e lt ty op' e' steps lowered.0 applied.0
      (steps_follow (with_step op' e' steps) (operator_type op) ty (λ e. cc) lowered.1 applied.1)
