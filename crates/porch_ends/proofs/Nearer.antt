-- Each step that goes on leaves less of a run.
use Rattle.std.proofs.Common.{◌≡◌, ◌<◌, ◌≤◌, inl, inr, ℕ, zero, suc, ◌+◌, ◌-◌, ◌*◌, ℤ, pos, ◌+ℤ◌, List, [], ◌∷◌, length, refl, sym, subst, arith, Option, Some, None, Result, Ok, Err, Bool, true, false}
use Rattle.std.specs.Prelude.{slice_get, if◌then◌else◌, nat_le, nat_lt, ◌==◌, ◌&&◌, ◌||◌, int_lt, unsigned_abs, unwrap_or, map, is_some}
use Rattle.std.specs.Option.{option_map}
use Rattle.std.specs.Ordering.{int_eq}
use Rattle.std.proofs.lemmas.Bool.Decides.{nat_tests}
use Rattle.std.proofs.lemmas.Option.{slice_get_within}
use Rattle.std.proofs.Math.Nat.{mul-le-mul_left}
use Rattle.porch_values.specs.declared.acts.Act.{Act}
use Rattle.porch_values.specs.declared.acts.Act.TheVariants as act
use Rattle.porch_values.specs.Integers.{applied, converted, complemented}
use Rattle.porch_heap.specs.declared.block.HeapFull.{HeapFull}
use Rattle.porch_heap.specs.Blocks.{without, begins}
use Rattle.porch_heap.specs.Gaps.{place_or_full}
use Rattle.porch_flat.specs.declared.flat.Operand.{Operand}
use Rattle.porch_flat.specs.declared.whole.Command.{Command}
use Rattle.porch_flat.specs.declared.whole.Function.{Function}
use Rattle.porch_flat.specs.declared.whole.Flat.{Flat}
use Rattle.porch_flat.specs.whole.Form as form
use Rattle.porch_flat.specs.whole.Form.{Form, form_of, label_of, jump_of, is_turn, Within}
use Rattle.porch_flat.specs.whole.Places.{commands_of, main_of}
use Rattle.porch_abstract.specs.whole.Run.{counts_turn, counts}
use Rattle.porch_bytes.specs.Leaf.{part, leaf_value, with_leaf_value}
use Rattle.porch_bytes.specs.Access.{part_end, is_place, is_address, text_in}
use Rattle.porch_bytes.specs.Memory.{frame_size}
use Rattle.porch_bytes.specs.State.{Setting, Frame, Phase, before, running, over, State, widths_of, with_memory, with_phase}
use Rattle.porch_bytes.specs.Column.{Next, Goes, Traps, StackIsFull, MOST_COUNT, if_ok, if_text, with_blocks, used, heap_of, parts_with, size_of, align_of, leaf_place, stack_end, entered, returned, code_of, kind_in, pointee_in, variable_of, operand_of, address_in, onward, at_label, becomes, if_place, if_address, subobject, moved_by, copied, placed, allocated, freed, shows, does, after, next}
use Rattle.porch_bytes.specs.ByteRun.{is_paused}
use Rattle.porch_abstract.specs.whole.Machine.{forward}
use Rattle.porch_ends.specs.Left.{commands_in, turn_weight, is_turn_at, is_label_at, near_turn, frames_left, turns_left, left_in, left, IsNearer, LeavesLess, StepsComeNearer}
use Rattle.porch_ends.proofs.Lines.{Stands, Leads, label_at, a_turn, JumpsWell, jumps_of}

-- a turn less weighs more than a frame
turn_less : (w a b x y : ℕ) → b + 1 ≤ a → x < y + w → w * b + x < w * a + y
turn_less w a b x y h k = let p : w * (b + 1) ≤ w * a = mul-le-mul_left w h in omega (arith, p, k)

no_more : (w a b x y : ℕ) → b ≤ a → x < y → w * b + x < w * a + y
no_more w a b x y h k = let p : w * b ≤ w * a = mul-le-mul_left w h in omega (arith, p, k)

below : (n t : ℕ) → nat_le n t ≡ false → t < n
below n t h = grind (arith, nat_tests)

commands_few : (fs : List Function) (g : ℕ) → length (commands_of (slice_get fs g)) ≤ commands_in fs
commands_few [] g = omega arith
commands_few (f ∷ fs) zero = omega arith
commands_few (f ∷ fs) (suc g) = omega (arith, commands_few fs g)

-- 1 or 0
near_one : (b : Bool) → (if b then 1 else 0) ≤ 1
near_one true = omega arith
near_one false = omega arith

near_most : (commands : List Command) (place : ℕ) → near_turn commands place ≤ 1
near_most commands place = near_one (is_turn_at commands place || (is_label_at commands place && is_turn_at commands (place + 1)))

-- a form that is no label and no turn
abbrev IsOther : Form → Type 0
IsOther f = (is_turn f ≡ false) × (is_some (label_of f) ≡ false)

far_from_turn : (commands : List Command) (place : ℕ) (c : Command) → slice_get commands place ≡ Some c → IsOther (form_of c) → near_turn commands place ≡ 0
far_from_turn commands place c is other = rw (is, other.0, other.1) refl

far_at_end : (commands : List Command) (place : ℕ) → slice_get commands place ≡ None → near_turn commands place ≡ 0
far_at_end commands place is = rw is refl

near_at_turn : (commands : List Command) (place : ℕ) → Stands commands place form.turn → near_turn commands place ≡ 1
near_at_turn commands place there = rw (there.here, there.is) refl

near_at_label : (commands : List Command) (place k : ℕ) → Stands commands place (form.label k) → Stands commands (place + 1) form.turn → near_turn commands place ≡ 1
near_at_label commands place k there turn = rw (there.here, there.is, turn.here, turn.is) refl

none_forgot : (l t x : Bool) → (if false || (l && t) then 1 else 0) ≤ (if t || x then 1 else 0)
none_forgot true true x = omega arith
none_forgot false true x = omega arith
none_forgot true false x = omega arith
none_forgot false false x = omega arith

-- after a command that is no turn, no turn is forgotten
none_forgotten : (commands : List Command) (place : ℕ) (c : Command) → slice_get commands place ≡ Some c → is_turn (form_of c) ≡ false → near_turn commands place ≤ near_turn commands (place + 1)
none_forgotten commands place c is t =
    rw (is, t)
    (none_forgot (is_some (label_of (form_of c))) (is_turn_at commands (place + 1)) (is_label_at commands (place + 1) && is_turn_at commands (place + 1 + 1)))

no_turn : (f : Form) (b : Bool) → is_turn f ≡ b → counts_turn f ≡ false → is_turn f ≡ false
no_turn f false e h = e
no_turn f true e h = let turn : f ≡ form.turn = a_turn f e in absurd (let same : counts_turn f ≡ true = rw turn refl in cc)

module _ (flat : Flat) (on : Setting) (n most : ℕ) (high : n ≤ most) where
  less_if : (bound : ℕ) (b : Bool) (x y : Next) → LeavesLess flat on n bound most x → LeavesLess flat on n bound most y → LeavesLess flat on n bound most (if b then x else y)
  less_if bound true x y h k = h
  less_if bound false x y h k = k

  less_ok : (bound : ℕ) (r : Result ℤ Act) (go : ℤ → Next) → ((z : ℤ) → LeavesLess flat on n bound most (go z)) → LeavesLess flat on n bound most (if_ok r go)
  less_ok bound (Ok z) go h = h z
  less_ok bound (Err a) go h = tt

  less_text : (bound : ℕ) (o : Option (List ℕ)) (go : List ℕ → Next) → ((bytes : List ℕ) → LeavesLess flat on n bound most (go bytes)) → LeavesLess flat on n bound most (if_text o go)
  less_text bound None go h = tt
  less_text bound (Some bytes) go h = h bytes

  module _ (frame : Frame) (callers : List Frame) where
    abbrev commands : List Command
    commands = code_of flat on frame.function

    abbrev bound_at : (turns : ℕ) → ℕ
    bound_at turns = left_in flat on n (running frame callers) turns

    abbrev left_at : (place turns : ℕ) → ℕ
    left_at place turns = left_in flat on n (running (record frame { next = place }) callers) turns

    -- further on in the function
    further : (place turns : ℕ) → frame.next < place → frame.next < length commands → near_turn commands frame.next ≤ near_turn commands place → left_at place turns < bound_at turns
    further place turns h k near =
        no_more (turn_weight flat) (turns_left flat on n turns - near_turn commands frame.next) (turns_left flat on n turns - near_turn commands place)
        (frames_left flat on (record frame { next = place } ∷ callers)) (frames_left flat on (frame ∷ callers)) (omega (arith, near)) (omega (arith, h, k))

    -- back to a label that a TURN follows
    back : (place turns : ℕ) → near_turn commands place ≡ 1 → near_turn commands frame.next ≡ 0 → left_at place turns < bound_at turns
    back place turns one none =
        turn_less (turn_weight flat) (turns_left flat on n turns - near_turn commands frame.next) (turns_left flat on n turns - near_turn commands place)
        (frames_left flat on (record frame { next = place } ∷ callers)) (frames_left flat on (frame ∷ callers)) (omega (arith, one, none))
        (omega (arith, commands_few flat.functions frame.function))

    -- a turn is counted, right after which a run goes on
    counted : (turns : ℕ) → turns < n → frame.next < length commands → left_at (frame.next + 1) (turns + 1) < bound_at turns
    counted turns h k =
        no_more (turn_weight flat) (turns_left flat on n turns - near_turn commands frame.next) (turns_left flat on n (turns + 1) - near_turn commands (frame.next + 1))
        (frames_left flat on (record frame { next = frame.next + 1 } ∷ callers)) (frames_left flat on (frame ∷ callers))
        (omega (arith, near_most commands frame.next, h)) (omega (arith, k))

    -- a function is called
    entered_less : (function at turns : ℕ) (into : Option ℕ) → turns < n → near_turn commands frame.next ≡ 0
        → left_in flat on n (running (record { function = function; next = 0; at = at; into = into }) (record frame { next = frame.next + 1 } ∷ callers)) (turns + 1) < bound_at turns
    entered_less function at turns into h none =
        turn_less (turn_weight flat) (turns_left flat on n turns - near_turn commands frame.next) (turns_left flat on n (turns + 1) - near_turn (code_of flat on function) 0)
        (frames_left flat on (record { function = function; next = 0; at = at; into = into } ∷ record frame { next = frame.next + 1 } ∷ callers)) (frames_left flat on (frame ∷ callers))
        (omega (arith, none, h)) (omega (arith, commands_few flat.functions function))

    -- back in the caller
    left_less : (caller : Frame) (more : List Frame) (turns : ℕ) → callers ≡ caller ∷ more → near_turn commands frame.next ≡ 0
        → left_in flat on n (running caller more) turns < bound_at turns
    left_less caller more turns e none =
        subst (λ (cs : List Frame). left_in flat on n (running caller more) turns < left_in flat on n (running frame cs) turns) (sym e)
        (no_more (turn_weight flat) (turns_left flat on n turns - near_turn commands frame.next) (turns_left flat on n turns - near_turn (code_of flat on caller.function) caller.next)
        (frames_left flat on (caller ∷ more)) (frames_left flat on (frame ∷ caller ∷ more)) (omega (arith, none)) (omega arith))

    returned_less : (cs : List Frame) (value : Option ℤ) (m : State) → m.turns ≤ most → callers ≡ cs → near_turn commands frame.next ≡ 0
        → LeavesLess flat on n (bound_at m.turns) most (returned flat on frame.into cs value m)
    returned_less [] value m few e none = few
    returned_less (caller ∷ more) value m few e none = (left_less caller more m.turns e none, few)

    module _ (m : State) (few : m.turns ≤ most) where
      abbrev bound : ℕ
      bound = bound_at m.turns

      less_place : (at ty : ℕ) (go : ℕ → Next) → LeavesLess flat on n bound most (go at) → LeavesLess flat on n bound most (if_place flat on frame callers at ty go)
      less_place at ty go h =
          less_if bound (is_place (parts_with flat on (frame ∷ callers)) (size_of flat on ty) (align_of flat on ty) at) (go at) (Traps act.Address) h tt

      less_address : (z : ℤ) (go : ℤ → Next) → LeavesLess flat on n bound most (go z) → LeavesLess flat on n bound most (if_address flat on frame callers z go)
      less_address z go h = less_if bound (is_address (parts_with flat on (frame ∷ callers)) z) (go z) (Traps act.Address) h tt

      branch_less : (b : Bool) (k : ℕ) → IsNearer flat on n bound most (onward flat on frame callers m) → IsNearer flat on n bound most (at_label flat on frame callers k m)
          → IsNearer flat on n bound most (if b then onward flat on frame callers m else at_label flat on frame callers k m)
      branch_less true k h j = h
      branch_less false k h j = j

      -- a jump
      jump_less : (k : ℕ) → near_turn commands frame.next ≡ 0 → frame.next < length commands → Leads commands frame.next k → IsNearer flat on n bound most (at_label flat on frame callers k m)
      jump_less k none within way =
          let label = label_at commands k way.to way.found in
          rw way.found (elim way.way [
            | inl later ↦ (further way.to m.turns later within (omega (arith, none)), few)
            | inr turn ↦ (back way.to m.turns (near_at_label commands way.to label.0 label.1 turn) none, few)
          ])

      -- a command that counts no turn and calls nothing
      module _ (less : IsNearer flat on n bound most (onward flat on frame callers m)) where
        less_subobject : (within : Within) (leaf v : ℕ) → LeavesLess flat on n bound most (subobject flat on frame callers within leaf m (λ z. Goes (becomes flat on frame callers v m z)))
        less_subobject (form.variable w) leaf v = less
        less_subobject (form.global g) leaf v = less
        less_subobject (form.pointee p) leaf v =
            less_address (variable_of flat on frame callers p m +ℤ pos (leaf_place flat on (pointee_in flat on frame callers p) leaf)) (λ z. Goes (becomes flat on frame callers v m z)) less

        less_placed : (v ty count : ℕ) (r : Result ℕ HeapFull) → LeavesLess flat on n bound most (placed flat on frame callers v ty count m r)
        less_placed v ty count (Ok at) = less
        less_placed v ty count (Err fault) = tt

        less_allocated : (v ty : ℕ) (count : ℤ) → LeavesLess flat on n bound most (allocated flat on frame callers v ty count m)
        less_allocated v ty count =
            less_if bound (int_lt count (pos 1) || int_lt (pos MOST_COUNT) count) (Traps act.Count)
            (placed flat on frame callers v ty (unsigned_abs count) m (place_or_full (heap_of flat on m) (unsigned_abs count * size_of flat on ty) (align_of flat on ty))) tt
            (less_placed v ty (unsigned_abs count) (place_or_full (heap_of flat on m) (unsigned_abs count * size_of flat on ty) (align_of flat on ty)))

        less_freed : (at : ℕ) → LeavesLess flat on n bound most (freed flat on frame callers at m)
        less_freed at =
            less_if bound (at == 0) (Goes (onward flat on frame callers m))
            (if begins at m.blocks then Goes (onward flat on frame callers (with_blocks m (without at m.blocks))) else Traps act.Free) less
            (less_if bound (begins at m.blocks) (Goes (onward flat on frame callers (with_blocks m (without at m.blocks)))) (Traps act.Free) less tt)

        does_less : (f : Form) → counts_turn f ≡ false → (is_some (label_of f) ≡ false → near_turn commands frame.next ≡ 0)
            → ((k : ℕ) → jump_of f ≡ Some k → is_some (label_of f) ≡ false → IsNearer flat on n bound most (at_label flat on frame callers k m)) → LeavesLess flat on n bound most (does flat on frame callers f m)
        does_less (form.move v o) h none g = less
        does_less (form.cast v w) h none g = less_ok bound (converted (kind_in flat on frame callers v) (widths_of on.layout) (variable_of flat on frame callers w m)) (λ z. Goes (becomes flat on frame callers v m z)) (λ z. less)
        does_less (form.operator op v a b) h none g =
            less_ok bound (applied op (kind_in flat on frame callers v) (widths_of on.layout) (operand_of flat on frame callers a m) (operand_of flat on frame callers b m)) (λ z. Goes (becomes flat on frame callers v m z)) (λ z. less)
        does_less (form.complement v o) h none g = less_ok bound (complemented (kind_in flat on frame callers v) (widths_of on.layout) (operand_of flat on frame callers o m)) (λ z. Goes (becomes flat on frame callers v m z)) (λ z. less)
        does_less (form.comparison c v a b) h none g = less
        does_less (form.subobject v within leaf) h none g = less_subobject within leaf v
        does_less (form.step way v p o) h none g = less_address (moved_by flat on frame callers p (forward way (operand_of flat on frame callers o m)) m) (λ z. Goes (becomes flat on frame callers v m z)) less
        does_less (form.difference v p q) h none g = less
        does_less (form.load v p) h none g =
            less_place (address_in flat on frame callers p m) (pointee_in flat on frame callers p)
            (λ at. Goes (becomes flat on frame callers v m (leaf_value on.layout flat.types m.memory at (pointee_in flat on frame callers p)))) less
        does_less (form.store p o) h none g =
            less_place (address_in flat on frame callers p m) (pointee_in flat on frame callers p)
            (λ at. Goes (onward flat on frame callers (with_memory m
            (with_leaf_value on.layout flat.types m.memory at (pointee_in flat on frame callers p) (operand_of flat on frame callers o m))))) less
        does_less (form.copy p q) h none g =
            less_place (address_in flat on frame callers p m) (pointee_in flat on frame callers p)
            (λ to. if_place flat on frame callers (address_in flat on frame callers q m) (pointee_in flat on frame callers p)
            (λ from. Goes (onward flat on frame callers (copied flat on frame callers (pointee_in flat on frame callers p) to from m))))
            (less_place (address_in flat on frame callers q m) (pointee_in flat on frame callers p)
            (λ from. Goes (onward flat on frame callers (copied flat on frame callers (pointee_in flat on frame callers p) (address_in flat on frame callers p m) from m))) less)
        does_less (form.kill v) h none g = less
        does_less (form.allocate zeros v o) h none g = less_allocated v (pointee_in flat on frame callers v) (operand_of flat on frame callers o m)
        does_less (form.free p) h none g = less_freed (address_in flat on frame callers p m)
        does_less (form.show how v o) h none g = less
        does_less (form.text v p) h none g =
            less_text bound
            (text_in (part m.memory (address_in flat on frame callers p m) (part_end (parts_with flat on (frame ∷ callers)) (address_in flat on frame callers p m) - address_in flat on frame callers p m)))
            (λ bytes. shows flat on frame callers v m bytes) (λ bytes. less)
        does_less (form.label k) h none g = less
        does_less (form.jump k) h none g = g k refl refl
        does_less (form.branch o k) h none g = branch_less (int_eq (operand_of flat on frame callers o m) (pos 0)) k less (g k refl refl)
        does_less form.turn h none g = absurd (cc)
        does_less (form.call r f os) h none g = absurd (cc)
        does_less (form.return o) h none g = returned_less callers (option_map (λ (o : Operand). operand_of flat on frame callers o m) o) m few refl (none refl)
        does_less form.checkpoint h none g = less
        does_less (form.restore vs) h none g = less
        does_less (form.table k l) h none g = less
        does_less (form.saved k l) h none g = less
        does_less (form.push vs) h none g = less

      -- a command that counts a turn
      turned_less : (f : Form) → counts_turn f ≡ true → m.turns < n → frame.next < length commands → (is_turn f ≡ false → is_some (label_of f) ≡ false → near_turn commands frame.next ≡ 0)
          → LeavesLess flat on n bound most (does flat on frame callers f m)
      turned_less form.turn h less within none = (counted m.turns less within, omega (arith, less, high))
      turned_less (form.call r g os) h less within none =
          let args : List ℤ = map (λ (o : Operand). operand_of flat on frame callers o m) os in
          less_if bound (nat_lt on.stack (used flat on (record frame { next = frame.next + 1 } ∷ callers) + frame_size on.layout flat g))
          (StackIsFull (frame_size on.layout flat g) (on.stack - used flat on (record frame { next = frame.next + 1 } ∷ callers)))
          (Goes (entered flat on g args r (onward flat on frame callers m))) tt
          (entered_less g (stack_end flat on (record frame { next = frame.next + 1 } ∷ callers)) m.turns r less (none refl refl), omega (arith, less, high))
      turned_less (form.move v o) h less within none = absurd (cc)
      turned_less (form.cast v w) h less within none = absurd (cc)
      turned_less (form.operator op v a b) h less within none = absurd (cc)
      turned_less (form.complement v o) h less within none = absurd (cc)
      turned_less (form.comparison c v a b) h less within none = absurd (cc)
      turned_less (form.subobject v within' leaf) h less within none = absurd (cc)
      turned_less (form.step way v p o) h less within none = absurd (cc)
      turned_less (form.difference v p q) h less within none = absurd (cc)
      turned_less (form.load v p) h less within none = absurd (cc)
      turned_less (form.store p o) h less within none = absurd (cc)
      turned_less (form.copy p q) h less within none = absurd (cc)
      turned_less (form.kill v) h less within none = absurd (cc)
      turned_less (form.allocate zeros v o) h less within none = absurd (cc)
      turned_less (form.free p) h less within none = absurd (cc)
      turned_less (form.show how v o) h less within none = absurd (cc)
      turned_less (form.text v p) h less within none = absurd (cc)
      turned_less (form.label k) h less within none = absurd (cc)
      turned_less (form.jump k) h less within none = absurd (cc)
      turned_less (form.branch o k) h less within none = absurd (cc)
      turned_less (form.return o) h less within none = absurd (cc)
      turned_less form.checkpoint h less within none = absurd (cc)
      turned_less (form.restore vs) h less within none = absurd (cc)
      turned_less (form.table k l) h less within none = absurd (cc)
      turned_less (form.saved k l) h less within none = absurd (cc)
      turned_less (form.push vs) h less within none = absurd (cc)

      module _ (c : Command) (is : slice_get commands frame.next ≡ Some c) where
        within : frame.next < length commands
        within = slice_get_within commands frame.next c is

        far : is_turn (form_of c) ≡ false → is_some (label_of (form_of c)) ≡ false → near_turn commands frame.next ≡ 0
        far t l = far_from_turn commands frame.next c is (t, l)

        command_less : (b : Bool) → counts_turn (form_of c) ≡ b → b && nat_le n m.turns ≡ false → JumpsWell commands → LeavesLess flat on n bound most (does flat on frame callers (form_of c) m)
        command_less true turns paused well = turned_less (form_of c) turns (below n m.turns paused) within far
        command_less false turns paused well =
            let none : is_turn (form_of c) ≡ false = no_turn (form_of c) (is_turn (form_of c)) refl turns in
            does_less (further (frame.next + 1) m.turns (omega arith) within (none_forgotten commands frame.next c is none), few) (form_of c) turns (λ l. far none l)
            (λ k j l. jump_less k (far none l) within (well frame.next c is k j))

      after_less : (o : Option Command) → slice_get commands frame.next ≡ o → counts o && nat_le n m.turns ≡ false → JumpsWell commands → LeavesLess flat on n bound most (after flat on frame callers o m)
      after_less None is paused well = returned_less callers None m few refl (far_at_end commands frame.next is)
      after_less (Some c) is paused well = command_less c is (counts_turn (form_of c)) refl paused well

  -- the call of main
  main_less : (function at turns : ℕ) → turns < n
      → left_in flat on n (running (record { function = function; next = 0; at = at; into = None }) []) (turns + 1) < left_in flat on n before turns
  main_less function at turns h =
      let less : turn_weight flat * (turns_left flat on n (turns + 1) - near_turn (code_of flat on function) 0) + frames_left flat on (record { function = function; next = 0; at = at; into = None } ∷ [])
      < turn_weight flat * turns_left flat on n turns + 0 =
      turn_less (turn_weight flat) (turns_left flat on n turns) (turns_left flat on n (turns + 1) - near_turn (code_of flat on function) 0)
      (frames_left flat on (record { function = function; next = 0; at = at; into = None } ∷ [])) 0 (omega (arith, h)) (omega (arith, commands_few flat.functions function)) in
      omega (arith, less)

  module _ (well : (function : ℕ) → JumpsWell (commands_of (slice_get flat.functions function))) where
    by_phase : (p : Phase) (m : State) → m.turns ≤ most → is_paused flat on n (with_phase m p) ≡ false
        → LeavesLess flat on n (left flat on n (with_phase m p)) most (next flat on (with_phase m p))
    by_phase before m few paused =
        let main : ℕ = unwrap_or (main_of flat) 0 in
        less_if (left flat on n (with_phase m before)) (nat_lt on.stack (used flat on [] + frame_size on.layout flat main))
        (StackIsFull (frame_size on.layout flat main) (on.stack - used flat on [])) (Goes (entered flat on main [] None (with_phase m before))) tt
        (main_less main (stack_end flat on []) m.turns (below n m.turns paused), let t : m.turns < n = below n m.turns paused in omega (arith, t, high))
    by_phase (running frame callers) m few paused =
        after_less frame callers (with_phase m (running frame callers)) few (slice_get (code_of flat on frame.function) frame.next) refl paused (well frame.function)
    by_phase over m few paused = few

pub come_nearer : StepsComeNearer
come_nearer s flat on n most m valid paused high few =
    by_phase flat on n most high (λ function. jumps_of s flat valid function (slice_get flat.functions function) refl) m.phase m few paused
