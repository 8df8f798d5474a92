-- Where the jumps of a valid program lead, by the lines that its commands stand in.
use Rattle.std.proofs.Common.{◌≡◌, ◌<◌, inl, inr, ℕ, zero, suc, ◌+◌, List, [], ◌∷◌, ◌++◌, length, get_or, refl, ◌∙◌, subst, arith, Option, Some, None, Bool, true, false}
use Rattle.std.specs.Prelude.{slice_get, nat_lt, ◌-◌, ◌&&◌, ◌||◌, ◌⊎◌, drop}
use Rattle.std.specs.List.{position_or_len}
use Rattle.std.proofs.lemmas.Option.{slice_get-get_or, cond_some}
use Rattle.std.proofs.lemmas.List.Sums.{passes_at_first}
use Rattle.std.proofs.lemmas.Bool.{ltb-true}
use Rattle.std.proofs.lemmas.Bool.Decides.{nat_tests}
use Rattle.porch_flat.specs.declared.whole.Command.{Command}
use Rattle.porch_flat.specs.declared.whole.Command.TheVariants as command
use Rattle.porch_flat.specs.declared.whole.Function.{Function}
use Rattle.porch_flat.specs.declared.whole.Flat.{Flat}
use Rattle.porch_flat.specs.declared.whole.Sort.{Sort}
use Rattle.porch_flat.specs.declared.whole.FlatRule.TheVariants as rule
use Rattle.porch_flat.specs.whole.Form as form
use Rattle.porch_flat.specs.whole.Form.{Form, form_of, label_of, jump_of, is_turn}
use Rattle.porch_flat.specs.whole.Lines.{command_line, function_line, begin_line, var_lines, command_lines, function_lines, type_lines, global_lines, lines_of, line_at}
use Rattle.porch_flat.specs.whole.Places.{is_number, place_of_label, commands_of}
use Rattle.porch_flat.specs.whole.Rewritten.{passes}
use Rattle.porch_flat.specs.whole.Rules.{IsValid, may_lead, leads_well, stands_once}

-- somewhere in a list
pub record IsIn {X : Type 0} (xs : List X) (x : X) : Type 0 where
  pub place : ℕ
  pub here : slice_get xs place ≡ Some x

later : {X : Type 0} (y : X) (xs : List X) (x : X) → IsIn xs x → IsIn (y ∷ xs) x
later y xs x h = record { place = suc h.place; here = h.here }

in_front : {X : Type 0} (xs ys : List X) (x : X) (i : ℕ) → slice_get xs i ≡ Some x → IsIn (xs ++ ys) x
in_front [] ys x i h = absurd (cc)
in_front (y ∷ xs) ys x zero h = record { place = 0; here = h }
in_front (y ∷ xs) ys x (suc i) h = later y (xs ++ ys) x (in_front xs ys x i h)

in_rest : {X : Type 0} (xs ys : List X) (x : X) → IsIn ys x → IsIn (xs ++ ys) x
in_rest [] ys x h = h
in_rest (y ∷ xs) ys x h = later y (xs ++ ys) x (in_rest xs ys x h)

front : {X : Type 0} (xs ys : List X) (x : X) → IsIn xs x → IsIn (xs ++ ys) x
front xs ys x h = in_front xs ys x h.place h.here

command_in : (f : Function) (at : ℕ) (commands : List Command) (i : ℕ) (c : Command) → slice_get commands i ≡ Some c
    → IsIn (command_lines f at commands) (command_line f (at + i) c)
command_in f at [] i c h = absurd (cc)
command_in f at (d ∷ commands) zero c h = let same : at + 0 ≡ at = omega arith in record { place = 0; here = rw same cc }
command_in f at (d ∷ commands) (suc i) c h =
    let same : at + suc i ≡ at + 1 + i = omega arith in
    rw same (later (command_line f at d) (command_lines f (at + 1) commands) (command_line f (at + 1 + i) c) (command_in f (at + 1) commands i c h))

function_in : (n : ℕ) (fs : List Function) (k : ℕ) (f : Function) (i : ℕ) (c : Command) → slice_get fs k ≡ Some f → slice_get f.commands i ≡ Some c
    → IsIn (function_lines n fs) (command_line f i c)
function_in n [] k f i c h g = absurd (cc)
function_in n (d ∷ fs) zero f i c h g =
    let same : d ≡ f = cc in
    rw same (later (function_line n f) _ (command_line f i c)
    (in_rest (var_lines f 0 f.vars) _ (command_line f i c)
    (later begin_line _ (command_line f i c)
    (front (command_lines f 0 f.commands) (function_lines (n + 1) fs) (command_line f i c) (let none : 0 + i ≡ i = omega arith in subst (λ j. IsIn (command_lines f 0 f.commands) (command_line f j c)) none (command_in f 0 f.commands i c g))))))
function_in n (d ∷ fs) (suc k) f i c h g =
    later (function_line n d) _ (command_line f i c)
    (in_rest (var_lines d 0 d.vars) _ (command_line f i c)
    (later begin_line _ (command_line f i c)
    (in_rest (command_lines d 0 d.commands) (function_lines (n + 1) fs) (command_line f i c) (function_in (n + 1) fs k f i c h g))))

-- a command stands in a line
pub in_a_line : (flat : Flat) (k : ℕ) (f : Function) (i : ℕ) (c : Command) → slice_get flat.functions k ≡ Some f → slice_get f.commands i ≡ Some c
    → IsIn (lines_of flat) (command_line f i c)
in_a_line flat k f i c h g =
    in_rest (type_lines 8 (drop 8 flat.types)) _ (command_line f i c)
    (in_rest (global_lines 0 flat.globals) (function_lines 0 flat.functions) (command_line f i c) (function_in 0 flat.functions k f i c h g))

-- a command that may be jumped to: a label
a_label : (m : ℕ) (f : Form) → is_number m (label_of f) ≡ true → (k : ℕ) × (f ≡ form.label k)
a_label m (form.move v o) h = absurd (cc)
a_label m (form.cast v w) h = absurd (cc)
a_label m (form.operator op v a b) h = absurd (cc)
a_label m (form.complement v o) h = absurd (cc)
a_label m (form.comparison c v a b) h = absurd (cc)
a_label m (form.subobject v within leaf) h = absurd (cc)
a_label m (form.step way v p o) h = absurd (cc)
a_label m (form.difference v p q) h = absurd (cc)
a_label m (form.load v p) h = absurd (cc)
a_label m (form.store p o) h = absurd (cc)
a_label m (form.copy p q) h = absurd (cc)
a_label m (form.kill v) h = absurd (cc)
a_label m (form.allocate zeros v o) h = absurd (cc)
a_label m (form.free p) h = absurd (cc)
a_label m (form.show how v o) h = absurd (cc)
a_label m (form.text v p) h = absurd (cc)
a_label m (form.label k) h = (k, refl)
a_label m (form.jump n) h = absurd (cc)
a_label m (form.branch o n) h = absurd (cc)
a_label m form.turn h = absurd (cc)
a_label m (form.call r f os) h = absurd (cc)
a_label m (form.return o) h = absurd (cc)
a_label m form.checkpoint h = absurd (cc)
a_label m (form.restore vs) h = absurd (cc)
a_label m (form.table k n) h = absurd (cc)
a_label m (form.saved k n) h = absurd (cc)
a_label m (form.push vs) h = absurd (cc)

pub a_turn : (f : Form) → is_turn f ≡ true → f ≡ form.turn
a_turn (form.move v o) h = absurd (cc)
a_turn (form.cast v w) h = absurd (cc)
a_turn (form.operator op v a b) h = absurd (cc)
a_turn (form.complement v o) h = absurd (cc)
a_turn (form.comparison c v a b) h = absurd (cc)
a_turn (form.subobject v within leaf) h = absurd (cc)
a_turn (form.step way v p o) h = absurd (cc)
a_turn (form.difference v p q) h = absurd (cc)
a_turn (form.load v p) h = absurd (cc)
a_turn (form.store p o) h = absurd (cc)
a_turn (form.copy p q) h = absurd (cc)
a_turn (form.kill v) h = absurd (cc)
a_turn (form.allocate zeros v o) h = absurd (cc)
a_turn (form.free p) h = absurd (cc)
a_turn (form.show how v o) h = absurd (cc)
a_turn (form.text v p) h = absurd (cc)
a_turn (form.label k) h = absurd (cc)
a_turn (form.jump n) h = absurd (cc)
a_turn (form.branch o n) h = absurd (cc)
a_turn form.turn h = refl
a_turn (form.call r f os) h = absurd (cc)
a_turn (form.return o) h = absurd (cc)
a_turn form.checkpoint h = absurd (cc)
a_turn (form.restore vs) h = absurd (cc)
a_turn (form.table k n) h = absurd (cc)
a_turn (form.saved k n) h = absurd (cc)
a_turn (form.push vs) h = absurd (cc)

-- a command of a form stands at a place
pub record Stands (commands : List Command) (place : ℕ) (f : Form) : Type 0 where
  pub command : Command
  pub here : slice_get commands place ≡ Some command
  pub is : form_of command ≡ f

-- a label stands where it is found
pub label_at : (commands : List Command) (m to : ℕ) → place_of_label commands m ≡ Some to → (k : ℕ) × Stands commands to (form.label k)
label_at commands m to h =
    let test : Command → Bool = λ c. is_number m (label_of (form_of c)) in
    let p = cond_some (nat_lt (position_or_len test commands) (length commands)) (position_or_len test commands) to h in
    let l : position_or_len test commands < length commands = ltb-true _ _ p.0 in
    let there : Command = get_or commands (position_or_len test commands) command.Turn in
    let k = a_label m (form_of there) (passes_at_first test commands command.Turn l) in
    subst (λ (q : ℕ). (k : ℕ) × Stands commands q (form.label k)) p.1
    (k.0, record { command = there; here = slice_get-get_or commands (position_or_len test commands) command.Turn l; is = k.1 })

-- a jump from a place leads forward, or to a label that a turn follows
pub record Leads (commands : List Command) (from n : ℕ) : Type 0 where
  pub to : ℕ
  pub found : place_of_label commands n ≡ Some to
  pub way : (from < to) ⊎ Stands commands (to + 1) form.turn

passed : (o : Option Command) (test : Command → Bool) → passes test o ≡ true → (c : Command) × (o ≡ Some c) × (test c ≡ true)
passed None test h = absurd (cc)
passed (Some c) test h = (c, refl, h)

a_way : (commands : List Command) (from to : ℕ) (b : Bool) → nat_lt from to ≡ b → b || passes (λ c. is_turn (form_of c)) (slice_get commands (to + 1)) ≡ true
    → (from < to) ⊎ Stands commands (to + 1) form.turn
a_way commands from to true is h = inl (ltb-true _ _ is)
a_way commands from to false is h =
    let p = passed (slice_get commands (to + 1)) (λ c. is_turn (form_of c)) h in
    inr (record { command = p.0; here = p.1; is = a_turn (form_of p.0) p.2 })

pub leads : (f : Function) (from n : ℕ) (o : Option ℕ) → place_of_label f.commands n ≡ o → may_lead f from o ≡ true → Leads f.commands from n
leads f from n None is h = absurd (cc)
leads f from n (Some to) is h = record { to = to; found = is; way = a_way f.commands from to (nat_lt from to) refl h }

below_head : (p : ℕ) → nat_lt (p + 3) 3 ≡ false
below_head p = grind (arith, nat_tests)

-- the lines behind the head
line_of : (flat : Flat) (p : ℕ) → line_at flat (p + 3) ≡ slice_get (lines_of flat) p
line_of flat p = let same : p + 3 - 3 ≡ p = omega arith in rw (below_head p, same) refl

both_true : (a b : Bool) → a && b ≡ true → a ≡ true
both_true true b h = refl
both_true false b h = absurd (cc)

-- each jump of a valid program leads where it may
pub leads_in : (s : Sort) (flat : Flat) → IsValid s flat → (k : ℕ) (f : Function) (i : ℕ) (c : Command) → slice_get flat.functions k ≡ Some f → slice_get f.commands i ≡ Some c
    → leads_well f i (jump_of (form_of c)) ≡ true
leads_in s flat valid k f i c h g =
    let at = in_a_line flat k f i c h g in
    both_true (leads_well f i (jump_of (form_of c))) (stands_once f i (form_of c))
    (valid.lines (at.place + 3) (command_line f i c) rule.Jump (line_of flat at.place ∙ at.here))

-- each jump of a function leads where it may
abbrev pub JumpsWell : List Command → Type 0
JumpsWell commands = (i : ℕ) (c : Command) → slice_get commands i ≡ Some c → (k : ℕ) → jump_of (form_of c) ≡ Some k → Leads commands i k

-- the jumps of each function of a valid program
pub jumps_of : (s : Sort) (flat : Flat) → IsValid s flat → (function : ℕ) (o : Option Function) → slice_get flat.functions function ≡ o → JumpsWell (commands_of o)
jumps_of s flat valid function None is i c h k g = absurd (cc)
jumps_of s flat valid function (Some f) is i c h k g =
    let well = leads_in s flat valid function f i c is h in
    leads f i k (place_of_label f.commands k) refl (subst (λ o. leads_well f i o ≡ true) g well)
