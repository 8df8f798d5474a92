-- The flat program of a tree is valid.
use Rattle.std.proofs.Common.{◌≡◌, ℕ, ◌+◌, ◌^◌, ◌<◌, ◌≤◌, List, [], ◌∷◌, ◌++◌, length, Option, Some, None, Bool, true, false, pos, refl, arith, length-append}
use Rattle.std.specs.Prelude.{slice_get}
use Rattle.std.proofs.lemmas.List.{length-replicate}
use Rattle.std.proofs.lemmas.List.Elements.{All-replicate}
use Rattle.porch_syntax.specs.declared.tree.Sign.{Sign}
use Rattle.porch_syntax.specs.declared.tree.Sign.TheVariants.{Plus, Minus}
use Rattle.porch_syntax.specs.Tree.{Node, variable, whole, character, nested, product, sum, less, Nodes, no_nodes, node, Terms, no_terms, term, Action, assign, repeat, putchar, give, Actions, no_actions, action, Program}
use Rattle.porch_flat.specs.declared.flat.Operand.{Operand}
use Rattle.porch_flat.specs.declared.flat.Operand.TheVariants.{Var, Constant}
use Rattle.porch_flat.specs.declared.flat.Command.{Command}
use Rattle.porch_flat.specs.declared.flat.Command.TheVariants as command
use Rattle.porch_flat.specs.declared.flat.Function.{Function}
use Rattle.porch_flat.specs.declared.flat.Flat.{Flat}
use Rattle.porch_flat.specs.declared.valid.ValidFault.{ValidFault}
use Rattle.porch_flat.specs.declared.valid.ValidFault.TheVariants.{NotValid, NoMemory}
use Rattle.porch_flat.specs.Places.{place_of_label}
use Rattle.porch_flat.specs.Valid.{int_type, IsOperand, HasParts, IsValid, IsRefused}
use Rattle.porch_lower.specs.Code.{atom_of, is_atom, operand_in, commands_or, left_operand, left_commands, by_sign, factor_place, term_place, into_code, factors_code, terms_code, operand_code, action_code, actions_code, declarations_code, main_code, temps_of, factors_temps, terms_temps, action_temps, actions_temps, declarations_temps, main_temps}
use Rattle.porch_lower.specs.inside.Programs.{main_function, flat_of}
use Rattle.porch_lower.specs.Lowered.{IsFit, FactorsFit, TermsFit, ActionFits, ActionsFit, DeclarationsFit, IsLowerable}
use Rattle.porch_lower.proofs.Marks.{Each, each_joined, each_at, IsGood, IsBlock, straight_block, block_joined}
use Rattle.porch_lower.proofs.Turns.{loop_block}

-- parts that are left out where an operand is an atom
some_left : (P : Command → Type 0) (o : Option Operand) (cs : List Command) → Each P cs → Each P (commands_or o cs)
some_left P None cs h = h
some_left P (Some o) cs h = tt

left_left : (P : Command → Type 0) (b : Bool) (o : Option Operand) (cs : List Command) → Each P cs → Each P (left_commands b o cs)
left_left P true o cs h = some_left P o cs h
left_left P false o cs h = h

operand_fits : (f : Function) (m : ℕ) (e : Node) (v : ℕ) → IsFit m e → m ≤ length f.vars → v < length f.vars → IsOperand f (operand_in e v)
operand_fits f m (variable x) v h le lt = omega (arith, h, le)
operand_fits f m (whole z) v h le lt = h
operand_fits f m (character c) v h le lt = h
operand_fits f m (nested e) v h le lt = operand_fits f m e v h le lt
operand_fits f m (product e es) v h le lt = lt
operand_fits f m (sum e ts) v h le lt = lt
operand_fits f m (less a b) v h le lt = lt

left_fits : (f : Function) (m : ℕ) (b : Bool) (e : Node) (v : ℕ) → IsFit m e → m ≤ length f.vars → v < length f.vars → IsOperand f (left_operand b (atom_of e) v)
left_fits f m true e v h le lt = operand_fits f m e v h le lt
left_fits f m false e v h le lt = lt

factor_small : (fs : Nodes) (d t most : ℕ) → d < most → t < most → factor_place fs d t < most
factor_small no_nodes d t most h k = h
factor_small (node e es) d t most h k = k

term_small : (ts : Terms) (d t most : ℕ) → d < most → t < most → term_place ts d t < most
term_small no_terms d t most h k = h
term_small (term s e ts) d t most h k = k

sign_good : (f : Function) (s : Sign) (v : ℕ) (a b : Operand) → v < length f.vars → IsOperand f a → IsOperand f b → IsGood f (by_sign s v a b)
sign_good f Plus v a b h k l = ((h, k, l), tt)
sign_good f Minus v a b h k l = ((h, k, l), tt)

mutual
  into_good : (f : Function) (m : ℕ) (e : Node) (d t : ℕ) → IsFit m e → m ≤ length f.vars → d < length f.vars → t + temps_of e ≤ length f.vars → Each (IsGood f) (into_code e d t)
  into_good f m (variable x) d t h le lt few = (((lt, omega (arith, h, le)), tt), tt)
  into_good f m (whole z) d t h le lt few = (((lt, h), tt), tt)
  into_good f m (character c) d t h le lt few = (((lt, h), tt), tt)
  into_good f m (nested e) d t h le lt few = into_good f m e d t h le lt few
  into_good f m (product e no_nodes) d t h le lt few = into_good f m e d t h.0 le lt few
  into_good f m (product e (node g gs)) d t h le lt few =
      let one : t < length f.vars = omega (arith, few) in
      let two : t + 1 < length f.vars = omega (arith, few) in
      each_joined (IsGood f) (left_commands (is_atom g) (atom_of e) (into_code e t (t + 2))) (commands_or (atom_of g) (into_code g (t + 1) (t + 2)) ++ command.Mul (factor_place gs d t) (left_operand (is_atom g) (atom_of e) t) (operand_in g (t + 1)) ∷ factors_code gs d t)
      (left_left (IsGood f) (is_atom g) (atom_of e) (into_code e t (t + 2)) (into_good f m e t (t + 2) h.0 le one (omega (arith, few))))
      (each_joined (IsGood f) (commands_or (atom_of g) (into_code g (t + 1) (t + 2))) (command.Mul (factor_place gs d t) (left_operand (is_atom g) (atom_of e) t) (operand_in g (t + 1)) ∷ factors_code gs d t)
      (some_left (IsGood f) (atom_of g) (into_code g (t + 1) (t + 2)) (into_good f m g (t + 1) (t + 2) h.1.0 le two (omega (arith, few))))
      (((factor_small gs d t (length f.vars) lt one, left_fits f m (is_atom g) e t h.0 le one, operand_fits f m g (t + 1) h.1.0 le two), tt), factors_good f m gs d t h.1.1 le lt (omega (arith, few)) two))
  into_good f m (sum e no_terms) d t h le lt few = into_good f m e d t h.0 le lt few
  into_good f m (sum e (term s g gs)) d t h le lt few =
      let one : t < length f.vars = omega (arith, few) in
      let two : t + 1 < length f.vars = omega (arith, few) in
      each_joined (IsGood f) (left_commands (is_atom g) (atom_of e) (into_code e t (t + 2))) (commands_or (atom_of g) (into_code g (t + 1) (t + 2)) ++ by_sign s (term_place gs d t) (left_operand (is_atom g) (atom_of e) t) (operand_in g (t + 1)) ∷ terms_code gs d t)
      (left_left (IsGood f) (is_atom g) (atom_of e) (into_code e t (t + 2)) (into_good f m e t (t + 2) h.0 le one (omega (arith, few))))
      (each_joined (IsGood f) (commands_or (atom_of g) (into_code g (t + 1) (t + 2))) (by_sign s (term_place gs d t) (left_operand (is_atom g) (atom_of e) t) (operand_in g (t + 1)) ∷ terms_code gs d t)
      (some_left (IsGood f) (atom_of g) (into_code g (t + 1) (t + 2)) (into_good f m g (t + 1) (t + 2) h.1.0 le two (omega (arith, few))))
      (sign_good f s (term_place gs d t) (left_operand (is_atom g) (atom_of e) t) (operand_in g (t + 1)) (term_small gs d t (length f.vars) lt one) (left_fits f m (is_atom g) e t h.0 le one) (operand_fits f m g (t + 1) h.1.0 le two), terms_good f m gs d t h.1.1 le lt (omega (arith, few)) two))
  into_good f m (less a b) d t h le lt few =
      let one : t < length f.vars = omega (arith, few) in
      let two : t + 1 < length f.vars = omega (arith, few) in
      each_joined (IsGood f) (left_commands (is_atom b) (atom_of a) (into_code a t (t + 2))) (commands_or (atom_of b) (into_code b (t + 1) (t + 2)) ++ command.Lt d (left_operand (is_atom b) (atom_of a) t) (operand_in b (t + 1)) ∷ [])
      (left_left (IsGood f) (is_atom b) (atom_of a) (into_code a t (t + 2)) (into_good f m a t (t + 2) h.0 le one (omega (arith, few))))
      (each_joined (IsGood f) (commands_or (atom_of b) (into_code b (t + 1) (t + 2))) (command.Lt d (left_operand (is_atom b) (atom_of a) t) (operand_in b (t + 1)) ∷ [])
      (some_left (IsGood f) (atom_of b) (into_code b (t + 1) (t + 2)) (into_good f m b (t + 1) (t + 2) h.1 le two (omega (arith, few))))
      (((lt, left_fits f m (is_atom b) a t h.0 le one, operand_fits f m b (t + 1) h.1 le two), tt), tt))

  factors_good : (f : Function) (m : ℕ) (fs : Nodes) (d t : ℕ) → FactorsFit m fs → m ≤ length f.vars → d < length f.vars → t + 2 + factors_temps fs ≤ length f.vars → t + 1 < length f.vars → Each (IsGood f) (factors_code fs d t)
  factors_good f m no_nodes d t h le lt few two = tt
  factors_good f m (node g gs) d t h le lt few two =
      let one : t < length f.vars = omega (arith, two) in
      each_joined (IsGood f) (commands_or (atom_of g) (into_code g (t + 1) (t + 2))) (command.Mul (factor_place gs d t) (Var t) (operand_in g (t + 1)) ∷ factors_code gs d t)
      (some_left (IsGood f) (atom_of g) (into_code g (t + 1) (t + 2)) (into_good f m g (t + 1) (t + 2) h.0 le two (omega (arith, few))))
      (((factor_small gs d t (length f.vars) lt one, one, operand_fits f m g (t + 1) h.0 le two), tt), factors_good f m gs d t h.1 le lt (omega (arith, few)) two)

  terms_good : (f : Function) (m : ℕ) (ts : Terms) (d t : ℕ) → TermsFit m ts → m ≤ length f.vars → d < length f.vars → t + 2 + terms_temps ts ≤ length f.vars → t + 1 < length f.vars → Each (IsGood f) (terms_code ts d t)
  terms_good f m no_terms d t h le lt few two = tt
  terms_good f m (term s g gs) d t h le lt few two =
      let one : t < length f.vars = omega (arith, two) in
      each_joined (IsGood f) (commands_or (atom_of g) (into_code g (t + 1) (t + 2))) (by_sign s (term_place gs d t) (Var t) (operand_in g (t + 1)) ∷ terms_code gs d t)
      (some_left (IsGood f) (atom_of g) (into_code g (t + 1) (t + 2)) (into_good f m g (t + 1) (t + 2) h.0 le two (omega (arith, few))))
      (sign_good f s (term_place gs d t) (Var t) (operand_in g (t + 1)) (term_small gs d t (length f.vars) lt one) one (operand_fits f m g (t + 1) h.0 le two), terms_good f m gs d t h.1 le lt (omega (arith, few)) two)

operand_good : (f : Function) (m : ℕ) (e : Node) → IsFit m e → m + (temps_of e + 1) ≤ length f.vars → Each (IsGood f) (operand_code e m)
operand_good f m e h few = some_left (IsGood f) (atom_of e) (into_code e m (m + 1)) (into_good f m e m (m + 1) h (omega (arith, few)) (omega (arith, few)) (omega (arith, few)))

mutual
  action_block : (f : Function) (m p : ℕ) (a : Action) → ActionFits m a → m ≤ length f.vars → m + action_temps a ≤ length f.vars → p + length (action_code m p a) < 2 ^ 30 → IsBlock f p (action_code m p a)
  action_block f m p (assign x e) h le few short = straight_block f p (into_code e x m) (into_good f m e x m h.1 le (omega (arith, h.0, le)) few)
  action_block f m p (repeat e body) h le few short =
      let long = simp length-append at short in
      loop_block p f (actions_code m (p + 3) body) (operand_code e m) (operand_in e m)
      (actions_block f m (p + 3) body h.1 le (omega (arith, few)) (omega (arith, long)))
      (operand_good f m e h.0 (omega (arith, few))) (operand_fits f m e m h.0 le (omega (arith, few))) (omega (arith, short))
  action_block f m p (putchar e) h le few short =
      straight_block f p (operand_code e m ++ command.Char m (operand_in e m) ∷ []) (each_joined (IsGood f) (operand_code e m) (command.Char m (operand_in e m) ∷ []) (operand_good f m e h few)
      (((omega (arith, few), operand_fits f m e m h le (omega (arith, few))), tt), tt))
  action_block f m p (give e) h le few short =
      straight_block f p (operand_code e m ++ command.Return (Some (operand_in e m)) ∷ []) (each_joined (IsGood f) (operand_code e m) (command.Return (Some (operand_in e m)) ∷ []) (operand_good f m e h few)
      ((operand_fits f m e m h le (omega (arith, few)), tt), tt))

  actions_block : (f : Function) (m p : ℕ) (as' : Actions) → ActionsFit m as' → m ≤ length f.vars → m + actions_temps as' ≤ length f.vars → p + length (actions_code m p as') < 2 ^ 30 → IsBlock f p (actions_code m p as')
  actions_block f m p no_actions h le few short = straight_block f p [] tt
  actions_block f m p (action a more) h le few short =
      let both = simp length-append at short in
      block_joined f p (p + length (action_code m p a)) (action_code m p a) (actions_code m (p + length (action_code m p a)) more)
      (action_block f m p a h.0 le (omega (arith, few)) (omega (arith, both))) refl
      (actions_block f m (p + length (action_code m p a)) more h.1 le (omega (arith, few)) (omega (arith, both)))

declarations_good : (f : Function) (m x : ℕ) (ds : List (Option Node)) → DeclarationsFit m ds → m ≤ length f.vars → x + length ds ≤ m → m + declarations_temps ds ≤ length f.vars → Each (IsGood f) (declarations_code m x ds)
declarations_good f m x [] h le lt few = tt
declarations_good f m x (None ∷ ds) h le lt few = declarations_good f m (x + 1) ds h le (omega (arith, lt)) few
declarations_good f m x ((Some e) ∷ ds) h le lt few =
    each_joined (IsGood f) (into_code e x m) (declarations_code m (x + 1) ds)
    (into_good f m e x m h.0 le (omega (arith, lt, le)) (omega (arith, few)))
    (declarations_good f m (x + 1) ds h.1 le (omega (arith, lt)) (omega (arith, few)))

main_block : (p : Program) → IsLowerable p → IsBlock (main_function p) 0 (main_code p)
main_block p l =
    let f = main_function p in
    let m = length p.declarations in
    let front = declarations_code m 0 p.declarations in
    let acts = actions_code m (length front) p.actions in
    let last = command.Return (Some (Constant (pos 0))) ∷ [] in
    let room : length f.vars ≡ m + main_temps p = length-replicate (m + main_temps p) int_type in
    let short = simp length-append at l.short in
    block_joined f 0 (length front) front (acts ++ last)
    (straight_block f 0 front (declarations_good f m 0 p.declarations l.declared (omega (arith, room)) (omega arith) (omega (arith, room)))) (omega arith)
    (block_joined f (length front) (length front + length acts) acts last
    (actions_block f m (length front) p.actions l.stated (omega (arith, room)) (omega (arith, room)) (omega (arith, short))) refl
    (straight_block f (length front + length acts) last ((refl, tt), tt)))

-- each label stands where it is looked for
pub labels_stand : (p : Program) → IsLowerable p → (at n : ℕ) → slice_get (main_code p) at ≡ Some (command.Label n) → place_of_label (main_code p) n ≡ Some at
labels_stand p l at n h = (main_block p l).well.at at (command.Label n) h

pub valid : (p : Program) → IsLowerable p → IsValid (flat_of p)
valid p l =
    let b = main_block p l in
    let room : length (main_function p).vars ≡ length p.declarations + main_temps p = length-replicate (length p.declarations + main_temps p) int_type in
    record {
      types_are = refl;
      globals_are = refl;
      main = main_function p;
      only = refl;
      good = record {
        named = refl;
        result_is = refl;
        params_are = refl;
        ints = All-replicate (λ ty. ty ≡ int_type) (length p.declarations + main_temps p) int_type refl;
        function = record {
          few = omega (arith, room, l.few);
          parts = λ at c h. each_at (HasParts (main_function p)) (main_code p) at c b.parts h;
          jumps = λ at c h. b.well.at at c h;
        };
      };
    }

-- the fault of a valid program
pub only_memory : (flat : Flat) (fault : ValidFault) → IsValid flat → IsRefused flat fault → fault ≡ NoMemory
only_memory flat NotValid v h = absurd (h v)
only_memory flat NoMemory v h = refl
