-- Runs through the parts of an expression's code.
use Rattle.std.proofs.Common.{◌≡◌, ◌≢◌, ◌≤◌, ◌<◌, ◌+◌, ◌++◌, ◌⊎◌, inl, inr, ℕ, ℤ, pos, List, [], ◌∷◌, length, Bool, true, false, refl, sym, ap, subst, ◌∙◌, arith, add-zero}
use Rattle.std.proofs.Math.ListN.{set}
use Rattle.std.proofs.lemmas.List.{length-set}
use Rattle.std.specs.Prelude.{slice_get, is_some, Some, None, Result, Ok, Err}
use Rattle.std.specs.declared.option.Option.{Option}
use Rattle.porch_syntax.specs.Tree.{Node, variable, whole, character, nested, product, sum, less}
use Rattle.porch_values.specs.declared.acts.Act.{Act}
use Rattle.porch_objects.specs.Meaning.{Environment, Met}
use Rattle.porch_flat.specs.declared.flat.Operand.{Operand}
use Rattle.porch_flat.specs.declared.flat.Operand.TheVariants.{Var, Constant}
use Rattle.porch_flat.specs.declared.flat.Command.{Command}
use Rattle.porch_flat.specs.declared.flat.Function.{Function}
use Rattle.porch_abstract.specs.Machine.{State, Next, Goes, next}
use Rattle.porch_flat.specs.Parts.{counts}
use Rattle.porch_abstract.specs.Run.{is_paused}
use Rattle.porch_lower.specs.Code.{atom_of, is_atom, operand_or, operand_in, commands_or, left_operand, left_commands, into_code}
use Rattle.porch_lower.specs.Lowered.{IsFit}
use Rattle.porch_lower.proofs.SameCells.{Cell, read_of, reads, with_value, value_of, slice_get-set_same, slice_get-set_other}
use Rattle.porch_lower.proofs.StepsRun.{GoesOn, EndsWith, stays, chain, comes, step_goes, step_meets}
use Rattle.porch_lower.proofs.StepsAt.{program_of, at, by_read, does, next_is}

-- these commands stand from this place on
abbrev pub Stands : List Command → ℕ → List Command → Type 0
Stands code p [] = Unit {0}
Stands code p (c ∷ cs) = (slice_get code p ≡ Some c) × Stands code (p + 1) cs

pub front : (code : List Command) (p : ℕ) (xs ys : List Command) → Stands code p (xs ++ ys) → Stands code p xs
front code p [] ys s = tt
front code p (x ∷ xs) ys s = (s.0, front code (p + 1) xs ys s.1)

pub back : (code : List Command) (p : ℕ) (xs ys : List Command) → Stands code p (xs ++ ys) → Stands code (p + length xs) ys
back code p [] ys s = rw add-zero s
back code p (x ∷ xs) ys s = subst (λ q. Stands code q ys) (omega arith) (back code (p + 1) xs ys s.1)

-- the cells have the variables of the source in front
pub record Agrees (us cells : List Cell) : Type 0 where
  pub same : (x : ℕ) → x < length us → slice_get us x ≡ slice_get cells x

-- the cells below a number are as they were
pub record Kept (b : ℕ) (cells cells' : List Cell) : Type 0 where
  pub same_length : length cells' ≡ length cells
  pub kept : (x : ℕ) → x < b → slice_get cells' x ≡ slice_get cells x

-- and a number was written
pub record Written (b d : ℕ) (z : ℤ) (cells cells' : List Cell) : Type 0 where
  pub same_length : length cells' ≡ length cells
  pub kept : (x : ℕ) → x < b → x ≢ d → slice_get cells' x ≡ slice_get cells x
  pub holds : slice_get cells' d ≡ Some (Some z)

pub kept-refl : (b : ℕ) (cells : List Cell) → Kept b cells cells
kept-refl b cells = record { same_length = refl; kept = λ x h. refl }

pub kept-trans : (b : ℕ) (xs ys zs : List Cell) → Kept b xs ys → Kept b ys zs → Kept b xs zs
kept-trans b xs ys zs f g = record { same_length = g.same_length ∙ f.same_length; kept = λ x h. g.kept x h ∙ f.kept x h }

pub kept-less : (b c : ℕ) (xs ys : List Cell) → c ≤ b → Kept b xs ys → Kept c xs ys
kept-less b c xs ys le f = record { same_length = f.same_length; kept = λ x h. f.kept x (omega arith) }

-- a write at d or above keeps what is below
pub kept-written : (b c d : ℕ) (z : ℤ) (xs ys : List Cell) → c ≤ b → c ≤ d → Written b d z xs ys → Kept c xs ys
kept-written b c d z xs ys le above f = record { same_length = f.same_length; kept = λ x h. f.kept x (omega arith) (λ e. absurd (omega arith)) }

pub kept-set : (b v : ℕ) (c : Cell) (cells : List Cell) → b ≤ v → Kept b cells (set cells v c)
kept-set b v c cells le = record { same_length = length-set cells v c; kept = λ x h. slice_get-set_other cells v x c (λ e. absurd (omega arith)) }

pub written-set : (b d : ℕ) (z : ℤ) (cells cells' : List Cell) → d < length cells' → Kept b cells cells' → Written b d z cells (set cells' d (Some z))
written-set b d z cells cells' h k = record {
  same_length = length-set cells' d (Some z) ∙ k.same_length;
  kept = λ x below other. slice_get-set_other cells' d x (Some z) other ∙ k.kept x below;
  holds = slice_get-set_same cells' d (Some z) h;
}

pub written-after : (b d : ℕ) (z : ℤ) (xs ys zs : List Cell) → Kept b xs ys → Written b d z ys zs → Written b d z xs zs
written-after b d z xs ys zs k w = record { same_length = w.same_length ∙ k.same_length; kept = λ x below other. w.kept x below other ∙ k.kept x below; holds = w.holds }

pub agrees-kept : (us xs ys : List Cell) (b : ℕ) → length us ≤ b → Agrees us xs → Kept b xs ys → Agrees us ys
agrees-kept us xs ys b le a k = record { same = λ x h. a.same x h ∙ sym (k.kept x (omega arith)) }

-- an operand that writes from b on leave
abbrev pub IsLow : ℕ → Operand → Type 0
IsLow b (Var v) = v < b
IsLow b (Constant z) = Unit {0}

pub reads-kept : (b : ℕ) (o : Operand) (xs ys : List Cell) → IsLow b o → Kept b xs ys → reads ys o ≡ reads xs o
reads-kept b (Var v) xs ys low k = ap read_of (k.kept v low)
reads-kept b (Constant z) xs ys low k = refl

-- an atom is read as its value
pub atom-reads : (us cells : List Cell) (e : Node) (o : Operand) → Agrees us cells → IsFit (length us) e → atom_of e ≡ Some o → reads cells o ≡ value_of us e
atom-reads us cells (variable x) o a fit h = let e : Var x ≡ o = cc in rw (← e) (ap read_of (sym (a.same x fit)))
atom-reads us cells (whole z) o a fit h = let e : Constant z ≡ o = cc in rw (← e) refl
atom-reads us cells (character c) o a fit h = let e : Constant (pos c) ≡ o = cc in rw (← e) refl
atom-reads us cells (nested e) o a fit h = atom-reads us cells e o a fit h
atom-reads us cells (product e es) o a fit h = cc
atom-reads us cells (sum e ts) o a fit h = cc
atom-reads us cells (less x y) o a fit h = cc

pub atom-low : (m b : ℕ) (e : Node) (o : Operand) → m ≤ b → IsFit m e → atom_of e ≡ Some o → IsLow b o
atom-low m b (variable x) o le fit h = let e : Var x ≡ o = cc in rw (← e) (omega arith)
atom-low m b (whole z) o le fit h = let e : Constant z ≡ o = cc in rw (← e) tt
atom-low m b (character c) o le fit h = let e : Constant (pos c) ≡ o = cc in rw (← e) tt
atom-low m b (nested e) o le fit h = atom-low m b e o le fit h
atom-low m b (product e es) o le fit h = cc
atom-low m b (sum e ts) o le fit h = cc
atom-low m b (less x y) o le fit h = cc

-- values in a row
pub joined : (r s : Result ℤ Act) (go : ℤ → ℤ → Result ℤ Act) (more : ℤ → Result ℤ Act)
    → with_value (with_value r (λ x. with_value s (λ y. go x y))) more ≡ with_value r (λ x. with_value s (λ y. with_value (go x y) more))
joined (Ok x) (Ok y) go more = refl
joined (Ok x) (Err b) go more = refl
joined (Err a) s go more = refl

pub alone : (r : Result ℤ Act) → with_value r (λ z. Ok z) ≡ r
alone (Ok z) = refl
alone (Err a) = refl

flattened : (r s : Result ℤ Act) (go : ℤ → ℤ → Result ℤ Act) (more : ℤ → Next)
    → by_read r (λ x. by_read s (λ y. by_read (go x y) more)) ≡ by_read (with_value r (λ x. with_value s (λ y. go x y))) more
flattened (Ok x) (Ok y) go more = refl
flattened (Ok x) (Err b) go more = refl
flattened (Err a) s go more = refl

module _ (f : Function) (under : Environment) (n : ℕ) (output : List ℕ) (turns : ℕ) (k : ℕ) where
  -- a state of the run, and what it goes on to
  abbrev pub here : ℕ → List Cell → State
  here p cells = at p cells output turns

  abbrev pub Onward : State → State → Type 0
  Onward = GoesOn (program_of f) under n

  abbrev pub Halts : State → Act → Type 0
  Halts s a = EndsWith (program_of f) under n s output turns (Met a)

  -- The run from a state: with a value it comes to a place where that was written to d, and what is below b is as in `ref`.
  abbrev pub Reaches : ℕ → ℕ → List Cell → State → ℕ → Result ℤ Act → Type 0
  Reaches b d ref from q (Ok z) = (cells : List Cell) × Written b d z ref cells × Onward from (here q cells)
  Reaches b d ref from q (Err a) = Halts from a

  -- the same, just behind an operator's command, which wrote to v
  abbrev pub Operates : ℕ → ℕ → List Cell → State → ℕ → Result ℤ Act → Type 0
  Operates b v ref from q (Ok z) = (cells : List Cell) × Kept b ref cells × Onward from (here q (set cells v (Some z)))
  Operates b v ref from q (Err a) = Halts from a

  -- an expression's code, wherever it stands
  abbrev pub Through : List Cell → Node → ℕ → ℕ → Type 0
  Through us e d t = (p : ℕ) (cells : List Cell) → length cells ≡ k → Agrees us cells → Stands f.commands p (into_code e d t)
      → Reaches t d cells (here p cells) (p + length (into_code e d t)) (value_of us e)

  pub calm : (p : ℕ) (cells : List Cell) (c : Command) → slice_get f.commands p ≡ Some c → counts (Some c) ≡ false → is_paused (program_of f) under n (here p cells) ≡ false
  calm p cells c h silent = rw (h, silent) refl

  -- one command that reads a number and goes on
  pub read_goes : (p : ℕ) (cells : List Cell) (c : Command) (r : Result ℤ Act) (z : ℤ) (to : ℤ → State) → slice_get f.commands p ≡ Some c → counts (Some c) ≡ false
      → does f under cells output turns p c ≡ by_read r (λ z. Goes (to z)) → r ≡ Ok z → Onward (here p cells) (to z)
  read_goes p cells c r z to h silent does-is is =
      step_goes (program_of f) under n (here p cells) (to z) (calm p cells c h silent) (next_is f under cells output turns p c h ∙ does-is ∙ ap (λ (r : Result ℤ Act). by_read r (λ z. Goes (to z))) is)

  pub read_halts : (p : ℕ) (cells : List Cell) (c : Command) (r : Result ℤ Act) (a : Act) (to : ℤ → State) → slice_get f.commands p ≡ Some c → counts (Some c) ≡ false
      → does f under cells output turns p c ≡ by_read r (λ z. Goes (to z)) → r ≡ Err a → Halts (here p cells) a
  read_halts p cells c r a to h silent does-is is =
      step_meets (program_of f) under n (here p cells) a (calm p cells c h silent) (next_is f under cells output turns p c h ∙ does-is ∙ ap (λ (r : Result ℤ Act). by_read r (λ z. Goes (to z))) is)

  -- an operator's command
  pub record IsOperator (c : Command) (v : ℕ) (left right : Operand) (go : ℤ → ℤ → Result ℤ Act) : Type 0 where
    pub calm : counts (Some c) ≡ false
    pub does_is : (p : ℕ) (cells : List Cell)
        → does f under cells output turns p c ≡ by_read (reads cells left) (λ x. by_read (reads cells right) (λ y. by_read (go x y) (λ z. Goes (here (p + 1) (set cells v (Some z))))))

  operator_by : (p : ℕ) (cells : List Cell) (b v : ℕ) (c : Command) (left right : Operand) (go : ℤ → ℤ → Result ℤ Act) (r : Result ℤ Act) → IsOperator c v left right go
      → slice_get f.commands p ≡ Some c → with_value (reads cells left) (λ x. with_value (reads cells right) (λ y. go x y)) ≡ r → Operates b v cells (here p cells) (p + 1) r
  operator_by p cells b v c left right go (Ok z) is h value =
      (cells, kept-refl b cells, read_goes p cells c _ z (λ z. here (p + 1) (set cells v (Some z))) h is.calm (is.does_is p cells ∙ flattened (reads cells left) (reads cells right) go _) value)
  operator_by p cells b v c left right go (Err a) is h value =
      read_halts p cells c _ a (λ z. here (p + 1) (set cells v (Some z))) h is.calm (is.does_is p cells ∙ flattened (reads cells left) (reads cells right) go _) value

  -- what is reached from there is reached from here
  pub operates_from : (b v : ℕ) (xs ys : List Cell) (from there : State) (q : ℕ) (r : Result ℤ Act) → Kept b xs ys → Onward from there → Operates b v ys there q r → Operates b v xs from q r
  operates_from b v xs ys from there q (Ok z) kept on o = (o.0, kept-trans b xs ys o.0 kept o.1, chain (program_of f) under n from there _ on o.2)
  operates_from b v xs ys from there q (Err a) kept on o = comes (program_of f) under n from there output turns (Met a) on o

  pub reaches_from : (b d : ℕ) (xs ys : List Cell) (from there : State) (q : ℕ) (r : Result ℤ Act) → Kept b xs ys → Onward from there → Reaches b d ys there q r → Reaches b d xs from q r
  reaches_from b d xs ys from there q (Ok z) kept on o = (o.0, written-after b d z xs ys o.0 kept o.1, chain (program_of f) under n from there _ on o.2)
  reaches_from b d xs ys from there q (Err a) kept on o = comes (program_of f) under n from there output turns (Met a) on o

  -- an operator whose result is the whole
  pub reaches_by : (b d : ℕ) (ref : List Cell) (from : State) (q : ℕ) (r : Result ℤ Act) → length ref ≡ k → d < k → Operates b d ref from q r → Reaches b d ref from q r
  reaches_by b d ref from q (Ok z) e h o = let same = o.1.same_length in (set o.0 d (Some z), written-set b d z ref o.0 (omega arith) o.1, o.2)
  reaches_by b d ref from q (Err a) e h o = o

  module _ (us : List Cell) (t : ℕ) (le : length us ≤ t) where
    -- The right operand, and the operator's command. Where the right operand has commands of its own, the left one is held.
    module _ (g : Node) (fit : IsFit (length us) g) (v : ℕ) (c : Command) (left : Operand) (go : ℤ → ℤ → Result ℤ Act) (low : IsLow (t + 1) left) (rx : Result ℤ Act) where
      second_value : (q : ℕ) (cells : List Cell) (x : ℤ) (vg : Result ℤ Act) → IsOperator c v left (Var (t + 1)) go → length cells ≡ k → reads cells left ≡ Ok x
          → Reaches (t + 2) (t + 1) cells (here q cells) (q + length (into_code g (t + 1) (t + 2))) vg
          → slice_get f.commands (q + length (into_code g (t + 1) (t + 2))) ≡ Some c
          → Operates t v cells (here q cells) (q + length (into_code g (t + 1) (t + 2)) + 1) (with_value (Ok x) (λ x. with_value vg (λ y. go x y)))
      second_value q cells x (Ok y) is e read reached h =
          let one = reached.0 in
          let written = reached.1 in
          let kept1 = kept-written (t + 2) (t + 1) (t + 1) y cells one (omega arith) (omega arith) written in
          let left_is : reads one left ≡ Ok x = reads-kept (t + 1) left cells one low kept1 ∙ read in
          let right_is : reads one (Var (t + 1)) ≡ Ok y = ap read_of written.holds in
          let value : with_value (reads one left) (λ x. with_value (reads one (Var (t + 1))) (λ y. go x y)) ≡ go x y = rw (left_is, right_is) refl in
          operates_from t v cells one (here q cells) (here (q + length (into_code g (t + 1) (t + 2))) one) _ (go x y) (kept-less (t + 1) t cells one (omega arith) kept1) reached.2
          (operator_by (q + length (into_code g (t + 1) (t + 2))) one t v c left (Var (t + 1)) go (go x y) is h value)
      second_value q cells x (Err b) is e read reached h = reached

      second_by : (q : ℕ) (cells : List Cell) (o : Option Operand) → atom_of g ≡ o → IsOperator c v left (operand_or o (t + 1)) go → length cells ≡ k → Agrees us cells → reads cells left ≡ rx
          → (o ≡ None → (x : ℤ) × (rx ≡ Ok x)) → Through us g (t + 1) (t + 2) → Stands f.commands q (commands_or o (into_code g (t + 1) (t + 2)))
          → slice_get f.commands (q + length (commands_or o (into_code g (t + 1) (t + 2)))) ≡ Some c
          → Operates t v cells (here q cells) (q + length (commands_or o (into_code g (t + 1) (t + 2))) + 1) (with_value rx (λ x. with_value (value_of us g) (λ y. go x y)))
      second_by q cells None is operator e agrees read held ih stands h =
          let x = held refl in
          rw (x.1) (second_value q cells x.0 (value_of us g) operator e (read ∙ x.1) (ih q cells e agrees stands) h)
      second_by q cells (Some o) is operator e agrees read held ih stands h =
          let place : q + 0 ≡ q = add-zero q in
          let value : with_value (reads cells left) (λ x. with_value (reads cells o) (λ y. go x y)) ≡ with_value rx (λ x. with_value (value_of us g) (λ y. go x y)) =
          rw (read, atom-reads us cells g o agrees fit is) refl in
          rw place (operator_by q cells t v c left o go _ operator (rw place at h) value)

      pub second : (q : ℕ) (cells : List Cell) → IsOperator c v left (operand_in g (t + 1)) go → length cells ≡ k → Agrees us cells → reads cells left ≡ rx
          → (atom_of g ≡ None → (x : ℤ) × (rx ≡ Ok x)) → Through us g (t + 1) (t + 2) → Stands f.commands q (commands_or (atom_of g) (into_code g (t + 1) (t + 2)))
          → slice_get f.commands (q + length (commands_or (atom_of g) (into_code g (t + 1) (t + 2)))) ≡ Some c
          → Operates t v cells (here q cells) (q + length (commands_or (atom_of g) (into_code g (t + 1) (t + 2))) + 1) (with_value rx (λ x. with_value (value_of us g) (λ y. go x y)))
      second q cells = second_by q cells (atom_of g) refl

    -- The left operand. It is held in t where the right one has commands of its own.
    pub record IsFirst (p q : ℕ) (cells : List Cell) (left : Operand) (atom : Bool) (r : Result ℤ Act) : Type 0 where
      pub cells' : List Cell
      pub kept : Kept t cells cells'
      pub onward : Onward (here p cells) (here q cells')
      pub read : reads cells' left ≡ r
      pub held : atom ≡ false → (x : ℤ) × (r ≡ Ok x)

    abbrev pub First : ℕ → ℕ → List Cell → Operand → Bool → Result ℤ Act → Type 0
    First p q cells left atom r = ((a : Act) × (r ≡ Err a) × Halts (here p cells) a) ⊎ IsFirst p q cells left atom r

    first_held : (p q : ℕ) (cells : List Cell) (atom : Bool) (r : Result ℤ Act) → Reaches (t + 2) t cells (here p cells) q r → First p q cells (Var t) atom r
    first_held p q cells atom (Ok z) o = inr (record {
      cells' = o.0;
      kept = kept-written (t + 2) t t z cells o.0 (omega arith) (omega arith) o.1;
      onward = o.2;
      read = ap read_of o.1.holds;
      held = λ _. (z, refl);
    })
    first_held p q cells atom (Err a) o = inl (a, refl, o)

    module _ (e : Node) (fit : IsFit (length us) e) (ih : Through us e t (t + 2)) where
      first : (atom : Bool) (o : Option Operand) → atom_of e ≡ o → (p : ℕ) (cells : List Cell) → length cells ≡ k → Agrees us cells → Stands f.commands p (left_commands atom o (into_code e t (t + 2)))
          → First p (p + length (left_commands atom o (into_code e t (t + 2)))) cells (left_operand atom o t) atom (value_of us e)
      first false o is p cells same agrees stands = first_held p _ cells false (value_of us e) (ih p cells same agrees stands)
      first true None is p cells same agrees stands = first_held p _ cells true (value_of us e) (ih p cells same agrees stands)
      first true (Some o) is p cells same agrees stands =
          let place : p + 0 ≡ p = add-zero p in
          rw place (inr (record {
            cells' = cells;
            kept = kept-refl t cells;
            onward = stays (program_of f) under n (here p cells);
            read = atom-reads us cells e o agrees fit is;
            held = λ h. cc;
          }))

      left-low : (atom : Bool) (o : Option Operand) → atom_of e ≡ o → IsLow (t + 1) (left_operand atom o t)
      left-low false o is = omega arith
      left-low true None is = omega arith
      left-low true (Some o) is = atom-low (length us) (t + 1) e o (omega arith) fit is

      module _ (g : Node) (fit_g : IsFit (length us) g) (ih_g : Through us g (t + 1) (t + 2)) (v : ℕ) (c : Command) (go : ℤ → ℤ → Result ℤ Act) (operator : IsOperator c v (left_operand (is_atom g) (atom_of e) t) (operand_in g (t + 1)) go) where
        abbrev pub left_code : List Command
        left_code = left_commands (is_atom g) (atom_of e) (into_code e t (t + 2))

        abbrev pub right_code : List Command
        right_code = commands_or (atom_of g) (into_code g (t + 1) (t + 2))

        binary_by : (p : ℕ) (cells : List Cell) (r : Result ℤ Act) → length cells ≡ k → Agrees us cells → First p (p + length left_code) cells (left_operand (is_atom g) (atom_of e) t) (is_atom g) r
            → Stands f.commands (p + length left_code) right_code → slice_get f.commands (p + length left_code + length right_code) ≡ Some c
            → Operates t v cells (here p cells) (p + length left_code + length right_code + 1) (with_value r (λ x. with_value (value_of us g) (λ y. go x y)))
        binary_by p cells r same agrees (inl halt) stands h = rw (halt.1) halt.2
        binary_by p cells r same agrees (inr done) stands h =
            operates_from t v cells done.cells' (here p cells) (here (p + length left_code) done.cells') _ _ done.kept done.onward
            (second g fit_g v c (left_operand (is_atom g) (atom_of e) t) go (left-low (is_atom g) (atom_of e) refl) r (p + length left_code) done.cells' operator
            (done.kept.same_length ∙ same) (agrees-kept us cells done.cells' t le agrees done.kept) done.read (λ none. done.held (ap is_some none)) ih_g stands h)

        -- both operands and the operator
        pub binary : (p : ℕ) (cells : List Cell) → length cells ≡ k → Agrees us cells → Stands f.commands p left_code
            → Stands f.commands (p + length left_code) right_code → slice_get f.commands (p + length left_code + length right_code) ≡ Some c
            → Operates t v cells (here p cells) (p + length left_code + length right_code + 1) (with_value (value_of us e) (λ x. with_value (value_of us g) (λ y. go x y)))
        binary p cells same agrees front_stands stands h =
            binary_by p cells (value_of us e) same agrees (first (is_atom g) (atom_of e) refl p cells same agrees front_stands) stands h

    -- behind an operator the rest of its row follows
    pub then_rest : (d v q q' : ℕ) (cells : List Cell) (from : State) (r : Result ℤ Act) (more : ℤ → Result ℤ Act) → length cells ≡ k → Agrees us cells → Operates t v cells from q r
        → ((z : ℤ) (cells : List Cell) → length cells ≡ k → Agrees us cells → Reaches t d cells (here q (set cells v (Some z))) q' (more z))
        → Reaches t d cells from q' (with_value r more)
    then_rest d v q q' cells from (Ok z) more same agrees o next =
        reaches_from t d cells o.0 from (here q (set o.0 v (Some z))) q' (more z) o.1 o.2 (next z o.0 (o.1.same_length ∙ same) (agrees-kept us cells o.0 t le agrees o.1))
    then_rest d v q q' cells from (Err a) more same agrees o next = o
