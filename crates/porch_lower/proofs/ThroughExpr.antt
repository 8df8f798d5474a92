-- Runs through the code of an expression.
use Rattle.std.proofs.Common.{◌≡◌, ◌≤◌, ◌<◌, ◌+◌, ◌++◌, ◌*ℤ◌, ℕ, ℤ, pos, List, [], ◌∷◌, length, refl, sym, ap, ◌∙◌, arith, add-zero, length-append}
use Rattle.std.proofs.Math.ListN.{set}
use Rattle.std.specs.Prelude.{slice_get, slice_index_or, Some, Result, Ok, Err}
use Rattle.porch_types.specs.Leaves.{kind_types}
use Rattle.porch_syntax.specs.declared.tree.Sign.{Sign}
use Rattle.porch_syntax.specs.declared.tree.Sign.TheVariants.{Plus, Minus}
use Rattle.porch_syntax.specs.Tree.{Node, variable, whole, character, nested, product, sum, less, Nodes, no_nodes, node, Terms, no_terms, term}
use Rattle.porch_values.specs.declared.acts.Act.{Act}
use Rattle.porch_values.specs.Integers.{as_int_of}
use Rattle.porch_objects.specs.Meaning.{Environment, truth}
use Rattle.porch_flat.specs.declared.flat.Operand.{Operand}
use Rattle.porch_flat.specs.declared.flat.Operand.TheVariants.{Var, Constant}
use Rattle.porch_flat.specs.declared.flat.Command.{Command}
use Rattle.porch_flat.specs.declared.flat.Command.TheVariants as command
use Rattle.porch_flat.specs.declared.flat.Function.{Function}
use Rattle.porch_flat.specs.Valid.{int_type}
use Rattle.porch_lower.specs.Code.{atom_of, is_atom, operand_in, left_operand, commands_or, left_commands, into_code, factors_code, terms_code, factor_place, term_place, by_sign, temps_of, factors_temps, terms_temps}
use Rattle.porch_lower.specs.Lowered.{IsFit, FactorsFit, TermsFit}
use Rattle.porch_lower.proofs.SameCells.{Cell, reads, read_of, signed, with_value, value_of, factors_of, terms_of}
use Rattle.porch_lower.proofs.StepsRun.{stays}
use Rattle.porch_lower.proofs.StepsAt.{program_of, moves, adds, subtracts, multiplies, compares}
use Rattle.porch_lower.proofs.ThroughParts.{Stands, front, back, Agrees, kept-refl, kept-set, written-set, agrees-kept, here, Reaches, Through, IsOperator, joined, alone, read_goes, read_halts, reaches_from, reaches_by, second, binary, then_rest}

-- a place behind two parts, a command and a rest
behind : (p : ℕ) (xs ys zs : List Command) (c : Command) → p + length (xs ++ (ys ++ c ∷ zs)) ≡ p + length xs + length ys + 1 + length zs
behind p xs ys zs c = simp length-append (omega arith)

behind_one : (p : ℕ) (ys zs : List Command) (c : Command) → p + length (ys ++ c ∷ zs) ≡ p + length ys + 1 + length zs
behind_one p ys zs c = simp length-append (omega arith)

factor_place-small : (fs : Nodes) (d t k : ℕ) → d < k → t < k → factor_place fs d t < k
factor_place-small no_nodes d t k h g = h
factor_place-small (node e es) d t k h g = g

term_place-small : (ts : Terms) (d t k : ℕ) → d < k → t < k → term_place ts d t < k
term_place-small no_terms d t k h g = h
term_place-small (term s e es) d t k h g = g

module _ (f : Function) (under : Environment) (n : ℕ) (output : List ℕ) (turns : ℕ) (k : ℕ) (sized : length f.vars ≡ k) (ints : (v : ℕ) → v < length f.vars → slice_index_or f.vars v (length kind_types) ≡ int_type) (us : List Cell) where
  -- a move is the whole
  moved : (p t d : ℕ) (cells : List Cell) (o : Operand) (r : Result ℤ Act) → length cells ≡ k → d < k → slice_get f.commands p ≡ Some (command.Move d o) → reads cells o ≡ r
      → Reaches f under n output turns k t d cells (here f under n output turns k p cells) (p + 1) r
  moved p t d cells o (Ok z) same small h is = (
    set cells d (Some z),
    written-set t d z cells cells (omega arith) (kept-refl t cells),
    read_goes f under n output turns k p cells (command.Move d o) (reads cells o) z (λ z. here f under n output turns k (p + 1) (set cells d (Some z))) h refl (moves f under cells output turns p d o) is,
  )
  moved p t d cells o (Err a) same small h is =
      read_halts f under n output turns k p cells (command.Move d o) (reads cells o) a (λ z. here f under n output turns k (p + 1) (set cells d (Some z))) h refl (moves f under cells output turns p d o) is

  multiplier : (v : ℕ) (a b : Operand) → v < k → IsOperator f under n output turns k (command.Mul v a b) v a b (λ x y. as_int_of (x *ℤ y))
  multiplier v a b small = record { calm = refl; does_is = λ p cells. multiplies f under cells output turns p ints v a b (omega arith) }

  adder : (s : Sign) (v : ℕ) (a b : Operand) → v < k → IsOperator f under n output turns k (by_sign s v a b) v a b (λ x y. as_int_of (signed s x y))
  adder Plus v a b small = record { calm = refl; does_is = λ p cells. adds f under cells output turns p ints v a b (omega arith) }
  adder Minus v a b small = record { calm = refl; does_is = λ p cells. subtracts f under cells output turns p ints v a b (omega arith) }

  comparer : (v : ℕ) (a b : Operand) → IsOperator f under n output turns k (command.Lt v a b) v a b (λ x y. Ok (truth x y))
  comparer v a b = record { calm = refl; does_is = λ p cells. compares f under cells output turns p v a b }

  -- the rest of a row, where an operator has just given z
  abbrev FactorsThrough : Nodes → ℕ → ℕ → Type 0
  FactorsThrough fs d t = (z : ℤ) (q : ℕ) (cells : List Cell) → length cells ≡ k → Agrees us cells → Stands f.commands q (factors_code fs d t)
      → Reaches f under n output turns k t d cells (here f under n output turns k q (set cells (factor_place fs d t) (Some z))) (q + length (factors_code fs d t)) (factors_of us fs z)

  abbrev TermsThrough : Terms → ℕ → ℕ → Type 0
  TermsThrough ts d t = (z : ℤ) (q : ℕ) (cells : List Cell) → length cells ≡ k → Agrees us cells → Stands f.commands q (terms_code ts d t)
      → Reaches f under n output turns k t d cells (here f under n output turns k q (set cells (term_place ts d t) (Some z))) (q + length (terms_code ts d t)) (terms_of us ts z)

  mutual
    pub through : (e : Node) (d t : ℕ) → IsFit (length us) e → length us ≤ t → t + temps_of e ≤ k → d < k → Through f under n output turns k us e d t
    through (variable x) d t fit le room small p cells same agrees stands =
        moved p t d cells (Var x) (value_of us (variable x)) same small stands.0 (ap read_of (sym (agrees.same x fit)))
    through (whole z) d t fit le room small p cells same agrees stands = moved p t d cells (Constant z) (Ok z) same small stands.0 refl
    through (character c) d t fit le room small p cells same agrees stands = moved p t d cells (Constant (pos c)) (Ok (pos c)) same small stands.0 refl
    through (nested e) d t fit le room small p cells same agrees stands = through e d t fit le room small p cells same agrees stands
    through (product e no_nodes) d t fit le room small p cells same agrees stands =
        rw (alone (value_of us e)) (through e d t fit.0 le (omega arith) small p cells same agrees stands)
    through (product e (node g fs)) d t fit le room small p cells same agrees stands =
        let v = factor_place fs d t in
        let place = factor_place-small fs d t k small (omega arith) in
        let operator = multiplier v (left_operand (is_atom g) (atom_of e) t) (operand_in g (t + 1)) place in
        let c = command.Mul v (left_operand (is_atom g) (atom_of e) t) (operand_in g (t + 1)) in
        let xs = left_commands (is_atom g) (atom_of e) (into_code e t (t + 2)) in
        let ys = commands_or (atom_of g) (into_code g (t + 1) (t + 2)) in
        let zs = factors_code fs d t in
        let rest = back f.commands p xs (ys ++ c ∷ zs) stands in
        let last = back f.commands (p + length xs) ys (c ∷ zs) rest in
        let one = binary f under n output turns k us t le e fit.0 (through e t (t + 2) fit.0 (omega arith) (omega arith) (omega arith)) g fit.1.0 (through g (t + 1) (t + 2) fit.1.0 (omega arith) (omega arith) (omega arith))
        v c (λ x y. as_int_of (x *ℤ y)) operator p cells same agrees (front f.commands p xs (ys ++ c ∷ zs) stands) (front f.commands (p + length xs) ys (c ∷ zs) rest) last.0 in
        rw (behind p xs ys zs c, ← joined (value_of us e) (value_of us g) (λ x y. as_int_of (x *ℤ y)) (λ z. factors_of us fs z))
        (then_rest f under n output turns k us t le d v (p + length xs + length ys + 1) _ cells (here f under n output turns k p cells) _ (λ z. factors_of us fs z) same agrees one
        (λ z cells same agrees. factors_through fs d t fit.1.1 le (omega arith) small z (p + length xs + length ys + 1) cells same agrees last.1))
    through (sum e no_terms) d t fit le room small p cells same agrees stands =
        rw (alone (value_of us e)) (through e d t fit.0 le (omega arith) small p cells same agrees stands)
    through (sum e (term s g ts)) d t fit le room small p cells same agrees stands =
        let v = term_place ts d t in
        let place = term_place-small ts d t k small (omega arith) in
        let operator = adder s v (left_operand (is_atom g) (atom_of e) t) (operand_in g (t + 1)) place in
        let c = by_sign s v (left_operand (is_atom g) (atom_of e) t) (operand_in g (t + 1)) in
        let xs = left_commands (is_atom g) (atom_of e) (into_code e t (t + 2)) in
        let ys = commands_or (atom_of g) (into_code g (t + 1) (t + 2)) in
        let zs = terms_code ts d t in
        let rest = back f.commands p xs (ys ++ c ∷ zs) stands in
        let last = back f.commands (p + length xs) ys (c ∷ zs) rest in
        let one = binary f under n output turns k us t le e fit.0 (through e t (t + 2) fit.0 (omega arith) (omega arith) (omega arith)) g fit.1.0 (through g (t + 1) (t + 2) fit.1.0 (omega arith) (omega arith) (omega arith))
        v c (λ x y. as_int_of (signed s x y)) operator p cells same agrees (front f.commands p xs (ys ++ c ∷ zs) stands) (front f.commands (p + length xs) ys (c ∷ zs) rest) last.0 in
        rw (behind p xs ys zs c, ← joined (value_of us e) (value_of us g) (λ x y. as_int_of (signed s x y)) (λ z. terms_of us ts z))
        (then_rest f under n output turns k us t le d v (p + length xs + length ys + 1) _ cells (here f under n output turns k p cells) _ (λ z. terms_of us ts z) same agrees one
        (λ z cells same agrees. terms_through ts d t fit.1.1 le (omega arith) small z (p + length xs + length ys + 1) cells same agrees last.1))
    through (less e g) d t fit le room small p cells same agrees stands =
        let operator = comparer d (left_operand (is_atom g) (atom_of e) t) (operand_in g (t + 1)) in
        let c = command.Lt d (left_operand (is_atom g) (atom_of e) t) (operand_in g (t + 1)) in
        let xs = left_commands (is_atom g) (atom_of e) (into_code e t (t + 2)) in
        let ys = commands_or (atom_of g) (into_code g (t + 1) (t + 2)) in
        let rest = back f.commands p xs (ys ++ c ∷ []) stands in
        let last = back f.commands (p + length xs) ys (c ∷ []) rest in
        let one = binary f under n output turns k us t le e fit.0 (through e t (t + 2) fit.0 (omega arith) (omega arith) (omega arith)) g fit.1 (through g (t + 1) (t + 2) fit.1 (omega arith) (omega arith) (omega arith))
        d c (λ x y. Ok (truth x y)) operator p cells same agrees (front f.commands p xs (ys ++ c ∷ []) stands) (front f.commands (p + length xs) ys (c ∷ []) rest) last.0 in
        rw (behind p xs ys [] c, add-zero (p + length xs + length ys + 1)) (reaches_by f under n output turns k t d cells (here f under n output turns k p cells) _ _ same small one)

    factors_through : (fs : Nodes) (d t : ℕ) → FactorsFit (length us) fs → length us ≤ t → t + (factors_temps fs + 2) ≤ k → d < k → FactorsThrough fs d t
    factors_through no_nodes d t fit le room small z q cells same agrees stands =
        rw (add-zero q) (set cells d (Some z), written-set t d z cells cells (omega arith) (kept-refl t cells), stays (program_of f) under n (here f under n output turns k q (set cells d (Some z))))
    factors_through (node g fs) d t fit le room small z q cells same agrees stands =
        let start = set cells t (Some z) in
        let kept = kept-set t t (Some z) cells (omega arith) in
        let v = factor_place fs d t in
        let place = factor_place-small fs d t k small (omega arith) in
        let c = command.Mul v (Var t) (operand_in g (t + 1)) in
        let ys = commands_or (atom_of g) (into_code g (t + 1) (t + 2)) in
        let zs = factors_code fs d t in
        let last = back f.commands q ys (c ∷ zs) stands in
        let inside : t < length cells = omega arith in
        let same' = kept.same_length ∙ same in
        let agrees' = agrees-kept us cells start t le agrees kept in
        let one = second f under n output turns k us t le g fit.0 v c (Var t) (λ x y. as_int_of (x *ℤ y)) (omega arith) (Ok z) q start (multiplier v (Var t) (operand_in g (t + 1)) place) same' agrees'
        (ap read_of (Rattle.porch_lower.proofs.SameCells.slice_get-set_same cells t (Some z) inside)) (λ _. (z, refl)) (through g (t + 1) (t + 2) fit.0 (omega arith) (omega arith) (omega arith)) (front f.commands q ys (c ∷ zs) stands) last.0 in
        rw (behind_one q ys zs c, ← joined (Ok z) (value_of us g) (λ x y. as_int_of (x *ℤ y)) (λ z. factors_of us fs z))
        (reaches_from f under n output turns k t d cells start (here f under n output turns k q start) (here f under n output turns k q start) _ _ kept (stays (program_of f) under n (here f under n output turns k q start))
        (then_rest f under n output turns k us t le d v (q + length ys + 1) _ start (here f under n output turns k q start) _ (λ z. factors_of us fs z) same' agrees' one
        (λ z cells same agrees. factors_through fs d t fit.1 le (omega arith) small z (q + length ys + 1) cells same agrees last.1)))

    terms_through : (ts : Terms) (d t : ℕ) → TermsFit (length us) ts → length us ≤ t → t + (terms_temps ts + 2) ≤ k → d < k → TermsThrough ts d t
    terms_through no_terms d t fit le room small z q cells same agrees stands =
        rw (add-zero q) (set cells d (Some z), written-set t d z cells cells (omega arith) (kept-refl t cells), stays (program_of f) under n (here f under n output turns k q (set cells d (Some z))))
    terms_through (term s g ts) d t fit le room small z q cells same agrees stands =
        let start = set cells t (Some z) in
        let kept = kept-set t t (Some z) cells (omega arith) in
        let v = term_place ts d t in
        let place = term_place-small ts d t k small (omega arith) in
        let c = by_sign s v (Var t) (operand_in g (t + 1)) in
        let ys = commands_or (atom_of g) (into_code g (t + 1) (t + 2)) in
        let zs = terms_code ts d t in
        let last = back f.commands q ys (c ∷ zs) stands in
        let inside : t < length cells = omega arith in
        let same' = kept.same_length ∙ same in
        let agrees' = agrees-kept us cells start t le agrees kept in
        let one = second f under n output turns k us t le g fit.0 v c (Var t) (λ x y. as_int_of (signed s x y)) (omega arith) (Ok z) q start (adder s v (Var t) (operand_in g (t + 1)) place) same' agrees'
        (ap read_of (Rattle.porch_lower.proofs.SameCells.slice_get-set_same cells t (Some z) inside)) (λ _. (z, refl)) (through g (t + 1) (t + 2) fit.0 (omega arith) (omega arith) (omega arith)) (front f.commands q ys (c ∷ zs) stands) last.0 in
        rw (behind_one q ys zs c, ← joined (Ok z) (value_of us g) (λ x y. as_int_of (signed s x y)) (λ z. terms_of us ts z))
        (reaches_from f under n output turns k t d cells start (here f under n output turns k q start) (here f under n output turns k q start) _ _ kept (stays (program_of f) under n (here f under n output turns k q start))
        (then_rest f under n output turns k us t le d v (q + length ys + 1) _ start (here f under n output turns k q start) _ (λ z. terms_of us ts z) same' agrees' one
        (λ z cells same agrees. terms_through ts d t fit.1 le (omega arith) small z (q + length ys + 1) cells same agrees last.1)))
