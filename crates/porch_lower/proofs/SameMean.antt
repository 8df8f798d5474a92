-- The meaning of expressions and assignments over cells.
use Rattle.std.proofs.Common.{◌≡◌, ◌≢◌, ◌⊎◌, inl, inr, ◌*ℤ◌, ℕ, zero, suc, ℤ, Bool, List, [], ◌∷◌, true, false, ◌∙◌, ap, refl}
use Rattle.std.proofs.Math.ListN.{set as list_set}
use Rattle.std.specs.Prelude.{if◌then◌else◌, slice_get, Some, None, Result, Ok, Err}
use Rattle.std.specs.declared.option.Option.{Option}
use Rattle.porch_syntax.specs.declared.tree.Sign.{Sign}
use Rattle.porch_syntax.specs.declared.tree.Sign.TheVariants.{Plus, Minus}
use Rattle.porch_syntax.specs.Tree.{Node, variable, whole, character, nested, product, sum, less, Nodes, no_nodes, node, Terms, no_terms, term}
use Rattle.porch_values.specs.declared.acts.Act.{Act}
use Rattle.porch_values.specs.declared.acts.Act.TheVariants.{Overflow}
use Rattle.porch_types.specs.declared.shapes.Kind.TheVariants.{Int}
use Rattle.porch_values.specs.declared.acts.Op.{Op}
use Rattle.porch_values.specs.declared.acts.Op.TheVariants.{Mul}
use Rattle.porch_values.specs.declared.widths.Widths.{Widths}
use Rattle.porch_values.specs.Integers.{applied, in_range, as_int_of}
use Rattle.porch_objects.specs.Store.{Value, number}
use Rattle.porch_objects.specs.Meaning.{Environment, Mark, Progress}
use Rattle.porch_meaning.specs.Mean.{Outcome, Went, Undefined, and_then, read, result, operated, op_of, eval, eval_factors, eval_terms}
use Rattle.porch_lower.proofs.SameCells.{Cell, value_at, read_of, signed, with_value, value_of, factors_of, terms_of, store_with, leaf_at-cells}

-- a state of the meaning with these variables
abbrev pub source : List Cell → List ℕ → List Mark → ℕ → Progress
source us output marks turns = record { store = store_with us; output = output; marks = marks; turns = turns; taken = 0 }

-- an expression that went on with a value, or met an act
abbrev pub answered : Result ℤ Act → Progress → Outcome
answered (Ok z) s = Went (number z) s
answered (Err a) s = Undefined a s

read-cell : (o : Option Cell) (s : Progress) → read (value_at o) s ≡ answered (read_of o) s
read-cell None s = refl
read-cell (Some None) s = refl
read-cell (Some (Some z)) s = refl

chained : (r : Result ℤ Act) (go : ℤ → Result ℤ Act) (next : Value → Progress → Outcome) (s : Progress) → ((z : ℤ) → next (number z) s ≡ answered (go z) s) → and_then (answered r s) next ≡ answered (with_value r go) s
chained (Ok z) go next s h = h z
chained (Err a) go next s h = refl

in_int : (b : Bool) (z : ℤ) (s : Progress) → result (if b then Ok z else Err Overflow) s ≡ answered (if b then Ok z else Err Overflow) s
in_int true z s = refl
in_int false z s = refl

operated-int : (w : Widths) (op : Op) (x y z : ℤ) (s : Progress) → applied op Int w x y ≡ as_int_of z → operated w op (number x) (number y) s ≡ answered (as_int_of z) s
operated-int w op x y z s h = ap (λ (r : Result ℤ Act). result r s) h ∙ in_int (in_range Int 32 z) z s

applied-sign : (w : Widths) (sign : Sign) (x y : ℤ) → applied (op_of sign) Int w x y ≡ as_int_of (signed sign x y)
applied-sign w Plus x y = refl
applied-sign w Minus x y = refl

module _ (under : Environment) (n : ℕ) (us : List Cell) (output : List ℕ) (marks : List Mark) (turns : ℕ) where
  abbrev here : Progress
  here = source us output marks turns

  mutual
    pub evaluates : (e : Node) → eval under n 0 e here ≡ answered (value_of us e) here
    evaluates (variable x) = ap (λ v. read v here) (leaf_at-cells us x) ∙ read-cell (slice_get us x) here
    evaluates (whole z) = refl
    evaluates (character c) = refl
    evaluates (nested e) = evaluates e
    evaluates (product e es) = rw (evaluates e) (chained (value_of us e) _ _ here (λ z. factors es z))
    evaluates (sum e ts) = rw (evaluates e) (chained (value_of us e) _ _ here (λ z. terms ts z))
    evaluates (less a b) =
        rw (evaluates a) (chained (value_of us a) _ _ here (λ x. rw (evaluates b) (chained (value_of us b) _ _ here (λ y. refl))))

    factors : (es : Nodes) (z : ℤ) → eval_factors under n 0 es (number z) here ≡ answered (factors_of us es z) here
    factors no_nodes z = refl
    factors (node e es) z = rw (evaluates e) (chained (value_of us e) _ _ here (λ b. rw (operated-int under.widths Mul z b (z *ℤ b) here refl) (chained (as_int_of (z *ℤ b)) _ _ here (λ c. factors es c))))

    terms : (ts : Terms) (z : ℤ) → eval_terms under n 0 ts (number z) here ≡ answered (terms_of us ts z) here
    terms no_terms z = refl
    terms (term sign e ts) z = rw (evaluates e) (chained (value_of us e) _ _ here (λ b. rw (operated-int under.widths (op_of sign) z b (signed sign z b) here (applied-sign under.widths sign z b)) (chained (as_int_of (signed sign z b)) _ _ here (λ c. terms ts c))))

-- two numbers are one, or not
pub same_or : (x y : ℕ) → (x ≡ y) ⊎ (x ≢ y)
same_or zero zero = inl refl
same_or zero (suc y) = inr (λ e. cc)
same_or (suc x) zero = inr (λ e. cc)
same_or (suc x) (suc y) = elim (same_or x y) [ inl e ↦ inl (ap suc e) | inr ne ↦ inr (λ e. ne cc) ]

-- a cell that has a value already isn't changed by it
pub set-same : (xs : List Cell) (i : ℕ) (c : Cell) → slice_get xs i ≡ Some c → list_set xs i c ≡ xs
set-same [] i c h = refl
set-same (x ∷ xs) zero c h = let e : x ≡ c = cc in rw e refl
set-same (x ∷ xs) (suc i) c h = ap (λ (ys : List Cell). x ∷ ys) (set-same xs i c h)
