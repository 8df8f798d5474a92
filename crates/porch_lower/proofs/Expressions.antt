-- The commands that the parts of an expression give are those of the whole.
use Rattle.std.proofs.Common.{◌≡◌, ℕ, suc, max, ◌+◌, ◌<◌, ◌≤◌, List, [], ◌∷◌, ◌++◌, length, map, drop, get_or, Option, Result, OnOk, is_some, refl, sym, ap, ◌∙◌, arith, add-one, drop-cons}
use Rattle.porch_syntax.specs.declared.tree.Sign.{Sign}
use Rattle.porch_syntax.specs.declared.tree.Expr.{Expr}
use Rattle.porch_syntax.specs.declared.tree.Expr.TheVariants.{Product, Sum, Less}
use Rattle.porch_syntax.specs.Tree.{Node, product, sum, Nodes, no_nodes, node, Terms, no_terms, term, node_of, nodes_of, terms_of}
use Rattle.porch_flat.specs.declared.flat.Operand.{Operand}
use Rattle.porch_flat.specs.declared.flat.Operand.TheVariants.{Var}
use Rattle.porch_flat.specs.declared.flat.Command.{Command}
use Rattle.porch_flat.specs.declared.flat.Command.TheVariants as command
use Rattle.porch_lower.specs.Code.{atom_of, operand_in, left_operand, left_commands, commands_or, by_sign, factor_place, term_place, into_code, factors_code, terms_code, temps_of, factors_temps, terms_temps}
use Rattle.porch_lower.specs.inside.Rows.{factors_from, terms_from}
use Rattle.porch_lower.proofs.Joins.{two_parts, put_between}
use Rattle.porch_lower.proofs.Views.{node_of-Product, node_of-Sum, node_of-Less}

-- the tree's factors and terms as plain data
abbrev pub row : List Expr → Nodes
row es = nodes_of (map node_of es)

abbrev pub term_row : List (Sign × Expr) → Terms
term_row ts = terms_of (map (λ t. (t.0, node_of t.1)) ts)

one_factor : (more : List Expr) (n : Node) (d t : ℕ) → length more < 1 → into_code (product n (row more)) d t ≡ into_code n d t
one_factor [] n d t h = refl
one_factor (x ∷ xs) n d t h = absurd (omega (arith, h))

one_term : (more : List (Sign × Expr)) (n : Node) (d t : ℕ) → length more < 1 → into_code (sum n (term_row more)) d t ≡ into_code n d t
one_term [] n d t h = refl
one_term (x ∷ xs) n d t h = absurd (omega (arith, h))

pub product_alone : (e first : Expr) (more : List Expr) (d t : ℕ) → e ≡ Product first more → length more < 1 → into_code (node_of e) d t ≡ into_code (node_of first) d t
product_alone e first more d t h short = ap (λ n. into_code n d t) (node_of-Product e first more h) ∙ one_factor more (node_of first) d t short

pub sum_alone : (e first : Expr) (more : List (Sign × Expr)) (d t : ℕ) → e ≡ Sum first more → length more < 1 → into_code (node_of e) d t ≡ into_code (node_of first) d t
sum_alone e first more d t h short = ap (λ n. into_code n d t) (node_of-Sum e first more h) ∙ one_term more (node_of first) d t short

more_factors : (more : List Expr) (n : Node) (second : Expr) (d t : ℕ) → 1 ≤ length more → second ≡ get_or more 0 second
    → into_code (product n (row more)) d t ≡ left_commands (is_some (atom_of (node_of second))) (atom_of n) (into_code n t (t + 2)) ++ factors_from (left_operand (is_some (atom_of (node_of second))) (atom_of n) t) (row more) d t
more_factors [] n second d t h e = absurd (omega (arith, h))
more_factors (x ∷ xs) n second d t h e = rw e refl

more_terms : (more : List (Sign × Expr)) (n : Node) (second : Sign × Expr) (d t : ℕ) → 1 ≤ length more → second ≡ get_or more 0 second
    → into_code (sum n (term_row more)) d t ≡ left_commands (is_some (atom_of (node_of second.1))) (atom_of n) (into_code n t (t + 2)) ++ terms_from (left_operand (is_some (atom_of (node_of second.1))) (atom_of n) t) (term_row more) d t
more_terms [] n second d t h e = absurd (omega (arith, h))
more_terms (x ∷ xs) n second d t h e = rw e refl

pub product_row : {A E : Type 0} (r : Result A E) (new middle old : List Command) (e first second : Expr) (more : List Expr) (right : Option Operand) (left : Operand) (d t : ℕ)
    → e ≡ Product first more → 1 ≤ length more → second ≡ get_or more 0 second → right ≡ atom_of (node_of second)
    → middle ≡ old ++ left_commands (is_some right) (atom_of (node_of first)) (into_code (node_of first) t (t + 2))
    → left ≡ left_operand (is_some right) (atom_of (node_of first)) t
    → OnOk r (new ≡ middle ++ factors_from left (row more) d t)
    → OnOk r (new ≡ old ++ into_code (node_of e) d t)
product_row r new middle old e first second more right left d t h long s a m l done =
    two_parts r new middle old _ _ _ m
    (rw (l, a) (ap (λ n. into_code n d t) (node_of-Product e first more h) ∙ more_factors more (node_of first) second d t long s))
    done

pub sum_row : {A E : Type 0} (r : Result A E) (new middle old : List Command) (e first : Expr) (second : Sign × Expr) (more : List (Sign × Expr)) (right : Option Operand) (left : Operand) (d t : ℕ)
    → e ≡ Sum first more → 1 ≤ length more → second ≡ get_or more 0 second → right ≡ atom_of (node_of second.1)
    → middle ≡ old ++ left_commands (is_some right) (atom_of (node_of first)) (into_code (node_of first) t (t + 2))
    → left ≡ left_operand (is_some right) (atom_of (node_of first)) t
    → OnOk r (new ≡ middle ++ terms_from left (term_row more) d t)
    → OnOk r (new ≡ old ++ into_code (node_of e) d t)
sum_row r new middle old e first second more right left d t h long s a m l done =
    two_parts r new middle old _ _ _ m
    (rw (l, a) (ap (λ n. into_code n d t) (node_of-Sum e first more h) ∙ more_terms more (node_of first) second d t long s))
    done

pub comparison : {A E : Type 0} (r : Result A E) (new second first old : List Command) (e a b : Expr) (right : Option Operand) (x y : Operand) (d t : ℕ)
    → e ≡ Less a b → right ≡ atom_of (node_of b)
    → first ≡ old ++ left_commands (is_some right) (atom_of (node_of a)) (into_code (node_of a) t (t + 2))
    → x ≡ left_operand (is_some right) (atom_of (node_of a)) t
    → second ≡ first ++ commands_or (atom_of (node_of b)) (into_code (node_of b) (t + 1) (t + 2))
    → y ≡ operand_in (node_of b) (t + 1)
    → OnOk r (new ≡ second ++ command.Lt d x y ∷ [])
    → OnOk r (new ≡ old ++ into_code (node_of e) d t)
comparison r new second first old e a b right x y d t h o f l s k done =
    two_parts r new first old _ _ _ f (rw (l, k, o) (ap (λ n. into_code n d t) (node_of-Less e a b h)))
    (two_parts r new second first _ _ _ s refl done)

-- one more factor of a row
factor_put : (whole commands held : List Command) (left operand : Operand) (place d t : ℕ) (f : Node) (fs : Nodes)
    → commands ++ factors_from left (node f fs) d t ≡ whole
    → held ≡ commands ++ commands_or (atom_of f) (into_code f (t + 1) (t + 2))
    → operand ≡ operand_in f (t + 1) → place ≡ factor_place fs d t
    → (held ++ command.Mul place left operand ∷ []) ++ factors_from (Var t) fs d t ≡ whole
factor_put whole commands held left operand place d t f no_nodes w h o p = rw (h, o, p) (put_between commands (commands_or (atom_of f) (into_code f (t + 1) (t + 2))) (factors_code no_nodes d t) (command.Mul (factor_place no_nodes d t) left (operand_in f (t + 1))) ∙ w)
factor_put whole commands held left operand place d t f (node g gs) w h o p = rw (h, o, p) (put_between commands (commands_or (atom_of f) (into_code f (t + 1) (t + 2))) (factors_code (node g gs) d t) (command.Mul (factor_place (node g gs) d t) left (operand_in f (t + 1))) ∙ w)

term_put : (whole commands held : List Command) (left operand : Operand) (place d t : ℕ) (sign : Sign) (f : Node) (fs : Terms)
    → commands ++ terms_from left (term sign f fs) d t ≡ whole
    → held ≡ commands ++ commands_or (atom_of f) (into_code f (t + 1) (t + 2))
    → operand ≡ operand_in f (t + 1) → place ≡ term_place fs d t
    → (held ++ by_sign sign place left operand ∷ []) ++ terms_from (Var t) fs d t ≡ whole
term_put whole commands held left operand place d t sign f no_terms w h o p = rw (h, o, p) (put_between commands (commands_or (atom_of f) (into_code f (t + 1) (t + 2))) (terms_code no_terms d t) (by_sign sign (term_place no_terms d t) left (operand_in f (t + 1))) ∙ w)
term_put whole commands held left operand place d t sign f (term s g gs) w h o p = rw (h, o, p) (put_between commands (commands_or (atom_of f) (into_code f (t + 1) (t + 2))) (terms_code (term s g gs) d t) (by_sign sign (term_place (term s g gs) d t) left (operand_in f (t + 1))) ∙ w)

-- the elements from a place on, of which the first is this
pub from_here : {X : Type 0} (xs : List X) (i : ℕ) (x : X) → i < length xs → x ≡ get_or xs i x → drop i xs ≡ x ∷ drop (i + 1) xs
from_here xs i x h e = drop-cons xs i x h ∙ ap (λ y. y ∷ drop (suc i) xs) (sym e) ∙ ap (λ k. x ∷ drop k xs) (sym (add-one i))

pub factor_done : (whole commands held after : List Command) (left operand : Operand) (place d t i : ℕ) (es : List Expr) (e : Expr)
    → commands ++ factors_from left (row (drop i es)) d t ≡ whole
    → i < length es → e ≡ get_or es i e
    → held ≡ commands ++ commands_or (atom_of (node_of e)) (into_code (node_of e) (t + 1) (t + 2))
    → operand ≡ operand_in (node_of e) (t + 1) → place ≡ factor_place (row (drop (i + 1) es)) d t
    → after ≡ held ++ command.Mul place left operand ∷ []
    → after ++ factors_from (Var t) (row (drop (i + 1) es)) d t ≡ whole
factor_done whole commands held after left operand place d t i es e w lt is h o p a =
    let w' : commands ++ factors_from left (node (node_of e) (row (drop (i + 1) es))) d t ≡ whole = ap (λ (xs : List Expr). commands ++ factors_from left (row xs) d t) (sym (from_here es i e lt is)) ∙ w in
    rw a (factor_put whole commands held left operand place d t (node_of e) (row (drop (i + 1) es)) w' h o p)

pub term_done : (whole commands held after : List Command) (left operand : Operand) (place d t i : ℕ) (ts : List (Sign × Expr)) (x : Sign × Expr)
    → commands ++ terms_from left (term_row (drop i ts)) d t ≡ whole
    → i < length ts → x ≡ get_or ts i x
    → held ≡ commands ++ commands_or (atom_of (node_of x.1)) (into_code (node_of x.1) (t + 1) (t + 2))
    → operand ≡ operand_in (node_of x.1) (t + 1) → place ≡ term_place (term_row (drop (i + 1) ts)) d t
    → after ≡ held ++ by_sign x.0 place left operand ∷ []
    → after ++ terms_from (Var t) (term_row (drop (i + 1) ts)) d t ≡ whole
term_done whole commands held after left operand place d t i ts x w lt is h o p a =
    let w' : commands ++ terms_from left (term x.0 (node_of x.1) (term_row (drop (i + 1) ts))) d t ≡ whole = ap (λ (xs : List (Sign × Expr)). commands ++ terms_from left (term_row xs) d t) (sym (from_here ts i x lt is)) ∙ w in
    rw a (term_put whole commands held left operand place d t x.0 (node_of x.1) (term_row (drop (i + 1) ts)) w' h o p)

-- the place of the last one and of the others
pub last_factor : (es : List Expr) (d t : ℕ) → length es ≡ 0 → factor_place (row es) d t ≡ d
last_factor [] d t h = refl
last_factor (e ∷ es) d t h = absurd (omega (arith, h))

pub other_factor : (es : List Expr) (d t : ℕ) → 0 < length es → factor_place (row es) d t ≡ t
other_factor [] d t h = absurd (omega (arith, h))
other_factor (e ∷ es) d t h = refl

pub last_term : (ts : List (Sign × Expr)) (d t : ℕ) → length ts ≡ 0 → term_place (term_row ts) d t ≡ d
last_term [] d t h = refl
last_term (e ∷ es) d t h = absurd (omega (arith, h))

pub other_term : (ts : List (Sign × Expr)) (d t : ℕ) → 0 < length ts → term_place (term_row ts) d t ≡ t
other_term [] d t h = absurd (omega (arith, h))
other_term (e ∷ es) d t h = refl

-- the temporaries of what is left are enough for its first part and for the rest
pub factors_left : (most t i : ℕ) (es : List Expr) (e : Expr) → t + 2 + factors_temps (row (drop i es)) < most → i < length es → e ≡ get_or es i e
    → (t + 2 + temps_of (node_of e) < most) × (t + 2 + factors_temps (row (drop (i + 1) es)) < most)
factors_left most t i es e few lt is =
    let here : factors_temps (row (drop i es)) ≡ max (temps_of (node_of e)) (factors_temps (row (drop (i + 1) es))) = ap (λ (xs : List Expr). factors_temps (row xs)) (from_here es i e lt is) in
    (omega (arith, few, here), omega (arith, few, here))

pub terms_left : (most t i : ℕ) (ts : List (Sign × Expr)) (x : Sign × Expr) → t + 2 + terms_temps (term_row (drop i ts)) < most → i < length ts → x ≡ get_or ts i x
    → (t + 2 + temps_of (node_of x.1) < most) × (t + 2 + terms_temps (term_row (drop (i + 1) ts)) < most)
terms_left most t i ts x few lt is =
    let here : terms_temps (term_row (drop i ts)) ≡ max (temps_of (node_of x.1)) (terms_temps (term_row (drop (i + 1) ts))) = ap (λ (xs : List (Sign × Expr)). terms_temps (term_row xs)) (from_here ts i x lt is) in
    (omega (arith, few, here), omega (arith, few, here))
