-- The lists of a tree, with more put in front of them.
use Rattle.std.proofs.Common.{◌≡◌, ◌≢◌, List, [], ◌∷◌, ◌++◌, refl, ap, ◌∙◌, append_assoc}
use Rattle.porch_tree.specs.declared.tree.Infix.{Infix}
use Rattle.porch_tree.specs.Mirror.{Expr, Exprs, no_exprs, with_expr, Operands, no_operands, with_operand, Suffix, Suffixes, no_suffixes, with_suffix, suffixed}
use Rattle.porch_tree.specs.Views.{exprs_of, operands_of, suffixes_of}
use Rattle.porch_parse.specs.Building.{Operand, operand, suffixed_by, value_of}

abbrev pub put : List Expr → Exprs → Exprs
put [] es = es
put (x ∷ xs) es = with_expr x (put xs es)

pub put_last : (xs : List Expr) (e : Expr) → exprs_of (xs ++ e ∷ []) ≡ put xs (with_expr e no_exprs)
put_last [] e = refl
put_last (x ∷ xs) e = ap (with_expr x) (put_last xs e)

pub put_one : (xs : List Expr) (e : Expr) (es : Exprs) → put (xs ++ e ∷ []) es ≡ put xs (with_expr e es)
put_one [] e es = refl
put_one (x ∷ xs) e es = ap (with_expr x) (put_one xs e es)

abbrev pub put_operands : List (Infix × Expr) → Operands → Operands
put_operands [] os = os
put_operands (x ∷ xs) os = with_operand x.0 x.1 (put_operands xs os)

pub operands_last : (xs : List (Infix × Expr)) (o : Infix) (e : Expr) → operands_of (xs ++ (o, e) ∷ []) ≡ put_operands xs (with_operand o e no_operands)
operands_last [] o e = refl
operands_last (x ∷ xs) o e = ap (with_operand x.0 x.1) (operands_last xs o e)

pub operands_one : (xs : List (Infix × Expr)) (o : Infix) (e : Expr) (os : Operands) → put_operands (xs ++ (o, e) ∷ []) os ≡ put_operands xs (with_operand o e os)
operands_one [] o e os = refl
operands_one (x ∷ xs) o e os = ap (with_operand x.0 x.1) (operands_one xs o e os)

-- an operand with more suffixes
abbrev pub with_suffixes : Operand → Suffixes → Operand
with_suffixes o no_suffixes = o
with_suffixes o (with_suffix s ss) = with_suffixes (suffixed_by o s) ss

abbrev suffix_list : Suffixes → List Suffix
suffix_list no_suffixes = []
suffix_list (with_suffix s ss) = s ∷ suffix_list ss

suffixes_back : (ss : Suffixes) → suffixes_of (suffix_list ss) ≡ ss
suffixes_back no_suffixes = refl
suffixes_back (with_suffix s ss) = ap (with_suffix s) (suffixes_back ss)

pub append_nothing : {A : Type 0} (xs : List A) → xs ≡ xs ++ []
append_nothing [] = refl
append_nothing (x ∷ xs) = ap (λ ys. x ∷ ys) (append_nothing xs)

-- xs, then x, then ys
pub append_one : {A : Type 0} (xs : List A) (x : A) (ys : List A) → (xs ++ x ∷ []) ++ ys ≡ xs ++ x ∷ ys
append_one xs x ys = append_assoc xs (x ∷ []) ys

all_suffixes : (e : Expr) (xs : List Suffix) (ss : Suffixes) → with_suffixes (record { core = e; suffixes = xs }) ss ≡ record { core = e; suffixes = xs ++ suffix_list ss }
all_suffixes e xs no_suffixes = ap (λ ys. record { core = e; suffixes = ys }) (append_nothing xs)
all_suffixes e xs (with_suffix s ss) =
    all_suffixes e (xs ++ s ∷ []) ss ∙ ap (λ ys. record { core = e; suffixes = ys }) (append_assoc xs (s ∷ []) (suffix_list ss))

suffixed_value : (e : Expr) (s : Suffix) (ss : Suffixes) → value_of (with_suffixes (operand e) (with_suffix s ss)) ≡ suffixed e (with_suffix s ss)
suffixed_value e s ss =
    ap value_of (all_suffixes e (s ∷ []) ss) ∙ ap (λ x. suffixed e (with_suffix s x)) (suffixes_back ss)

pub whole_suffixes : (e : Expr) (ss : Suffixes) → ss ≢ no_suffixes → value_of (with_suffixes (operand e) ss) ≡ suffixed e ss
whole_suffixes e no_suffixes h = absurd (h refl)
whole_suffixes e (with_suffix s ss) h = suffixed_value e s ss
