-- How tightly expressions bind, and what frames that brings to an end.
use Rattle.std.proofs.Common.{◌≡◌, ℕ, ◌+◌, ◌<◌, ◌≤◌, true, false, nat_lt, nat_eq, Bool, if◌then◌else◌, None, List, [], ◌∷◌, ◌++◌, refl, ap, arith}
use Rattle.std.specs.Prelude.{⊤}
use Rattle.std.proofs.lemmas.Bool.Decides.{nat_tests}
use Rattle.porch_tree.specs.declared.tree.Level.{Level}
use Rattle.porch_tree.specs.declared.tree.Level.TheVariants as level_variant
use Rattle.porch_tree.specs.declared.tree.Infix.{Infix}
use Rattle.porch_tree.specs.declared.tree.Infix.TheVariants as infix_variant
use Rattle.porch_tree.specs.declared.tree.Prefix.{Prefix}
use Rattle.porch_tree.specs.declared.tree.Prefix.TheVariants as prefix_variant
use Rattle.porch_tree.specs.declared.tree.Assigning.{Assigning}
use Rattle.porch_tree.specs.declared.tree.Assigning.TheVariants as assigning_variant
use Rattle.porch_tree.specs.Words.{level_rank, infix_mark, assigning_mark, prefix_word}
use Rattle.porch_tree.specs.Mirror.{TypeName, Expr, name, prefixed, cast, row, conditional, assign, sequence}
use Rattle.porch_tree.specs.Formed.{IsUnary, IsTighter, IsCast, IsCondition, IsCond, IsAssign, IsOperandOf}
use Rattle.porch_parse.specs.declared.part.Part.TheVariants as part
use Rattle.porch_parse.specs.declared.part.Start.{Start}
use Rattle.porch_parse.specs.declared.part.Start.TheVariants as start
use Rattle.porch_tree.specs.declared.word.Word.{Word}
use Rattle.porch_tree.specs.Pieces.{Spelled}
use Rattle.porch_parts.specs.Types.{Part}
use Rattle.porch_parts.specs.Parts.{in_expr, expr_on}
use Rattle.porch_parse.specs.Parts.{mark_part, start_of}
use Rattle.porch_parse.specs.Building.{Frame, behind_prefix, behind_infix, behind_comma, behind_cast, in_arguments, alone, awaits, may_cast, top_prefix, sizeof_in, start_step, frame_number, level_number, closed, built, operated, extended, behind_the_comma}

-- the number of the frame that an expression ends with
abbrev pub level : Expr → ℕ
level (prefixed at p e) = 14
level (cast at t e) = 14
level (row l e os) = 4 + level_rank l
level (conditional e a b) = 3
level (assign a x e) = 3
level (sequence e es) = 2
level e = 15

-- below which that of the innermost frame is where the expression stands
abbrev pub floor : Expr → ℕ
floor (row l e os) = 4 + level_rank l
floor (conditional e a b) = 4
floor (assign a x e) = 4
floor (sequence e es) = 1
floor e = 15

abbrev pub top : List Frame → ℕ
top [] = 0
top (f ∷ fs) = frame_number f

pub floor_positive : (e : Expr) → 0 < floor e
floor_positive (row l e os) = omega arith
floor_positive (name n) = omega arith
floor_positive e = omega arith

pub ends_level : (e : Expr) → 1 < level e
ends_level (row l e os) = omega arith
ends_level (name n) = omega arith
ends_level e = omega arith

rank_small : (l : Level) → level_rank l ≤ 9
rank_small level_variant.Any = omega arith
rank_small l = omega arith

pub tighter_level : (l : Level) (e : Expr) → IsTighter l e → 4 + level_rank l < level e
tighter_level l (row m e os) h = omega (arith, h)
tighter_level l (conditional e a b) h = absurd h
tighter_level l (assign a x e) h = absurd h
tighter_level l (sequence e es) h = absurd h
tighter_level l (name n) h = let r = rank_small l in omega (arith, r)
tighter_level l e h = let r = rank_small l in omega (arith, r)

pub tighter_floor : (l : Level) (e : Expr) → IsTighter l e → 4 + level_rank l < floor e
tighter_floor l (row m e os) h = omega (arith, h)
tighter_floor l (conditional e a b) h = absurd h
tighter_floor l (assign a x e) h = absurd h
tighter_floor l (sequence e es) h = absurd h
tighter_floor l (name n) h = let r = rank_small l in omega (arith, r)
tighter_floor l e h = let r = rank_small l in omega (arith, r)

pub condition_level : (e : Expr) → IsCondition e → 3 < level e
condition_level (row m e os) h = omega arith
condition_level (conditional e a b) h = absurd h
condition_level (assign a x e) h = absurd h
condition_level (sequence e es) h = absurd h
condition_level (name n) h = omega arith
condition_level e h = omega arith

pub condition_floor : (e : Expr) → IsCondition e → 3 < floor e
condition_floor (row m e os) h = omega arith
condition_floor (conditional e a b) h = absurd h
condition_floor (assign a x e) h = absurd h
condition_floor (sequence e es) h = absurd h
condition_floor (name n) h = omega arith
condition_floor e h = omega arith

pub assign_level : (e : Expr) → IsAssign e → 2 < level e
assign_level (row m e os) h = omega arith
assign_level (sequence e es) h = absurd h
assign_level (name n) h = omega arith
assign_level e h = omega arith

pub assign_floor : (e : Expr) → IsAssign e → 3 < floor e
assign_floor (row m e os) h = omega arith
assign_floor (sequence e es) h = absurd h
assign_floor (name n) h = omega arith
assign_floor e h = omega arith

pub cond_assign : (e : Expr) → IsCond e → IsAssign e
cond_assign (assign a x e) h = absurd h
cond_assign (sequence e es) h = absurd h
cond_assign (name n) h = tt
cond_assign e h = tt

pub unary_cast : (e : Expr) → IsUnary e → IsCast e
unary_cast (row l e os) h = absurd h
unary_cast (conditional e a b) h = absurd h
unary_cast (assign a x e) h = absurd h
unary_cast (sequence e es) h = absurd h
unary_cast (cast at t e) h = absurd h
unary_cast (name n) h = tt
unary_cast e h = tt

pub operand_cast : (p : Prefix) (e : Expr) → IsOperandOf p e → IsCast e
operand_cast prefix_variant.Increase e h = unary_cast e h
operand_cast prefix_variant.Decrease e h = unary_cast e h
operand_cast prefix_variant.Sizeof e h = unary_cast e h
operand_cast prefix_variant.Address e h = h
operand_cast p e h = h

pub cast_level : (e : Expr) → IsCast e → 13 < level e
cast_level (row l e os) h = absurd h
cast_level (conditional e a b) h = absurd h
cast_level (assign a x e) h = absurd h
cast_level (sequence e es) h = absurd h
cast_level (name n) h = omega arith
cast_level e h = omega arith

pub cast_floor : (e : Expr) → IsCast e → 14 < floor e
cast_floor (row l e os) h = absurd h
cast_floor (conditional e a b) h = absurd h
cast_floor (assign a x e) h = absurd h
cast_floor (sequence e es) h = absurd h
cast_floor (name n) h = omega arith
cast_floor e h = omega arith

pub comma_floor : (e : Expr) → IsAssign e → 2 < floor e
comma_floor e h = let l = assign_floor e h in omega (arith, l)

pub argument_floor : (e : Expr) → IsAssign e → 1 < floor e
argument_floor e h = let l = assign_floor e h in omega (arith, l)

lt_true : (n m : ℕ) → n < m → nat_lt n m ≡ true
lt_true n m h = search arith

lt_false : (n m : ℕ) → m ≤ n → nat_lt n m ≡ false
lt_false n m h = grind (arith, nat_tests)

-- a frame that binds tighter ends, and one that doesn't stays
pub ends : (n : ℕ) (f : Frame) (fs : List Frame) (e : Expr) → n < frame_number f → closed n (f ∷ fs) e ≡ closed n fs (built f e)
ends n f fs e h =
    ap (λ b. if b then closed n fs (built f e) else record { frames = f ∷ fs; value = e }) (lt_true n (frame_number f) h)

pub stays : (n : ℕ) (fs : List Frame) (e : Expr) → top fs ≤ n → closed n fs e ≡ record { frames = fs; value = e }
stays n [] e h = refl
stays n (f ∷ fs) e h =
    ap (λ b. if b then closed n fs (built f e) else record { frames = f ∷ fs; value = e }) (lt_false n (frame_number f) h)

eq_true : (n m : ℕ) → n ≡ m → nat_eq n m ≡ true
eq_true n m h = search (arith, h)

eq_false : (n m : ℕ) → n < m → nat_eq n m ≡ false
eq_false n m h = grind (arith, nat_tests)

-- an operator begins a row, or goes on with one
pub begins_row : (o : Infix) (fs : List Frame) (e : Expr) → top fs < level_number o → operated o fs e ≡ awaits (behind_infix e [] o ∷ fs)
begins_row o [] e h = refl
begins_row o (behind_infix x xs p ∷ fs) e h =
    ap (λ b. if b then extended o (behind_infix x xs p ∷ fs) e else awaits (behind_infix e [] o ∷ behind_infix x xs p ∷ fs)) (eq_false (level_number p) (level_number o) h)
begins_row o (behind_prefix at p ∷ fs) e h = refl
begins_row o (f ∷ fs) e h = refl

pub continues_row : (o p : Infix) (fs : List Frame) (x : Expr) (xs : List (Infix × Expr)) (e : Expr) → level_number p ≡ level_number o
    → operated o (behind_infix x xs p ∷ fs) e ≡ awaits (behind_infix x (xs ++ (p, e) ∷ []) o ∷ fs)
continues_row o p fs x xs e h =
    ap (λ b. if b then extended o (behind_infix x xs p ∷ fs) e else awaits (behind_infix e [] o ∷ behind_infix x xs p ∷ fs)) (eq_true (level_number p) (level_number o) h)

pub begins_sequence : (fs : List Frame) (e : Expr) → top fs < 1 → behind_the_comma fs e ≡ awaits (behind_comma e [] ∷ fs)
begins_sequence [] e h = refl
begins_sequence (behind_comma x xs ∷ fs) e h = absurd (omega (arith, h))
begins_sequence (in_arguments o xs ∷ fs) e h = absurd (omega (arith, h))
begins_sequence (alone ∷ fs) e h = absurd (omega (arith, h))
begins_sequence (behind_prefix at p ∷ fs) e h = refl
begins_sequence (f ∷ fs) e h = refl

-- the words of the operators
pub infix_part : (o : Infix) → mark_part (infix_mark o) ≡ part.Infix o
infix_part infix_variant.Any = refl
infix_part o = refl

pub assigning_part : (a : Assigning) → mark_part (assigning_mark a) ≡ part.Assigning a
assigning_part assigning_variant.Plain = refl
assigning_part a = refl

pub prefix_start : (p : Prefix) → start_of (prefix_word p) ≡ start.Prefix p
prefix_start prefix_variant.Increase = refl
prefix_start p = refl

-- where a type in parentheses may stand
abbrev pub may : List Frame → Bool
may fs = may_cast (top_prefix fs)

low_prefix : (fs : List Frame) → top fs < 14 → top_prefix fs ≡ None
low_prefix [] h = refl
low_prefix (behind_prefix at p ∷ fs) h = absurd (omega (arith, h))
low_prefix (behind_comma x xs ∷ fs) h = refl
low_prefix (f ∷ fs) h = refl

pub low_may : (fs : List Frame) → top fs < 14 → may fs ≡ true
low_may fs h = ap may_cast (low_prefix fs h)

-- A cast stands where a type in parentheses may stand, and not directly behind `sizeof`.
abbrev pub Stands : List Frame → Expr → Type 0
Stands fs (cast at x e) = (may fs ≡ true) × (sizeof_in (top_prefix fs) ≡ None)
Stands fs e = ⊤

pub low_stands : (fs : List Frame) (e : Expr) → top fs < 14 → Stands fs e
low_stands fs (cast at x e) h = (low_may fs h, ap sizeof_in (low_prefix fs h))
low_stands fs (name n) h = tt
low_stands fs e h = tt

pub operand_stands : (at : ℕ) (p : Prefix) (fs : List Frame) (e : Expr) → IsOperandOf p e → Stands (behind_prefix at p ∷ fs) e
operand_stands at prefix_variant.Increase fs (cast k x e) h = absurd h
operand_stands at prefix_variant.Decrease fs (cast k x e) h = absurd h
operand_stands at prefix_variant.Sizeof fs (cast k x e) h = absurd h
operand_stands at prefix_variant.Address fs (cast k x e) h = (refl, refl)
operand_stands at p fs (cast k x e) h = (refl, refl)
operand_stands at p fs (name n) h = tt
operand_stands at p fs e h = tt

pub cast_stands : (at : ℕ) (x : TypeName) (fs : List Frame) (e : Expr) → Stands (behind_cast at x ∷ fs) e
cast_stands at x fs (cast k y e) = (refl, refl)
cast_stands at x fs (name n) = tt
cast_stands at x fs e = tt

pub row_low : (l : Level) → 4 + level_rank l < 14
row_low l = let r = rank_small l in omega (arith, r)

-- where an expression begins that stands alone, it goes on, whatever the word
pub awaits_on : (x : Start) (b : Bool) (qs : List Part) (fs : List Frame) (w : Word) (t : Spelled)
    → expr_on b qs (start_step (alone ∷ fs) x t) w t ≡ in_expr qs (start_step (alone ∷ fs) x t)
awaits_on start.Name b qs fs w t = refl
awaits_on x b qs fs w t = refl
