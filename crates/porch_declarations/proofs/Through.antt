-- The builder goes through the tokens that the readers of types and expressions go through.
use Rattle.std.proofs.Common.{◌≡◌, ℕ, Bool, true, false, if◌then◌else◌, List, [], ◌∷◌, ◌++◌, Option, Some, None, refl, sym, subst, ◌∙◌}
use Rattle.porch_tree.specs.declared.word.Keyword.TheVariants as key
use Rattle.porch_tree.specs.declared.word.Word.{Word}
use Rattle.porch_tree.specs.declared.word.Word.TheVariants as word
use Rattle.porch_tree.specs.Mirror.{Expr, Declarator, declarator, lacking, named, inner, value, Declaration, TypeName}
use Rattle.porch_tree.specs.Pieces.{Spelled}
use Rattle.porch_tree.specs.Formed.{IsDeclarator}
use Rattle.porch_parse.specs.Building.{over as over_expr, Frame}
use Rattle.porch_parts.specs.declared.sign.Sign.{Sign}
use Rattle.porch_parts.specs.Signs.{sign_of}
use Rattle.porch_parts.specs.Types.{Place, Point, over_type, over_declarator, is_close_brace}
use Rattle.porch_parts.specs.Parts as parts
use Rattle.porch_parts.specs.Parts.{in_expr, in_type, begins}
use Rattle.porch_parts.specs.Ends.{at_single, at_typed, behind_expr, behind_typed, behind_declared, is_over as ends_here, is_over_point, found_in, found_at, going, Ends}
use Rattle.porch_declarations.specs.Declarations.{Braces, State, at_start, in_typed, in_declared, at_initial, in_value, is_static, is_nameless, opened_at, declared, typed, initial_ended, last_comma, typed_on, declared_on, value_on, typed_step, value_step, is_over, step}
use Rattle.porch_declarations.proofs.Firsts.{IsNoBrace, IsLedByNone}

keeps_at : (fs : List Frame) (p : Place) (x : Point) → is_over_point x ≡ false → found_at fs p x ≡ going (in_type fs p)
keeps_at fs p (over_type y) h = cc
keeps_at fs p (over_declarator d) h = cc
keeps_at fs p x h = refl

keeps : (s : parts.State) → ends_here s ≡ false → found_in s ≡ going s
keeps (in_expr ps (over_expr fs e)) h = cc
keeps (in_expr ps s) h = refl
keeps (in_type fs p) h = keeps_at fs p p.point h

pub decided : (b : Bool) → (b ≡ true → ⊥) → b ≡ false
decided true h = absurd (h refl)
decided false h = refl

not_both : true ≡ false → ⊥
not_both h = cc

-- No base begins with `static`: the reader would end at once.
static_ends : (types : List (List ℕ)) (w : Word) (t : Spelled) → is_static w ≡ true → ends_here (parts.step_on types at_typed w t) ≡ true
static_ends types (word.Key key.Static) t h = refl
static_ends types (word.Key k) t h = cc
static_ends types w t h = cc

pub has_name : (x : Declarator) → IsDeclarator true x → is_nameless x ≡ false
has_name (declarator at ss lacking bs) w = absurd w.2
has_name (declarator at ss (named n) bs) w = refl
has_name (declarator at ss (inner k d) bs) w = refl

module _ (types : List (List ℕ)) (P : State → List Spelled → Type 0) (back : (s : State) (t : Spelled) (ts : List Spelled) → is_over s ≡ false → P (step types s t) ts → P s (t ∷ ts)) where
  -- What holds where this is what a sign does.
  abbrev pub At : (Sign → State) → List Spelled → Type 0
  At f [] = ⊥
  At f (t ∷ ts) = P (f (sign_of t.word)) ts

  pub through_typed : (own : List Spelled) (k : Option ℕ) (s : parts.State) (last : Spelled) (y : TypeName) (rest : List Spelled) → Ends types s own last (behind_typed y)
      → At (typed k y) (last ∷ rest) → P (in_typed k s) (own ++ last ∷ rest)
  through_typed [] k s last y rest h c = back (in_typed k s) last rest refl (subst (λ z. P (typed_on k (found_in z) (sign_of last.word)) rest) (sym h) c)
  through_typed (t ∷ own) k s last y rest h c =
      back (in_typed k s) t (own ++ last ∷ rest) refl
      (subst (λ f. P (typed_on k f (sign_of t.word)) (own ++ last ∷ rest)) (sym (keeps (parts.step types s t) h.0))
      (through_typed own k (parts.step types s t) last y rest h.1 c))

  pub through_declared : (own : List Spelled) (x : Declaration) (s : parts.State) (last : Spelled) (d : Declarator) (rest : List Spelled) → Ends types s own last (behind_declared d)
      → At (declared x d) (last ∷ rest) → P (in_declared x s) (own ++ last ∷ rest)
  through_declared [] x s last d rest h c = back (in_declared x s) last rest refl (subst (λ z. P (declared_on x (found_in z) (sign_of last.word)) rest) (sym h) c)
  through_declared (t ∷ own) x s last d rest h c =
      back (in_declared x s) t (own ++ last ∷ rest) refl
      (subst (λ f. P (declared_on x f (sign_of t.word)) (own ++ last ∷ rest)) (sym (keeps (parts.step types s t) h.0))
      (through_declared own x (parts.step types s t) last d rest h.1 c))

  pub through_value : (own : List Spelled) (x : Declaration) (d : Declarator) (bs : List Braces) (s : parts.State) (last : Spelled) (e : Expr) (rest : List Spelled) → Ends types s own last (behind_expr e)
      → At (initial_ended x d bs (value e)) (last ∷ rest) → P (in_value x d bs s) (own ++ last ∷ rest)
  through_value [] x d bs s last e rest h c = back (in_value x d bs s) last rest refl (subst (λ z. P (value_on x d bs (found_in z) (sign_of last.word)) rest) (sym h) c)
  through_value (t ∷ own) x d bs s last e rest h c =
      back (in_value x d bs s) t (own ++ last ∷ rest) refl
      (subst (λ f. P (value_on x d bs f (sign_of t.word)) (own ++ last ∷ rest)) (sym (keeps (parts.step types s t) h.0))
      (through_value own x d bs (parts.step types s t) last e rest h.1 c))

  -- the same from the very start of a declaration without `static`, and of an initialiser without braces
  no_static : (t : Spelled) (ts : List Spelled) → is_static t.word ≡ false → P (typed_step (begins types t.word t) None at_typed t.word t) ts → P at_start (t ∷ ts)
  no_static t ts h c = back at_start t ts refl (subst (λ (z : Bool). P (if z then in_typed (Some t.at) at_typed else typed_step (begins types t.word t) None at_typed t.word t) ts) (sym h) c)

  pub through_start : (own : List Spelled) (last : Spelled) (y : TypeName) (rest : List Spelled) → Ends types at_typed own last (behind_typed y) → is_static last.word ≡ false
      → At (typed None y) (last ∷ rest) → P at_start (own ++ last ∷ rest)
  through_start [] last y rest h s c = no_static last rest s (subst (λ z. P (typed_on None (found_in z) (sign_of last.word)) rest) (sym h) c)
  through_start (t ∷ own) last y rest h s c =
      no_static t (own ++ last ∷ rest) (decided (is_static t.word) (λ k. not_both (sym (static_ends types t.word t k) ∙ h.0)))
      (subst (λ f. P (typed_on None f (sign_of t.word)) (own ++ last ∷ rest)) (sym (keeps (parts.step types at_typed t) h.0))
      (through_typed own None (parts.step types at_typed t) last y rest h.1 c))

  no_brace : (x : Declaration) (d : Declarator) (bs : List Braces) (t : Spelled) (ts : List Spelled) → IsNoBrace t.word → P (value_step (begins types t.word t) x d bs at_single t.word t) ts → P (at_initial x d bs) (t ∷ ts)
  no_brace x d bs t ts l c =
      back (at_initial x d bs) t ts refl
      (subst (λ (z : Bool). P (if z then at_initial x d (opened_at t.at ∷ bs) else if is_close_brace (sign_of t.word) then last_comma x d bs else value_step (begins types t.word t) x d bs at_single t.word t) ts) (sym l.0)
      (subst (λ (z : Bool). P (if z then last_comma x d bs else value_step (begins types t.word t) x d bs at_single t.word t) ts) (sym l.1) c))

  pub through_initial : (own : List Spelled) (x : Declaration) (d : Declarator) (bs : List Braces) (last : Spelled) (e : Expr) (rest : List Spelled) → Ends types at_single own last (behind_expr e)
      → IsLedByNone (own ++ last ∷ rest) → At (initial_ended x d bs (value e)) (last ∷ rest) → P (at_initial x d bs) (own ++ last ∷ rest)
  through_initial [] x d bs last e rest h l c = no_brace x d bs last rest l (subst (λ z. P (value_on x d bs (found_in z) (sign_of last.word)) rest) (sym h) c)
  through_initial (t ∷ own) x d bs last e rest h l c =
      no_brace x d bs t (own ++ last ∷ rest) l
      (subst (λ f. P (value_on x d bs f (sign_of t.word)) (own ++ last ∷ rest)) (sym (keeps (parts.step types at_single t) h.0))
      (through_value own x d bs (parts.step types at_single t) last e rest h.1 c))
