-- What was read is an expression so far: the tokens that it has in it, and each part in its bounds.
use Rattle.std.proofs.Common.{◌≡◌, ◌≢◌, ℕ, ◌+◌, ◌-◌, ◌<◌, ◌≤◌, Bool, true, false, nat_lt, if◌then◌else◌, List, [], ◌∷◌, ◌++◌, Option, Some, None, refl, sym, ap, subst, ◌∙◌, append_assoc, arith}
use Rattle.porch_syntax.specs.declared.token.Token.{Token}
use Rattle.porch_syntax.specs.declared.token.Token.TheVariants as token
use Rattle.porch_syntax.specs.declared.tree.Sign.{Sign}
use Rattle.porch_syntax.specs.declared.expression.Atom.{Atom}
use Rattle.porch_syntax.specs.declared.expression.Atom.TheVariants as atom
use Rattle.porch_syntax.specs.declared.expression.Part.{Part}
use Rattle.porch_syntax.specs.declared.expression.Part.TheVariants as part
use Rattle.porch_syntax.specs.Tree.{Node, nested, no_terms, nodes_of, terms_of}
use Rattle.porch_syntax.specs.Language.{sign_token, expr_tokens, factor_tokens, term_tokens, binding_of, IsGrouped, AreFactors, AreTerms, IsWithin, AreWithin, TermsAreWithin, depth_of, factors_depth, terms_depth, IsExpr}
use Rattle.porch_syntax.specs.inside.Reading.{part_of, atom_node, Factors, Terms, Front, Frame, Reading, at_atom, behind_atom, Outcome, goes, ends, wrong, with_factor, product_at, product_of, with_term, sum_of, compared, value_of, fresh, opened, closed, ended, measured, at_step, behind_step, read_step}
use Rattle.porch_syntax.proofs.Lists.{append_nothing, append_one}

-- The tokens.

abbrev pub left_tokens : Option Node → List Token
left_tokens None = []
left_tokens (Some e) = expr_tokens e ++ token.Less ∷ []

abbrev pub terms_tokens : Option Terms → List Token
terms_tokens None = []
terms_tokens (Some t) = expr_tokens t.first ++ (term_tokens (terms_of t.more) ++ sign_token t.sign ∷ [])

abbrev pub factors_tokens : Factors → List Token
factors_tokens v = expr_tokens v.first ++ factor_tokens (nodes_of v.more)

abbrev pub pending_tokens : Option Factors → List Token
pending_tokens None = []
pending_tokens (Some v) = factors_tokens v ++ token.Star ∷ []

abbrev pub front_tokens : Front → List Token
front_tokens f = left_tokens f.left ++ terms_tokens f.terms

abbrev pub frame_tokens : Frame → List Token
frame_tokens f = front_tokens f.front ++ pending_tokens f.factors

abbrev pub frames_tokens : List Frame → List Token
frames_tokens [] = []
frames_tokens (f ∷ fs) = frames_tokens fs ++ (frame_tokens f ++ token.OpenParenthesis ∷ [])

abbrev pub reading_tokens : Reading → List Token
reading_tokens (at_atom fs f) = frames_tokens fs ++ frame_tokens f
reading_tokens (behind_atom fs f v) = frames_tokens fs ++ (front_tokens f ++ factors_tokens v)

-- The bounds.

pub record Good (b n d : ℕ) (e : Node) : Type 0 where
  pub binds : b < binding_of e
  pub grouped : IsGrouped e
  pub within : IsWithin n e
  pub shallow : 1 + depth_of e ≤ d

abbrev pub AllGood : ℕ → ℕ → List Node → Type 0
AllGood n d [] = Unit {0}
AllGood n d (e ∷ es) = Good 2 n d e × AllGood n d es

abbrev pub TermsGood : ℕ → ℕ → List (Sign × Node) → Type 0
TermsGood n d [] = Unit {0}
TermsGood n d (t ∷ ts) = Good 1 n d t.1 × TermsGood n d ts

abbrev pub FactorsGood : ℕ → ℕ → Factors → Type 0
FactorsGood n d v = Good 2 n d v.first × AllGood n d v.more

abbrev pub LeftGood : ℕ → ℕ → Option Node → Type 0
LeftGood n d None = Unit {0}
LeftGood n d (Some e) = Good 0 n d e

abbrev pub SumGood : ℕ → ℕ → Option Terms → Type 0
SumGood n d None = Unit {0}
SumGood n d (Some t) = Good 1 n d t.first × TermsGood n d t.more

abbrev pub PendingGood : ℕ → ℕ → Option Factors → Type 0
PendingGood n d None = Unit {0}
PendingGood n d (Some v) = FactorsGood n d v

abbrev pub FrontGood : ℕ → Front → Type 0
FrontGood n f = (1 ≤ f.room) × LeftGood n f.room f.left × SumGood n f.room f.terms

abbrev pub FrameGood : ℕ → Frame → Type 0
FrameGood n f = FrontGood n f.front × PendingGood n f.front.room f.factors

-- the frames below one with so much room
abbrev pub FramesGood : ℕ → ℕ → ℕ → List Frame → Type 0
FramesGood n start d [] = d ≡ start
FramesGood n start d (f ∷ fs) = (f.front.room ≡ d + 1) × FrameGood n f × FramesGood n start f.front.room fs

abbrev pub ReadingGood : ℕ → ℕ → Reading → Type 0
ReadingGood n start (at_atom fs f) = FrameGood n f × FramesGood n start f.front.room fs
ReadingGood n start (behind_atom fs f v) = FrontGood n f × FactorsGood n f.room v × FramesGood n start f.room fs

-- Lists grow at their ends.

factor_last : (es : List Node) (e : Node) → factor_tokens (nodes_of (es ++ e ∷ [])) ≡ factor_tokens (nodes_of es) ++ token.Star ∷ expr_tokens e
factor_last [] e = ap (λ (x : List Token). token.Star ∷ x) (append_nothing (expr_tokens e))
factor_last (x ∷ es) e =
    ap (λ (ts : List Token). token.Star ∷ (expr_tokens x ++ ts)) (factor_last es e)
    ∙ ap (λ (ts : List Token). token.Star ∷ ts) (sym (append_assoc (expr_tokens x) (factor_tokens (nodes_of es)) (token.Star ∷ expr_tokens e)))

term_last : (ts : List (Sign × Node)) (s : Sign) (e : Node)
    → term_tokens (terms_of (ts ++ (s, e) ∷ [])) ≡ term_tokens (terms_of ts) ++ sign_token s ∷ expr_tokens e
term_last [] s e = ap (λ (x : List Token). sign_token s ∷ x) (append_nothing (expr_tokens e))
term_last (t ∷ ts) s e =
    ap (λ (x : List Token). sign_token t.0 ∷ (expr_tokens t.1 ++ x)) (term_last ts s e)
    ∙ ap (λ (x : List Token). sign_token t.0 ∷ x) (sym (append_assoc (expr_tokens t.1) (term_tokens (terms_of ts)) (sign_token s ∷ expr_tokens e)))

all_last : (n d : ℕ) (es : List Node) (e : Node) → AllGood n d es → Good 2 n d e → AllGood n d (es ++ e ∷ [])
all_last n d [] e g h = (h, tt)
all_last n d (x ∷ es) e g h = (g.0, all_last n d es e g.1 h)

terms_last : (n d : ℕ) (ts : List (Sign × Node)) (s : Sign) (e : Node) → TermsGood n d ts → Good 1 n d e → TermsGood n d (ts ++ (s, e) ∷ [])
terms_last n d [] s e g h = (h, tt)
terms_last n d (t ∷ ts) s e g h = (g.0, terms_last n d ts s e g.1 h)

-- A product, a sum and a comparison.

with_factor_tokens : (p : Option Factors) (e : Node) → factors_tokens (with_factor p e) ≡ pending_tokens p ++ expr_tokens e
with_factor_tokens None e = append_nothing (expr_tokens e)
with_factor_tokens (Some v) e =
    ap (λ (x : List Token). expr_tokens v.first ++ x) (factor_last v.more e)
    ∙ simp append_assoc

with_factor_good : (n d : ℕ) (p : Option Factors) (e : Node) → PendingGood n d p → Good 2 n d e → FactorsGood n d (with_factor p e)
with_factor_good n d None e g h = (h, tt)
with_factor_good n d (Some v) e g h = (g.0, all_last n d v.more e g.1 h)

product_at_tokens : (e : Node) (es : List Node) → expr_tokens (product_at e es) ≡ expr_tokens e ++ factor_tokens (nodes_of es)
product_at_tokens e [] = sym (append_nothing (expr_tokens e))
product_at_tokens e (x ∷ es) = refl

pub record AreGood (n d : ℕ) (es : List Node) : Type 0 where
  pub factors : AreFactors (nodes_of es)
  pub within : AreWithin n (nodes_of es)
  pub shallow : 1 + factors_depth (nodes_of es) ≤ d

are_good : (n d : ℕ) (es : List Node) → 1 ≤ d → AllGood n d es → AreGood n d es
are_good n d [] h g = record { factors = tt; within = tt; shallow = omega arith }
are_good n d (e ∷ es) h g =
    let more = are_good n d es h g.1 in
    let one : 1 + depth_of e ≤ d = g.0.shallow in
    let rest : 1 + factors_depth (nodes_of es) ≤ d = more.shallow in
    record { factors = (g.0.binds, g.0.grouped, more.factors); within = (g.0.within, more.within); shallow = omega arith }

product_at_good : (n d : ℕ) (e : Node) (es : List Node) → 1 ≤ d → Good 2 n d e → AllGood n d es → Good 1 n d (product_at e es)
product_at_good n d e [] h g k = record { binds = omega (arith, g.binds); grouped = g.grouped; within = g.within; shallow = g.shallow }
product_at_good n d e (x ∷ es) h g k =
    let more = are_good n d (x ∷ es) h k in
    let one : 1 + depth_of e ≤ d = g.shallow in
    let rest : 1 + factors_depth (nodes_of (x ∷ es)) ≤ d = more.shallow in
    record { binds = omega arith; grouped = (g.binds, g.grouped, (λ q. cc), more.factors); within = (g.within, more.within); shallow = omega arith }

with_term_tokens : (t : Option Terms) (e : Node) (s : Sign) → terms_tokens (Some (with_term t e s)) ≡ (terms_tokens t ++ expr_tokens e) ++ sign_token s ∷ []
with_term_tokens None e s = refl
with_term_tokens (Some t) e s =
    ap (λ (x : List Token). expr_tokens t.first ++ (x ++ sign_token s ∷ [])) (term_last t.more t.sign e)
    ∙ simp append_assoc

with_term_good : (n d : ℕ) (t : Option Terms) (e : Node) (s : Sign) → SumGood n d t → Good 1 n d e → SumGood n d (Some (with_term t e s))
with_term_good n d None e s g h = (h, tt)
with_term_good n d (Some t) e s g h = (g.0, terms_last n d t.more t.sign e g.1 h)

sum_of_tokens : (t : Option Terms) (e : Node) → expr_tokens (sum_of t e) ≡ terms_tokens t ++ expr_tokens e
sum_of_tokens None e = refl
sum_of_tokens (Some t) e =
    ap (λ (x : List Token). expr_tokens t.first ++ x) (term_last t.more t.sign e)
    ∙ simp append_assoc

pub record TermsAreGood (n d : ℕ) (ts : List (Sign × Node)) : Type 0 where
  pub terms : AreTerms (terms_of ts)
  pub within : TermsAreWithin n (terms_of ts)
  pub shallow : 1 + terms_depth (terms_of ts) ≤ d

terms_are_good : (n d : ℕ) (ts : List (Sign × Node)) → 1 ≤ d → TermsGood n d ts → TermsAreGood n d ts
terms_are_good n d [] h g = record { terms = tt; within = tt; shallow = omega arith }
terms_are_good n d (t ∷ ts) h g =
    let more = terms_are_good n d ts h g.1 in
    let one : 1 + depth_of t.1 ≤ d = g.0.shallow in
    let rest : 1 + terms_depth (terms_of ts) ≤ d = more.shallow in
    record { terms = (g.0.binds, g.0.grouped, more.terms); within = (g.0.within, more.within); shallow = omega arith }

some_terms : (ts : List (Sign × Node)) (s : Sign) (e : Node) → terms_of (ts ++ (s, e) ∷ []) ≢ no_terms
some_terms [] s e q = cc
some_terms (t ∷ ts) s e q = cc

sum_of_good : (n d : ℕ) (t : Option Terms) (e : Node) → 1 ≤ d → SumGood n d t → Good 1 n d e → Good 0 n d (sum_of t e)
sum_of_good n d None e h g k = record { binds = omega (arith, k.binds); grouped = k.grouped; within = k.within; shallow = k.shallow }
sum_of_good n d (Some t) e h g k =
    let more = terms_are_good n d (t.more ++ (t.sign, e) ∷ []) h (terms_last n d t.more t.sign e g.1 k) in
    let one : 1 + depth_of t.first ≤ d = g.0.shallow in
    let rest : 1 + terms_depth (terms_of (t.more ++ (t.sign, e) ∷ [])) ≤ d = more.shallow in
    record { binds = omega arith; grouped = (g.0.binds, g.0.grouped, some_terms t.more t.sign e, more.terms); within = (g.0.within, more.within); shallow = omega arith }

compared_tokens : (l : Option Node) (e : Node) → expr_tokens (compared l e) ≡ left_tokens l ++ expr_tokens e
compared_tokens None e = refl
compared_tokens (Some a) e = sym (append_one (expr_tokens a) token.Less (expr_tokens e))

compared_good : (n d : ℕ) (l : Option Node) (e : Node) → LeftGood n d l → Good 0 n d e → IsExpr n d (compared l e)
compared_good n d None e g k = record { grouped = k.grouped; within = k.within; shallow = k.shallow }
compared_good n d (Some a) e g k =
    let one : 1 + depth_of a ≤ d = g.shallow in
    let rest : 1 + depth_of e ≤ d = k.shallow in
    record { grouped = (g.binds, g.grouped, k.binds, k.grouped); within = (g.within, k.within); shallow = omega arith }

product_good : (n d : ℕ) (v : Factors) → 1 ≤ d → FactorsGood n d v → Good 1 n d (product_of v)
product_good n d v h g = product_at_good n d v.first v.more h g.0 g.1

value_tokens : (f : Front) (v : Factors) → expr_tokens (value_of f v) ≡ front_tokens f ++ factors_tokens v
value_tokens f v =
    compared_tokens f.left (sum_of f.terms (product_of v))
    ∙ ap (λ (x : List Token). left_tokens f.left ++ x) (sum_of_tokens f.terms (product_of v)
    ∙ ap (λ (x : List Token). terms_tokens f.terms ++ x) (product_at_tokens v.first v.more))
    ∙ sym (append_assoc (left_tokens f.left) (terms_tokens f.terms) (factors_tokens v))

value_good : (n : ℕ) (f : Front) (v : Factors) → FrontGood n f → FactorsGood n f.room v → IsExpr n f.room (value_of f v)
value_good n f v g h =
    compared_good n f.room f.left (sum_of f.terms (product_of v)) g.1
    (sum_of_good n f.room f.terms (product_of v) g.0 g.2 (product_good n f.room v g.0 h))

-- What a token is in an expression.

abbrev pub PartIs : ℕ → Token → Part → Type 0
PartIs n t (part.Atom a) = (expr_tokens (atom_node a) ≡ t ∷ []) × IsWithin n (atom_node a)
PartIs n t part.Open = token.OpenParenthesis ≡ t
PartIs n t part.Close = token.CloseParenthesis ≡ t
PartIs n t part.Times = token.Star ≡ t
PartIs n t (part.Add s) = sign_token s ≡ t
PartIs n t part.Less = token.Less ≡ t
PartIs n t part.Other = Unit {0}

below_is : (x n : ℕ) → nat_lt x n ≡ true → x < n
below_is x n h = search (arith, h)

name_is : (n x : ℕ) (b : Bool) → nat_lt x n ≡ b → PartIs n (token.Name x) (if b then part.Atom (atom.Variable x) else part.Other)
name_is n x true h = (refl, below_is x n h)
name_is n x false h = tt

part_is : (n : ℕ) (t : Token) → PartIs n t (part_of n t)
part_is n (token.Name x) = name_is n x (nat_lt x n) refl
part_is n (token.Whole z) = (refl, tt)
part_is n (token.Character c) = (refl, tt)
part_is n token.OpenParenthesis = refl
part_is n token.CloseParenthesis = refl
part_is n token.Star = refl
part_is n token.Plus = refl
part_is n token.Minus = refl
part_is n token.Less = refl
part_is n token.Int = tt
part_is n token.Main = tt
part_is n token.Void = tt
part_is n token.While = tt
part_is n token.Return = tt
part_is n token.Putchar = tt
part_is n token.OpenBrace = tt
part_is n token.CloseBrace = tt
part_is n token.Semicolon = tt
part_is n token.Assign = tt

atom_good : (n d : ℕ) (a : Atom) → 1 ≤ d → IsWithin n (atom_node a) → Good 2 n d (atom_node a)
atom_good n d (atom.Variable x) h w = record { binds = omega arith; grouped = tt; within = w; shallow = omega arith }
atom_good n d (atom.Whole z) h w = record { binds = omega arith; grouped = tt; within = tt; shallow = omega arith }
atom_good n d (atom.Character c) h w = record { binds = omega arith; grouped = tt; within = tt; shallow = omega arith }

-- What a step leaves.

abbrev pub StepIs : ℕ → ℕ → Reading → Token → Outcome → Type 0
StepIs n start r t (goes s) = ReadingGood n start s × (reading_tokens s ≡ reading_tokens r ++ t ∷ [])
StepIs n start r t (ends e) = IsExpr n start e × (reading_tokens r ≡ expr_tokens e)
StepIs n start r t wrong = Unit {0}

atom_tokens : (fs : List Frame) (f : Frame) (e : Node) (ts : List Token) → expr_tokens e ≡ ts
    → frames_tokens fs ++ (front_tokens f.front ++ factors_tokens (with_factor f.factors e)) ≡ (frames_tokens fs ++ frame_tokens f) ++ ts
atom_tokens fs f e ts h =
    ap (λ (x : List Token). frames_tokens fs ++ (front_tokens f.front ++ x)) (with_factor_tokens f.factors e ∙ ap (λ (x : List Token). pending_tokens f.factors ++ x) h)
    ∙ ap (λ (x : List Token). frames_tokens fs ++ x) (sym (append_assoc (front_tokens f.front) (pending_tokens f.factors) ts))
    ∙ sym (append_assoc (frames_tokens fs) (frame_tokens f) ts)

opened_is : (n start : ℕ) (fs : List Frame) (f : Frame) (b : Bool) → nat_lt 1 f.front.room ≡ b → FrameGood n f → FramesGood n start f.front.room fs
    → StepIs n start (at_atom fs f) token.OpenParenthesis (if b then goes (at_atom (f ∷ fs) (fresh (f.front.room - 1))) else wrong)
opened_is n start fs f false e g k = tt
opened_is n start fs f true e g k =
    let more : 1 < f.front.room = below_is 1 f.front.room e in
    let less_room : 1 ≤ f.front.room - 1 = omega arith in
    let one_more : f.front.room ≡ (f.front.room - 1) + 1 = omega arith in (
      (((less_room, tt, tt), tt), (one_more, g, k)),
      append_nothing (frames_tokens fs ++ (frame_tokens f ++ token.OpenParenthesis ∷ []))
          ∙ sym (append_assoc (frames_tokens fs) (frame_tokens f) (token.OpenParenthesis ∷ [])),
    )

at_is : (n start : ℕ) (fs : List Frame) (f : Frame) (t : Token) (p : Part) → PartIs n t p → FrameGood n f → FramesGood n start f.front.room fs
    → StepIs n start (at_atom fs f) t (at_step fs f p)
at_is n start fs f t (part.Atom a) h g k = (
  (g.0, with_factor_good n f.front.room f.factors (atom_node a) g.1 (atom_good n f.front.room a g.0.0 h.1), k),
  atom_tokens fs f (atom_node a) (t ∷ []) h.0,
)
at_is n start fs f t part.Open h g k =
    subst (λ (x : Token). StepIs n start (at_atom fs f) x (opened fs f)) h (opened_is n start fs f (nat_lt 1 f.front.room) refl g k)
at_is n start fs f t part.Close h g k = tt
at_is n start fs f t part.Times h g k = tt
at_is n start fs f t (part.Add s) h g k = tt
at_is n start fs f t part.Less h g k = tt
at_is n start fs f t part.Other h g k = tt

ended_is : (n start : ℕ) (fs : List Frame) (f : Front) (v : Factors) (t : Token) → FrontGood n f → FactorsGood n f.room v → FramesGood n start f.room fs
    → StepIs n start (behind_atom fs f v) t (ended fs (value_of f v))
ended_is n start [] f v t g h k = (subst (λ (d : ℕ). IsExpr n d (value_of f v)) k (value_good n f v g h), sym (value_tokens f v))
ended_is n start (x ∷ fs) f v t g h k = tt

nested_good : (n d r : ℕ) (e : Node) → r ≡ d + 1 → IsExpr n d e → Good 2 n r (nested e)
nested_good n d r e h i =
    let one : 1 + depth_of e ≤ d = i.shallow in
    record { binds = omega arith; grouped = i.grouped; within = i.within; shallow = omega arith }

closed_is : (n start : ℕ) (fs : List Frame) (f : Front) (v : Factors) → FrontGood n f → FactorsGood n f.room v → FramesGood n start f.room fs
    → StepIs n start (behind_atom fs f v) token.CloseParenthesis (closed fs (value_of f v))
closed_is n start [] f v g h k = (subst (λ (d : ℕ). IsExpr n d (value_of f v)) k (value_good n f v g h), sym (value_tokens f v))
closed_is n start (x ∷ fs) f v g h k =
    let e : Node = value_of f v in (
      (k.1.0, with_factor_good n x.front.room x.factors (nested e) k.1.1 (nested_good n f.room x.front.room e k.0 (value_good n f v g h)), k.2),
      atom_tokens fs x (nested e) (token.OpenParenthesis ∷ ((front_tokens f ++ factors_tokens v) ++ token.CloseParenthesis ∷ []))
          (ap (λ (y : List Token). token.OpenParenthesis ∷ (y ++ token.CloseParenthesis ∷ [])) (value_tokens f v))
          ∙ simp append_assoc,
    )

add_tokens : (f : Front) (v : Factors) (s : Sign)
    → left_tokens f.left ++ terms_tokens (Some (with_term f.terms (product_of v) s)) ≡ (front_tokens f ++ factors_tokens v) ++ sign_token s ∷ []
add_tokens f v s =
    ap (λ (x : List Token). left_tokens f.left ++ x) (with_term_tokens f.terms (product_of v) s
    ∙ ap (λ (x : List Token). (terms_tokens f.terms ++ x) ++ sign_token s ∷ []) (product_at_tokens v.first v.more))
    ∙ sym (append_assoc (left_tokens f.left) (terms_tokens f.terms ++ factors_tokens v) (sign_token s ∷ []))
    ∙ ap (λ (x : List Token). x ++ sign_token s ∷ []) (sym (append_assoc (left_tokens f.left) (terms_tokens f.terms) (factors_tokens v)))

add_is : (n start : ℕ) (fs : List Frame) (f : Front) (v : Factors) (s : Sign) → FrontGood n f → FactorsGood n f.room v → FramesGood n start f.room fs
    → StepIs n start (behind_atom fs f v) (sign_token s) (behind_step fs f v (part.Add s))
add_is n start fs f v s g h k = (
  (((g.0, g.1, with_term_good n f.room f.terms (product_of v) s g.2 (product_good n f.room v g.0 h)), tt), k),
  ap (λ (x : List Token). frames_tokens fs ++ x) (append_nothing _ ∙ add_tokens f v s)
      ∙ sym (append_assoc (frames_tokens fs) (front_tokens f ++ factors_tokens v) (sign_token s ∷ [])),
)

measured_is : (n start : ℕ) (fs : List Frame) (room : ℕ) (left : Option Node) (terms : Option Terms) (v : Factors)
    → FrontGood n (record { room = room; left = left; terms = terms }) → FactorsGood n room v → FramesGood n start room fs
    → StepIs n start (behind_atom fs (record { room = room; left = left; terms = terms }) v) token.Less (measured fs room left (sum_of terms (product_of v)))
measured_is n start fs room (Some a) terms v g h k = tt
measured_is n start fs room None terms v g h k = (
  (((g.0, sum_of_good n room terms (product_of v) g.0 g.2 (product_good n room v g.0 h), tt), tt), k),
  ap (λ (x : List Token). frames_tokens fs ++ x)
      (append_nothing _ ∙ append_nothing _
      ∙ ap (λ (x : List Token). x ++ token.Less ∷ []) (sum_of_tokens terms (product_of v) ∙ ap (λ (x : List Token). terms_tokens terms ++ x) (product_at_tokens v.first v.more)))
      ∙ sym (append_assoc (frames_tokens fs) (terms_tokens terms ++ factors_tokens v) (token.Less ∷ [])),
)

times_tokens : (fs : List Frame) (f : Front) (v : Factors)
    → frames_tokens fs ++ (front_tokens f ++ (factors_tokens v ++ token.Star ∷ [])) ≡ (frames_tokens fs ++ (front_tokens f ++ factors_tokens v)) ++ token.Star ∷ []
times_tokens fs f v =
    ap (λ (x : List Token). frames_tokens fs ++ x) (sym (append_assoc (front_tokens f) (factors_tokens v) (token.Star ∷ [])))
    ∙ sym (append_assoc (frames_tokens fs) (front_tokens f ++ factors_tokens v) (token.Star ∷ []))

behind_is : (n start : ℕ) (fs : List Frame) (f : Front) (v : Factors) (t : Token) (p : Part) → PartIs n t p → FrontGood n f → FactorsGood n f.room v → FramesGood n start f.room fs
    → StepIs n start (behind_atom fs f v) t (behind_step fs f v p)
behind_is n start fs f v t (part.Atom a) q g h k = ended_is n start fs f v t g h k
behind_is n start fs f v t part.Open q g h k = ended_is n start fs f v t g h k
behind_is n start fs f v t part.Other q g h k = ended_is n start fs f v t g h k
behind_is n start fs f v t part.Close q g h k =
    subst (λ (x : Token). StepIs n start (behind_atom fs f v) x (closed fs (value_of f v))) q (closed_is n start fs f v g h k)
behind_is n start fs f v t part.Times q g h k =
    subst (λ (x : Token). StepIs n start (behind_atom fs f v) x (behind_step fs f v part.Times)) q (((g, h), k), times_tokens fs f v)
behind_is n start fs f v t (part.Add s) q g h k =
    subst (λ (x : Token). StepIs n start (behind_atom fs f v) x (behind_step fs f v (part.Add s))) q (add_is n start fs f v s g h k)
behind_is n start fs f v t part.Less q g h k =
    subst (λ (x : Token). StepIs n start (behind_atom fs f v) x (behind_step fs f v part.Less)) q (measured_is n start fs f.room f.left f.terms v g h k)

-- a token keeps what was read an expression so far
pub read_is : (n start : ℕ) (r : Reading) (t : Token) → ReadingGood n start r → StepIs n start r t (read_step r (part_of n t))
read_is n start (at_atom fs f) t g = at_is n start fs f t (part_of n t) (part_is n t) g.0 g.1
read_is n start (behind_atom fs f v) t g = behind_is n start fs f v t (part_of n t) (part_is n t) g.0 g.1 g.2

-- the beginning of an expression
pub fresh_good : (n start : ℕ) → 1 ≤ start → ReadingGood n start (at_atom [] (fresh start))
fresh_good n start h = (((h, tt, tt), tt), refl)
