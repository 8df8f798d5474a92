-- Building a declaration token by token: its base, and its declarators with their initialisers. The base and
-- the first declarator are read by the reader of types, the others too, and values by that of expressions;
-- each hands on the token in front of which it ends. Whether the tokens are a declaration isn't looked at
-- where another token can't come.
use Rattle.std.specs.Prelude.{ℕ, ◌≡◌, Bool, true, false, ◌&&◌, if◌then◌else◌, List, [], ◌∷◌, ◌++◌, Option, Some, None}
use Rattle.porch_tree.specs.declared.word.Keyword.{Keyword}
use Rattle.porch_tree.specs.declared.word.Keyword.TheVariants as key
use Rattle.porch_tree.specs.declared.word.Mark.TheVariants as mark
use Rattle.porch_tree.specs.declared.word.Word.{Word}
use Rattle.porch_tree.specs.declared.word.Word.TheVariants as word
use Rattle.porch_tree.specs.Mirror.{Expr, Base, Declarator, declarator, Initial, value, braced, Entry, Declaration, TypeName, type_name}
use Rattle.porch_tree.specs.Views.{initials_of}
use Rattle.porch_tree.specs.Pieces.{Spelled, Piece, mark as mark_piece, base_pieces, declarator_pieces, static_pieces, declaration_pieces}
use Rattle.porch_tree.specs.Names.{ReadsBase, ReadsDeclarator, ReadsDeclaration}
use Rattle.porch_tree.specs.Formed.{IsBase, IsDeclarator, IsDeclaration}
use Rattle.porch_tree.specs.Grammar.{AreMatched}
use Rattle.porch_parts.specs.declared.sign.Sign.{Sign}
use Rattle.porch_parts.specs.declared.sign.Sign.TheVariants as sign
use Rattle.porch_parts.specs.Signs.{sign_of}
use Rattle.porch_parts.specs.Types.{is_comma, is_semicolon, is_close_brace, is_lacking}
use Rattle.porch_parts.specs.Parts as parts
use Rattle.porch_parts.specs.Parts.{begins}
use Rattle.porch_parts.specs.Ends.{at_single, at_typed, at_declared, Found, going, found_expr, found_typed, found_declared, found_in}

-- braces that are still to be closed: their place, and initialisers, each with a comma behind it
pub record Braces : Type 0 where
  pub at : ℕ
  pub items : List Initial

-- What stands in front of the next token. The entries of a declaration are those that have ended.
pub data State : Type 0 where
  at_start : State
  -- a base and a declarator are being read, behind `static` at a place or not
  in_typed : Option ℕ → parts.State → State
  in_declared : Declaration → parts.State → State
  -- an initialiser of this declarator begins, in these braces
  at_initial : Declaration → Declarator → List Braces → State
  in_value : Declaration → Declarator → List Braces → parts.State → State
  behind_initial : Declaration → Declarator → List Braces → Initial → State
  -- the declaration has ended with its `;`
  over : Declaration → State
  -- the `{` of a body has been read behind a declarator
  headed : Declaration → Declarator → State
  -- no unit has these tokens
  broken : State

abbrev pub is_static_key : Keyword → Bool
is_static_key key.Static = true
is_static_key k = false

abbrev pub is_static : Word → Bool
is_static (word.Key k) = is_static_key k
is_static w = false

abbrev pub is_equal : Sign → Bool
is_equal sign.Equal = true
is_equal s = false

abbrev pub is_open_brace : Sign → Bool
is_open_brace sign.OpenBrace = true
is_open_brace s = false

abbrev pub opened : Option ℕ → Base → Declaration
opened k b = record { fixed = k; base = b; entries = [] }

abbrev pub with_entry : Declaration → Declarator → Option Initial → Declaration
with_entry h d i =
    record { fixed = h.fixed; base = h.base; entries = h.entries ++ record { declarator = d; initial = i } ∷ [] }

abbrev pub opened_at : ℕ → Braces
opened_at at = record { at = at; items = [] }

abbrev pub with_item : Braces → Initial → Braces
with_item b i = record { at = b.at; items = b.items ++ i ∷ [] }

abbrev pub closed : Braces → (comma : Bool) → Initial
closed b comma = braced b.at (initials_of b.items) comma

-- The declarator ended in front of this word.
abbrev pub declared : Declaration → Declarator → Sign → State
declared h d s =
    if is_equal s then at_initial h d []
    else if is_comma s then in_declared (with_entry h d None) at_declared
    else if is_semicolon s then over (with_entry h d None)
    else if is_open_brace s then headed h d
    else broken

-- The base and a declarator, which has a name but where there is none, ended in front of this word.
abbrev pub is_nameless : Declarator → Bool
is_nameless (declarator at ss c bs) = is_lacking c

abbrev pub first_ended : (nameless : Bool) → Declaration → Declarator → Sign → State
first_ended n h d s = if n then over h else declared h d s

abbrev pub typed : Option ℕ → TypeName → Sign → State
typed k (type_name b d) s = first_ended (is_nameless d) (opened k b) d s

-- an initialiser ended in braces, to which it has been added
abbrev pub item_ended : Declaration → Declarator → List Braces → Braces → Sign → State
item_ended h d bs b s =
    if is_comma s then at_initial h d (b ∷ bs)
    else if is_close_brace s then behind_initial h d bs (closed b false)
    else broken

abbrev pub initial_ended : Declaration → Declarator → List Braces → Initial → Sign → State
initial_ended h d [] i s =
    if is_comma s then in_declared (with_entry h d (Some i)) at_declared
    else if is_semicolon s then over (with_entry h d (Some i))
    else broken
initial_ended h d (b ∷ bs) i s = item_ended h d bs (with_item b i) s

-- `}` behind a comma
abbrev pub last_comma : Declaration → Declarator → List Braces → State
last_comma h d [] = broken
last_comma h d (b ∷ bs) = behind_initial h d bs (closed b true)

abbrev pub typed_on : Option ℕ → Found → Sign → State
typed_on k (going x) s = in_typed k x
typed_on k (found_typed y) s = typed k y s
typed_on k x s = broken

abbrev pub declared_on : Declaration → Found → Sign → State
declared_on h (going x) s = in_declared h x
declared_on h (found_declared d) s = declared h d s
declared_on h x s = broken

abbrev pub value_on : Declaration → Declarator → List Braces → Found → Sign → State
value_on h d bs (going x) s = in_value h d bs x
value_on h d bs (found_expr e) s = initial_ended h d bs (value e) s
value_on h d bs x s = broken

-- `b` says whether a type can begin with this token.
abbrev pub typed_step : Bool → Option ℕ → parts.State → Word → Spelled → State
typed_step b k x w t = typed_on k (found_in (parts.step_at b x w t)) (sign_of w)

abbrev pub start_step : Bool → Word → Spelled → State
start_step b w t = if is_static w then in_typed (Some t.at) at_typed else typed_step b None at_typed w t

abbrev pub declared_step : Bool → Declaration → parts.State → Word → Spelled → State
declared_step b h x w t = declared_on h (found_in (parts.step_at b x w t)) (sign_of w)

abbrev pub value_step : Bool → Declaration → Declarator → List Braces → parts.State → Word → Spelled → State
value_step b h d bs x w t = value_on h d bs (found_in (parts.step_at b x w t)) (sign_of w)

abbrev pub initial_step : Bool → Declaration → Declarator → List Braces → Word → Spelled → State
initial_step b h d bs w t =
    if is_open_brace (sign_of w) then at_initial h d (opened_at t.at ∷ bs)
    else if is_close_brace (sign_of w) then last_comma h d bs
    else value_step b h d bs at_single w t

-- Where the builder stands behind one more token.
abbrev pub step_at : Bool → State → Word → Spelled → State
step_at b at_start w t = start_step b w t
step_at b (in_typed k x) w t = typed_step b k x w t
step_at b (in_declared h x) w t = declared_step b h x w t
step_at b (at_initial h d bs) w t = initial_step b h d bs w t
step_at b (in_value h d bs x) w t = value_step b h d bs x w t
step_at b (behind_initial h d bs i) w t = initial_ended h d bs i (sign_of w)
step_at b s w t = broken

module _ (types : List (List ℕ)) where
  -- where the builder stands behind one more token, and behind these tokens
  abbrev pub step : State → Spelled → State
  step s t = step_at (begins types t.word t) s t.word t

  abbrev pub run : State → List Spelled → State
  run s [] = s
  run s (t ∷ ts) = run (step s t) ts

abbrev pub declaration_in : State → Option Declaration
declaration_in (over h) = Some h
declaration_in s = None

-- the declaration that these tokens are
abbrev pub declaration_of : List (List ℕ) → List Spelled → Option Declaration
declaration_of types ts = declaration_in (run types at_start ts)

-- The last token has been read.
abbrev pub is_over : State → Bool
is_over (over h) = true
is_over (headed h d) = true
is_over s = false

-- The builder goes over these tokens from one state to another, and is over behind none but the last.
abbrev pub Leads : List (List ℕ) → State → List Spelled → State → Type 0
Leads types s [] end = s ≡ end
Leads types s (t ∷ ts) end = (is_over s ≡ false) × Leads types (step types s t) ts end

-- The builder comes to a state behind some of these tokens, and the others are these pieces.
pub record Passes (types : List (List ℕ)) (s : State) (ts : List Spelled) (ps : List Piece) (end : State) : Type 0 where
  pub own : List Spelled
  pub rest : List Spelled
  pub split : ts ≡ own ++ rest
  pub leads : Leads types s own end
  pub matched : AreMatched rest ps

-- Where the builder comes to, of all tokens: behind a declaration, and behind the `{` of a function's body.
abbrev pub DeclarationsPass : Type 0
DeclarationsPass =
    (types : List (List ℕ)) (inside : Bool) (x : Declaration) → IsDeclaration x → ReadsDeclaration types x
    → (uses : ℕ) (ps : List Piece) (ts : List Spelled) → AreMatched ts (declaration_pieces inside x uses ps)
    → Passes types at_start ts ps (over x)

abbrev pub HeadsPass : Type 0
HeadsPass =
    (types : List (List ℕ)) (inside : Bool) (k : Option ℕ) (b : Base) (x : Declarator) → IsBase b → ReadsBase types b
    → IsDeclarator true x → ReadsDeclarator types x → (uses own_uses brace_uses : ℕ) (ps : List Piece) (ts : List Spelled)
    → AreMatched ts (static_pieces inside k uses (base_pieces inside b uses (declarator_pieces inside x own_uses (mark_piece inside mark.OpenBrace brace_uses ∷ ps))))
    → Passes types at_start ts ps (headed (opened k b) x)
