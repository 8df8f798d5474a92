-- Building a type and a declarator token by token: a stack of frames, one for each part that is still to
-- be ended, and what stands in front of the next token. The expressions in them are read elsewhere: the
-- builder says where one begins, and is given it.
use Rattle.std.specs.Prelude.{ℕ, suc, nat_eq, ◌&&◌, Bool, true, false, if◌then◌else◌, List, [], ◌∷◌, ◌++◌, Option, Some, None}
use Rattle.porch_tree.specs.declared.word.Keyword.{Keyword}
use Rattle.porch_tree.specs.declared.word.Keyword.TheVariants as key
use Rattle.porch_tree.specs.declared.tree.TagSort.{TagSort}
use Rattle.porch_tree.specs.declared.tree.TagSort.TheVariants as tag_sort
use Rattle.porch_tree.specs.Mirror.{Name, Expr, absent, present, Base, kind, void, typedef_name, tag, structure, enumeration, Field, field, Constant, constant, Declarator, declarator, Core, lacking, named, inner, no_brackets, Bracket, count, empty_list, void_list, param_list, Param, param, TypeName, type_name}
use Rattle.porch_tree.specs.Views.{fields_of, constants_of, declarators_of, brackets_of, params_of}
use Rattle.porch_tree.specs.Pieces.{Spelled}
use Rattle.porch_parse.specs.Building.{spelt_name}
use Rattle.porch_parts.specs.declared.part.Front.{Front}
use Rattle.porch_parts.specs.declared.sign.Sign.{Sign}
use Rattle.porch_parts.specs.declared.sign.Sign.TheVariants as sign

-- a base that its last word or brace has ended, but for `const` behind it
pub data Form : Type 0 where
  void_form : Form
  typedef_form : Name → Form
  tag_form : TagSort → Name → Form
  fields_form : Option Name → List Field → Form
  constants_form : Option Name → List Constant → Form

-- a declarator as far as it has been read
pub record Declaring : Type 0 where
  pub at : ℕ
  pub stars : List ℕ
  pub core : Core
  pub brackets : List Bracket

pub data Part : Type 0 where
  -- a base, and declarators behind it, each with a comma behind it
  typed : Base → List Declarator → Part
  in_fields : Front → Option Name → List Field → Part
  in_constants : Front → Option Name → List Constant → Part
  -- an enumeration constant and `=`
  in_constant : Name → Part
  -- parameters, each with a comma behind it
  in_params : Declaring → List Param → Part
  in_count : Declaring → Part
  in_inner : (at : ℕ) → (stars : List ℕ) → (inner_at : ℕ) → Part
  -- a type by itself, in a part that is no type
  alone : Part

pub data Point : Type 0 where
  at_base : Point
  -- words of a kind, or `const`: their number, and whether no other word has been read
  behind_words : (at : ℕ) → List Keyword → (number : ℕ) → (only : Bool) → Point
  at_tag : Front → TagSort → Point
  behind_tag : Front → TagSort → Name → Point
  behind_form : Front → Form → (behind : ℕ) → Point
  at_constant : Point
  behind_constant : Name → Point
  at_value : Point
  at_declarator : Point
  -- stars, and the `const` behind the last
  behind_star : (at : ℕ) → List ℕ → ℕ → Point
  -- `(` has been read where a core may stand
  at_core : (at : ℕ) → List ℕ → (inner_at : ℕ) → Point
  behind_core : Declaring → Point
  at_count : Declaring → Point
  -- an expression begins with this very token
  at_expr : Point
  -- a base, a declarator or a type ended in front of this very token
  over_base : Base → Point
  over_declarator : Declarator → Point
  over_type : TypeName → Point
  broken : Point

-- The innermost part comes first.
pub record Place : Type 0 where
  pub parts : List Part
  pub point : Point

abbrev pub place : List Part → Point → Place
place ps x = record { parts = ps; point = x }

-- no unit has these tokens
abbrev pub lost : Place
lost = place [] broken

abbrev pub form_base : Front → Form → (behind : ℕ) → Base
form_base f void_form k = void f.at (record { before = f.before; behind = k })
form_base f (typedef_form n) k = typedef_name f.at n (record { before = f.before; behind = k })
form_base f (tag_form s n) k = tag f.at s n (record { before = f.before; behind = k })
form_base f (fields_form n xs) k = structure f.at n (fields_of xs) (record { before = f.before; behind = k })
form_base f (constants_form n xs) k = enumeration f.at n (constants_of xs) (record { before = f.before; behind = k })

abbrev pub front : ℕ → ℕ → Front
front at n = record { at = at; before = n }

abbrev pub declaring : ℕ → List ℕ → Core → Declaring
declaring at ss c = record { at = at; stars = ss; core = c; brackets = [] }

abbrev pub declared_by : Declaring → Declarator
declared_by d = declarator d.at d.stars d.core (brackets_of d.brackets)

abbrev pub bracketed : Declaring → Bracket → Declaring
bracketed d b = record { at = d.at; stars = d.stars; core = d.core; brackets = d.brackets ++ b ∷ [] }

-- One `void` alone is the empty list.
abbrev pub is_bare_void : Base → Bool
is_bare_void (void at c) = nat_eq c.before 0 && nat_eq c.behind 0
is_bare_void b = false

abbrev pub is_lacking : Core → Bool
is_lacking lacking = true
is_lacking c = false

abbrev pub is_empty : Declarator → Bool
is_empty (declarator at [] lacking no_brackets) = true
is_empty d = false

abbrev pub is_bare_param : Param → Bool
is_bare_param (param b d) = is_bare_void b && is_empty d

abbrev pub is_void : List Param → Bool
is_void (p ∷ []) = is_bare_param p
is_void ps = false

abbrev pub parameters : List Param → Bracket
parameters ps = if is_void ps then void_list else param_list (params_of ps)

-- the words that end parts
abbrev pub is_close : Sign → Bool
is_close sign.Close = true
is_close s = false

abbrev pub is_close_bracket : Sign → Bool
is_close_bracket sign.CloseBracket = true
is_close_bracket s = false

abbrev pub is_close_brace : Sign → Bool
is_close_brace sign.CloseBrace = true
is_close_brace s = false

abbrev pub is_comma : Sign → Bool
is_comma sign.Comma = true
is_comma s = false

abbrev pub is_semicolon : Sign → Bool
is_semicolon sign.Semicolon = true
is_semicolon s = false

-- A declarator behind a base and other declarators ended in front of this word: a member, a parameter, or
-- that of a type by itself.
abbrev pub member_ended : List Part → Front → Option Name → List Field → Base → List Declarator → Sign → Place
member_ended ps f n xs b ds s =
    if is_comma s then place (typed b ds ∷ in_fields f n xs ∷ ps) at_declarator
    else if is_semicolon s then place (in_fields f n (xs ++ field b (declarators_of ds) ∷ []) ∷ ps) at_base
    else lost

abbrev pub param_ended : List Part → Declaring → List Param → Sign → Place
param_ended ps x xs s =
    if is_comma s then place (in_params x xs ∷ ps) at_base
    else if is_close s then place ps (behind_core (bracketed x (parameters xs)))
    else lost

abbrev pub entry_ended : List Part → Base → List Declarator → Declarator → Sign → Place
entry_ended (in_fields f n xs ∷ ps) b ds d s = member_ended ps f n xs b (ds ++ d ∷ []) s
entry_ended (in_params x xs ∷ ps) b ds d s = param_ended ps x (xs ++ param b d ∷ []) s
entry_ended (alone ∷ ps) b ds d s = place ps (over_type (type_name b d))
entry_ended ps b ds d s = lost

-- The declarator ended in front of this word.
abbrev pub declared : List Part → Declarator → Sign → Place
declared [] d s = place [] (over_declarator d)
declared (in_inner at ss k ∷ ps) d s = if is_close s then place ps (behind_core (declaring at ss (inner k d))) else lost
declared (typed b ds ∷ ps) d s = entry_ended ps b ds d s
declared ps d s = lost

abbrev pub no_params : List Part → Place
no_params (in_params d [] ∷ ps) = place ps (behind_core (bracketed d empty_list))
no_params ps = lost

abbrev pub fields_closed : List Part → Place
fields_closed (in_fields f n xs ∷ ps) = place ps (behind_form f (fields_form n xs) 0)
fields_closed ps = lost

abbrev pub constant_ended : List Part → Front → Option Name → List Constant → Sign → Place
constant_ended ps f n xs s =
    if is_comma s then place (in_constants f n xs ∷ ps) at_constant
    else if is_close_brace s then place ps (behind_form f (constants_form n xs) 0)
    else lost

abbrev pub constant_closed : List Part → Constant → Sign → Place
constant_closed (in_constants f n xs ∷ ps) c s = constant_ended ps f n (xs ++ c ∷ []) s
constant_closed ps c s = lost

-- An expression ended in front of this word.
abbrev pub given : List Part → Expr → Sign → Place
given (in_count d ∷ ps) e s = if is_close_bracket s then place ps (behind_core (bracketed d (count (present e)))) else lost
given (in_constant n ∷ ps) e s = constant_closed ps (constant n (present e)) s
given ps e s = lost

-- what stands where a core may stand; `d` is what the declarator is if it has no more tokens
abbrev pub core_step : List Part → (at : ℕ) → List ℕ → (d : Declarator) → Sign → Spelled → Place
core_step ps at ss d sign.Name t = place ps (behind_core (declaring at ss (named (spelt_name t))))
core_step ps at ss d sign.Open t = place ps (at_core at ss t.at)
core_step ps at ss d sign.OpenBracket t = place ps (at_count (declaring at ss lacking))
core_step ps at ss d s t = declared ps d s

abbrev pub declarator_step : List Part → Sign → Spelled → Place
declarator_step ps sign.Star t = place ps (behind_star t.at [] 0)
declarator_step ps s t = core_step ps t.at [] (declarator 0 [] lacking no_brackets) s t

abbrev pub star_step : List Part → (at : ℕ) → List ℕ → ℕ → Sign → Spelled → Place
star_step ps at ss k sign.Star t = place ps (behind_star at (ss ++ k ∷ []) 0)
star_step ps at ss k sign.Const t = place ps (behind_star at ss (suc k))
star_step ps at ss k s t = core_step ps at (ss ++ k ∷ []) (declarator at (ss ++ k ∷ []) lacking no_brackets) s t

-- The base ended in front of this word.
abbrev pub is_outermost : List Part → Bool
is_outermost [] = true
is_outermost (p ∷ ps) = false

abbrev pub based : List Part → Base → Sign → Spelled → Place
based ps b s t = if is_outermost ps then place ps (over_base b) else declarator_step (typed b [] ∷ ps) s t

abbrev pub form_step : List Part → Front → Form → ℕ → Sign → Spelled → Place
form_step ps f x k sign.Const t = place ps (behind_form f x (suc k))
form_step ps f x k s t = based ps (form_base f x k) s t

abbrev pub name_step : List Part → (at : ℕ) → List Keyword → (number : ℕ) → (only : Bool) → Spelled → Place
name_step ps at ks n true t = place ps (behind_form (front at n) (typedef_form (spelt_name t)) 0)
name_step ps at ks n false t = based ps (kind at ks) sign.Name t

abbrev pub words_step : List Part → (at : ℕ) → List Keyword → (number : ℕ) → (only : Bool) → Sign → Spelled → Place
words_step ps at ks n b sign.Const t = place ps (behind_words at (ks ++ key.Const ∷ []) (suc n) b)
words_step ps at ks n b (sign.Kind k) t = place ps (behind_words at (ks ++ k ∷ []) (suc n) false)
words_step ps at ks n b sign.Void t = place ps (behind_form (front at n) void_form 0)
words_step ps at ks n b (sign.Tag s) t = place ps (at_tag (front at n) s)
words_step ps at ks n b sign.Name t = name_step ps at ks n b t
words_step ps at ks n b s t = based ps (kind at ks) s t

abbrev pub base_step : List Part → Sign → Spelled → Place
base_step ps sign.Close t = no_params ps
base_step ps sign.CloseBrace t = fields_closed ps
base_step ps s t = words_step ps t.at [] 0 true s t

abbrev pub braced : List Part → Front → TagSort → Option Name → Place
braced ps f tag_sort.Struct n = place (in_fields f n [] ∷ ps) at_base
braced ps f tag_sort.Enum n = place (in_constants f n [] ∷ ps) at_constant

abbrev pub at_tag_step : List Part → Front → TagSort → Sign → Spelled → Place
at_tag_step ps f s sign.Name t = place ps (behind_tag f s (spelt_name t))
at_tag_step ps f s sign.OpenBrace t = braced ps f s None
at_tag_step ps f s x t = lost

abbrev pub tag_step : List Part → Front → TagSort → Name → Sign → Spelled → Place
tag_step ps f s n sign.OpenBrace t = braced ps f s (Some n)
tag_step ps f s n x t = form_step ps f (tag_form s n) 0 x t

-- A parenthesis where a core may stand begins parameters in front of `)` or of what isn't a name.
abbrev pub begins_params : Sign → Bool
begins_params sign.Close = true
begins_params sign.Const = true
begins_params (sign.Kind k) = true
begins_params sign.Void = true
begins_params (sign.Tag s) = true
begins_params s = false

abbrev pub at_core_step : List Part → (at : ℕ) → List ℕ → (inner_at : ℕ) → Sign → Spelled → Place
at_core_step ps at ss k s t =
    if begins_params s then base_step (in_params (declaring at ss lacking) [] ∷ ps) s t
    else declarator_step (in_inner at ss k ∷ ps) s t

abbrev pub behind_core_step : List Part → Declaring → Sign → Place
behind_core_step ps d sign.OpenBracket = place ps (at_count d)
behind_core_step ps d sign.Open = place (in_params d [] ∷ ps) at_base
behind_core_step ps d s = declared ps (declared_by d) s

abbrev pub count_step : List Part → Declaring → Sign → Place
count_step ps d sign.CloseBracket = place ps (behind_core (bracketed d (count absent)))
count_step ps d s = place (in_count d ∷ ps) at_expr

abbrev pub at_constant_step : List Part → Sign → Spelled → Place
at_constant_step ps sign.Name t = place ps (behind_constant (spelt_name t))
at_constant_step ps s t = lost

abbrev pub constant_step : List Part → Name → Sign → Place
constant_step ps n sign.Equal = place (in_constant n ∷ ps) at_value
constant_step ps n s = constant_closed ps (constant n absent) s

-- Where the builder stands behind one more token.
abbrev pub type_step : List Part → Point → Sign → Spelled → Place
type_step ps at_base s t = base_step ps s t
type_step ps (behind_words at ks n b) s t = words_step ps at ks n b s t
type_step ps (at_tag f x) s t = at_tag_step ps f x s t
type_step ps (behind_tag f x n) s t = tag_step ps f x n s t
type_step ps (behind_form f x k) s t = form_step ps f x k s t
type_step ps at_constant s t = at_constant_step ps s t
type_step ps (behind_constant n) s t = constant_step ps n s
type_step ps at_value s t = place ps at_expr
type_step ps at_declarator s t = declarator_step ps s t
type_step ps (behind_star at ss k) s t = star_step ps at ss k s t
type_step ps (at_core at ss k) s t = at_core_step ps at ss k s t
type_step ps (behind_core d) s t = behind_core_step ps d s
type_step ps (at_count d) s t = count_step ps d s
type_step ps x s t = lost
