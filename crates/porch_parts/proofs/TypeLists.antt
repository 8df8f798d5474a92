-- The lists of types and declarators, and the points at which they end.
use Rattle.std.proofs.Common.{◌≡◌, ◌≢◌, ℕ, ◌+◌, nat_eq, Bool, true, false, ◌&&◌, List, [], ◌∷◌, ◌++◌, refl, ap, ◌∙◌, arith}
use Rattle.porch_tree.specs.declared.tree.Consts.{Consts}
use Rattle.porch_tree.specs.declared.tree.TagSort.{TagSort}
use Rattle.porch_tree.specs.declared.tree.TagSort.TheVariants as tag_sort
use Rattle.porch_tree.specs.Words.{tag_keyword}
use Rattle.porch_tree.specs.declared.word.Keyword.{Keyword}
use Rattle.porch_tree.specs.Mirror.{Name, absent, kind, void, Field, Fields, no_fields, with_field, Constant, Constants, no_constants, with_constant, Declarator, declarator, Declarators, no_declarators, with_declarator, Core, lacking, named, inner, Bracket, Brackets, no_brackets, with_bracket, Param, param, Params, no_params, with_param}
use Rattle.porch_tree.specs.Views.{fields_of, constants_of, declarators_of, brackets_of, params_of}
use Rattle.porch_tree.specs.Formed.{IsNotVoid}
use Rattle.porch_tree.specs.Pieces.{Spelled}
use Rattle.porch_parts.specs.Signs.{key_sign}
use Rattle.porch_parts.specs.declared.part.Front.{Front}
use Rattle.porch_parts.specs.declared.sign.Sign.{Sign}
use Rattle.porch_parts.specs.declared.sign.Sign.TheVariants as sign
use Rattle.porch_parts.specs.Types.{Form, tag_form, Declaring, declaring, declared_by, bracketed, Part, typed, in_count, in_inner, in_params, at_base, behind_words, behind_tag, behind_form, behind_constant, at_declarator, behind_star, at_core, behind_core, at_count, at_expr, place, is_void, is_bare_void, is_empty, declared, constant_closed, type_step, form_base, core_step, begins_params}
use Rattle.porch_tree.specs.Mirror.{constant}
use Rattle.porch_parts.proofs.Lists.{append_nothing, append_one}
use Rattle.porch_parts.proofs.KindWords.{both, decided}
use Rattle.porch_parts.proofs.Firsts.{is_bracket}

abbrev pub field_list : Fields → List Field
field_list no_fields = []
field_list (with_field f fs) = f ∷ field_list fs

pub fields_back : (fs : Fields) → fields_of (field_list fs) ≡ fs
fields_back no_fields = refl
fields_back (with_field f fs) = ap (with_field f) (fields_back fs)

abbrev pub constant_list : Constants → List Constant
constant_list no_constants = []
constant_list (with_constant c cs) = c ∷ constant_list cs

pub constants_back : (cs : Constants) → constants_of (constant_list cs) ≡ cs
constants_back no_constants = refl
constants_back (with_constant c cs) = ap (with_constant c) (constants_back cs)

abbrev pub declarator_list : Declarators → List Declarator
declarator_list no_declarators = []
declarator_list (with_declarator d ds) = d ∷ declarator_list ds

pub declarators_back : (ds : Declarators) → declarators_of (declarator_list ds) ≡ ds
declarators_back no_declarators = refl
declarators_back (with_declarator d ds) = ap (with_declarator d) (declarators_back ds)

abbrev pub bracket_list : Brackets → List Bracket
bracket_list no_brackets = []
bracket_list (with_bracket b bs) = b ∷ bracket_list bs

brackets_back : (bs : Brackets) → brackets_of (bracket_list bs) ≡ bs
brackets_back no_brackets = refl
brackets_back (with_bracket b bs) = ap (with_bracket b) (brackets_back bs)

abbrev pub params_list : Params → List Param
params_list no_params = []
params_list (with_param p ps) = p ∷ params_list ps

pub params_back : (ps : Params) → params_of (params_list ps) ≡ ps
params_back no_params = refl
params_back (with_param p ps) = ap (with_param p) (params_back ps)

abbrev pub with_all : Declaring → Brackets → Declaring
with_all x no_brackets = x
with_all x (with_bracket b bs) = with_all (bracketed x b) bs

declared_all : (at : ℕ) (ss : List ℕ) (c : Core) (xs : List Bracket) (bs : Brackets)
    → declared_by (with_all (record { at = at; stars = ss; core = c; brackets = xs }) bs) ≡ declarator at ss c (brackets_of (xs ++ bracket_list bs))
declared_all at ss c xs no_brackets = ap (λ ys. declarator at ss c (brackets_of ys)) (append_nothing xs)
declared_all at ss c xs (with_bracket b bs) =
    declared_all at ss c (xs ++ b ∷ []) bs ∙ ap (λ ys. declarator at ss c (brackets_of ys)) (append_one xs b (bracket_list bs))

pub declared_whole : (at : ℕ) (ss : List ℕ) (c : Core) (bs : Brackets) → declared_by (with_all (declaring at ss c) bs) ≡ declarator at ss c bs
declared_whole at ss c bs = declared_all at ss c [] bs ∙ ap (declarator at ss c) (brackets_back bs)

nothing : (n : ℕ) → nat_eq n 0 ≡ true → n ≡ 0
nothing n h = search arith

bare : (a b : ℕ) → (a + b) ≢ 0 → nat_eq a 0 && nat_eq b 0 ≡ false
bare a b h = decided (nat_eq a 0 && nat_eq b 0) (λ k. let p = both (nat_eq a 0) (nat_eq b 0) k in let x = nothing a p.0 in let y = nothing b p.1 in h (omega (arith, x, y)))

not_both : (a : Bool) → a && false ≡ false
not_both true = refl
not_both false = refl

bare_param : (at : ℕ) (c : Consts) (d : Declarator) → IsNotVoid (with_param (param (void at c) d) no_params) → is_bare_void (void at c) && is_empty d ≡ false
bare_param at c (declarator k (n ∷ ns) core bs) h = not_both (is_bare_void (void at c))
bare_param at c (declarator k [] (named n) bs) h = not_both (is_bare_void (void at c))
bare_param at c (declarator k [] (inner m d) bs) h = not_both (is_bare_void (void at c))
bare_param at c (declarator k [] lacking (with_bracket b bs)) h = not_both (is_bare_void (void at c))
bare_param at c (declarator k [] lacking no_brackets) h = ap (λ b. b && true) (bare c.before c.behind h)

pub not_void : (ps : Params) → IsNotVoid ps → is_void (params_list ps) ≡ false
not_void no_params h = refl
not_void (with_param (param b d) (with_param p ps)) h = refl
not_void (with_param (param (void at c) d) no_params) h = bare_param at c d h
not_void (with_param (param (kind at ks) d) no_params) h = refl
not_void (with_param (param b d) no_params) h = refl

-- what may stand behind a base, behind a declarator, and where a core may stand
abbrev pub follows : Sign → Bool
follows sign.Star = true
follows sign.Name = true
follows sign.Open = true
follows sign.OpenBracket = true
follows sign.Close = true
follows sign.Comma = true
follows sign.Semicolon = true
follows sign.Equal = true
follows s = false

abbrev pub ending : Sign → Bool
ending sign.Close = true
ending sign.Comma = true
ending sign.Semicolon = true
ending sign.Equal = true
ending sign.OpenBrace = true
ending s = false

abbrev pub at_a_core : Sign → Bool
at_a_core sign.Name = true
at_a_core sign.Open = true
at_a_core sign.OpenBracket = true
at_a_core sign.Close = true
at_a_core sign.Comma = true
at_a_core sign.Semicolon = true
at_a_core sign.Equal = true
at_a_core sign.OpenBrace = true
at_a_core s = false

-- what a declarator in parentheses begins with
abbrev pub inside : Sign → Bool
inside sign.Star = true
inside sign.Name = true
inside sign.Open = true
inside sign.OpenBracket = true
inside s = false

abbrev pub behind_a_tag : Sign → Bool
behind_a_tag sign.Const = true
behind_a_tag s = follows s

abbrev pub closing : Sign → Bool
closing sign.Comma = true
closing sign.CloseBrace = true
closing s = false

pub based_words : (p : Part) (qs : List Part) (at : ℕ) (ks : List Keyword) (n : ℕ) (s : Sign) (t : Spelled) → follows s ≡ true
    → type_step (p ∷ qs) (behind_words at ks n false) s t ≡ type_step (typed (kind at ks) [] ∷ p ∷ qs) at_declarator s t
based_words p qs at ks n sign.Star t h = refl
based_words p qs at ks n sign.Name t h = refl
based_words p qs at ks n sign.Open t h = refl
based_words p qs at ks n sign.OpenBracket t h = refl
based_words p qs at ks n sign.Close t h = refl
based_words p qs at ks n sign.Comma t h = refl
based_words p qs at ks n sign.Semicolon t h = refl
based_words p qs at ks n sign.Equal t h = refl
based_words p qs at ks n s t h = cc

pub based_form : (p : Part) (qs : List Part) (f : Front) (x : Form) (k : ℕ) (s : Sign) (t : Spelled) → follows s ≡ true
    → type_step (p ∷ qs) (behind_form f x k) s t ≡ type_step (typed (form_base f x k) [] ∷ p ∷ qs) at_declarator s t
based_form p qs f x k sign.Star t h = refl
based_form p qs f x k sign.Name t h = refl
based_form p qs f x k sign.Open t h = refl
based_form p qs f x k sign.OpenBracket t h = refl
based_form p qs f x k sign.Close t h = refl
based_form p qs f x k sign.Comma t h = refl
based_form p qs f x k sign.Semicolon t h = refl
based_form p qs f x k sign.Equal t h = refl
based_form p qs f x k s t h = cc

pub tag_is_form : (qs : List Part) (f : Front) (x : TagSort) (n : Name) (s : Sign) (t : Spelled) → behind_a_tag s ≡ true
    → type_step qs (behind_tag f x n) s t ≡ type_step qs (behind_form f (tag_form x n) 0) s t
tag_is_form qs f x n sign.OpenBrace t h = cc
tag_is_form qs f x n sign.Const t h = refl
tag_is_form qs f x n s t h = refl

pub tag_sign : (s : TagSort) → key_sign (tag_keyword s) ≡ sign.Tag s
tag_sign tag_sort.Struct = refl
tag_sign s = refl

pub core_at_first : (qs : List Part) (s : Sign) (t : Spelled) → at_a_core s ≡ true
    → type_step qs at_declarator s t ≡ core_step qs t.at [] (declarator 0 [] lacking no_brackets) s t
core_at_first qs sign.Star t h = cc
core_at_first qs sign.Name t h = refl
core_at_first qs s t h = refl

pub core_behind_star : (qs : List Part) (at : ℕ) (ss : List ℕ) (k : ℕ) (s : Sign) (t : Spelled) → at_a_core s ≡ true
    → type_step qs (behind_star at ss k) s t ≡ core_step qs at (ss ++ k ∷ []) (declarator at (ss ++ k ∷ []) lacking no_brackets) s t
core_behind_star qs at ss k sign.Star t h = cc
core_behind_star qs at ss k sign.Const t h = cc
core_behind_star qs at ss k sign.Name t h = refl
core_behind_star qs at ss k s t h = refl

pub core_ends : (qs : List Part) (at : ℕ) (ss : List ℕ) (d : Declarator) (s : Sign) (t : Spelled) → ending s ≡ true → core_step qs at ss d s t ≡ declared qs d s
core_ends qs at ss d sign.Name t h = cc
core_ends qs at ss d sign.Open t h = cc
core_ends qs at ss d sign.OpenBracket t h = cc
core_ends qs at ss d s t h = refl

pub ends_at_core : (s : Sign) → ending s ≡ true → at_a_core s ≡ true
ends_at_core sign.Close h = refl
ends_at_core sign.Comma h = refl
ends_at_core sign.Semicolon h = refl
ends_at_core sign.Equal h = refl
ends_at_core sign.OpenBrace h = refl
ends_at_core s h = cc

pub follow_tags : (s : Sign) → follows s ≡ true → behind_a_tag s ≡ true
follow_tags sign.Const h = refl
follow_tags s h = h

pub brackets_end : (qs : List Part) (x : Declaring) (s : Sign) (t : Spelled) → ending s ≡ true → type_step qs (behind_core x) s t ≡ declared qs (declared_by x) s
brackets_end qs x sign.Open t h = cc
brackets_end qs x sign.OpenBracket t h = cc
brackets_end qs x s t h = refl

pub params_at_core : (qs : List Part) (at : ℕ) (ss : List ℕ) (k : ℕ) (s : Sign) (t : Spelled) → begins_params s ≡ true
    → type_step qs (at_core at ss k) s t ≡ type_step (in_params (declaring at ss lacking) [] ∷ qs) at_base s t
params_at_core qs at ss k sign.Close t h = refl
params_at_core qs at ss k sign.Const t h = refl
params_at_core qs at ss k (sign.Kind w) t h = refl
params_at_core qs at ss k sign.Void t h = refl
params_at_core qs at ss k (sign.Tag w) t h = refl
params_at_core qs at ss k s t h = cc

pub inner_at_core : (qs : List Part) (at : ℕ) (ss : List ℕ) (k : ℕ) (s : Sign) (t : Spelled) → inside s ≡ true
    → type_step qs (at_core at ss k) s t ≡ type_step (in_inner at ss k ∷ qs) at_declarator s t
inner_at_core qs at ss k sign.Star t h = refl
inner_at_core qs at ss k sign.Name t h = refl
inner_at_core qs at ss k sign.Open t h = refl
inner_at_core qs at ss k sign.OpenBracket t h = refl
inner_at_core qs at ss k s t h = cc

pub count_begins : (qs : List Part) (x : Declaring) (s : Sign) (t : Spelled) → is_bracket s ≡ false → type_step qs (at_count x) s t ≡ place (in_count x ∷ qs) at_expr
count_begins qs x sign.CloseBracket t h = cc
count_begins qs x s t h = refl

pub constant_ends : (qs : List Part) (n : Name) (s : Sign) (t : Spelled) → closing s ≡ true → type_step qs (behind_constant n) s t ≡ constant_closed qs (constant n absent) s
constant_ends qs n sign.Equal t h = cc
constant_ends qs n s t h = refl
