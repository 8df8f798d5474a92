-- Some texts as tokens, their uses, and texts with many parentheses.
use Rattle.std.specs.Prelude.{ℕ, ◌≡◌, zero, suc, true, List, [], ◌∷◌, ◌++◌, map, codes, Some, None}
use Rattle.porch_tree.specs.declared.word.Keyword.TheVariants as key
use Rattle.porch_tree.specs.declared.word.Mark.{Mark}
use Rattle.porch_tree.specs.declared.word.Mark.TheVariants as mark
use Rattle.porch_tree.specs.declared.word.Word.{Word}
use Rattle.porch_tree.specs.declared.word.Word.TheVariants as word
use Rattle.porch_tree.specs.declared.tree.Assigning.TheVariants as assigning
use Rattle.porch_tree.specs.declared.tree.Prefix.TheVariants.{Pointee, Minus, Sizeof, Increase}
use Rattle.porch_tree.specs.declared.tree.Infix.TheVariants.{Add, Mul}
use Rattle.porch_tree.specs.declared.tree.Level.TheVariants as tier
use Rattle.porch_tree.specs.Mirror.{Name, Expr, name, whole, texts, nested, suffixed, prefixed, size_of, cast, row, conditional, assign, sequence, no_exprs, with_expr, no_operands, with_operand, absent, present, index, call, member, arrow, increased, no_suffixes, with_suffix, Base, kind, void, typedef_name, structure, enumeration, field, no_fields, with_field, constant, no_constants, with_constant, Declarator, declarator, no_declarators, with_declarator, Core, lacking, named, inner, count, empty_list, void_list, param_list, Brackets, no_brackets, with_bracket, param, no_params, with_param, TypeName, type_name, value, braced, no_initials, with_initial, Entry, Declaration, block, evaluate, choose_else, while_loop, do_loop, for_loop, switch, break, continue, give, no_stmts, with_stmt, case, default, stmt, no_entries, with_entry, typedef, declaration, function, TranslationUnit}
use Rattle.porch_tree.specs.Pieces.{Spelled, Piece, unit_pieces}
use Rattle.porch_walk.specs.Levels.{uses_shown}

-- a token whose place and bytes don't matter
abbrev pub token : Word → Spelled
token w = record { word = w; at = 0; bytes = [] }

abbrev pub m : Mark → Spelled
m k = token (word.Mark k)

abbrev pub repeated : ℕ → Spelled → List Spelled → List Spelled
repeated zero t ts = ts
repeated (suc n) t ts = t ∷ repeated n t ts

-- the uses of the pieces of a tree
abbrev pub uses_of : List Piece → List ℕ
uses_of = map (λ p. p.uses)

-- the tokens of a tree
abbrev pub tokens_of : List Piece → List Spelled
tokens_of = map (λ p. record { word = p.word; at = 0; bytes = p.bytes })

-- Over the tokens of a unit the uses of its pieces are shown.
abbrev pub ShowsItsUses : TranslationUnit → Type 0
ShowsItsUses u = uses_shown (tokens_of (unit_pieces u)) ≡ uses_of (unit_pieces u)

-- int main(void){
abbrev pub opened : List Spelled → List Spelled
opened ts =
    token (word.Key key.Int) ∷ token word.Name ∷ m mark.OpenParenthesis ∷ token (word.Key key.Void)
    ∷ m mark.CloseParenthesis ∷ m mark.OpenBrace ∷ ts

-- int main(void){int a=0;((a));return 0;} with so many parentheses round `a`, and more behind them
abbrev pub parentheses : ℕ → List Spelled → List Spelled
parentheses n more =
    opened (token (word.Key key.Int) ∷ token word.Name ∷ m mark.Equal ∷ token word.Whole ∷ m mark.Semicolon
    ∷ repeated n (m mark.OpenParenthesis) (token word.Name
    ∷ repeated n (m mark.CloseParenthesis) (more ++ m mark.Semicolon ∷ token (word.Key key.Return) ∷ token word.Whole
    ∷ m mark.Semicolon ∷ m mark.CloseBrace ∷ [])))

-- ?1:2, and =1
abbrev pub chosen : List Spelled
chosen = m mark.Question ∷ token word.Whole ∷ m mark.Colon ∷ token word.Whole ∷ []

abbrev pub assigned : List Spelled
assigned = m mark.Equal ∷ token word.Whole ∷ []

abbrev pub called : Name
called = record { at = 0; bytes = codes "a" }

abbrev pub alias : Name
alias = record { at = 0; bytes = codes "T" }

abbrev pub a : Expr
a = name called

abbrev pub int : Base
int = kind 0 (key.Int ∷ [])

abbrev pub plain : Core → Declarator
plain c = declarator 0 [] c no_brackets

abbrev pub bracketed : Core → Brackets → Declarator
bracketed c bs = declarator 0 [] c bs

abbrev pub entry : Declarator → Entry
entry x = record { declarator = x; initial = None }

abbrev pub declared : Base → List Entry → Declaration
declared b es = record { fixed = None; base = b; entries = es }

-- typedef int T; struct{int a,*a[1];struct{T a;}a;} a={a,{(T)a,},"s"}; enum{a,a=a?a:a} *(*a)(void);
-- int a(T,int(*a)(T),int(int),int(),int([a]),const void*,int(const T),void(*)(void const a));
abbrev pub types_unit : TranslationUnit
types_unit =
    typedef int (plain (named alias))
    ∷ declaration (declared
    (structure 0 None (with_field (field int (with_declarator (plain (named called))
    (with_declarator (declarator 0 (0 ∷ []) (named called) (with_bracket (count (present (whole called))) no_brackets)) no_declarators)))
    (with_field (field (structure 0 None (with_field (field (typedef_name 0 alias (record { before = 0; behind = 0 })) (with_declarator (plain (named called)) no_declarators)) no_fields)
    (record { before = 0; behind = 0 })) (with_declarator (plain (named called)) no_declarators)) no_fields)) (record { before = 0; behind = 0 }))
    (record {
      declarator = plain (named called);
      initial = Some (braced 0 (with_initial (value a)
          (with_initial (braced 0 (with_initial (value (cast 0 (type_name (typedef_name 0 alias (record { before = 0; behind = 0 })) (plain lacking)) a)) no_initials) true)
          (with_initial (value (texts called [])) no_initials))) true);
    } ∷ []))
    ∷ declaration (declared
    (enumeration 0 None (with_constant (constant called absent) (with_constant (constant called (present (conditional a a a))) no_constants)) (record { before = 0; behind = 0 }))
    (entry (declarator 0 (0 ∷ []) (inner 0 (declarator 0 (0 ∷ []) (named called) no_brackets)) (with_bracket void_list no_brackets)) ∷ []))
    ∷ declaration (declared int (entry (bracketed (named called) (with_bracket (param_list
    (with_param (param (typedef_name 0 alias (record { before = 0; behind = 0 })) (plain lacking))
    (with_param (param int (bracketed (inner 0 (declarator 0 (0 ∷ []) (named called) no_brackets)) (with_bracket (param_list (with_param (param (typedef_name 0 alias (record { before = 0; behind = 0 })) (plain lacking)) no_params)) no_brackets)))
    (with_param (param int (bracketed lacking (with_bracket (param_list (with_param (param int (plain lacking)) no_params)) no_brackets)))
    (with_param (param int (bracketed lacking (with_bracket empty_list no_brackets)))
    (with_param (param int (plain (inner 0 (bracketed lacking (with_bracket (count (present a)) no_brackets)))))
    (with_param (param (void 0 (record { before = 1; behind = 0 })) (declarator 0 (0 ∷ []) lacking no_brackets))
    (with_param (param int (bracketed lacking (with_bracket (param_list (with_param (param (typedef_name 0 alias (record { before = 1; behind = 0 })) (plain lacking)) no_params)) no_brackets)))
    (with_param (param (void 0 (record { before = 0; behind = 0 })) (bracketed (inner 0 (declarator 0 (0 ∷ []) lacking no_brackets))
    (with_bracket (param_list (with_param (param (void 0 (record { before = 0; behind = 1 })) (plain (named called))) no_params)) no_brackets)))
    no_params))))))))) no_brackets)) ∷ []))
    ∷ []

-- int a(){static int a=a=a; {int a;} if(a)if(a);else while(a)break;else do for(a;a;a)for(;;)continue;while(a,a=a);
-- switch(a){case a:default:a;{}} return a=a?a=a,a:a?a:a;return;}
abbrev pub statements_unit : TranslationUnit
statements_unit =
    function (record {
      fixed = None;
      base = int;
      declarator = bracketed (named called) (with_bracket empty_list no_brackets);
      declarations = record { fixed = Some 0; base = int; entries = record { declarator = plain (named called); initial = Some (value (assign assigning.Plain a a)) } ∷ [] } ∷ [];
      body =
          with_stmt (block 0 (declared int (entry (plain (named called)) ∷ []) ∷ []) no_stmts)
          (with_stmt (choose_else 0 a (choose_else 0 a (evaluate absent) (while_loop 0 a (break 0)))
          (do_loop 0 (for_loop 0 (present a) (present a) (present a) (for_loop 0 absent absent absent (continue 0))) (sequence a (with_expr (assign assigning.Plain a a) no_exprs))))
          (with_stmt (switch 0 a (with_entry (case 0 a) (with_entry (default 0) (with_entry (stmt (evaluate (present a))) (with_entry (stmt (block 0 [] no_stmts)) no_entries)))))
          (with_stmt (give 0 (present (assign assigning.Plain a (conditional a (sequence (assign assigning.Plain a a) (with_expr a no_exprs)) (conditional a a a)))))
          (with_stmt (give 0 absent) no_stmts))));
    })
    ∷ []

abbrev pub named_type : TypeName
named_type = type_name (typedef_name 0 alias (record { before = 0; behind = 0 })) (plain lacking)

-- typedef int T; int a(void){*((a=a)?a:a)=a+=a; -(T)a*a+(a)+((a)=a?a:a)+sizeof(T)+sizeof(a)+sizeof a; a[a=a](a=a,a?a:a)(a).a->a++; ++a[(a)]=(T*)(T[a])-a; "s""s"[a]; sizeof(a=a)[a];}
abbrev pub expressions_unit : TranslationUnit
expressions_unit =
    typedef int (plain (named alias))
    ∷ function (record {
      fixed = None;
      base = int;
      declarator = bracketed (named called) (with_bracket void_list no_brackets);
      declarations = [];
      body =
          with_stmt (evaluate (present (assign assigning.Plain (prefixed 0 Pointee (nested 0 (conditional (nested 0 (assign assigning.Plain a a)) a a))) (assign assigning.Add a a))))
          (with_stmt (evaluate (present (row tier.Sum (row tier.Product (prefixed 0 Minus (cast 0 named_type a)) (with_operand Mul a no_operands))
          (with_operand Add (nested 0 a) (with_operand Add (nested 0 (assign assigning.Plain (nested 0 a) (conditional a a a)))
          (with_operand Add (size_of 0 named_type) (with_operand Add (prefixed 0 Sizeof (nested 0 a)) (with_operand Add (prefixed 0 Sizeof a) no_operands))))))))
          (with_stmt (evaluate (present (suffixed a (with_suffix (index (assign assigning.Plain a a))
          (with_suffix (call (with_expr (assign assigning.Plain a a) (with_expr (conditional a a a) no_exprs)))
          (with_suffix (call (with_expr a no_exprs)) (with_suffix (member called) (with_suffix (arrow called) (with_suffix increased no_suffixes)))))))))
          (with_stmt (evaluate (present (assign assigning.Plain (prefixed 0 Increase (suffixed a (with_suffix (index (nested 0 a)) no_suffixes)))
          (cast 0 (type_name (typedef_name 0 alias (record { before = 0; behind = 0 })) (declarator 0 (0 ∷ []) lacking no_brackets))
          (cast 0 (type_name (typedef_name 0 alias (record { before = 0; behind = 0 })) (bracketed lacking (with_bracket (count (present a)) no_brackets))) (prefixed 0 Minus a))))))
          (with_stmt (evaluate (present (suffixed (texts called (called ∷ [])) (with_suffix (index a) no_suffixes))))
          (with_stmt (evaluate (present (prefixed 0 Sizeof (suffixed (nested 0 (assign assigning.Plain a a)) (with_suffix (index a) no_suffixes))))) no_stmts)))));
    })
    ∷ []
