-- Calls: functions, the library, allocations and literals.
use Rattle.std.specs.Prelude.{[], ◌∷◌, codes, false, Some, None}
use Rattle.porch_lex.specs.declared.refusal.Rule.TheVariants as rule
use Rattle.porch_tree.specs.declared.tree.Assigning.TheVariants as assigning
use Rattle.porch_tree.specs.declared.tree.Infix.TheVariants as sign
use Rattle.porch_tree.specs.declared.tree.Level.TheVariants as level
use Rattle.porch_tree.specs.declared.tree.Prefix.TheVariants as prefix
use Rattle.porch_tree.specs.declared.word.Keyword.TheVariants as key
use Rattle.porch_tree.specs.Mirror as tree
use Rattle.porch_check.specs.worked.Write.{word, quoted, consts, exprs, operands, suffixes, brackets, params, initials, stmts, entry, declaration, definition, IsRefused, IsAccepted}

-- A function is called by its name, with one argument for each parameter.

-- int g(void){return 1;}void f(void){g;}
abbrev pub FunctionsAreCalledNotCalled : Type 0
FunctionsAreCalledNotCalled =
    IsRefused 38 ((tree.function (definition None (tree.kind 0 (key.Int ∷ [])) (tree.declarator 4 []
    (tree.named (word 4 (codes "g"))) (brackets (tree.void_list ∷ []))) [] (stmts ((tree.give 12
    (tree.present (tree.whole (word 19 (codes "1"))))) ∷ [])))) ∷ (tree.function (definition None (tree.void
    22 (consts 0 0)) (tree.declarator 27 [] (tree.named (word 27 (codes "f"))) (brackets (tree.void_list ∷
    []))) [] (stmts ((tree.evaluate (tree.present (tree.name (word 35 (codes "g"))))) ∷ [])))) ∷ [])
    rule.Mismatch 35

-- int g(void){return 1;}void f(void){(g)();}
abbrev pub FunctionsAreCalledParentheses : Type 0
FunctionsAreCalledParentheses =
    IsRefused 42 ((tree.function (definition None (tree.kind 0 (key.Int ∷ [])) (tree.declarator 4 []
    (tree.named (word 4 (codes "g"))) (brackets (tree.void_list ∷ []))) [] (stmts ((tree.give 12
    (tree.present (tree.whole (word 19 (codes "1"))))) ∷ [])))) ∷ (tree.function (definition None (tree.void
    22 (consts 0 0)) (tree.declarator 27 [] (tree.named (word 27 (codes "f"))) (brackets (tree.void_list ∷
    []))) [] (stmts ((tree.evaluate (tree.present (tree.suffixed (tree.nested 35 (tree.name (word 36 (codes
    "g")))) (suffixes ((tree.call (exprs [])) ∷ []))))) ∷ [])))) ∷ []) rule.Mismatch 36

-- int g(int a){return a;}void f(void){g();}
abbrev pub FunctionsAreCalledNumber : Type 0
FunctionsAreCalledNumber =
    IsRefused 41 ((tree.function (definition None (tree.kind 0 (key.Int ∷ [])) (tree.declarator 4 []
    (tree.named (word 4 (codes "g"))) (brackets ((tree.param_list (params ((tree.param (tree.kind 6 (key.Int
    ∷ [])) (tree.declarator 10 [] (tree.named (word 10 (codes "a"))) (brackets []))) ∷ []))) ∷ []))) []
    (stmts ((tree.give 13 (tree.present (tree.name (word 20 (codes "a"))))) ∷ [])))) ∷ (tree.function
    (definition None (tree.void 23 (consts 0 0)) (tree.declarator 28 [] (tree.named (word 28 (codes "f")))
    (brackets (tree.void_list ∷ []))) [] (stmts ((tree.evaluate (tree.present (tree.suffixed (tree.name (word
    36 (codes "g"))) (suffixes ((tree.call (exprs [])) ∷ []))))) ∷ [])))) ∷ []) rule.Mismatch 36

-- int g(int a,int b){return a;}void f(int*q){g(q,x);}
abbrev pub FunctionsAreCalledOperandsFirst : Type 0
FunctionsAreCalledOperandsFirst =
    IsRefused 51 ((tree.function (definition None (tree.kind 0 (key.Int ∷ [])) (tree.declarator 4 []
    (tree.named (word 4 (codes "g"))) (brackets ((tree.param_list (params ((tree.param (tree.kind 6 (key.Int
    ∷ [])) (tree.declarator 10 [] (tree.named (word 10 (codes "a"))) (brackets []))) ∷ (tree.param (tree.kind
    12 (key.Int ∷ [])) (tree.declarator 16 [] (tree.named (word 16 (codes "b"))) (brackets []))) ∷ []))) ∷
    []))) [] (stmts ((tree.give 19 (tree.present (tree.name (word 26 (codes "a"))))) ∷ [])))) ∷
    (tree.function (definition None (tree.void 29 (consts 0 0)) (tree.declarator 34 [] (tree.named (word 34
    (codes "f"))) (brackets ((tree.param_list (params ((tree.param (tree.kind 36 (key.Int ∷ []))
    (tree.declarator 39 (0 ∷ []) (tree.named (word 40 (codes "q"))) (brackets []))) ∷ []))) ∷ []))) [] (stmts
    ((tree.evaluate (tree.present (tree.suffixed (tree.name (word 43 (codes "g"))) (suffixes ((tree.call
    (exprs ((tree.name (word 45 (codes "q"))) ∷ (tree.name (word 47 (codes "x"))) ∷ []))) ∷ []))))) ∷ []))))
    ∷ []) rule.Unknown 47

-- int g(int a){return a;}void f(int*q){g(q);}
abbrev pub FunctionsAreCalledArgument : Type 0
FunctionsAreCalledArgument =
    IsRefused 43 ((tree.function (definition None (tree.kind 0 (key.Int ∷ [])) (tree.declarator 4 []
    (tree.named (word 4 (codes "g"))) (brackets ((tree.param_list (params ((tree.param (tree.kind 6 (key.Int
    ∷ [])) (tree.declarator 10 [] (tree.named (word 10 (codes "a"))) (brackets []))) ∷ []))) ∷ []))) []
    (stmts ((tree.give 13 (tree.present (tree.name (word 20 (codes "a"))))) ∷ [])))) ∷ (tree.function
    (definition None (tree.void 23 (consts 0 0)) (tree.declarator 28 [] (tree.named (word 28 (codes "f")))
    (brackets ((tree.param_list (params ((tree.param (tree.kind 30 (key.Int ∷ [])) (tree.declarator 33 (0 ∷
    []) (tree.named (word 34 (codes "q"))) (brackets []))) ∷ []))) ∷ []))) [] (stmts ((tree.evaluate
    (tree.present (tree.suffixed (tree.name (word 37 (codes "g"))) (suffixes ((tree.call (exprs ((tree.name
    (word 39 (codes "q"))) ∷ []))) ∷ []))))) ∷ [])))) ∷ []) rule.Mismatch 39

-- void f(int n){n(1);}
abbrev pub FunctionsAreCalledObject : Type 0
FunctionsAreCalledObject =
    IsRefused 20 ((tree.function (definition None (tree.void 0 (consts 0 0)) (tree.declarator 5 []
    (tree.named (word 5 (codes "f"))) (brackets ((tree.param_list (params ((tree.param (tree.kind 7 (key.Int
    ∷ [])) (tree.declarator 11 [] (tree.named (word 11 (codes "n"))) (brackets []))) ∷ []))) ∷ []))) []
    (stmts ((tree.evaluate (tree.present (tree.suffixed (tree.name (word 14 (codes "n"))) (suffixes
    ((tree.call (exprs ((tree.whole (word 16 (codes "1"))) ∷ []))) ∷ []))))) ∷ [])))) ∷ []) rule.Mismatch 14

-- putchar, puts, free and checkpoint.

-- void f(char*q){putchar(q);}
abbrev pub TheLibraryIsCalledPutchar : Type 0
TheLibraryIsCalledPutchar =
    IsRefused 27 ((tree.function (definition None (tree.void 0 (consts 0 0)) (tree.declarator 5 []
    (tree.named (word 5 (codes "f"))) (brackets ((tree.param_list (params ((tree.param (tree.kind 7 (key.Char
    ∷ [])) (tree.declarator 11 (0 ∷ []) (tree.named (word 12 (codes "q"))) (brackets []))) ∷ []))) ∷ []))) []
    (stmts ((tree.evaluate (tree.present (tree.suffixed (tree.name (word 15 (codes "putchar"))) (suffixes
    ((tree.call (exprs ((tree.name (word 23 (codes "q"))) ∷ []))) ∷ []))))) ∷ [])))) ∷ []) rule.Mismatch 23

-- void f(int*q){puts(q);}
abbrev pub TheLibraryIsCalledPuts : Type 0
TheLibraryIsCalledPuts =
    IsRefused 23 ((tree.function (definition None (tree.void 0 (consts 0 0)) (tree.declarator 5 []
    (tree.named (word 5 (codes "f"))) (brackets ((tree.param_list (params ((tree.param (tree.kind 7 (key.Int
    ∷ [])) (tree.declarator 10 (0 ∷ []) (tree.named (word 11 (codes "q"))) (brackets []))) ∷ []))) ∷ []))) []
    (stmts ((tree.evaluate (tree.present (tree.suffixed (tree.name (word 14 (codes "puts"))) (suffixes
    ((tree.call (exprs ((tree.name (word 19 (codes "q"))) ∷ []))) ∷ []))))) ∷ [])))) ∷ []) rule.Mismatch 19

-- void f(int n){free(n);}
abbrev pub TheLibraryIsCalledFree : Type 0
TheLibraryIsCalledFree =
    IsRefused 23 ((tree.function (definition None (tree.void 0 (consts 0 0)) (tree.declarator 5 []
    (tree.named (word 5 (codes "f"))) (brackets ((tree.param_list (params ((tree.param (tree.kind 7 (key.Int
    ∷ [])) (tree.declarator 11 [] (tree.named (word 11 (codes "n"))) (brackets []))) ∷ []))) ∷ []))) []
    (stmts ((tree.evaluate (tree.present (tree.suffixed (tree.name (word 14 (codes "free"))) (suffixes
    ((tree.call (exprs ((tree.name (word 19 (codes "n"))) ∷ []))) ∷ []))))) ∷ [])))) ∷ []) rule.Mismatch 19

-- void f(void){checkpoint(1);}
abbrev pub TheLibraryIsCalledCheckpoint : Type 0
TheLibraryIsCalledCheckpoint =
    IsRefused 28 ((tree.function (definition None (tree.void 0 (consts 0 0)) (tree.declarator 5 []
    (tree.named (word 5 (codes "f"))) (brackets (tree.void_list ∷ []))) [] (stmts ((tree.evaluate
    (tree.present (tree.suffixed (tree.name (word 13 (codes "checkpoint"))) (suffixes ((tree.call (exprs
    ((tree.whole (word 24 (codes "1"))) ∷ []))) ∷ []))))) ∷ [])))) ∷ []) rule.Mismatch 13

-- int main(void){char k[2]="a";putchar('b');puts(k);puts("c""d");free(0);free(NULL);checkpoint();return 0;}
abbrev pub TheLibraryIsCalledAll : Type 0
TheLibraryIsCalledAll =
    IsAccepted 105 ((tree.function (definition None (tree.kind 0 (key.Int ∷ [])) (tree.declarator 4 []
    (tree.named (word 4 (codes "main"))) (brackets (tree.void_list ∷ []))) ((declaration None (tree.kind 15
    (key.Char ∷ [])) ((entry (tree.declarator 20 [] (tree.named (word 20 (codes "k"))) (brackets ((tree.count
    (tree.present (tree.whole (word 22 (codes "2"))))) ∷ []))) (Some (tree.value (tree.texts (word 25 (quoted
    (codes "a"))) [])))) ∷ [])) ∷ []) (stmts ((tree.evaluate (tree.present (tree.suffixed (tree.name (word 29
    (codes "putchar"))) (suffixes ((tree.call (exprs ((tree.character (word 37 (codes "'b'"))) ∷ []))) ∷
    []))))) ∷ (tree.evaluate (tree.present (tree.suffixed (tree.name (word 42 (codes "puts"))) (suffixes
    ((tree.call (exprs ((tree.name (word 47 (codes "k"))) ∷ []))) ∷ []))))) ∷ (tree.evaluate (tree.present
    (tree.suffixed (tree.name (word 50 (codes "puts"))) (suffixes ((tree.call (exprs ((tree.texts (word 55
    (quoted (codes "c"))) ((word 58 (quoted (codes "d"))) ∷ [])) ∷ []))) ∷ []))))) ∷ (tree.evaluate
    (tree.present (tree.suffixed (tree.name (word 63 (codes "free"))) (suffixes ((tree.call (exprs
    ((tree.whole (word 68 (codes "0"))) ∷ []))) ∷ []))))) ∷ (tree.evaluate (tree.present (tree.suffixed
    (tree.name (word 71 (codes "free"))) (suffixes ((tree.call (exprs ((tree.name (word 76 (codes "NULL"))) ∷
    []))) ∷ []))))) ∷ (tree.evaluate (tree.present (tree.suffixed (tree.name (word 82 (codes "checkpoint")))
    (suffixes ((tree.call (exprs [])) ∷ []))))) ∷ (tree.give 95 (tree.present (tree.whole (word 102 (codes
    "0"))))) ∷ [])))) ∷ [])

-- sizeof stands in an allocation, bare.

-- void f(void){sizeof(int);}
abbrev pub AllocationsHaveSizesOutside : Type 0
AllocationsHaveSizesOutside =
    IsRefused 26 ((tree.function (definition None (tree.void 0 (consts 0 0)) (tree.declarator 5 []
    (tree.named (word 5 (codes "f"))) (brackets (tree.void_list ∷ []))) [] (stmts ((tree.evaluate
    (tree.present (tree.size_of 13 (tree.type_name (tree.kind 20 (key.Int ∷ [])) (tree.declarator 23 []
    tree.lacking (brackets [])))))) ∷ [])))) ∷ []) rule.SizeofPlace 13

-- void f(void){malloc(2*(sizeof(int)));}
abbrev pub AllocationsHaveSizesParentheses : Type 0
AllocationsHaveSizesParentheses =
    IsRefused 38 ((tree.function (definition None (tree.void 0 (consts 0 0)) (tree.declarator 5 []
    (tree.named (word 5 (codes "f"))) (brackets (tree.void_list ∷ []))) [] (stmts ((tree.evaluate
    (tree.present (tree.suffixed (tree.name (word 13 (codes "malloc"))) (suffixes ((tree.call (exprs
    ((tree.row level.Product (tree.whole (word 20 (codes "2"))) (operands ((
      sign.Mul,
      (tree.nested 22
          (tree.size_of 23 (tree.type_name (tree.kind 30 (key.Int ∷ [])) (tree.declarator 33 [] tree.lacking
          (brackets []))))),
    ) ∷ []))) ∷ []))) ∷ []))))) ∷ [])))) ∷ []) rule.SizeofPlace 23

-- void f(int n){malloc(sizeof n);}
abbrev pub AllocationsHaveSizesObject : Type 0
AllocationsHaveSizesObject =
    IsRefused 32 ((tree.function (definition None (tree.void 0 (consts 0 0)) (tree.declarator 5 []
    (tree.named (word 5 (codes "f"))) (brackets ((tree.param_list (params ((tree.param (tree.kind 7 (key.Int
    ∷ [])) (tree.declarator 11 [] (tree.named (word 11 (codes "n"))) (brackets []))) ∷ []))) ∷ []))) []
    (stmts ((tree.evaluate (tree.present (tree.suffixed (tree.name (word 14 (codes "malloc"))) (suffixes
    ((tree.call (exprs ((tree.prefixed 21 prefix.Sizeof (tree.name (word 28 (codes "n")))) ∷ []))) ∷ [])))))
    ∷ [])))) ∷ []) rule.SizeofPlace 21

-- void f(void){malloc(sizeof(int)*sizeof(char));}
abbrev pub AllocationsHaveSizesTwo : Type 0
AllocationsHaveSizesTwo =
    IsRefused 47 ((tree.function (definition None (tree.void 0 (consts 0 0)) (tree.declarator 5 []
    (tree.named (word 5 (codes "f"))) (brackets (tree.void_list ∷ []))) [] (stmts ((tree.evaluate
    (tree.present (tree.suffixed (tree.name (word 13 (codes "malloc"))) (suffixes ((tree.call (exprs
    ((tree.row level.Product (tree.size_of 20 (tree.type_name (tree.kind 27 (key.Int ∷ [])) (tree.declarator
    30 [] tree.lacking (brackets [])))) (operands ((
      sign.Mul,
      (tree.size_of 32 (tree.type_name (tree.kind 39
          (key.Char ∷ [])) (tree.declarator 43 [] tree.lacking (brackets [])))),
    ) ∷ []))) ∷ []))) ∷ []))))) ∷ []))))
    ∷ []) rule.SizeofPlace 20

-- void f(void){malloc(4);}
abbrev pub AllocationsHaveSizesNone : Type 0
AllocationsHaveSizesNone =
    IsRefused 24 ((tree.function (definition None (tree.void 0 (consts 0 0)) (tree.declarator 5 []
    (tree.named (word 5 (codes "f"))) (brackets (tree.void_list ∷ []))) [] (stmts ((tree.evaluate
    (tree.present (tree.suffixed (tree.name (word 13 (codes "malloc"))) (suffixes ((tree.call (exprs
    ((tree.whole (word 20 (codes "4"))) ∷ []))) ∷ []))))) ∷ [])))) ∷ []) rule.Mismatch 13

-- void f(int*q){malloc(q*sizeof(int));}
abbrev pub AllocationsHaveSizesCount : Type 0
AllocationsHaveSizesCount =
    IsRefused 37 ((tree.function (definition None (tree.void 0 (consts 0 0)) (tree.declarator 5 []
    (tree.named (word 5 (codes "f"))) (brackets ((tree.param_list (params ((tree.param (tree.kind 7 (key.Int
    ∷ [])) (tree.declarator 10 (0 ∷ []) (tree.named (word 11 (codes "q"))) (brackets []))) ∷ []))) ∷ []))) []
    (stmts ((tree.evaluate (tree.present (tree.suffixed (tree.name (word 14 (codes "malloc"))) (suffixes
    ((tree.call (exprs ((tree.row level.Product (tree.name (word 21 (codes "q"))) (operands ((
      sign.Mul,
      (tree.size_of 23 (tree.type_name (tree.kind 30 (key.Int ∷ [])) (tree.declarator 33 [] tree.lacking
          (brackets [])))),
    ) ∷ []))) ∷ []))) ∷ []))))) ∷ [])))) ∷ []) rule.Mismatch 14

-- int main(void){int*q;q=malloc(sizeof(int));q=malloc(sizeof(*q)*2);q=calloc(3,sizeof *q);return 0;}
abbrev pub AllocationsHaveSizesForms : Type 0
AllocationsHaveSizesForms =
    IsAccepted 98 ((tree.function (definition None (tree.kind 0 (key.Int ∷ [])) (tree.declarator 4 []
    (tree.named (word 4 (codes "main"))) (brackets (tree.void_list ∷ []))) ((declaration None (tree.kind 15
    (key.Int ∷ [])) ((entry (tree.declarator 18 (0 ∷ []) (tree.named (word 19 (codes "q"))) (brackets []))
    None) ∷ [])) ∷ []) (stmts ((tree.evaluate (tree.present (tree.assign assigning.Plain (tree.name (word 21
    (codes "q"))) (tree.suffixed (tree.name (word 23 (codes "malloc"))) (suffixes ((tree.call (exprs
    ((tree.size_of 30 (tree.type_name (tree.kind 37 (key.Int ∷ [])) (tree.declarator 40 [] tree.lacking
    (brackets [])))) ∷ []))) ∷ [])))))) ∷ (tree.evaluate (tree.present (tree.assign assigning.Plain
    (tree.name (word 43 (codes "q"))) (tree.suffixed (tree.name (word 45 (codes "malloc"))) (suffixes
    ((tree.call (exprs ((tree.row level.Product (tree.prefixed 52 prefix.Sizeof (tree.nested 58
    (tree.prefixed 59 prefix.Pointee (tree.name (word 60 (codes "q")))))) (operands ((
      sign.Mul,
      (tree.whole
          (word 63 (codes "2"))),
    ) ∷ []))) ∷ []))) ∷ [])))))) ∷ (tree.evaluate (tree.present (tree.assign
    assigning.Plain (tree.name (word 66 (codes "q"))) (tree.suffixed (tree.name (word 68 (codes "calloc")))
    (suffixes ((tree.call (exprs ((tree.whole (word 75 (codes "3"))) ∷ (tree.prefixed 77 prefix.Sizeof
    (tree.prefixed 84 prefix.Pointee (tree.name (word 85 (codes "q"))))) ∷ []))) ∷ [])))))) ∷ (tree.give 88
    (tree.present (tree.whole (word 95 (codes "0"))))) ∷ [])))) ∷ [])

-- A string literal is an argument of printf or puts, or begins an array of char.

-- char*q="a";
abbrev pub LiteralsAreShownPointer : Type 0
LiteralsAreShownPointer =
    IsRefused 11 ((tree.declaration (declaration None (tree.kind 0 (key.Char ∷ [])) ((entry (tree.declarator
    4 (0 ∷ []) (tree.named (word 5 (codes "q"))) (brackets [])) (Some (tree.value (tree.texts (word 7 (quoted
    (codes "a"))) [])))) ∷ []))) ∷ []) rule.StringValue 7

-- void f(void){puts(("a"));}
abbrev pub LiteralsAreShownParentheses : Type 0
LiteralsAreShownParentheses =
    IsRefused 26 ((tree.function (definition None (tree.void 0 (consts 0 0)) (tree.declarator 5 []
    (tree.named (word 5 (codes "f"))) (brackets (tree.void_list ∷ []))) [] (stmts ((tree.evaluate
    (tree.present (tree.suffixed (tree.name (word 13 (codes "puts"))) (suffixes ((tree.call (exprs
    ((tree.nested 18 (tree.texts (word 19 (quoted (codes "a"))) [])) ∷ []))) ∷ []))))) ∷ [])))) ∷ [])
    rule.StringValue 19

-- unsigned char q[]="a";
abbrev pub LiteralsAreShownUnsigned : Type 0
LiteralsAreShownUnsigned =
    IsRefused 22 ((tree.declaration (declaration None (tree.kind 0 (key.Unsigned ∷ key.Char ∷ [])) ((entry
    (tree.declarator 14 [] (tree.named (word 14 (codes "q"))) (brackets ((tree.count tree.absent) ∷ [])))
    (Some (tree.value (tree.texts (word 18 (quoted (codes "a"))) [])))) ∷ []))) ∷ []) rule.StringValue 18

-- char q[]="a",r[1]="b",s[3]={"c"};int main(void){printf("%s","d");return 0;}
abbrev pub LiteralsAreShownBegins : Type 0
LiteralsAreShownBegins =
    IsAccepted 75 ((tree.declaration (declaration None (tree.kind 0 (key.Char ∷ [])) ((entry (tree.declarator
    5 [] (tree.named (word 5 (codes "q"))) (brackets ((tree.count tree.absent) ∷ []))) (Some (tree.value
    (tree.texts (word 9 (quoted (codes "a"))) [])))) ∷ (entry (tree.declarator 13 [] (tree.named (word 13
    (codes "r"))) (brackets ((tree.count (tree.present (tree.whole (word 15 (codes "1"))))) ∷ []))) (Some
    (tree.value (tree.texts (word 18 (quoted (codes "b"))) [])))) ∷ (entry (tree.declarator 22 [] (tree.named
    (word 22 (codes "s"))) (brackets ((tree.count (tree.present (tree.whole (word 24 (codes "3"))))) ∷ [])))
    (Some (tree.braced 27 (initials ((tree.value (tree.texts (word 28 (quoted (codes "c"))) [])) ∷ []))
    false))) ∷ []))) ∷ (tree.function (definition None (tree.kind 33 (key.Int ∷ [])) (tree.declarator 37 []
    (tree.named (word 37 (codes "main"))) (brackets (tree.void_list ∷ []))) [] (stmts ((tree.evaluate
    (tree.present (tree.suffixed (tree.name (word 48 (codes "printf"))) (suffixes ((tree.call (exprs
    ((tree.texts (word 55 (quoted (codes "%s"))) []) ∷ (tree.texts (word 60 (quoted (codes "d"))) []) ∷ [])))
    ∷ []))))) ∷ (tree.give 65 (tree.present (tree.whole (word 72 (codes "0"))))) ∷ [])))) ∷ [])

-- The arguments of printf match its format.

-- void f(void){printf("%i",1);}
abbrev pub FormatsAreMatchedConversion : Type 0
FormatsAreMatchedConversion =
    IsRefused 29 ((tree.function (definition None (tree.void 0 (consts 0 0)) (tree.declarator 5 []
    (tree.named (word 5 (codes "f"))) (brackets (tree.void_list ∷ []))) [] (stmts ((tree.evaluate
    (tree.present (tree.suffixed (tree.name (word 13 (codes "printf"))) (suffixes ((tree.call (exprs
    ((tree.texts (word 20 (quoted (codes "%i"))) []) ∷ (tree.whole (word 25 (codes "1"))) ∷ []))) ∷ []))))) ∷
    [])))) ∷ []) rule.Format 20

-- void f(void){printf("%d");}
abbrev pub FormatsAreMatchedNumber : Type 0
FormatsAreMatchedNumber =
    IsRefused 27 ((tree.function (definition None (tree.void 0 (consts 0 0)) (tree.declarator 5 []
    (tree.named (word 5 (codes "f"))) (brackets (tree.void_list ∷ []))) [] (stmts ((tree.evaluate
    (tree.present (tree.suffixed (tree.name (word 13 (codes "printf"))) (suffixes ((tree.call (exprs
    ((tree.texts (word 20 (quoted (codes "%d"))) []) ∷ []))) ∷ []))))) ∷ [])))) ∷ []) rule.Format 13

-- void f(void){printf("%u",1l);}
abbrev pub FormatsAreMatchedKind : Type 0
FormatsAreMatchedKind =
    IsRefused 30 ((tree.function (definition None (tree.void 0 (consts 0 0)) (tree.declarator 5 []
    (tree.named (word 5 (codes "f"))) (brackets (tree.void_list ∷ []))) [] (stmts ((tree.evaluate
    (tree.present (tree.suffixed (tree.name (word 13 (codes "printf"))) (suffixes ((tree.call (exprs
    ((tree.texts (word 20 (quoted (codes "%u"))) []) ∷ (tree.whole (word 25 (codes "1l"))) ∷ []))) ∷ [])))))
    ∷ [])))) ∷ []) rule.Format 25

-- void f(void){printf("%s",NULL);}
abbrev pub FormatsAreMatchedText : Type 0
FormatsAreMatchedText =
    IsRefused 32 ((tree.function (definition None (tree.void 0 (consts 0 0)) (tree.declarator 5 []
    (tree.named (word 5 (codes "f"))) (brackets (tree.void_list ∷ []))) [] (stmts ((tree.evaluate
    (tree.present (tree.suffixed (tree.name (word 13 (codes "printf"))) (suffixes ((tree.call (exprs
    ((tree.texts (word 20 (quoted (codes "%s"))) []) ∷ (tree.name (word 25 (codes "NULL"))) ∷ []))) ∷ [])))))
    ∷ [])))) ∷ []) rule.Format 25

-- void f(char*q){printf(q);}
abbrev pub FormatsAreMatchedNoLiteral : Type 0
FormatsAreMatchedNoLiteral =
    IsRefused 26 ((tree.function (definition None (tree.void 0 (consts 0 0)) (tree.declarator 5 []
    (tree.named (word 5 (codes "f"))) (brackets ((tree.param_list (params ((tree.param (tree.kind 7 (key.Char
    ∷ [])) (tree.declarator 11 (0 ∷ []) (tree.named (word 12 (codes "q"))) (brackets []))) ∷ []))) ∷ []))) []
    (stmts ((tree.evaluate (tree.present (tree.suffixed (tree.name (word 15 (codes "printf"))) (suffixes
    ((tree.call (exprs ((tree.name (word 22 (codes "q"))) ∷ []))) ∷ []))))) ∷ [])))) ∷ []) rule.Format 22

-- void f(void){printf();}
abbrev pub FormatsAreMatchedNothing : Type 0
FormatsAreMatchedNothing =
    IsRefused 23 ((tree.function (definition None (tree.void 0 (consts 0 0)) (tree.declarator 5 []
    (tree.named (word 5 (codes "f"))) (brackets (tree.void_list ∷ []))) [] (stmts ((tree.evaluate
    (tree.present (tree.suffixed (tree.name (word 13 (codes "printf"))) (suffixes ((tree.call (exprs [])) ∷
    []))))) ∷ [])))) ∷ []) rule.Format 13

-- int main(void){printf("%d%c%u%x%ld%lu%s%%",'a',1,1u,2,3l,4ul,"b");return 0;}
abbrev pub FormatsAreMatchedMatched : Type 0
FormatsAreMatchedMatched =
    IsAccepted 76 ((tree.function (definition None (tree.kind 0 (key.Int ∷ [])) (tree.declarator 4 []
    (tree.named (word 4 (codes "main"))) (brackets (tree.void_list ∷ []))) [] (stmts ((tree.evaluate
    (tree.present (tree.suffixed (tree.name (word 15 (codes "printf"))) (suffixes ((tree.call (exprs
    ((tree.texts (word 22 (quoted (codes "%d%c%u%x%ld%lu%s%%"))) []) ∷ (tree.character (word 43 (codes
    "'a'"))) ∷ (tree.whole (word 47 (codes "1"))) ∷ (tree.whole (word 49 (codes "1u"))) ∷ (tree.whole (word
    52 (codes "2"))) ∷ (tree.whole (word 54 (codes "3l"))) ∷ (tree.whole (word 57 (codes "4ul"))) ∷
    (tree.texts (word 61 (quoted (codes "b"))) []) ∷ []))) ∷ []))))) ∷ (tree.give 66 (tree.present
    (tree.whole (word 73 (codes "0"))))) ∷ [])))) ∷ [])
