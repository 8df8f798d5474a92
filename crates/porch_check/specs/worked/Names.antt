-- Names: declared before they are used, and once in a scope.
use Rattle.std.specs.Prelude.{[], ◌∷◌, codes, Some, None}
use Rattle.porch_lex.specs.declared.refusal.Rule.TheVariants as rule
use Rattle.porch_tree.specs.declared.tree.Assigning.TheVariants as assigning
use Rattle.porch_tree.specs.declared.tree.Infix.TheVariants as sign
use Rattle.porch_tree.specs.declared.tree.Level.TheVariants as level
use Rattle.porch_tree.specs.declared.tree.Prefix.TheVariants as prefix
use Rattle.porch_tree.specs.declared.tree.TagSort.TheVariants.{Enum}
use Rattle.porch_tree.specs.declared.word.Keyword.TheVariants as key
use Rattle.porch_tree.specs.Mirror as tree
use Rattle.porch_check.specs.worked.Write.{word, consts, exprs, operands, suffixes, fields, declarators, brackets, params, stmts, entry, declaration, definition, IsRefused, IsAccepted}

-- Names, tags and members are declared where they are used; a function that is called has a body.

-- int f(void){return n;}
abbrev pub NamesAreDeclaredUnknown : Type 0
NamesAreDeclaredUnknown =
    IsRefused 22 ((tree.function (definition None (tree.kind 0 (key.Int ∷ [])) (tree.declarator 4 []
    (tree.named (word 4 (codes "f"))) (brackets (tree.void_list ∷ []))) [] (stmts ((tree.give 12
    (tree.present (tree.name (word 19 (codes "n"))))) ∷ [])))) ∷ []) rule.Unknown 19

-- int n;int main(void){return n;}
abbrev pub NamesAreDeclaredKnown : Type 0
NamesAreDeclaredKnown =
    IsAccepted 31 ((tree.declaration (declaration None (tree.kind 0 (key.Int ∷ [])) ((entry (tree.declarator
    4 [] (tree.named (word 4 (codes "n"))) (brackets [])) None) ∷ []))) ∷ (tree.function (definition None
    (tree.kind 6 (key.Int ∷ [])) (tree.declarator 10 [] (tree.named (word 10 (codes "main"))) (brackets
    (tree.void_list ∷ []))) [] (stmts ((tree.give 21 (tree.present (tree.name (word 28 (codes "n"))))) ∷
    [])))) ∷ [])

-- int f(void){return g();}int g(void){return 1;}
abbrev pub NamesAreDeclaredLater : Type 0
NamesAreDeclaredLater =
    IsRefused 46 ((tree.function (definition None (tree.kind 0 (key.Int ∷ [])) (tree.declarator 4 []
    (tree.named (word 4 (codes "f"))) (brackets (tree.void_list ∷ []))) [] (stmts ((tree.give 12
    (tree.present (tree.suffixed (tree.name (word 19 (codes "g"))) (suffixes ((tree.call (exprs [])) ∷
    []))))) ∷ [])))) ∷ (tree.function (definition None (tree.kind 24 (key.Int ∷ [])) (tree.declarator 28 []
    (tree.named (word 28 (codes "g"))) (brackets (tree.void_list ∷ []))) [] (stmts ((tree.give 36
    (tree.present (tree.whole (word 43 (codes "1"))))) ∷ [])))) ∷ []) rule.Unknown 19

-- int g(void);int main(void){return g();}int g(void){return 1;}
abbrev pub NamesAreDeclaredEarlier : Type 0
NamesAreDeclaredEarlier =
    IsAccepted 61 ((tree.declaration (declaration None (tree.kind 0 (key.Int ∷ [])) ((entry (tree.declarator
    4 [] (tree.named (word 4 (codes "g"))) (brackets (tree.void_list ∷ []))) None) ∷ []))) ∷ (tree.function
    (definition None (tree.kind 12 (key.Int ∷ [])) (tree.declarator 16 [] (tree.named (word 16 (codes
    "main"))) (brackets (tree.void_list ∷ []))) [] (stmts ((tree.give 27 (tree.present (tree.suffixed
    (tree.name (word 34 (codes "g"))) (suffixes ((tree.call (exprs [])) ∷ []))))) ∷ [])))) ∷ (tree.function
    (definition None (tree.kind 39 (key.Int ∷ [])) (tree.declarator 43 [] (tree.named (word 43 (codes "g")))
    (brackets (tree.void_list ∷ []))) [] (stmts ((tree.give 51 (tree.present (tree.whole (word 58 (codes
    "1"))))) ∷ [])))) ∷ [])

-- int g(int n);int f(void){return g(2);}
abbrev pub NamesAreDeclaredNoBody : Type 0
NamesAreDeclaredNoBody =
    IsRefused 38 ((tree.declaration (declaration None (tree.kind 0 (key.Int ∷ [])) ((entry (tree.declarator 4
    [] (tree.named (word 4 (codes "g"))) (brackets ((tree.param_list (params ((tree.param (tree.kind 6
    (key.Int ∷ [])) (tree.declarator 10 [] (tree.named (word 10 (codes "n"))) (brackets []))) ∷ []))) ∷ [])))
    None) ∷ []))) ∷ (tree.function (definition None (tree.kind 13 (key.Int ∷ [])) (tree.declarator 17 []
    (tree.named (word 17 (codes "f"))) (brackets (tree.void_list ∷ []))) [] (stmts ((tree.give 25
    (tree.present (tree.suffixed (tree.name (word 32 (codes "g"))) (suffixes ((tree.call (exprs ((tree.whole
    (word 34 (codes "2"))) ∷ []))) ∷ []))))) ∷ [])))) ∷ []) rule.Unknown 32

-- enum e k;
abbrev pub NamesAreDeclaredTag : Type 0
NamesAreDeclaredTag =
    IsRefused 9 ((tree.declaration (declaration None (tree.tag 0 Enum (word 5 (codes "e")) (consts 0 0))
    ((entry (tree.declarator 7 [] (tree.named (word 7 (codes "k"))) (brackets [])) None) ∷ []))) ∷ [])
    rule.Unknown 5

-- struct p{int a;}k;int f(void){return k.b;}
abbrev pub NamesAreDeclaredMember : Type 0
NamesAreDeclaredMember =
    IsRefused 42 ((tree.declaration (declaration None (tree.structure 0 (Some (word 7 (codes "p"))) (fields
    ((tree.field (tree.kind 9 (key.Int ∷ [])) (declarators ((tree.declarator 13 [] (tree.named (word 13
    (codes "a"))) (brackets [])) ∷ []))) ∷ [])) (consts 0 0)) ((entry (tree.declarator 16 [] (tree.named
    (word 16 (codes "k"))) (brackets [])) None) ∷ []))) ∷ (tree.function (definition None (tree.kind 18
    (key.Int ∷ [])) (tree.declarator 22 [] (tree.named (word 22 (codes "f"))) (brackets (tree.void_list ∷
    []))) [] (stmts ((tree.give 30 (tree.present (tree.suffixed (tree.name (word 37 (codes "k"))) (suffixes
    ((tree.member (word 39 (codes "b"))) ∷ []))))) ∷ [])))) ∷ []) rule.Unknown 39

-- void f(void){x+&1;}
abbrev pub NamesAreDeclaredLeftFirst : Type 0
NamesAreDeclaredLeftFirst =
    IsRefused 19 ((tree.function (definition None (tree.void 0 (consts 0 0)) (tree.declarator 5 []
    (tree.named (word 5 (codes "f"))) (brackets (tree.void_list ∷ []))) [] (stmts ((tree.evaluate
    (tree.present (tree.row level.Sum (tree.name (word 13 (codes "x"))) (operands ((
      sign.Add,
      (tree.prefixed
          15 prefix.Address (tree.whole (word 16 (codes "1")))),
    ) ∷ []))))) ∷ [])))) ∷ []) rule.Unknown 13

-- A name is declared once in a scope, a function any number of times; an inner name hides an outer one.

-- int n;char n;
abbrev pub NamesAreDeclaredOnceObject : Type 0
NamesAreDeclaredOnceObject =
    IsRefused 13 ((tree.declaration (declaration None (tree.kind 0 (key.Int ∷ [])) ((entry (tree.declarator 4
    [] (tree.named (word 4 (codes "n"))) (brackets [])) None) ∷ []))) ∷ (tree.declaration (declaration None
    (tree.kind 6 (key.Char ∷ [])) ((entry (tree.declarator 11 [] (tree.named (word 11 (codes "n"))) (brackets
    [])) None) ∷ []))) ∷ []) rule.Twice 11

-- int f(int a);int f(int b){return b;}int f(int c);int main(void){return f(1);}
abbrev pub NamesAreDeclaredOnceFunction : Type 0
NamesAreDeclaredOnceFunction =
    IsAccepted 77 ((tree.declaration (declaration None (tree.kind 0 (key.Int ∷ [])) ((entry (tree.declarator
    4 [] (tree.named (word 4 (codes "f"))) (brackets ((tree.param_list (params ((tree.param (tree.kind 6
    (key.Int ∷ [])) (tree.declarator 10 [] (tree.named (word 10 (codes "a"))) (brackets []))) ∷ []))) ∷ [])))
    None) ∷ []))) ∷ (tree.function (definition None (tree.kind 13 (key.Int ∷ [])) (tree.declarator 17 []
    (tree.named (word 17 (codes "f"))) (brackets ((tree.param_list (params ((tree.param (tree.kind 19
    (key.Int ∷ [])) (tree.declarator 23 [] (tree.named (word 23 (codes "b"))) (brackets []))) ∷ []))) ∷ [])))
    [] (stmts ((tree.give 26 (tree.present (tree.name (word 33 (codes "b"))))) ∷ [])))) ∷ (tree.declaration
    (declaration None (tree.kind 36 (key.Int ∷ [])) ((entry (tree.declarator 40 [] (tree.named (word 40
    (codes "f"))) (brackets ((tree.param_list (params ((tree.param (tree.kind 42 (key.Int ∷ []))
    (tree.declarator 46 [] (tree.named (word 46 (codes "c"))) (brackets []))) ∷ []))) ∷ []))) None) ∷ []))) ∷
    (tree.function (definition None (tree.kind 49 (key.Int ∷ [])) (tree.declarator 53 [] (tree.named (word 53
    (codes "main"))) (brackets (tree.void_list ∷ []))) [] (stmts ((tree.give 64 (tree.present (tree.suffixed
    (tree.name (word 71 (codes "f"))) (suffixes ((tree.call (exprs ((tree.whole (word 73 (codes "1"))) ∷
    []))) ∷ []))))) ∷ [])))) ∷ [])

-- int n;int main(void){int n;n=1;{char n;n=2;}return n;}
abbrev pub NamesAreDeclaredOnceHidden : Type 0
NamesAreDeclaredOnceHidden =
    IsAccepted 54 ((tree.declaration (declaration None (tree.kind 0 (key.Int ∷ [])) ((entry (tree.declarator
    4 [] (tree.named (word 4 (codes "n"))) (brackets [])) None) ∷ []))) ∷ (tree.function (definition None
    (tree.kind 6 (key.Int ∷ [])) (tree.declarator 10 [] (tree.named (word 10 (codes "main"))) (brackets
    (tree.void_list ∷ []))) ((declaration None (tree.kind 21 (key.Int ∷ [])) ((entry (tree.declarator 25 []
    (tree.named (word 25 (codes "n"))) (brackets [])) None) ∷ [])) ∷ []) (stmts ((tree.evaluate (tree.present
    (tree.assign assigning.Plain (tree.name (word 27 (codes "n"))) (tree.whole (word 29 (codes "1")))))) ∷
    (tree.block 31 ((declaration None (tree.kind 32 (key.Char ∷ [])) ((entry (tree.declarator 37 []
    (tree.named (word 37 (codes "n"))) (brackets [])) None) ∷ [])) ∷ []) (stmts ((tree.evaluate (tree.present
    (tree.assign assigning.Plain (tree.name (word 39 (codes "n"))) (tree.whole (word 41 (codes "2")))))) ∷
    []))) ∷ (tree.give 44 (tree.present (tree.name (word 51 (codes "n"))))) ∷ [])))) ∷ [])

-- int f(int a){char a;return 0;}
abbrev pub NamesAreDeclaredOnceParameter : Type 0
NamesAreDeclaredOnceParameter =
    IsRefused 30 ((tree.function (definition None (tree.kind 0 (key.Int ∷ [])) (tree.declarator 4 []
    (tree.named (word 4 (codes "f"))) (brackets ((tree.param_list (params ((tree.param (tree.kind 6 (key.Int
    ∷ [])) (tree.declarator 10 [] (tree.named (word 10 (codes "a"))) (brackets []))) ∷ []))) ∷ [])))
    ((declaration None (tree.kind 13 (key.Char ∷ [])) ((entry (tree.declarator 18 [] (tree.named (word 18
    (codes "a"))) (brackets [])) None) ∷ [])) ∷ []) (stmts ((tree.give 20 (tree.present (tree.whole (word 27
    (codes "0"))))) ∷ [])))) ∷ []) rule.Twice 18

-- void f(void){}void f(void){}
abbrev pub NamesAreDeclaredOnceBody : Type 0
NamesAreDeclaredOnceBody =
    IsRefused 28 ((tree.function (definition None (tree.void 0 (consts 0 0)) (tree.declarator 5 []
    (tree.named (word 5 (codes "f"))) (brackets (tree.void_list ∷ []))) [] (stmts []))) ∷ (tree.function
    (definition None (tree.void 14 (consts 0 0)) (tree.declarator 19 [] (tree.named (word 19 (codes "f")))
    (brackets (tree.void_list ∷ []))) [] (stmts []))) ∷ []) rule.Twice 19

-- struct p{int a;};struct p{int b;};
abbrev pub NamesAreDeclaredOnceTag : Type 0
NamesAreDeclaredOnceTag =
    IsRefused 34 ((tree.declaration (declaration None (tree.structure 0 (Some (word 7 (codes "p"))) (fields
    ((tree.field (tree.kind 9 (key.Int ∷ [])) (declarators ((tree.declarator 13 [] (tree.named (word 13
    (codes "a"))) (brackets [])) ∷ []))) ∷ [])) (consts 0 0)) [])) ∷ (tree.declaration (declaration None
    (tree.structure 17 (Some (word 24 (codes "p"))) (fields ((tree.field (tree.kind 26 (key.Int ∷ []))
    (declarators ((tree.declarator 30 [] (tree.named (word 30 (codes "b"))) (brackets [])) ∷ []))) ∷ []))
    (consts 0 0)) [])) ∷ []) rule.Twice 24

-- struct p{int a;char a;};
abbrev pub NamesAreDeclaredOnceMember : Type 0
NamesAreDeclaredOnceMember =
    IsRefused 24 ((tree.declaration (declaration None (tree.structure 0 (Some (word 7 (codes "p"))) (fields
    ((tree.field (tree.kind 9 (key.Int ∷ [])) (declarators ((tree.declarator 13 [] (tree.named (word 13
    (codes "a"))) (brackets [])) ∷ []))) ∷ (tree.field (tree.kind 15 (key.Char ∷ [])) (declarators
    ((tree.declarator 20 [] (tree.named (word 20 (codes "a"))) (brackets [])) ∷ []))) ∷ [])) (consts 0 0))
    [])) ∷ []) rule.Twice 20

-- int malloc;
abbrev pub NamesAreDeclaredOnceLibrary : Type 0
NamesAreDeclaredOnceLibrary =
    IsRefused 11 ((tree.declaration (declaration None (tree.kind 0 (key.Int ∷ [])) ((entry (tree.declarator 4
    [] (tree.named (word 4 (codes "malloc"))) (brackets [])) None) ∷ []))) ∷ []) rule.Twice 4

-- int main(void){int puts;puts=1;return puts;}
abbrev pub NamesAreDeclaredOnceLibraryHidden : Type 0
NamesAreDeclaredOnceLibraryHidden =
    IsAccepted 44 ((tree.function (definition None (tree.kind 0 (key.Int ∷ [])) (tree.declarator 4 []
    (tree.named (word 4 (codes "main"))) (brackets (tree.void_list ∷ []))) ((declaration None (tree.kind 15
    (key.Int ∷ [])) ((entry (tree.declarator 19 [] (tree.named (word 19 (codes "puts"))) (brackets [])) None)
    ∷ [])) ∷ []) (stmts ((tree.evaluate (tree.present (tree.assign assigning.Plain (tree.name (word 24 (codes
    "puts"))) (tree.whole (word 29 (codes "1")))))) ∷ (tree.give 31 (tree.present (tree.name (word 38 (codes
    "puts"))))) ∷ [])))) ∷ [])

-- A typedef name is declared again as a tag or a member alone.

-- typedef int T;void f(void){int T;}
abbrev pub TypedefNamesStayObject : Type 0
TypedefNamesStayObject =
    IsRefused 34 ((tree.typedef (tree.kind 8 (key.Int ∷ [])) (tree.declarator 12 [] (tree.named (word 12
    (codes "T"))) (brackets []))) ∷ (tree.function (definition None (tree.void 14 (consts 0 0))
    (tree.declarator 19 [] (tree.named (word 19 (codes "f"))) (brackets (tree.void_list ∷ []))) ((declaration
    None (tree.kind 27 (key.Int ∷ [])) ((entry (tree.declarator 31 [] (tree.named (word 31 (codes "T")))
    (brackets [])) None) ∷ [])) ∷ []) (stmts []))) ∷ []) rule.Twice 31

-- typedef int T;struct T{T T;}k;int main(void){return k.T;}
abbrev pub TypedefNamesStaySpaces : Type 0
TypedefNamesStaySpaces =
    IsAccepted 57 ((tree.typedef (tree.kind 8 (key.Int ∷ [])) (tree.declarator 12 [] (tree.named (word 12
    (codes "T"))) (brackets []))) ∷ (tree.declaration (declaration None (tree.structure 14 (Some (word 21
    (codes "T"))) (fields ((tree.field (tree.typedef_name 23 (word 23 (codes "T")) (consts 0 0)) (declarators
    ((tree.declarator 25 [] (tree.named (word 25 (codes "T"))) (brackets [])) ∷ []))) ∷ [])) (consts 0 0))
    ((entry (tree.declarator 28 [] (tree.named (word 28 (codes "k"))) (brackets [])) None) ∷ []))) ∷
    (tree.function (definition None (tree.kind 30 (key.Int ∷ [])) (tree.declarator 34 [] (tree.named (word 34
    (codes "main"))) (brackets (tree.void_list ∷ []))) [] (stmts ((tree.give 45 (tree.present (tree.suffixed
    (tree.name (word 52 (codes "k"))) (suffixes ((tree.member (word 54 (codes "T"))) ∷ []))))) ∷ [])))) ∷ [])
