-- Declared types.
use Rattle.std.specs.Prelude.{[], ◌∷◌, codes, false, Some, None}
use Rattle.porch_lex.specs.declared.refusal.Rule.TheVariants as rule
use Rattle.porch_tree.specs.declared.tree.Assigning.TheVariants as assigning
use Rattle.porch_tree.specs.declared.tree.Infix.TheVariants as sign
use Rattle.porch_tree.specs.declared.tree.Level.TheVariants as level
use Rattle.porch_tree.specs.declared.tree.Prefix.TheVariants as prefix
use Rattle.porch_tree.specs.declared.tree.TagSort.TheVariants.{Struct}
use Rattle.porch_tree.specs.declared.word.Keyword.TheVariants as key
use Rattle.porch_tree.specs.Mirror as tree
use Rattle.porch_check.specs.worked.Write.{word, consts, exprs, operands, suffixes, fields, constants, declarators, brackets, params, initials, stmts, entries, entry, declaration, definition, IsRefused, IsAccepted}

-- Objects, parameters, members and elements are complete.

-- void k;
abbrev pub ObjectsAreCompleteVoid : Type 0
ObjectsAreCompleteVoid =
    IsRefused 7 ((tree.declaration (declaration None (tree.void 0 (consts 0 0)) ((entry (tree.declarator 5 []
    (tree.named (word 5 (codes "k"))) (brackets [])) None) ∷ []))) ∷ []) rule.Mismatch 5

-- struct p k;
abbrev pub ObjectsAreCompleteIncomplete : Type 0
ObjectsAreCompleteIncomplete =
    IsRefused 11 ((tree.declaration (declaration None (tree.tag 0 Struct (word 7 (codes "p")) (consts 0 0))
    ((entry (tree.declarator 9 [] (tree.named (word 9 (codes "k"))) (brackets [])) None) ∷ []))) ∷ [])
    rule.Mismatch 9

-- int f(void a);
abbrev pub ObjectsAreCompleteParameter : Type 0
ObjectsAreCompleteParameter =
    IsRefused 14 ((tree.declaration (declaration None (tree.kind 0 (key.Int ∷ [])) ((entry (tree.declarator 4
    [] (tree.named (word 4 (codes "f"))) (brackets ((tree.param_list (params ((tree.param (tree.void 6
    (consts 0 0)) (tree.declarator 11 [] (tree.named (word 11 (codes "a"))) (brackets []))) ∷ []))) ∷ [])))
    None) ∷ []))) ∷ []) rule.Mismatch 6

-- struct p{struct p a;};
abbrev pub ObjectsAreCompleteMember : Type 0
ObjectsAreCompleteMember =
    IsRefused 22 ((tree.declaration (declaration None (tree.structure 0 (Some (word 7 (codes "p"))) (fields
    ((tree.field (tree.tag 9 Struct (word 16 (codes "p")) (consts 0 0)) (declarators ((tree.declarator 18 []
    (tree.named (word 18 (codes "a"))) (brackets [])) ∷ []))) ∷ [])) (consts 0 0)) [])) ∷ []) rule.Mismatch
    18

-- struct p{int a(void);};
abbrev pub ObjectsAreCompleteFunction : Type 0
ObjectsAreCompleteFunction =
    IsRefused 23 ((tree.declaration (declaration None (tree.structure 0 (Some (word 7 (codes "p"))) (fields
    ((tree.field (tree.kind 9 (key.Int ∷ [])) (declarators ((tree.declarator 13 [] (tree.named (word 13
    (codes "a"))) (brackets (tree.void_list ∷ []))) ∷ []))) ∷ [])) (consts 0 0)) [])) ∷ []) rule.Mismatch 13

-- struct p;struct p k[2];
abbrev pub ObjectsAreCompleteElement : Type 0
ObjectsAreCompleteElement =
    IsRefused 23 ((tree.declaration (declaration None (tree.tag 0 Struct (word 7 (codes "p")) (consts 0 0))
    [])) ∷ (tree.declaration (declaration None (tree.tag 9 Struct (word 16 (codes "p")) (consts 0 0)) ((entry
    (tree.declarator 18 [] (tree.named (word 18 (codes "k"))) (brackets ((tree.count (tree.present
    (tree.whole (word 20 (codes "2"))))) ∷ []))) None) ∷ []))) ∷ []) rule.Mismatch 18

-- struct p{int a;};void f(void){struct p;struct p k;}
abbrev pub ObjectsAreCompleteOfBlock : Type 0
ObjectsAreCompleteOfBlock =
    IsRefused 51 ((tree.declaration (declaration None (tree.structure 0 (Some (word 7 (codes "p"))) (fields
    ((tree.field (tree.kind 9 (key.Int ∷ [])) (declarators ((tree.declarator 13 [] (tree.named (word 13
    (codes "a"))) (brackets [])) ∷ []))) ∷ [])) (consts 0 0)) [])) ∷ (tree.function (definition None
    (tree.void 17 (consts 0 0)) (tree.declarator 22 [] (tree.named (word 22 (codes "f"))) (brackets
    (tree.void_list ∷ []))) ((declaration None (tree.tag 30 Struct (word 37 (codes "p")) (consts 0 0)) []) ∷
    (declaration None (tree.tag 39 Struct (word 46 (codes "p")) (consts 0 0)) ((entry (tree.declarator 48 []
    (tree.named (word 48 (codes "k"))) (brackets [])) None) ∷ [])) ∷ []) (stmts []))) ∷ []) rule.Mismatch 48

-- struct p{int a;struct p*b;}k[2],*q;int main(void){q=&k[1];q->b=k;return q->b->a;}
abbrev pub ObjectsAreCompleteComplete : Type 0
ObjectsAreCompleteComplete =
    IsAccepted 81 ((tree.declaration (declaration None (tree.structure 0 (Some (word 7 (codes "p"))) (fields
    ((tree.field (tree.kind 9 (key.Int ∷ [])) (declarators ((tree.declarator 13 [] (tree.named (word 13
    (codes "a"))) (brackets [])) ∷ []))) ∷ (tree.field (tree.tag 15 Struct (word 22 (codes "p")) (consts 0
    0)) (declarators ((tree.declarator 23 (0 ∷ []) (tree.named (word 24 (codes "b"))) (brackets [])) ∷ [])))
    ∷ [])) (consts 0 0)) ((entry (tree.declarator 27 [] (tree.named (word 27 (codes "k"))) (brackets
    ((tree.count (tree.present (tree.whole (word 29 (codes "2"))))) ∷ []))) None) ∷ (entry (tree.declarator
    32 (0 ∷ []) (tree.named (word 33 (codes "q"))) (brackets [])) None) ∷ []))) ∷ (tree.function (definition
    None (tree.kind 35 (key.Int ∷ [])) (tree.declarator 39 [] (tree.named (word 39 (codes "main"))) (brackets
    (tree.void_list ∷ []))) [] (stmts ((tree.evaluate (tree.present (tree.assign assigning.Plain (tree.name
    (word 50 (codes "q"))) (tree.prefixed 52 prefix.Address (tree.suffixed (tree.name (word 53 (codes "k")))
    (suffixes ((tree.index (tree.whole (word 55 (codes "1")))) ∷ []))))))) ∷ (tree.evaluate (tree.present
    (tree.assign assigning.Plain (tree.suffixed (tree.name (word 58 (codes "q"))) (suffixes ((tree.arrow
    (word 61 (codes "b"))) ∷ []))) (tree.name (word 63 (codes "k")))))) ∷ (tree.give 65 (tree.present
    (tree.suffixed (tree.name (word 72 (codes "q"))) (suffixes ((tree.arrow (word 75 (codes "b"))) ∷
    (tree.arrow (word 78 (codes "a"))) ∷ []))))) ∷ [])))) ∷ [])

-- A pointee is completed somewhere in the text, and where it is used.

-- void *q;
abbrev pub PointeesAreCompletedVoid : Type 0
PointeesAreCompletedVoid =
    IsRefused 8 ((tree.declaration (declaration None (tree.void 0 (consts 0 0)) ((entry (tree.declarator 5 (0
    ∷ []) (tree.named (word 6 (codes "q"))) (brackets [])) None) ∷ []))) ∷ []) rule.Mismatch 5

-- int(*q)(void);
abbrev pub PointeesAreCompletedFunction : Type 0
PointeesAreCompletedFunction =
    IsRefused 14 ((tree.declaration (declaration None (tree.kind 0 (key.Int ∷ [])) ((entry (tree.declarator 3
    [] (tree.inner 3 (tree.declarator 4 (0 ∷ []) (tree.named (word 5 (codes "q"))) (brackets []))) (brackets
    (tree.void_list ∷ []))) None) ∷ []))) ∷ []) rule.Mismatch 4

-- struct p *q;
abbrev pub PointeesAreCompletedNever : Type 0
PointeesAreCompletedNever =
    IsRefused 12 ((tree.declaration (declaration None (tree.tag 0 Struct (word 7 (codes "p")) (consts 0 0))
    ((entry (tree.declarator 9 (0 ∷ []) (tree.named (word 10 (codes "q"))) (brackets [])) None) ∷ []))) ∷ [])
    rule.Mismatch 9

-- struct p *q;int f(struct p{int a;}*r);
abbrev pub PointeesAreCompletedInParameters : Type 0
PointeesAreCompletedInParameters =
    IsRefused 38 ((tree.declaration (declaration None (tree.tag 0 Struct (word 7 (codes "p")) (consts 0 0))
    ((entry (tree.declarator 9 (0 ∷ []) (tree.named (word 10 (codes "q"))) (brackets [])) None) ∷ []))) ∷
    (tree.declaration (declaration None (tree.kind 12 (key.Int ∷ [])) ((entry (tree.declarator 16 []
    (tree.named (word 16 (codes "f"))) (brackets ((tree.param_list (params ((tree.param (tree.structure 18
    (Some (word 25 (codes "p"))) (fields ((tree.field (tree.kind 27 (key.Int ∷ [])) (declarators
    ((tree.declarator 31 [] (tree.named (word 31 (codes "a"))) (brackets [])) ∷ []))) ∷ [])) (consts 0 0))
    (tree.declarator 34 (0 ∷ []) (tree.named (word 35 (codes "r"))) (brackets []))) ∷ []))) ∷ []))) None) ∷
    []))) ∷ []) rule.Mismatch 9

-- int f(struct p*q,struct p{int a;}*r);int main(void){return 0;}
abbrev pub PointeesAreCompletedOwnParameters : Type 0
PointeesAreCompletedOwnParameters =
    IsAccepted 62 ((tree.declaration (declaration None (tree.kind 0 (key.Int ∷ [])) ((entry (tree.declarator
    4 [] (tree.named (word 4 (codes "f"))) (brackets ((tree.param_list (params ((tree.param (tree.tag 6
    Struct (word 13 (codes "p")) (consts 0 0)) (tree.declarator 14 (0 ∷ []) (tree.named (word 15 (codes
    "q"))) (brackets []))) ∷ (tree.param (tree.structure 17 (Some (word 24 (codes "p"))) (fields ((tree.field
    (tree.kind 26 (key.Int ∷ [])) (declarators ((tree.declarator 30 [] (tree.named (word 30 (codes "a")))
    (brackets [])) ∷ []))) ∷ [])) (consts 0 0)) (tree.declarator 33 (0 ∷ []) (tree.named (word 34 (codes
    "r"))) (brackets []))) ∷ []))) ∷ []))) None) ∷ []))) ∷ (tree.function (definition None (tree.kind 37
    (key.Int ∷ [])) (tree.declarator 41 [] (tree.named (word 41 (codes "main"))) (brackets (tree.void_list ∷
    []))) [] (stmts ((tree.give 52 (tree.present (tree.whole (word 59 (codes "0"))))) ∷ [])))) ∷ [])

-- struct p*q;void f(void){q++;}struct p{int a;};
abbrev pub PointeesAreCompletedUsed : Type 0
PointeesAreCompletedUsed =
    IsRefused 46 ((tree.declaration (declaration None (tree.tag 0 Struct (word 7 (codes "p")) (consts 0 0))
    ((entry (tree.declarator 8 (0 ∷ []) (tree.named (word 9 (codes "q"))) (brackets [])) None) ∷ []))) ∷
    (tree.function (definition None (tree.void 11 (consts 0 0)) (tree.declarator 16 [] (tree.named (word 16
    (codes "f"))) (brackets (tree.void_list ∷ []))) [] (stmts ((tree.evaluate (tree.present (tree.suffixed
    (tree.name (word 24 (codes "q"))) (suffixes (tree.increased ∷ []))))) ∷ [])))) ∷ (tree.declaration
    (declaration None (tree.structure 29 (Some (word 36 (codes "p"))) (fields ((tree.field (tree.kind 38
    (key.Int ∷ [])) (declarators ((tree.declarator 42 [] (tree.named (word 42 (codes "a"))) (brackets [])) ∷
    []))) ∷ [])) (consts 0 0)) [])) ∷ []) rule.Mismatch 24

-- struct p*q;int f(void){q=0;return 0;}struct p{int a;};int main(void){return f();}
abbrev pub PointeesAreCompletedLater : Type 0
PointeesAreCompletedLater =
    IsAccepted 81 ((tree.declaration (declaration None (tree.tag 0 Struct (word 7 (codes "p")) (consts 0 0))
    ((entry (tree.declarator 8 (0 ∷ []) (tree.named (word 9 (codes "q"))) (brackets [])) None) ∷ []))) ∷
    (tree.function (definition None (tree.kind 11 (key.Int ∷ [])) (tree.declarator 15 [] (tree.named (word 15
    (codes "f"))) (brackets (tree.void_list ∷ []))) [] (stmts ((tree.evaluate (tree.present (tree.assign
    assigning.Plain (tree.name (word 23 (codes "q"))) (tree.whole (word 25 (codes "0")))))) ∷ (tree.give 27
    (tree.present (tree.whole (word 34 (codes "0"))))) ∷ [])))) ∷ (tree.declaration (declaration None
    (tree.structure 37 (Some (word 44 (codes "p"))) (fields ((tree.field (tree.kind 46 (key.Int ∷ []))
    (declarators ((tree.declarator 50 [] (tree.named (word 50 (codes "a"))) (brackets [])) ∷ []))) ∷ []))
    (consts 0 0)) [])) ∷ (tree.function (definition None (tree.kind 54 (key.Int ∷ [])) (tree.declarator 58 []
    (tree.named (word 58 (codes "main"))) (brackets (tree.void_list ∷ []))) [] (stmts ((tree.give 69
    (tree.present (tree.suffixed (tree.name (word 76 (codes "f"))) (suffixes ((tree.call (exprs [])) ∷
    []))))) ∷ [])))) ∷ [])

-- Results, bodies and later declarations of functions.

-- int f(void)[2];
abbrev pub FunctionsAreDeclaredAlikeArray : Type 0
FunctionsAreDeclaredAlikeArray =
    IsRefused 15 ((tree.declaration (declaration None (tree.kind 0 (key.Int ∷ [])) ((entry (tree.declarator 4
    [] (tree.named (word 4 (codes "f"))) (brackets (tree.void_list ∷ (tree.count (tree.present (tree.whole
    (word 12 (codes "2"))))) ∷ []))) None) ∷ []))) ∷ []) rule.Mismatch 4

-- int f(void)(int a);
abbrev pub FunctionsAreDeclaredAlikeFunction : Type 0
FunctionsAreDeclaredAlikeFunction =
    IsRefused 19 ((tree.declaration (declaration None (tree.kind 0 (key.Int ∷ [])) ((entry (tree.declarator 4
    [] (tree.named (word 4 (codes "f"))) (brackets (tree.void_list ∷ (tree.param_list (params ((tree.param
    (tree.kind 12 (key.Int ∷ [])) (tree.declarator 16 [] (tree.named (word 16 (codes "a"))) (brackets []))) ∷
    []))) ∷ []))) None) ∷ []))) ∷ []) rule.Mismatch 4

-- int k{}
abbrev pub FunctionsAreDeclaredAlikeNoFunction : Type 0
FunctionsAreDeclaredAlikeNoFunction =
    IsRefused 7 ((tree.function (definition None (tree.kind 0 (key.Int ∷ [])) (tree.declarator 4 []
    (tree.named (word 4 (codes "k"))) (brackets [])) [] (stmts []))) ∷ []) rule.Mismatch 0

-- int f(int a,char){return a;}
abbrev pub FunctionsAreDeclaredAlikeNameless : Type 0
FunctionsAreDeclaredAlikeNameless =
    IsRefused 28 ((tree.function (definition None (tree.kind 0 (key.Int ∷ [])) (tree.declarator 4 []
    (tree.named (word 4 (codes "f"))) (brackets ((tree.param_list (params ((tree.param (tree.kind 6 (key.Int
    ∷ [])) (tree.declarator 10 [] (tree.named (word 10 (codes "a"))) (brackets []))) ∷ (tree.param (tree.kind
    12 (key.Char ∷ [])) (tree.declarator 16 [] tree.lacking (brackets []))) ∷ []))) ∷ []))) [] (stmts
    ((tree.give 18 (tree.present (tree.name (word 25 (codes "a"))))) ∷ [])))) ∷ []) rule.Mismatch 12

-- int f(int a);long f(int a);
abbrev pub FunctionsAreDeclaredAlikeOtherType : Type 0
FunctionsAreDeclaredAlikeOtherType =
    IsRefused 27 ((tree.declaration (declaration None (tree.kind 0 (key.Int ∷ [])) ((entry (tree.declarator 4
    [] (tree.named (word 4 (codes "f"))) (brackets ((tree.param_list (params ((tree.param (tree.kind 6
    (key.Int ∷ [])) (tree.declarator 10 [] (tree.named (word 10 (codes "a"))) (brackets []))) ∷ []))) ∷ [])))
    None) ∷ []))) ∷ (tree.declaration (declaration None (tree.kind 13 (key.Long ∷ [])) ((entry
    (tree.declarator 18 [] (tree.named (word 18 (codes "f"))) (brackets ((tree.param_list (params
    ((tree.param (tree.kind 20 (key.Int ∷ [])) (tree.declarator 24 [] (tree.named (word 24 (codes "a")))
    (brackets []))) ∷ []))) ∷ []))) None) ∷ []))) ∷ []) rule.Mismatch 18

-- struct p{int a;};void f(int a,struct p b);
abbrev pub FunctionsAreDeclaredAlikeStructParameter : Type 0
FunctionsAreDeclaredAlikeStructParameter =
    IsRefused 42 ((tree.declaration (declaration None (tree.structure 0 (Some (word 7 (codes "p"))) (fields
    ((tree.field (tree.kind 9 (key.Int ∷ [])) (declarators ((tree.declarator 13 [] (tree.named (word 13
    (codes "a"))) (brackets [])) ∷ []))) ∷ [])) (consts 0 0)) [])) ∷ (tree.declaration (declaration None
    (tree.void 17 (consts 0 0)) ((entry (tree.declarator 22 [] (tree.named (word 22 (codes "f"))) (brackets
    ((tree.param_list (params ((tree.param (tree.kind 24 (key.Int ∷ [])) (tree.declarator 28 [] (tree.named
    (word 28 (codes "a"))) (brackets []))) ∷ (tree.param (tree.tag 30 Struct (word 37 (codes "p")) (consts 0
    0)) (tree.declarator 39 [] (tree.named (word 39 (codes "b"))) (brackets []))) ∷ []))) ∷ []))) None) ∷
    []))) ∷ []) rule.StructValue 30

-- int f(struct p a);
abbrev pub FunctionsAreDeclaredAlikeIncompleteParameter : Type 0
FunctionsAreDeclaredAlikeIncompleteParameter =
    IsRefused 18 ((tree.declaration (declaration None (tree.kind 0 (key.Int ∷ [])) ((entry (tree.declarator 4
    [] (tree.named (word 4 (codes "f"))) (brackets ((tree.param_list (params ((tree.param (tree.tag 6 Struct
    (word 13 (codes "p")) (consts 0 0)) (tree.declarator 15 [] (tree.named (word 15 (codes "a"))) (brackets
    []))) ∷ []))) ∷ []))) None) ∷ []))) ∷ []) rule.StructValue 6

-- struct p{int a;}f(void);
abbrev pub FunctionsAreDeclaredAlikeStructResult : Type 0
FunctionsAreDeclaredAlikeStructResult =
    IsRefused 24 ((tree.declaration (declaration None (tree.structure 0 (Some (word 7 (codes "p"))) (fields
    ((tree.field (tree.kind 9 (key.Int ∷ [])) (declarators ((tree.declarator 13 [] (tree.named (word 13
    (codes "a"))) (brackets [])) ∷ []))) ∷ [])) (consts 0 0)) ((entry (tree.declarator 16 [] (tree.named
    (word 16 (codes "f"))) (brackets (tree.void_list ∷ []))) None) ∷ []))) ∷ []) rule.StructValue 16

-- int f(int a[2],int*b){return a[0]+*b;}int main(void){int k[2]={1,2};return f(k,k);}
abbrev pub FunctionsAreDeclaredAlikeArrayParameter : Type 0
FunctionsAreDeclaredAlikeArrayParameter =
    IsAccepted 83 ((tree.function (definition None (tree.kind 0 (key.Int ∷ [])) (tree.declarator 4 []
    (tree.named (word 4 (codes "f"))) (brackets ((tree.param_list (params ((tree.param (tree.kind 6 (key.Int
    ∷ [])) (tree.declarator 10 [] (tree.named (word 10 (codes "a"))) (brackets ((tree.count (tree.present
    (tree.whole (word 12 (codes "2"))))) ∷ [])))) ∷ (tree.param (tree.kind 15 (key.Int ∷ []))
    (tree.declarator 18 (0 ∷ []) (tree.named (word 19 (codes "b"))) (brackets []))) ∷ []))) ∷ []))) [] (stmts
    ((tree.give 22 (tree.present (tree.row level.Sum (tree.suffixed (tree.name (word 29 (codes "a")))
    (suffixes ((tree.index (tree.whole (word 31 (codes "0")))) ∷ []))) (operands ((
      sign.Add,
      (tree.prefixed
          34 prefix.Pointee (tree.name (word 35 (codes "b")))),
    ) ∷ []))))) ∷ [])))) ∷ (tree.function (definition
    None (tree.kind 38 (key.Int ∷ [])) (tree.declarator 42 [] (tree.named (word 42 (codes "main"))) (brackets
    (tree.void_list ∷ []))) ((declaration None (tree.kind 53 (key.Int ∷ [])) ((entry (tree.declarator 57 []
    (tree.named (word 57 (codes "k"))) (brackets ((tree.count (tree.present (tree.whole (word 59 (codes
    "2"))))) ∷ []))) (Some (tree.braced 62 (initials ((tree.value (tree.whole (word 63 (codes "1")))) ∷
    (tree.value (tree.whole (word 65 (codes "2")))) ∷ [])) false))) ∷ [])) ∷ []) (stmts ((tree.give 68
    (tree.present (tree.suffixed (tree.name (word 75 (codes "f"))) (suffixes ((tree.call (exprs ((tree.name
    (word 77 (codes "k"))) ∷ (tree.name (word 79 (codes "k"))) ∷ []))) ∷ []))))) ∷ [])))) ∷ [])

-- Counts of arrays and enumeration constants are constants, folded under both widths of long.

-- int k[0];
abbrev pub ConstantsAreAskedForZero : Type 0
ConstantsAreAskedForZero =
    IsRefused 9 ((tree.declaration (declaration None (tree.kind 0 (key.Int ∷ [])) ((entry (tree.declarator 4
    [] (tree.named (word 4 (codes "k"))) (brackets ((tree.count (tree.present (tree.whole (word 6 (codes
    "0"))))) ∷ []))) None) ∷ []))) ∷ []) rule.Mismatch 6

-- int n;int k[n];
abbrev pub ConstantsAreAskedForObject : Type 0
ConstantsAreAskedForObject =
    IsRefused 15 ((tree.declaration (declaration None (tree.kind 0 (key.Int ∷ [])) ((entry (tree.declarator 4
    [] (tree.named (word 4 (codes "n"))) (brackets [])) None) ∷ []))) ∷ (tree.declaration (declaration None
    (tree.kind 6 (key.Int ∷ [])) ((entry (tree.declarator 10 [] (tree.named (word 10 (codes "k"))) (brackets
    ((tree.count (tree.present (tree.name (word 12 (codes "n"))))) ∷ []))) None) ∷ []))) ∷ []) rule.Mismatch
    12

-- int k[1<<31];
abbrev pub ConstantsAreAskedForOverflow : Type 0
ConstantsAreAskedForOverflow =
    IsRefused 13 ((tree.declaration (declaration None (tree.kind 0 (key.Int ∷ [])) ((entry (tree.declarator 4
    [] (tree.named (word 4 (codes "k"))) (brackets ((tree.count (tree.present (tree.row level.Shift
    (tree.whole (word 6 (codes "1"))) (operands ((sign.ShiftLeft, (tree.whole (word 9 (codes "31")))) ∷
    []))))) ∷ []))) None) ∷ []))) ∷ []) rule.Mismatch 6

-- int k[2>1?3:1/0];int main(void){return k[2];}
abbrev pub ConstantsAreAskedForNotEvaluated : Type 0
ConstantsAreAskedForNotEvaluated =
    IsAccepted 45 ((tree.declaration (declaration None (tree.kind 0 (key.Int ∷ [])) ((entry (tree.declarator
    4 [] (tree.named (word 4 (codes "k"))) (brackets ((tree.count (tree.present (tree.conditional (tree.row
    level.Relation (tree.whole (word 6 (codes "2"))) (operands ((
      sign.Greater,
      (tree.whole (word 8 (codes
          "1"))),
    ) ∷ []))) (tree.whole (word 10 (codes "3"))) (tree.row level.Product (tree.whole (word 12 (codes
    "1"))) (operands ((sign.Div, (tree.whole (word 14 (codes "0")))) ∷ [])))))) ∷ []))) None) ∷ []))) ∷
    (tree.function (definition None (tree.kind 17 (key.Int ∷ [])) (tree.declarator 21 [] (tree.named (word 21
    (codes "main"))) (brackets (tree.void_list ∷ []))) [] (stmts ((tree.give 32 (tree.present (tree.suffixed
    (tree.name (word 39 (codes "k"))) (suffixes ((tree.index (tree.whole (word 41 (codes "2")))) ∷ []))))) ∷
    [])))) ∷ [])

-- enum{A=2147483647,B};
abbrev pub ConstantsAreAskedForCountedUp : Type 0
ConstantsAreAskedForCountedUp =
    IsRefused 21 ((tree.declaration (declaration None (tree.enumeration 0 None (constants ((tree.constant
    (word 5 (codes "A")) (tree.present (tree.whole (word 7 (codes "2147483647"))))) ∷ (tree.constant (word 18
    (codes "B")) tree.absent) ∷ [])) (consts 0 0)) [])) ∷ []) rule.Mismatch 18

-- enum e{A,B=4,C}k;int main(void){int*q;q=&k;switch(*q){case A:case C:;}return B;}
abbrev pub ConstantsAreAskedForEnumeration : Type 0
ConstantsAreAskedForEnumeration =
    IsAccepted 80 ((tree.declaration (declaration None (tree.enumeration 0 (Some (word 5 (codes "e")))
    (constants ((tree.constant (word 7 (codes "A")) tree.absent) ∷ (tree.constant (word 9 (codes "B"))
    (tree.present (tree.whole (word 11 (codes "4"))))) ∷ (tree.constant (word 13 (codes "C")) tree.absent) ∷
    [])) (consts 0 0)) ((entry (tree.declarator 15 [] (tree.named (word 15 (codes "k"))) (brackets [])) None)
    ∷ []))) ∷ (tree.function (definition None (tree.kind 17 (key.Int ∷ [])) (tree.declarator 21 []
    (tree.named (word 21 (codes "main"))) (brackets (tree.void_list ∷ []))) ((declaration None (tree.kind 32
    (key.Int ∷ [])) ((entry (tree.declarator 35 (0 ∷ []) (tree.named (word 36 (codes "q"))) (brackets []))
    None) ∷ [])) ∷ []) (stmts ((tree.evaluate (tree.present (tree.assign assigning.Plain (tree.name (word 38
    (codes "q"))) (tree.prefixed 40 prefix.Address (tree.name (word 41 (codes "k"))))))) ∷ (tree.switch 43
    (tree.prefixed 50 prefix.Pointee (tree.name (word 51 (codes "q")))) (entries ((tree.case 54 (tree.name
    (word 59 (codes "A")))) ∷ (tree.case 61 (tree.name (word 66 (codes "C")))) ∷ (tree.stmt (tree.evaluate
    tree.absent)) ∷ []))) ∷ (tree.give 70 (tree.present (tree.name (word 77 (codes "B"))))) ∷ [])))) ∷ [])

-- unsigned long k=-1;
abbrev pub ConstantsAreAskedForNarrow : Type 0
ConstantsAreAskedForNarrow =
    IsRefused 19 ((tree.declaration (declaration None (tree.kind 0 (key.Unsigned ∷ key.Long ∷ [])) ((entry
    (tree.declarator 14 [] (tree.named (word 14 (codes "k"))) (brackets [])) (Some (tree.value (tree.prefixed
    16 prefix.Minus (tree.whole (word 17 (codes "1"))))))) ∷ []))) ∷ []) rule.Mismatch 16

-- Types and globals have a limited number of leaves.

-- char k[1048577];
abbrev pub TypesAreSmallArray : Type 0
TypesAreSmallArray =
    IsRefused 16 ((tree.declaration (declaration None (tree.kind 0 (key.Char ∷ [])) ((entry (tree.declarator
    5 [] (tree.named (word 5 (codes "k"))) (brackets ((tree.count (tree.present (tree.whole (word 7 (codes
    "1048577"))))) ∷ []))) None) ∷ []))) ∷ []) rule.TooLarge 5

-- struct p{char a[1048576],b;};
abbrev pub TypesAreSmallStructure : Type 0
TypesAreSmallStructure =
    IsRefused 29 ((tree.declaration (declaration None (tree.structure 0 (Some (word 7 (codes "p"))) (fields
    ((tree.field (tree.kind 9 (key.Char ∷ [])) (declarators ((tree.declarator 14 [] (tree.named (word 14
    (codes "a"))) (brackets ((tree.count (tree.present (tree.whole (word 16 (codes "1048576"))))) ∷ []))) ∷
    (tree.declarator 25 [] (tree.named (word 25 (codes "b"))) (brackets [])) ∷ []))) ∷ [])) (consts 0 0))
    [])) ∷ []) rule.TooLarge 0

-- long a[1048576],b[1048576],c[1048576],d[1048575],e,g;int main(void){return 0;}
abbrev pub TypesAreSmallAll : Type 0
TypesAreSmallAll =
    IsRefused 78 ((tree.declaration (declaration None (tree.kind 0 (key.Long ∷ [])) ((entry (tree.declarator
    5 [] (tree.named (word 5 (codes "a"))) (brackets ((tree.count (tree.present (tree.whole (word 7 (codes
    "1048576"))))) ∷ []))) None) ∷ (entry (tree.declarator 16 [] (tree.named (word 16 (codes "b"))) (brackets
    ((tree.count (tree.present (tree.whole (word 18 (codes "1048576"))))) ∷ []))) None) ∷ (entry
    (tree.declarator 27 [] (tree.named (word 27 (codes "c"))) (brackets ((tree.count (tree.present
    (tree.whole (word 29 (codes "1048576"))))) ∷ []))) None) ∷ (entry (tree.declarator 38 [] (tree.named
    (word 38 (codes "d"))) (brackets ((tree.count (tree.present (tree.whole (word 40 (codes "1048575"))))) ∷
    []))) None) ∷ (entry (tree.declarator 49 [] (tree.named (word 49 (codes "e"))) (brackets [])) None) ∷
    (entry (tree.declarator 51 [] (tree.named (word 51 (codes "g"))) (brackets [])) None) ∷ []))) ∷
    (tree.function (definition None (tree.kind 53 (key.Int ∷ [])) (tree.declarator 57 [] (tree.named (word 57
    (codes "main"))) (brackets (tree.void_list ∷ []))) [] (stmts ((tree.give 68 (tree.present (tree.whole
    (word 75 (codes "0"))))) ∷ [])))) ∷ []) rule.TooLarge 51

-- long a[1048576];int main(void){return 0;}
abbrev pub TypesAreSmallMost : Type 0
TypesAreSmallMost =
    IsAccepted 41 ((tree.declaration (declaration None (tree.kind 0 (key.Long ∷ [])) ((entry (tree.declarator
    5 [] (tree.named (word 5 (codes "a"))) (brackets ((tree.count (tree.present (tree.whole (word 7 (codes
    "1048576"))))) ∷ []))) None) ∷ []))) ∷ (tree.function (definition None (tree.kind 16 (key.Int ∷ []))
    (tree.declarator 20 [] (tree.named (word 20 (codes "main"))) (brackets (tree.void_list ∷ []))) [] (stmts
    ((tree.give 31 (tree.present (tree.whole (word 38 (codes "0"))))) ∷ [])))) ∷ [])

-- There is a main without parameters that gives an int, and this is asked before the sum of the globals.

-- int main(int n){return n;}
abbrev pub MainIsThereParameter : Type 0
MainIsThereParameter =
    IsRefused 26 ((tree.function (definition None (tree.kind 0 (key.Int ∷ [])) (tree.declarator 4 []
    (tree.named (word 4 (codes "main"))) (brackets ((tree.param_list (params ((tree.param (tree.kind 9
    (key.Int ∷ [])) (tree.declarator 13 [] (tree.named (word 13 (codes "n"))) (brackets []))) ∷ []))) ∷ [])))
    [] (stmts ((tree.give 16 (tree.present (tree.name (word 23 (codes "n"))))) ∷ [])))) ∷ []) rule.NoMain 26

-- long a[1048576],b[1048576],c[1048576],d[1048576],e;
abbrev pub MainIsThereBeforeTheSum : Type 0
MainIsThereBeforeTheSum =
    IsRefused 51 ((tree.declaration (declaration None (tree.kind 0 (key.Long ∷ [])) ((entry (tree.declarator
    5 [] (tree.named (word 5 (codes "a"))) (brackets ((tree.count (tree.present (tree.whole (word 7 (codes
    "1048576"))))) ∷ []))) None) ∷ (entry (tree.declarator 16 [] (tree.named (word 16 (codes "b"))) (brackets
    ((tree.count (tree.present (tree.whole (word 18 (codes "1048576"))))) ∷ []))) None) ∷ (entry
    (tree.declarator 27 [] (tree.named (word 27 (codes "c"))) (brackets ((tree.count (tree.present
    (tree.whole (word 29 (codes "1048576"))))) ∷ []))) None) ∷ (entry (tree.declarator 38 [] (tree.named
    (word 38 (codes "d"))) (brackets ((tree.count (tree.present (tree.whole (word 40 (codes "1048576"))))) ∷
    []))) None) ∷ (entry (tree.declarator 49 [] (tree.named (word 49 (codes "e"))) (brackets [])) None) ∷
    []))) ∷ []) rule.NoMain 51

-- int main(){return 0;}
abbrev pub MainIsThereEmptyList : Type 0
MainIsThereEmptyList =
    IsAccepted 21 ((tree.function (definition None (tree.kind 0 (key.Int ∷ [])) (tree.declarator 4 []
    (tree.named (word 4 (codes "main"))) (brackets (tree.empty_list ∷ []))) [] (stmts ((tree.give 11
    (tree.present (tree.whole (word 18 (codes "0"))))) ∷ [])))) ∷ [])
