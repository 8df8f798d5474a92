-- Operands and operators.
use Rattle.std.specs.Prelude.{[], ◌∷◌, codes, Some, None}
use Rattle.porch_lex.specs.declared.refusal.Rule.TheVariants as rule
use Rattle.porch_tree.specs.declared.tree.Assigning.TheVariants as assigning
use Rattle.porch_tree.specs.declared.tree.Infix.TheVariants as sign
use Rattle.porch_tree.specs.declared.tree.Level.TheVariants as level
use Rattle.porch_tree.specs.declared.tree.Prefix.TheVariants as prefix
use Rattle.porch_tree.specs.declared.word.Keyword.TheVariants as key
use Rattle.porch_tree.specs.Mirror as tree
use Rattle.porch_check.specs.worked.Write.{word, consts, exprs, operands, suffixes, fields, declarators, brackets, params, stmts, entry, declaration, definition, IsRefused, IsAccepted}

-- `&`, `++`, `--` and the left of an assignment take places.

-- void f(int n){n+1=2;}
abbrev pub PlacesAreChangedAssigned : Type 0
PlacesAreChangedAssigned =
    IsRefused 21 ((tree.function (definition None (tree.void 0 (consts 0 0)) (tree.declarator 5 []
    (tree.named (word 5 (codes "f"))) (brackets ((tree.param_list (params ((tree.param (tree.kind 7 (key.Int
    ∷ [])) (tree.declarator 11 [] (tree.named (word 11 (codes "n"))) (brackets []))) ∷ []))) ∷ []))) []
    (stmts ((tree.evaluate (tree.present (tree.assign assigning.Plain (tree.row level.Sum (tree.name (word 14
    (codes "n"))) (operands ((sign.Add, (tree.whole (word 16 (codes "1")))) ∷ []))) (tree.whole (word 18
    (codes "2")))))) ∷ [])))) ∷ []) rule.NotPlace 14

-- void f(int n){&(n+1);}
abbrev pub PlacesAreChangedAddress : Type 0
PlacesAreChangedAddress =
    IsRefused 22 ((tree.function (definition None (tree.void 0 (consts 0 0)) (tree.declarator 5 []
    (tree.named (word 5 (codes "f"))) (brackets ((tree.param_list (params ((tree.param (tree.kind 7 (key.Int
    ∷ [])) (tree.declarator 11 [] (tree.named (word 11 (codes "n"))) (brackets []))) ∷ []))) ∷ []))) []
    (stmts ((tree.evaluate (tree.present (tree.prefixed 14 prefix.Address (tree.nested 15 (tree.row level.Sum
    (tree.name (word 16 (codes "n"))) (operands ((sign.Add, (tree.whole (word 18 (codes "1")))) ∷ []))))))) ∷
    [])))) ∷ []) rule.NotPlace 15

-- void f(int n){++n++;}
abbrev pub PlacesAreChangedIncrement : Type 0
PlacesAreChangedIncrement =
    IsRefused 21 ((tree.function (definition None (tree.void 0 (consts 0 0)) (tree.declarator 5 []
    (tree.named (word 5 (codes "f"))) (brackets ((tree.param_list (params ((tree.param (tree.kind 7 (key.Int
    ∷ [])) (tree.declarator 11 [] (tree.named (word 11 (codes "n"))) (brackets []))) ∷ []))) ∷ []))) []
    (stmts ((tree.evaluate (tree.present (tree.prefixed 14 prefix.Increase (tree.suffixed (tree.name (word 16
    (codes "n"))) (suffixes (tree.increased ∷ [])))))) ∷ [])))) ∷ []) rule.NotPlace 16

-- void f(int n){(char)n=1;}
abbrev pub PlacesAreChangedCast : Type 0
PlacesAreChangedCast =
    IsRefused 25 ((tree.function (definition None (tree.void 0 (consts 0 0)) (tree.declarator 5 []
    (tree.named (word 5 (codes "f"))) (brackets ((tree.param_list (params ((tree.param (tree.kind 7 (key.Int
    ∷ [])) (tree.declarator 11 [] (tree.named (word 11 (codes "n"))) (brackets []))) ∷ []))) ∷ []))) []
    (stmts ((tree.evaluate (tree.present (tree.assign assigning.Plain (tree.cast 14 (tree.type_name
    (tree.kind 15 (key.Char ∷ [])) (tree.declarator 19 [] tree.lacking (brackets []))) (tree.name (word 20
    (codes "n")))) (tree.whole (word 22 (codes "1")))))) ∷ [])))) ∷ []) rule.NotPlace 14

-- int main(void){int n;int*q;q=&(n);(n)=1;++*q;q[0]--;return n;}
abbrev pub PlacesAreChangedPlace : Type 0
PlacesAreChangedPlace =
    IsAccepted 62 ((tree.function (definition None (tree.kind 0 (key.Int ∷ [])) (tree.declarator 4 []
    (tree.named (word 4 (codes "main"))) (brackets (tree.void_list ∷ []))) ((declaration None (tree.kind 15
    (key.Int ∷ [])) ((entry (tree.declarator 19 [] (tree.named (word 19 (codes "n"))) (brackets [])) None) ∷
    [])) ∷ (declaration None (tree.kind 21 (key.Int ∷ [])) ((entry (tree.declarator 24 (0 ∷ []) (tree.named
    (word 25 (codes "q"))) (brackets [])) None) ∷ [])) ∷ []) (stmts ((tree.evaluate (tree.present
    (tree.assign assigning.Plain (tree.name (word 27 (codes "q"))) (tree.prefixed 29 prefix.Address
    (tree.nested 30 (tree.name (word 31 (codes "n")))))))) ∷ (tree.evaluate (tree.present (tree.assign
    assigning.Plain (tree.nested 34 (tree.name (word 35 (codes "n")))) (tree.whole (word 38 (codes "1"))))))
    ∷ (tree.evaluate (tree.present (tree.prefixed 40 prefix.Increase (tree.prefixed 42 prefix.Pointee
    (tree.name (word 43 (codes "q"))))))) ∷ (tree.evaluate (tree.present (tree.suffixed (tree.name (word 45
    (codes "q"))) (suffixes ((tree.index (tree.whole (word 47 (codes "0")))) ∷ tree.decreased ∷ []))))) ∷
    (tree.give 52 (tree.present (tree.name (word 59 (codes "n"))))) ∷ [])))) ∷ [])

-- A cast to or from a pointer stands in front of an allocation of its pointee alone.

-- void f(int*q){(long)q;}
abbrev pub PointersAreNotCastFrom : Type 0
PointersAreNotCastFrom =
    IsRefused 23 ((tree.function (definition None (tree.void 0 (consts 0 0)) (tree.declarator 5 []
    (tree.named (word 5 (codes "f"))) (brackets ((tree.param_list (params ((tree.param (tree.kind 7 (key.Int
    ∷ [])) (tree.declarator 10 (0 ∷ []) (tree.named (word 11 (codes "q"))) (brackets []))) ∷ []))) ∷ []))) []
    (stmts ((tree.evaluate (tree.present (tree.cast 14 (tree.type_name (tree.kind 15 (key.Long ∷ []))
    (tree.declarator 19 [] tree.lacking (brackets []))) (tree.name (word 20 (codes "q")))))) ∷ [])))) ∷ [])
    rule.PointerCast 14

-- void f(void){(int*)0;}
abbrev pub PointersAreNotCastTo : Type 0
PointersAreNotCastTo =
    IsRefused 22 ((tree.function (definition None (tree.void 0 (consts 0 0)) (tree.declarator 5 []
    (tree.named (word 5 (codes "f"))) (brackets (tree.void_list ∷ []))) [] (stmts ((tree.evaluate
    (tree.present (tree.cast 13 (tree.type_name (tree.kind 14 (key.Int ∷ [])) (tree.declarator 17 (0 ∷ [])
    tree.lacking (brackets []))) (tree.whole (word 19 (codes "0")))))) ∷ [])))) ∷ []) rule.PointerCast 13

-- void f(void){(char*)malloc(sizeof(int));}
abbrev pub PointersAreNotCastOther : Type 0
PointersAreNotCastOther =
    IsRefused 41 ((tree.function (definition None (tree.void 0 (consts 0 0)) (tree.declarator 5 []
    (tree.named (word 5 (codes "f"))) (brackets (tree.void_list ∷ []))) [] (stmts ((tree.evaluate
    (tree.present (tree.cast 13 (tree.type_name (tree.kind 14 (key.Char ∷ [])) (tree.declarator 18 (0 ∷ [])
    tree.lacking (brackets []))) (tree.suffixed (tree.name (word 20 (codes "malloc"))) (suffixes ((tree.call
    (exprs ((tree.size_of 27 (tree.type_name (tree.kind 34 (key.Int ∷ [])) (tree.declarator 37 []
    tree.lacking (brackets [])))) ∷ []))) ∷ [])))))) ∷ [])))) ∷ []) rule.PointerCast 13

-- void f(void){(int*)(int*)malloc(sizeof(int));}
abbrev pub PointersAreNotCastSecond : Type 0
PointersAreNotCastSecond =
    IsRefused 46 ((tree.function (definition None (tree.void 0 (consts 0 0)) (tree.declarator 5 []
    (tree.named (word 5 (codes "f"))) (brackets (tree.void_list ∷ []))) [] (stmts ((tree.evaluate
    (tree.present (tree.cast 13 (tree.type_name (tree.kind 14 (key.Int ∷ [])) (tree.declarator 17 (0 ∷ [])
    tree.lacking (brackets []))) (tree.cast 19 (tree.type_name (tree.kind 20 (key.Int ∷ [])) (tree.declarator
    23 (0 ∷ []) tree.lacking (brackets []))) (tree.suffixed (tree.name (word 25 (codes "malloc"))) (suffixes
    ((tree.call (exprs ((tree.size_of 32 (tree.type_name (tree.kind 39 (key.Int ∷ [])) (tree.declarator 42 []
    tree.lacking (brackets [])))) ∷ []))) ∷ []))))))) ∷ [])))) ∷ []) rule.PointerCast 13

-- int main(void){int*q;q=(int*)(malloc(2*3*sizeof *q));(void)q;free(q);return 0;}
abbrev pub PointersAreNotCastOwn : Type 0
PointersAreNotCastOwn =
    IsAccepted 79 ((tree.function (definition None (tree.kind 0 (key.Int ∷ [])) (tree.declarator 4 []
    (tree.named (word 4 (codes "main"))) (brackets (tree.void_list ∷ []))) ((declaration None (tree.kind 15
    (key.Int ∷ [])) ((entry (tree.declarator 18 (0 ∷ []) (tree.named (word 19 (codes "q"))) (brackets []))
    None) ∷ [])) ∷ []) (stmts ((tree.evaluate (tree.present (tree.assign assigning.Plain (tree.name (word 21
    (codes "q"))) (tree.cast 23 (tree.type_name (tree.kind 24 (key.Int ∷ [])) (tree.declarator 27 (0 ∷ [])
    tree.lacking (brackets []))) (tree.nested 29 (tree.suffixed (tree.name (word 30 (codes "malloc")))
    (suffixes ((tree.call (exprs ((tree.row level.Product (tree.whole (word 37 (codes "2"))) (operands
    ((sign.Mul, (tree.whole (word 39 (codes "3")))) ∷ (
      sign.Mul,
      (tree.prefixed 41 prefix.Sizeof
          (tree.prefixed 48 prefix.Pointee (tree.name (word 49 (codes "q"))))),
    ) ∷ []))) ∷ []))) ∷ [])))))))) ∷
    (tree.evaluate (tree.present (tree.cast 53 (tree.type_name (tree.void 54 (consts 0 0)) (tree.declarator
    58 [] tree.lacking (brackets []))) (tree.name (word 59 (codes "q")))))) ∷ (tree.evaluate (tree.present
    (tree.suffixed (tree.name (word 61 (codes "free"))) (suffixes ((tree.call (exprs ((tree.name (word 66
    (codes "q"))) ∷ []))) ∷ []))))) ∷ (tree.give 69 (tree.present (tree.whole (word 76 (codes "0"))))) ∷
    [])))) ∷ [])

-- unsigned int is joined with long by no operator.

-- void f(unsigned u,long l){u+l;}
abbrev pub UnsignedAndLongAreApartSum : Type 0
UnsignedAndLongAreApartSum =
    IsRefused 31 ((tree.function (definition None (tree.void 0 (consts 0 0)) (tree.declarator 5 []
    (tree.named (word 5 (codes "f"))) (brackets ((tree.param_list (params ((tree.param (tree.kind 7
    (key.Unsigned ∷ [])) (tree.declarator 16 [] (tree.named (word 16 (codes "u"))) (brackets []))) ∷
    (tree.param (tree.kind 18 (key.Long ∷ [])) (tree.declarator 23 [] (tree.named (word 23 (codes "l")))
    (brackets []))) ∷ []))) ∷ []))) [] (stmts ((tree.evaluate (tree.present (tree.row level.Sum (tree.name
    (word 26 (codes "u"))) (operands ((sign.Add, (tree.name (word 28 (codes "l")))) ∷ []))))) ∷ [])))) ∷ [])
    rule.MixedLong 26

-- void f(unsigned u,long l){u<l;}
abbrev pub UnsignedAndLongAreApartCompared : Type 0
UnsignedAndLongAreApartCompared =
    IsRefused 31 ((tree.function (definition None (tree.void 0 (consts 0 0)) (tree.declarator 5 []
    (tree.named (word 5 (codes "f"))) (brackets ((tree.param_list (params ((tree.param (tree.kind 7
    (key.Unsigned ∷ [])) (tree.declarator 16 [] (tree.named (word 16 (codes "u"))) (brackets []))) ∷
    (tree.param (tree.kind 18 (key.Long ∷ [])) (tree.declarator 23 [] (tree.named (word 23 (codes "l")))
    (brackets []))) ∷ []))) ∷ []))) [] (stmts ((tree.evaluate (tree.present (tree.row level.Relation
    (tree.name (word 26 (codes "u"))) (operands ((sign.Less, (tree.name (word 28 (codes "l")))) ∷ []))))) ∷
    [])))) ∷ []) rule.MixedLong 26

-- void f(unsigned u,long l){1?u:l;}
abbrev pub UnsignedAndLongAreApartChosen : Type 0
UnsignedAndLongAreApartChosen =
    IsRefused 33 ((tree.function (definition None (tree.void 0 (consts 0 0)) (tree.declarator 5 []
    (tree.named (word 5 (codes "f"))) (brackets ((tree.param_list (params ((tree.param (tree.kind 7
    (key.Unsigned ∷ [])) (tree.declarator 16 [] (tree.named (word 16 (codes "u"))) (brackets []))) ∷
    (tree.param (tree.kind 18 (key.Long ∷ [])) (tree.declarator 23 [] (tree.named (word 23 (codes "l")))
    (brackets []))) ∷ []))) ∷ []))) [] (stmts ((tree.evaluate (tree.present (tree.conditional (tree.whole
    (word 26 (codes "1"))) (tree.name (word 28 (codes "u"))) (tree.name (word 30 (codes "l")))))) ∷ [])))) ∷
    []) rule.MixedLong 26

-- void f(unsigned u,long l){u+=l;}
abbrev pub UnsignedAndLongAreApartBy : Type 0
UnsignedAndLongAreApartBy =
    IsRefused 32 ((tree.function (definition None (tree.void 0 (consts 0 0)) (tree.declarator 5 []
    (tree.named (word 5 (codes "f"))) (brackets ((tree.param_list (params ((tree.param (tree.kind 7
    (key.Unsigned ∷ [])) (tree.declarator 16 [] (tree.named (word 16 (codes "u"))) (brackets []))) ∷
    (tree.param (tree.kind 18 (key.Long ∷ [])) (tree.declarator 23 [] (tree.named (word 23 (codes "l")))
    (brackets []))) ∷ []))) ∷ []))) [] (stmts ((tree.evaluate (tree.present (tree.assign assigning.Add
    (tree.name (word 26 (codes "u"))) (tree.name (word 29 (codes "l")))))) ∷ [])))) ∷ []) rule.MixedLong 26

-- struct p{int a;}k;void f(unsigned u,long l){k?u:l;}
abbrev pub UnsignedAndLongAreApartWins : Type 0
UnsignedAndLongAreApartWins =
    IsRefused 51 ((tree.declaration (declaration None (tree.structure 0 (Some (word 7 (codes "p"))) (fields
    ((tree.field (tree.kind 9 (key.Int ∷ [])) (declarators ((tree.declarator 13 [] (tree.named (word 13
    (codes "a"))) (brackets [])) ∷ []))) ∷ [])) (consts 0 0)) ((entry (tree.declarator 16 [] (tree.named
    (word 16 (codes "k"))) (brackets [])) None) ∷ []))) ∷ (tree.function (definition None (tree.void 18
    (consts 0 0)) (tree.declarator 23 [] (tree.named (word 23 (codes "f"))) (brackets ((tree.param_list
    (params ((tree.param (tree.kind 25 (key.Unsigned ∷ [])) (tree.declarator 34 [] (tree.named (word 34
    (codes "u"))) (brackets []))) ∷ (tree.param (tree.kind 36 (key.Long ∷ [])) (tree.declarator 41 []
    (tree.named (word 41 (codes "l"))) (brackets []))) ∷ []))) ∷ []))) [] (stmts ((tree.evaluate
    (tree.present (tree.conditional (tree.name (word 44 (codes "k"))) (tree.name (word 46 (codes "u")))
    (tree.name (word 48 (codes "l")))))) ∷ [])))) ∷ []) rule.MixedLong 44

-- int main(void){unsigned u;long l;u=1;l=u;l=l<<u;u=u&&l;return(int)l;}
abbrev pub UnsignedAndLongAreApartNotJoined : Type 0
UnsignedAndLongAreApartNotJoined =
    IsAccepted 69 ((tree.function (definition None (tree.kind 0 (key.Int ∷ [])) (tree.declarator 4 []
    (tree.named (word 4 (codes "main"))) (brackets (tree.void_list ∷ []))) ((declaration None (tree.kind 15
    (key.Unsigned ∷ [])) ((entry (tree.declarator 24 [] (tree.named (word 24 (codes "u"))) (brackets []))
    None) ∷ [])) ∷ (declaration None (tree.kind 26 (key.Long ∷ [])) ((entry (tree.declarator 31 []
    (tree.named (word 31 (codes "l"))) (brackets [])) None) ∷ [])) ∷ []) (stmts ((tree.evaluate (tree.present
    (tree.assign assigning.Plain (tree.name (word 33 (codes "u"))) (tree.whole (word 35 (codes "1")))))) ∷
    (tree.evaluate (tree.present (tree.assign assigning.Plain (tree.name (word 37 (codes "l"))) (tree.name
    (word 39 (codes "u")))))) ∷ (tree.evaluate (tree.present (tree.assign assigning.Plain (tree.name (word 41
    (codes "l"))) (tree.row level.Shift (tree.name (word 43 (codes "l"))) (operands ((
      sign.ShiftLeft,
      (tree.name (word 46 (codes "u"))),
    ) ∷ [])))))) ∷ (tree.evaluate (tree.present (tree.assign assigning.Plain
    (tree.name (word 48 (codes "u"))) (tree.row level.All (tree.name (word 50 (codes "u"))) (operands
    ((sign.All, (tree.name (word 53 (codes "l")))) ∷ [])))))) ∷ (tree.give 55 (tree.present (tree.cast 61
    (tree.type_name (tree.kind 62 (key.Int ∷ [])) (tree.declarator 65 [] tree.lacking (brackets [])))
    (tree.name (word 66 (codes "l")))))) ∷ [])))) ∷ [])

-- Each operator takes the operands that it is for.

-- void f(int*q){q*2;}
abbrev pub OperandsFitProduct : Type 0
OperandsFitProduct =
    IsRefused 19 ((tree.function (definition None (tree.void 0 (consts 0 0)) (tree.declarator 5 []
    (tree.named (word 5 (codes "f"))) (brackets ((tree.param_list (params ((tree.param (tree.kind 7 (key.Int
    ∷ [])) (tree.declarator 10 (0 ∷ []) (tree.named (word 11 (codes "q"))) (brackets []))) ∷ []))) ∷ []))) []
    (stmts ((tree.evaluate (tree.present (tree.row level.Product (tree.name (word 14 (codes "q"))) (operands
    ((sign.Mul, (tree.whole (word 16 (codes "2")))) ∷ []))))) ∷ [])))) ∷ []) rule.Mismatch 14

-- void f(int*q){q+q;}
abbrev pub OperandsFitSum : Type 0
OperandsFitSum =
    IsRefused 19 ((tree.function (definition None (tree.void 0 (consts 0 0)) (tree.declarator 5 []
    (tree.named (word 5 (codes "f"))) (brackets ((tree.param_list (params ((tree.param (tree.kind 7 (key.Int
    ∷ [])) (tree.declarator 10 (0 ∷ []) (tree.named (word 11 (codes "q"))) (brackets []))) ∷ []))) ∷ []))) []
    (stmts ((tree.evaluate (tree.present (tree.row level.Sum (tree.name (word 14 (codes "q"))) (operands
    ((sign.Add, (tree.name (word 16 (codes "q")))) ∷ []))))) ∷ [])))) ∷ []) rule.Mismatch 14

-- void f(int*q,char*r){q-r;}
abbrev pub OperandsFitDifference : Type 0
OperandsFitDifference =
    IsRefused 26 ((tree.function (definition None (tree.void 0 (consts 0 0)) (tree.declarator 5 []
    (tree.named (word 5 (codes "f"))) (brackets ((tree.param_list (params ((tree.param (tree.kind 7 (key.Int
    ∷ [])) (tree.declarator 10 (0 ∷ []) (tree.named (word 11 (codes "q"))) (brackets []))) ∷ (tree.param
    (tree.kind 13 (key.Char ∷ [])) (tree.declarator 17 (0 ∷ []) (tree.named (word 18 (codes "r"))) (brackets
    []))) ∷ []))) ∷ []))) [] (stmts ((tree.evaluate (tree.present (tree.row level.Sum (tree.name (word 21
    (codes "q"))) (operands ((sign.Sub, (tree.name (word 23 (codes "r")))) ∷ []))))) ∷ [])))) ∷ [])
    rule.Mismatch 21

-- void f(int*q){q<0;}
abbrev pub OperandsFitRelation : Type 0
OperandsFitRelation =
    IsRefused 19 ((tree.function (definition None (tree.void 0 (consts 0 0)) (tree.declarator 5 []
    (tree.named (word 5 (codes "f"))) (brackets ((tree.param_list (params ((tree.param (tree.kind 7 (key.Int
    ∷ [])) (tree.declarator 10 (0 ∷ []) (tree.named (word 11 (codes "q"))) (brackets []))) ∷ []))) ∷ []))) []
    (stmts ((tree.evaluate (tree.present (tree.row level.Relation (tree.name (word 14 (codes "q"))) (operands
    ((sign.Less, (tree.whole (word 16 (codes "0")))) ∷ []))))) ∷ [])))) ∷ []) rule.Mismatch 14

-- void f(int*q,char*r){q==r;}
abbrev pub OperandsFitEquality : Type 0
OperandsFitEquality =
    IsRefused 27 ((tree.function (definition None (tree.void 0 (consts 0 0)) (tree.declarator 5 []
    (tree.named (word 5 (codes "f"))) (brackets ((tree.param_list (params ((tree.param (tree.kind 7 (key.Int
    ∷ [])) (tree.declarator 10 (0 ∷ []) (tree.named (word 11 (codes "q"))) (brackets []))) ∷ (tree.param
    (tree.kind 13 (key.Char ∷ [])) (tree.declarator 17 (0 ∷ []) (tree.named (word 18 (codes "r"))) (brackets
    []))) ∷ []))) ∷ []))) [] (stmts ((tree.evaluate (tree.present (tree.row level.Equality (tree.name (word
    21 (codes "q"))) (operands ((sign.Equal, (tree.name (word 24 (codes "r")))) ∷ []))))) ∷ [])))) ∷ [])
    rule.Mismatch 21

-- void f(int*q){1<<q;}
abbrev pub OperandsFitCount : Type 0
OperandsFitCount =
    IsRefused 20 ((tree.function (definition None (tree.void 0 (consts 0 0)) (tree.declarator 5 []
    (tree.named (word 5 (codes "f"))) (brackets ((tree.param_list (params ((tree.param (tree.kind 7 (key.Int
    ∷ [])) (tree.declarator 10 (0 ∷ []) (tree.named (word 11 (codes "q"))) (brackets []))) ∷ []))) ∷ []))) []
    (stmts ((tree.evaluate (tree.present (tree.row level.Shift (tree.whole (word 14 (codes "1"))) (operands
    ((sign.ShiftLeft, (tree.name (word 17 (codes "q")))) ∷ []))))) ∷ [])))) ∷ []) rule.Mismatch 14

-- void f(int*q){~q;}
abbrev pub OperandsFitComplement : Type 0
OperandsFitComplement =
    IsRefused 18 ((tree.function (definition None (tree.void 0 (consts 0 0)) (tree.declarator 5 []
    (tree.named (word 5 (codes "f"))) (brackets ((tree.param_list (params ((tree.param (tree.kind 7 (key.Int
    ∷ [])) (tree.declarator 10 (0 ∷ []) (tree.named (word 11 (codes "q"))) (brackets []))) ∷ []))) ∷ []))) []
    (stmts ((tree.evaluate (tree.present (tree.prefixed 14 prefix.Complement (tree.name (word 15 (codes
    "q")))))) ∷ [])))) ∷ []) rule.Mismatch 14

-- void f(int n){*n;}
abbrev pub OperandsFitPointee : Type 0
OperandsFitPointee =
    IsRefused 18 ((tree.function (definition None (tree.void 0 (consts 0 0)) (tree.declarator 5 []
    (tree.named (word 5 (codes "f"))) (brackets ((tree.param_list (params ((tree.param (tree.kind 7 (key.Int
    ∷ [])) (tree.declarator 11 [] (tree.named (word 11 (codes "n"))) (brackets []))) ∷ []))) ∷ []))) []
    (stmts ((tree.evaluate (tree.present (tree.prefixed 14 prefix.Pointee (tree.name (word 15 (codes
    "n")))))) ∷ [])))) ∷ []) rule.Mismatch 14

-- void f(int n){n[1];}
abbrev pub OperandsFitIndex : Type 0
OperandsFitIndex =
    IsRefused 20 ((tree.function (definition None (tree.void 0 (consts 0 0)) (tree.declarator 5 []
    (tree.named (word 5 (codes "f"))) (brackets ((tree.param_list (params ((tree.param (tree.kind 7 (key.Int
    ∷ [])) (tree.declarator 11 [] (tree.named (word 11 (codes "n"))) (brackets []))) ∷ []))) ∷ []))) []
    (stmts ((tree.evaluate (tree.present (tree.suffixed (tree.name (word 14 (codes "n"))) (suffixes
    ((tree.index (tree.whole (word 16 (codes "1")))) ∷ []))))) ∷ [])))) ∷ []) rule.Mismatch 14

-- void f(int n){n.a;}
abbrev pub OperandsFitMember : Type 0
OperandsFitMember =
    IsRefused 19 ((tree.function (definition None (tree.void 0 (consts 0 0)) (tree.declarator 5 []
    (tree.named (word 5 (codes "f"))) (brackets ((tree.param_list (params ((tree.param (tree.kind 7 (key.Int
    ∷ [])) (tree.declarator 11 [] (tree.named (word 11 (codes "n"))) (brackets []))) ∷ []))) ∷ []))) []
    (stmts ((tree.evaluate (tree.present (tree.suffixed (tree.name (word 14 (codes "n"))) (suffixes
    ((tree.member (word 16 (codes "a"))) ∷ []))))) ∷ [])))) ∷ []) rule.Mismatch 14

-- int k[2];void f(int*q){k=q;}
abbrev pub OperandsFitArray : Type 0
OperandsFitArray =
    IsRefused 28 ((tree.declaration (declaration None (tree.kind 0 (key.Int ∷ [])) ((entry (tree.declarator 4
    [] (tree.named (word 4 (codes "k"))) (brackets ((tree.count (tree.present (tree.whole (word 6 (codes
    "2"))))) ∷ []))) None) ∷ []))) ∷ (tree.function (definition None (tree.void 9 (consts 0 0))
    (tree.declarator 14 [] (tree.named (word 14 (codes "f"))) (brackets ((tree.param_list (params
    ((tree.param (tree.kind 16 (key.Int ∷ [])) (tree.declarator 19 (0 ∷ []) (tree.named (word 20 (codes
    "q"))) (brackets []))) ∷ []))) ∷ []))) [] (stmts ((tree.evaluate (tree.present (tree.assign
    assigning.Plain (tree.name (word 23 (codes "k"))) (tree.name (word 25 (codes "q")))))) ∷ [])))) ∷ [])
    rule.Mismatch 23

-- struct p{int a;}k;struct{int a;}m;void f(void){k=m;}
abbrev pub OperandsFitStructure : Type 0
OperandsFitStructure =
    IsRefused 52 ((tree.declaration (declaration None (tree.structure 0 (Some (word 7 (codes "p"))) (fields
    ((tree.field (tree.kind 9 (key.Int ∷ [])) (declarators ((tree.declarator 13 [] (tree.named (word 13
    (codes "a"))) (brackets [])) ∷ []))) ∷ [])) (consts 0 0)) ((entry (tree.declarator 16 [] (tree.named
    (word 16 (codes "k"))) (brackets [])) None) ∷ []))) ∷ (tree.declaration (declaration None (tree.structure
    18 None (fields ((tree.field (tree.kind 25 (key.Int ∷ [])) (declarators ((tree.declarator 29 []
    (tree.named (word 29 (codes "a"))) (brackets [])) ∷ []))) ∷ [])) (consts 0 0)) ((entry (tree.declarator
    32 [] (tree.named (word 32 (codes "m"))) (brackets [])) None) ∷ []))) ∷ (tree.function (definition None
    (tree.void 34 (consts 0 0)) (tree.declarator 39 [] (tree.named (word 39 (codes "f"))) (brackets
    (tree.void_list ∷ []))) [] (stmts ((tree.evaluate (tree.present (tree.assign assigning.Plain (tree.name
    (word 47 (codes "k"))) (tree.name (word 49 (codes "m")))))) ∷ [])))) ∷ []) rule.Mismatch 47

-- struct p{int a;}k;void f(void){k?1:2;}
abbrev pub OperandsFitCondition : Type 0
OperandsFitCondition =
    IsRefused 38 ((tree.declaration (declaration None (tree.structure 0 (Some (word 7 (codes "p"))) (fields
    ((tree.field (tree.kind 9 (key.Int ∷ [])) (declarators ((tree.declarator 13 [] (tree.named (word 13
    (codes "a"))) (brackets [])) ∷ []))) ∷ [])) (consts 0 0)) ((entry (tree.declarator 16 [] (tree.named
    (word 16 (codes "k"))) (brackets [])) None) ∷ []))) ∷ (tree.function (definition None (tree.void 18
    (consts 0 0)) (tree.declarator 23 [] (tree.named (word 23 (codes "f"))) (brackets (tree.void_list ∷ [])))
    [] (stmts ((tree.evaluate (tree.present (tree.conditional (tree.name (word 31 (codes "k"))) (tree.whole
    (word 33 (codes "1"))) (tree.whole (word 35 (codes "2")))))) ∷ [])))) ∷ []) rule.Mismatch 31

-- struct p{int a[2];}k,m;void f(int n){(n?k:m).a[0];}
abbrev pub OperandsFitNoPlace : Type 0
OperandsFitNoPlace =
    IsRefused 51 ((tree.declaration (declaration None (tree.structure 0 (Some (word 7 (codes "p"))) (fields
    ((tree.field (tree.kind 9 (key.Int ∷ [])) (declarators ((tree.declarator 13 [] (tree.named (word 13
    (codes "a"))) (brackets ((tree.count (tree.present (tree.whole (word 15 (codes "2"))))) ∷ []))) ∷ []))) ∷
    [])) (consts 0 0)) ((entry (tree.declarator 19 [] (tree.named (word 19 (codes "k"))) (brackets [])) None)
    ∷ (entry (tree.declarator 21 [] (tree.named (word 21 (codes "m"))) (brackets [])) None) ∷ []))) ∷
    (tree.function (definition None (tree.void 23 (consts 0 0)) (tree.declarator 28 [] (tree.named (word 28
    (codes "f"))) (brackets ((tree.param_list (params ((tree.param (tree.kind 30 (key.Int ∷ []))
    (tree.declarator 34 [] (tree.named (word 34 (codes "n"))) (brackets []))) ∷ []))) ∷ []))) [] (stmts
    ((tree.evaluate (tree.present (tree.suffixed (tree.nested 37 (tree.conditional (tree.name (word 38 (codes
    "n"))) (tree.name (word 40 (codes "k"))) (tree.name (word 42 (codes "m"))))) (suffixes ((tree.member
    (word 45 (codes "a"))) ∷ (tree.index (tree.whole (word 47 (codes "0")))) ∷ []))))) ∷ [])))) ∷ [])
    rule.Mismatch 37

-- void f(void){f()+1;}
abbrev pub OperandsFitVoid : Type 0
OperandsFitVoid =
    IsRefused 20 ((tree.function (definition None (tree.void 0 (consts 0 0)) (tree.declarator 5 []
    (tree.named (word 5 (codes "f"))) (brackets (tree.void_list ∷ []))) [] (stmts ((tree.evaluate
    (tree.present (tree.row level.Sum (tree.suffixed (tree.name (word 13 (codes "f"))) (suffixes ((tree.call
    (exprs [])) ∷ []))) (operands ((sign.Add, (tree.whole (word 17 (codes "1")))) ∷ []))))) ∷ [])))) ∷ [])
    rule.Mismatch 13

-- int main(void){int k[3],*q;q=k+1;q=1+q;q-=1;k[q-k]=q>=k;2[k]=!q||~*q;return q?k[0]%2:-k[2];}
abbrev pub OperandsFitFit : Type 0
OperandsFitFit =
    IsAccepted 92 ((tree.function (definition None (tree.kind 0 (key.Int ∷ [])) (tree.declarator 4 []
    (tree.named (word 4 (codes "main"))) (brackets (tree.void_list ∷ []))) ((declaration None (tree.kind 15
    (key.Int ∷ [])) ((entry (tree.declarator 19 [] (tree.named (word 19 (codes "k"))) (brackets ((tree.count
    (tree.present (tree.whole (word 21 (codes "3"))))) ∷ []))) None) ∷ (entry (tree.declarator 24 (0 ∷ [])
    (tree.named (word 25 (codes "q"))) (brackets [])) None) ∷ [])) ∷ []) (stmts ((tree.evaluate (tree.present
    (tree.assign assigning.Plain (tree.name (word 27 (codes "q"))) (tree.row level.Sum (tree.name (word 29
    (codes "k"))) (operands ((sign.Add, (tree.whole (word 31 (codes "1")))) ∷ [])))))) ∷ (tree.evaluate
    (tree.present (tree.assign assigning.Plain (tree.name (word 33 (codes "q"))) (tree.row level.Sum
    (tree.whole (word 35 (codes "1"))) (operands ((sign.Add, (tree.name (word 37 (codes "q")))) ∷ [])))))) ∷
    (tree.evaluate (tree.present (tree.assign assigning.Sub (tree.name (word 39 (codes "q"))) (tree.whole
    (word 42 (codes "1")))))) ∷ (tree.evaluate (tree.present (tree.assign assigning.Plain (tree.suffixed
    (tree.name (word 44 (codes "k"))) (suffixes ((tree.index (tree.row level.Sum (tree.name (word 46 (codes
    "q"))) (operands ((sign.Sub, (tree.name (word 48 (codes "k")))) ∷ [])))) ∷ []))) (tree.row level.Relation
    (tree.name (word 51 (codes "q"))) (operands ((sign.GreaterEqual, (tree.name (word 54 (codes "k")))) ∷
    [])))))) ∷ (tree.evaluate (tree.present (tree.assign assigning.Plain (tree.suffixed (tree.whole (word 56
    (codes "2"))) (suffixes ((tree.index (tree.name (word 58 (codes "k")))) ∷ []))) (tree.row level.Any
    (tree.prefixed 61 prefix.Not (tree.name (word 62 (codes "q")))) (operands ((
      sign.Any,
      (tree.prefixed 65
          prefix.Complement (tree.prefixed 66 prefix.Pointee (tree.name (word 67 (codes "q"))))),
    ) ∷ [])))))) ∷
    (tree.give 69 (tree.present (tree.conditional (tree.name (word 76 (codes "q"))) (tree.row level.Product
    (tree.suffixed (tree.name (word 78 (codes "k"))) (suffixes ((tree.index (tree.whole (word 80 (codes
    "0")))) ∷ []))) (operands ((sign.Rem, (tree.whole (word 83 (codes "2")))) ∷ []))) (tree.prefixed 85
    prefix.Minus (tree.suffixed (tree.name (word 86 (codes "k"))) (suffixes ((tree.index (tree.whole (word 88
    (codes "2")))) ∷ []))))))) ∷ [])))) ∷ [])

-- struct p{int a;}k,m;int main(void){int n;n=1;k=m=k;return(n?k:m).a;}
abbrev pub OperandsFitStructs : Type 0
OperandsFitStructs =
    IsAccepted 68 ((tree.declaration (declaration None (tree.structure 0 (Some (word 7 (codes "p"))) (fields
    ((tree.field (tree.kind 9 (key.Int ∷ [])) (declarators ((tree.declarator 13 [] (tree.named (word 13
    (codes "a"))) (brackets [])) ∷ []))) ∷ [])) (consts 0 0)) ((entry (tree.declarator 16 [] (tree.named
    (word 16 (codes "k"))) (brackets [])) None) ∷ (entry (tree.declarator 18 [] (tree.named (word 18 (codes
    "m"))) (brackets [])) None) ∷ []))) ∷ (tree.function (definition None (tree.kind 20 (key.Int ∷ []))
    (tree.declarator 24 [] (tree.named (word 24 (codes "main"))) (brackets (tree.void_list ∷ [])))
    ((declaration None (tree.kind 35 (key.Int ∷ [])) ((entry (tree.declarator 39 [] (tree.named (word 39
    (codes "n"))) (brackets [])) None) ∷ [])) ∷ []) (stmts ((tree.evaluate (tree.present (tree.assign
    assigning.Plain (tree.name (word 41 (codes "n"))) (tree.whole (word 43 (codes "1")))))) ∷ (tree.evaluate
    (tree.present (tree.assign assigning.Plain (tree.name (word 45 (codes "k"))) (tree.assign assigning.Plain
    (tree.name (word 47 (codes "m"))) (tree.name (word 49 (codes "k"))))))) ∷ (tree.give 51 (tree.present
    (tree.suffixed (tree.nested 57 (tree.conditional (tree.name (word 58 (codes "n"))) (tree.name (word 60
    (codes "k"))) (tree.name (word 62 (codes "m"))))) (suffixes ((tree.member (word 65 (codes "a"))) ∷
    []))))) ∷ [])))) ∷ [])

-- The constant 0 and NULL agree with every pointer; no other integer does.

-- void f(int*q){q=1-1;}
abbrev pub NullAgreesSum : Type 0
NullAgreesSum =
    IsRefused 21 ((tree.function (definition None (tree.void 0 (consts 0 0)) (tree.declarator 5 []
    (tree.named (word 5 (codes "f"))) (brackets ((tree.param_list (params ((tree.param (tree.kind 7 (key.Int
    ∷ [])) (tree.declarator 10 (0 ∷ []) (tree.named (word 11 (codes "q"))) (brackets []))) ∷ []))) ∷ []))) []
    (stmts ((tree.evaluate (tree.present (tree.assign assigning.Plain (tree.name (word 14 (codes "q")))
    (tree.row level.Sum (tree.whole (word 16 (codes "1"))) (operands ((
      sign.Sub,
      (tree.whole (word 18 (codes
          "1"))),
    ) ∷ [])))))) ∷ [])))) ∷ []) rule.Mismatch 14

-- void f(int*q){q='\0';}
abbrev pub NullAgreesCharacter : Type 0
NullAgreesCharacter =
    IsRefused 22 ((tree.function (definition None (tree.void 0 (consts 0 0)) (tree.declarator 5 []
    (tree.named (word 5 (codes "f"))) (brackets ((tree.param_list (params ((tree.param (tree.kind 7 (key.Int
    ∷ [])) (tree.declarator 10 (0 ∷ []) (tree.named (word 11 (codes "q"))) (brackets []))) ∷ []))) ∷ []))) []
    (stmts ((tree.evaluate (tree.present (tree.assign assigning.Plain (tree.name (word 14 (codes "q")))
    (tree.character (word 16 (39 ∷ 92 ∷ 48 ∷ 39 ∷ [])))))) ∷ [])))) ∷ []) rule.Mismatch 14

-- int f(void){return NULL;}
abbrev pub NullAgreesInteger : Type 0
NullAgreesInteger =
    IsRefused 25 ((tree.function (definition None (tree.kind 0 (key.Int ∷ [])) (tree.declarator 4 []
    (tree.named (word 4 (codes "f"))) (brackets (tree.void_list ∷ []))) [] (stmts ((tree.give 12
    (tree.present (tree.name (word 19 (codes "NULL"))))) ∷ [])))) ∷ []) rule.Mismatch 19

-- int main(void){int*q;q=0x0;q=(NULL);q=q?q:NULL;return q==0||NULL==0||!NULL;}
abbrev pub NullAgreesNull : Type 0
NullAgreesNull =
    IsAccepted 76 ((tree.function (definition None (tree.kind 0 (key.Int ∷ [])) (tree.declarator 4 []
    (tree.named (word 4 (codes "main"))) (brackets (tree.void_list ∷ []))) ((declaration None (tree.kind 15
    (key.Int ∷ [])) ((entry (tree.declarator 18 (0 ∷ []) (tree.named (word 19 (codes "q"))) (brackets []))
    None) ∷ [])) ∷ []) (stmts ((tree.evaluate (tree.present (tree.assign assigning.Plain (tree.name (word 21
    (codes "q"))) (tree.whole (word 23 (codes "0x0")))))) ∷ (tree.evaluate (tree.present (tree.assign
    assigning.Plain (tree.name (word 27 (codes "q"))) (tree.nested 29 (tree.name (word 30 (codes
    "NULL"))))))) ∷ (tree.evaluate (tree.present (tree.assign assigning.Plain (tree.name (word 36 (codes
    "q"))) (tree.conditional (tree.name (word 38 (codes "q"))) (tree.name (word 40 (codes "q"))) (tree.name
    (word 42 (codes "NULL"))))))) ∷ (tree.give 47 (tree.present (tree.row level.Any (tree.row level.Equality
    (tree.name (word 54 (codes "q"))) (operands ((sign.Equal, (tree.whole (word 57 (codes "0")))) ∷ [])))
    (operands ((
      sign.Any,
      (tree.row level.Equality (tree.name (word 60 (codes "NULL"))) (operands
          ((sign.Equal, (tree.whole (word 66 (codes "0")))) ∷ []))),
    ) ∷ (
      sign.Any,
      (tree.prefixed 69 prefix.Not
          (tree.name (word 70 (codes "NULL")))),
    ) ∷ []))))) ∷ [])))) ∷ [])
