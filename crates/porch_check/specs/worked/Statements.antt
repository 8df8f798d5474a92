-- Statements and initialisers.
use Rattle.std.specs.Prelude.{[], ◌∷◌, codes, false, Some, None}
use Rattle.porch_lex.specs.declared.refusal.Rule.TheVariants as rule
use Rattle.porch_tree.specs.declared.tree.Assigning.TheVariants as assigning
use Rattle.porch_tree.specs.declared.tree.Infix.TheVariants as sign
use Rattle.porch_tree.specs.declared.tree.Level.TheVariants as level
use Rattle.porch_tree.specs.declared.tree.Prefix.TheVariants as prefix
use Rattle.porch_tree.specs.declared.word.Keyword.TheVariants as key
use Rattle.porch_tree.specs.Mirror as tree
use Rattle.porch_check.specs.worked.Write.{word, quoted, consts, exprs, operands, suffixes, fields, declarators, brackets, params, initials, stmts, entries, entry, declaration, definition, IsRefused, IsAccepted}

-- break, continue, return and switch.

-- void f(void){break;}
abbrev pub StatementsStandWhereTheyMayBreaks : Type 0
StatementsStandWhereTheyMayBreaks =
    IsRefused 20 ((tree.function (definition None (tree.void 0 (consts 0 0)) (tree.declarator 5 []
    (tree.named (word 5 (codes "f"))) (brackets (tree.void_list ∷ []))) [] (stmts ((tree.break 13) ∷ [])))) ∷
    []) rule.Mismatch 13

-- void f(void){switch(1){case 1:continue;}}
abbrev pub StatementsStandWhereTheyMayContinues : Type 0
StatementsStandWhereTheyMayContinues =
    IsRefused 41 ((tree.function (definition None (tree.void 0 (consts 0 0)) (tree.declarator 5 []
    (tree.named (word 5 (codes "f"))) (brackets (tree.void_list ∷ []))) [] (stmts ((tree.switch 13
    (tree.whole (word 20 (codes "1"))) (entries ((tree.case 23 (tree.whole (word 28 (codes "1")))) ∷
    (tree.stmt (tree.continue 30)) ∷ []))) ∷ [])))) ∷ []) rule.Mismatch 30

-- void f(void){return 0;}
abbrev pub StatementsStandWhereTheyMayNoResult : Type 0
StatementsStandWhereTheyMayNoResult =
    IsRefused 23 ((tree.function (definition None (tree.void 0 (consts 0 0)) (tree.declarator 5 []
    (tree.named (word 5 (codes "f"))) (brackets (tree.void_list ∷ []))) [] (stmts ((tree.give 13
    (tree.present (tree.whole (word 20 (codes "0"))))) ∷ [])))) ∷ []) rule.Mismatch 13

-- int f(int*q){return q;}
abbrev pub StatementsStandWhereTheyMayResult : Type 0
StatementsStandWhereTheyMayResult =
    IsRefused 23 ((tree.function (definition None (tree.kind 0 (key.Int ∷ [])) (tree.declarator 4 []
    (tree.named (word 4 (codes "f"))) (brackets ((tree.param_list (params ((tree.param (tree.kind 6 (key.Int
    ∷ [])) (tree.declarator 9 (0 ∷ []) (tree.named (word 10 (codes "q"))) (brackets []))) ∷ []))) ∷ []))) []
    (stmts ((tree.give 13 (tree.present (tree.name (word 20 (codes "q"))))) ∷ [])))) ∷ []) rule.Mismatch 20

-- struct p{int a;}k;void f(void){while(k);}
abbrev pub StatementsStandWhereTheyMayCondition : Type 0
StatementsStandWhereTheyMayCondition =
    IsRefused 41 ((tree.declaration (declaration None (tree.structure 0 (Some (word 7 (codes "p"))) (fields
    ((tree.field (tree.kind 9 (key.Int ∷ [])) (declarators ((tree.declarator 13 [] (tree.named (word 13
    (codes "a"))) (brackets [])) ∷ []))) ∷ [])) (consts 0 0)) ((entry (tree.declarator 16 [] (tree.named
    (word 16 (codes "k"))) (brackets [])) None) ∷ []))) ∷ (tree.function (definition None (tree.void 18
    (consts 0 0)) (tree.declarator 23 [] (tree.named (word 23 (codes "f"))) (brackets (tree.void_list ∷ [])))
    [] (stmts ((tree.while_loop 31 (tree.name (word 37 (codes "k"))) (tree.evaluate tree.absent)) ∷ [])))) ∷
    []) rule.Mismatch 37

-- void f(int*q){switch(q){}}
abbrev pub StatementsStandWhereTheyMaySwitch : Type 0
StatementsStandWhereTheyMaySwitch =
    IsRefused 26 ((tree.function (definition None (tree.void 0 (consts 0 0)) (tree.declarator 5 []
    (tree.named (word 5 (codes "f"))) (brackets ((tree.param_list (params ((tree.param (tree.kind 7 (key.Int
    ∷ [])) (tree.declarator 10 (0 ∷ []) (tree.named (word 11 (codes "q"))) (brackets []))) ∷ []))) ∷ []))) []
    (stmts ((tree.switch 14 (tree.name (word 21 (codes "q"))) (entries [])) ∷ [])))) ∷ []) rule.Mismatch 21

-- void f(int n){switch(1){case n:;}}
abbrev pub StatementsStandWhereTheyMayCase : Type 0
StatementsStandWhereTheyMayCase =
    IsRefused 34 ((tree.function (definition None (tree.void 0 (consts 0 0)) (tree.declarator 5 []
    (tree.named (word 5 (codes "f"))) (brackets ((tree.param_list (params ((tree.param (tree.kind 7 (key.Int
    ∷ [])) (tree.declarator 11 [] (tree.named (word 11 (codes "n"))) (brackets []))) ∷ []))) ∷ []))) []
    (stmts ((tree.switch 14 (tree.whole (word 21 (codes "1"))) (entries ((tree.case 24 (tree.name (word 29
    (codes "n")))) ∷ (tree.stmt (tree.evaluate tree.absent)) ∷ []))) ∷ [])))) ∷ []) rule.Mismatch 29

-- void f(void){switch(1u){case -1:;}}
abbrev pub StatementsStandWhereTheyMayRange : Type 0
StatementsStandWhereTheyMayRange =
    IsRefused 35 ((tree.function (definition None (tree.void 0 (consts 0 0)) (tree.declarator 5 []
    (tree.named (word 5 (codes "f"))) (brackets (tree.void_list ∷ []))) [] (stmts ((tree.switch 13
    (tree.whole (word 20 (codes "1u"))) (entries ((tree.case 24 (tree.prefixed 29 prefix.Minus (tree.whole
    (word 30 (codes "1"))))) ∷ (tree.stmt (tree.evaluate tree.absent)) ∷ []))) ∷ [])))) ∷ []) rule.Mismatch
    29

-- void f(void){switch(1){case 2:;case 1+1:;}}
abbrev pub StatementsStandWhereTheyMaySameCase : Type 0
StatementsStandWhereTheyMaySameCase =
    IsRefused 43 ((tree.function (definition None (tree.void 0 (consts 0 0)) (tree.declarator 5 []
    (tree.named (word 5 (codes "f"))) (brackets (tree.void_list ∷ []))) [] (stmts ((tree.switch 13
    (tree.whole (word 20 (codes "1"))) (entries ((tree.case 23 (tree.whole (word 28 (codes "2")))) ∷
    (tree.stmt (tree.evaluate tree.absent)) ∷ (tree.case 31 (tree.row level.Sum (tree.whole (word 36 (codes
    "1"))) (operands ((sign.Add, (tree.whole (word 38 (codes "1")))) ∷ [])))) ∷ (tree.stmt (tree.evaluate
    tree.absent)) ∷ []))) ∷ [])))) ∷ []) rule.Twice 36

-- void f(void){switch(1){default:;default:;}}
abbrev pub StatementsStandWhereTheyMayDefault : Type 0
StatementsStandWhereTheyMayDefault =
    IsRefused 43 ((tree.function (definition None (tree.void 0 (consts 0 0)) (tree.declarator 5 []
    (tree.named (word 5 (codes "f"))) (brackets (tree.void_list ∷ []))) [] (stmts ((tree.switch 13
    (tree.whole (word 20 (codes "1"))) (entries ((tree.default 23) ∷ (tree.stmt (tree.evaluate tree.absent))
    ∷ (tree.default 32) ∷ (tree.stmt (tree.evaluate tree.absent)) ∷ []))) ∷ [])))) ∷ []) rule.Twice 32

-- int f(void){return;}int main(void){int n;for(n=0;n<3;n++){if(n)continue;else break;}do switch(n){case 0:break;default:n--;}while(n);f();return n;}
abbrev pub StatementsStandWhereTheyMayAll : Type 0
StatementsStandWhereTheyMayAll =
    IsAccepted 146 ((tree.function (definition None (tree.kind 0 (key.Int ∷ [])) (tree.declarator 4 []
    (tree.named (word 4 (codes "f"))) (brackets (tree.void_list ∷ []))) [] (stmts ((tree.give 12 tree.absent)
    ∷ [])))) ∷ (tree.function (definition None (tree.kind 20 (key.Int ∷ [])) (tree.declarator 24 []
    (tree.named (word 24 (codes "main"))) (brackets (tree.void_list ∷ []))) ((declaration None (tree.kind 35
    (key.Int ∷ [])) ((entry (tree.declarator 39 [] (tree.named (word 39 (codes "n"))) (brackets [])) None) ∷
    [])) ∷ []) (stmts ((tree.for_loop 41 (tree.present (tree.assign assigning.Plain (tree.name (word 45
    (codes "n"))) (tree.whole (word 47 (codes "0"))))) (tree.present (tree.row level.Relation (tree.name
    (word 49 (codes "n"))) (operands ((sign.Less, (tree.whole (word 51 (codes "3")))) ∷ [])))) (tree.present
    (tree.suffixed (tree.name (word 53 (codes "n"))) (suffixes (tree.increased ∷ [])))) (tree.block 57 []
    (stmts ((tree.choose_else 58 (tree.name (word 61 (codes "n"))) (tree.continue 63) (tree.break 77)) ∷
    [])))) ∷ (tree.do_loop 84 (tree.switch 87 (tree.name (word 94 (codes "n"))) (entries ((tree.case 97
    (tree.whole (word 102 (codes "0")))) ∷ (tree.stmt (tree.break 104)) ∷ (tree.default 110) ∷ (tree.stmt
    (tree.evaluate (tree.present (tree.suffixed (tree.name (word 118 (codes "n"))) (suffixes (tree.decreased
    ∷ [])))))) ∷ []))) (tree.name (word 129 (codes "n")))) ∷ (tree.evaluate (tree.present (tree.suffixed
    (tree.name (word 132 (codes "f"))) (suffixes ((tree.call (exprs [])) ∷ []))))) ∷ (tree.give 136
    (tree.present (tree.name (word 143 (codes "n"))))) ∷ [])))) ∷ [])

-- Initialisers give no more than there is; those of globals and in braces are constants.

-- int k[2]={1,2,3};
abbrev pub InitialisersFitMore : Type 0
InitialisersFitMore =
    IsRefused 17 ((tree.declaration (declaration None (tree.kind 0 (key.Int ∷ [])) ((entry (tree.declarator 4
    [] (tree.named (word 4 (codes "k"))) (brackets ((tree.count (tree.present (tree.whole (word 6 (codes
    "2"))))) ∷ []))) (Some (tree.braced 9 (initials ((tree.value (tree.whole (word 10 (codes "1")))) ∷
    (tree.value (tree.whole (word 12 (codes "2")))) ∷ (tree.value (tree.whole (word 14 (codes "3")))) ∷ []))
    false))) ∷ []))) ∷ []) rule.Mismatch 9

-- int k={{1}};
abbrev pub InitialisersFitNoPart : Type 0
InitialisersFitNoPart =
    IsRefused 12 ((tree.declaration (declaration None (tree.kind 0 (key.Int ∷ [])) ((entry (tree.declarator 4
    [] (tree.named (word 4 (codes "k"))) (brackets [])) (Some (tree.braced 6 (initials ((tree.braced 7
    (initials ((tree.value (tree.whole (word 8 (codes "1")))) ∷ [])) false) ∷ [])) false))) ∷ []))) ∷ [])
    rule.Mismatch 7

-- char k[2]="abc";
abbrev pub InitialisersFitLonger : Type 0
InitialisersFitLonger =
    IsRefused 16 ((tree.declaration (declaration None (tree.kind 0 (key.Char ∷ [])) ((entry (tree.declarator
    5 [] (tree.named (word 5 (codes "k"))) (brackets ((tree.count (tree.present (tree.whole (word 7 (codes
    "2"))))) ∷ []))) (Some (tree.value (tree.texts (word 10 (quoted (codes "abc"))) [])))) ∷ []))) ∷ [])
    rule.Mismatch 10

-- int f(void){return 1;}int k=f();
abbrev pub InitialisersFitCall : Type 0
InitialisersFitCall =
    IsRefused 32 ((tree.function (definition None (tree.kind 0 (key.Int ∷ [])) (tree.declarator 4 []
    (tree.named (word 4 (codes "f"))) (brackets (tree.void_list ∷ []))) [] (stmts ((tree.give 12
    (tree.present (tree.whole (word 19 (codes "1"))))) ∷ [])))) ∷ (tree.declaration (declaration None
    (tree.kind 22 (key.Int ∷ [])) ((entry (tree.declarator 26 [] (tree.named (word 26 (codes "k"))) (brackets
    [])) (Some (tree.value (tree.suffixed (tree.name (word 28 (codes "f"))) (suffixes ((tree.call (exprs []))
    ∷ [])))))) ∷ []))) ∷ []) rule.Mismatch 28

-- int k[2];int*q=&k[2];
abbrev pub InitialisersFitOnePast : Type 0
InitialisersFitOnePast =
    IsRefused 21 ((tree.declaration (declaration None (tree.kind 0 (key.Int ∷ [])) ((entry (tree.declarator 4
    [] (tree.named (word 4 (codes "k"))) (brackets ((tree.count (tree.present (tree.whole (word 6 (codes
    "2"))))) ∷ []))) None) ∷ []))) ∷ (tree.declaration (declaration None (tree.kind 9 (key.Int ∷ [])) ((entry
    (tree.declarator 12 (0 ∷ []) (tree.named (word 13 (codes "q"))) (brackets [])) (Some (tree.value
    (tree.prefixed 15 prefix.Address (tree.suffixed (tree.name (word 16 (codes "k"))) (suffixes ((tree.index
    (tree.whole (word 18 (codes "2")))) ∷ []))))))) ∷ []))) ∷ []) rule.Mismatch 15

-- int k[2];int*q=&*k;
abbrev pub InitialisersFitNoIndex : Type 0
InitialisersFitNoIndex =
    IsRefused 19 ((tree.declaration (declaration None (tree.kind 0 (key.Int ∷ [])) ((entry (tree.declarator 4
    [] (tree.named (word 4 (codes "k"))) (brackets ((tree.count (tree.present (tree.whole (word 6 (codes
    "2"))))) ∷ []))) None) ∷ []))) ∷ (tree.declaration (declaration None (tree.kind 9 (key.Int ∷ [])) ((entry
    (tree.declarator 12 (0 ∷ []) (tree.named (word 13 (codes "q"))) (brackets [])) (Some (tree.value
    (tree.prefixed 15 prefix.Address (tree.prefixed 16 prefix.Pointee (tree.name (word 17 (codes "k"))))))))
    ∷ []))) ∷ []) rule.Mismatch 15

-- int k[2];int*q=&1[k];int main(void){return 0;}
abbrev pub InitialisersFitEitherOrder : Type 0
InitialisersFitEitherOrder =
    IsAccepted 46 ((tree.declaration (declaration None (tree.kind 0 (key.Int ∷ [])) ((entry (tree.declarator
    4 [] (tree.named (word 4 (codes "k"))) (brackets ((tree.count (tree.present (tree.whole (word 6 (codes
    "2"))))) ∷ []))) None) ∷ []))) ∷ (tree.declaration (declaration None (tree.kind 9 (key.Int ∷ [])) ((entry
    (tree.declarator 12 (0 ∷ []) (tree.named (word 13 (codes "q"))) (brackets [])) (Some (tree.value
    (tree.prefixed 15 prefix.Address (tree.suffixed (tree.whole (word 16 (codes "1"))) (suffixes ((tree.index
    (tree.name (word 18 (codes "k")))) ∷ []))))))) ∷ []))) ∷ (tree.function (definition None (tree.kind 21
    (key.Int ∷ [])) (tree.declarator 25 [] (tree.named (word 25 (codes "main"))) (brackets (tree.void_list ∷
    []))) [] (stmts ((tree.give 36 (tree.present (tree.whole (word 43 (codes "0"))))) ∷ [])))) ∷ [])

-- int k[2][2];int*q=k[1];
abbrev pub InitialisersFitInnerArray : Type 0
InitialisersFitInnerArray =
    IsRefused 23 ((tree.declaration (declaration None (tree.kind 0 (key.Int ∷ [])) ((entry (tree.declarator 4
    [] (tree.named (word 4 (codes "k"))) (brackets ((tree.count (tree.present (tree.whole (word 6 (codes
    "2"))))) ∷ (tree.count (tree.present (tree.whole (word 9 (codes "2"))))) ∷ []))) None) ∷ []))) ∷
    (tree.declaration (declaration None (tree.kind 12 (key.Int ∷ [])) ((entry (tree.declarator 15 (0 ∷ [])
    (tree.named (word 16 (codes "q"))) (brackets [])) (Some (tree.value (tree.suffixed (tree.name (word 18
    (codes "k"))) (suffixes ((tree.index (tree.whole (word 20 (codes "1")))) ∷ [])))))) ∷ []))) ∷ [])
    rule.Mismatch 18

-- void f(int n){int k[2]={1,n};}
abbrev pub InitialisersFitLocal : Type 0
InitialisersFitLocal =
    IsRefused 30 ((tree.function (definition None (tree.void 0 (consts 0 0)) (tree.declarator 5 []
    (tree.named (word 5 (codes "f"))) (brackets ((tree.param_list (params ((tree.param (tree.kind 7 (key.Int
    ∷ [])) (tree.declarator 11 [] (tree.named (word 11 (codes "n"))) (brackets []))) ∷ []))) ∷ [])))
    ((declaration None (tree.kind 14 (key.Int ∷ [])) ((entry (tree.declarator 18 [] (tree.named (word 18
    (codes "k"))) (brackets ((tree.count (tree.present (tree.whole (word 20 (codes "2"))))) ∷ []))) (Some
    (tree.braced 23 (initials ((tree.value (tree.whole (word 24 (codes "1")))) ∷ (tree.value (tree.name (word
    26 (codes "n")))) ∷ [])) false))) ∷ [])) ∷ []) (stmts []))) ∷ []) rule.Mismatch 26

-- void f(int*q){int k[2]=q;}
abbrev pub InitialisersFitArray : Type 0
InitialisersFitArray =
    IsRefused 26 ((tree.function (definition None (tree.void 0 (consts 0 0)) (tree.declarator 5 []
    (tree.named (word 5 (codes "f"))) (brackets ((tree.param_list (params ((tree.param (tree.kind 7 (key.Int
    ∷ [])) (tree.declarator 10 (0 ∷ []) (tree.named (word 11 (codes "q"))) (brackets []))) ∷ []))) ∷ [])))
    ((declaration None (tree.kind 14 (key.Int ∷ [])) ((entry (tree.declarator 18 [] (tree.named (word 18
    (codes "k"))) (brackets ((tree.count (tree.present (tree.whole (word 20 (codes "2"))))) ∷ []))) (Some
    (tree.value (tree.name (word 23 (codes "q")))))) ∷ [])) ∷ []) (stmts []))) ∷ []) rule.Mismatch 23

-- int f(void)=1;
abbrev pub InitialisersFitFunction : Type 0
InitialisersFitFunction =
    IsRefused 14 ((tree.declaration (declaration None (tree.kind 0 (key.Int ∷ [])) ((entry (tree.declarator 4
    [] (tree.named (word 4 (codes "f"))) (brackets (tree.void_list ∷ []))) (Some (tree.value (tree.whole
    (word 12 (codes "1")))))) ∷ []))) ∷ []) rule.Mismatch 12

-- int k[2][2]={1,2,{3}},m[2],*q=&k[1][0],*r=m,n={4};struct{int*a;char b[2];}s[]={0,"c",{m,{'d'}}};int main(void){int l[2]={1},j=l[0];return j;}
abbrev pub InitialisersFitConstants : Type 0
InitialisersFitConstants =
    IsAccepted 141 ((tree.declaration (declaration None (tree.kind 0 (key.Int ∷ [])) ((entry (tree.declarator
    4 [] (tree.named (word 4 (codes "k"))) (brackets ((tree.count (tree.present (tree.whole (word 6 (codes
    "2"))))) ∷ (tree.count (tree.present (tree.whole (word 9 (codes "2"))))) ∷ []))) (Some (tree.braced 12
    (initials ((tree.value (tree.whole (word 13 (codes "1")))) ∷ (tree.value (tree.whole (word 15 (codes
    "2")))) ∷ (tree.braced 17 (initials ((tree.value (tree.whole (word 18 (codes "3")))) ∷ [])) false) ∷ []))
    false))) ∷ (entry (tree.declarator 22 [] (tree.named (word 22 (codes "m"))) (brackets ((tree.count
    (tree.present (tree.whole (word 24 (codes "2"))))) ∷ []))) None) ∷ (entry (tree.declarator 27 (0 ∷ [])
    (tree.named (word 28 (codes "q"))) (brackets [])) (Some (tree.value (tree.prefixed 30 prefix.Address
    (tree.suffixed (tree.name (word 31 (codes "k"))) (suffixes ((tree.index (tree.whole (word 33 (codes
    "1")))) ∷ (tree.index (tree.whole (word 36 (codes "0")))) ∷ []))))))) ∷ (entry (tree.declarator 39 (0 ∷
    []) (tree.named (word 40 (codes "r"))) (brackets [])) (Some (tree.value (tree.name (word 42 (codes
    "m")))))) ∷ (entry (tree.declarator 44 [] (tree.named (word 44 (codes "n"))) (brackets [])) (Some
    (tree.braced 46 (initials ((tree.value (tree.whole (word 47 (codes "4")))) ∷ [])) false))) ∷ []))) ∷
    (tree.declaration (declaration None (tree.structure 50 None (fields ((tree.field (tree.kind 57 (key.Int ∷
    [])) (declarators ((tree.declarator 60 (0 ∷ []) (tree.named (word 61 (codes "a"))) (brackets [])) ∷ [])))
    ∷ (tree.field (tree.kind 63 (key.Char ∷ [])) (declarators ((tree.declarator 68 [] (tree.named (word 68
    (codes "b"))) (brackets ((tree.count (tree.present (tree.whole (word 70 (codes "2"))))) ∷ []))) ∷ []))) ∷
    [])) (consts 0 0)) ((entry (tree.declarator 74 [] (tree.named (word 74 (codes "s"))) (brackets
    ((tree.count tree.absent) ∷ []))) (Some (tree.braced 78 (initials ((tree.value (tree.whole (word 79
    (codes "0")))) ∷ (tree.value (tree.texts (word 81 (quoted (codes "c"))) [])) ∷ (tree.braced 85 (initials
    ((tree.value (tree.name (word 86 (codes "m")))) ∷ (tree.braced 88 (initials ((tree.value (tree.character
    (word 89 (codes "'d'")))) ∷ [])) false) ∷ [])) false) ∷ [])) false))) ∷ []))) ∷ (tree.function
    (definition None (tree.kind 96 (key.Int ∷ [])) (tree.declarator 100 [] (tree.named (word 100 (codes
    "main"))) (brackets (tree.void_list ∷ []))) ((declaration None (tree.kind 111 (key.Int ∷ [])) ((entry
    (tree.declarator 115 [] (tree.named (word 115 (codes "l"))) (brackets ((tree.count (tree.present
    (tree.whole (word 117 (codes "2"))))) ∷ []))) (Some (tree.braced 120 (initials ((tree.value (tree.whole
    (word 121 (codes "1")))) ∷ [])) false))) ∷ (entry (tree.declarator 124 [] (tree.named (word 124 (codes
    "j"))) (brackets [])) (Some (tree.value (tree.suffixed (tree.name (word 126 (codes "l"))) (suffixes
    ((tree.index (tree.whole (word 128 (codes "0")))) ∷ [])))))) ∷ [])) ∷ []) (stmts ((tree.give 131
    (tree.present (tree.name (word 138 (codes "j"))))) ∷ [])))) ∷ [])
