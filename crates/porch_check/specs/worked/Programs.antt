-- Typed programs of small texts, whole.
use Rattle.std.specs.Prelude.{ℕ, pos, negsuc, ◌≡◌, [], ◌∷◌, ◌++◌, List, map, codes, false, Some, None, Ok}
use Rattle.porch_tree.specs.declared.tree.Prefix.TheVariants as prefix
use Rattle.porch_tree.specs.declared.tree.TagSort.TheVariants.{Struct}
use Rattle.porch_tree.specs.declared.word.Keyword.TheVariants as key
use Rattle.porch_tree.specs.Mirror as tree
use Rattle.porch_check.specs.worked.Write.{word, consts, suffixes, fields, declarators, brackets, initials, stmts, entry, declaration, definition, IsProgram}
use Rattle.porch_types.specs.declared.shapes.Kind.TheVariants.{Int}
use Rattle.porch_types.specs.declared.shapes.Ty.{Ty}
use Rattle.porch_types.specs.declared.shapes.Ty.TheVariants.{Pointer, Struct}
use Rattle.porch_types.specs.Leaves.{kind_types}
use Rattle.porch_tree.specs.Mirror.{TranslationUnit}
use Rattle.porch_tree.specs.Worked.{small_unit}
use Rattle.porch_typed.specs.declared.typed.Fill.{Fill}
use Rattle.porch_typed.specs.declared.typed.Fill.TheVariants.{Constant, Address, Null}
use Rattle.porch_typed.specs.declared.typed.GlobalVariable.{GlobalVariable}
use Rattle.porch_typed.specs.Mirror.{Function, Program, Expression, constant, conversion, read, member, pointee, global, give, no_statements, with_statement}
use Rattle.porch_check.specs.Refusals.{and_then}
use Rattle.porch_check.specs.Units.{checked_unit}

-- a function main without variables that returns an int
abbrev pub returns : Expression → (tokens : ℕ) → Function
returns e tokens =
    record {
      name = codes "main";
      result = Some 4;
      params = 0;
      variables = [];
      body = with_statement (give (Some (conversion Int e))) no_statements;
      tokens = tokens;
    }

-- pointers to the eight kinds
abbrev pub kind_pointers : List Ty
kind_pointers =
    Pointer 0 ∷ Pointer 1 ∷ Pointer 2 ∷ Pointer 3 ∷ Pointer 4 ∷ Pointer 5 ∷ Pointer 6 ∷ Pointer 7 ∷ []

abbrev pub small_program : Program
small_program =
    record {
      types = kind_types ++ kind_pointers;
      pointers = 8 ∷ 9 ∷ 10 ∷ 11 ∷ 12 ∷ 13 ∷ 14 ∷ 15 ∷ [];
      globals = [];
      functions = returns (constant Int (pos 0)) 10 ∷ [];
      main = 0;
    }

-- int main(void){return 0;}
abbrev pub ProgramsSmall : Type 0
ProgramsSmall = IsProgram 25 small_unit small_program

-- The pointer to the struct is older than the struct is complete, so it has the smaller number.
abbrev pub list_program : Program
list_program =
    record {
      types = kind_types ++ Pointer 9 ∷ Struct (4 ∷ 8 ∷ []) ∷ kind_pointers ++ Pointer 8 ∷ [];
      pointers = 10 ∷ 11 ∷ 12 ∷ 13 ∷ 14 ∷ 15 ∷ 16 ∷ 17 ∷ 18 ∷ 8 ∷ [];
      globals = record { ty = 9; fills = (0, Constant (pos 1)) ∷ (1, Address 0 0) ∷ [] } ∷ [];
      functions = returns (read 4 (member 0 (pointee (read 8 (member 1 (global 0)))))) 14 ∷ [];
      main = 0;
    }

-- what the globals of a text begin with
abbrev pub BeginsWith : (end : ℕ) → TranslationUnit → List (List (ℕ × Fill)) → Type 0
BeginsWith end u fills =
    and_then (checked_unit end u) (λ p. Ok (map (λ (g : GlobalVariable). g.fills) p.globals)) ≡ Ok fills

-- struct p{int a;struct p*b;}k={1,&k};int main(void){return k.b->a;}
abbrev pub ProgramsList : Type 0
ProgramsList =
    IsProgram 66 ((tree.declaration (declaration None (tree.structure 0 (Some (word 7 (codes "p"))) (fields
    ((tree.field (tree.kind 9 (key.Int ∷ [])) (declarators ((tree.declarator 13 [] (tree.named (word 13
    (codes "a"))) (brackets [])) ∷ []))) ∷ (tree.field (tree.tag 15 Struct (word 22 (codes "p")) (consts 0
    0)) (declarators ((tree.declarator 23 (0 ∷ []) (tree.named (word 24 (codes "b"))) (brackets [])) ∷ [])))
    ∷ [])) (consts 0 0)) ((entry (tree.declarator 27 [] (tree.named (word 27 (codes "k"))) (brackets []))
    (Some (tree.braced 29 (initials ((tree.value (tree.whole (word 30 (codes "1")))) ∷ (tree.value
    (tree.prefixed 32 prefix.Address (tree.name (word 33 (codes "k"))))) ∷ [])) false))) ∷ []))) ∷
    (tree.function (definition None (tree.kind 36 (key.Int ∷ [])) (tree.declarator 40 [] (tree.named (word 40
    (codes "main"))) (brackets (tree.void_list ∷ []))) [] (stmts ((tree.give 51 (tree.present (tree.suffixed
    (tree.name (word 58 (codes "k"))) (suffixes ((tree.member (word 60 (codes "b"))) ∷ (tree.arrow (word 63
    (codes "a"))) ∷ []))))) ∷ [])))) ∷ []) list_program

-- char c[]="a\377";int k[2][2]={{1},2,3},*q=&k[1][1];struct{int*a[2];short b;}s={&k[0][1],0,65535u};int main(void){return 0;}
abbrev pub ProgramsFills : Type 0
ProgramsFills =
    BeginsWith 123 ((tree.declaration (declaration None (tree.kind 0 (key.Char ∷ [])) ((entry
    (tree.declarator 5 [] (tree.named (word 5 (codes "c"))) (brackets ((tree.count tree.absent) ∷ []))) (Some
    (tree.value (tree.texts (word 9 (34 ∷ 97 ∷ 92 ∷ 51 ∷ 55 ∷ 55 ∷ 34 ∷ [])) [])))) ∷ []))) ∷
    (tree.declaration (declaration None (tree.kind 17 (key.Int ∷ [])) ((entry (tree.declarator 21 []
    (tree.named (word 21 (codes "k"))) (brackets ((tree.count (tree.present (tree.whole (word 23 (codes
    "2"))))) ∷ (tree.count (tree.present (tree.whole (word 26 (codes "2"))))) ∷ []))) (Some (tree.braced 29
    (initials ((tree.braced 30 (initials ((tree.value (tree.whole (word 31 (codes "1")))) ∷ [])) false) ∷
    (tree.value (tree.whole (word 34 (codes "2")))) ∷ (tree.value (tree.whole (word 36 (codes "3")))) ∷ []))
    false))) ∷ (entry (tree.declarator 39 (0 ∷ []) (tree.named (word 40 (codes "q"))) (brackets [])) (Some
    (tree.value (tree.prefixed 42 prefix.Address (tree.suffixed (tree.name (word 43 (codes "k"))) (suffixes
    ((tree.index (tree.whole (word 45 (codes "1")))) ∷ (tree.index (tree.whole (word 48 (codes "1")))) ∷
    []))))))) ∷ []))) ∷ (tree.declaration (declaration None (tree.structure 51 None (fields ((tree.field
    (tree.kind 58 (key.Int ∷ [])) (declarators ((tree.declarator 61 (0 ∷ []) (tree.named (word 62 (codes
    "a"))) (brackets ((tree.count (tree.present (tree.whole (word 64 (codes "2"))))) ∷ []))) ∷ []))) ∷
    (tree.field (tree.kind 67 (key.Short ∷ [])) (declarators ((tree.declarator 73 [] (tree.named (word 73
    (codes "b"))) (brackets [])) ∷ []))) ∷ [])) (consts 0 0)) ((entry (tree.declarator 76 [] (tree.named
    (word 76 (codes "s"))) (brackets [])) (Some (tree.braced 78 (initials ((tree.value (tree.prefixed 79
    prefix.Address (tree.suffixed (tree.name (word 80 (codes "k"))) (suffixes ((tree.index (tree.whole (word
    82 (codes "0")))) ∷ (tree.index (tree.whole (word 85 (codes "1")))) ∷ []))))) ∷ (tree.value (tree.whole
    (word 88 (codes "0")))) ∷ (tree.value (tree.whole (word 90 (codes "65535u")))) ∷ [])) false))) ∷ []))) ∷
    (tree.function (definition None (tree.kind 98 (key.Int ∷ [])) (tree.declarator 102 [] (tree.named (word
    102 (codes "main"))) (brackets (tree.void_list ∷ []))) [] (stmts ((tree.give 113 (tree.present
    (tree.whole (word 120 (codes "0"))))) ∷ [])))) ∷ [])
    (((0, Constant (pos 97)) ∷ (1, Constant (negsuc 0)) ∷ [])
    ∷ ((0, Constant (pos 1)) ∷ (2, Constant (pos 2)) ∷ (3, Constant (pos 3)) ∷ [])
    ∷ ((0, Address 1 3) ∷ [])
    ∷ ((0, Address 1 1) ∷ (1, Null) ∷ (2, Constant (negsuc 0)) ∷ []) ∷ [])
