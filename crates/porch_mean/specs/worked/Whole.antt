-- A whole program: calls with pointers into their callers, blocks in a list, a checkpoint in the innermost call, and output.
--
--   struct node { char c; long v[3]; struct node *next; };
--   struct node *head;
--   int f0(int x, long *out) { struct node *p = malloc(sizeof(struct node));
--   p->c = x % 26 + 'a'; p->v[0] = x; p->v[1] = *out; p->v[2] = 0;
--   p->next = head; head = p; *out = *out + x; checkpoint(); putchar(p->c); return 1; }
--   int f1(int x, long *out) { long mine = 1; int n = f0(x + 1, &mine); *out = *out + mine; return n + 1; }
--   int main(void) { long sum = 0; int r = 0;
--   while (r < 2) { int n = f1(r, &sum); r = r + 1; }
--   printf("\n%ld\n", sum); return 0; }
use Rattle.std.specs.Prelude.{ℕ, pos, false, List, [], ◌∷◌, ◌++◌, codes}
use Rattle.porch_types.specs.declared.shapes.Kind.TheVariants.{Char, Int, Long}
use Rattle.porch_types.specs.declared.shapes.Ty.{Ty}
use Rattle.porch_types.specs.declared.shapes.Ty.TheVariants.{Pointer, Array, Struct}
use Rattle.porch_types.specs.Leaves.{kind_types}
use Rattle.porch_values.specs.declared.acts.Op.TheVariants.{Add, Rem}
use Rattle.porch_objects.specs.Meaning.{reached, allocated, Ended}
use Rattle.porch_typed.specs.declared.typed.Conversion.TheVariants as conversion
use Rattle.porch_typed.specs.declared.typed.Operator.TheVariants as operator
use Rattle.porch_typed.specs.Mirror.{Expression, Place, Statement, Function, Program}
use Rattle.porch_typed.specs.Mirror as tree
use Rattle.porch_mean.specs.worked.Write.{both, INT, LONG, int, long, local, join, combine, call, less, block, prints, evaluate, set, give, declare, function, global, Means}

abbrev pub list_types : List Ty
list_types =
    kind_types ++
    Array LONG 3  -- 8: long[3]
    ∷ Pointer 10  -- 9: struct node *
    ∷ Struct (0 ∷ 8 ∷ 9 ∷ [])  -- 10: struct node
    ∷ Pointer LONG  -- 11: long *
    ∷ []

abbrev pub NODE_POINTER : ℕ
NODE_POINTER = 9

abbrev pub LONG_POINTER : ℕ
LONG_POINTER = 11

abbrev pub head : Place
head = tree.global 0

-- `*out`, where out is variable 1
abbrev pub out : Place
out = tree.pointee (tree.read LONG_POINTER (tree.variable 1))

-- a member of `*p`, where p is variable 2, and `p->v[i]`
abbrev pub member : ℕ → Place
member leaf = tree.member leaf (tree.pointee (tree.read NODE_POINTER (tree.variable 2)))

abbrev pub number : ℕ → Place
number i = tree.pointee (join (tree.first LONG_POINTER (member 1)) (operator.Forward LONG_POINTER) (int i))

abbrev pub store : ℕ → Place → Expression → Statement
store ty place e = evaluate (tree.assign ty place e)

-- *out = *out + e
abbrev pub add_to_out : Expression → Statement
add_to_out e = store LONG out (join (tree.read LONG out) (operator.Arithmetic Add Long) e)

abbrev pub f0 : Function
f0 =
    function 2 (INT ∷ LONG_POINTER ∷ NODE_POINTER ∷ [])
    (tree.declare 2 (tree.value (tree.allocate NODE_POINTER false (int 1)))
    ∷ store 0 (member 0) (tree.conversion Char (combine Add (combine Rem (local 0) (int 26)) (int 97)))
    ∷ store LONG (number 0) (tree.conversion Long (local 0)) ∷ store LONG (number 1) (tree.read LONG out) ∷ store LONG (number 2) (long 0)
    ∷ store NODE_POINTER (member 4) (tree.read NODE_POINTER head) ∷ store NODE_POINTER head (tree.read NODE_POINTER (tree.variable 2))
    ∷ add_to_out (local 0) ∷ evaluate tree.checkpoint ∷ evaluate (tree.put_character (tree.conversion Int (tree.read 0 (member 0))))
    ∷ give (int 1) ∷ [])

abbrev pub f1 : Function
f1 =
    function 2 (INT ∷ LONG_POINTER ∷ LONG ∷ INT ∷ [])
    (tree.declare 2 (tree.value (long 1))
    ∷ declare 3 (call 1 (combine Add (local 0) (int 1) ∷ tree.address LONG_POINTER (tree.variable 2) ∷ []))
    ∷ add_to_out (tree.read LONG (tree.variable 2)) ∷ give (combine Add (local 3) (int 1)) ∷ [])

abbrev pub main : Function
main =
    function 0 (LONG ∷ INT ∷ INT ∷ [])
    (tree.declare 0 (tree.value (long 0)) ∷ declare 1 (int 0)
    ∷ tree.repeat_while (less (local 1) (int 2))
    (block
    (declare 2 (call 2 (local 1 ∷ tree.address LONG_POINTER (tree.variable 0) ∷ []))
    ∷ set 1 (combine Add (local 1) (int 1)) ∷ []))
    ∷ evaluate
    (tree.print
    (prints (tree.bytes (10 ∷ []) ∷ tree.number conversion.Long (tree.read LONG (tree.variable 0)) ∷ tree.bytes (10 ∷ []) ∷ [])))
    ∷ give (int 0) ∷ [])

abbrev pub whole_program : Program
whole_program =
    record { types = list_types; pointers = []; globals = global NODE_POINTER [] ∷ []; functions = main ∷ f0 ∷ f1 ∷ []; main = 0 }

abbrev pub WholeProgramRuns : Type 0
WholeProgramRuns =
    Means whole_program both 9 (codes "bc" ++ 10 ∷ 53 ∷ 10 ∷ [])
    (allocated 1 5 ∷ reached 4 0 ∷ allocated 1 5 ∷ reached 7 1 ∷ []) 7 (Ended (pos 0))
