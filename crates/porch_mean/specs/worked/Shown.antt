-- What putchar, puts and printf show and give.
use Rattle.std.specs.Prelude.{ℕ, pos, negsuc, true, List, [], ◌∷◌, ◌++◌, codes}
use Rattle.porch_types.specs.declared.shapes.Kind.TheVariants.{Int, UInt, Long, ULong}
use Rattle.porch_values.specs.declared.acts.Act.TheVariants as act
use Rattle.porch_objects.specs.Meaning.{allocated, freed, Met}
use Rattle.porch_typed.specs.declared.typed.Conversion.TheVariants as conversion
use Rattle.porch_typed.specs.declared.typed.Fill.{Fill}
use Rattle.porch_typed.specs.declared.typed.Fill.TheVariants as fill
use Rattle.porch_typed.specs.Mirror.{Expression, Print, Program}
use Rattle.porch_typed.specs.Mirror as tree
use Rattle.porch_mean.specs.worked.Write.{both, prints, int, comma, evaluate, give, global, program, main_of, Means, Gives, Meets}

-- char *, and char[3]
abbrev pub TEXT_POINTER : ℕ
TEXT_POINTER = 12

abbrev pub LETTERS : ℕ
LETTERS = 13

-- return an expression, in a program with char t[3] and what its leaves begin with
abbrev pub giving : List (ℕ × Fill) → Expression → Program
giving letters e = program (global LETTERS letters ∷ []) [] (give e ∷ []) []

abbrev pub letter : ℕ → ℕ → ℕ × Fill
letter leaf byte = (leaf, fill.Constant (pos byte))

abbrev pub ab : List (ℕ × Fill)
ab = letter 0 97 ∷ letter 1 98 ∷ []

abbrev pub abc : List (ℕ × Fill)
abc = letter 0 97 ∷ letter 1 98 ∷ letter 2 99 ∷ []

abbrev pub t : Expression
t = tree.first TEXT_POINTER (tree.global 0)

abbrev pub minus_one : Expression
minus_one = tree.constant Int (negsuc 0)

-- printf("%d %u %x %ld %lu %c%s%%",-5,-1,-1,-2147483647L,4294967295ul,65,"z")
abbrev pub each_conversion : Expression
each_conversion =
    tree.print
    (prints
    (tree.number conversion.Decimal (tree.constant Int (negsuc 4)) ∷ tree.bytes (codes " ")
    ∷ tree.number conversion.Unsigned (tree.conversion UInt minus_one) ∷ tree.bytes (codes " ")
    ∷ tree.number conversion.Hexadecimal (tree.conversion UInt minus_one) ∷ tree.bytes (codes " ")
    ∷ tree.number conversion.Long (tree.constant Long (negsuc 2147483646)) ∷ tree.bytes (codes " ")
    ∷ tree.number conversion.UnsignedLong (tree.constant ULong (pos 4294967295)) ∷ tree.bytes (codes " ")
    ∷ tree.number conversion.Character (int 65) ∷ tree.literal (codes "z") ∷ tree.bytes (codes "%") ∷ []))

abbrev pub ShowsEachConversion : Type 0
ShowsEachConversion = Gives (giving [] each_conversion) 9 (codes "-5 4294967295 ffffffff -2147483647 4294967295 Az%") 1 (pos 49)

-- putchar(511) and putchar(-1)
abbrev pub ShowsTheLowByte : Type 0
ShowsTheLowByte =
    Gives (giving [] (tree.put_character (int 511))) 9 (255 ∷ []) 1 (pos 255)
    × Gives (giving [] (tree.put_character minus_one)) 9 (255 ∷ []) 1 (pos 255)

-- puts(t), where t is "ab", and puts("ab\0cd")
abbrev pub ShowsALine : Type 0
ShowsALine =
    Gives (giving ab (tree.put_text t)) 9 (codes "ab" ++ 10 ∷ []) 1 (pos 3)
    × Gives (giving [] (tree.put_literal (codes "ab" ++ 0 ∷ codes "cd"))) 9 (codes "ab" ++ 10 ∷ []) 1 (pos 3)

-- printf("a\0b%s","x\0y"): a byte 0 of the format is shown, and ends an argument
abbrev pub ShowsZeros : Type 0
ShowsZeros =
    Gives (giving [] (tree.print (prints (tree.bytes (97 ∷ 0 ∷ 98 ∷ []) ∷ tree.literal (120 ∷ 0 ∷ 121 ∷ []) ∷ [])))) 9
    (97 ∷ 0 ∷ 98 ∷ 120 ∷ []) 1 (pos 4)

-- printf("<%s>",t), where t is "ab", and where it is 'a','b','c' without an end
abbrev pub text_in_brackets : Expression
text_in_brackets = tree.print (prints (tree.bytes (codes "<") ∷ tree.text t ∷ tree.bytes (codes ">") ∷ []))

abbrev pub ShowsNothingOfABadText : Type 0
ShowsNothingOfABadText =
    Gives (giving ab text_in_brackets) 9 (codes "<ab>") 1 (pos 4) × Meets (giving abc text_in_brackets) 9 (codes "<") 1 act.Access

-- printf("<%d>",putchar('x')): arguments come before the output
abbrev pub ArgumentsComeFirst : Type 0
ArgumentsComeFirst =
    Gives
    (giving []
    (tree.print
    (prints
    (tree.bytes (codes "<") ∷ tree.number conversion.Decimal (tree.put_character (int 120)) ∷ tree.bytes (codes ">") ∷ []))))
    9 (codes "x<120>") 1 (pos 5)

-- char *p=calloc(2,sizeof(char)); printf("a%s%d",p,(free(p),1));: the held pointer is used again before the first byte
abbrev pub UsesArgumentsAgain : Type 0
UsesArgumentsAgain =
    let p : Expression = tree.read TEXT_POINTER (tree.variable 0) in
    Means
    (main_of [] (TEXT_POINTER ∷ [])
    (tree.declare 0 (tree.value (tree.allocate TEXT_POINTER true (int 2)))
    ∷ evaluate
    (tree.print (prints (tree.bytes (codes "a") ∷ tree.text p ∷ tree.number conversion.Decimal (comma (tree.release p) (int 1)) ∷ []))) ∷ []))
    both 9 [] (allocated 2 1 ∷ freed ∷ []) 1 (Met act.Indeterminate)
