-- The text of a flat program: two head lines, then one form a line. Each form is a word and a list of arguments.
use Rattle.std.specs.Prelude.{ℕ, ℤ, List, [], ◌∷◌, ◌++◌, map, codes, Option, Some, None}
use Rattle.std.specs.List.{flat_map}
use Rattle.std.specs.Fmt.{decimal, signed_decimal}
use Rattle.porch_types.specs.Kinds.{kind_number}
use Rattle.porch_types.specs.declared.shapes.Ty.{Ty}
use Rattle.porch_types.specs.declared.shapes.Ty.TheVariants.{Whole, Pointer, Array, Struct}
use Rattle.porch_flat.specs.declared.flat.Init.{Init}
use Rattle.porch_flat.specs.declared.flat.Init.TheVariants.{Value, Address}
use Rattle.porch_flat.specs.declared.flat.Operand.{Operand}
use Rattle.porch_flat.specs.declared.flat.Operand.TheVariants.{Var, Constant}
use Rattle.porch_flat.specs.declared.whole.Command.{Command}
use Rattle.porch_flat.specs.declared.whole.Command.TheVariants as command
use Rattle.porch_flat.specs.declared.whole.Flat.{Flat}
use Rattle.porch_flat.specs.whole.Lines.{Line, type_line, global_line, init_line, function_line, var_line, begin_line, command_line, end_line, lines_of}
use Rattle.porch_flat_line.specs.declared.word.Word.{Word}
use Rattle.porch_flat_line.specs.declared.word.Word.TheVariants as word
use Rattle.porch_flat_line.specs.Words.{word_text}

-- an argument of a form
pub data Argument : Type 0 where
  -- a number of 32 bits
  number : ℕ → Argument
  variable : ℕ → Argument
  -- a number of 128 bits with a sign
  constant : ℤ → Argument
  -- no variable for the result
  nowhere : Argument
  -- no type of the result
  void : Argument
  name : List ℕ → Argument

abbrev pub argument_text : Argument → List ℕ
argument_text (number n) = decimal n
argument_text (variable v) = codes "v" ++ decimal v
argument_text (constant z) = signed_decimal z
argument_text nowhere = codes "_"
argument_text void = codes "void"
argument_text (name bytes) = bytes

-- each further argument behind a comma and one space
abbrev pub further_text : List Argument → List ℕ
further_text [] = []
further_text (a ∷ more) = codes ", " ++ (argument_text a ++ further_text more)

abbrev pub arguments_text : List Argument → List ℕ
arguments_text [] = []
arguments_text (a ∷ more) = argument_text a ++ further_text more

-- a form: its word and its arguments
pub record Row : Type 0 where
  pub word : Word
  pub arguments : List Argument

abbrev pub row : Word → List Argument → Row
row w arguments = record { word = w; arguments = arguments }

-- a line: the form as a call, a semicolon and a newline
abbrev pub row_text : Row → List ℕ
row_text r = word_text r.word ++ (codes "(" ++ (arguments_text r.arguments ++ codes ");\n"))

abbrev pub operand : Operand → Argument
operand (Var v) = variable v
operand (Constant z) = constant z

abbrev pub operand_list : Option Operand → List Argument
operand_list None = []
operand_list (Some o) = operand o ∷ []

abbrev pub target : Option ℕ → Argument
target None = nowhere
target (Some v) = variable v

abbrev pub result_type : Option ℕ → Argument
result_type None = void
result_type (Some ty) = number ty

abbrev pub command_row : Command → Row
command_row (command.Move v o) = row word.Move (variable v ∷ operand o ∷ [])
command_row (command.Cast v w) = row word.Cast (variable v ∷ variable w ∷ [])
command_row (command.Add v a b) = row word.Add (variable v ∷ operand a ∷ operand b ∷ [])
command_row (command.Sub v a b) = row word.Sub (variable v ∷ operand a ∷ operand b ∷ [])
command_row (command.Mul v a b) = row word.Mul (variable v ∷ operand a ∷ operand b ∷ [])
command_row (command.Div v a b) = row word.Div (variable v ∷ operand a ∷ operand b ∷ [])
command_row (command.Rem v a b) = row word.Rem (variable v ∷ operand a ∷ operand b ∷ [])
command_row (command.And v a b) = row word.And (variable v ∷ operand a ∷ operand b ∷ [])
command_row (command.Or v a b) = row word.Or (variable v ∷ operand a ∷ operand b ∷ [])
command_row (command.Xor v a b) = row word.Xor (variable v ∷ operand a ∷ operand b ∷ [])
command_row (command.Shl v a b) = row word.Shl (variable v ∷ operand a ∷ operand b ∷ [])
command_row (command.Shr v a b) = row word.Shr (variable v ∷ operand a ∷ operand b ∷ [])
command_row (command.Not v o) = row word.Not (variable v ∷ operand o ∷ [])
command_row (command.Lt v a b) = row word.Lt (variable v ∷ operand a ∷ operand b ∷ [])
command_row (command.Le v a b) = row word.Le (variable v ∷ operand a ∷ operand b ∷ [])
command_row (command.Eq v a b) = row word.Eq (variable v ∷ operand a ∷ operand b ∷ [])
command_row (command.Ne v a b) = row word.Ne (variable v ∷ operand a ∷ operand b ∷ [])
command_row (command.Local v w leaf) = row word.Local (variable v ∷ variable w ∷ number leaf ∷ [])
command_row (command.GlobalA v g leaf) = row word.GlobalA (variable v ∷ number g ∷ number leaf ∷ [])
command_row (command.Member v p leaf) = row word.Member (variable v ∷ variable p ∷ number leaf ∷ [])
command_row (command.Step v p o) = row word.Step (variable v ∷ variable p ∷ operand o ∷ [])
command_row (command.Back v p o) = row word.Back (variable v ∷ variable p ∷ operand o ∷ [])
command_row (command.Diff v p q) = row word.Diff (variable v ∷ variable p ∷ variable q ∷ [])
command_row (command.Load v p) = row word.Load (variable v ∷ variable p ∷ [])
command_row (command.Store p o) = row word.Store (variable p ∷ operand o ∷ [])
command_row (command.Copy p q) = row word.Copy (variable p ∷ variable q ∷ [])
command_row (command.Kill v) = row word.Kill (variable v ∷ [])
command_row (command.Alloc v o) = row word.Alloc (variable v ∷ operand o ∷ [])
command_row (command.Calloc v o) = row word.Calloc (variable v ∷ operand o ∷ [])
command_row (command.Free p) = row word.Free (variable p ∷ [])
command_row (command.Char v o) = row word.Char (variable v ∷ operand o ∷ [])
command_row (command.Dec v o) = row word.Dec (variable v ∷ operand o ∷ [])
command_row (command.Hex v o) = row word.Hex (variable v ∷ operand o ∷ [])
command_row (command.Text v p) = row word.Text (variable v ∷ variable p ∷ [])
command_row (command.Label n) = row word.Label (number n ∷ [])
command_row (command.Jump n) = row word.Jump (number n ∷ [])
command_row (command.If o n) = row word.If (operand o ∷ number n ∷ [])
command_row command.Turn = row word.Turn []
command_row (command.Call r f os) = row word.Call (target r ∷ number f ∷ map operand os)
command_row (command.Return o) = row word.Return (operand_list o)
command_row command.Checkpoint = row word.Checkpoint []
command_row (command.Restore vs) = row word.Restore (map variable vs)
command_row (command.Table k n) = row word.Table (number k ∷ number n ∷ [])
command_row (command.Saved k n) = row word.Saved (number k ∷ number n ∷ [])
command_row (command.Push vs) = row word.Push (map variable vs)

-- a kind from number 8 on is no type of a flat program; it is written as a pointer to the kind
abbrev pub type_row : ℕ → Ty → Row
type_row n (Whole kind) = row word.Pointer (number n ∷ number (kind_number kind) ∷ [])
type_row n (Pointer to) = row word.Pointer (number n ∷ number to ∷ [])
type_row n (Array of count) = row word.Array (number n ∷ number of ∷ number count ∷ [])
type_row n (Struct members) = row word.Struct (number n ∷ map number members)

abbrev pub init_row : ℕ → Init → Row
init_row g (Value leaf z) = row word.Init (number g ∷ number leaf ∷ constant z ∷ [])
init_row g (Address leaf other place) = row word.InitA (number g ∷ number leaf ∷ number other ∷ number place ∷ [])

abbrev pub line_row : Line → Row
line_row (type_line n ty) = type_row n ty
line_row (global_line n g) = row word.Global (number n ∷ number g.ty ∷ [])
line_row (init_line n g place init) = init_row n init
line_row (function_line n f) =
    row word.Function (number n ∷ name f.name ∷ result_type f.result ∷ number f.params ∷ [])
line_row (var_line f n ty) = row word.Var (number n ∷ number ty ∷ [])
line_row begin_line = row word.Begin []
line_row (command_line f place c) = command_row c
line_row end_line = row word.End []

abbrev pub line_text : Line → List ℕ
line_text line = row_text (line_row line)

abbrev pub first_head : List ℕ
first_head = codes "/* porch flat text, version 1 */\n"

abbrev pub QUOTE : ℕ
QUOTE = 34

abbrev pub second_head : List ℕ
second_head = codes "#include " ++ (QUOTE ∷ (codes "porch.h" ++ (QUOTE ∷ codes "\n")))

abbrev pub Text : Flat → List ℕ
Text flat = first_head ++ (second_head ++ flat_map line_text (lines_of flat))
