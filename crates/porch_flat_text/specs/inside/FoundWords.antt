-- The word that bytes are, found by their number and then one by one.
use Rattle.std.specs.Prelude.{ℕ, ◌==◌, if◌then◌else◌, List, length, codes, Option, Some, None}
use Rattle.std.specs.Str.{bytes_eq}
use Rattle.porch_flat_line.specs.declared.word.Word.{Word}
use Rattle.porch_flat_line.specs.declared.word.Word.TheVariants as word

abbrev pub word_of_two : List ℕ → Option Word
word_of_two name =
    if bytes_eq name (codes "OR") then Some word.Or
    else if bytes_eq name (codes "LT") then Some word.Lt
    else if bytes_eq name (codes "LE") then Some word.Le
    else if bytes_eq name (codes "EQ") then Some word.Eq
    else if bytes_eq name (codes "NE") then Some word.Ne
    else if bytes_eq name (codes "IF") then Some word.If
    else None

abbrev pub word_of_three : List ℕ → Option Word
word_of_three name =
    if bytes_eq name (codes "ADD") then Some word.Add
    else if bytes_eq name (codes "SUB") then Some word.Sub
    else if bytes_eq name (codes "MUL") then Some word.Mul
    else if bytes_eq name (codes "DIV") then Some word.Div
    else if bytes_eq name (codes "REM") then Some word.Rem
    else if bytes_eq name (codes "AND") then Some word.And
    else if bytes_eq name (codes "XOR") then Some word.Xor
    else if bytes_eq name (codes "SHL") then Some word.Shl
    else if bytes_eq name (codes "SHR") then Some word.Shr
    else if bytes_eq name (codes "NOT") then Some word.Not
    else if bytes_eq name (codes "DEC") then Some word.Dec
    else if bytes_eq name (codes "HEX") then Some word.Hex
    else if bytes_eq name (codes "VAR") then Some word.Var
    else if bytes_eq name (codes "END") then Some word.End
    else None

abbrev pub word_of_four : List ℕ → Option Word
word_of_four name =
    if bytes_eq name (codes "MOVE") then Some word.Move
    else if bytes_eq name (codes "CAST") then Some word.Cast
    else if bytes_eq name (codes "STEP") then Some word.Step
    else if bytes_eq name (codes "BACK") then Some word.Back
    else if bytes_eq name (codes "DIFF") then Some word.Diff
    else if bytes_eq name (codes "LOAD") then Some word.Load
    else if bytes_eq name (codes "COPY") then Some word.Copy
    else if bytes_eq name (codes "KILL") then Some word.Kill
    else if bytes_eq name (codes "FREE") then Some word.Free
    else if bytes_eq name (codes "CHAR") then Some word.Char
    else if bytes_eq name (codes "TEXT") then Some word.Text
    else if bytes_eq name (codes "JUMP") then Some word.Jump
    else if bytes_eq name (codes "TURN") then Some word.Turn
    else if bytes_eq name (codes "CALL") then Some word.Call
    else if bytes_eq name (codes "PUSH") then Some word.Push
    else if bytes_eq name (codes "INIT") then Some word.Init
    else None

abbrev pub word_of_five : List ℕ → Option Word
word_of_five name =
    if bytes_eq name (codes "LOCAL") then Some word.Local
    else if bytes_eq name (codes "STORE") then Some word.Store
    else if bytes_eq name (codes "ALLOC") then Some word.Alloc
    else if bytes_eq name (codes "LABEL") then Some word.Label
    else if bytes_eq name (codes "TABLE") then Some word.Table
    else if bytes_eq name (codes "SAVED") then Some word.Saved
    else if bytes_eq name (codes "ARRAY") then Some word.Array
    else if bytes_eq name (codes "BEGIN") then Some word.Begin
    else if bytes_eq name (codes "INITA") then Some word.InitA
    else None

abbrev pub word_of_six : List ℕ → Option Word
word_of_six name =
    if bytes_eq name (codes "MEMBER") then Some word.Member
    else if bytes_eq name (codes "CALLOC") then Some word.Calloc
    else if bytes_eq name (codes "RETURN") then Some word.Return
    else if bytes_eq name (codes "STRUCT") then Some word.Struct
    else if bytes_eq name (codes "GLOBAL") then Some word.Global
    else None

abbrev pub word_of_seven : List ℕ → Option Word
word_of_seven name =
    if bytes_eq name (codes "GLOBALA") then Some word.GlobalA
    else if bytes_eq name (codes "RESTORE") then Some word.Restore
    else if bytes_eq name (codes "POINTER") then Some word.Pointer
    else None

abbrev pub word_of_eight : List ℕ → Option Word
word_of_eight name =
    if bytes_eq name (codes "FUNCTION") then Some word.Function
    else None

abbrev pub word_of_ten : List ℕ → Option Word
word_of_ten name =
    if bytes_eq name (codes "CHECKPOINT") then Some word.Checkpoint
    else None

abbrev pub word_from : List ℕ → Option Word
word_from name =
    if length name == 2 then word_of_two name
    else if length name == 3 then word_of_three name
    else if length name == 4 then word_of_four name
    else if length name == 5 then word_of_five name
    else if length name == 6 then word_of_six name
    else if length name == 7 then word_of_seven name
    else if length name == 8 then word_of_eight name
    else if length name == 10 then word_of_ten name
    else None
