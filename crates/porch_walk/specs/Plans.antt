-- In how many counted uses of the grammar a token lies, beside those of the part that takes it, and in how
-- many the parts lie that may come behind it. The parts are those of the walk, in its order.
use Rattle.std.specs.Prelude.{ℕ, ◌+◌, Bool, true, false, ◌&&◌, ◌||◌, if◌then◌else◌, List, [], ◌∷◌, ◌++◌, Option, Some, None}
use Rattle.porch_tree.specs.declared.word.Keyword.{Keyword}
use Rattle.porch_tree.specs.declared.word.Keyword.TheVariants as key
use Rattle.porch_tree.specs.declared.word.Mark.{Mark}
use Rattle.porch_tree.specs.declared.word.Mark.TheVariants as mark
use Rattle.porch_tree.specs.declared.word.Word.{Word}
use Rattle.porch_tree.specs.declared.word.Word.TheVariants as word
use Rattle.porch_tree.specs.declared.tree.TagSort.{TagSort}
use Rattle.porch_tree.specs.declared.tree.TagSort.TheVariants as tag_sort
use Rattle.porch_walk.specs.declared.symbol.Mode.{Mode}
use Rattle.porch_walk.specs.declared.symbol.Mode.TheVariants as mode
use Rattle.porch_walk.specs.declared.symbol.Naming.{Naming}
use Rattle.porch_walk.specs.declared.symbol.Naming.TheVariants as naming
use Rattle.porch_walk.specs.declared.symbol.Kinds.{Kinds}
use Rattle.porch_walk.specs.declared.symbol.Symbol.{Symbol}
use Rattle.porch_walk.specs.declared.symbol.Symbol.TheVariants.{Must, Operand, Open, Texts, Suffixes, Behind, Commas, Optional, Base, Kind, Consts, Tag, TagBody, Fields, MoreDeclarators, ConstantValue, Constants, Declarator, Pointer, Nameless, Brackets, Counts, Count, Parameters, Void, MoreParameters, Entries, Entry, MoreEntries, Initial, MoreInitials, NextInitial, FileEntries, FirstEntry, EndTypedef, Body, Statements, Statement, Else, Cases}
use Rattle.porch_walk.specs.Walk.{or_else, is, is_mark, is_key, is_infix, is_assigning, takes_type, may_name, may_lack, kinds_of}
use Rattle.porch_walk.specs.declared.level.Step.{Step}
use Rattle.porch_walk.specs.declared.level.Step.TheVariants.{Up, Keep}
use Rattle.porch_walk.specs.declared.level.Taken.{Taken}

-- What a part does with a word that it takes: how many uses deeper than the part the token lies, whether
-- it puts what is before it one use deeper, and the parts that may come behind it.
pub record Plan : Type 0 where
  pub taken : Taken
  pub steps : List Step

abbrev pub lies : ℕ → List Step → Plan
lies uses steps = record { taken = record { uses = uses; raises = false }; steps = steps }

abbrev pub took : ℕ → List Step → Option Plan
took uses steps = Some (lies uses steps)

-- The token puts what is before it one use deeper, from where this part's front stands.
abbrev pub raised : Option Plan → Option Plan
raised None = None
raised (Some p) = Some (record { taken = record { uses = p.taken.uses; raises = true }; steps = p.steps })

-- with these parts behind those of a plan
abbrev pub ahead : Option Plan → List Step → Option Plan
ahead None later = None
ahead (Some p) later = Some (record { taken = p.taken; steps = p.steps ++ later })

-- a part that begins here or later, so many uses deeper
abbrev pub up : ℕ → Step
up n = Up n

-- What words begin.

abbrev pub begins_operand_mark : Mark → Bool
begins_operand_mark mark.OpenParenthesis = true
begins_operand_mark mark.PlusPlus = true
begins_operand_mark mark.MinusMinus = true
begins_operand_mark mark.And = true
begins_operand_mark mark.Star = true
begins_operand_mark mark.Plus = true
begins_operand_mark mark.Minus = true
begins_operand_mark mark.Tilde = true
begins_operand_mark mark.Not = true
begins_operand_mark m = false

abbrev pub begins_operand : Word → Bool
begins_operand word.Name = true
begins_operand word.Whole = true
begins_operand word.Character = true
begins_operand word.Text = true
begins_operand (word.Key k) = is_key key.Sizeof (word.Key k)
begins_operand (word.Mark m) = begins_operand_mark m

abbrev pub begins_base_key : Keyword → Bool
begins_base_key key.Const = true
begins_base_key key.Void = true
begins_base_key key.Struct = true
begins_base_key key.Enum = true
begins_base_key key.Char = true
begins_base_key key.Short = true
begins_base_key key.Int = true
begins_base_key key.Long = true
begins_base_key key.Signed = true
begins_base_key key.Unsigned = true
begins_base_key k = false

-- `known`: whether the word is a name that is a typedef name
abbrev pub begins_base : Bool → Word → Bool
begins_base known (word.Key k) = begins_base_key k
begins_base known word.Name = known
begins_base known w = false

abbrev pub is_kind : Option Kinds → Bool
is_kind None = false
is_kind (Some k) = true

-- what is behind an operand that begins here, and one of which a parenthesis was read
abbrev pub rest : Mode → ℕ → List Step
rest mode.Assign d = up d ∷ []
rest mode.Cond d = up d ∷ []
rest m d = []

abbrev pub rest_kept : Mode → List Step
rest_kept mode.Assign = Keep ∷ []
rest_kept mode.Cond = Keep ∷ []
rest_kept m = []

-- Behind `sizeof` a type in parentheses counts no more than `sizeof` does.
abbrev pub opening : Mode → ℕ
opening mode.Size = 0
opening m = 1

-- A cast counts for its type and for its operand.
abbrev pub behind_type : Mode → List Step
behind_type mode.Assign = up 1 ∷ Keep ∷ []
behind_type mode.Cond = up 1 ∷ Keep ∷ []
behind_type mode.Size = []
behind_type m = up 1 ∷ []

-- The fields of a struct count from the first one on, and each declarator does.
abbrev pub contents : TagSort → Option Plan
contents tag_sort.Struct = took 0 (up 1 ∷ up 2 ∷ up 1 ∷ up 0 ∷ up 0 ∷ [])
contents tag_sort.Enum = took 0 (up 0 ∷ up 0 ∷ up 0 ∷ up 0 ∷ [])

-- A declarator in parentheses counts.
abbrev pub core_opened : Naming → ℕ → List Step
core_opened naming.May d = up d ∷ []
core_opened n d = up (d + 1) ∷ up d ∷ up d ∷ []

abbrev pub open_type : Mode → Option Plan
open_type m = took (opening m) (up (opening m) ∷ up (opening m) ∷ up (opening m) ∷ behind_type m)

-- The parenthesis behind `sizeof` shows only behind it that it begins a unary.
abbrev pub late : Mode → Option Plan → Option Plan
late mode.Size p = raised p
late m p = p

-- The expression in brackets is an expr; the arguments of a call are none.
abbrev pub suffix_mark : Mark → Option Plan
suffix_mark mark.OpenBracket = took 0 (up 1 ∷ up 1 ∷ up 0 ∷ up 0 ∷ [])
suffix_mark mark.OpenParenthesis = took 0 (up 0 ∷ up 0 ∷ up 0 ∷ [])
suffix_mark mark.Dot = took 0 (up 0 ∷ up 0 ∷ [])
suffix_mark mark.Arrow = took 0 (up 0 ∷ up 0 ∷ [])
suffix_mark mark.PlusPlus = took 0 (up 0 ∷ [])
suffix_mark mark.MinusMinus = took 0 (up 0 ∷ [])
suffix_mark m = None

abbrev pub suffix : Word → Option Plan
suffix (word.Mark m) = suffix_mark m
suffix v = None

-- A statement counts, and an expression in it, which is an expr; so does a block beside its statement.

abbrev pub statement_key : Keyword → Option Plan
statement_key key.If = took 1 (up 1 ∷ up 2 ∷ up 2 ∷ up 1 ∷ up 1 ∷ up 1 ∷ [])
statement_key key.While = took 1 (up 1 ∷ up 2 ∷ up 2 ∷ up 1 ∷ up 1 ∷ [])
statement_key key.Do = took 1 (up 1 ∷ up 1 ∷ up 1 ∷ up 2 ∷ up 2 ∷ up 1 ∷ up 1 ∷ [])
statement_key key.For = took 1 (up 1 ∷ up 2 ∷ up 1 ∷ up 2 ∷ up 1 ∷ up 2 ∷ up 1 ∷ up 1 ∷ [])
statement_key key.Switch = took 1 (up 1 ∷ up 2 ∷ up 2 ∷ up 1 ∷ up 1 ∷ up 1 ∷ up 1 ∷ [])
statement_key key.Break = took 1 (up 1 ∷ [])
statement_key key.Continue = took 1 (up 1 ∷ [])
statement_key key.Return = took 1 (up 2 ∷ up 1 ∷ [])
statement_key k = None

abbrev pub statement_word : Word → Option Plan
statement_word (word.Key k) = statement_key k
statement_word w =
    if is_mark mark.OpenBrace w then took 2 (up 2 ∷ up 2 ∷ [])
    else if is_mark mark.Semicolon w then took 1 [] else None

module _ (w : Word) where
  -- An operand is a unary or a cast, which counts.
  abbrev pub unary : Mode → ℕ → Option Plan
  unary m d =
      if is w word.Text then took (d + 1) (up (d + 1) ∷ up (d + 1) ∷ rest m d)
      else took (d + 1) (up (d + 1) ∷ rest m d)

  abbrev pub operand : Mode → ℕ → Option Plan
  operand m d = if is_mark mark.OpenParenthesis w then took (d + opening m) (up d ∷ []) else unary m d

  -- An expression in parentheses is an expr in a unary, both of which count.
  abbrev pub nested : Mode → Option Plan
  nested m = ahead (operand mode.Assign 2) (up 2 ∷ up 1 ∷ up 1 ∷ rest_kept m)

  abbrev pub opened : Bool → Mode → Option Plan
  opened known m = if takes_type m && begins_base known w then open_type m else late m (nested m)

  -- `?` and an operator that assigns count from the first token of the operand that they are behind.
  abbrev pub operators : Bool → Option Plan
  operators u =
      if is_infix w then took 0 (up 0 ∷ Keep ∷ [])
      else if is_mark mark.Question w then raised (took 1 (up 2 ∷ up 2 ∷ up 1 ∷ up 1 ∷ []))
      else if u && is_assigning w then raised (took 1 (up 1 ∷ [])) else None

  abbrev pub declarator : Naming → ℕ → Option Plan
  declarator n d =
      if is_mark mark.Star w then took d (up d ∷ [])
      else if may_name n && is w word.Name then took d (up d ∷ [])
      else if may_name n && is_mark mark.OpenParenthesis w then took d (core_opened n d)
      else if may_lack n && is_mark mark.OpenBracket w then took d (up d ∷ up d ∷ []) else None

  -- what a comma parts, or what closes it
  abbrev pub more_parameters : Option Plan
  more_parameters = if is_mark mark.Comma w then took 0 (up 0 ∷ up 1 ∷ up 0 ∷ []) else took 0 []

  abbrev pub nameless : Option Plan
  nameless =
      if is_mark mark.CloseParenthesis w then took 0 (up 0 ∷ [])
      else if is_key key.Void w then took 0 (up 0 ∷ up 0 ∷ [])
      else if begins_base false w then took 0 (up 0 ∷ up 1 ∷ up 0 ∷ up 0 ∷ [])
      else ahead (declarator naming.May 1) (up 0 ∷ up 0 ∷ [])

  abbrev pub parameters : Option Plan
  parameters =
      if is_mark mark.CloseParenthesis w then took 0 []
      else if is_key key.Void w then took 0 (up 0 ∷ []) else took 0 (up 0 ∷ up 1 ∷ up 0 ∷ [])

  abbrev pub behind_void : Option Plan
  behind_void =
      if is_mark mark.CloseParenthesis w then took 0 []
      else if is_key key.Const w then took 0 (up 0 ∷ up 1 ∷ up 0 ∷ [])
      else or_else (ahead (declarator naming.May 1) (up 0 ∷ [])) more_parameters

  abbrev pub count : Option Plan
  count =
      if is_mark mark.CloseBracket w then took 0 [] else ahead (operand mode.Cond 0) (up 0 ∷ [])

  -- each entry has a declarator, which counts
  abbrev pub entries : Option Plan
  entries =
      if is_mark mark.Semicolon w then took 0 [] else ahead (declarator naming.Must 1) (up 0 ∷ [])

  abbrev pub more_entries : Option Plan
  more_entries = if is_mark mark.Comma w then took 0 (up 1 ∷ up 0 ∷ []) else took 0 []

  abbrev pub entry : Option Plan
  entry = if is_mark mark.Equal w then took 0 (up 0 ∷ up 0 ∷ []) else more_entries

  -- an initialiser counts
  abbrev pub initial : Option Plan
  initial = if is_mark mark.OpenBrace w then took 1 (up 1 ∷ up 1 ∷ []) else operand mode.Assign 1

  abbrev pub expression : Option Plan
  expression =
      if begins_operand w then ahead (operand mode.Assign 2) (up 2 ∷ up 1 ∷ []) else None

  abbrev pub statement : Option Plan
  statement = or_else (statement_word w) expression

  -- where nothing may come but an item, or the end of a function's block
  abbrev pub item : Plan
  item =
      if is_mark mark.CloseBrace w then lies 1 []
      else if is_key key.Typedef w then lies 0 (up 0 ∷ up 1 ∷ up 0 ∷ []) else lies 0 (up 0 ∷ up 0 ∷ [])

  -- What a part does with the word; `None` where it is left out.
  abbrev pub plan : Bool → Symbol → Option Plan
  plan known (Must v) = took 0 []
  plan known (Operand m) = operand m 0
  plan known (Open m) = opened known m
  plan known Texts = if is w word.Text then took 0 (up 0 ∷ []) else None
  plan known Suffixes = suffix w
  plan known (Behind u) = operators u
  plan known Commas = if is_mark mark.Comma w then took 0 (up 0 ∷ up 0 ∷ []) else None
  plan known Optional = if begins_operand w then ahead (operand mode.Assign 0) (up 0 ∷ []) else None
  plan known Base = took 0 (up 0 ∷ [])
  plan known (Kind k) = if is_kind (kinds_of k w) then took 0 (up 0 ∷ []) else None
  plan known Consts = if is_key key.Const w then took 0 (up 0 ∷ []) else None
  plan known (Tag s) = if is_mark mark.OpenBrace w then contents s else took 0 (up 0 ∷ [])
  plan known (TagBody s) =
      if is_mark mark.OpenBrace w then contents s
      else if is_key key.Const w then took 0 (up 0 ∷ []) else None
  plan known Fields =
      if is_mark mark.CloseBrace w then took 0 [] else took 1 (up 1 ∷ up 2 ∷ up 1 ∷ up 0 ∷ [])
  plan known MoreDeclarators = if is_mark mark.Comma w then took 0 (up 1 ∷ up 0 ∷ []) else took 0 []
  plan known ConstantValue = if is_mark mark.Equal w then took 0 (up 0 ∷ []) else None
  plan known Constants = if is_mark mark.Comma w then took 0 (up 0 ∷ up 0 ∷ up 0 ∷ []) else took 0 []
  plan known (Declarator n) = declarator n 0
  plan known (Pointer n) = if is_key key.Const w then took 0 (up 0 ∷ []) else declarator n 0
  plan known Nameless = nameless
  plan known Brackets =
      if is_mark mark.OpenBracket w || is_mark mark.OpenParenthesis w then took 0 (up 0 ∷ up 0 ∷ [])
      else None
  plan known Counts = if is_mark mark.OpenBracket w then took 0 (up 0 ∷ up 0 ∷ []) else None
  plan known Count = count
  plan known Parameters = parameters
  plan known Void = behind_void
  plan known MoreParameters = more_parameters
  plan known Entries = entries
  plan known Entry = entry
  plan known MoreEntries = more_entries
  plan known Initial = initial
  plan known MoreInitials = if is_mark mark.Comma w then took 0 (up 0 ∷ []) else took 0 []
  plan known NextInitial = if is_mark mark.CloseBrace w then took 0 [] else ahead initial (up 0 ∷ [])
  plan known FileEntries = entries
  plan known FirstEntry = if is_mark mark.OpenBrace w then took 1 (up 1 ∷ []) else entry
  plan known EndTypedef = took 0 []
  plan known Body =
      if is_key key.Static w || begins_base known w then took 0 (up 0 ∷ up 0 ∷ up 0 ∷ [])
      else ahead statement (up 0 ∷ [])
  plan known Statements = ahead statement (up 0 ∷ [])
  plan known Statement = statement
  plan known Else = if is_key key.Else w then took 0 (up 0 ∷ []) else None
  plan known Cases =
      if is_key key.Case w then took 0 (up 0 ∷ up 0 ∷ up 0 ∷ [])
      else if is_key key.Default w then took 0 (up 0 ∷ up 0 ∷ []) else ahead statement (up 0 ∷ [])
