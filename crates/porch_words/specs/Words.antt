-- The words of the command line: a command, and then its options, each as `--name value` or
-- `--name=value`, in any order, each at most once; or `drill` and its number.
use Rattle.std.specs.Global.{Global}
use Rattle.std.specs.Prelude.{ℕ, ◌≡◌, ◌⊎◌, IsTrue, List, [], ◌∷◌, ◌++◌, map, codes, String, string_bytes}
use Rattle.porch_words.specs.declared.read.TheConstants.{MOST_NUMBER}
use Rattle.porch_words.specs.declared.command.Command.{Command}
use Rattle.porch_words.specs.Spelling.{command_name, drill_name, option_name, has_option, IsNumber}
use Rattle.porch_words.specs.Orders.{Setting, key_of, IsValue, Given, nothing, with_setting, is_new, Order, drill, order_with}

-- the words, each as its bytes
abbrev pub texts : List (String Global) → List (List ℕ)
texts = map (λ word. string_bytes word)

-- These words begin with the option, and others stand behind it.
pub record BeginWith (s : Setting) (words rest : List (List ℕ)) : Type 0 where
  pub value : List ℕ
  pub fits : IsValue value s
  pub spelled :
      (words ≡ option_name (key_of s) ∷ value ∷ rest)
      ⊎ (words ≡ (option_name (key_of s) ++ codes "=" ++ value) ∷ rest)

-- The words are these options of a command, none of which was given before.
abbrev pub AreOptions : Command → Given → List Setting → List (List ℕ) → Given → Type 0
AreOptions c before [] words given = (words ≡ []) × (given ≡ before)
AreOptions c before (s ∷ ss) words given =
    IsTrue (has_option c (key_of s))
    × IsTrue (is_new before (key_of s))
    × ((rest : List (List ℕ)) × BeginWith s words rest
    × AreOptions c (with_setting before s) ss rest given)

-- A command with its options.
pub record IsCommand (words : List (List ℕ)) (order : Order) : Type 0 where
  pub command : Command
  pub options : List (List ℕ)
  pub settings : List Setting
  pub given : Given
  pub spelled : words ≡ command_name command ∷ options
  pub read : AreOptions command nothing settings options given
  pub ordered : order ≡ order_with command given

-- `drill` and its number.
pub record IsDrill (words : List (List ℕ)) (order : Order) : Type 0 where
  pub number : ℕ
  pub word : List ℕ
  pub spelled : words ≡ drill_name ∷ word ∷ []
  pub fits : IsNumber 0 MOST_NUMBER word number
  pub ordered : order ≡ drill number

-- These words order this.
abbrev pub IsOrder : List (List ℕ) → Order → Type 0
IsOrder words order = IsCommand words order ⊎ IsDrill words order
