-- Commands, options and numbers, as they are spelled. A word is the list of its bytes.
use Rattle.std.specs.Prelude.{ℕ, ◌≡◌, ◌≤◌, ◌+◌, ◌-◌, ◌*◌, nat_le, ◌&&◌, ◌||◌, ◌==◌, Bool, true, false, IsTrue, List, fold, length, codes}
use Rattle.std.specs.List.{list_all}
use Rattle.porch_session.specs.Limits.{IsWithin}
use Rattle.porch_words.specs.declared.value.TheConstants.{MOST_DIGITS, MOST_NAME}
use Rattle.porch_words.specs.declared.command.Command.{Command}
use Rattle.porch_words.specs.declared.command.Command.TheVariants.{Exec, Compile, Start, Resume, Clear, Vet, Show}
use Rattle.porch_words.specs.declared.option.Key.{Key}
use Rattle.porch_words.specs.declared.option.Key.TheVariants.{Layout, Every, Turns, Stack, Heap, Widths}

abbrev pub command_name : Command → List ℕ
command_name Exec = codes "exec"
command_name Compile = codes "compile"
command_name Start = codes "start"
command_name Resume = codes "resume"
command_name Clear = codes "clear"
command_name Vet = codes "vet"
command_name Show = codes "show"

abbrev pub drill_name : List ℕ
drill_name = codes "drill"

abbrev pub option_name : Key → List ℕ
option_name Layout = codes "--layout"
option_name Every = codes "--every"
option_name Turns = codes "--turns"
option_name Stack = codes "--stack"
option_name Heap = codes "--heap"
option_name Widths = codes "--widths"

-- The options that a command has.

-- start and resume
abbrev pub is_session : Command → Bool
is_session Start = true
is_session Resume = true
is_session c = false

-- and exec
abbrev pub is_run : Command → Bool
is_run Exec = true
is_run c = is_session c

abbrev pub is_vet : Command → Bool
is_vet Vet = true
is_vet c = false

abbrev pub has_option : Command → Key → Bool
has_option c Layout = is_run c
has_option c Every = is_session c
has_option c Turns = is_run c || is_vet c
has_option c Stack = is_run c
has_option c Heap = is_run c
has_option c Widths = is_vet c

abbrev pub is_digit : ℕ → Bool
is_digit c = nat_le 48 c && nat_le c 57

-- the number that decimal digits stand for
abbrev pub decimal_of : List ℕ → ℕ
decimal_of = fold (λ n c. 10 * n + (c - 48)) 0

-- digits of a number from a least to a greatest one, leading zeros among them
pub record IsNumber (least most : ℕ) (word : List ℕ) (n : ℕ) : Type 0 where
  pub some : 1 ≤ length word
  pub short : length word ≤ MOST_DIGITS
  pub digits : IsTrue (list_all is_digit word)
  pub value : decimal_of word ≡ n
  pub within : IsWithin least most n

-- a small letter, a digit or an underscore
abbrev pub is_layout_byte : ℕ → Bool
is_layout_byte c = (nat_le 97 c && nat_le c 122) || is_digit c || c == 95

pub record IsLayoutName (word : List ℕ) : Type 0 where
  pub some : 1 ≤ length word
  pub short : length word ≤ MOST_NAME
  pub bytes : IsTrue (list_all is_layout_byte word)
