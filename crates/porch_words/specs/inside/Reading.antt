-- Words as they are read, from left to right.
use Rattle.std.specs.Prelude.{ℕ, ◌==◌, ◌+◌, ◌-◌, ◌*◌, nat_le, ◌&&◌, if◌then◌else◌, Bool, Option, Some, None, List, [], ◌∷◌, length, codes}
use Rattle.std.specs.List.{list_all}
use Rattle.std.specs.Option.{option_map}
use Rattle.std.specs.Str.{bytes_eq}
use Rattle.std.specs.Map.{lookup}
use Rattle.porch_values.specs.declared.widths.Widths.{Widths as WidthSet}
use Rattle.porch_session.specs.declared.limits.TheConstants.{MOST_TURNS, LEAST_STACK, MOST_STACK, LEAST_HEAP, MOST_HEAP}
use Rattle.porch_words.specs.declared.command.Command.{Command}
use Rattle.porch_words.specs.declared.command.Command.TheVariants.{Exec, Compile, Start, Resume, Clear, Vet, Show}
use Rattle.porch_words.specs.declared.option.Key.{Key}
use Rattle.porch_words.specs.declared.option.Key.TheVariants.{Layout, Every, Turns, Stack, Heap, Widths}
use Rattle.porch_words.specs.declared.option.Part.{Part as CodePart}
use Rattle.porch_words.specs.declared.option.Part.TheVariants as seen
use Rattle.porch_words.specs.declared.given.Given.{Given as CodeGiven}
use Rattle.porch_words.specs.Spelling.{has_option, is_digit, decimal_of, is_layout_byte, drill_name}
use Rattle.porch_words.specs.declared.value.TheConstants.{MOST_DIGITS, MOST_NAME, MOST_BEFORE_DIGIT}
use Rattle.porch_words.specs.Orders.{Setting, layout, every, turns, stack, heap, widths, narrow, wide, both, Given, nothing, with_setting, is_new, Order, drill, order_with}
use Rattle.porch_words.specs.declared.read.TheConstants.{MOST_NUMBER}

abbrev pub commands : List (List ℕ × Command)
commands =
    (codes "exec", Exec) ∷ (codes "compile", Compile) ∷ (codes "start", Start) ∷ (codes "resume", Resume)
    ∷ (codes "clear", Clear) ∷ (codes "vet", Vet) ∷ (codes "show", Show) ∷ []

abbrev pub command_of : List ℕ → Option Command
command_of name = lookup (bytes_eq name) commands

abbrev pub options : List (List ℕ × Key)
options =
    (codes "--layout", Layout) ∷ (codes "--every", Every) ∷ (codes "--turns", Turns)
    ∷ (codes "--stack", Stack) ∷ (codes "--heap", Heap) ∷ (codes "--widths", Widths) ∷ []

abbrev pub key_of_name : List ℕ → Option Key
key_of_name name = lookup (bytes_eq name) options

-- What a word is among the options: one with its value, one whose value is the next word, or none.
pub data Part : Type 0 where
  joined : Key → (value : List ℕ) → Part
  apart : Key → Part
  neither : Part

abbrev pub joined_by : Option Key → List ℕ → Part
joined_by None value = neither
joined_by (Some k) value = joined k value

abbrev pub apart_by : Option Key → Part
apart_by None = neither
apart_by (Some k) = apart k

-- the byte "="
abbrev pub EQUAL_SIGN : ℕ
EQUAL_SIGN = 61

-- one byte more in front
abbrev pub longer : ℕ → Option (List ℕ × List ℕ) → Option (List ℕ × List ℕ)
longer c None = None
longer c (Some p) = Some (c ∷ p.0, p.1)

-- what stands before the first "=" and behind it
abbrev pub split : List ℕ → Option (List ℕ × List ℕ)
split [] = None
split (c ∷ cs) = if c == EQUAL_SIGN then Some ([], cs) else longer c (split cs)

abbrev pub part_by : List ℕ → Option (List ℕ × List ℕ) → Part
part_by word None = apart_by (key_of_name word)
part_by word (Some p) = joined_by (key_of_name p.0) p.1

abbrev pub part_of : List ℕ → Part
part_of word = part_by word (split word)

-- the code's part as one
abbrev pub part_seen : CodePart → Part
part_seen (seen.Joined k v) = joined k v.now
part_seen (seen.Apart k) = apart k
part_seen seen.Neither = neither

-- The number that digits stand for behind those of n, unless one is no digit or what is read so far is
-- too large for a digit more.
abbrev pub value_behind : ℕ → List ℕ → Option ℕ
value_behind n [] = Some n
value_behind n (d ∷ ds) =
    if is_digit d && nat_le n MOST_BEFORE_DIGIT then value_behind (10 * n + (d - 48)) ds else None

-- a number from a least to a greatest one
abbrev pub within : (least most : ℕ) → Option ℕ → Option ℕ
within least most None = None
within least most (Some n) = if nat_le least n && nat_le n most then Some n else None

unfoldable pub number_of : (least most : ℕ) → List ℕ → Option ℕ
number_of least most word =
    if nat_le 1 (length word) && nat_le (length word) MOST_DIGITS && list_all is_digit word
    then within least most (Some (decimal_of word))
    else None

abbrev pub is_layout_name : List ℕ → Bool
is_layout_name word =
    nat_le 1 (length word) && nat_le (length word) MOST_NAME && list_all is_layout_byte word

abbrev pub width_sets : List (List ℕ × WidthSet)
width_sets = (codes "32", narrow) ∷ (codes "64", wide) ∷ (codes "32,64", both) ∷ []

abbrev pub widths_of : List ℕ → Option WidthSet
widths_of word = lookup (bytes_eq word) width_sets

abbrev pub setting_of : Key → List ℕ → Option Setting
setting_of Layout v = if is_layout_name v then Some (layout v) else None
setting_of Every v = option_map every (number_of 1 MOST_TURNS v)
setting_of Turns v = option_map turns (number_of 1 MOST_TURNS v)
setting_of Stack v = option_map stack (number_of LEAST_STACK MOST_STACK v)
setting_of Heap v = option_map heap (number_of LEAST_HEAP MOST_HEAP v)
setting_of Widths v = option_map widths (widths_of v)

-- what is given behind an option more, where the command has it and it wasn't given
abbrev pub put : Command → Given → Key → List ℕ → Option Given
put c g k v =
    if has_option c k && is_new g k then option_map (with_setting g) (setting_of k v) else None

abbrev pub and_then : {A B : Type 0} → Option A → (A → Option B) → Option B
and_then None f = None
and_then (Some a) f = f a

abbrev pub by_part : {A : Type 0} → Part → (Key → List ℕ → Option A) → (Key → Option A) → Option A
by_part (joined k v) f g = f k v
by_part (apart k) f g = g k
by_part neither f g = None

-- what options give
unfoldable pub read : Command → Given → List (List ℕ) → Option Given
read c g [] = Some g
read c g (w ∷ []) = by_part (part_of w) (λ k x. put c g k x) (λ k. None)
read c g (w ∷ v ∷ vs) =
    by_part (part_of w)
    (λ k x. and_then (put c g k x) (λ h. read c h (v ∷ vs)))
    (λ k. and_then (put c g k v) (λ h. read c h vs))

abbrev pub drill_of : List (List ℕ) → Option Order
drill_of (w ∷ []) = option_map drill (number_of 0 MOST_NUMBER w)
drill_of ws = None

-- what words order
abbrev pub order_in : List (List ℕ) → Option Order
order_in [] = None
order_in (w ∷ ws) =
    if bytes_eq w drill_name
    then drill_of ws
    else and_then (command_of w) (λ c. option_map (order_with c) (read c nothing ws))

-- the code's value as one of the definitions
abbrev pub given_seen : CodeGiven → Given
given_seen g =
    record {
      layout = option_map (λ n. n.now) g.layout;
      every = g.every;
      turns = g.turns;
      stack = g.stack;
      heap = g.heap;
      widths = g.widths;
    }
