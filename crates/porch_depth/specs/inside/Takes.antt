-- What the code does with the levels of the parts that may come: its list has the next part last.
use Rattle.std.specs.Prelude.{◌≡◌, Bool, false, ◌||◌, List, ◌++◌, map, reverse, Option, Some, None}
use Rattle.porch_tree.specs.declared.word.Keyword.TheVariants as key
use Rattle.porch_tree.specs.declared.word.Mark.TheVariants as mark
use Rattle.porch_tree.specs.declared.word.Word.{Word}
use Rattle.porch_tree.specs.declared.word.Word.TheVariants as word
use Rattle.porch_walk.specs.declared.symbol.Symbol.{Symbol}
use Rattle.porch_walk.specs.declared.symbol.Symbol.TheVariants.{Texts, Commas, Kind, Consts, ConstantValue, Brackets, Counts, Else}
use Rattle.porch_walk.specs.Walk.{is, is_mark, is_key, kinds_of}
use Rattle.porch_walk.specs.declared.level.Level.{Level}
use Rattle.porch_walk.specs.declared.level.Reading.{Reading}
use Rattle.porch_walk.specs.declared.level.Step.{Step}
use Rattle.porch_walk.specs.declared.level.Taken.{Taken}
use Rattle.porch_depth.specs.declared.take.Here.{Here}
use Rattle.porch_walk.specs.Plans.{Plan, is_kind}
use Rattle.porch_walk.specs.Levels.{Read, placed, read_or}

-- these parts in front of others
abbrev pub with_steps : Here → List Step → List Level → List Level
with_steps h ss ls = map (placed h.level h.token) ss ++ ls

abbrev pub outcome : Here → Option Plan → List Level → Option (Taken × List Level)
outcome h None ls = None
outcome h (Some p) ls = Some (p.taken, with_steps h p.steps ls)

-- The word was taken as this plan says, or there is none and nothing changed.
abbrev pub TookBy : Here → Option Plan → Option Taken → List Level → List Level → Type 0
TookBy h p None old new = (p ≡ None) × (new ≡ old)
TookBy h p (Some t) old new = outcome h p (reverse old) ≡ Some (t, reverse new)

-- Whether a part that may be left out takes the word, of those that offer only more of the same.
abbrev pub goes_on : Symbol → Word → Bool
goes_on Texts w = is w word.Text
goes_on (Kind k) w = is_kind (kinds_of k w)
goes_on Consts w = is_key key.Const w
goes_on ConstantValue w = is_mark mark.Equal w
goes_on Else w = is_key key.Else w
goes_on Commas w = is_mark mark.Comma w
goes_on Counts w = is_mark mark.OpenBracket w
goes_on Brackets w = is_mark mark.OpenBracket w || is_mark mark.OpenParenthesis w
goes_on s w = false

-- A part was offered the token, and took it or left it out.
abbrev pub Offered : Here → Option Plan → Option Reading → List Level → List Level → Type 0
Offered h p None old new = (p ≡ None) × (new ≡ old)
Offered h p (Some r) old new = (other : Read) → read_or h.level h.token p old other ≡ record { reading = r; levels = new }

abbrev pub is_read : Reading → List Level → Read
is_read r ls = record { reading = r; levels = ls }
