-- How far a text was read.
use Rattle.std.specs.Prelude.{◌≡◌, ◌⊎◌, ◌&&◌, true, false, ℕ, ◌+◌, ◌==◌, Bool, List, ◌++◌, length, Some, None, ⊤}
use Rattle.std.specs.List.{concat, AllByRecursion}
use Rattle.porch_types.specs.Leaves.{IsTypes}
use Rattle.porch_flat.specs.declared.whole.Flat.{Flat}
use Rattle.porch_flat_text.specs.declared.draft.Draft.{Draft}
use Rattle.porch_flat_text.specs.declared.parse.FlatFault.{FlatFault}
use Rattle.porch_flat_text.specs.declared.parse.FlatFault.TheVariants.{FlatSyntax, NoMemory}
use Rattle.porch_flat_text.specs.FirstWrong.{IsLine}
use Rattle.porch_flat_text.specs.inside.Cuts.{line_of}
use Rattle.porch_flat_text.specs.inside.Drafts.{empty_draft, next, run, is_whole, flat_of}

-- the lines before the rest make this draft, and line number n is to come
pub record HasRead (text rest : List ℕ) (n : ℕ) (d : Draft) : Type 0 where
  pub lines : List (List ℕ)
  pub split : text ≡ concat lines ++ rest
  pub whole : AllByRecursion IsLine lines
  pub number : n ≡ length lines + 1
  pub made : run empty_draft lines ≡ Some d
  pub types : IsTypes d.types

-- all whole lines were read
pub record IsEnded (text : List ℕ) (n : ℕ) (ended : Bool) (d : Draft) : Type 0 where
  pub rest : List ℕ
  pub read : HasRead text rest n d
  pub none : line_of rest ≡ None
  pub all : ended ≡ (length rest == 0)

-- line number n isn't taken
pub record IsStopped (text : List ℕ) (n : ℕ) : Type 0 where
  pub draft : Draft
  pub rest : List ℕ
  pub line : List ℕ
  pub more : List ℕ
  pub read : HasRead text rest n draft
  pub found : line_of rest ≡ Some (line, more)
  pub refused : next draft line ≡ None

abbrev pub IsStoppedBy : List ℕ → FlatFault → Type 0
IsStoppedBy text (FlatSyntax n) = IsStopped text n
IsStoppedBy text NoMemory = ⊤

-- all was read, and the program is whole
pub record IsParsed (text : List ℕ) (flat : Flat) : Type 0 where
  pub draft : Draft
  pub line : ℕ
  pub read : IsEnded text line true draft
  pub whole : is_whole draft.phase ≡ true
  pub made : flat ≡ flat_of draft

-- all whole lines were read, and the text goes on, or the program does
pub record IsCut (text : List ℕ) (n : ℕ) : Type 0 where
  pub draft : Draft
  pub ended : Bool
  pub read : IsEnded text n ended draft
  pub cut : (ended && is_whole draft.phase) ≡ false

abbrev pub IsRefusedBy : List ℕ → FlatFault → Type 0
IsRefusedBy text (FlatSyntax n) = IsStopped text n ⊎ IsCut text n
IsRefusedBy text NoMemory = ⊤
