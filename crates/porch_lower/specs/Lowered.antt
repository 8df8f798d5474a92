-- Which trees are lowered, and what the flat program of a tree looks like.
use Rattle.std.specs.Prelude.{ℕ, ◌≡◌, ◌≤◌, ◌<◌, ◌+◌, ◌*◌, ◌^◌, List, [], ◌∷◌, length, All, codes, IsTrue, pos, Option, Some, None, ⊤}
use Rattle.porch_types.specs.Leaves.{kind_types}
use Rattle.porch_types.specs.declared.shapes.Kind.TheVariants.{Int}
use Rattle.porch_values.specs.Integers.{in_range}
use Rattle.porch_objects.specs.Meaning.{Environment}
use Rattle.porch_syntax.specs.Tree.{Node, variable, whole, character, nested, product, sum, less, Nodes, no_nodes, node, Terms, no_terms, term, Action, assign, repeat, putchar, give, Actions, no_actions, action, Program}
use Rattle.porch_syntax.specs.Language.{unit_tokens, IsSource}
use Rattle.porch_flat.specs.declared.flat.Flat.{Flat}
use Rattle.porch_flat.specs.declared.flat.Function.{Function}
use Rattle.porch_flat.specs.Valid.{int_type}
use Rattle.porch_abstract.specs.Run.{Means}
use Rattle.porch_meaning.specs.Mean.{mean}
use Rattle.porch_lower.specs.Code.{main_code, main_temps}

-- Each variable of an expression is one of the first m, and each constant is an int.
abbrev mutual
  pub IsFit : ℕ → Node → Type 0
  IsFit m (variable x) = x < m
  IsFit m (whole z) = IsTrue (in_range Int 32 z)
  IsFit m (character c) = IsTrue (in_range Int 32 (pos c))
  IsFit m (nested e) = IsFit m e
  IsFit m (product e es) = IsFit m e × FactorsFit m es
  IsFit m (sum e ts) = IsFit m e × TermsFit m ts
  IsFit m (less a b) = IsFit m a × IsFit m b

  pub FactorsFit : ℕ → Nodes → Type 0
  FactorsFit m no_nodes = ⊤
  FactorsFit m (node e es) = IsFit m e × FactorsFit m es

  pub TermsFit : ℕ → Terms → Type 0
  TermsFit m no_terms = ⊤
  TermsFit m (term s e ts) = IsFit m e × TermsFit m ts

-- the same for statements
abbrev mutual
  pub ActionFits : ℕ → Action → Type 0
  ActionFits m (assign x e) = (x < m) × IsFit m e
  ActionFits m (repeat e body) = IsFit m e × ActionsFit m body
  ActionFits m (putchar e) = IsFit m e
  ActionFits m (give e) = IsFit m e

  pub ActionsFit : ℕ → Actions → Type 0
  ActionsFit m no_actions = ⊤
  ActionsFit m (action a more) = ActionFits m a × ActionsFit m more

abbrev pub DeclarationsFit : ℕ → List (Option Node) → Type 0
DeclarationsFit m [] = ⊤
DeclarationsFit m (None ∷ more) = DeclarationsFit m more
DeclarationsFit m ((Some e) ∷ more) = IsFit m e × DeclarationsFit m more

-- a tree whose names are declared and whose constants are ints, and whose commands and variables can be numbered
pub record IsLowerable (p : Program) : Type 0 where
  pub declared : DeclarationsFit (length p.declarations) p.declarations
  pub stated : ActionsFit (length p.declarations) p.actions
  pub few : length p.declarations + main_temps p < 2 ^ 30
  pub short : length (main_code p) < 2 ^ 30

-- The flat program of a tree is one function main. Its variables are the declared ones in the order of the text, and then
-- temporaries, all ints; there are at most eight temporaries for each token of the text.
pub record IsLowered (p : Program) (flat : Flat) : Type 0 where
  pub types_are : flat.types ≡ kind_types
  pub globals_are : flat.globals ≡ []
  pub main : Function
  pub only : flat.functions ≡ main ∷ []
  pub named : main.name ≡ codes "main"
  pub result_is : main.result ≡ Some int_type
  pub params_are : main.params ≡ 0
  pub ints : All (λ ty. ty ≡ int_type) main.vars
  pub temporaries : ℕ
  pub counted : length main.vars ≡ length p.declarations + temporaries
  pub bounded : temporaries ≤ 8 * length (unit_tokens p)

-- it means what the tree means, marks and kind of act included
abbrev pub MeansTheSame : Program → Flat → Type 0
MeansTheSame p flat = (under : Environment) (n : ℕ) → Means flat under n (mean kind_types p under n)

-- the tree of a text is one that is lowered
abbrev pub SourcesAreLowerable : Type 0
SourcesAreLowerable = (text : List ℕ) (p : Program) → IsSource text p → IsLowerable p
