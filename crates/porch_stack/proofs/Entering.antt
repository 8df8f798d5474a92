-- The frame of a call has the arguments, and stands right after its callers.
use Rattle.std.proofs.Common.{◌≡◌, ◌<◌, ◌≤◌, ℕ, ◌+◌, ◌-◌, ◌*◌, ◌^◌, List, [], ◌∷◌, ◌++◌, length, refl, sym, ap, ◌∙◌, subst, arith, Bool, true, false, Option, Some, None}
use Rattle.std.specs.Prelude.{ℤ, map, replicate, slice_get, take, drop, nat_lt, vec_capacity, if◌then◌else◌}
use Rattle.std.proofs.lemmas.Bool.{lt-ltb, le-ltb}
use Rattle.std.proofs.lemmas.Option.{slice_get_within}
use Rattle.porch_flat.specs.declared.whole.Flat.{Flat}
use Rattle.porch_heap.specs.declared.block.Block.{Block}
use Rattle.porch_heap.specs.Blocks.{HeapState}
use Rattle.porch_bytes.specs.declared.access.Parts.{Parts}
use Rattle.porch_bytes.specs.Leaf.{spliced}
use Rattle.porch_bytes.specs.Memory.{frame_size, stack_begin}
use Rattle.porch_bytes.specs.Shapes.{size_in, with_number_in}
use Rattle.porch_bytes.specs.State.{Setting, Frame, Phase, running, State, normal, widths_of, frames_of, memory_end}
use Rattle.porch_bytes.specs.Column.{Next, Goes, StackIsFull, next, used, stack_end, parts_with, with_variables, entered, called}
use Rattle.porch_instructions.specs.declared.instruction.Cell.{Cell}
use Rattle.porch_instructions.specs.declared.instruction.Source.{Source}
use Rattle.porch_instructions.specs.declared.instruction.Source.TheVariants as source
use Rattle.porch_instructions.specs.declared.instruction.Context.{Context}
use Rattle.porch_instructions.specs.declared.scope.Scope.{Scope}
use Rattle.porch_instructions.specs.Instructions.{source_value, SourceLies, LiesWithin}
use Rattle.porch_instructions.specs.Resolved.{context_of, IsCellIn}
use Rattle.porch_frames.specs.declared.passing.Passing.{Passing}
use Rattle.porch_frames.specs.Passing.{in_frame, passed, EndsBefore, IsPassing, ArePassings, AreParameters, ArgumentsArePassed}
use Rattle.porch_load.specs.declared.body.Body.{Body}
use Rattle.porch_load.specs.declared.loaded.Loaded.{Loaded}
use Rattle.porch_load.specs.Bodies.{AreCells, IsBody}
use Rattle.porch_load.specs.Calls.{IsPassed, ArePassed}
use Rattle.porch_load.specs.Loaded.{setting_in, IsLoaded}
use Rattle.porch_stack.proofs.Found.{cell_in}

module _ (bsize : ℕ) (cells : List (Option Cell)) where
  -- the arguments are what the passings are read from
  pub sources_passed : (here : Context) (memory : List ℕ) (i : ℕ) (ss : List Source) (ps : List Passing) → ArePassed bsize cells i ss ps
      → map (λ (p : Passing). source_value here p.from memory) ps ≡ map (λ (s : Source). source_value here s memory) ss
  sources_passed here memory i [] [] h = refl
  sources_passed here memory i (s ∷ ss) (p ∷ ps) h =
      ap (λ (z : ℤ). z ∷ map (λ (q : Passing). source_value here q.from memory) ps) (ap (λ (x : Source). source_value here x memory) h.0.from_is)
      ∙ ap (λ (zs : List ℤ). source_value here s memory ∷ zs) (sources_passed here memory (i + 1) ss ps h.1)
  sources_passed here memory i [] (p ∷ ps) h = absurd h
  sources_passed here memory i (s ∷ ss) [] h = absurd h

  pub parameters_of : (scope : Scope) → AreCells scope 0 cells → (i : ℕ) (ss : List Source) (ps : List Passing) → ArePassed bsize cells i ss ps → AreParameters scope i ps
  parameters_of scope c i [] [] h = tt
  parameters_of scope c i (s ∷ ss) (p ∷ ps) h = (cell_in scope 0 i i cells p.to c h.0.to_is (omega arith), parameters_of scope c (i + 1) ss ps h.1)
  parameters_of scope c i [] (p ∷ ps) h = absurd h
  parameters_of scope c i (s ∷ ss) [] h = absurd h

  source_before : (here : Context) (at : ℕ) → here.at + bsize ≤ at → (from : Source) → SourceLies (LiesWithin bsize) from → SourceLies (EndsBefore here at) from
  source_before here at le (source.Variable cell) h = omega (arith, le, h)
  source_before here at le (source.Constant z) h = tt

  pub passings_lie : (scope : Scope) → AreCells scope 0 cells → (here : Context) (at : ℕ) → here.at + bsize ≤ at → (i : ℕ) (ss : List Source) (ps : List Passing) → ArePassed bsize cells i ss ps
      → ArePassings here at scope.size ps
  passings_lie scope c here at le i [] [] h = tt
  passings_lie scope c here at le i (s ∷ ss) (p ∷ ps) h = (
    record {
      from_before = source_before here at le p.from (subst (λ (x : Source). SourceLies (LiesWithin bsize) x) (sym h.0.from_is) h.0.from_lies);
      to_within = (cell_in scope 0 i i cells p.to c h.0.to_is (omega arith)).within;
    },
    passings_lie scope c here at le (i + 1) ss ps h.1,
  )
  passings_lie scope c here at le i [] (p ∷ ps) h = absurd h
  passings_lie scope c here at le i (s ∷ ss) [] h = absurd h

-- what is passed depends on the order of bytes and the address alone
passed_there : (here there other : Context) (ps : List Passing) (old memory : List ℕ) → there.big ≡ other.big → there.at ≡ other.at
    → passed here there ps old memory ≡ passed here other ps old memory
passed_there here there other [] old memory b a = refl
passed_there here there other (p ∷ ps) old memory b a =
    ap (λ (m : List ℕ). passed here there ps old m)
    (ap (λ (big : Bool). with_number_in big p.to.shape memory (there.at + p.to.offset) (source_value here p.from old)) b
    ∙ ap (λ (at : ℕ). with_number_in other.big p.to.shape memory (at + p.to.offset) (source_value here p.from old)) a)
    ∙ passed_there here there other ps old (with_number_in other.big p.to.shape memory (other.at + p.to.offset) (source_value here p.from old)) b a

module _ (l : Loaded) (law : ArgumentsArePassed) (function : ℕ) (body : Body) (is : IsBody l.program (setting_in l) function body) where
  -- memory with the arguments in the parameters of a new frame
  pub arguments_in : (here : Context) (at bsize size : ℕ) (into : Option ℕ) (callers : List Frame) (ss : List Source) (ps : List Passing) (memory : List ℕ)
      → here.big ≡ l.metrics.layout.big → size ≡ frame_size l.metrics.layout l.program function → ArePassed bsize body.cells.items 0 ss ps
      → with_variables l.program (setting_in l) function at 0 (spliced memory at (replicate (frame_size l.metrics.layout l.program function) 0))
      (map (λ (s : Source). source_value here s memory) ss)
      ≡ passed here (in_frame here at) ps memory (spliced memory at (replicate size 0))
  arguments_in here at bsize size into callers ss ps memory big e h =
      ap (λ (zs : List ℤ). with_variables l.program (setting_in l) function at 0 (spliced memory at (replicate (frame_size l.metrics.layout l.program function) 0)) zs)
      (sym (sources_passed bsize body.cells.items here memory 0 ss ps h))
      ∙ law l.program (setting_in l) function is.scope is.scope_is (record { function = function; next = 0; at = at; into = into }) callers refl here ps 0 memory
      (spliced memory at (replicate (frame_size l.metrics.layout l.program function) 0)) (parameters_of bsize body.cells.items is.scope is.cells_are 0 ss ps h)
      ∙ passed_there here (context_of l.program (setting_in l) (record { function = function; next = 0; at = at; into = into }) callers) (in_frame here at) ps memory
      (spliced memory at (replicate (frame_size l.metrics.layout l.program function) 0)) (sym big) refl
      ∙ ap (λ (n : ℕ). passed here (in_frame here at) ps memory (spliced memory at (replicate n 0))) (sym e)

full_if : (b : Bool) (fs left : ℕ) (x : Next) → b ≡ true → (if b then StackIsFull fs left else x) ≡ StackIsFull fs left
full_if b fs left x h = rw h refl

goes_if : (b : Bool) (y x : Next) → b ≡ false → (if b then y else x) ≡ x
goes_if b y x h = rw h refl

module _ (l : Loaded) (function : ℕ) (arguments : List ℤ) (into : Option ℕ) (m : State) where
  -- a call whose frame doesn't fit
  pub called_full : (size left : ℕ) → size ≡ frame_size l.metrics.layout l.program function → left ≡ l.stack - used l.program (setting_in l) (frames_of m.phase) → left < size
      → used l.program (setting_in l) (frames_of m.phase) ≤ l.stack
      → called l.program (setting_in l) function arguments into m ≡ StackIsFull size left
  called_full size left e f lt le =
      let more : l.stack < used l.program (setting_in l) (frames_of m.phase) + frame_size l.metrics.layout l.program function = omega (arith, e, f, lt, le) in
      full_if (nat_lt l.stack (used l.program (setting_in l) (frames_of m.phase) + frame_size l.metrics.layout l.program function)) (frame_size l.metrics.layout l.program function)
      (l.stack - used l.program (setting_in l) (frames_of m.phase)) (Goes (entered l.program (setting_in l) function arguments into m))
      (lt-ltb l.stack (used l.program (setting_in l) (frames_of m.phase) + frame_size l.metrics.layout l.program function) more)
      ∙ ap (λ (n : ℕ). StackIsFull n (l.stack - used l.program (setting_in l) (frames_of m.phase))) (sym e)
      ∙ ap (λ (n : ℕ). StackIsFull size n) (sym f)

  -- a call whose frame fits
  pub called_goes : used l.program (setting_in l) (frames_of m.phase) + frame_size l.metrics.layout l.program function ≤ l.stack
      → called l.program (setting_in l) function arguments into m ≡ Goes (entered l.program (setting_in l) function arguments into m)
  called_goes le =
      goes_if (nat_lt l.stack (used l.program (setting_in l) (frames_of m.phase) + frame_size l.metrics.layout l.program function))
      (StackIsFull (frame_size l.metrics.layout l.program function) (l.stack - used l.program (setting_in l) (frames_of m.phase)))
      (Goes (entered l.program (setting_in l) function arguments into m))
      (le-ltb l.stack (used l.program (setting_in l) (frames_of m.phase) + frame_size l.metrics.layout l.program function) le)

-- states with equal parts are equal
pub same_state : (memory memory' : List ℕ) (phase phase' : Phase) (turns turns' : ℕ) (blocks : List Block) (shown : List ℕ) → memory ≡ memory' → phase ≡ phase' → turns ≡ turns'
    → Goes (record { memory = memory; phase = phase; blocks = blocks; turns = turns; shown = shown; mode = normal })
    ≡ Goes (record { memory = memory'; phase = phase'; blocks = blocks; turns = turns'; shown = shown; mode = normal })
same_state memory memory' phase phase' turns turns' blocks shown e f g =
    ap (λ (x : List ℕ). Goes (record { memory = x; phase = phase; blocks = blocks; turns = turns; shown = shown; mode = normal })) e
    ∙ ap (λ (x : Phase). Goes (record { memory = memory'; phase = x; blocks = blocks; turns = turns; shown = shown; mode = normal })) f
    ∙ ap (λ (x : ℕ). Goes (record { memory = memory'; phase = phase'; blocks = blocks; turns = x; shown = shown; mode = normal })) g
