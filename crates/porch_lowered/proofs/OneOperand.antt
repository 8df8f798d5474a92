-- Forms with one operand, which is held, and one command that makes the value of it.
use Rattle.std.proofs.Common.{◌≡◌, ◌≤◌, ℕ, ◌+◌, List, [], ◌∷◌, ◌++◌, length, refl, ap, ◌∙◌, arith, length-append, Option, Some, None}
use Rattle.std.specs.Prelude.{⊤, slice_get, Result, Ok}
use Rattle.porch_types.specs.declared.shapes.Kind.{Kind}
use Rattle.porch_types.specs.declared.shapes.Ty.TheVariants.{Pointer}
use Rattle.porch_types.specs.Kinds.{kind_number}
use Rattle.porch_types.specs.LeafTypes.{IsScalar}
use Rattle.porch_types.specs.Rows.{IsSubobject}
use Rattle.porch_values.specs.declared.acts.Act.{Act}
use Rattle.porch_values.specs.Integers.{converted}
use Rattle.porch_objects.specs.Store.{Value, pointer, Object, Store, seen, leaf_at}
use Rattle.porch_objects.specs.Pointers.{if_there, if_number, if_place, load, member}
use Rattle.porch_objects.specs.Meaning.{Progress}
use Rattle.porch_flat.specs.declared.flat.Operand.{Operand}
use Rattle.porch_flat.specs.declared.flat.Operand.TheVariants.{Var, Constant}
use Rattle.porch_flat.specs.declared.whole.Command.{Command}
use Rattle.porch_flat.specs.declared.whole.Command.TheVariants as command
use Rattle.porch_flat.specs.whole.Form.{form_of}
use Rattle.porch_abstract.specs.Machine.{Goes, put}
use Rattle.porch_abstract.specs.whole.Machine.{if_ok, does, variable_of}
use Rattle.porch_mean.specs.Outcome.{Outcome, Went, and_then, with_result}
use Rattle.porch_mean.specs.Operators.{as_value}
use Rattle.porch_lowering.specs.Code.{InUse, Code, then_commands, Coder, hold}
use Rattle.porch_lowering.specs.Operators.{next_of, var_of}
use Rattle.porch_sound.specs.Typing.{StoreTyping}
use Rattle.porch_sound.specs.Laws.{Gives}
use Rattle.porch_lowered.specs.Beside.{beside}
use Rattle.porch_lowered.proofs.ReadAlike.{load_alike, member_alike, seen_grounded}
use Rattle.porch_lowered.proofs.Typed.{counts}
use Rattle.porch_lowered.proofs.SameLeaf.{seen_twice}
use Rattle.porch_lowered.proofs.States.{Stands, front_stands, back_stands, IsQuiet}
use Rattle.porch_lowered.proofs.Growing.{Grows}
use Rattle.porch_lowered.proofs.Codes.{Context, commands, frame, here, goes_on, IsOf, Follow, IsReady, grounded, value_is_grounded, MayGo, Arrives, Taken, Evaluates}
use Rattle.porch_lowered.proofs.Holding.{IsSetting, kept_types}
use Rattle.porch_lowered.proofs.Operands.{variable_is, operand_type}
use Rattle.porch_lowered.proofs.Held.{IsStrict, InPlace, strict_at, Nothing, carries_nothing, hold_then, from_held}
use Rattle.porch_lowered.proofs.Commands.{command_follows, cast_does, cast_gives}

-- an operand that stands in a variable, where there is one
abbrev pub IsVariable : Option Operand → Type 0
IsVariable None = ⊤
IsVariable (Some (Var x)) = ⊤
IsVariable (Some (Constant z)) = ⊥

module _ (c : Context) (set : IsSetting c) where
  -- A command that makes a value of another one: `result` is what it is, or the act that is met.
  pub record Makes (ty ty' : ℕ) (result : Store → Value → Result Value Act) (make : (target operand : ℕ) → Command) : Type 0 where
    pub quiet : (d t : ℕ) → IsQuiet c.flat (form_of (make d t))
    pub does_is : (place d t : ℕ) (made : StoreTyping) (s : Progress) (ts : List Object) (v : Value) → IsReady c made s ts
        → MayGo c ty (Some t) → MayGo c ty' (Some d) → IsOf c made ty v → variable_of t (here c s ts place) ≡ seen s.store v
        → does c.flat c.under (frame c place) c.callers (form_of (make d t)) (here c s ts place)
        ≡ if_ok (result s.store v) (λ w. Goes (put d w (here c s ts (place + 1))))
    pub gives : (made : StoreTyping) (s : Progress) (ts : List Object) (v : Value) → IsReady c made s ts → IsOf c made ty v
        → Gives (IsOf c made ty') (result s.store v)

  -- the code: the operand, held, and the command; `inner` is in use with the target
  abbrev pub one_code : (ty : ℕ) → Option Operand → Coder → (make : (target operand : ℕ) → Command) → ℕ → InUse → ℕ → Code
  one_code ty o coder make d used label =
      let x = hold o (next_of c.start ty used) ty coder used label in then_commands x.code (make d (var_of x.operand) ∷ [])

  pub variable_held : (o : Option Operand) (t ty : ℕ) (coder : Coder) (used : InUse) (label : ℕ) → IsVariable o
      → (x : ℕ) × ((hold o t ty coder used label).operand ≡ Var x)
  variable_held None t ty coder used label h = (t, refl)
  variable_held (Some (Var x)) t ty coder used label h = (x, refl)
  variable_held (Some (Constant z)) t ty coder used label h = absurd h

  pub one_writes : (ty ty' : ℕ) (o : Option Operand) (Is : Value → Progress → Type 0) (value : Progress → Outcome) (coder : Coder) (result : Store → Value → Result Value Act)
      (make : (target operand : ℕ) → Command) (go : Value → Progress → Outcome)
      → ((v : Value) (s : Progress) → go v s ≡ with_result (result s.store v) s (λ w s. Went w s)) → IsStrict go
      → Evaluates c (Taken c) Is ty value coder → Grows coder → InPlace c ty o value → IsVariable o → Makes ty ty' result make
      → (d : ℕ) (used : InUse) (label place : ℕ) (made : StoreTyping) (s : Progress) (ts : List Object) → IsReady c made s ts → MayGo c ty' (Some d)
      → ((t : ℕ) → (one_code ty o coder make d used label).most t ≤ c.pools t)
      → Stands (commands c) place (one_code ty o coder make d used label).commands
      → Follow c (and_then (value s) go) (here c s ts place) s.marks
      (Arrives c ty' made (Some d) used ts (here c s ts place) s.marks (place + length (one_code ty o coder make d used label).commands))
  one_writes ty ty' o Is value coder result make go go_is strict evaluates grows in_place variable makes d used label place made s ts ready may room stands =
      let x = hold o (next_of c.start ty used) ty coder used label in
      let all = commands c in
      let found = variable_held o (next_of c.start ty used) ty coder used label variable in
      let t = found.0 in
      let name : var_of x.operand ≡ t = ap (λ o. var_of o) found.1 in
      let middle = place + length x.code.commands in
      let last = back_stands all place x.code.commands (make d (var_of x.operand) ∷ []) stands in
      let stands_last : slice_get all middle ≡ Some (make d t) = last.0 ∙ ap (λ t. Some (make d t)) name in
      let end : middle + 1 ≡ place + length (x.code.commands ++ make d (var_of x.operand) ∷ []) = simp length-append (omega arith) in
      hold_then c set ty o Is (Nothing c) value coder go evaluates grows in_place used label place made s ts _ ready (strict_at c o go s strict)
      (carries_nothing c o ty made used s ts) room
      (front_stands all place x.code.commands (make d (var_of x.operand) ∷ []) stands)
      (λ v u h other is.
      from_held c ty ty' made used x.used ts (here c s ts place) s.marks middle (place + length (x.code.commands ++ make d (var_of x.operand) ∷ [])) x.operand v u (Some d) (go v u) h
      (let operand = rw found.1 at h.operand in
      let value_is = variable_is c set h.later u h.temporaries middle ty t x.used v h.ready operand h.value in
      rw (go_is v u, ← end)
      (command_follows c ty' d middle (make d t) h.later u h.temporaries x.used (result u.store v) h.ready stands_last (makes.quiet d t)
      (makes.does_is middle d t h.later u h.temporaries v h.ready (operand_type c set ty x.used u h.temporaries t v operand) may h.value value_is)
      (makes.gives h.later u h.temporaries v h.ready h.value))))

  -- LOAD makes what stands where a pointer points to
  pub loads : (ty to : ℕ) → slice_get c.flat.types ty ≡ Some (Pointer to) → IsScalar (slice_get c.flat.types to)
      → Makes ty to load (λ d t. command.Load d t)
  loads ty to shape scalar =
      record {
        quiet = λ d t. record { calm = refl; silent = λ s frame. refl };
        does_is = λ place d t made s ts v ready from may of e.
            (let g = value_is_grounded c made ty v of in
            ap (λ p. if_ok (load (beside s.store (ts ∷ c.more)) p) (goes_on c d place s ts)) e
            ∙ ap (λ r. if_ok r (goes_on c d place s ts))
            (load_alike (counts made) s.store (ts ∷ c.more) (grounded c made s ts ready) (seen s.store v) (seen_grounded (counts made) s.store v g)
            ∙ ap (λ x. if_there x (λ p. load_there s.store p)) (seen_twice s.store v)));
        gives = λ made s ts v ready of. (kept_types c set made s ts ready).loaded ty to v shape scalar of;
      }
    where
      load_there : Store → Value → Result Value Act
      load_there s p = if_place p (λ home leaf. if_there (seen s (leaf_at s home leaf)) (λ v. Ok v))

  -- MEMBER makes the pointer to a member, or to another subobject of what is pointed to
  pub members : (ty outer leaf inner ty' : ℕ) → slice_get c.flat.types ty ≡ Some (Pointer outer) → IsSubobject c.flat.types outer 1 leaf inner
      → slice_get c.flat.types ty' ≡ Some (Pointer inner) → Makes ty ty' (λ s p. member s p leaf) (λ d t. command.Member d t leaf)
  members ty outer leaf inner ty' shape sub shape' =
      record {
        quiet = λ d t. record { calm = refl; silent = λ s frame. refl };
        does_is = λ place d t made s ts v ready from may of e.
            (let g = value_is_grounded c made ty v of in
            ap (λ p. if_ok (member (beside s.store (ts ∷ c.more)) p leaf) (goes_on c d place s ts)) e
            ∙ ap (λ r. if_ok r (goes_on c d place s ts))
            (member_alike (counts made) s.store (ts ∷ c.more) (grounded c made s ts ready) (seen s.store v) leaf (seen_grounded (counts made) s.store v g)
            ∙ ap (λ x. if_there x (λ p. if_place p (λ home first. let r : Result Value Act = Ok (pointer home (first + leaf)) in r))) (seen_twice s.store v)));
        gives = λ made s ts v ready of. (kept_types c set made s ts ready).members ty outer leaf inner ty' v shape sub shape' of;
      }

  -- CAST makes the number converted to a kind
  pub casts : (ty : ℕ) (kind : Kind) → Makes ty (kind_number kind) (λ s v. if_number (seen s v) (λ z. as_value (converted kind c.under.widths z))) (λ d t. command.Cast d t)
  casts ty kind =
      record {
        quiet = λ d t. record { calm = refl; silent = λ s frame. refl };
        does_is = λ place d t made s ts v ready from may of e. cast_does c set place d t kind s ts (seen s.store v) may e;
        gives = λ made s ts v ready of. cast_gives c set made kind (seen s.store v);
      }
