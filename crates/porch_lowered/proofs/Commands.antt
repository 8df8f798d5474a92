-- One command that makes a value, and a value that is converted where it has to be.
use Rattle.std.proofs.Common.{◌≡◌, ◌<◌, ◌≤◌, ℕ, ◌+◌, ℤ, List, [], ◌∷◌, length, refl, sym, ap, subst, ◌∙◌, inl, arith, Bool, true, false, Some, None}
use Rattle.std.specs.Prelude.{slice_get, Result, Ok, Err}
use Rattle.porch_types.specs.declared.shapes.Kind.{Kind}
use Rattle.porch_types.specs.Kinds.{kind_number}
use Rattle.porch_values.specs.declared.acts.Act.{Act}
use Rattle.porch_values.specs.Integers.{converted}
use Rattle.porch_objects.specs.Store.{Value, number, null, pointer, past, indeterminate, Object, seen}
use Rattle.porch_objects.specs.Pointers.{if_number}
use Rattle.porch_objects.specs.Meaning.{Progress}
use Rattle.porch_flat.specs.declared.flat.Operand.{Operand}
use Rattle.porch_flat.specs.declared.flat.Operand.TheVariants.{Var, Constant}
use Rattle.porch_flat.specs.declared.whole.Command.{Command}
use Rattle.porch_flat.specs.declared.whole.Command.TheVariants as command
use Rattle.porch_flat.specs.Parts.{kind_of}
use Rattle.porch_flat.specs.whole.Form.{form_of}
use Rattle.porch_flat.specs.whole.Places.{type_at}
use Rattle.porch_abstract.specs.Machine.{State, Next, Goes, put, counted, resulted}
use Rattle.porch_abstract.specs.whole.Machine.{if_ok, does, kind_in, variable_of}
use Rattle.porch_mean.specs.Outcome.{Went, with_result}
use Rattle.porch_mean.specs.Operators.{as_value}
use Rattle.porch_mean.specs.Operators as meaning
use Rattle.porch_lowering.specs.Code.{InUse}
use Rattle.porch_lowering.specs.Operators.{var_of, commands_if, used_if, operand_if, next_of}
use Rattle.porch_sound.specs.Typing.{StoreTyping}
use Rattle.porch_sound.specs.Laws.{Gives}
use Rattle.porch_lowered.proofs.Typed.{adds_nothing}
use Rattle.porch_lowered.proofs.Runs.{stays}
use Rattle.porch_lowered.proofs.Follows.{follows_result}
use Rattle.porch_lowered.proofs.Temporaries.{with_temporary}
use Rattle.porch_lowered.proofs.States.{Stands, IsQuiet, command_goes, command_meets}
use Rattle.porch_lowered.proofs.Codes.{Context, commands, frame, here, goes_on, IsOf, On, Follow, Keeps, IsReady, MayGo, Arrives}
use Rattle.porch_lowered.proofs.Holding.{IsSetting, put_temporary, ready_with, IsNext, next_is, next_keeps, next_holds, one_is_used}
use Rattle.porch_lowered.proofs.Operands.{IsOperand, variable_is}
use Rattle.porch_lowered.proofs.Conversions.{convert}

by_conversion : (r : Result ℤ Act) (go : Value → Next) → resulted r (λ z. go (number z)) ≡ if_ok (as_value r) go
by_conversion (Ok z) go = refl
by_conversion (Err a) go = refl

-- a number that is there is made into another
pub counted_alike : (x : Value) (r : ℤ → Result ℤ Act) (go : Value → Next)
    → counted x (λ z. resulted (r z) (λ z. go (number z))) ≡ if_ok (if_number x (λ z. as_value (r z))) go
counted_alike (number z) r go = by_conversion (r z) go
counted_alike null r go = refl
counted_alike (pointer home leaf) r go = refl
counted_alike (past home leaf until) r go = refl
counted_alike indeterminate r go = refl

module _ (c : Context) where
  -- The command makes what a result gives, or meets its act.
  pub command_follows : (ty d place : ℕ) (x : Command) (made : StoreTyping) (s : Progress) (ts : List Object) (used : InUse) (r : Result Value Act)
      → IsReady c made s ts → slice_get (commands c) place ≡ Some x → IsQuiet c.flat (form_of x)
      → does c.flat c.under (frame c place) c.callers (form_of x) (here c s ts place) ≡ if_ok r (λ w. Goes (put d w (here c s ts (place + 1))))
      → Gives (IsOf c made ty) r
      → Follow c (with_result r s (λ w s. Went w s)) (here c s ts place) s.marks
      (Arrives c ty made (Some d) used ts (here c s ts place) s.marks (place + 1))
  command_follows ty d place x made s ts used r ready stands quiet effect gives =
      follows_result c.flat c.under c.n r s (λ w s. Went w s) (here c s ts place) s.marks _
      (λ w e.
      record {
        later = made;
        adds = adds_nothing made;
        temporaries = ts;
        onward =
            command_goes c.flat c.under c.n c.function c.into c.callers c.more x place (here c s ts place) stands quiet
            (put d w (here c s ts (place + 1))) s.marks (effect ∙ ap (λ r. if_ok r (λ w. Goes (put d w (here c s ts (place + 1))))) e);
        ready = ready;
        value = subst (λ r. Gives (IsOf c made ty) r) e gives;
        kept = λ i u ne. refl;
      })
      (λ a e.
      record {
        last = here c s ts place;
        runs =
            command_meets c.flat c.under c.n c.function c.into c.callers c.more x place (here c s ts place) stands quiet a s.marks
            (effect ∙ ap (λ r. if_ok r (λ w. Goes (put d w (here c s ts (place + 1))))) e);
        output = refl;
        turns = refl;
      })

  -- CAST
  pub cast_does : (set : IsSetting c) (place t x : ℕ) (kind : Kind) (s : Progress) (ts : List Object) (w : Value) → MayGo c (kind_number kind) (Some t)
      → variable_of x (here c s ts place) ≡ w
      → does c.flat c.under (frame c place) c.callers (form_of (command.Cast t x)) (here c s ts place)
      ≡ if_ok (if_number w (λ z. as_value (converted kind c.under.widths z))) (λ w. Goes (put t w (here c s ts (place + 1))))
  cast_does set place t x kind s ts w may e =
      ap (λ w. counted w (λ z. resulted (converted (kind_in c.flat (frame c place) t) c.under.widths z) (λ z. goes_on c t place s ts (number z)))) e
      ∙ ap (λ k. counted w (λ z. resulted (converted k c.under.widths z) (λ z. goes_on c t place s ts (number z))))
      (ap (λ ty. kind_of (type_at c.flat ty)) (may place) ∙ ap (λ shape. kind_of shape) (set.kinds kind))
      ∙ counted_alike w (λ z. converted kind c.under.widths z) (goes_on c t place s ts)

  pub cast_gives : (set : IsSetting c) (made : StoreTyping) (kind : Kind) (w : Value) → Gives (IsOf c made (kind_number kind)) (if_number w (λ z. as_value (converted kind c.under.widths z)))
  cast_gives set made kind (number z) = by (converted kind c.under.widths z) refl
    where
      by : (r : Result ℤ Act) → converted kind c.under.widths z ≡ r → Gives (IsOf c made (kind_number kind)) (as_value r)
      by (Ok w) e = (kind, set.kinds kind, set.converts kind z w e)
      by (Err a) e = tt
  cast_gives set made kind null = tt
  cast_gives set made kind (pointer home leaf) = tt
  cast_gives set made kind (past home leaf until) = tt
  cast_gives set made kind indeterminate = tt

  pub cast_follows : (set : IsSetting c) (ty d place x : ℕ) (kind : Kind) (made : StoreTyping) (s : Progress) (ts : List Object) (used : InUse) (v : Value)
      → IsReady c made s ts → IsOperand c ty used s ts (Var x) v → IsOf c made ty v → MayGo c (kind_number kind) (Some d)
      → slice_get (commands c) place ≡ Some (command.Cast d x)
      → Follow c (with_result (if_number (seen s.store v) (λ z. as_value (converted kind c.under.widths z))) s (λ w s. Went w s)) (here c s ts place) s.marks
      (Arrives c (kind_number kind) made (Some d) used ts (here c s ts place) s.marks (place + 1))
  cast_follows set ty d place x kind made s ts used v ready operand of may stands =
      command_follows (kind_number kind) d place (command.Cast d x) made s ts used _ ready stands (record { calm = refl; silent = λ s frame. refl })
      (cast_does set place d x kind s ts (seen s.store v) may (variable_is c set made s ts place ty x used v ready operand of))
      (cast_gives set made kind (seen s.store v))

  -- An operand is converted to a kind where it has to be; what comes then has the converted one.
  pub record IsConverted (kind : Kind) (made : StoreTyping) (used used' : InUse) (from : List Object) (s : Progress) (near : State) (place : ℕ) (o : Operand) (x : Value) : Type 0 where
    pub temporaries : List Object
    pub onward : On c near s.marks (here c s temporaries place) s.marks
    pub ready : IsReady c made s temporaries
    pub kept : Keeps c None used from temporaries
    pub value : Value
    pub is : seen s.store value ≡ x
    pub operand : IsOperand c (kind_number kind) used' s temporaries o value
    pub of : IsOf c made (kind_number kind) value

  pub convert_follows : (set : IsSetting c) (converts : Bool) (kind : Kind) (ty place : ℕ) (made : StoreTyping) (s : Progress) (ts : List Object) (used : InUse)
      (o : Operand) (v : Value) (near : Value → Progress → Type 0) (rest : Value → Result Value Act)
      → IsReady c made s ts → IsOperand c ty used s ts o v → IsOf c made ty v
      → (converts ≡ true → (x : ℕ) × (o ≡ Var x))
      → (converts ≡ false → IsOperand c (kind_number kind) used s ts o v × IsOf c made (kind_number kind) v)
      → (converts ≡ true → used (kind_number kind) < c.pools (kind_number kind)) → ((t : ℕ) → used t ≤ c.pools t)
      → Stands (commands c) place (commands_if converts (command.Cast (next_of c.start (kind_number kind) used) (var_of o) ∷ []))
      → ((x : Value) → IsConverted kind made used (used_if converts used (kind_number kind)) ts s (here c s ts place)
      (place + length (commands_if converts (command.Cast (next_of c.start (kind_number kind) used) (var_of o) ∷ [])))
      (operand_if converts (next_of c.start (kind_number kind) used) o) x
      → Follow c (with_result (rest x) s (λ w s. Went w s)) (here c s ts place) s.marks near)
      → Follow c (with_result (meaning.if_ok (convert converts (λ z. converted kind c.under.widths z) (seen s.store v)) rest) s (λ w s. Went w s)) (here c s ts place) s.marks near
  convert_follows set false kind ty place made s ts used o v near rest ready operand of is_var same room roomy stands k =
      let e : place + 0 ≡ place = omega arith in
      let kept = same refl in
      k (seen s.store v) (record {
        temporaries = ts;
        onward = rw e (stays c.flat c.under c.n (here c s ts place) s.marks);
        ready = ready;
        kept = λ i u ne. refl;
        value = v;
        is = refl;
        operand = kept.0;
        of = kept.1;
      })
  convert_follows set true kind ty place made s ts used (Constant z) v near rest ready operand of is_var same room roomy stands k =
      let x = is_var refl in cc
  convert_follows set true kind ty place made s ts used (Var x) v near rest ready operand of is_var same room roomy stands k =
      let to = kind_number kind in
      let t = next_of c.start to used in
      let next = next_is c set to used (room refl) in
      let may : MayGo c to (Some t) = λ place. set.types to (used to) place (room refl) in
      by_result (if_number (seen s.store v) (λ z. as_value (converted kind c.under.widths z))) refl next may
    where
      by_result : (r : Result Value Act) → if_number (seen s.store v) (λ z. as_value (converted kind c.under.widths z)) ≡ r
          → (next : IsNext c set (kind_number kind) used) → MayGo c (kind_number kind) (Some (next_of c.start (kind_number kind) used))
          → Follow c (with_result (meaning.if_ok r rest) s (λ w s. Went w s)) (here c s ts place) s.marks near
      by_result (Ok w) e next may =
          let effect = cast_does set place (next_of c.start (kind_number kind) used) x kind s ts (seen s.store v) may (variable_is c set made s ts place ty x used v ready operand of) in
          let gives : IsOf c made (kind_number kind) w = subst (λ r. Gives (IsOf c made (kind_number kind)) r) e (cast_gives set made kind (seen s.store v)) in
          let behind = with_temporary ts next.index w in
          let holds = next_holds c set (kind_number kind) used next made s ts w ready in
          let there = by_number (seen s.store v) w e in
          k w (record {
            temporaries = behind;
            onward =
                (let step =
                command_goes c.flat c.under c.n c.function c.into c.callers c.more (command.Cast (next_of c.start (kind_number kind) used) x) place (here c s ts place) stands.0
                (record { calm = refl; silent = λ s frame. refl }) (put (next_of c.start (kind_number kind) used) w (here c s ts (place + 1))) s.marks
                (effect ∙ ap (λ r. if_ok r (λ w. Goes (put (next_of c.start (kind_number kind) used) w (here c s ts (place + 1))))) e) in
                rw (put_temporary c set made s ts (place + 1) next.index (next_of c.start (kind_number kind) used) w ready next.number) at step);
            ready = ready_with c set made s ts next.index w ready;
            kept = next_keeps c set (kind_number kind) used next ts w roomy;
            value = w;
            is = there;
            operand =
                inl (record {
                  of_type = may;
                  index = next.index;
                  number = next.number;
                  is_used = record { ty = kind_number kind; index = used (kind_number kind); less = one_is_used c set (kind_number kind) used; number = sym next.number };
                  holds = holds;
                });
            of = gives;
          })
        where
          by_converted : (r : Result ℤ Act) (w : Value) → as_value r ≡ Ok w → seen s.store w ≡ w
          by_converted (Ok z) w e = (let same : number z ≡ w = cc in subst (λ w. seen s.store w ≡ w) same refl)
          by_converted (Err a) w e = cc

          by_number : (x w : Value) → if_number x (λ z. as_value (converted kind c.under.widths z)) ≡ Ok w → seen s.store w ≡ w
          by_number (number z) w e = by_converted (converted kind c.under.widths z) w e
          by_number null w e = cc
          by_number (pointer home leaf) w e = cc
          by_number (past home leaf until) w e = cc
          by_number indeterminate w e = cc
      by_result (Err a) e next may =
          let effect = cast_does set place (next_of c.start (kind_number kind) used) x kind s ts (seen s.store v) may (variable_is c set made s ts place ty x used v ready operand of) in
          record {
            last = here c s ts place;
            runs =
                command_meets c.flat c.under c.n c.function c.into c.callers c.more (command.Cast (next_of c.start (kind_number kind) used) x) place (here c s ts place) stands.0
                (record { calm = refl; silent = λ s frame. refl }) a s.marks
                (effect ∙ ap (λ r. if_ok r (λ w. Goes (put (next_of c.start (kind_number kind) used) w (here c s ts (place + 1))))) e);
            output = refl;
            turns = refl;
          }
