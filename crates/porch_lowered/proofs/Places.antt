-- Pointers to variables and globals, and to the subobjects in them.
use Rattle.std.proofs.Common.{◌≡◌, ◌<◌, ℕ, zero, suc, ◌+◌, List, [], ◌∷◌, length, refl, ap, ◌∙◌, arith, Option, Some}
use Rattle.std.specs.Prelude.{slice_get, is_some, unwrap_or, if◌then◌else◌, Result, Ok}
use Rattle.porch_values.specs.declared.acts.Act.{Act}
use Rattle.porch_objects.specs.Store.{Home, of_global, of_call, Value, pointer, indeterminate, Object, Store, variables_in, object_at}
use Rattle.porch_objects.specs.Pointers.{if_there, if_place, member}
use Rattle.porch_objects.specs.Meaning.{Progress}
use Rattle.porch_flat.specs.declared.whole.Command.{Command}
use Rattle.porch_flat.specs.declared.whole.Command.TheVariants as command
use Rattle.porch_flat.specs.whole.Form.{form_of}
use Rattle.porch_abstract.specs.Machine.{Goes, put}
use Rattle.porch_abstract.specs.whole.Machine.{does}
use Rattle.porch_mean.specs.Outcome.{Went, and_then}
use Rattle.porch_mean.specs.Expression.{member_at}
use Rattle.porch_lowering.specs.Code.{plain, Coder}
use Rattle.porch_lowered.specs.Beside.{IsDeclared, IsGroundedStore}
use Rattle.porch_lowered.proofs.Temporaries.{IsInside, innermost_is, same_number}
use Rattle.porch_lowered.proofs.States.{IsQuiet, command_goes}
use Rattle.porch_sound.specs.Typing.{StoreTyping}
use Rattle.porch_lowered.proofs.Typed.{counts, adds_nothing}
use Rattle.porch_lowered.proofs.Codes.{Context, frame, here, IsOf, IsReady, grounded, Writes}
use Rattle.porch_lowered.proofs.Operands.{is_declared}
use Rattle.porch_lowered.proofs.Holding.{IsSetting}

-- an element that is there
get_within : (xs : List Object) (i : ℕ) → i < length xs → (o : Object) × (slice_get xs i ≡ Some o)
get_within [] i h = absurd (omega arith)
get_within (x ∷ xs) zero h = (x, refl)
get_within (x ∷ xs) (suc i) h = get_within xs i (omega arith)

-- a declared variable of the call that runs is alive
pub variable_lives : (declared : List ℕ) (call v : ℕ) (s : Store) → IsGroundedStore declared s → IsInside call s → IsDeclared declared (of_call call v)
    → (o : Object) × (object_at s (of_call call v) ≡ Some o)
variable_lives declared call v s g inside known =
    let frames = rw inside.here at g.calls in
    let count = frames.0.variables in
    let found = get_within inside.variables v (omega (arith, known, count)) in
    (found.0, ap (λ calls. slice_get (variables_in calls call) v) inside.here ∙ rw (same_number call) found.1)

-- a member of what is alive is reached
abbrev named : Option Object → Home → Value
named found home = if is_some found then pointer home 0 else indeterminate

abbrev in_it : ℕ → Value → Result Value Act
in_it leaf p = if_place p (λ home first. Ok (pointer home (first + leaf)))

pub member_of_named : (s : Store) (home : Home) (leaf : ℕ) (o : Object) → object_at s home ≡ Some o → member s (pointer home 0) leaf ≡ Ok (pointer home leaf)
member_of_named s home leaf o h =
    let sum : 0 + leaf ≡ leaf = omega arith in
    by_home home h ∙ ap (λ k. let r : Result Value Act = Ok (pointer home k) in r) sum
  where
    by_home : (home : Home) → object_at s home ≡ Some o → member s (pointer home 0) leaf ≡ Ok (pointer home (0 + leaf))
    by_home home h = ap (λ found. if_there (named found home) (in_it leaf)) h

module _ (c : Context) where
  -- A command that makes the pointer to a leaf of an object that the source names.
  pub record Names (ty : ℕ) (home : Home) (leaf : ℕ) (make : (target : ℕ) → Command) : Type 0 where
    pub value : (made : StoreTyping) (s : Progress) (ts : List Object) → IsReady c made s ts → IsOf c made ty (pointer home leaf)
    pub quiet : (d : ℕ) → IsQuiet c.flat (form_of (make d))
    pub does_is : (place d : ℕ) (made : StoreTyping) (s : Progress) (ts : List Object) → IsReady c made s ts
        → does c.flat c.under (frame c place) c.callers (form_of (make d)) (here c s ts place)
        ≡ Goes (put d (pointer home leaf) (here c s ts (place + 1)))

  -- LOCAL and GLOBALA are such
  pub local_names : (ty v leaf : ℕ)
      → ((made : StoreTyping) (s : Progress) (ts : List Object) → IsReady c made s ts → IsOf c made ty (pointer (of_call c.call v) leaf))
      → Names ty (of_call c.call v) leaf (λ d. command.Local d v leaf)
  local_names ty v leaf value =
      record {
        value = value;
        quiet = λ d. record { calm = refl; silent = λ s frame. refl };
        does_is = λ place d made s ts ready.
            ap (λ k. Goes (put d (pointer (of_call k v) leaf) (here c s ts (place + 1)))) (innermost_is c.call s.store ready.inside (ts ∷ c.more));
      }

  pub global_names : (ty g leaf : ℕ)
      → ((made : StoreTyping) (s : Progress) (ts : List Object) → IsReady c made s ts → IsOf c made ty (pointer (of_global g) leaf))
      → Names ty (of_global g) leaf (λ d. command.GlobalA d g leaf)
  global_names ty g leaf value =
      record { value = value; quiet = λ d. record { calm = refl; silent = λ s frame. refl }; does_is = λ place d made s ts ready. refl }

  -- the code of a place that is named
  abbrev pub named_code : (make : (target : ℕ) → Command) → Coder
  named_code make to used label = plain (make (unwrap_or to 0) ∷ []) used label

  pub names_write : (ty : ℕ) (home : Home) (leaf : ℕ) (make : (target : ℕ) → Command) → Names ty home leaf make
      → Writes c ty (λ s. Went (pointer home leaf) s) (named_code make)
  names_write ty home leaf make names d used label place made s ts ready may room stands =
      record {
        later = made;
        adds = adds_nothing made;
        temporaries = ts;
        onward =
            command_goes c.flat c.under c.n c.function c.into c.callers c.more (make d) place (here c s ts place) stands.0 (names.quiet d)
            (put d (pointer home leaf) (here c s ts (place + 1))) s.marks (names.does_is place d made s ts ready);
        ready = ready;
        value = names.value made s ts ready;
        kept = λ i u ne. refl;
      }

  -- also where the source reaches the object first, and then a leaf of it
  pub members_write : (ty : ℕ) (home : Home) (leaf : ℕ) (make : (target : ℕ) → Command) → Names ty home leaf make
      → ((made : StoreTyping) (s : Progress) (ts : List Object) → IsReady c made s ts → (o : Object) × (object_at s.store home ≡ Some o))
      → Writes c ty (λ s. and_then (Went (pointer home 0) s) (λ at s. member_at at leaf s)) (named_code make)
  members_write ty home leaf make names lives d used label place made s ts ready may room stands =
      let alive = lives made s ts ready in
      rw (member_of_named s.store home leaf alive.0 alive.1)
      (names_write ty home leaf make names d used label place made s ts ready may room stands)

  -- a declared variable of the call is alive
  pub local_lives : (set : IsSetting c) (v ty : ℕ) → slice_get c.variables v ≡ Some ty → (made : StoreTyping) (s : Progress) (ts : List Object) → IsReady c made s ts
      → (o : Object) × (object_at s.store (of_call c.call v) ≡ Some o)
  local_lives set v ty e made s ts ready =
      variable_lives (counts made) c.call v s.store (grounded c made s ts ready) ready.inside (is_declared c set made s ts v ty ready e)
