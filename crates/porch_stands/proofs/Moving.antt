-- A step that only goes to another place of its function.
use Rattle.std.proofs.Common.{◌≡◌, ◌<◌, ◌≤◌, ℕ, ◌+◌, List, [], ◌∷◌, length, refl, sym, ap, subst, ◌∙◌, arith, Option, Some, None}
use Rattle.std.specs.Prelude.{slice_get, unwrap_or}
use Rattle.std.proofs.lemmas.Option.{slice_get_within}
use Rattle.std.proofs.lemmas.List.Quantifiers.{position-Some}
use Rattle.porch_objects.specs.Meaning.{Environment}
use Rattle.porch_objects.specs.Store.{Home, of_global, of_call, of_block, Object, Activation, Store, object_at, reached_one}
use Rattle.porch_flat.specs.declared.whole.Command.{Command}
use Rattle.porch_flat.specs.declared.whole.Command.TheVariants as command
use Rattle.porch_flat.specs.declared.whole.Flat.{Flat}
use Rattle.porch_flat.specs.whole.Form as form
use Rattle.porch_flat.specs.whole.Form.{Form, form_of, label_of}
use Rattle.porch_flat.specs.whole.Places.{is_number, place_of_label, commands_of}
use Rattle.porch_abstract.specs.Machine as abstract
use Rattle.porch_abstract.specs.whole.Machine as whole
use Rattle.porch_bytes.specs.State.{Setting, Frame, Phase, running, State, frames_of}
use Rattle.porch_bytes.specs.Column as column
use Rattle.porch_bytes.specs.Column.{Next, Goes, next, next_in, after, does, code_of}
use Rattle.porch_bytes.specs.Fits.{AreFrames}
use Rattle.porch_bytes.specs.StandsFor.{AreFramesOf, IsPhaseOf, WasMade}
use Rattle.porch_stands.specs.Follows.{IsStoodFor, Follows, TouchesNone, StepsFollow}
use Rattle.porch_stands.proofs.Later.{IsLater, leaf_later}

-- the place of a label lies in the code
label_within : (commands : List Command) (n : ℕ) (x : Option ℕ) → place_of_label commands n ≡ x → unwrap_or x (length commands) ≤ length commands
label_within commands n None e = omega arith
label_within commands n (Some to) e =
    omega (arith, (position-Some (λ (c : Command). is_number n (label_of (form_of c))) commands to command.Turn e).0)

frames_kept : (flat : Flat) (on : Setting) (f : Frame) (place : ℕ) (fs : List Frame) → place ≤ length (code_of flat on f.function) → AreFrames flat on (f ∷ fs)
    → AreFrames flat on (record f { next = place } ∷ fs)
frames_kept flat on f place [] few h = (record { function_within = h.0.function_within; next_within = few; at_is = h.0.at_is; fits = h.0.fits }, h.1, h.2)
frames_kept flat on f place (g ∷ fs) few h = (
  record { function_within = h.0.function_within; next_within = few; at_is = h.0.at_is; fits = h.0.fits },
  record { place = h.1.place; arguments = h.1.arguments; command_is = h.1.command_is; next_is = h.1.next_is },
  h.2,
)

frames_moved : (flat : Flat) (on : Setting) (address : Home → ℕ) (f : Frame) (fs : List Frame) (g : abstract.Frame) (gs : List abstract.Frame) (calls : List Activation) (place to : ℕ)
    → place ≡ to → AreFramesOf flat on address (f ∷ fs) (g ∷ gs) calls
    → AreFramesOf flat on address (record f { next = place } ∷ fs) (record { function = g.function; next = to; into = g.into } ∷ gs) calls
frames_moved flat on address f fs g gs [] place to same h = absurd h
frames_moved flat on address f fs g gs (call ∷ calls) place to same h = (
  record {
    function_is = h.0.function_is;
    next_is = same;
    into_is = h.0.into_is;
    roots_are = h.0.roots_are;
    places_are = h.0.places_are;
  },
  h.1,
)

-- one more checkpoint() is reached
reached_later : (s : Store) → IsLater s (reached_one s)
reached_later s = record { made = same_made; lived = still; reached = omega arith }
  where
    same_made : (home : Home) → WasMade s home → WasMade (reached_one s) home
    same_made (of_global g) h = h
    same_made (of_call c v) h = h
    same_made (of_block b) h = h

    still : (home : Home) (o : Object) → WasMade s home → object_at (reached_one s) home ≡ Some o → (p : Object) × (object_at s home ≡ Some p) × (p.root ≡ o.root)
    still (of_global g) o made e = (o, e, refl)
    still (of_call c v) o made e = (o, e, refl)
    still (of_block b) o made e = (o, e, refl)

module _ (flat : Flat) (on : Setting) (under : Environment) (m : State) (s : abstract.State) (h : IsStoodFor flat on under.widths m s) where
  reached : IsStoodFor flat on under.widths m (abstract.with_store s (reached_one s.store))
  reached = record {
    fits = h.fits;
    bytes = h.bytes;
    stands = record {
      turns_are = h.stands.turns_are;
      address = h.stands.address;
      frames_are = h.stands.frames_are;
      calls_are = h.stands.calls_are;
      globals_are = h.stands.globals_are;
      global_places = h.stands.global_places;
      blocks_are = h.stands.blocks_are;
      blocks_live = λ block among. (let b = h.stands.blocks_live block among in
          (b.0, b.1, record { type_is = b.2.type_is; count_is = b.2.count_is; place_is = b.2.place_is }));
      blocks_have = λ allocation has. (let b = h.stands.blocks_have allocation has in
          (b.0, b.1, record { type_is = b.2.type_is; count_is = b.2.count_is; place_is = b.2.place_is }));
      objects_are = λ home object e. (let o = h.stands.objects_are home object (same_object home object e) in record {
        count_is = o.count_is;
        leaves_are = λ leaf v e. leaf_later flat on h.stands.address s.store (reached_one s.store) (reached_later s.store) under.widths _ v _ (o.leaves_are leaf v e);
      });
      apart = λ home other a b e g ne. h.stands.apart home other a b (same_object home a e) (same_object other b g) ne;
    };
  }
    where
      same_object : (home : Home) (o : Object) → object_at (reached_one s.store) home ≡ Some o → object_at s.store home ≡ Some o
      same_object (of_global g) o e = e
      same_object (of_call c v) o e = e
      same_object (of_block b) o e = e

  module _ (f : Frame) (fs : List Frame) (g : abstract.Frame) (gs : List abstract.Frame) (mp : m.phase ≡ running f fs) (sp : s.phase ≡ abstract.running g gs) where
    frames : AreFramesOf flat on h.stands.address (f ∷ fs) (g ∷ gs) s.store.calls
    frames =
        subst (λ (q : abstract.Phase). IsPhaseOf flat on h.stands.address (running f fs) q s.store.calls) sp
        (subst (λ (p : Phase). IsPhaseOf flat on h.stands.address p s.phase s.store.calls) mp h.stands.frames_are)

    -- both are at another place of their function, after as many turns
    pub moved : (place to t u : ℕ) → place ≡ to → t ≡ u → place ≤ length (code_of flat on f.function)
        → IsStoodFor flat on under.widths
        (record { memory = m.memory; phase = running (record f { next = place }) fs; blocks = m.blocks; turns = t; shown = m.shown; mode = m.mode })
        (record { phase = abstract.running (record { function = g.function; next = to; into = g.into }) gs; store = s.store; output = s.output; turns = u; taken = s.taken })
    moved place to t u same turns few = record {
      fits = record {
        allowed = h.fits.allowed;
        memory_is = h.fits.memory_is;
        frames_are = frames_kept flat on f place fs few (subst (λ (p : Phase). AreFrames flat on (frames_of p)) mp h.fits.frames_are);
        heap_is = h.fits.heap_is;
        blocks_are = h.fits.blocks_are;
      };
      bytes = h.bytes;
      stands = record {
        turns_are = turns;
        address = h.stands.address;
        frames_are = frames_moved flat on h.stands.address f fs g gs s.store.calls place to same frames;
        calls_are = h.stands.calls_are;
        globals_are = h.stands.globals_are;
        global_places = h.stands.global_places;
        blocks_are = h.stands.blocks_are;
        blocks_live = h.stands.blocks_live;
        blocks_have = h.stands.blocks_have;
        objects_are = h.stands.objects_are;
        apart = h.stands.apart;
      };
    }

-- the innermost frames are at one place of one function
heads : (flat : Flat) (on : Setting) (address : Home → ℕ) (f : Frame) (fs : List Frame) (g : abstract.Frame) (gs : List abstract.Frame) (calls : List Activation)
    → AreFramesOf flat on address (f ∷ fs) (g ∷ gs) calls → (f.function ≡ g.function) × (f.next ≡ g.next)
heads flat on address f fs g gs [] h = absurd h
heads flat on address f fs g gs (call ∷ calls) h = (h.0.function_is, h.0.next_is)

module _ (flat : Flat) (on : Setting) (under : Environment) (m : State) (s : abstract.State) (h : IsStoodFor flat on under.widths m s) (f : Frame) (fs : List Frame) (mp : m.phase ≡ running f fs)
    (few : f.next < length (code_of flat on f.function)) where
  module _ (g : abstract.Frame) (gs : List abstract.Frame) (sp : s.phase ≡ abstract.running g gs) where
    both : (f.function ≡ g.function) × (f.next ≡ g.next)
    both = heads flat on h.stands.address f fs g gs s.store.calls (frames flat on under m s h f fs g gs mp sp)

    behind : f.next + 1 ≡ g.next + 1
    behind = ap (λ (n : ℕ). n + 1) both.1

    onward : Follows flat on under.widths s.output (Goes (column.onward flat on f fs m)) (whole.onward flat under g gs s)
    onward = record { stood_for = moved flat on under m s h f fs g gs mp sp (f.next + 1) (g.next + 1) m.turns s.turns behind h.stands.turns_are (omega (arith, few)); output_is = refl }

    jumps : (n : ℕ) → Follows flat on under.widths s.output (Goes (column.at_label flat on f fs n m)) (whole.at_label flat under g gs n s)
    jumps n =
        let target = λ (function : ℕ). unwrap_or (place_of_label (commands_of (slice_get flat.functions function)) n) (length (commands_of (slice_get flat.functions function))) in
        record {
          stood_for =
              moved flat on under m s h f fs g gs mp sp (target f.function) (target g.function) m.turns s.turns (ap target both.0) h.stands.turns_are
              (label_within (code_of flat on f.function) n (place_of_label (code_of flat on f.function) n) refl);
          output_is = refl;
        }

    by_form : (c : Form) → TouchesNone c → Follows flat on under.widths s.output (does flat on f fs c m) (whole.does flat under g gs c s)
    by_form (form.label n) t = onward
    by_form (form.jump n) t = jumps n
    by_form form.turn t = record {
      stood_for = moved flat on under m s h f fs g gs mp sp (f.next + 1) (g.next + 1) (m.turns + 1) (s.turns + 1) behind (ap (λ (n : ℕ). n + 1) h.stands.turns_are) (omega (arith, few));
      output_is = refl;
    }
    by_form form.checkpoint t = record {
      stood_for =
          moved flat on under m (abstract.with_store s (reached_one s.store)) (reached flat on under m s h) f fs g gs mp sp (f.next + 1) (g.next + 1) m.turns s.turns behind
          h.stands.turns_are (omega (arith, few));
      output_is = refl;
    }
    by_form (form.restore vs) t = onward
    by_form (form.table k n) t = onward
    by_form (form.saved k n) t = onward
    by_form (form.push vs) t = onward
    by_form (form.move v o) t = absurd t
    by_form (form.cast v w) t = absurd t
    by_form (form.operator op v a b) t = absurd t
    by_form (form.complement v o) t = absurd t
    by_form (form.comparison c v a b) t = absurd t
    by_form (form.subobject v within leaf) t = absurd t
    by_form (form.step way v p o) t = absurd t
    by_form (form.difference v p q) t = absurd t
    by_form (form.load v p) t = absurd t
    by_form (form.store p o) t = absurd t
    by_form (form.copy p q) t = absurd t
    by_form (form.kill v) t = absurd t
    by_form (form.allocate zeros v o) t = absurd t
    by_form (form.free p) t = absurd t
    by_form (form.show how v o) t = absurd t
    by_form (form.text v p) t = absurd t
    by_form (form.branch o n) t = absurd t
    by_form (form.call into function os) t = absurd t
    by_form (form.return o) t = absurd t

    by_command : (c : Command) → slice_get (code_of flat on f.function) f.next ≡ Some c → TouchesNone (form_of c)
        → Follows flat on under.widths s.output (next_in flat on (running f fs) m) (whole.next_in flat under (abstract.running g gs) s)
    by_command c e t =
        let k : slice_get (whole.code_of flat g) g.next ≡ Some c =
        ap (λ (function : ℕ). slice_get (commands_of (slice_get flat.functions function)) g.next) (sym both.0) ∙ ap (λ (at : ℕ). slice_get (code_of flat on f.function) at) (sym both.1) ∙ e in
        subst (λ (x : Option Command). Follows flat on under.widths s.output (after flat on f fs x m) (whole.next_in flat under (abstract.running g gs) s)) (sym e)
        (subst (λ (x : Option Command). Follows flat on under.widths s.output (after flat on f fs (Some c) m) (whole.after flat under g gs x s)) (sym k) (by_form (form_of c) t))

  by_phase : (c : Command) → slice_get (code_of flat on f.function) f.next ≡ Some c → TouchesNone (form_of c) → (q : abstract.Phase) → s.phase ≡ q
      → IsPhaseOf flat on h.stands.address (running f fs) q s.store.calls → Follows flat on under.widths s.output (next_in flat on (running f fs) m) (whole.next_in flat under q s)
  by_phase c e t abstract.before sp p = absurd p
  by_phase c e t (abstract.running g gs) sp p = by_command g gs sp c e t
  by_phase c e t abstract.over sp p = absurd p

pub steps_follow : StepsFollow
steps_follow flat on under m s f fs c h mp e t =
    subst (λ (p : Phase). Follows flat on under.widths s.output (next_in flat on p m) (whole.next flat under s)) (sym mp)
    (by_phase flat on under m s h f fs mp (slice_get_within (code_of flat on f.function) f.next c e) c e t s.phase refl
    (subst (λ (p : Phase). IsPhaseOf flat on h.stands.address p s.phase s.store.calls) mp h.stands.frames_are))
