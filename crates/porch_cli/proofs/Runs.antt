-- Runs over bytes, step by step.
use Rattle.std.proofs.Common.{◌≡◌, ◌≤◌, ◌+◌, ◌++◌, ◌&&◌, ℕ, zero, suc, ℤ, List, [], Bool, true, false, refl, sym, ap, ◌∙◌, arith, append_assoc}
use Rattle.std.proofs.lemmas.List.{append-nil}
use Rattle.std.specs.Prelude.{if◌then◌else◌, nat_le}
use Rattle.std.specs.declared.option.Option.{Option}
use Rattle.std.specs.declared.option.Option.TheVariants.{Some, None}
use Rattle.porch_edge.specs.Streams.{Grew, Grew-twice}
use Rattle.porch_values.specs.declared.acts.Act.{Act}
use Rattle.porch_flat.specs.declared.flat.Flat.{Flat}
use Rattle.porch_machine.specs.Column.{Bytes, Setting, Column, Goes, Shows, Ends, Traps, Full, column, prepared}
use Rattle.porch_machine.specs.ByteRun.{ByteEnd, Ended, Trap, StackFull, Paused, ByteRun, run_to, then_on, counts_next}
use Rattle.porch_cli.specs.declared.status.Status.{Status}
use Rattle.porch_cli.specs.declared.status.Status.TheVariants as status
use Rattle.porch_cli.specs.Answers.{run_by, RanBytes}
use Rattle.porch_cli.specs.inside.Running.{RanPartly, RunsFlat, StepsOn, StopsHere, BreaksOff, Advances}

pub unchanged : (h : Option (List ℕ)) → Grew h h []
unchanged None = tt
unchanged (Some bytes) = sym (append-nil bytes)

module _ (flat : Flat) (on : Setting) (n : ℕ) where
  -- the next step would count a turn too many
  abbrev pub over : Bytes → Bool
  over m = counts_next flat on m.frames && nat_le n m.turns

  by_goes : (b : Bool) (x : Column) (m to : Bytes) (shown : List ℕ) (paused : Option ByteRun) (more : Bytes → List ℕ → Option ByteRun) → b ≡ false → x ≡ Goes to → (if b then paused else then_on flat on m shown x more) ≡ more to shown
  by_goes b x m to shown paused more p q = rw (p, q) refl

  by_shows : (b : Bool) (x : Column) (m to : Bytes) (bytes shown : List ℕ) (paused : Option ByteRun) (more : Bytes → List ℕ → Option ByteRun) → b ≡ false → x ≡ Shows bytes to → (if b then paused else then_on flat on m shown x more) ≡ more to (shown ++ bytes)
  by_shows b x m to bytes shown paused more p q = rw (p, q) refl

  by_ends : (b : Bool) (x : Column) (m to : Bytes) (z : ℤ) (shown : List ℕ) (paused : Option ByteRun) (more : Bytes → List ℕ → Option ByteRun) → b ≡ false → x ≡ Ends z to → (if b then paused else then_on flat on m shown x more) ≡ Some (run_by (Ended z) to.turns shown)
  by_ends b x m to z shown paused more p q = rw (p, q) refl

  by_traps : (b : Bool) (x : Column) (m : Bytes) (a : Act) (shown : List ℕ) (paused : Option ByteRun) (more : Bytes → List ℕ → Option ByteRun) → b ≡ false → x ≡ Traps a → (if b then paused else then_on flat on m shown x more) ≡ Some (run_by (Trap a) m.turns shown)
  by_traps b x m a shown paused more p q = rw (p, q) refl

  by_full : (b : Bool) (x : Column) (m : Bytes) (asked left : ℕ) (shown : List ℕ) (paused : Option ByteRun) (more : Bytes → List ℕ → Option ByteRun) → b ≡ false → x ≡ Full asked left → (if b then paused else then_on flat on m shown x more) ≡ Some (run_by (StackFull asked left) m.turns shown)
  by_full b x m asked left shown paused more p q = rw (p, q) refl

  by_over : (b : Bool) (paused other : Option ByteRun) → b ≡ true → (if b then paused else other) ≡ paused
  by_over b paused other p = rw p refl

  module _ (m : Bytes) where
    pub goes_on : (to : Bytes) → over m ≡ false → column flat on m ≡ Goes to → (k : ℕ) (shown : List ℕ) → run_to flat on n (suc k) m shown ≡ run_to flat on n k to (shown ++ [])
    goes_on to p q k shown = rw (append-nil shown) (by_goes (over m) (column flat on m) m to shown (Some (run_by Paused m.turns shown)) (λ to shown. run_to flat on n k to shown) p q)

    pub shows_on : (to : Bytes) (bytes : List ℕ) → over m ≡ false → column flat on m ≡ Shows bytes to → (k : ℕ) (shown : List ℕ) → run_to flat on n (suc k) m shown ≡ run_to flat on n k to (shown ++ bytes)
    shows_on to bytes p q k shown = by_shows (over m) (column flat on m) m to bytes shown (Some (run_by Paused m.turns shown)) (λ to shown. run_to flat on n k to shown) p q

    pub ends_here : (to : Bytes) (z : ℤ) → over m ≡ false → column flat on m ≡ Ends z to → (k : ℕ) (shown : List ℕ) → run_to flat on n (suc k) m shown ≡ Some (run_by (Ended z) to.turns shown)
    ends_here to z p q k shown = by_ends (over m) (column flat on m) m to z shown (Some (run_by Paused m.turns shown)) (λ to shown. run_to flat on n k to shown) p q

    pub traps_here : (a : Act) → over m ≡ false → column flat on m ≡ Traps a → (k : ℕ) (shown : List ℕ) → run_to flat on n (suc k) m shown ≡ Some (run_by (Trap a) m.turns shown)
    traps_here a p q k shown = by_traps (over m) (column flat on m) m a shown (Some (run_by Paused m.turns shown)) (λ to shown. run_to flat on n k to shown) p q

    pub full_here : (asked left : ℕ) → over m ≡ false → column flat on m ≡ Full asked left → (k : ℕ) (shown : List ℕ) → run_to flat on n (suc k) m shown ≡ Some (run_by (StackFull asked left) m.turns shown)
    full_here asked left p q k shown = by_full (over m) (column flat on m) m asked left shown (Some (run_by Paused m.turns shown)) (λ to shown. run_to flat on n k to shown) p q

    pub pauses_here : over m ≡ true → (k : ℕ) (shown : List ℕ) → run_to flat on n (suc k) m shown ≡ Some (run_by Paused m.turns shown)
    pauses_here p k shown = by_over (over m) (Some (run_by Paused m.turns shown)) (then_on flat on m shown (column flat on m) (λ to shown. run_to flat on n k to shown)) p

  -- A run is the same for every larger number of steps.
  longer_then : (k more : ℕ) (m : Bytes) (shown : List ℕ) (r : ByteRun) (x : Column) → ((to : Bytes) (shown : List ℕ) → run_to flat on n k to shown ≡ Some r → run_to flat on n (k + more) to shown ≡ Some r)
      → then_on flat on m shown x (λ to shown. run_to flat on n k to shown) ≡ Some r → then_on flat on m shown x (λ to shown. run_to flat on n (k + more) to shown) ≡ Some r
  longer_then k more m shown r (Goes to) f h = f to shown h
  longer_then k more m shown r (Shows bytes to) f h = f to (shown ++ bytes) h
  longer_then k more m shown r (Ends z to) f h = h
  longer_then k more m shown r (Traps a) f h = h
  longer_then k more m shown r (Full asked left) f h = h

  longer_if : (b : Bool) (paused p q r : Option ByteRun) → (q ≡ r → p ≡ r) → (if b then paused else q) ≡ r → (if b then paused else p) ≡ r
  longer_if true paused p q r f h = h
  longer_if false paused p q r f h = f h

  pub longer : (k more : ℕ) (m : Bytes) (shown : List ℕ) (r : ByteRun) → run_to flat on n k m shown ≡ Some r → run_to flat on n (k + more) m shown ≡ Some r
  longer zero more m shown r h = cc
  longer (suc k) more m shown r h =
      let same : suc k + more ≡ suc (k + more) = omega arith in
      rw same (longer_if (over m) (Some (run_by Paused m.turns shown)) (then_on flat on m shown (column flat on m) (λ to shown. run_to flat on n (k + more) to shown)) (then_on flat on m shown (column flat on m) (λ to shown. run_to flat on n k to shown)) (Some r)
      (longer_then k more m shown r (column flat on m) (λ to shown. longer k more to shown r)) h)

  -- What was shown before stays in front of the output.
  pub record Begins (shown output : List ℕ) : Type 0 where
    pub more : List ℕ
    pub is : output ≡ shown ++ more

  begun : (shown : List ℕ) (a b : ByteRun) → Some a ≡ Some b → a.output ≡ shown → Begins shown b.output
  begun shown a b e h = let same : a ≡ b = cc in record { more = []; is = sym (ap (λ (r : ByteRun). r.output) same) ∙ h ∙ sym (append-nil shown) }

  begins_behind : (shown bytes output : List ℕ) → Begins (shown ++ bytes) output → Begins shown output
  begins_behind shown bytes output b = record { more = bytes ++ b.more; is = b.is ∙ append_assoc shown bytes b.more }

  begins_then : (k : ℕ) (m : Bytes) (shown : List ℕ) (r : ByteRun) (x : Column) → ((to : Bytes) (shown : List ℕ) → run_to flat on n k to shown ≡ Some r → Begins shown r.output)
      → then_on flat on m shown x (λ to shown. run_to flat on n k to shown) ≡ Some r → Begins shown r.output
  begins_then k m shown r (Goes to) f h = f to shown h
  begins_then k m shown r (Shows bytes to) f h = begins_behind shown bytes r.output (f to (shown ++ bytes) h)
  begins_then k m shown r (Ends z to) f h = begun shown (run_by (Ended z) to.turns shown) r h refl
  begins_then k m shown r (Traps a) f h = begun shown (run_by (Trap a) m.turns shown) r h refl
  begins_then k m shown r (Full asked left) f h = begun shown (run_by (StackFull asked left) m.turns shown) r h refl

  begins_if : (b : Bool) (turns : ℕ) (shown : List ℕ) (r : ByteRun) (q : Option ByteRun) → (q ≡ Some r → Begins shown r.output) → (if b then Some (run_by Paused turns shown) else q) ≡ Some r → Begins shown r.output
  begins_if true turns shown r q f h = begun shown (run_by Paused turns shown) r h refl
  begins_if false turns shown r q f h = f h

  pub begins : (k : ℕ) (m : Bytes) (shown : List ℕ) (r : ByteRun) → run_to flat on n k m shown ≡ Some r → Begins shown r.output
  begins zero m shown r h = cc
  begins (suc k) m shown r h =
      begins_if (over m) m.turns shown r (then_on flat on m shown (column flat on m) (λ to shown. run_to flat on n k to shown)) (begins_then k m shown r (column flat on m) (λ to shown. begins k to shown r)) h

  -- The run from the start has come here: what is left is the run from here.
  pub record Came (start here : Bytes) (out out' : Option (List ℕ)) : Type 0 where
    pub steps : ℕ
    pub shown : List ℕ
    pub grew : Grew out out' shown
    pub same : (k : ℕ) → run_to flat on n (steps + k) start [] ≡ run_to flat on n k here shown

  pub came_nowhere : (start : Bytes) (out : Option (List ℕ)) → Came start start out out
  came_nowhere start out = record { steps = 0; shown = []; grew = unchanged out; same = λ k. let e : 0 + k ≡ k = omega arith in rw e refl }

  pub came_on : (start m m' : Bytes) (h h' h'' : Option (List ℕ)) → Came start m h h' → StepsOn flat on n m m' h' h'' → Came start m' h h''
  came_on start m m' h h' h'' c s = record {
    steps = c.steps + 1;
    shown = c.shown ++ s.more;
    grew = Grew-twice h h' h'' c.shown s.more c.grew s.grew;
    same = λ k. let e : c.steps + 1 + k ≡ c.steps + suc k = omega arith in rw e (c.same (suc k) ∙ s.goes k c.shown);
  }

  stopped : (m : Bytes) (h h' h'' : Option (List ℕ)) (ending : ByteEnd) (turns : ℕ) → Came (prepared flat on) m h h' → StopsHere flat on n m h' h'' ending turns → RanBytes flat on n h h'' ending turns
  stopped m h h' h'' ending turns c s = record {
    output = c.shown;
    run = record { steps = c.steps + 1; ends = c.same 1 ∙ s.ends 0 c.shown };
    grew = rw (append-nil c.shown) at (Grew-twice h h' h'' c.shown [] c.grew s.grew);
  }

  broken : (m : Bytes) (h h' h'' : Option (List ℕ)) (f f' f'' : ℕ) → f ≤ f' → Came (prepared flat on) m h h' → BreaksOff flat on n m h' h'' f' f'' → RanPartly flat on n h h'' f f''
  broken m h h' h'' f f' f'' le c b = record {
    rose = grind (arith, b.rose);
    part = λ r run.
        let long = longer run.steps (c.steps + 1) (prepared flat on) [] r run.ends in
        let e : run.steps + (c.steps + 1) ≡ c.steps + suc run.steps = omega arith in
        let here = sym (c.same (suc run.steps) ∙ b.goes run.steps c.shown) ∙ rw e at long in
        let front = begins run.steps b.next (c.shown ++ b.bytes) r here in
        record {
          more = c.shown ++ b.grew.more;
          missing = b.grew.missing ++ front.more;
          split = front.is ∙ ap (λ (x : List ℕ). (c.shown ++ x) ++ front.more) b.grew.split ∙ simp append_assoc;
          grew = Grew-twice h h' h'' c.shown b.grew.more c.grew b.grew.grew;
        };
  }

  -- what the run answers where a step ends it
  pub runs_over : (m m' : Bytes) (h h' h'' : Option (List ℕ)) (f f' f'' : ℕ) (s : Status) → f ≤ f' → Came (prepared flat on) m h h' → Advances flat on n m m' h' h'' f' f'' (Some s) → RunsFlat flat on n h h'' f f'' s
  runs_over m m' h h' h'' f f' f'' (status.Done value turns) le c a = stopped m h h' h'' (Ended value) turns c a
  runs_over m m' h h' h'' f f' f'' (status.Trap act turns) le c a = stopped m h h' h'' (Trap act) turns c a
  runs_over m m' h h' h'' f f' f'' (status.Paused turns) le c a = stopped m h h' h'' Paused turns c a
  runs_over m m' h h' h'' f f' f'' (status.StackFull asked left) le c a = (a.0, stopped m h h' h'' (StackFull asked left) a.0 c a.1)
  runs_over m m' h h' h'' f f' f'' status.WriteFault le c a = broken m h h' h'' f f' f'' le c a
  runs_over m m' h h' h'' f f' f'' status.Usage le c a = absurd a
  runs_over m m' h h' h'' f f' f'' (status.Refused r) le c a = absurd a
  runs_over m m' h h' h'' f f' f'' status.Unbuilt le c a = absurd a
  runs_over m m' h h' h'' f f' f'' (status.BadLayout key rule) le c a = absurd a
  runs_over m m' h h' h'' f f' f'' status.DiskFault le c a = absurd a
  runs_over m m' h h' h'' f f' f'' status.ReadFault le c a = absurd a
  runs_over m m' h h' h'' f f' f'' status.NoMemory le c a = absurd a
